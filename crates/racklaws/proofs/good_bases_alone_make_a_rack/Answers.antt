-- Which bases make a rack, and what rack; and the number of each building.
-- Rests on Building and Built.
use Rattle.std.proofs.Common.{ap}
use Rattle.bus.specs.Answers.{number_told}
use Rattle.rack.specs.Answers.{bad_rack_told}
use Rattle.racklaws.proofs.Building.{built_good, built_bad}
use Rattle.racklaws.proofs.Built.{built_bases, built_chip}
use Rattle.racklaws.proofs.good_bases_alone_make_a_rack.Goals as goal

pub returns : goal.returns
returns c = record {
  good = built_good;
  others = built_bad;
  accepted = λ bs good. ap (number_told bad_rack_told) (built_good bs good);
  refused = λ bs bad. ap (number_told bad_rack_told) (built_bad bs bad);
  built = λ bs few. record { bases = built_bases bs few; cards = built_chip bs few };
}
