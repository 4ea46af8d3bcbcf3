-- Each card of a rack is a chip alone, at each event and over any history.
-- Rests on Followed and Projected.
use Rattle.std.proofs.Common.{subst}
use Rattle.racklaws.specs.Promise.{rack_stepped, Reached}
use Rattle.racklaws.proofs.Followed.{followed}
use Rattle.racklaws.proofs.Projected.{whole_over, bases_over, bus_over_lem, card_over}
use Rattle.racklaws.proofs.each_card_is_a_chip_alone.Goals as goal

pub returns : goal.returns
returns c = record {
  event = followed;
  others = λ r whole e i own reaches. (subst (Reached r (rack_stepped r e)) reaches (followed r whole e).reached).others;
  history = λ r whole es. record {
    whole = whole_over r whole es;
    bases = bases_over r whole es;
    bus = bus_over_lem r whole es;
    card = card_over r whole es;
  };
}
