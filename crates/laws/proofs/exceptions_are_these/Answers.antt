-- The exceptions and conditions of the promises.
-- Rests on Exceptions.
use Rattle.std.proofs.Common.{refl}
use Rattle.laws.proofs.Exceptions.{cycles_meant, events_meant, levels_meant, flag_moves_meant, words_meant, own_means}
use Rattle.laws.proofs.exceptions_are_these.Goals as goal

pub returns : goal.returns
returns c = record {
  cycles = cycles_meant;
  events = events_meant;
  levels = levels_meant;
  flags = flag_moves_meant;
  words = words_meant;
  addresses = own_means;
  earlier = refl;
  later = refl;
}
