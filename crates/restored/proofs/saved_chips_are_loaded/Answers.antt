-- Which chip is loaded from which bytes.
-- Rests on Restoring.
use Rattle.restored.proofs.Restoring.{loads_told, told_by_load, loads_none, loads_other_length, loads_back}
use Rattle.restored.proofs.saved_chips_are_loaded.Goals as goal

pub returns : goal.returns
returns c = record {
  loaded = λ l c bytes. (told_by_load l bytes c, loads_told l bytes c);
  none = loads_none;
  other_length = loads_other_length;
  back = loads_back;
}
