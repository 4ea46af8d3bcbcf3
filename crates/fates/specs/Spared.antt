-- The fates of a byte that is not lost, by name.
use Rattle.fates.specs.Bytes.{Fate, handed_over, cleared, struck, waiting}

-- It was handed over, cleared by a reset or a mode word, or struck by a program, or it still waits.
pub data Spared : Fate → Type 0 where
  was_handed_over : Spared handed_over
  was_cleared : Spared cleared
  was_struck : Spared struck
  still_waits : Spared waiting
