-- The words that are frames, in plain numbers ("Trimming the journal").
use Rattle.std.specs.Prelude.{List, [], ◌∷◌, ℕ, ◌+◌, ◌*◌, ◌<◌}

-- A word is a frame where it is a reset, the beginning of a read at an address, the end of a cycle, the beginning of a write of a byte at an
-- address, or levels on a port; each operand is a byte, and nothing else is in the word.
pub data Frame : ℕ → Type 0 where
  reset : Frame 0
  begin_read : (a : ℕ) → a < 256 → Frame (65536 + 256 * a)
  end_cycle : Frame 131072
  begin_write : (a d : ℕ) → a < 256 → d < 256 → Frame (196608 + 256 * a + d)
  levels : (p d : ℕ) → p < 256 → d < 256 → Frame (327680 + 256 * p + d)

-- So is each of some words.
abbrev pub Frames : List ℕ → Type 0
Frames [] = Unit {0}
Frames (w ∷ ws) = Frame w × Frames ws
