-- The byte at a place of a line where nothing of the line is left: 00.
-- Rests on nothing.
use Rattle.std.proofs.Common.{◌≡◌, List, ℕ, ◌≤◌, length, drop, drop_of_length-le}
use Rattle.text.specs.Frames.{leading_byte}

pub none_left : (line : List ℕ) (at : ℕ) → length line ≤ at → leading_byte (drop at line) ≡ 0
unfolding leading_byte
none_left line at h = rw (drop_of_length-le line {i = at} h)
