-- Of which edition the chip is that a script leaves, computed.
-- Rests on nothing.
use Rattle.std.proofs.Common.{◌≡◌, ℕ, ◌<◌, List, length, refl, lt-ltb}
use Rattle.bus.specs.Kinds.{is_kind, operands_of}
use Rattle.bus.specs.Refusals.{number_of}
use Rattle.bus.specs.Device.{step_in}
use Rattle.text.specs.Digits.{digit_value, pair_value}
use Rattle.text.specs.Lines.{lines_of}
use Rattle.text.specs.Frames.{leading_byte, is_frame, frame_of, frame_in}
use Rattle.script.specs.Answers.{acted_in}
use Rattle.text.specs.Quoted.{codes}
use Rattle.script.specs.Left as walk
use Rattle.prints.specs.Left.{left_of}
use Rattle.printlaws.specs.Explained.{explained_at_first}

pub refuses : left_of (codes "0103\n") ≡ walk.left 0 explained_at_first 1
unfolding is_kind operands_of number_of step_in digit_value pair_value lines_of leading_byte is_frame frame_of frame_in acted_in
refuses = refl

pub too_long : (text : List ℕ) → 4096 < length text → left_of text ≡ walk.left 6 explained_at_first 0
too_long text more = rw (lt-ltb 4096 (length text) more) refl
