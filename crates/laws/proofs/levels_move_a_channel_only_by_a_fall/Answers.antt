-- What levels leave that make no fall.
-- Rests on Falls, and on chip's Outcome.
use Rattle.std.proofs.Common.{◌≡◌, refl, Bool, true, false, ◌&&◌, ℕ, eqb}
use mathlib.Core.Bool.{and-false}
use Rattle.control.specs.declared.Group.{Group}
use Rattle.chip.specs.declared.channel.Side.{Side}
use Rattle.chip.specs.declared.Chip.{Chip}
use Rattle.chip.specs.Handshakes.{strobed, line_pin}
use Rattle.chip.specs.Levels.{fallen}
use Rattle.chip.specs.Step.{step_of}
use Rattle.chip.proofs.Outcome.{step_either}
use Rattle.laws.specs.Kept.{Keeps, lets_fall}
use Rattle.laws.proofs.Falls.{kept, levels_kept, output_latch_stays}
use Rattle.laws.proofs.levels_move_a_channel_only_by_a_fall.Goals as goal

-- Where there is no fall there is none that a handshake would see.
unless : (lines on fell : Bool) → (lines && fell) ≡ false → (lines && (on && fell)) ≡ false
unless true on fell still = rw (still) (and-false on)
unless false on fell still = refl

only_a_fall : (c : Chip) (g : Group) (s : Side) (x d : ℕ) → lets_fall c g s x d ≡ false
    → Keeps c g s (step_of c 5 x d).state
only_a_fall c g s x d still =
    step_either (Keeps c g s) c 5 x d (kept refl)
    (λ ok. levels_kept c.core g s x d (unless (eqb x 2) (strobed c.core.word g s) (fallen c.core.c.outside d (line_pin g s)) still))

pub returns : goal.returns
returns c = record { kept = only_a_fall; output_latch = output_latch_stays }
