-- The enables move only by a word written to control, as its write ends, and by a reset ("Writes and bit set/reset").
-- Rests on ByEvent, bits' Logic, and chip's ReadsAfter and LevelsAfter.
use Rattle.std.proofs.Common.{◌≡◌, refl, false, ℕ}
use Rattle.bits.proofs.Logic.{contrary}
use Rattle.chip.specs.declared.Chip.{Chip}
use Rattle.chip.proofs.ReadsAfter.{begun_enables, ended_enables}
use Rattle.chip.proofs.LevelsAfter.{levels_enables}
use Rattle.chip.specs.Step.{step_of}
use Rattle.laws.specs.Enables.{moves_enables}
use Rattle.laws.proofs.ByEvent.{by_event}

pub enables_stay : (c : Chip) (k x d : ℕ) → moves_enables c.phase k ≡ false → (step_of c k x d).state.core.inte ≡ c.core.inte
enables_stay c k x d none =
    let unmoved = contrary (moves_enables c.phase k) none in
    by_event (λ c'. c'.core.inte ≡ c.core.inte) c k x d (record {
      stays = refl;
      reset = λ zero. absurd (unmoved (rw (zero)));
      read_begins = λ one ok. begun_enables c.core x;
      ends = λ two. record {
        read = λ p phase. ended_enables c.core p;
        mode_word = λ w phase seven. absurd (unmoved (rw (two, phase)));
        bit_word = λ w phase seven. absurd (unmoved (rw (two, phase)));
        lines = λ b phase. refl;
        port = λ a b phase c' stored. stored.enables;
      };
      write_begins = λ three ok. refl;
      levels = λ five ok. levels_enables c.core x d;
    })
