-- What is printed of a script whose interrupts are explained: what is said of the chip that it leaves, or that it was not run.
-- Rests on bits' Logic.
use Rattle.std.proofs.Common.{◌≡◌, Ok, Err, ℕ, Bool, true, false, List, refl, ap, ◌∙◌, eqb, eq-eqb, arith}
use Rattle.bits.proofs.Logic.{contrary}
use Rattle.chip.specs.declared.Chip.{Chip}
use Rattle.script.specs.declared.RunRefusal.{RunRefusal}
use Rattle.script.specs.Run.{too_long, run_refusal_number, run_refusal_never_0}
use Rattle.script.specs.Left as walk
use Rattle.prints.specs.Left.{left_of}
use Rattle.prints.specs.Quiet.{said_of_left, not_run, printed_quiet}
use Rattle.towanchor.specs.declared.quiet.Left.{Left}
use Rattle.towanchor.specs.Left.{told}

module _ (text : List ℕ) where
  -- The number of a text tells whether it was run.
  long_number : too_long text ≡ true → (left_of text).number ≡ 6
  long_number e = rw (e)

  short_number : too_long text ≡ false → (left_of text).number ≡ 0
  short_number e = rw (e)

  number_of : {l : walk.Left Chip} → l ≡ left_of text → l.number ≡ (left_of text).number
  number_of is = ap (λ (l : walk.Left Chip). l.number) is

  pub of_a_run : (l : Left) → told (Ok l) ≡ left_of text → said_of_left l.chip l.refused ≡ printed_quiet text
  unfolding printed_quiet
  of_a_run l is = go (too_long text) refl
    where
      go : (long : Bool) → too_long text ≡ long → said_of_left l.chip l.refused ≡ printed_quiet text
      go true e = absurd (omega (arith, number_of is, long_number e))
      go false e = ap (λ (l : walk.Left Chip). said_of_left l.state l.refused) is ∙ rw (e) refl

  pub of_none : (r : RunRefusal) → told (Err r) ≡ left_of text → not_run ≡ printed_quiet text
  unfolding printed_quiet
  of_none r is = go (too_long text) refl
    where
      go : (long : Bool) → too_long text ≡ long → not_run ≡ printed_quiet text
      go true e = rw (e) refl
      go false e =
          absurd (contrary (eqb (run_refusal_number r) 0) (run_refusal_never_0 r) (eq-eqb _ 0 (number_of is ∙ short_number e)))
