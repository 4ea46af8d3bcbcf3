-- A script whose interrupts are to be explained is refused exactly where the sentence is printed: what is said of a group begins with another letter.
-- Rests on nothing.
use Rattle.std.proofs.Common.{◌≡◌, ◌↔◌, ℕ, Bool, true, false, List, ◌++◌, refl, sym, ap, ◌∙◌, get_or, arith}
use Rattle.control.specs.declared.Group.TheVariants.{A}
use Rattle.chip.specs.declared.Chip.{Chip}
use Rattle.chip.specs.declared.reasons.Explained.{Explained}
use Rattle.chip.specs.declared.reasons.Explained.TheVariants.{ModeZero, InputHalf, OutputHalf, BothHalves}
use Rattle.chip.specs.Reasons.{explained_in}
use Rattle.script.specs.Run.{too_long}
use Rattle.prints.specs.Quiet.{half_line, group_lines, said_of_left, printed_quiet}
use Rattle.printlaws.specs.Refused.{long_text_unexplained}

begins : (e : Explained) (later more : List ℕ) → get_or (group_lines A e ++ later ++ more) 0 0 ≡ 103
unfolding half_line group_lines
begins ModeZero later more = refl
begins (InputHalf r) later more = refl
begins (OutputHalf r) later more = refl
begins (BothHalves i o) later more = refl

not_said : (c : Chip) (count : ℕ) → ¬ (said_of_left c count ≡ long_text_unexplained)
unfolding said_of_left
not_said c count is =
    let first : 103 ≡ 116 = sym (begins (explained_in c A) _ _) ∙ ap (λ bytes. get_or bytes 0 0) is in
    omega (arith, first)

pub sentence : (text : List ℕ) → (too_long text ≡ true) ↔ (printed_quiet text ≡ long_text_unexplained)
unfolding printed_quiet
sentence text = (λ long. rw (long) refl, go (too_long text) refl)
  where
    go : (long : Bool) → too_long text ≡ long → printed_quiet text ≡ long_text_unexplained → too_long text ≡ true
    go true l is = l
    go false l is = absurd (not_said _ _ (rw (l) at is))
