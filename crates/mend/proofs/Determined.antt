-- The contract of each public function of mend leaves no choice: of the answer, and of every byte of both outputs. What an answer tells, no
-- other answer tells.
-- Rests on bits' Determined.
use Rattle.std.proofs.Common.{◌≡◌, ◌∙◌, refl, ap, sym, ℕ, cond, eqb, Option, Some, None, Result, Ok, Err}
use Rattle.bits.proofs.Determined.{Determines, equation_determines}
use Rattle.mend.specs.declared.Mended.{Mended}
use Rattle.mend.specs.declared.MendRefusal.{MendRefusal}
use Rattle.mend.specs.declared.MendRefusal.TheVariants.{TooLong, NoRoom}
use Rattle.mend.specs.declared.signs.Reason.{Reason}
use Rattle.mend.specs.declared.signs.Sign.{Sign}
use Rattle.mend.specs.declared.signs.Sign.TheVariants as Signs
use Rattle.mend.specs.declared.signs.Sign.TheVariants.{Kept, Blank, Unfit}
use Rattle.mend.specs.Line.{kept_sign, mended_sign, letter_of}
use Rattle.mend.specs.Reason.{reason_told}
use Rattle.mend.specs.Mend.{Outcome, mend_told}
use Rattle.mend.specs.contracts as mend_says
use Rattle.mend.proofs as mend

-- The answer that tells of an outcome.
abbrev answer_of : Outcome → Result Mended MendRefusal
answer_of o =
    cond (eqb o.number 0) (Ok (record { clean = o.clean; report = o.report }))
    (cond (eqb o.number 6) (Err TooLong) (Err NoRoom))

told_so : (r : Result Mended MendRefusal) → r ≡ answer_of (mend_told r)
told_so (Ok m) = refl
told_so (Err TooLong) = refl
told_so (Err NoRoom) = refl

-- The sign that has a letter and a reason. Before its answer stands the line, which is not written.
abbrev sign_with : ℕ → Option Reason → Sign
sign_with letter (Some reason) = Unfit reason
sign_with letter None = cond (eqb letter kept_sign) Kept (cond (eqb letter mended_sign) Signs.Mended Blank)

told_apart : (s : Sign) → s ≡ sign_with (letter_of s) (reason_told s)
told_apart Kept = refl
told_apart Signs.Mended = refl
told_apart Blank = refl
told_apart (Unfit reason) = refl

pub sign_determined : Determines mend_says.signs.Sign.of.ended mend.signs.Sign.of.Reads.Learnt
sign_determined c x y p q =
    let result = told_apart x.0 ∙ (λ i. sign_with ((p.0 ∙ sym q.0) i) ((p.1 ∙ sym q.1) i)) ∙ sym (told_apart y.0) in
    λ i. (result i, (tt, tt))

pub number_determined : Determines mend_says.MendRefusalNumbered.number.ended mend.MendRefusalNumbered.number.Reads.Learnt
number_determined c x y = equation_determines

-- Before both outputs stands the text, which is not written.
pub mend_determined : Determines mend_says.mend.ended mend.mend.Reads.Learnt
mend_determined c x y p q =
    let result = told_so x.0 ∙ ap answer_of (p.0 ∙ sym q.0) ∙ sym (told_so y.0) in
    λ i. (result i, (tt, ((p.1.0 ∙ sym q.1.0) i, ((p.1.1 ∙ sym q.1.1) i, tt))))

pub towanchor_mend_determined : Determines mend_says.towanchor_mend.ended mend.towanchor_mend.Reads.Learnt
towanchor_mend_determined c x y p q =
    λ i. ((p.0 ∙ sym q.0) i, (tt, ((p.1.0 ∙ sym q.1.0) i, ((p.1.1 ∙ sym q.1.1) i, tt))))
