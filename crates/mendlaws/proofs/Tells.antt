-- What the call of Rattle tells, the call for C answers.
-- Rests on Calls, and on mend's Numbers.
use Rattle.std.proofs.Common.{◌≡◌, ◌∙◌, ap, sym, List, ℕ, arith, length, Result, Ok, Err}
use Rattle.mend.specs.declared.Mended.{Mended as Lengths}
use Rattle.mend.specs.declared.MendRefusal.{MendRefusal}
use Rattle.mend.specs.declared.MendRefusal.TheVariants.{TooLong, NoRoom}
use Rattle.mend.specs.Mend.{Outcome, outcome_of, mend_told}
use Rattle.mend.proofs.Numbers.{number_is, lengths_are, number_answered, clean_answered, report_answered}
use Rattle.mendlaws.specs.Promise.{Tells}
use Rattle.mendlaws.proofs.Calls.{number, refused_with}

pub tells : (text clean report : List ℕ) (r : Result Lengths MendRefusal) → mend_told r ≡ outcome_of text (length clean) (length report) → Tells text clean report r
tells text clean report r told = go r told (ap (λ (o : Outcome). o.number) told ∙ number_is text (length clean) (length report))
  where
    go : (r : Result Lengths MendRefusal) → mend_told r ≡ outcome_of text (length clean) (length report)
        → (mend_told r).number ≡ number text clean report → Tells text clean report r
    go (Ok m) told zero =
        let none = sym zero in
        let is = told ∙ lengths_are text (length clean) (length report) none in (
          number_answered text (length clean) (length report) ∙ none,
          clean_answered text (length clean) (length report) none ∙ sym (ap (λ (o : Outcome). o.clean) is),
          report_answered text (length clean) (length report) none ∙ sym (ap (λ (o : Outcome). o.report) is),
        )
    go (Err TooLong) told six = (refused_with text clean report 6 (sym six) (λ e. omega (arith, e))).0
    go (Err NoRoom) told seven = (refused_with text clean report 7 (sym seven) (λ e. omega (arith, e))).0
