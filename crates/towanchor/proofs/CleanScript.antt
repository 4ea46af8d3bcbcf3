-- With room for the longest script in both outputs, what mending leaves in front of the first, or its number alone, is what the program prints
-- of a captured script; and it is refused where the text or its clean form is too long.
-- Rests on bits' Logic, text's LineCount and mend's Numbers.
use Rattle.std.proofs.Common.{◌≡◌, Ok, Err, ℕ, ◌≤◌, Bool, true, false, List, [], ◌∷◌, ◌++◌, length, take, drop, refl, sym, ap, ◌∙◌, take_at, eqb, arith, append_assoc, codes, le-ltb, cond, eq-eqb}
use Rattle.std.specs.Fmt.{decimal}
use Rattle.std.proofs.lemmas.Bool.{ltb-false}
use Rattle.bits.proofs.Logic.{contrary, neither}
use Rattle.text.specs.Lines.{lf, Line, line_count}
use Rattle.text.proofs.LineCount.{lines_at_most}
use Rattle.script.specs.Run.{longest_script, too_long, too_long_number}
use Rattle.mend.specs.declared.Mended.{Mended}
use Rattle.mend.specs.declared.MendRefusal.{MendRefusal}
use Rattle.mend.specs.declared.signs.Reason.{Reason}
use Rattle.mend.specs.declared.signs.Sign.{Sign}
use Rattle.mend.specs.declared.signs.Sign.TheVariants as signs
use Rattle.mend.specs.declared.signs.Sign.TheVariants.{Kept, Blank, Unfit}
use Rattle.mend.specs.Line.{letter_of, kept_sign, unfit_sign, sign_of}
use Rattle.mend.specs.Reason.{reason_told, reason_of}
use Rattle.mend.specs.Words.{sign_words}
use Rattle.mend.specs.Mend.{clean_of, mend_number, mend_refusal_number, mend_refusal_never_0, Outcome, outcome_of, mend_told, clean_left}
use Rattle.mend.proofs.Numbers.{number_is, lengths_are, written}
use Rattle.prints.specs.Printed.{refusal_text}
use Rattle.prints.specs.Mended.{refuses_mending, printed_mended, said_of}

module _ (text clean report : List ℕ) (clean_room : longest_script ≤ length clean) (report_room : longest_script ≤ length report) where
  abbrev number : ℕ
  number = mend_number text (length clean) (length report)

  -- The number is 6 where the text is refused, and else 0.
  number_by : (long : Bool) → refuses_mending text ≡ long → number ≡ cond long too_long_number 0
  unfolding mend_number
  number_by true e = rw (e)
  number_by false e =
      let short = neither (too_long text) (too_long (clean_of text)) e in
      let text_fits = ltb-false longest_script (length text) short.0 in
      let clean_fits = ltb-false longest_script (length (clean_of text)) short.1 in
      rw (
        e,
        le-ltb (length clean) (length (clean_of text)) (omega (arith, clean_fits, clean_room)),
        le-ltb (length report) (line_count text) (omega (arith, text_fits, lines_at_most text, report_room)),
      )

  number_told : (o : Outcome) → o ≡ outcome_of text (length clean) (length report) → o.number ≡ number
  number_told o told = ap (λ (o : Outcome). o.number) told ∙ number_is text (length clean) (length report)

  pub mended : (m : Mended) → mend_told (Ok m) ≡ outcome_of text (length clean) (length report)
      → (take m.clean (clean_left text clean report) ≡ printed_mended text) × (false ≡ refuses_mending text)
  unfolding printed_mended
  mended m told = go (refuses_mending text) refl
    where
      none : number ≡ 0
      none = sym (number_told _ told)

      go : (long : Bool) → refuses_mending text ≡ long
          → (take m.clean (clean_left text clean report) ≡ printed_mended text) × (false ≡ refuses_mending text)
      go true e = absurd (omega (arith, none, number_by true e))
      go false e =
          let long = ap (λ (o : Outcome). o.clean) (told ∙ lengths_are text (length clean) (length report) none) in (
            rw (← (written text clean report none).1, e) (take_at (clean_of text) (drop (length (clean_of text)) clean) m.clean (sym long)),
            sym e,
          )

  pub refused : (r : MendRefusal) → mend_told (Err r) ≡ outcome_of text (length clean) (length report)
      → (refusal_text (mend_refusal_number r) ≡ printed_mended text) × (true ≡ refuses_mending text)
  unfolding printed_mended
  refused r told = go (refuses_mending text) refl
    where
      go : (long : Bool) → refuses_mending text ≡ long
          → (refusal_text (mend_refusal_number r) ≡ printed_mended text) × (true ≡ refuses_mending text)
      go true e = (rw (number_told _ told, number_by true e, e) refl, sym e)
      go false e = absurd (contrary (eqb (mend_refusal_number r) 0) (mend_refusal_never_0 r) (eq-eqb _ 0 (number_told _ told ∙ number_by false e)))

-- What is said of a line, by its sign: of one that is kept nothing.
module _ (number : ℕ) (l : Line) where
  pub kept_unsaid : (s : Sign) → letter_of s ≡ sign_of l → s ≡ Kept → said_of number l ≡ []
  unfolding said_of
  kept_unsaid s letter is = rw (← letter, is)

  not_kept : (s : Sign) → ¬ (s ≡ Kept) → eqb (letter_of s) kept_sign ≡ false
  not_kept Kept other = absurd (other refl)
  not_kept signs.Mended other = refl
  not_kept Blank other = refl
  not_kept (Unfit reason) other = refl

  pub said_so : (s : Sign) → letter_of s ≡ sign_of l → reason_told s ≡ reason_of l → ¬ (s ≡ Kept)
      → said_of number l ≡ codes "line " ++ (decimal number ++ (codes ": " ++ (sign_words s ++ lf ∷ [])))
  unfolding said_of
  said_so s letter reason other =
      rw (← letter, ← reason, not_kept s other)
      (ap (λ l. codes "line " ++ l)
      (append_assoc (decimal number ++ codes ": ") (sign_words s) (lf ∷ []) ∙ append_assoc (decimal number) (codes ": ") (sign_words s ++ lf ∷ [])))

pub not_unfit : (s : Sign) → ((reason : Reason) → ¬ (s ≡ Unfit reason)) → false ≡ eqb (letter_of s) unfit_sign
not_unfit Kept other = refl
not_unfit signs.Mended other = refl
not_unfit Blank other = refl
not_unfit (Unfit reason) other = absurd (other reason refl)
