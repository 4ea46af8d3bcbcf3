-- What a call comes to, answers and leaves, by its number.
-- Rests on bits' Logic and text's LineCount.
use Rattle.std.proofs.Common.{◌≡◌, ◌∙◌, refl, ap, sym, Bool, true, false, cond, ◌||◌, List, ℕ, zero, suc, ◌+◌, ◌*◌, ◌/◌, ◌%◌, ◌<◌, ◌≤◌, arith, ltb, length, ltb-false, eq-eqb, ne_eqb, Ok}
use lib.ListN.{length-map}
use Rattle.bits.proofs.Logic.{neither, by_test}
use Rattle.text.specs.Lines.{lines_of, line_count}
use Rattle.text.proofs.LineCount.{lines_at_most}
use Rattle.script.specs.Run.{longest_script, too_long, too_long_number, no_room_number}
use Rattle.mend.specs.declared.Mended.{Mended}
use Rattle.mend.specs.Line.{sign_of}
use Rattle.mend.specs.Mend.{clean_of, report_of, mend_number, Outcome, accepted, outcome_by, outcome_of, mend_told, packed, mend_answer, in_front, clean_left, report_left}

-- The report has as many signs as there are lines.
pub signs_counted : (text : List ℕ) → length (report_of text) ≡ line_count text
unfolding report_of
signs_counted text = length-map (lines_of text) sign_of

-- Where a call is accepted, nothing is too long, and there is room.
pub record Accepted (text : List ℕ) (clean_room report_room : ℕ) : Type 0 where
  pub short : length text ≤ longest_script
  pub short_clean : length (clean_of text) ≤ longest_script
  pub clean_fits : length (clean_of text) ≤ clean_room
  pub report_fits : line_count text ≤ report_room

module _ (text : List ℕ) (clean_room report_room : ℕ) where
  pub number_is : (outcome_of text clean_room report_room).number ≡ mend_number text clean_room report_room
  number_is = go (mend_number text clean_room report_room)
    where
      go : (n : ℕ) → (outcome_by n text).number ≡ n
      go zero = refl
      go (suc n) = rw (ne_eqb (suc n) 0 (λ e. omega (arith, e)))

  pub lengths_are : mend_number text clean_room report_room ≡ 0 → outcome_of text clean_room report_room ≡ accepted text
  lengths_are none = rw (eq-eqb (mend_number text clean_room report_room) 0 none)

  pub when_accepted : mend_number text clean_room report_room ≡ 0 → Accepted text clean_room report_room
  unfolding mend_number
  when_accepted = go (too_long text || too_long (clean_of text)) refl (ltb clean_room (length (clean_of text)) || ltb report_room (line_count text)) refl
    where
      go : (long : Bool) → (too_long text || too_long (clean_of text)) ≡ long
          → (less : Bool) → (ltb clean_room (length (clean_of text)) || ltb report_room (line_count text)) ≡ less
          → cond long too_long_number (cond less no_room_number 0) ≡ 0 → Accepted text clean_room report_room
      go true l less m e = absurd (omega (arith, e))
      go false l true m e = absurd (omega (arith, e))
      go false l false m e =
          let short = neither (too_long text) (too_long (clean_of text)) l in
          let enough = neither (ltb clean_room (length (clean_of text))) (ltb report_room (line_count text)) m in
          record {
            short = ltb-false longest_script (length text) short.0;
            short_clean = ltb-false longest_script (length (clean_of text)) short.1;
            clean_fits = ltb-false clean_room (length (clean_of text)) enough.0;
            report_fits = ltb-false report_room (line_count text) enough.1;
          }

-- The number and both lengths, taken out of the answer again.
apart : (o : Outcome) → o.number < 256 → o.clean < 16777216
    → (packed o % 256 ≡ o.number) × (packed o / 256 % 16777216 ≡ o.clean) × (packed o / 4294967296 ≡ o.report)
apart o few short = (omega (arith, few), omega (arith, few, short), omega (arith, few, short))

module _ (text : List ℕ) (clean_room report_room : ℕ) where
  small_number : mend_number text clean_room report_room < 256
  unfolding mend_number
  small_number =
      by_test (λ n. n < 256) (too_long text || too_long (clean_of text)) too_long_number _ (λ t. omega arith)
      (λ t. by_test (λ n. n < 256) (ltb clean_room (length (clean_of text)) || ltb report_room (line_count text)) no_room_number 0
      (λ t. omega arith) (λ t. omega arith))

  short_enough : (outcome_of text clean_room report_room).clean ≤ longest_script
  short_enough = go (mend_number text clean_room report_room) refl
    where
      go : (n : ℕ) → mend_number text clean_room report_room ≡ n → (outcome_by n text).clean ≤ longest_script
      go zero is = (when_accepted text clean_room report_room is).short_clean
      go (suc n) is = rw (ne_eqb (suc n) 0 (λ e. omega (arith, e))) (omega arith)

  taken_apart : let answer = mend_answer text clean_room report_room in
      let outcome = outcome_of text clean_room report_room in
      (answer % 256 ≡ outcome.number) × (answer / 256 % 16777216 ≡ outcome.clean) × (answer / 4294967296 ≡ outcome.report)
  unfolding mend_answer
  taken_apart =
      apart (outcome_of text clean_room report_room)
      (omega (arith, number_is text clean_room report_room, small_number)) (omega (arith, short_enough))

  pub number_answered : mend_answer text clean_room report_room % 256 ≡ mend_number text clean_room report_room
  number_answered = taken_apart.0 ∙ number_is text clean_room report_room

  module _ (none : mend_number text clean_room report_room ≡ 0) where
    pub clean_answered : mend_answer text clean_room report_room / 256 % 16777216 ≡ length (clean_of text)
    clean_answered = taken_apart.1 ∙ ap (λ (o : Outcome). o.clean) (lengths_are text clean_room report_room none)

    pub report_answered : mend_answer text clean_room report_room / 4294967296 ≡ length (report_of text)
    report_answered = taken_apart.2 ∙ ap (λ (o : Outcome). o.report) (lengths_are text clean_room report_room none)

-- An answer tells lengths of a clean script and of a report, which are small: there are no more lines than bytes.
pub told_small : (text : List ℕ) (clean_room report_room : ℕ) (m : Mended) → mend_told (Ok m) ≡ outcome_of text clean_room report_room
    → (m.clean ≤ longest_script) × (m.report ≤ longest_script)
told_small text clean_room report_room m told =
    let none = sym (number_is text clean_room report_room) ∙ sym (ap (λ (o : Outcome). o.number) told) in
    let is = told ∙ lengths_are text clean_room report_room none in
    let accepted = when_accepted text clean_room report_room none in (
      omega (arith, accepted.short_clean, ap (λ (o : Outcome). o.clean) is),
      omega (arith, accepted.short, ap (λ (o : Outcome). o.report) is, signs_counted text, lines_at_most text),
    )

-- What a call answers and leaves: where it is refused, its number alone, and both outputs as they were; where it is accepted, both lengths, and
-- both outputs with what was written in front.
module _ (text clean report : List ℕ) where
  abbrev number : ℕ
  number = mend_number text (length clean) (length report)

  pub refused : ¬ (number ≡ 0)
      → (number ≡ mend_answer text (length clean) (length report)) × (clean ≡ clean_left text clean report) × (report ≡ report_left text clean report)
  unfolding mend_answer clean_left report_left
  refused other = (rw (ne_eqb number 0 other) (omega arith), rw (ne_eqb number 0 other), rw (ne_eqb number 0 other))

  pub written : number ≡ 0
      → (256 * length (clean_of text) + 4294967296 * length (report_of text) ≡ mend_answer text (length clean) (length report))
      × (in_front (clean_of text) clean ≡ clean_left text clean report)
      × (in_front (report_of text) report ≡ report_left text clean report)
  unfolding mend_answer clean_left report_left
  written none = (rw (eq-eqb number 0 none) (omega arith), rw (eq-eqb number 0 none), rw (eq-eqb number 0 none))
