-- A call by its number: what an accepted one writes to the front of both outputs, and what a refused one leaves.
-- Rests on mend's Numbers.
use Rattle.std.proofs.Common.{◌≡◌, ◌∙◌, ap, sym, List, ℕ, ◌≤◌, arith, length, take, drop, length-append, length-drop, take_at, drop_at}
use Rattle.text.specs.Lines.{line_count}
use Rattle.mend.specs.Mend.{clean_of, report_of, mend_number, in_front, clean_left, report_left}
use Rattle.mend.proofs.Numbers.{Accepted, signs_counted, when_accepted, clean_answered, report_answered, refused, written}
use Rattle.mendlaws.specs.Promise.{clean_length, sign_count, clean_text, signs, RefusedWith}

-- An output with bytes in front, for which there is room.
module _ (bytes out : List ℕ) where
  front : take (length bytes) (in_front bytes out) ≡ bytes
  front = take_at bytes (drop (length bytes) out) (length bytes) (λ i. length bytes)

  behind : drop (length bytes) (in_front bytes out) ≡ drop (length bytes) out
  behind = drop_at bytes (drop (length bytes) out) (length bytes) (λ i. length bytes)

  as_long_lem : length bytes ≤ length out → length (in_front bytes out) ≡ length out
  as_long_lem fits = length-append bytes (drop (length bytes) out) ∙ omega (arith, length-drop (length bytes) out, fits)

module _ (text clean report : List ℕ) where
  abbrev pub number : ℕ
  number = mend_number text (length clean) (length report)

  pub refused_with : (n : ℕ) → number ≡ n → ¬ (n ≡ 0) → RefusedWith n text clean report
  refused_with n is some =
      let k = refused text clean report (λ e. some (sym is ∙ e)) in
      (sym k.0 ∙ is, sym k.1, sym k.2)

  module _ (none : number ≡ 0) where
    pub fits : Accepted text (length clean) (length report)
    fits = when_accepted text (length clean) (length report) none

    clean_length_lem : clean_length text clean report ≡ length (clean_of text)
    clean_length_lem = clean_answered text (length clean) (length report) none

    sign_count_lem : sign_count text clean report ≡ length (report_of text)
    sign_count_lem = report_answered text (length clean) (length report) none

    clean_left_lem : clean_left text clean report ≡ in_front (clean_of text) clean
    clean_left_lem = sym (written text clean report none).1

    report_left_lem : report_left text clean report ≡ in_front (report_of text) report
    report_left_lem = sym (written text clean report none).2

    pub clean_is : clean_text text clean report ≡ clean_of text
    clean_is = (λ i. take (clean_length_lem i) (clean_left_lem i)) ∙ front (clean_of text) clean

    pub signs_are : signs text clean report ≡ report_of text
    signs_are = (λ i. take (sign_count_lem i) (report_left_lem i)) ∙ front (report_of text) report

    pub clean_written_lem : length (clean_text text clean report) ≡ clean_length text clean report
    clean_written_lem = ap length clean_is ∙ sym clean_length_lem

    pub signs_written_lem : length (signs text clean report) ≡ sign_count text clean report
    signs_written_lem = ap length signs_are ∙ sym sign_count_lem

    pub one_each_lem : sign_count text clean report ≡ line_count text
    one_each_lem = sign_count_lem ∙ signs_counted text

    pub clean_as_long_lem : length (clean_left text clean report) ≡ length clean
    clean_as_long_lem = ap length clean_left_lem ∙ as_long_lem (clean_of text) clean fits.clean_fits

    pub report_as_long_lem : length (report_left text clean report) ≡ length report
    report_as_long_lem = ap length report_left_lem ∙ as_long_lem (report_of text) report (omega (arith, fits.report_fits, signs_counted text))

    pub clean_behind_lem : drop (clean_length text clean report) (clean_left text clean report) ≡ drop (clean_length text clean report) clean
    clean_behind_lem =
        (λ i. drop (clean_length_lem i) (clean_left_lem i)) ∙ behind (clean_of text) clean ∙ ap (λ (n : ℕ). drop n clean) (sym clean_length_lem)

    pub report_behind_lem : drop (sign_count text clean report) (report_left text clean report) ≡ drop (sign_count text clean report) report
    report_behind_lem =
        (λ i. drop (sign_count_lem i) (report_left_lem i)) ∙ behind (report_of text) report ∙ ap (λ (n : ℕ). drop n report) (sym sign_count_lem)
