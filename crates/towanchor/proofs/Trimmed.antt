-- A word as a line, put together; and what the trim keeps of a text's words, as lines.
-- Rests on the bus's ByKind, text's LineCount and journal's Trimming.
use Rattle.std.proofs.Common.{◌≡◌, ◌∙◌, refl, sym, ap, Some, None, Ok, Err, Bool, true, false, not, List, [], ◌∷◌, ◌++◌, append_assoc, ℕ, zero, suc, ◌-◌, ◌*◌, ◌/◌, ◌%◌, ◌<◌, ◌≤◌, arith, length, take, take_at, get_or, replicate, le-ltb, lt-ltb}
use Rattle.std.proofs.lemmas.List.{length-map}
use Rattle.bus.specs.Kinds.{is_kind, no_kind, operands_of}
use Rattle.bus.specs.declared.kinds.Kind.{Kind}
use Rattle.bus.specs.Answers.{kind_number, kind_numbered}
use Rattle.bus.proofs.ByKind.{kind_back, none_back, no_kind_differs}
use Rattle.text.specs.Digits.{digit_code, in_digits, digits}
use Rattle.text.specs.Lines.{lf, Line, lines_of}
use Rattle.text.specs.Frames.{frame_in}
use Rattle.text.specs.Written.{operands_out, written_out}
use Rattle.text.proofs.LineCount.{lines_at_most}
use Rattle.script.specs.Run.{too_long_number}
use Rattle.journal.specs.declared.TrimRefusal.{TrimRefusal}
use Rattle.journal.specs.declared.TrimRefusal.TheVariants.{NoFrame, TooLong, NoEdition}
use Rattle.journal.specs.Words.{all_frames}
use Rattle.journal.specs.Trim.{kept_from, refusal_number, answer_told, trim_number, trim_answer, trimmed_words}
use Rattle.journal.proofs.Trimming.{accepted_answer, accepted_words}
use Rattle.prints.specs.Printed.{refusal_text}
use Rattle.prints.specs.Left.{met}
use Rattle.prints.specs.Trimmed.{word_said, journal_of, word_line, word_lines, printed_trimmed, refuses_trimming}

-- Two operands or more are both.
pub both_out : (n x d : ℕ) → ¬ (n ≡ 0) → ¬ (n ≡ 1) → operands_out n x d ≡ in_digits x ++ in_digits d
both_out zero x d some more = absurd (some refl)
both_out (suc zero) x d some more = absurd (more refl)
both_out (suc (suc n)) x d some more = refl

-- A kind that there is has its operands, and one that there is not has none.
pub operands_told : (n : ℕ) (k : Kind) → Some k ≡ kind_numbered n → operands_of (kind_number k) ≡ operands_of n
operands_told n k is = ap operands_of (kind_back n k is).0

pub no_operands : (n : ℕ) → None ≡ kind_numbered n → 0 ≡ operands_of n
unfolding is_kind operands_of
no_operands n is =
    let none : no_kind n ≡ true = ap not (none_back n is) in
    rw (no_kind_differs n 1 none refl, no_kind_differs n 3 none refl, no_kind_differs n 5 none refl) refl

-- The two digits of a number are those of its lowest byte.
lowest_byte : (k : ℕ) → in_digits (k % 256) ≡ in_digits k
unfolding digit_code
lowest_byte k =
    let sixteens : k % 256 / 16 % 16 ≡ k / 16 % 16 = omega arith in
    let ones : k % 256 % 16 ≡ k % 16 = omega arith in
    λ i. get_or digits (sixteens i) 0 ∷ get_or digits (ones i) 0 ∷ []

-- A line, part by part behind what is there.
pub line_put : (before : List ℕ) (w : ℕ)
    → ((before ++ in_digits (w / 65536 % 256)) ++ operands_out (operands_of (w / 65536)) (w / 256 % 256) (w % 256)) ++ (lf ∷ []) ≡ before ++ word_line w
unfolding word_line written_out
line_put before w =
    let operands = operands_out (operands_of (w / 65536)) (w / 256 % 256) (w % 256) in
    rw (lowest_byte (w / 65536))
    (ap (λ l. l ++ (lf ∷ [])) (append_assoc before (in_digits (w / 65536)) operands)
    ∙ append_assoc before (in_digits (w / 65536) ++ operands) (lf ∷ []))

-- A text that is too long is refused.
pub long_refused : (text : List ℕ) → 4096 < length text → (refusal_text too_long_number ≡ printed_trimmed text) × (true ≡ refuses_trimming text)
unfolding printed_trimmed
long_refused text more = rw (lt-ltb 4096 (length text) more) (refl, refl)

-- A text that is not too long, and its words.
module _ (text : List ℕ) (short : length text ≤ 4096) where
  abbrev ws : List ℕ
  ws = journal_of text

  abbrev answer : ℕ
  answer = trim_answer ws 0 255 255 255

  few : length ws ≤ 8192
  few = omega (arith, length-map (lines_of text) (λ (l : Line). word_said (frame_in l)), lines_at_most text, short)

  -- The trim is accepted where all words are frames, and else refused with 1.
  accepted : all_frames ws ≡ true → trim_number ws 0 ≡ 0
  unfolding trim_number
  accepted all = rw (le-ltb 8192 (length ws) few, all) refl

  refused : all_frames ws ≡ false → answer ≡ 1
  unfolding trim_number trim_answer
  refused all = rw (le-ltb 8192 (length ws) few, all) refl

  counted : all_frames ws ≡ true → 256 * length (kept_from met ws) ≡ answer
  counted all = accepted_answer ws 0 255 255 255 (accepted all)

  -- What is printed where it is accepted, and where it is refused.
  lines_printed : all_frames ws ≡ true → word_lines (kept_from met ws) ≡ printed_trimmed text
  unfolding printed_trimmed
  lines_printed all = rw (le-ltb 4096 (length text) short, all) refl

  number_printed : all_frames ws ≡ false → refusal_text 1 ≡ printed_trimmed text
  unfolding printed_trimmed
  number_printed all = rw (le-ltb 4096 (length text) short, all) refl

  refusing : (t : Bool) → all_frames ws ≡ t → not t ≡ refuses_trimming text
  refusing t all = rw (le-ltb 4096 (length text) short, all) refl

  front : all_frames ws ≡ true → (kept : ℕ) → 256 * kept ≡ answer → take kept (trimmed_words ws 0 255 255 255) ≡ kept_from met ws
  front all kept told =
      ap (take kept) (sym (accepted_words ws 0 255 255 255 (accepted all)))
      ∙ take_at (kept_from met ws) (replicate (length ws - length (kept_from met ws)) 0) kept (omega (arith, told, counted all))

  -- No refusal has a number that is a count.
  no_count : (r : TrimRefusal) (n : ℕ) → ¬ (refusal_number r ≡ 256 * n)
  no_count NoFrame n e = omega (arith, e)
  no_count TooLong n e = omega (arith, e)
  no_count NoEdition n e = omega (arith, e)

  -- What is printed of words that are those of the text, once they are trimmed.
  module _ (log : List ℕ) (same : log ≡ ws) where
    pub of_accepted : (kept : ℕ) → answer_told (Ok kept) ≡ trim_answer log 0 255 255 255
        → (word_lines (take kept (trimmed_words log 0 255 255 255)) ≡ printed_trimmed text) × (false ≡ refuses_trimming text)
    of_accepted kept told = rw same (go (all_frames ws) refl)
      where
        go : (t : Bool) → all_frames ws ≡ t
            → (word_lines (take kept (trimmed_words ws 0 255 255 255)) ≡ printed_trimmed text) × (false ≡ refuses_trimming text)
        go true all = (ap word_lines (front all kept (rw same at told)) ∙ lines_printed all, refusing true all)
        go false all = absurd (omega (arith, rw same at told, refused all))

    pub of_refused : (r : TrimRefusal) → answer_told (Err r) ≡ trim_answer log 0 255 255 255
        → (refusal_text (refusal_number r) ≡ printed_trimmed text) × (true ≡ refuses_trimming text)
    of_refused r told = go (all_frames ws) refl
      where
        go : (t : Bool) → all_frames ws ≡ t → (refusal_text (refusal_number r) ≡ printed_trimmed text) × (true ≡ refuses_trimming text)
        go true all = absurd (no_count r _ (rw same at told ∙ sym (counted all)))
        go false all = (ap refusal_text (rw same at told ∙ refused all) ∙ number_printed all, refusing false all)
