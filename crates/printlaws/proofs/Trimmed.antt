-- What is printed of a script that is trimmed is its lines after which the chip is another than before.
-- Rests on bits' Logic, text's WrittenBack, journal's Packed and Exact, and mendlaws' Shapes and OneLine.
use Rattle.std.proofs.Common.{◌≡◌, ◌∙◌, refl, sym, ap, subst, Bool, true, false, cond, List, [], ◌∷◌, ◌++◌, map, ℕ, zero, suc, ◌<◌, ◌≤◌, arith, eq-eqb, length, lt-ltb, le-ltb}
use mathlib.Core.List.{flat_map}
use lib.Seq.{append_snoc}
use Rattle.bits.proofs.Logic.{both, contrary}
use Rattle.bus.specs.Kinds.{is_kind, operands_of}
use Rattle.bus.specs.Event.{Event}
use Rattle.chip.specs.declared.Chip.{Chip}
use Rattle.chip.specs.declared.Edition.TheVariants.{Older}
use Rattle.chip.specs.State.{all_high, power_up_as}
use Rattle.chip.specs.Step.{stepped}
use Rattle.text.specs.Digits.{digit_code}
use Rattle.text.specs.Lines.{lf, Line, ended, rest, lines_of}
use Rattle.text.specs.Frames.{is_frame, frame_of, frame_in}
use Rattle.text.specs.History.{event_of}
use Rattle.text.specs.Written.{written_out, Exact}
use Rattle.text.proofs.WrittenBack.{event_in as event_said, exact_event, written_back}
use Rattle.journal.specs.Words.{word_of, event_in, unused_zero, all_frames, is_frame as is_word}
use Rattle.journal.specs.Same.{same_state}
use Rattle.journal.specs.Trim.{after_word, kept_from}
use Rattle.journal.proofs.Packed.{read_back}
use Rattle.journal.proofs.Exact.{only_then_lem, then}
use Rattle.mendlaws.specs.Says.{Says, AllSay, none as none_say, next}
use Rattle.mendlaws.proofs.OneLine.{says_frame, says_event, frame_says}
use Rattle.prints.specs.Trimmed.{word_said, journal_of, word_line, word_lines, printed_trimmed}
use Rattle.printlaws.specs.Trimmed.{KeptLines, none, kept, dropped, TextKept, SaysEvents}
use Rattle.printlaws.specs.Refused.{long_text_refused, line_refused}

-- The word of a line that says an event.
module _ {bytes : List ℕ} {e : Event} (says : Says bytes e) where
  frame : is_frame bytes ≡ true
  frame = says_frame says

  said : event_said bytes ≡ e
  unfolding frame_of
  said = rw (frame) at (says_event says)

  exact : Exact e
  exact = subst Exact said (exact_event bytes frame)

  as_written : bytes ≡ written_out e
  as_written = written_back bytes frame ∙ ap written_out said

  abbrev word : ℕ
  word = word_said (frame_in (ended bytes))

  packed : word ≡ word_of e
  unfolding frame_in frame_of
  packed = rw (frame) (ap word_of said)

  read : event_in word ≡ e
  read = ap event_in packed ∙ read_back e exact.first_byte exact.second_byte

  unused : unused_zero (operands_of e.kind) e ≡ true
  unused = go (operands_of e.kind) refl
    where
      go : (n : ℕ) → operands_of e.kind ≡ n → unused_zero n e ≡ true
      go zero is = rw (eq-eqb e.first 0 (exact.no_first is), eq-eqb e.second 0 (exact.no_second (omega (arith, is)))) refl
      go (suc zero) is = rw (eq-eqb e.second 0 (exact.no_second (omega (arith, is)))) refl
      go (suc (suc n)) is =
          let some : 0 < suc (suc n) = omega arith in
          let more : 1 < suc (suc n) = omega arith in
          rw (lt-ltb 0 (suc (suc n)) some, lt-ltb 1 (suc (suc n)) more) refl

  framed : is_word (event_in word) ≡ true
  unfolding is_word
  framed =
      let here : is_word e ≡ true = rw (exact.known, unused) refl in
      subst (λ (e : Event). is_word e ≡ true) (sym read) here

  line_back : word_line word ≡ bytes ++ lf ∷ []
  unfolding word_line
  line_back = ap (λ e. written_out e ++ lf ∷ []) read ∙ ap (λ line. line ++ lf ∷ []) (sym as_written)

  module _ (c : Chip) where
    moved : after_word c word ≡ (stepped c e).state
    moved = ap (λ e. (stepped c e).state) read

-- The words of some lines.
abbrev words : List Line → List ℕ
words ls = map (λ (l : Line). word_said (frame_in l)) ls

kept_said : (c : Chip) {ls : List Line} {es : List Event} → AllSay ls es → KeptLines c ls (word_lines (kept_from c (words ls)))
unfolding flat_map kept_from
kept_said c none_say = none
kept_said c (next {bytes} {e} {ls} says all) = go (same_state c (after_word c w)) refl (subst (λ d. KeptLines d ls (word_lines (kept_from (after_word c w) (words ls)))) (moved says c) (kept_said (after_word c w) all))
  where
    w : ℕ
    w = word says

    go : (t : Bool) → same_state c (after_word c w) ≡ t → KeptLines (stepped c e).state ls (word_lines (kept_from (after_word c w) (words ls)))
        → KeptLines c (ended bytes ∷ ls) (word_lines (cond t (kept_from (after_word c w) (words ls)) (w ∷ kept_from (after_word c w) (words ls))))
    go true same later = dropped says (sym (moved says c) ∙ sym (only_then_lem c (after_word c w) same)) later
    go false other later =
        rw (line_back says, append_snoc bytes lf (word_lines (kept_from (after_word c w) (words ls))))
        (kept says (λ is. contrary (same_state c (after_word c w)) other (then c (after_word c w) (sym (moved says c ∙ is)))) later)

all_framed : {ls : List Line} {es : List Event} → AllSay ls es → all_frames (words ls) ≡ true
all_framed none_say = refl
all_framed (next says all) = rw (framed says) (all_framed all)

-- What is no frame has a word that is none.
frame_if : (bytes : List ℕ) → is_word (event_in (word_said (frame_in (ended bytes)))) ≡ true → is_frame bytes ≡ true
unfolding frame_in frame_of is_word is_kind
frame_if bytes e = go (is_frame bytes) refl
  where
    go : (t : Bool) → is_frame bytes ≡ t → is_frame bytes ≡ true
    go true t = t
    go false t = absurd (contrary false refl (rw (t) at e))

no_rest : (bytes : List ℕ) → is_word (event_in (word_said (frame_in (rest bytes)))) ≡ true → ⊥
unfolding frame_in is_word is_kind
no_rest bytes e = contrary false refl e

pub all_said : (ls : List Line) → all_frames (words ls) ≡ true → (es : List Event) × AllSay ls es
all_said [] e = ([], none_say)
all_said (ended bytes ∷ ls) e =
    let k = both (is_word (event_in (word_said (frame_in (ended bytes))))) (all_frames (words ls)) e in
    let later = all_said ls k.1 in
    (event_of (frame_of bytes) ∷ later.0, next (frame_says bytes (frame_if bytes k.0)) later.1)
all_said (rest bytes ∷ ls) e =
    absurd (no_rest bytes (both (is_word (event_in (word_said (frame_in (rest bytes))))) (all_frames (words ls)) e).0)

module _ (text : List ℕ) where
  pub kept_printed : length text ≤ 4096 → SaysEvents text → TextKept text (printed_trimmed text)
  unfolding printed_trimmed
  kept_printed short (es, all) = rw (le-ltb 4096 (length text) short, all_framed all) (kept_said (power_up_as Older all_high) all)

  pub one_refused : length text ≤ 4096 → ¬ SaysEvents text → printed_trimmed text ≡ line_refused
  unfolding printed_trimmed digit_code
  one_refused short other = go (all_frames (journal_of text)) refl
    where
      go : (t : Bool) → all_frames (journal_of text) ≡ t → printed_trimmed text ≡ line_refused
      go true t = absurd (other (all_said (lines_of text) t))
      go false t = rw (le-ltb 4096 (length text) short, t) refl

  pub all_refused : 4096 < length text → printed_trimmed text ≡ long_text_refused
  unfolding printed_trimmed digit_code
  all_refused more = rw (lt-ltb 4096 (length text) more) refl

pub ruleset trimmed_so = (kept_printed, one_refused, all_refused)
