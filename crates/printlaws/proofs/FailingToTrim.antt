-- A script that is to be trimmed is refused exactly where 06 or 01 stands alone: no line that says an event is one of these.
-- Rests on bits' Logic, and on Trimmed.
use Rattle.std.proofs.Common.{◌≡◌, ◌↔◌, inl, inr, ℕ, Bool, true, false, List, ◌∷◌, ◌++◌, length, refl, ap, get_or, arith, ltb-false}
use Rattle.bits.proofs.Logic.{contrary}
use Rattle.bus.specs.Event.{Event}
use Rattle.chip.specs.declared.Chip.{Chip}
use Rattle.text.specs.Digits.{digit_code}
use Rattle.text.specs.Lines.{Line, lines_of}
use Rattle.script.specs.Run.{too_long}
use Rattle.journal.specs.Words.{all_frames}
use Rattle.mendlaws.specs.Says.{Digit, figure, letter, Says, reset, begin_read, end_cycle, begin_write, levels}
use Rattle.prints.specs.Trimmed.{journal_of, refuses_trimming, printed_trimmed}
use Rattle.printlaws.specs.Refused.{long_text_refused, line_refused, IsEither}
use Rattle.printlaws.specs.Trimmed.{KeptLines, none, kept, dropped}
use Rattle.printlaws.proofs.Trimmed.{all_said, kept_printed}

-- The byte at a place of equal lists.
at : {l m : List ℕ} (n : ℕ) → l ≡ m → get_or l n 0 ≡ get_or m n 0
at n is = ap (λ l. get_or l n 0) is

no_lf : {code n : ℕ} → Digit code n → ¬ (code ≡ 10)
no_lf (figure few is) lf = omega (arith, is, lf)
no_lf (letter many few is) lf = omega (arith, is, lf)

not_six : {bytes : List ℕ} {e : Event} (later : List ℕ) → Says bytes e → ¬ (bytes ++ 10 ∷ later ≡ long_text_refused)
not_six later reset is = omega (arith, at 1 is)
not_six later (begin_read a) is = omega (arith, at 1 is)
not_six later end_cycle is = omega (arith, at 1 is)
not_six later (begin_write a d) is = omega (arith, at 1 is)
not_six later (levels p d) is = omega (arith, at 1 is)

not_one : {bytes : List ℕ} {e : Event} (later : List ℕ) → Says bytes e → ¬ (bytes ++ 10 ∷ later ≡ line_refused)
not_one later reset is = omega (arith, at 1 is)
not_one later (begin_read a) is = no_lf a.first (at 2 is)
not_one later end_cycle is = omega (arith, at 1 is)
not_one later (begin_write a d) is = omega (arith, at 1 is)
not_one later (levels p d) is = omega (arith, at 1 is)

kept_not_six : {c : Chip} {ls : List Line} {out : List ℕ} → KeptLines c ls out → ¬ (out ≡ long_text_refused)
kept_not_six none is = omega (arith, at 0 is)
kept_not_six (kept says moves later) is = not_six _ says is
kept_not_six (dropped says stays later) is = kept_not_six later is

kept_not_one : {c : Chip} {ls : List Line} {out : List ℕ} → KeptLines c ls out → ¬ (out ≡ line_refused)
kept_not_one none is = omega (arith, at 0 is)
kept_not_one (kept says moves later) is = not_one _ says is
kept_not_one (dropped says stays later) is = kept_not_one later is

pub six_or_one : (text : List ℕ)
    → (refuses_trimming text ≡ true) ↔ IsEither (printed_trimmed text) long_text_refused line_refused
unfolding printed_trimmed digit_code
six_or_one text = (go (too_long text) (all_frames (journal_of text)) refl refl, back (too_long text) (all_frames (journal_of text)) refl refl)
  where
    go : (long all : Bool) → too_long text ≡ long → all_frames (journal_of text) ≡ all → refuses_trimming text ≡ true
        → IsEither (printed_trimmed text) long_text_refused line_refused
    go true all l k refused = inl (rw (l) refl)
    go false false l k refused = inr (rw (l, k) refl)
    go false true l k refused = absurd (contrary false refl (rw (l, k) at refused))

    back : (long all : Bool) → too_long text ≡ long → all_frames (journal_of text) ≡ all
        → IsEither (printed_trimmed text) long_text_refused line_refused → refuses_trimming text ≡ true
    back true all l k alone = rw (l) refl
    back false false l k alone = rw (l, k) refl
    back false true l k (inl is) = absurd (kept_not_six (kept_printed text (ltb-false 4096 (length text) l) (all_said (lines_of text) k)) is)
    back false true l k (inr is) = absurd (kept_not_one (kept_printed text (ltb-false 4096 (length text) l) (all_said (lines_of text) k)) is)
