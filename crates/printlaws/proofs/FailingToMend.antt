-- A captured script is refused exactly where 06 alone is printed: no line of a clean script is 06.
-- Rests on bits' Logic and mend's Cleaning.
use Rattle.std.proofs.Common.{◌≡◌, ℕ, Bool, true, false, List, [], ◌∷◌, ◌++◌, refl, ap, eqb, ◌↔◌, get_or}
use mathlib.Core.List.{flat_map}
use lib.Seq.{append_snoc}
use Rattle.bits.proofs.Logic.{contrary}
use Rattle.bus.specs.Kinds.{is_kind, operands_of}
use Rattle.text.specs.Digits.{digit_code, digit_value, pair_value}
use Rattle.text.specs.Lines.{lf, Line, lines_of}
use Rattle.text.specs.Frames.{leading_byte, is_frame}
use Rattle.mend.specs.Line.{bytes_of, mended}
use Rattle.mend.specs.Mend.{clean_of}
use Rattle.mend.proofs.Cleaning.{clean_in, of_a_fit, of_another}
use Rattle.prints.specs.Mended.{refuses_mending, printed_mended}

abbrev six : List ℕ
six = 48 ∷ 54 ∷ lf ∷ []

not_six : (bytes later : List ℕ) → is_frame bytes ≡ true → ¬ (bytes ++ lf ∷ later ≡ six)
unfolding is_kind operands_of digit_value pair_value leading_byte is_frame
not_six [] later is e = contrary false refl is
not_six (b ∷ []) later is e = contrary false refl is
not_six (b ∷ d ∷ bytes) later is e =
    let first : b ≡ 48 = ap (λ l. get_or l 0 0) e in
    let second : d ≡ 54 = ap (λ l. get_or l 1 0) e in
    contrary false refl (rw (first, second) at is)

none_six : (ls : List Line) → ¬ (flat_map clean_in ls ≡ six)
unfolding flat_map
none_six [] e = contrary false refl (ap (λ (l : List ℕ). eqb (get_or l 0 0) 48) e)
none_six (l ∷ ls) e = go (is_frame (mended (bytes_of l))) refl (none_six ls)
  where
    go : (t : Bool) → is_frame (mended (bytes_of l)) ≡ t → ¬ (flat_map clean_in ls ≡ six) → ⊥
    go true is none =
        not_six (mended (bytes_of l)) (flat_map clean_in ls) is
        (rw (of_a_fit (bytes_of l) is, append_snoc (mended (bytes_of l)) lf (flat_map clean_in ls)) at e)
    go false is none = none (rw (of_another (bytes_of l) is) at e)

pub mending : (text : List ℕ) → (refuses_mending text ≡ true) ↔ (printed_mended text ≡ six)
unfolding digit_code clean_of printed_mended
mending text = (λ e. rw (e) refl, go (refuses_mending text) refl)
  where
    go : (t : Bool) → refuses_mending text ≡ t → printed_mended text ≡ six → refuses_mending text ≡ true
    go true is printed = is
    go false is printed = absurd (none_six (lines_of text) (rw (is) at printed))
