-- What the clean script has of a line, and how long it can be: longer than the text by one byte at most.
-- Rests on Dropping and Fit.
use Rattle.std.proofs.Common.{◌≡◌, ◌∙◌, refl, ap, sym, Bool, true, false, cond, List, [], ◌∷◌, ◌++◌, map, ℕ, suc, ◌+◌, ◌≤◌, arith, Bor, eqb, length, drop, length-append}
use mathlib.Core.List.{flat_map}
use lib.Seq.{append_snoc}
use Rattle.std.specs.List.{sum_by}
use Rattle.std.proofs.lemmas.List.Sums.{sum_by-cons}
use Rattle.text.specs.Lines.{lf, Line, ended, rest, before_lines, lines_of}
use Rattle.text.specs.declared.line.Line as lent
use Rattle.text.specs.Answers.{line_of, bytes_lent}
use Rattle.text.specs.Frames.{is_frame}
use Rattle.mend.specs.Line.{bytes_of, raised, without_cr, mended, clean_line}
use Rattle.mend.specs.Mend.{clean_of, in_front}
use Rattle.mend.proofs.Dropping.{no_longer}
use Rattle.mend.proofs.Fit.{mended_length}

-- What the clean script has of a line of a text.
abbrev pub clean_in : Line → List ℕ
clean_in l = clean_line (bytes_of l)

-- The bytes of a line as they are lent.
bytes_lent_lem : (l : lent.Line) → (bytes_lent l).now ≡ bytes_of (line_of l)
bytes_lent_lem (lent.TheVariants.Ended bytes) = refl
bytes_lent_lem (lent.TheVariants.Rest bytes) = refl

pub bytes_got : (l : lent.Line) (bytes : Bor (List ℕ)) → bytes ≡ bytes_lent l → bytes.now ≡ bytes_of (line_of l)
bytes_got l bytes is = ap (λ (b : Bor (List ℕ)). b.now) is ∙ bytes_lent_lem l

module _ (line : List ℕ) where
  pub of_a_fit : is_frame (mended line) ≡ true → clean_line line ≡ mended line ++ lf ∷ []
  unfolding clean_line
  of_a_fit is = rw (is)

  pub of_another : is_frame (mended line) ≡ false → clean_line line ≡ []
  unfolding clean_line
  of_another is = rw (is)

  pub fit_length : is_frame (mended line) ≡ true → length (clean_line line) ≡ length (without_cr line) + 1
  fit_length is = ap length (of_a_fit is) ∙ length-append (mended line) (lf ∷ []) ∙ ap (λ n. n + 1) (mended_length line)

  -- What is put of it: its bytes, raised, and LF.
  pub line_put : is_frame (mended line) ≡ true → (out : List ℕ)
      → map raised (without_cr line) ++ lf ∷ drop (suc (length (without_cr line))) out ≡ in_front (clean_line line) out
  unfolding mended
  line_put is out =
      let long : suc (length (without_cr line)) ≡ length (clean_line line) = omega (arith, fit_length is) in
      rw (long, of_a_fit is) (sym (append_snoc (mended line) lf (drop (length (mended line ++ lf ∷ [])) out)))

  clean_at_most : length (clean_line line) ≤ length line + 1
  clean_at_most = go (is_frame (mended line)) refl
    where
      go : (t : Bool) → is_frame (mended line) ≡ t → length (clean_line line) ≤ length line + 1
      go true is = omega (arith, fit_length is, no_longer line)
      go false is = omega (arith, ap length (of_another is))

-- The clean script is as long as what it has of each line together.
abbrev pub clean_length : Line → ℕ
clean_length l = length (clean_in l)

pub lengths_add_up : (ls : List Line) → sum_by clean_length ls ≡ length (flat_map clean_in ls)
unfolding flat_map
lengths_add_up [] = refl
lengths_add_up (l ∷ ls) = omega (arith, sum_by-cons clean_length l ls, lengths_add_up ls, length-append (clean_in l) (flat_map clean_in ls))

-- The lines of a text, each with an LF.
abbrev with_ends : List Line → ℕ
with_ends [] = 0
with_ends (l ∷ ls) = length (bytes_of l) + 1 + with_ends ls

lines_with_ends : (text : List ℕ) → with_ends (lines_of text) ≤ length text + 1
unfolding lines_of
lines_with_ends [] = omega arith
lines_with_ends (b ∷ text) = go (eqb b lf) (lines_of text) (lines_with_ends text)
  where
    before : (ls : List Line) → with_ends ls ≤ length text + 1 → with_ends (before_lines b ls) ≤ suc (length text) + 1
    before [] most = omega arith
    before (ended bytes ∷ ls) most = omega (arith, most)
    before (rest bytes ∷ ls) most = omega (arith, most)

    go : (t : Bool) (ls : List Line) → with_ends ls ≤ length text + 1 → with_ends (cond t (ended [] ∷ ls) (before_lines b ls)) ≤ suc (length text) + 1
    go true ls most = omega (arith, most)
    go false ls most = before ls most

no_more_than : (ls : List Line) → length (flat_map clean_in ls) ≤ with_ends ls
unfolding flat_map
no_more_than [] = omega arith
no_more_than (l ∷ ls) = omega (arith, length-append (clean_in l) (flat_map clean_in ls), clean_at_most (bytes_of l), no_more_than ls)

pub one_longer_at_most : (text : List ℕ) → length (clean_of text) ≤ length text + 1
unfolding clean_of
one_longer_at_most text = omega (arith, no_more_than (lines_of text), lines_with_ends text)
