-- What a run gives back, by the length of the text and by its LFs.
-- Rests on text's FirstLine.
use Rattle.std.proofs.Common.{◌≡◌, ◌∙◌, refl, Bool, true, false, cond, not, List, [], ◌∷◌, ℕ, suc, ◌+◌, ◌*◌, ◌<◌, ◌≤◌, arith, eqb, length, lt-ltb, le-ltb}
use Rattle.bits.specs.Bit.{num}
use Rattle.text.specs.Lines.{Line, ended, rest, before_lines, lines_of, line_count}
use Rattle.text.proofs.FirstLine.{a_line}
use Rattle.script.specs.Run.{run_number, ran_of}
use Rattle.account.specs.Script.{endings, has_rest, line_total}

-- A byte set before the first of some lines leaves their number.
set_before : (b : ℕ) (ls : List Line) → 0 < length ls → length (before_lines b ls) ≡ length ls
set_before b [] some = absurd (omega (arith, some))
set_before b (l ∷ ls) some = refl

-- One line more, or none, on either side.
one_more_lem : (n e r : ℕ) → n ≡ e + r → suc n ≡ 1 + e + r
one_more_lem n e r same = omega (arith, same)

no_more : (n e r : ℕ) → n ≡ e + r → n ≡ 0 + e + r
no_more n e r same = omega (arith, same)

pub lines_counted : (text : List ℕ) → line_count text ≡ line_total text
unfolding lines_of
lines_counted [] = refl
lines_counted (b ∷ []) = go (eqb b 10)
  where
    go : (ends : Bool) → length (cond ends (ended [] ∷ []) (rest (b ∷ []) ∷ [])) ≡ num ends + 0 + num (not ends)
    go true = refl
    go false = refl
lines_counted (b ∷ c ∷ text) = go (eqb b 10) (lines_of (c ∷ text)) (a_line (c ∷ text) (omega arith)) (lines_counted (c ∷ text))
  where
    go : (ends : Bool) (ls : List Line) → 0 < length ls → length ls ≡ line_total (c ∷ text)
        → length (cond ends (ended [] ∷ ls) (before_lines b ls)) ≡ num ends + endings (c ∷ text) + num (has_rest (c ∷ text))
    go true ls some same = one_more_lem (length ls) (endings (c ∷ text)) (num (has_rest (c ∷ text))) same
    go false ls some same = set_before b ls some ∙ no_more (length ls) (endings (c ∷ text)) (num (has_rest (c ∷ text))) same

-- The number of a run where an answer line has w bytes.
module _ (w : ℕ) (text : List ℕ) (room : ℕ) where
  pub number_too_long : 4096 < length text → run_number w text room ≡ 6
  unfolding run_number
  number_too_long long = rw (lt-ltb 4096 (length text) long)

  pub number_no_room : length text ≤ 4096 → room < w * line_total text → run_number w text room ≡ 7
  unfolding run_number
  number_no_room short less = rw (le-ltb 4096 (length text) short, lines_counted text, lt-ltb room (w * line_total text) less)

  pub number_runs : length text ≤ 4096 → w * line_total text ≤ room → run_number w text room ≡ 0
  unfolding run_number
  number_runs short enough = rw (le-ltb 4096 (length text) short, lines_counted text, le-ltb room (w * line_total text) enough)

  -- And what it gives back.
  pub told_too_long : 4096 < length text → ran_of w text room ≡ record { number = 6; lines = 0 }
  told_too_long long = rw (number_too_long long)

  pub told_no_room : length text ≤ 4096 → room < w * line_total text → ran_of w text room ≡ record { number = 7; lines = 0 }
  told_no_room short less = rw (number_no_room short less)

  pub told_runs : length text ≤ 4096 → w * line_total text ≤ room → ran_of w text room ≡ record { number = 0; lines = line_total text }
  told_runs short enough = rw (number_runs short enough, lines_counted text)
