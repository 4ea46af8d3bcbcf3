-- A list that is copied into the middle of another, from a place on, is a run of stores.
-- Rests on nothing.
use Rattle.std.proofs.Common.{◌≡◌, ◌∙◌, sym, List, ◌++◌, ℕ, ◌+◌, ◌-◌, ◌≤◌, arith, length, take, drop, append_assoc, drop-drop}
use lib.Seq.{sets, sets-eq}

pub copied : (d s : List ℕ) (at n : ℕ) → length s ≡ n → at + n ≤ length d
    → take at d ++ (s ++ drop (at + n - at) (drop at d)) ≡ sets d at s
copied d s at n long fits =
    let behind : at + n - at ≡ n = omega arith in
    rw (behind, drop-drop n at d, ← long) (sym (append_assoc (take at d) s (drop (at + length s) d)) ∙ sym (sets-eq s d at (omega arith)))
