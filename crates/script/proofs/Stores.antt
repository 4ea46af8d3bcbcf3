-- Runs of stores: one behind the other they are one run; one from the start of a list stands in front of what is left of it; and one into the
-- part of a list that is lent from a place on is, once the part is back, one from that place.
-- Rests on nothing.
use Rattle.std.proofs.Common.{◌≡◌, ◌∙◌, ap, sym, List, [], ◌∷◌, ◌++◌, append_assoc, append-nil, ℕ, suc, ◌+◌, ◌-◌, ◌≤◌, zero-add, add-zero, arith, length, take, drop, set, length-drop, drop_of_length-le, drop-drop}
use borrow.Author.Rules.{part_to_end}
use lib.Seq.{sets, sets-eq}

further : (n k : ℕ) → n + suc k ≡ suc n + k
further n k = omega arith

pub behind : (l : List ℕ) (n : ℕ) (xs ys : List ℕ) → sets (sets l n xs) (n + length xs) ys ≡ sets l n (xs ++ ys)
behind l n [] ys = ap (λ (k : ℕ). sets l k ys) (add-zero n)
behind l n (x ∷ xs) ys =
    ap (λ (k : ℕ). sets (sets (set l n x) (suc n) xs) k ys) (further n (length xs)) ∙ behind (set l n x) (suc n) xs ys

pub from_start : (l xs : List ℕ) → length xs ≤ length l → sets l 0 xs ≡ xs ++ drop (length xs) l
from_start l xs room = rw (zero-add (length xs)) at (sets-eq xs l 0 (omega (arith, room)))

pub lent : (l xs : List ℕ) (at : ℕ) → at + length xs ≤ length l
    → take at l ++ (sets (take (length l - at) (drop at l)) 0 xs ++ drop (length l - at) (drop at l)) ≡ sets l at xs
lent l xs at room =
    let none : drop (length l - at) (drop at l) ≡ [] = drop_of_length-le (drop at l) {i = length l - at} (omega (arith, length-drop at l)) in
    rw (
      part_to_end l at,
      none,
      append-nil (sets (drop at l) 0 xs),
      from_start (drop at l) xs (omega (arith, room, length-drop at l)),
      drop-drop (length xs) at l,
    )
    (sym (sets-eq xs l at room ∙ append_assoc (take at l) xs (drop (at + length xs) l)))
