-- The test of two lists answers exactly whether they are equal.
-- Rests on Logic.
use Rattle.std.proofs.Common.{◌≡◌, ◌∙◌, refl, ap, true, false, ◌&&◌, List, [], ◌∷◌, ℕ, eqb, eqb-true, eq-eqb}
use Rattle.bits.specs.Same.{same_bytes}
use Rattle.bits.proofs.Logic.{both, contrary}

pub same_lists : (l m : List ℕ) → same_bytes l m ≡ true → l ≡ m
same_lists [] [] same = refl
same_lists [] (y ∷ ys) same = absurd (contrary false refl same)
same_lists (x ∷ xs) [] same = absurd (contrary false refl same)
same_lists (x ∷ xs) (y ∷ ys) same =
    let k = both (eqb x y) (same_bytes xs ys) same in
    λ i. eqb-true x y k.0 i ∷ same_lists xs ys k.1 i

pub same_self : (l : List ℕ) → same_bytes l l ≡ true
same_self [] = refl
same_self (x ∷ xs) = ap (λ b. b && same_bytes xs xs) (eq-eqb x x refl) ∙ same_self xs
