-- What follows of truth values: a contradiction, the parts of a conjunction and of a disjunction, what holds either way, and a test of two
-- numbers turned round.
-- Rests on nothing.
use Rattle.std.proofs.Common.{◌≡◌, ◌∙◌, refl, sym, subst, Bool, true, false, cond, ◌&&◌, ◌||◌, ℕ, T, eqb, eqb-true, eq-eqb, ne_eqb}
use mathlib.Core.Bool.{and-eq-true_iff}
use borrow.Author.Tests.{eqb-false}

-- What is so and not so.
pub contrary : (b : Bool) → b ≡ false → b ≡ true → ⊥
contrary b off on = subst T (sym on ∙ off) tt

-- Both of two that hold together.
pub both : (a b : Bool) → (a && b) ≡ true → (a ≡ true) × (b ≡ true)
both a b e = (and-eq-true_iff a b).0 e

-- What follows from either of two follows where one of them holds.
pub one_of : {X : Type 0} (a b : Bool) → (a || b) ≡ true → (a ≡ true → X) → (b ≡ true → X) → X
one_of true b e first second = first refl
one_of false b e first second = second e

-- Neither holds where their disjunction does not.
pub neither : (a b : Bool) → (a || b) ≡ false → (a ≡ false) × (b ≡ false)
neither true b e = absurd (contrary true e refl)
neither false b e = (refl, e)

-- What is so of both outcomes of a test is so of its outcome.
pub by_test : {X : Type 0} (P : X → Type 0) (b : Bool) (y n : X) → (b ≡ true → P y) → (b ≡ false → P n) → P (cond b y n)
by_test P true y n hy hn = hy refl
by_test P false y n hy hn = hn refl

-- What holds either way.
pub either_way : {X Y : Type 0} (P : X → Y) (v : Y) (b : Bool) (y n : X) → P y ≡ v → P n ≡ v → P (cond b y n) ≡ v
either_way P v true y n hy hn = hy
either_way P v false y n hy hn = hn

-- One number is another exactly where that is the one.
pub turned : (m n : ℕ) → eqb m n ≡ eqb n m
turned m n = go (eqb n m) refl
  where
    go : (b : Bool) → eqb n m ≡ b → eqb m n ≡ b
    go true same = eq-eqb m n (sym (eqb-true n m same))
    go false other = ne_eqb m n (λ e. eqb-false n m other (sym e))
