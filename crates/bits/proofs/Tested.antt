-- A test that antt computes at every number below a bound, and the laws that turn it into the fact at each of them.
-- Rests on nothing.
use Rattle.std.proofs.Common.{◌≡◌, refl, subst, sym, Bool, true, false, not, ◌&&◌, List, [], ◌∷◌, ⊎_elim, ℕ, zero, suc, ◌<◌, not-suc-le-zero, eq-or-lt_of_le, le_of_suc-le-suc, T, eqb, eqb→eq, length}

pub left : (a b : Bool) → T (a && b) → T a
left true b t = tt
left false b t = t

pub right : (a b : Bool) → T (a && b) → T b
right true b t = t
right false b t = absurd t

-- The test passes at every number below n.
abbrev pub all : ℕ → (ℕ → Bool) → Bool
all zero f = true
all (suc n) f = f n && all n f

pub each : (n : ℕ) (f : ℕ → Bool) → T (all n f) → (k : ℕ) → k < n → T (f k)
each zero f t k h = absurd (not-suc-le-zero h)
each (suc n) f t k h =
    ⊎_elim (λ (e : k ≡ n). subst (λ (m : ℕ). T (f m)) (sym e) (left (f n) (all n f) t))
    (λ (l : k < n). each n f (right (f n) (all n f) t) k l) (eq-or-lt_of_le (le_of_suc-le-suc h))

-- Two functions of a number below n give the same numbers.
abbrev pub alike : ℕ → (ℕ → ℕ) → (ℕ → ℕ) → Bool
alike n f g = all n (λ k. eqb (f k) (g k))

pub numbers : (n : ℕ) (f g : ℕ → ℕ) → T (alike n f g) → (k : ℕ) → k < n → f k ≡ g k
numbers n f g t k h = eqb→eq (f k) (g k) (each n (λ k. eqb (f k) (g k)) t k h)

-- The same of two numbers, below m and below n.
pub numbers_of_two : (m n : ℕ) (f g : ℕ → ℕ → ℕ) → T (all m (λ i. alike n (f i) (g i)))
    → (i k : ℕ) → i < m → k < n → f i k ≡ g i k
numbers_of_two m n f g t i k hi hk = numbers n (f i) (g i) (each m (λ i. alike n (f i) (g i)) t i hi) k hk

-- Two functions of a number below n give the same bits.
abbrev pub same : Bool → Bool → Bool
same true b = b
same false b = not b

pub same_is : (a b : Bool) → T (same a b) → a ≡ b
same_is true true t = refl
same_is true false t = absurd t
same_is false true t = absurd t
same_is false false t = refl

pub bits : (n : ℕ) (f g : ℕ → Bool) → T (all n (λ k. same (f k) (g k))) → (k : ℕ) → k < n → f k ≡ g k
bits n f g t k h = same_is (f k) (g k) (each n (λ k. same (f k) (g k)) t k h)

pub bits_of_two : (m n : ℕ) (f g : ℕ → ℕ → Bool) → T (all m (λ i. all n (λ k. same (f i k) (g i k))))
    → (i k : ℕ) → i < m → k < n → f i k ≡ g i k
bits_of_two m n f g t i k hi hk = bits n (f i) (g i) (each m (λ i. all n (λ k. same (f i k) (g i k))) t i hi) k hk

-- The test passes at every list of n bits.
abbrev pub every : ℕ → (List Bool → Bool) → Bool
every zero f = f []
every (suc n) f = every n (λ bs. f (true ∷ bs)) && every n (λ bs. f (false ∷ bs))

pub each_list : (f : List Bool → Bool) (bs : List Bool) → T (every (length bs) f) → T (f bs)
each_list f [] t = t
each_list f (true ∷ bs) t =
    each_list (λ bs. f (true ∷ bs)) bs (left (every (length bs) (λ bs. f (true ∷ bs))) (every (length bs) (λ bs. f (false ∷ bs))) t)
each_list f (false ∷ bs) t =
    each_list (λ bs. f (false ∷ bs)) bs (right (every (length bs) (λ bs. f (true ∷ bs))) (every (length bs) (λ bs. f (false ∷ bs))) t)
