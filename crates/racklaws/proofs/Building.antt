-- Which bases make a rack, in plain numbers; and that any others are refused, and give none.
-- Rests on the laws of truth values.
use Rattle.std.proofs.Common.{◌≡◌, refl, sym, ap, Bool, true, false, not, ◌&&◌, ◌||◌, List, [], ◌∷◌, ℕ, zero, suc, ◌<◌, ◌≤◌, ◌%◌, arith, le_of_suc-le-suc, eqb, leb, length, Ok, Err, leb-true, le-leb, eqb-true, eq-eqb, ne_eqb}
use borrow.Author.Tests.{not-true}
use Rattle.bits.proofs.Logic.{contrary, both}
use Rattle.rack.specs.Bases.{is_base, is_among, are_bases, makes_rack}
use Rattle.rack.specs.State.{rack_of, built_of}
use Rattle.racklaws.specs.Bases.{base_at, GoodBases}

-- A base is among some where it is at one of their places.
among_at : (b : ℕ) (bs : List ℕ) (i : ℕ) → i < length bs → b ≡ base_at bs i → is_among b bs ≡ true
unfolding is_among
among_at b [] i h e = absurd (omega (arith, h))
among_at b (c ∷ cs) zero h e = rw (eq-eqb b c e)
among_at b (c ∷ cs) (suc i) h e = go (eqb b c) (among_at b cs i (le_of_suc-le-suc h) e)
  where
    go : (t : Bool) → is_among b cs ≡ true → (t || is_among b cs) ≡ true
    go true later = refl
    go false later = later

-- And where it is at none, it is not.
not_among : (b : ℕ) (bs : List ℕ) → ((i : ℕ) → i < length bs → ¬ (b ≡ base_at bs i)) → is_among b bs ≡ false
unfolding is_among
not_among b [] none = refl
not_among b (c ∷ cs) none = rw (ne_eqb b c (none 0 (omega arith))) (not_among b cs (λ i h. none (suc i) (omega (arith, h))))

-- What is asked of the first, and of those behind it.
module _ (b : ℕ) (bs : List ℕ) (e : are_bases (b ∷ bs) ≡ true) where
  parts : (is_base b ≡ true) × (is_among b bs ≡ false) × (are_bases bs ≡ true)
  unfolding are_bases
  parts =
      let first = both (is_base b) (not (is_among b bs) && are_bases bs) e in
      let rest = both (not (is_among b bs)) (are_bases bs) first.1 in
      (first.0, not-true (is_among b bs) rest.0, rest.1)

each_base : (bs : List ℕ) → are_bases bs ≡ true → (i : ℕ) → i < length bs → is_base (base_at bs i) ≡ true
each_base [] e i h = absurd (omega (arith, h))
each_base (b ∷ bs) e zero h = (parts b bs e).0
each_base (b ∷ bs) e (suc i) h = each_base bs (parts b bs e).2 i (le_of_suc-le-suc h)

all_apart : (bs : List ℕ) → are_bases bs ≡ true → (i j : ℕ) → i < length bs → j < length bs → base_at bs i ≡ base_at bs j → i ≡ j
all_apart [] e i j h g same = absurd (omega (arith, h))
all_apart (b ∷ bs) e zero zero h g same = refl
all_apart (b ∷ bs) e zero (suc j) h g same =
    absurd (contrary (is_among b bs) (parts b bs e).1 (among_at b bs j (le_of_suc-le-suc g) same))
all_apart (b ∷ bs) e (suc i) zero h g same =
    absurd (contrary (is_among b bs) (parts b bs e).1 (among_at b bs i (le_of_suc-le-suc h) (sym same)))
all_apart (b ∷ bs) e (suc i) (suc j) h g same = ap suc (all_apart bs (parts b bs e).2 i j (le_of_suc-le-suc h) (le_of_suc-le-suc g) same)

-- Bases that make a rack are good,
pub made_good : (bs : List ℕ) → makes_rack bs ≡ true → GoodBases bs
unfolding makes_rack is_base
made_good bs e =
    let two = both (leb (length bs) 8) (are_bases bs) e in
    let base : (i : ℕ) (h : i < length bs) → (eqb (base_at bs i % 8) 0 ≡ true) × (leb (base_at bs i) 0x7f8 ≡ true) =
    λ i h. both (eqb (base_at bs i % 8) 0) (leb (base_at bs i) 0x7f8) (each_base bs two.1 i h) in
    record {
      few = leb-true (length bs) 8 two.0;
      multiples = λ i h. eqb-true (base_at bs i % 8) 0 (base i h).0;
      last_base = λ i h. leb-true (base_at bs i) 0x7f8 (base i h).1;
      apart = all_apart bs two.1;
    }

-- and good bases make one.
are_bases_lem : (bs : List ℕ) → ((i : ℕ) → i < length bs → base_at bs i % 8 ≡ 0) → ((i : ℕ) → i < length bs → base_at bs i ≤ 0x7f8)
    → ((i j : ℕ) → i < length bs → j < length bs → base_at bs i ≡ base_at bs j → i ≡ j) → are_bases bs ≡ true
unfolding are_bases is_base
are_bases_lem [] multiples last_base apart = refl
are_bases_lem (b ∷ bs) multiples last_base apart =
    rw (
      eq-eqb (b % 8) 0 (multiples 0 (omega arith)),
      le-leb b 0x7f8 (last_base 0 (omega arith)),
      not_among b bs (λ i h e. omega (arith, apart 0 (suc i) (omega arith) (omega (arith, h)) e)),
      are_bases_lem bs (λ i h. multiples (suc i) (omega (arith, h))) (λ i h. last_base (suc i) (omega (arith, h)))
          (λ i j h g e. omega (arith, apart (suc i) (suc j) (omega (arith, h)) (omega (arith, g)) e)),
    )

pub good_made : (bs : List ℕ) → GoodBases bs → makes_rack bs ≡ true
unfolding makes_rack
good_made bs g = rw (le-leb (length bs) 8 g.few, are_bases_lem bs g.multiples g.last_base g.apart)

-- So good bases are accepted, and the rack is theirs; and any others are refused.
pub built_good : (bs : List ℕ) → GoodBases bs → built_of bs ≡ Ok (rack_of bs)
unfolding built_of
built_good bs g = rw (good_made bs g)

pub built_bad : (bs : List ℕ) → ¬ GoodBases bs → built_of bs ≡ Err (record {})
unfolding built_of
built_bad bs n = go (makes_rack bs) refl
  where
    go : (t : Bool) → makes_rack bs ≡ t → built_of bs ≡ Err (record {})
    go true e = absurd (n (made_good bs e))
    go false e = rw e
