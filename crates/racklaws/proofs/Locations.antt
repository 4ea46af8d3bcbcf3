-- Where the registers of a rack's cards are.
-- Rests on Seek and on bits' Logic.
use Rattle.std.proofs.Common.{◌≡◌, refl, sym, ap, subst, ◌∙◌, Bool, true, false, cond, List, [], ◌∷◌, ℕ, zero, suc, ◌<◌, ◌≤◌, ◌+◌, ◌-◌, ◌%◌, arith, zero-add, le_of_suc-le-suc, ltb, leb, length, leb-true, ltb-true, le-leb, lt-ltb, Option, Some, None}
use Rattle.bits.proofs.Logic.{both, by_test}
use Rattle.rack.specs.Targets.{Target, answers_at, register_at, target_from}
use Rattle.racklaws.specs.Whom.{Found, no_card, found, seek}
use Rattle.racklaws.specs.Bases.{base_at, GoodBases, Located}
use Rattle.racklaws.proofs.Seek.{as_found, sought}

-- A card answers at its eight locations.
answers : (b n : ℕ) → n < 8 → answers_at b (b + n) ≡ true
unfolding answers_at
answers b n h = rw (le-leb b (b + n) (omega arith), lt-ltb (b + n) (b + 8) (omega (arith, h)))

-- It answers at no other.
within : (b a : ℕ) → answers_at b a ≡ true → (b ≤ a) × (a < b + 8)
unfolding answers_at
within b a e = let two = both (leb b a) (ltb a (b + 8)) e in (leb-true b a two.0, ltb-true a (b + 8) two.1)

-- The card at a place is the first to answer there, where no other has the location.
target_here : (i : ℕ) (bs : List ℕ) (j n : ℕ) → j < length bs → n < 8
    → ((k : ℕ) → k < length bs → answers_at (base_at bs k) (base_at bs j + n) ≡ true → k ≡ j) → target_from i bs (base_at bs j + n) ≡ Some (i + j, n % 4)
unfolding target_from
target_here i [] j n h m only = absurd (omega (arith, h))
target_here i (b ∷ bs) zero n h m only =
    let place : i + 0 ≡ i = omega arith in
    let distance : (b + n) - b ≡ n = omega arith in
    rw (answers b n m, place, distance)
target_here i (b ∷ bs) (suc j) n h m only = go (answers_at b (base_at bs j + n)) refl (target_here (suc i) bs j n (le_of_suc-le-suc h) m later)
  where
    later : (k : ℕ) → k < length bs → answers_at (base_at bs k) (base_at bs j + n) ≡ true → k ≡ j
    later k g e = omega (arith, only (suc k) (omega (arith, g)) e)

    go : (t : Bool) → answers_at b (base_at bs j + n) ≡ t → target_from (suc i) bs (base_at bs j + n) ≡ Some (suc i + j, n % 4)
        → cond (answers_at b (base_at bs j + n)) (Some (i, register_at b (base_at bs j + n))) (target_from (suc i) bs (base_at bs j + n)) ≡ Some (i + suc j, n % 4)
    go true e behind = absurd (omega (arith, only 0 (omega arith) e))
    go false e behind = let place : suc i + j ≡ i + suc j = omega arith in rw (e, behind, place)

-- Where no card has the location, none is found.
target_nowhere : (i : ℕ) (bs : List ℕ) (a : ℕ) → ((k : ℕ) → k < length bs → answers_at (base_at bs k) a ≡ false) → target_from i bs a ≡ None
unfolding target_from
target_nowhere i [] a none = refl
target_nowhere i (b ∷ bs) a none = rw (none 0 (omega arith)) (target_nowhere (suc i) bs a (λ k h. none (suc k) (omega (arith, h))))

-- A register that is found is the address modulo 4, since each base is a multiple of 8.
abbrev ByAddress : ℕ → Found → Type 0
ByAddress a no_card = Unit {0}
ByAddress a (found i register) = register ≡ a % 4

by_address : (i : ℕ) (bs : List ℕ) (a : ℕ) → ((k : ℕ) → k < length bs → base_at bs k % 8 ≡ 0) → ByAddress a (as_found (target_from i bs a))
unfolding target_from
by_address i [] a multiples = tt
by_address i (b ∷ bs) a multiples =
    by_test (λ (t : Option Target). ByAddress a (as_found t)) (answers_at b a) (Some (i, register_at b a)) (target_from (suc i) bs a)
    (λ e. let two = within b a e in omega (arith, multiples 0 (omega arith), two.0, two.1))
    (λ e. by_address (suc i) bs a (λ k h. multiples (suc k) (omega (arith, h))))

module _ (bs : List ℕ) (good : GoodBases bs) where
  -- Two cards have no location in common.
  one_card_lem : (i j n m : ℕ) → i < length bs → j < length bs → n < 8 → m < 8 → base_at bs i + n ≡ base_at bs j + m → i ≡ j
  one_card_lem i j n m h g n< m< same =
      good.apart i j h g (omega (arith, good.multiples i h, good.multiples j g, n<, m<, same))

  only_one : (j n : ℕ) → j < length bs → n < 8 → (k : ℕ) → k < length bs → answers_at (base_at bs k) (base_at bs j + n) ≡ true → k ≡ j
  only_one j n h m k g e =
      let two = within (base_at bs k) (base_at bs j + n) e in
      one_card_lem k j ((base_at bs j + n) - base_at bs k) n g h (omega (arith, two.0, two.1)) m (omega (arith, two.0))

  nowhere : (a : ℕ) → ((i n : ℕ) → i < length bs → n < 8 → ¬ (a ≡ base_at bs i + n)) → (k : ℕ) → k < length bs → answers_at (base_at bs k) a ≡ false
  nowhere a none k h = go (answers_at (base_at bs k) a) refl
    where
      go : (t : Bool) → answers_at (base_at bs k) a ≡ t → answers_at (base_at bs k) a ≡ false
      go true e =
          let two = within (base_at bs k) a e in
          absurd (none k (a - base_at bs k) h (omega (arith, two.0, two.1)) (omega (arith, two.0)))
      go false e = e

  register_found : (a i r : ℕ) → seek 0 a bs ≡ found i r → r ≡ a % 4
  register_found a i r e = subst (ByAddress a) (sym (sought 0 a bs) ∙ e) (by_address 0 bs a good.multiples)

  pub located : Located bs
  located = record {
    here = λ i n h m. sought 0 (base_at bs i + n) bs ∙ ap as_found (target_here 0 bs i n h m (only_one i n h m)) ∙ ap (λ (j : ℕ). found j (n % 4)) (zero-add i);
    nowhere = λ a none. sought 0 a bs ∙ ap as_found (target_nowhere 0 bs a (nowhere a none));
    one_card = one_card_lem;
    same_register = λ a b i r q e f same. register_found a i r e ∙ same ∙ sym (register_found b i q f);
    only_then = λ a b i r q e f same. sym (register_found a i r e) ∙ same ∙ register_found b i q f;
  }
