-- The register that an address is, location by location, is the one that the rack finds by the base and the remainder.
-- Rests on the laws of truth values.
use Rattle.std.proofs.Common.{◌≡◌, refl, ap, ◌∙◌, Bool, true, false, cond, ◌&&◌, List, [], ◌∷◌, ℕ, zero, suc, ◌<◌, ◌+◌, ◌-◌, ◌%◌, arith, eqb, ltb, leb, length, get_or, ltb-true, lt-ltb, le-ltb, leb-true, leb-false, le-leb, eqb-true, Option, Some, None}
use borrow.Author.Tests.{lt-leb, eqb-false}
use Rattle.bits.proofs.Logic.{both}
use Rattle.rack.specs.Targets.{Target, answers_at, register_at, target_from}
use Rattle.racklaws.specs.Whom.{Found, no_card, found, shown, among, seek}

-- The rack's target in those words.
abbrev pub as_found : Option Target → Found
as_found None = no_card
as_found (Some t) = found t.0 t.1

-- The register at location l, or what those behind it say, in numbers.
module _ (i a l r : ℕ) (rs : List ℕ) (others : Found) where
  abbrev in_numbers : Found
  in_numbers = cond (leb l a && ltb a (l + suc (length rs))) (found i (get_or (r ∷ rs) (a - l) 0)) others

  abbrev behind : Found
  behind = cond (leb (suc l) a && ltb a (suc l + length rs)) (found i (get_or rs (a - suc l) 0)) others

  passed : (t : Bool) → leb (suc l) a ≡ t → ¬ (a ≡ l) → behind ≡ in_numbers
  passed true e n =
      let next : a - l ≡ suc (a - suc l) = omega (arith, leb-true (suc l) a e) in
      let same : suc l + length rs ≡ l + suc (length rs) = omega arith in
      rw (e, le-leb l a (omega (arith, leb-true (suc l) a e)), next, same)
  passed false e n = rw (e, lt-leb l a (before (leb-false (suc l) a e)))
    where
      before : a < suc l → a < l
      before h = omega (arith, h, n)

  located : (t : Bool) → eqb a l ≡ t → cond (eqb a l) (found i r) behind ≡ in_numbers
  located true e =
      let here = eqb-true a l e in
      let none : a - l ≡ 0 = omega (arith, here) in
      rw (e, le-leb l a (omega (arith, here)), lt-ltb a (l + suc (length rs)) (omega (arith, here)), none)
  located false e = rw e (passed (leb (suc l) a) refl (eqb-false a l e))

-- So registers at the locations from l on are found by their distance.
among_by : (i a l : ℕ) (rs : List ℕ) (others : Found) → among i a l rs others ≡ cond (leb l a && ltb a (l + length rs)) (found i (get_or rs (a - l) 0)) others
among_by i a l [] others = go (leb l a) refl
  where
    go : (t : Bool) → leb l a ≡ t → others ≡ cond (leb l a && ltb a (l + 0)) (found i 0) others
    go true e = rw (e, le-ltb a (l + 0) (omega (arith, leb-true l a e)))
    go false e = rw e
among_by i a l (r ∷ rs) others =
    ap (λ (o : Found). cond (eqb a l) (found i r) o) (among_by i a (suc l) rs others) ∙ located i a l r rs others (eqb a l) refl

-- The eight registers shown are the remainders by 4.
shown_by_lem : (n : ℕ) → n < 8 → get_or shown n 0 ≡ n % 4
shown_by_lem zero h = refl
shown_by_lem (suc zero) h = refl
shown_by_lem (suc (suc zero)) h = refl
shown_by_lem (suc (suc (suc zero))) h = refl
shown_by_lem (suc (suc (suc (suc zero)))) h = refl
shown_by_lem (suc (suc (suc (suc (suc zero))))) h = refl
shown_by_lem (suc (suc (suc (suc (suc (suc zero)))))) h = refl
shown_by_lem (suc (suc (suc (suc (suc (suc (suc zero))))))) h = refl
shown_by_lem (suc (suc (suc (suc (suc (suc (suc (suc n)))))))) h = absurd (omega (arith, h))

-- What a card's own locations decide.
here : (i a b : ℕ) (others : Found) (t : Bool) → answers_at b a ≡ t
    → cond (leb b a && ltb a (b + 8)) (found i (get_or shown (a - b) 0)) others ≡ cond (answers_at b a) (found i (register_at b a)) others
unfolding answers_at
here i a b others true e =
    let there = both (leb b a) (ltb a (b + 8)) e in
    rw (e, shown_by_lem (a - b) (omega (arith, leb-true b a there.0, ltb-true a (b + 8) there.1)))
here i a b others false e = rw e

either : (t : Bool) (x y : Option Target) → as_found (cond t x y) ≡ cond t (as_found x) (as_found y)
either true x y = refl
either false x y = refl

pub sought : (i a : ℕ) (bases : List ℕ) → seek i a bases ≡ as_found (target_from i bases a)
unfolding target_from
sought i a [] = refl
sought i a (b ∷ bs) = rw (
  among_by i a b shown (seek (suc i) a bs),
  here i a b (seek (suc i) a bs) (answers_at b a) refl,
  sought (suc i) a bs,
  either (answers_at b a) (Some (i, register_at b a)) (target_from (suc i) bs a),
)
