-- Places and addresses in numbers.
-- Rests on the laws of truth values.
use Rattle.std.proofs.Common.{◌≡◌, refl, sym, Bool, true, false, List, [], ◌∷◌, Some, None, ℕ, zero, suc, min, ◌<◌, ◌≤◌, ◌+◌, add-zero, arith, ltb, leb, length, take, get_or, length-take, take_all, take-take, leb-true, ltb-true, ltb-false}
use Rattle.bits.proofs.Logic.{both}
use Rattle.rack.specs.Bases.{most_cards, card_width}
use Rattle.rack.specs.Targets.{answers_at, register_at, target_from, bases_in}

-- Where it answers, the address is not before the base.
pub not_before : (base address : ℕ) → answers_at base address ≡ true → base ≤ address
unfolding answers_at
not_before base address e = leb-true _ _ (both (leb base address) (ltb address (base + card_width)) e).0

-- The bases up to the count, and at most eight, are those of the cards that there are.
pub in_rack : (count : ℕ) (bases : List ℕ) → take (min count most_cards) bases ≡ bases_in count bases
in_rack count bases = go (ltb count most_cards) refl
  where
    go : (t : Bool) → ltb count most_cards ≡ t → take (min count most_cards) bases ≡ bases_in count bases
    go true few =
        let short : min count most_cards ≡ count = omega (arith, ltb-true count most_cards few) in
        rw (short) (sym (take_all most_cards (take count bases) (omega (arith, length-take count bases, ltb-true count most_cards few))))
    go false many =
        let full : min count most_cards ≡ most_cards = omega (arith, ltb-false count most_cards many) in
        rw (full) (sym (take-take most_cards count bases (ltb-false count most_cards many)))

-- The first that answers, of cards at the places from i on; or none does.
pub at_first : (address : ℕ) (bases : List ℕ) (i place : ℕ) {found : ℕ} → found ≡ i + place → place < length bases → answers_at (get_or bases place 0) address ≡ true
    → ((k : ℕ) → k < place → answers_at (get_or bases k 0) address ≡ false)
    → target_from i bases address ≡ Some (found, register_at (get_or bases place 0) address)
unfolding target_from
at_first address [] i place at there is before = absurd (omega (arith, there))
at_first address (b ∷ bs) i zero at there is before = rw (is, at, add-zero i) refl
at_first address (b ∷ bs) i (suc place) at there is before =
    rw (before 0 (omega arith))
    (at_first address bs (suc i) place (omega (arith, at)) (omega (arith, there)) is (λ k h. before (suc k) (omega (arith, h))))

pub at_none : (address : ℕ) (bases : List ℕ) (i : ℕ) → ((k : ℕ) → k < length bases → answers_at (get_or bases k 0) address ≡ false)
    → target_from i bases address ≡ None
unfolding target_from
at_none address [] i none = refl
at_none address (b ∷ bs) i none = rw (none 0 (omega arith)) (at_none address bs (suc i) (λ k h. none (suc k) (omega (arith, h))))
