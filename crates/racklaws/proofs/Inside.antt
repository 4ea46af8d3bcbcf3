-- The card that an event is for is at one of the eight places.
-- Rests on the laws of truth values.
use Rattle.std.proofs.Common.{true, cond, ◌≡◌, List, [], ◌∷◌, ℕ, suc, ◌<◌, ◌≤◌, ◌+◌, arith, eqb, ltb, length, take, length-take, ltb-true, Option, Some, None}
use Rattle.bits.proofs.Logic.{both, by_test}
use Rattle.bus.specs.Kinds.{outside_levels, begins}
use Rattle.rack.specs.Bases.{most_cards}
use Rattle.rack.specs.Targets.{Target, answers_at, register_at, target_from, bases_in, is_place, target_at, target_of}

-- A place that has a card is one of the eight.
pub place_below : (count place : ℕ) → is_place count place ≡ true → place < most_cards
unfolding is_place
place_below count place e = ltb-true _ _ (both (ltb place count) (ltb place most_cards) e).1

-- A card that is found is at one of the eight places.
abbrev pub InRack : Option Target → Type 0
InRack None = Unit {0}
InRack (Some t) = t.0 < most_cards

inside_from : (i address : ℕ) (bases : List ℕ) → i + length bases ≤ most_cards → InRack (target_from i bases address)
unfolding target_from
inside_from i address [] h = tt
inside_from i address (base ∷ later) h =
    by_test InRack (answers_at base address) (Some (i, register_at base address)) (target_from (suc i) later address)
    (λ e. omega (arith, h))
    (λ e. inside_from (suc i) address later (omega (arith, h)))

pub target_inside : (count : ℕ) (bases : List ℕ) (k x y : ℕ) → InRack (target_of count bases k x y)
unfolding target_at target_of
target_inside count bases k x y =
    by_test InRack (begins k) (target_from 0 (bases_in count bases) x) (cond (eqb k outside_levels) (target_at count x y) (Some (0, 0)))
    (λ e. inside_from 0 x (bases_in count bases) (omega (arith, length-take most_cards (take count bases))))
    (λ e. by_test InRack (eqb k outside_levels) (target_at count x y) (Some (0, 0))
    (λ e. by_test InRack (is_place count x) (Some (x, y)) None (place_below count x) (λ e. tt))
    (λ e. omega arith))
