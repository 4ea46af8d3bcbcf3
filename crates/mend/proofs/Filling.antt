-- An output while the bytes of some items are written into it, one after the other: each turn changes it, and what it will hold at the end
-- stays the same. The items are the lines of a text, and an item's bytes what the clean script has of it, or its sign.
-- Rests on script's Stores.
use Rattle.std.proofs.Common.{◌≡◌, ◌∙◌, refl, ap, List, [], ◌∷◌, ◌++◌, map, ℕ, ◌+◌, ◌-◌, ◌≤◌, arith, length, take, drop, set, length-append, length-drop}
use mathlib.Core.List.{flat_map}
use lib.Seq.{sets, length-sets}
use borrow.Author.Rules.{part_to_end}
use Rattle.script.proofs.Stores as stores
use Rattle.mend.specs.Mend.{in_front}

module _ {A : Type 0} (part : A → List ℕ) where
  -- All items on their way into an output that began as `first`: xs are left, and go from `at` on.
  pub record UnderWay (all : List A) (first out : List ℕ) (xs : List A) (at : ℕ) : Type 0 where
    pub enough : length (flat_map part all) ≤ length first
    pub room : at + length (flat_map part xs) ≤ length out
    pub comes : sets out at (flat_map part xs) ≡ sets first 0 (flat_map part all)

  pub starts : (all : List A) (first : List ℕ) → length (flat_map part all) ≤ length first → UnderWay all first first all 0
  starts all first room = record { enough = room; room = omega (arith, room); comes = refl }

  -- When none is left the output holds all that it will.
  pub arrives : (all : List A) (first out : List ℕ) (at : ℕ) → UnderWay all first out [] at → out ≡ in_front (flat_map part all) first
  unfolding flat_map
  arrives all first out at way = way.comes ∙ stores.from_start first (flat_map part all) way.enough

  -- A turn writes the bytes of x, for which there is room.
  module _ (all : List A) (first out : List ℕ) (x : A) (xs : List A) (at : ℕ) (way : UnderWay all first out (x ∷ xs) at) where
    split : length (flat_map part (x ∷ xs)) ≡ length (part x) + length (flat_map part xs)
    unfolding flat_map
    split = length-append (part x) (flat_map part xs)

    pub room_for_one : length (part x) ≤ length (take (length out - at) (drop at out))
    room_for_one = rw (part_to_end out at, length-drop at out) (omega (arith, way.room, split))

    goes_on_lem : UnderWay all first (sets out at (part x)) xs (at + length (part x))
    unfolding flat_map
    goes_on_lem = record {
      enough = way.enough;
      room = omega (arith, way.room, split, length-sets out at (part x));
      comes = stores.behind out at (part x) (flat_map part xs) ∙ way.comes;
    }

    -- Through a part of the output that is lent, as it comes back.
    pub lent : (got : List ℕ) (n : ℕ) → n ≡ length (part x) → got ≡ in_front (part x) (take (length out - at) (drop at out))
        → UnderWay all first (take at out ++ (got ++ drop (length out - at) (drop at out))) xs (at + n)
    lent got n counted written =
        rw (written, counted, ← stores.from_start (take (length out - at) (drop at out)) (part x) room_for_one)
        (rw (stores.lent out (part x) at (omega (arith, way.room, split))) goes_on_lem)

    -- By one store, where x has one byte.
    pub stored : (b : ℕ) → part x ≡ b ∷ [] → UnderWay all first (set out at b) xs (at + 1)
    stored b one = rw (one) at goes_on_lem

-- Items that have one byte each.
pub one_each_lem : {A : Type 0} (f : A → ℕ) (xs : List A) → flat_map (λ (x : A). f x ∷ []) xs ≡ map f xs
unfolding flat_map
one_each_lem f [] = refl
one_each_lem f (x ∷ xs) = ap (λ (l : List ℕ). f x ∷ l) (one_each_lem f xs)
