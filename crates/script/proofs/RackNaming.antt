-- What the bases of a line make: too many of them, or one whose digits are missing, make no rack.
-- Rests on nothing.
use Rattle.std.proofs.Common.{◌≡◌, refl, Bool, true, false, cond, not, ◌&&◌, List, [], ◌∷◌, ◌++◌, ℕ, ◌<◌, Ok, leb, length}
use borrow.Author.Tests.{lt-leb}
use Rattle.rack.specs.Bases.{most_cards, is_base, is_among, are_bases, makes_rack}
use Rattle.rack.specs.State.{rack_of, built_of}
use Rattle.script.specs.RackBases.{no_base, no_rack}

pub too_many : (bases : List ℕ) → most_cards < length bases → built_of bases ≡ no_rack
unfolding makes_rack built_of
too_many bases h = rw (lt-leb (length bases) most_cards h)

-- Where four digits are missing there is no rack, whatever stands before and behind.
not_bases : (before later : List ℕ) → are_bases (before ++ no_base ∷ later) ≡ false
unfolding is_base are_bases
not_bases [] later = refl
not_bases (b ∷ before) later = rw (not_bases before later) (go (is_base b) (not (is_among b (before ++ no_base ∷ later))))
  where
    go : (base single : Bool) → (base && (single && false)) ≡ false
    go false single = refl
    go true false = refl
    go true true = refl

pub missing_digits : (before later : List ℕ) → built_of (before ++ no_base ∷ later) ≡ no_rack
unfolding makes_rack built_of
missing_digits before later = rw (not_bases before later) (go (leb (length (before ++ no_base ∷ later)) most_cards))
  where
    go : (few : Bool) → cond (few && false) (Ok (rack_of (before ++ no_base ∷ later))) no_rack ≡ no_rack
    go false = refl
    go true = refl
