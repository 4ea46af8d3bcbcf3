-- Histories that leave a line of port C low, in the history's own words.
use Rattle.std.specs.Prelude.{◌≡◌, Bool, false, ◌&&◌, List, [], ◌∷◌, ℕ, eqb}
use Rattle.bits.specs.Bit.{bit_of}
use Rattle.bus.specs.Event.{Event}
use Rattle.fates.specs.Kinds.{Kind, reset, cycle_ended, unknown, read_begun, write_begun, new_levels, kind_of}

-- An event puts pin n of port C high: levels on that port do, where they have that bit.
abbrev pub raises : ℕ → Kind → Bool
raises n reset = false
raises n (read_begun x) = false
raises n cycle_ended = false
raises n (write_begun x d) = false
raises n (new_levels x d) = eqb x 2 && bit_of d n
raises n unknown = false

-- No event of the history does.
abbrev pub NeverRaised : ℕ → List Event → Type 0
NeverRaised n [] = Unit {0}
NeverRaised n (e ∷ es) = (raises n (kind_of e) ≡ false) × NeverRaised n es
