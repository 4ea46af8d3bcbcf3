-- Which events are a group's own, by the event and what surrounds it in the history: no chip is asked ("Two groups").
use Rattle.std.specs.Prelude.{Bool, true, false, not, ◌&&◌, ◌||◌, List, [], ◌∷◌, ℕ, ◌/◌, ◌%◌, eqb, ltb}
use Rattle.bits.specs.Bit.{bit_of}
use Rattle.bits.specs.Sum.{byte_by}
use Rattle.bus.specs.Event.{Event}
use Rattle.bus.specs.declared.Phase.{Phase}
use Rattle.bus.specs.declared.Phase.TheVariants.{Idle, Reading, Writing}
use Rattle.control.specs.declared.Group.{Group}
use Rattle.control.specs.declared.Group.TheVariants.{A, B}
use Rattle.fates.specs.Kinds.{Kind, reset, cycle_ended, unknown, read_begun, write_begun, new_levels, kind_of, accepts}
use Rattle.fates.specs.Surroundings.{Surroundings, surroundings_next}
use Rattle.fates.specs.Effects.{port_number}

-- The other of the two groups.
abbrev pub other : Group → Group
other A = B
other B = A

-- The pins of port C on which a group acts: A on 7 to 4, B on 2 to 0. Pin 3 belongs to group A, and lies in the half of port C that goes
-- with group B: what is done to it counts as neither's.
abbrev pub acts_on : Group → ℕ → Bool
acts_on A n = ltb 3 n
acts_on B n = ltb n 3

-- The bits of a byte at the pins on which the group does not act.
abbrev pub elsewhere : Group → ℕ → ℕ
elsewhere g x = byte_by (λ n. not (acts_on g n) && bit_of x n)

-- The byte d, as a word for control, is bit set/reset of a pin on which the group acts: bit 7 is clear, and bits 3 to 1 name the pin.
abbrev pub sets_bit : Group → ℕ → Bool
sets_bit g d = not (bit_of d 7) && acts_on g (d / 2 % 8)

-- A cycle is the group's: a read or a write of its port, or bit set/reset of a pin on which it acts. A write to port C and a mode word are no
-- group's.
abbrev pub its_cycle : Group → Phase → Bool
its_cycle g Idle = false
its_cycle g (Reading x) = eqb x (port_number g)
its_cycle g (Writing x d) = eqb x (port_number g) || (eqb x 3 && sets_bit g d)

-- An event is the group's: levels on its port, levels on port C that differ from those before only at the pins on which it acts, and the
-- beginning and the end of its cycle. A reset is no group's.
abbrev pub is_of : Group → Surroundings → Kind → Bool
is_of g a reset = false
is_of g a (read_begun x) = its_cycle g (Reading x)
is_of g a cycle_ended = its_cycle g a.phase
is_of g a (write_begun x d) = its_cycle g (Writing x d)
is_of g a (new_levels x d) = eqb x (port_number g) || (eqb x 2 && eqb (elsewhere g d) (elsewhere g a.levels_c))
is_of g a unknown = false

-- A read of port C, by which the programs of both groups ask for their status, or of control, where the newer edition tells the mode word. It is no
-- group's, and changes nothing.
abbrev pub reads_for_both : Phase → Bool
reads_for_both Idle = false
reads_for_both (Reading x) = eqb x 2 || eqb x 3
reads_for_both (Writing x d) = false

-- The beginning or the end of such a read.
abbrev pub is_for_both : Surroundings → Kind → Bool
is_for_both a reset = false
is_for_both a (read_begun x) = reads_for_both (Reading x)
is_for_both a cycle_ended = reads_for_both a.phase
is_for_both a (write_begun x d) = false
is_for_both a (new_levels x d) = false
is_for_both a unknown = false

-- An event is harmless to the other group: it is the group's, or of a read of port C or of control.
abbrev pub harmless : Group → Surroundings → Kind → Bool
harmless g a k = is_of g a k || is_for_both a k

-- Each accepted event of a history is so. Between them may stand any that are refused.
abbrev pub only_of : Group → Surroundings → List Event → Bool
only_of g a [] = true
only_of g a (e ∷ es) = (not (accepts a.edition a.phase (kind_of e)) || harmless g a (kind_of e)) && only_of g (surroundings_next a e) es
