-- At the address of port A or B: levels are accepted, and what the pin view and a read show there.
-- Rests on nothing.
use Rattle.std.proofs.Common.{◌≡◌, true, ℕ, eqb-true}
use Rattle.bus.specs.Kinds.{is_kind}
use Rattle.bus.specs.Refusals.{number_of}
use Rattle.bus.specs.declared.Phase.{Phase}
use Rattle.control.specs.declared.Group.{Group}
use Rattle.control.specs.declared.Group.TheVariants.{A, B}
use Rattle.chip.specs.declared.Edition.{Edition}
use Rattle.chip.specs.declared.Chip.{Chip}
use Rattle.chip.specs.State.{port_of}
use Rattle.chip.specs.Handshakes.{own_address}
use Rattle.chip.specs.Reads.{read_port, read_of}
use Rattle.chip.specs.Pins.{drives_port, pins_of_port, pins_of}
use Rattle.chip.specs.Step.{limits}

pub own_accepted : (ed : Edition) (ph : Phase) (a : ℕ) (g : Group) → own_address a g ≡ true → number_of (limits ed) ph 5 a ≡ 0
unfolding number_of is_kind
own_accepted ed ph a A own = rw (eqb-true a 0 own)
own_accepted ed ph a B own = rw (eqb-true a 1 own)

pub own_pins : (c : Chip) (a : ℕ) (g : Group) → own_address a g ≡ true → pins_of c a ≡ pins_of_port (port_of c.core g) (drives_port c.core g)
unfolding pins_of
own_pins c a A own = rw (eqb-true a 0 own)
own_pins c a B own = rw (eqb-true a 1 own)

pub own_read : (c : Chip) (a : ℕ) (g : Group) → own_address a g ≡ true → read_of c a ≡ read_port c.core.word g (port_of c.core g)
unfolding read_of
own_read c a A own = rw (eqb-true a 0 own)
own_read c a B own = rw (eqb-true a 1 own)
