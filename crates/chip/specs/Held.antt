-- Who holds a chip, and what a rule leaves of it: a chip holds itself, and the bytes of an image hold the chip that they tell.
use Rattle.std.specs.Prelude.{◌≡◌, ℕ}
use Rattle.bus.specs.declared.Phase.{Phase}
use Rattle.bus.specs.declared.Phase.TheVariants.{Idle, Reading, Writing}
use Rattle.bus.specs.declared.events.Event.{Event}
use Rattle.bus.specs.declared.events.Event.TheVariants.{Reset, BeginRead, EndCycle, BeginWrite, OutsideLevels}
use Rattle.control.specs.declared.Group.{Group}
use Rattle.control.specs.declared.Group.TheVariants.{A, B}
use Rattle.chip.specs.declared.channel.Side.{Side}
use Rattle.chip.specs.declared.channel.Channel.{Channel}
use Rattle.chip.specs.declared.Core.{Core}
use Rattle.chip.specs.declared.Chip.{Chip}
use Rattle.chip.specs.Addresses.{port_a, port_b}
use Rattle.chip.specs.State.{channel_of, with_channel}

-- A way to hold a chip: the chip that is held; that it is held whole, so that who holds it tells that chip and nothing besides; and at which
-- addresses a cycle can be held. Of who holds a chip whole there is one for each chip.
pub record Way (H : Type 0) : Type 1 where
  pub chip : H → Chip
  pub Whole : H → Type 0
  pub Reaches : ℕ → Type 0
  pub one_each : (s t : H) → Whole s → Whole t → chip s ≡ chip t → s ≡ t

-- Who held a chip holds what the rule makes of it, and holds it whole if it was held whole.
pub record Becomes {H : Type 0} (way : Way H) (old new : H) (rule : Chip → Chip) : Type 0 where
  pub held : way.chip new ≡ rule (way.chip old)
  pub kept : way.Whole old → way.Whole new

-- A chip with another core, or with something else on its bus.
abbrev pub core_put : Chip → Core → Chip
core_put c k = record { phase = c.phase; edition = c.edition; core = k }

abbrev pub phase_put : Phase → Chip → Chip
phase_put ph c = record { phase = ph; edition = c.edition; core = c.core }

-- The same by a rule that makes something of the core, and leaves the bus and the edition.
abbrev pub Leaves : {H : Type 0} → Way H → H → H → (Core → Core) → Type 0
Leaves way old new rule = Becomes way old new (λ c. core_put c (rule c.core))

-- A cycle can be held, by its address; an idle bus always.
abbrev pub Holds : {H : Type 0} → Way H → Phase → Type 0
Holds way Idle = Unit {0}
Holds way (Reading x) = way.Reaches x
Holds way (Writing x d) = way.Reaches x

-- The cycle that an event begins can be.
abbrev pub CanBegin : {H : Type 0} → Way H → Event → Type 0
CanBegin way Reset = Unit {0}
CanBegin way (BeginRead x) = way.Reaches x
CanBegin way EndCycle = Unit {0}
CanBegin way (BeginWrite x d) = way.Reaches x
CanBegin way (OutsideLevels p d) = Unit {0}

-- A chip holds itself, whole and at any address.
abbrev pub itself : Way Chip
itself = record { chip = λ c. c; Whole = λ c. Unit {0}; Reaches = λ x. Unit {0}; one_each = λ s t a b same. same }

-- A channel with another byte in its latch.
abbrev pub latched : ℕ → Channel → Channel
latched b ch = record { fill = ch.fill; latch = b; tally = ch.tally }

-- One channel becomes what a rule makes of it.
abbrev pub on_channel : Core → Group → Side → (Channel → Channel) → Core
on_channel c g s f = with_channel c g s (f (channel_of c g s))

-- The address at which the bus finds the port of a group.
abbrev pub address_of : Group → ℕ
address_of A = port_a
address_of B = port_b
