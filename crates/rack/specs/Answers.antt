-- Events and refusals of a rack by their numbers, and what it gives for an event ("Events and numbers", "A rack of cards").
use Rattle.std.specs.Prelude.{cond, ℕ, eqb, Option, Some, None}
use Rattle.bus.specs.Kinds as kinds
use Rattle.bus.specs.declared.events.Event as devices
use Rattle.bus.specs.Device.{Given}
use Rattle.bus.specs.Cycles.{refused_in}
use Rattle.bus.specs.Answers as card
use Rattle.bus.specs.Answers.{given_for}
use Rattle.rack.specs.declared.Rack.{Rack}
use Rattle.rack.specs.declared.events.RackEvent.{RackEvent}
use Rattle.rack.specs.declared.events.RackEvent.TheVariants.{Reset, BeginRead, EndCycle, BeginWrite, OutsideLevels}
use Rattle.rack.specs.declared.refusals.RackRefusal.{RackRefusal}
use Rattle.rack.specs.declared.refusals.RackRefusal.TheVariants.{NoCard, Card}
use Rattle.rack.specs.declared.refusals.BadRack.{BadRack}
use Rattle.rack.specs.declared.refusals.ViewRefusal as views
use Rattle.rack.specs.declared.refusals.ViewRefusal.{ViewRefusal}
use Rattle.rack.specs.Bases.{bad_rack_number, no_card_number}
use Rattle.rack.specs.Step.{device, step_of}

-- The event that four numbers name, where the first is a kind.
abbrev pub event_numbered : ℕ → ℕ → ℕ → ℕ → Option RackEvent
event_numbered k x y z =
    cond (eqb k kinds.reset) (Some Reset)
    (cond (eqb k kinds.begin_read) (Some (BeginRead x))
    (cond (eqb k kinds.end_cycle) (Some EndCycle)
    (cond (eqb k kinds.begin_write) (Some (BeginWrite x y))
    (cond (eqb k kinds.outside_levels) (Some (OutsideLevels x y z))
    None))))

-- The refusal of bases that make no rack, by its number.
abbrev pub bad_rack_told : BadRack → ℕ
bad_rack_told r = bad_rack_number

-- The refusals of a rack by their numbers: there is no card; or those of a device.
abbrev pub refusal_number : RackRefusal → ℕ
refusal_number NoCard = no_card_number
refusal_number (Card r) = card.refusal_number r

-- Those of what it shows: there is no card at the place; or there is one, but no group of that number.
abbrev pub view_refusal_number : ViewRefusal → ℕ
view_refusal_number views.TheVariants.NoCard = no_card_number
view_refusal_number views.TheVariants.NoSuchGroup = 2

-- What the rack gives for an event; the operands that its kind lacks are zeros.
abbrev pub stepped : Rack → RackEvent → Given Rack
stepped r Reset = step_of r kinds.reset 0 0 0
stepped r (BeginRead a) = step_of r kinds.begin_read a 0 0
stepped r EndCycle = step_of r kinds.end_cycle 0 0 0
stepped r (BeginWrite a d) = step_of r kinds.begin_write a d 0
stepped r (OutsideLevels i p d) = step_of r kinds.outside_levels i p d

-- What it gives where an event is for no card, and for one on its own bus.
abbrev pub given_on_bus : Rack → Option devices.Event → Given Rack
given_on_bus r None = refused_in r no_card_number
given_on_bus r (Some e) = given_for device r e
