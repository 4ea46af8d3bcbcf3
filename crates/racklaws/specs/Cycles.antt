-- A rack's events as those of the device that the rack is on the bus ("A rack of cards", "Events and numbers").
use Rattle.std.specs.Prelude.{List, ℕ, Option, Some, None}
use Rattle.bus.specs.Event.{Event, event}
use Rattle.rack.specs.State.{number_at}
use Rattle.rack.specs.Targets.{Target, target_of}
use Rattle.rack.specs.Step.{byte_of}
use Rattle.racklaws.specs.Whom.{RackEvent}

-- An event for a card is one of the device, at the number of its register; one for no card is an event of no kind.
abbrev pub as_event : Option Target → ℕ → ℕ → Event
as_event None k d = event 0xff 0 0
as_event (Some t) k d = event k (number_at t.0 t.1) d

-- So it is of an event of a rack that has so many cards, with these bases.
abbrev pub event_by : ℕ → List ℕ → RackEvent → Event
event_by count bases e = as_event (target_of count bases e.kind e.first e.second) e.kind (byte_of e.kind e.second e.third)
