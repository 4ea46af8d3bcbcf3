-- What is promised of a rack over any history: each card is a chip alone under the events that reach it ("A rack of cards").
use Rattle.std.specs.Prelude.{◌≡◌, true, List, [], ◌∷◌, ◌++◌, ℕ, ◌<◌, ◌≤◌, length, Result, Ok}
use Rattle.std.specs.Result.{result_ok}
use Rattle.bus.specs.Answers.{number_told}
use Rattle.bus.specs.Event.{Event}
use Rattle.bus.specs.declared.Phase.{Phase}
use Rattle.bus.specs.declared.Phase.TheVariants.{Idle, Reading, Writing}
use Rattle.control.specs.declared.Group.{Group}
use Rattle.bus.specs.Device.{Given}
use Rattle.chip.specs.declared.channel.Side.{Side}
use Rattle.chip.specs.declared.channel.Side.TheVariants.{Input}
use Rattle.chip.specs.declared.Edition.TheVariants.{Older}
use Rattle.chip.specs.declared.Chip.{Chip}
use Rattle.chip.specs.State.{all_low, power_up, no_tally, tally_of}
use Rattle.chip.specs.Reasons.{explained_in, explained_of}
use Rattle.chip.specs.Pins.{pins_of}
use Rattle.chip.specs.Step.{stepped}
use Rattle.rack.specs.declared.Rack.{Rack}
use Rattle.rack.specs.declared.refusals.ViewRefusal.{ViewRefusal}
use Rattle.rack.specs.Answers.{view_refusal_number}
use Rattle.rack.specs.Bases.{most_cards}
use Rattle.rack.specs.State.{place_of, chip_at, rack_of}
use Rattle.rack.specs.Targets.{bases_in, is_place}
use Rattle.rack.specs.Step.{step_of}
use Rattle.rack.specs.Views.{card_of, card_pins, card_tally, card_explained, card_explained_numbered}
use Rattle.fates.specs.Surroundings.{at_power_up}
use Rattle.fates.specs.Bytes.{bytes_of}
use Rattle.fates.specs.Promise.{run, surroundings_of, new_bytes, old_byte, Fates, SixteenBits}
use Rattle.fates.specs.Discipline.{HasFound, Disciplined, NoneLost, NeverForced, NoneForced}
use Rattle.account.specs.Account.{opened}
use Rattle.account.specs.Promise.{account_of, Accounted}
use Rattle.racklaws.specs.Whom.{RackEvent, Bus, free, taken_by, Whom, nobody, everybody, card, whom, part, events_for, bus_over}

-- What the rack makes of an event, and the rack after a history.
abbrev pub rack_stepped : Rack → RackEvent → Given Rack
rack_stepped r e = step_of r e.kind e.first e.second e.third

abbrev pub rack_run : Rack → List RackEvent → Rack
rack_run r [] = r
rack_run r (e ∷ es) = rack_run (rack_stepped r e).state es

-- Where a history begins from a rack: what its bus is in the history's words, and the bases of its cards.
abbrev pub bus_of : Phase → Bus
bus_of Idle = free
bus_of (Reading x) = taken_by (place_of x)
bus_of (Writing x d) = taken_by (place_of x)

abbrev pub bases_of : Rack → List ℕ
bases_of r = bases_in r.count r.bases

abbrev pub whom_in : Rack → RackEvent → Whom
whom_in r e = whom (bases_of r) (bus_of r.phase) e

abbrev pub events_in : ℕ → Rack → List RackEvent → List Event
events_in i r es = events_for i (bases_of r) (bus_of r.phase) es

-- What the rack r gave for an event that reaches nobody: a refusal. It changes nothing in any card, nor on the bus, and its byte is 00.
pub record Refused (r : Rack) (given : Given Rack) : Type 0 where
  pub refused : ¬ (given.number ≡ 0)
  pub unchanged : given.state ≡ r
  pub byte : given.byte ≡ 0

-- For one that reaches every card: it is accepted, and each card does as a chip alone.
pub record ForAll (r : Rack) (given : Given Rack) (own : Event) : Type 0 where
  pub accepted : given.number ≡ 0
  pub byte : given.byte ≡ 0
  pub each : (i : ℕ) → i < most_cards → chip_at given.state i ≡ (stepped (chip_at r i) own).state

-- For one that reaches the card at a place: it is accepted, there too; that card does, and answers, as a chip alone, and every other is
-- as it was.
pub record ForOne (r : Rack) (given : Given Rack) (i : ℕ) (own : Event) : Type 0 where
  pub place : i < most_cards
  pub accepted : given.number ≡ 0
  pub accepted_there : (stepped (chip_at r i) own).number ≡ 0
  pub byte : given.byte ≡ (stepped (chip_at r i) own).byte
  pub changed : chip_at given.state i ≡ (stepped (chip_at r i) own).state
  pub others : (j : ℕ) → ¬ (j ≡ i) → chip_at given.state j ≡ chip_at r j

abbrev pub Reached : Rack → Given Rack → Whom → Type 0
Reached r given nobody = Refused r given
Reached r given (everybody own) = ForAll r given own
Reached r given (card i own) = ForOne r given i own

-- A rack has eight places, filled or not, and a base for each: so the type makes it.
pub record Whole (r : Rack) : Type 0 where
  pub cores : length r.cores ≡ most_cards
  pub bases : length r.bases ≡ most_cards

-- What a rack with eight places gives for any event: what it does is told by whom it reaches, and so is the bus after it; the bases stay.
pub record Follows (r : Rack) (given : Given Rack) (w : Whom) (after : Bus) : Type 0 where
  pub reached : Reached r given w
  pub bus : bus_of given.state.phase ≡ after
  pub bases : bases_of given.state ≡ bases_of r
  pub whole : Whole given.state

-- What is promised of an event that the rack refuses: it changes nothing in any card or on the bus, its byte is 00, and it reaches no card.
pub record ChangesNothing (r : Rack) (e : RackEvent) : Type 0 where
  pub unchanged : rack_stepped r e ≡ record { state = r; number = (rack_stepped r e).number; byte = 0 }
  pub reaches_none : (i : ℕ) → part i (whom_in r e) ≡ []

-- What is promised of any rack and any history from it: the bases and the eight places stay, the bus follows from the events, and each
-- card is a chip alone, after the events that reach it.
pub record GoesOn (r : Rack) (es : List RackEvent) : Type 0 where
  pub whole : Whole (rack_run r es)
  pub bases : bases_of (rack_run r es) ≡ bases_of r
  pub bus : bus_of (rack_run r es).phase ≡ bus_over (bases_of r) (bus_of r.phase) es
  pub card : (i : ℕ) → i < most_cards → chip_at (rack_run r es) i ≡ run (chip_at r i) (events_in i r es)

-- The number that a view is refused with, and 0 if it shows something.
abbrev pub number_of_view : {T : Type 0} → Result T ViewRefusal → ℕ
number_of_view r = number_told view_refusal_number r

-- What a card of a rack is promised, the rack having been built with these bases, where `events` are those of the history es that reach
-- it: after the history the card is a chip alone after these events from power-up, and shows, counts and explains what that does, of a group
-- and of any number that is to name one, which is refused with 2 above 1; and so the fates, the discipline and the account hold of it over them.
pub record AsAlone (bs : List ℕ) (es : List RackEvent) (i : ℕ) (events : List Event) : Type 0 where
  pub state : chip_at (rack_run (rack_of bs) es) i ≡ run power_up events
  pub card : card_of (rack_run (rack_of bs) es) i ≡ Ok (run power_up events)
  pub pins : (p : ℕ) → card_pins (rack_run (rack_of bs) es) i p ≡ Ok (pins_of (run power_up events) p)
  pub tally : (g : Group) (s : Side) → card_tally (rack_run (rack_of bs) es) i g s ≡ Ok (tally_of (run power_up events) g s)
  pub explains : (g : Group) → card_explained (rack_run (rack_of bs) es) i g ≡ Ok (explained_in (run power_up events) g)
  pub explains_numbered : (n : ℕ)
      → result_ok (card_explained_numbered (rack_run (rack_of bs) es) i n) ≡ explained_of (run power_up events) n
  pub no_such_group : (n : ℕ) → 1 < n
      → number_of_view (card_explained_numbered (rack_run (rack_of bs) es) i n) ≡ 2
  pub fates : (g : Group) (s : Side) → Fates g s power_up events no_tally (bytes_of g s Older all_low events) (bytes_of g s Older all_low events)
  pub discipline : (g : Group) → Disciplined g (at_power_up Older all_low) power_up events → NoneLost (bytes_of g Input Older all_low events)
  pub unforced : (g : Group) (s : Side) → NeverForced g s (at_power_up Older all_low) events → NoneForced (bytes_of g s Older all_low events) (bytes_of g s Older all_low events)
  pub account : Accounted power_up (opened Older all_low) events

-- The same of a card of any rack, from whatever it is there: a byte that waits in it counts as offered already.
pub record AsAloneFrom (r : Rack) (es : List RackEvent) (i : ℕ) (c : Chip) (events : List Event) : Type 0 where
  pub state : chip_at (rack_run r es) i ≡ run c events
  pub card : is_place r.count i ≡ true → card_of (rack_run r es) i ≡ Ok (run c events)
  pub pins : is_place r.count i ≡ true → (p : ℕ) → card_pins (rack_run r es) i p ≡ Ok (pins_of (run c events) p)
  pub tally : is_place r.count i ≡ true → (g : Group) (s : Side)
      → card_tally (rack_run r es) i g s ≡ Ok (tally_of (run c events) g s)
  pub explains : is_place r.count i ≡ true → (g : Group)
      → card_explained (rack_run r es) i g ≡ Ok (explained_in (run c events) g)
  pub explains_numbered : is_place r.count i ≡ true → (n : ℕ)
      → result_ok (card_explained_numbered (rack_run r es) i n) ≡ explained_of (run c events) n
  pub no_such_group : is_place r.count i ≡ true → (n : ℕ) → 1 < n
      → number_of_view (card_explained_numbered (rack_run r es) i n) ≡ 2
  pub fates : (g : Group) (s : Side) → SixteenBits (tally_of c g s)
      → Fates g s c events (tally_of c g s) (new_bytes g s c events) (old_byte g s c events ++ new_bytes g s c events)
  pub discipline : (g : Group) → HasFound g c → Disciplined g (surroundings_of c) c events → NoneLost (old_byte g Input c events ++ new_bytes g Input c events)
  pub unforced : (g : Group) (s : Side) → NeverForced g s (surroundings_of c) events
      → NoneForced (new_bytes g s c events) (old_byte g s c events ++ new_bytes g s c events)
  pub account : Accounted c (account_of c) events

-- A rack that was built has its bases in their order, and in each place a chip at power-up.
pub record AsBuilt (bs : List ℕ) : Type 0 where
  pub bases : bases_of (rack_of bs) ≡ bs
  pub cards : (i : ℕ) → i < most_cards → chip_at (rack_of bs) i ≡ power_up

-- Where there is no card, every view is refused with 10, of whatever port, channel or group, and whatever number a group is asked for by.
pub record NoneThere (r : Rack) (i : ℕ) : Type 0 where
  pub card : number_of_view (card_of r i) ≡ 10
  pub pins : (p : ℕ) → number_of_view (card_pins r i p) ≡ 10
  pub tally : (g : Group) (s : Side) → number_of_view (card_tally r i g s) ≡ 10
  pub explains : (g : Group) → number_of_view (card_explained r i g) ≡ 10
  pub explains_numbered : (n : ℕ) → number_of_view (card_explained_numbered r i n) ≡ 10

-- After any history there is none at any place from so many on.
abbrev pub NoneFrom : ℕ → Rack → Type 0
NoneFrom count r = (es : List RackEvent) (i : ℕ) → count ≤ i → NoneThere (rack_run r es) i
