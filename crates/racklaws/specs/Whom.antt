-- Whom an event of a rack reaches, worked out from the bases and the events alone ("A rack of cards").
use Rattle.std.specs.Prelude.{cond, ◌&&◌, List, [], ◌∷◌, ◌++◌, ℕ, suc, eqb, ltb, length, get_or}
use Rattle.bus.specs.Event.{Event, event}

-- An event of the rack: a kind and three operands, whatever their numbers.
pub record RackEvent : Type 0 where
  pub kind : ℕ
  pub first : ℕ
  pub second : ℕ
  pub third : ℕ

abbrev pub rack_event : ℕ → ℕ → ℕ → ℕ → RackEvent
rack_event k x y z = record { kind = k; first = x; second = y; third = z }

-- The five kinds by name, each with the operands that it has: a cycle has an address, levels have a place and a port; and what is none of
-- them.
pub data Access : Type 0 where
  reset cycle_ended unknown : Access
  read_at : ℕ → Access
  write_at : ℕ → ℕ → Access
  levels_on : ℕ → ℕ → ℕ → Access

-- What the numbers 00 to 05 name, in their order; 04 names no kind.
abbrev pub accesses : ℕ → ℕ → ℕ → List Access
accesses x y z = reset ∷ read_at x ∷ cycle_ended ∷ write_at x y ∷ unknown ∷ levels_on x y z ∷ []

abbrev pub access_of : RackEvent → Access
access_of e = get_or (accesses e.first e.second e.third) e.kind unknown

-- A register of a card, or no card.
pub data Found : Type 0 where
  no_card : Found
  found : ℕ → ℕ → Found

-- The registers that a card shows at its locations, one after the other from its base on: all four, and all four again.
abbrev pub shown : List ℕ
shown = 0 ∷ 1 ∷ 2 ∷ 3 ∷ 0 ∷ 1 ∷ 2 ∷ 3 ∷ []

-- The card at place i shows these registers at location l and those behind it; where the address is none of them, it is for others to
-- answer.
abbrev pub among : ℕ → ℕ → ℕ → List ℕ → Found → Found
among i address l [] others = others
among i address l (register ∷ registers) others = cond (eqb address l) (found i register) (among i address (suc l) registers others)

-- The register that an address is, of cards with these bases, the first of them at place i.
abbrev pub seek : ℕ → ℕ → List ℕ → Found
seek i address [] = no_card
seek i address (base ∷ later) = among i address base shown (seek (suc i) address later)

-- The one bus of the rack: free, or taken by a cycle on the card at a place.
pub data Bus : Type 0 where
  free : Bus
  taken_by : ℕ → Bus

-- Whom an event reaches, and as what event of a card: nobody, every card, or the one at a place.
pub data Whom : Type 0 where
  nobody : Whom
  everybody : Event → Whom
  card : ℕ → Event → Whom

-- A cycle begins on a free bus, a read at one of the three registers that can be read.
abbrev pub read_reaches : Bus → Found → Whom
read_reaches b no_card = nobody
read_reaches free (found i register) = cond (ltb register 3) (card i (event 1 register 0)) nobody
read_reaches (taken_by j) (found i register) = nobody

abbrev pub write_reaches : Bus → Found → ℕ → Whom
write_reaches b no_card d = nobody
write_reaches free (found i register) d = card i (event 3 register d)
write_reaches (taken_by j) (found i register) d = nobody

-- The end of a cycle reaches the card on which it runs.
abbrev pub end_reaches : Bus → Whom
end_reaches free = nobody
end_reaches (taken_by i) = card i (event 2 0 0)

-- A reset reaches every card. Levels reach the card at their place, on one of its three ports.
abbrev pub reaches : List ℕ → Bus → Access → Whom
reaches bases b reset = everybody (event 0 0 0)
reaches bases b (read_at address) = read_reaches b (seek 0 address bases)
reaches bases b cycle_ended = end_reaches b
reaches bases b (write_at address d) = write_reaches b (seek 0 address bases) d
reaches bases b (levels_on place port d) = cond (ltb place (length bases) && ltb port 3) (card place (event 5 port d)) nobody
reaches bases b unknown = nobody

-- The bus after an event that reaches someone: a card's cycle takes it, from its beginning to its end; a reset frees it.
abbrev pub bus_after : Bus → Access → Whom → Bus
bus_after b access nobody = b
bus_after b access (everybody e) = free
bus_after b (read_at address) (card i e) = taken_by i
bus_after b (write_at address d) (card i e) = taken_by i
bus_after b cycle_ended (card i e) = free
bus_after b (levels_on place port d) (card i e) = b
bus_after b reset (card i e) = b
bus_after b unknown (card i e) = b

abbrev pub whom : List ℕ → Bus → RackEvent → Whom
whom bases b e = reaches bases b (access_of e)

abbrev pub bus_next : List ℕ → Bus → RackEvent → Bus
bus_next bases b e = bus_after b (access_of e) (whom bases b e)

-- The event that it is for the card at place i, if it is one.
abbrev pub part : ℕ → Whom → List Event
part i nobody = []
part i (everybody e) = e ∷ []
part i (card j e) = cond (eqb i j) (e ∷ []) []

-- The events of a history that reach the card at place i.
abbrev pub events_for : ℕ → List ℕ → Bus → List RackEvent → List Event
events_for i bases b [] = []
events_for i bases b (e ∷ es) = part i (whom bases b e) ++ events_for i bases (bus_next bases b e) es

-- The bus after a history.
abbrev pub bus_over : List ℕ → Bus → List RackEvent → Bus
bus_over bases b [] = b
bus_over bases b (e ∷ es) = bus_over bases (bus_next bases b e) es
