-- The number of an event: the refusals, in the order of their table, over the limits of a device ("Events and numbers").
use Rattle.std.specs.Prelude.{Bool, true, false, cond, not, ◌&&◌, ◌||◌, List, [], ◌∷◌, ℕ, eqb, ltb}
use Rattle.bus.specs.Kinds as kinds
use Rattle.bus.specs.Kinds.{no_kind, begins}
use Rattle.bus.specs.declared.Phase.{Phase}
use Rattle.bus.specs.declared.Phase.TheVariants.{Idle, Reading, Writing}
use Rattle.bus.specs.declared.Limits.{Limits}

-- A cycle runs: a read at whatever address, or a write to whatever address.
abbrev pub is_busy : Phase → Bool
is_busy Idle = false
is_busy (Reading p) = true
is_busy (Writing a d) = true

-- Limits, by the count of addresses, of those that can be read, and of ports.
abbrev pub limits_of : ℕ → ℕ → ℕ → Limits
limits_of a r p = record { addresses = a; readable = r; ports = p }

-- Address x is above the last.
abbrev pub no_address : Limits → ℕ → Bool
no_address l x = not (ltb x l.addresses)

-- Port x is above the last.
abbrev pub no_port : Limits → ℕ → Bool
no_port l x = not (ltb x l.ports)

-- Address x is above the last that can be read.
abbrev pub no_reading : Limits → ℕ → Bool
no_reading l x = not (ltb x l.readable)

-- A row of the table: the number, and whether the row applies to the event.
pub record Row : Type 0 where
  pub number : ℕ
  pub applies : Bool

abbrev pub row : ℕ → Bool → Row
row n b = record { number = n; applies = b }

-- The table for an event of kind k whose first operand is x. 1: there is no such kind. 2: there is no such address, or no such port. 3: the
-- address is not to be read. 4: the bus is taken. 5: the bus is idle, and has no cycle to end.
abbrev pub rows : Limits → Phase → ℕ → ℕ → List Row
rows l ph k x =
    row 1 (no_kind k)
    ∷ row 2 ((begins k && no_address l x) || (eqb k kinds.outside_levels && no_port l x))
    ∷ row 3 (eqb k kinds.begin_read && no_reading l x)
    ∷ row 4 (begins k && is_busy ph)
    ∷ row 5 (eqb k kinds.end_cycle && not (is_busy ph))
    ∷ []

-- The number of the first row that applies; 0 where none does.
abbrev pub first_of : List Row → ℕ
first_of [] = 0
first_of (r ∷ later) = cond r.applies r.number (first_of later)

-- The table's number of an event.
unfoldable pub number_of : Limits → Phase → ℕ → ℕ → ℕ
number_of l ph k x = first_of (rows l ph k x)
