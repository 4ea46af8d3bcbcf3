-- The refusals of a rack, in the order of their numbers: 1, 10, 2, 3, 4, 5 ("A rack of cards", "Events and numbers").
use Rattle.std.specs.Prelude.{Bool, true, false, cond, not, List, ℕ, eqb, ltb, length}
use Rattle.racklaws.specs.Whom.{Access, reset, cycle_ended, unknown, read_at, write_at, levels_on, Found, no_card, found, seek, Bus, free, taken_by}

-- No card has the address.
abbrev pub is_none : Found → Bool
is_none no_card = true
is_none (found i register) = false

-- The address is the control register of a card, which cannot be read.
abbrev pub is_control : Found → Bool
is_control no_card = false
is_control (found i register) = eqb register 3

-- A cycle runs, on whatever card.
abbrev pub is_taken : Bus → Bool
is_taken free = false
is_taken (taken_by i) = true

-- 1: there is no such kind.
abbrev pub no_such_kind : Access → Bool
no_such_kind reset = false
no_such_kind (read_at a) = false
no_such_kind cycle_ended = false
no_such_kind (write_at a d) = false
no_such_kind (levels_on i p d) = false
no_such_kind unknown = true

-- 10: there is no card at this address or place.
abbrev pub no_such_card : List ℕ → Access → Bool
no_such_card bases reset = false
no_such_card bases (read_at a) = is_none (seek 0 a bases)
no_such_card bases cycle_ended = false
no_such_card bases (write_at a d) = is_none (seek 0 a bases)
no_such_card bases (levels_on i p d) = not (ltb i (length bases))
no_such_card bases unknown = false

-- 2: there is no such port.
abbrev pub no_such_port : Access → Bool
no_such_port reset = false
no_such_port (read_at a) = false
no_such_port cycle_ended = false
no_such_port (write_at a d) = false
no_such_port (levels_on i p d) = not (ltb p 3)
no_such_port unknown = false

-- 3: the register cannot be read.
abbrev pub not_readable : List ℕ → Access → Bool
not_readable bases reset = false
not_readable bases (read_at a) = is_control (seek 0 a bases)
not_readable bases cycle_ended = false
not_readable bases (write_at a d) = false
not_readable bases (levels_on i p d) = false
not_readable bases unknown = false

-- 4: a cycle runs already, on this card or on another.
abbrev pub cycle_runs : Bus → Access → Bool
cycle_runs b reset = false
cycle_runs b (read_at a) = is_taken b
cycle_runs b cycle_ended = false
cycle_runs b (write_at a d) = is_taken b
cycle_runs b (levels_on i p d) = false
cycle_runs b unknown = false

-- 5: no cycle runs that could end.
abbrev pub no_cycle_runs : Bus → Access → Bool
no_cycle_runs b reset = false
no_cycle_runs b (read_at a) = false
no_cycle_runs b cycle_ended = not (is_taken b)
no_cycle_runs b (write_at a d) = false
no_cycle_runs b (levels_on i p d) = false
no_cycle_runs b unknown = false

-- The number of an access: that of the first that applies, and 0 where none does.
abbrev pub number_by : List ℕ → Bus → Access → ℕ
number_by bases b access =
    cond (no_such_kind access) 1
    (cond (no_such_card bases access) 10
    (cond (no_such_port access) 2
    (cond (not_readable bases access) 3
    (cond (cycle_runs b access) 4
    (cond (no_cycle_runs b access) 5
    0)))))
