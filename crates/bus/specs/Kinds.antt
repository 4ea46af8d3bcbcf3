-- The kinds of events, and the operands of each ("Events and numbers").
use Rattle.std.specs.Prelude.{Bool, cond, not, ◌||◌, ℕ, eqb}

-- The five kinds by number: 04, which was an end of its own for writes, is none.
abbrev pub reset : ℕ
reset = 0

abbrev pub begin_read : ℕ
begin_read = 1

abbrev pub end_cycle : ℕ
end_cycle = 2

abbrev pub begin_write : ℕ
begin_write = 3

abbrev pub outside_levels : ℕ
outside_levels = 5

-- There is such a kind.
unfoldable pub is_kind : ℕ → Bool
is_kind k = eqb k reset || (eqb k begin_read || (eqb k end_cycle || (eqb k begin_write || eqb k outside_levels)))

-- Or there is none.
abbrev pub no_kind : ℕ → Bool
no_kind k = not (is_kind k)

-- How many operands a kind has: the beginning of a read an address, that of a write an address and a byte, levels a port and these.
unfoldable pub operands_of : ℕ → ℕ
operands_of k = cond (eqb k begin_read) 1 (cond (eqb k begin_write || eqb k outside_levels) 2 0)

-- The kinds that begin a cycle.
abbrev pub begins : ℕ → Bool
begins k = eqb k begin_read || eqb k begin_write
