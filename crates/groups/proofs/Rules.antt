-- The rules that an event applies to the port at its address, each by name.
-- Rests on nothing.
use Rattle.std.proofs.Common.{ℕ}
use Rattle.control.specs.declared.Group.{Group}
use Rattle.control.specs.Mode.{strobed_input}
use Rattle.chip.specs.declared.Port.{Port}
use Rattle.chip.specs.declared.Core.{Core}
use Rattle.chip.specs.Read.{fetched_from, done_with}
use Rattle.chip.specs.Write.{stored_by}
use Rattle.chip.specs.Levels.{lets_through, port_after_levels}

-- A read begins, and ends.
abbrev pub beginning : Core → Group → Port → Port
beginning c g p = fetched_from p (strobed_input c.word g)

abbrev pub ending : Core → Group → Port → Port
ending c g p = done_with p (strobed_input c.word g)

-- A write of d ends.
abbrev pub storing : Core → ℕ → Group → Port → Port
storing c d g p = stored_by p c.word g d

-- Levels d come.
abbrev pub levelling : Core → ℕ → Group → Port → Port
levelling c d g p = port_after_levels p (lets_through c g) d
