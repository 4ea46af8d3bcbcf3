-- Reads, writes to ports A and B and levels leave port C's latch and the enables; and the mode word, as all but a mode word and a reset do.
-- Rests on ByAct and on chip's OnPort.
use Rattle.std.proofs.Common.{◌≡◌, refl, ap, Bool, true, false, cond, ℕ, eqb}
use Rattle.control.specs.declared.Group.{Group}
use Rattle.control.specs.Mode.{strobed_input}
use Rattle.chip.specs.declared.Port.{Port}
use Rattle.chip.specs.declared.Core.{Core}
use Rattle.chip.specs.State.{on_port}
use Rattle.chip.proofs.OnPort.{word_on, lines_on, enables_on}
use Rattle.chip.specs.Read.{fetched_from, done_with, after_read_begins, after_read_ends}
use Rattle.chip.specs.Write.{stored_by}
use Rattle.chip.specs.Levels.{lets_through, port_after_levels, after_levels_on_c, after_levels}
use Rattle.account.proofs.ByAct.{stored}

-- The mode word, port C's latch and the enables are the same.
pub record Kept (c' c : Core) : Type 0 where
  pub word : c'.word ≡ c.word
  pub latch : c'.c.latch ≡ c.c.latch
  pub enables : c'.inte ≡ c.inte

-- So it is with whatever is done at the address of a port.
on_port_lem : (c : Core) (x : ℕ) (f : Group → Port → Port) → Kept (on_port c x f) c
on_port_lem c x f = record { word = word_on c x f; latch = ap (λ l. l.latch) (lines_on c x f); enables = enables_on c x f }

pub kept_begun : (c : Core) (x : ℕ) → Kept (after_read_begins c x) c
unfolding after_read_begins
kept_begun c x = on_port_lem c x (λ g p. fetched_from p (strobed_input c.word g))

pub kept_ended : (c : Core) (x : ℕ) → Kept (after_read_ends c x) c
unfolding after_read_ends
kept_ended c x = on_port_lem c x (λ g p. done_with p (strobed_input c.word g))

pub kept_stored : (c : Core) (x d : ℕ) → Kept (stored c x d) c
kept_stored c x d = on_port_lem c x (λ g p. stored_by p c.word g d)

pub kept_levelled : (c : Core) (x d : ℕ) → Kept (after_levels c x d) c
unfolding after_levels after_levels_on_c
kept_levelled c x d = go (eqb x 2)
  where
    go : (two : Bool) → Kept (cond two (after_levels_on_c c d) (on_port c x (λ g p. port_after_levels p (lets_through c g) d))) c
    go true = record { word = refl; latch = refl; enables = refl }
    go false = on_port_lem c x (λ g p. port_after_levels p (lets_through c g) d)
