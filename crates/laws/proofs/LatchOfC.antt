-- What leaves the latch of port C: every event but a reset and the end of a write to port C or to control ("Writes and bit set/reset").
-- Rests on ByEvent, bits' Logic and chip's OnPort.
use Rattle.std.proofs.Common.{◌≡◌, refl, ap, ℕ, eqb}
use Rattle.bits.proofs.Logic.{either_way}
use Rattle.control.specs.declared.Group.{Group}
use Rattle.control.specs.Mode.{strobed_input}
use Rattle.chip.specs.declared.Port.{Port}
use Rattle.chip.specs.declared.Core.{Core}
use Rattle.chip.specs.declared.Chip.{Chip}
use Rattle.chip.specs.State.{on_port}
use Rattle.chip.proofs.OnPort.{lines_on}
use Rattle.chip.specs.Read.{fetched_from, done_with, after_read_begins, after_read_ends}
use Rattle.chip.specs.Levels.{lets_through, port_after_levels, after_levels_on_c, after_levels}
use Rattle.chip.specs.Step.{step_of}
use Rattle.laws.specs.PortC.{NotWritten, LinesHeld}
use Rattle.laws.proofs.ByEvent.{by_event}

-- What is done to a port leaves it.
module _ (c : Core) (x : ℕ) where
  beside_port : (f : Group → Port → Port) → (on_port c x f).c.latch ≡ c.c.latch
  beside_port f = ap (λ l. l.latch) (lines_on c x f)

  begun_latch : (after_read_begins c x).c.latch ≡ c.c.latch
  unfolding after_read_begins
  begun_latch = beside_port (λ g p. fetched_from p (strobed_input c.word g))

  ended_latch : (after_read_ends c x).c.latch ≡ c.c.latch
  unfolding after_read_ends
  ended_latch = beside_port (λ g p. done_with p (strobed_input c.word g))

  levels_latch : (d : ℕ) → (after_levels c x d).c.latch ≡ c.c.latch
  unfolding after_levels after_levels_on_c
  levels_latch d =
      let through : Group → Port → Port = λ g p. port_after_levels p (lets_through c g) d in
      either_way (λ c'. c'.c.latch) c.c.latch (eqb x 2) (after_levels_on_c c d) (on_port c x through) refl (beside_port through)

module _ (c : Chip) (k x d : ℕ) (no_reset : ¬ (k ≡ 0)) where
  stays : (k ≡ 2 → NotWritten c.phase) → (step_of c k x d).state.core.c.latch ≡ c.core.c.latch
  stays unwritten = by_event (λ c'. c'.core.c.latch ≡ c.core.c.latch) c k x d (record {
    stays = refl;
    reset = λ zero. absurd (no_reset zero);
    read_begins = λ one ok. begun_latch c.core x;
    ends = λ two. record {
      read = λ p phase. ended_latch c.core p;
      mode_word = λ w phase seven. absurd ((unwritten two).to_control w phase);
      bit_word = λ w phase seven. absurd ((unwritten two).to_control w phase);
      lines = λ b phase. absurd ((unwritten two).to_c b phase);
      port = λ a b phase c' stored. stored.latch;
    };
    write_begins = λ three ok. refl;
    levels = λ five ok. levels_latch c.core x d;
  })

  pub latch_held : LinesHeld c k x d
  latch_held = record { but_at_ends = λ no_end. stays (λ two. absurd (no_end two)); unwritten = λ none. stays (λ two. none) }
