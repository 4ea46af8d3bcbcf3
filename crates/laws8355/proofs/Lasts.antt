-- The byte last written to a port, and the levels last put on it, last over any history.
-- Rests on Ports, ByEvent and Pins, and on bits' Logic.
use Rattle.std.proofs.Common.{◌≡◌, ◌∙◌, refl, ap, sym, subst, List, [], ◌∷◌, ◌++◌, ℕ, ◌+◌, ◌<◌, arith, eqb, ne_eqb}
use Rattle.bits.specs.Bit.{bit_of}
use Rattle.bits.proofs.Logic.{either_way}
use Rattle.bus.specs.Event.{Event}
use Rattle.bus.specs.Histories.{write, levels}
use Rattle.bus.specs.declared.Phase.{Phase}
use Rattle.bus.specs.declared.Phase.TheVariants.{Idle, Writing}
use Rattle.i8355.specs.declared.Port.{Port}
use Rattle.i8355.specs.declared.Ports.{Ports}
use Rattle.i8355.specs.declared.Chip8355.{Chip8355}
use Rattle.i8355.specs.Registers.{with_direction, with_latch, with_outside, after_write_ends, after_levels}
use Rattle.i8355.specs.Step.{on_bus}
use Rattle.laws8355.specs.Promise.{run}
use Rattle.laws8355.specs.Lasts.{NoneWritten, NonePut, Lasts}
use Rattle.laws8355.proofs.Ports.{port_at, written_at, levels_at_lem, at_write, at_levels, levels_elsewhere}
use Rattle.laws8355.proofs.ByEvent.{by_event}
use Rattle.laws8355.proofs.Pins.{write_runs_lem, levels_run, input_shows, output_shows}

module _ (p : ℕ) (there : p < 2) where
  -- A latch is reached by writes to its port alone, and lines by levels on theirs alone.
  module _ (s : Ports) where
    abbrev port : Port
    port = port_at s p

    latch_by_write : (d y : ℕ) → ¬ (y ≡ p) → (port_at (after_write_ends s y d) p).latch ≡ port.latch
    latch_by_write d y own =
        ap (λ (q : Port). q.latch) (written_at s d y p there)
        ∙ rw (ne_eqb y p own) (either_way (λ (q : Port). q.latch) port.latch (eqb y (p + 2)) (with_direction port d) port refl refl)

    latch_by_levels : (v x : ℕ) → (port_at (after_levels s x v) p).latch ≡ port.latch
    latch_by_levels v x =
        ap (λ (q : Port). q.latch) (levels_at_lem s v x p there)
        ∙ either_way (λ (q : Port). q.latch) port.latch (eqb x p) (with_outside port v) port refl refl

    lines_by_write : (d y : ℕ) → (port_at (after_write_ends s y d) p).outside ≡ port.outside
    lines_by_write d y =
        ap (λ (q : Port). q.outside) (written_at s d y p there)
        ∙ either_way (λ (q : Port). q.outside) port.outside (eqb y p) (with_latch port d) _ refl
        (either_way (λ (q : Port). q.outside) port.outside (eqb y (p + 2)) (with_direction port d) port refl refl)

  -- Over a history.
  latch_over : (es : List Event) (c : Chip8355) → NoneWritten p c es → (port_at (run c es).ports p).latch ≡ (port_at c.ports p).latch
  latch_over [] c none = refl
  latch_over (e ∷ es) c none =
      latch_over es (run c (e ∷ [])) none.1
      ∙ by_event p there (λ (q : Port). q.latch ≡ (port_at c.ports p).latch) c refl e
      (λ reset. refl)
      (λ end y d phase. latch_by_write c.ports d y (λ own. none.0 end d (phase ∙ ap (λ (y : ℕ). Writing y d) own)))
      (λ levels. latch_by_levels c.ports e.second e.first)

  lines_over : (es : List Event) (c : Chip8355) → NonePut p es → (port_at (run c es).ports p).outside ≡ (port_at c.ports p).outside
  lines_over [] c none = refl
  lines_over (e ∷ es) c none =
      lines_over es (run c (e ∷ [])) none.1
      ∙ by_event p there (λ (q : Port). q.outside ≡ (port_at c.ports p).outside) c refl e
      (λ reset. refl)
      (λ end y d phase. lines_by_write c.ports d y)
      (λ levels. ap (λ (q : Port). q.outside) (levels_elsewhere c.ports e.second p there e.first (λ own. none.0 (levels, own))))

  -- What a whole write on an idle bus, and levels, leave there.
  written_there : (d : ℕ) (c : Chip8355) → c.phase ≡ Idle → (port_at (run c (write p d)).ports p).latch ≡ d
  written_there d c idle =
      subst (λ (ph : Phase). (port_at (run (on_bus ph c.ports) (write p d)).ports p).latch ≡ d) (sym idle)
      (ap (λ (c : Chip8355). (port_at c.ports p).latch) (write_runs_lem c.ports p d [] (omega (arith, there)))
      ∙ ap (λ (q : Port). q.latch) (at_write c.ports d p there))

  put_there : (v : ℕ) (c : Chip8355) → (port_at (run c (levels p v)).ports p).outside ≡ v
  put_there v c =
      ap (λ (c : Chip8355). (port_at c.ports p).outside) (levels_run c p v [] there)
      ∙ ap (λ (q : Port). q.outside) (at_levels c.ports v p there)

  pub lasts : (n : ℕ) → n < 8 → (c : Chip8355) (es : List Event) → Lasts c p n es
  lasts n small c es = record {
    written = λ d idle none on.
        output_shows p n there small (run c (write p d ++ es)) on
        ∙ ap (λ (v : ℕ). bit_of v n) (latch_over es (run c (write p d)) none ∙ written_there d c idle);
    put = λ v none off.
        input_shows p n there small (run c (levels p v ++ es)) off
        ∙ ap (λ (v : ℕ). bit_of v n) (lines_over es (run c (levels p v)) none ∙ put_there v c);
  }
