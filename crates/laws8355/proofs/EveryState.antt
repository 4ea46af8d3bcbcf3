-- The document's sentences about reads, resets and what moves a pin hold of every pin of both ports, in every state.
-- Rests on the bus's Facts, and on Ports, ByEvent and Pins.
use Rattle.std.proofs.Common.{◌≡◌, ◌∙◌, refl, ap, sym, false, [], ◌∷◌, ◌++◌, ℕ, ◌+◌, ◌<◌, arith}
use Rattle.bits.specs.Bit.{bit_of}
use Rattle.bus.specs.Event.{Event}
use Rattle.bus.specs.Histories.{levels}
use Rattle.bus.specs.declared.Phase.TheVariants.{Idle, Writing}
use Rattle.bus.specs.Facts.{Facts}
use Rattle.bus.proofs.Facts as bus
use Rattle.i8355.specs.declared.Port.{Port}
use Rattle.i8355.specs.declared.Chip8355.{Chip8355}
use Rattle.i8355.specs.Registers.{with_outside, after_reset, after_levels}
use Rattle.i8355.specs.Views.{pins_of_port, pins_of}
use Rattle.i8355.specs.Step.{limits, on_bus, device, step_of}
use Rattle.laws8355.specs.Promise.{run}
use Rattle.laws8355.specs.Sheet.{level, drives, reset, NoWriteRuns, InEveryState}
use Rattle.laws8355.proofs.Ports.{port_at, at_levels, at_reset, at_pins, written_elsewhere, levels_elsewhere}
use Rattle.laws8355.proofs.ByEvent.{by_event}
use Rattle.laws8355.proofs.Pins.{levels_run, reset_runs, clear, drives_is, level_then, input_shows, output_shows, after_reset_lem}

module _ (p n : ℕ) (there : p < 2) (small : n < 8) where
  module _ (c : Chip8355) where
    abbrev port : Port
    port = port_at c.ports p

    -- A reset leaves the port as it is, with its direction 00.
    reset_turns : drives (run c reset) p n ≡ false
    reset_turns =
        ap (λ (c : Chip8355). drives c p n) (reset_runs c []) ∙ drives_is p n there small (on_bus Idle (after_reset c.ports))
        ∙ ap (λ (q : Port). bit_of q.direction n) (at_reset c.ports p there) ∙ clear n

    reset_leaves : level (run c reset) p n ≡ bit_of port.outside n
    reset_leaves = level_then p n there small _ (after_reset c.ports) _ (reset_runs c []) (at_reset c.ports p there) ∙ rw (clear n)

    reset_shows_lem : (v : ℕ) → level (run c (reset ++ levels p v)) p n ≡ bit_of v n
    reset_shows_lem v =
        level_then p n there small _ (after_levels (after_reset c.ports) p v) _
        (reset_runs c (levels p v) ∙ levels_run (on_bus Idle (after_reset c.ports)) p v [] there)
        (at_levels (after_reset c.ports) v p there ∙ ap (λ (q : Port). with_outside q v) (at_reset c.ports p there))
        ∙ rw (clear n)

    -- What is done elsewhere leaves the port.
    held_in : (e : Event) → ¬ (e.kind ≡ 0) → ¬ ((e.kind ≡ 5) × (e.first ≡ p)) → (e.kind ≡ 2 → NoWriteRuns c p) → pins_of (run c (e ∷ [])) p ≡ pins_of c p
    held_in e not_reset elsewhere none =
        at_pins (run c (e ∷ [])) p there
        ∙ ap pins_of_port
        (by_event p there (λ (q : Port). q ≡ port) c refl e
        (λ reset. absurd (not_reset reset))
        (λ end y d phase. written_elsewhere c.ports d p there y
        (λ e. (none end d).0 (phase ∙ ap (λ (y : ℕ). Writing y d) e))
        (λ e. (none end d).1 (phase ∙ ap (λ (y : ℕ). Writing y d) e)))
        (λ levels. levels_elsewhere c.ports e.second p there e.first (λ own. elsewhere (levels, own))))
        ∙ sym (at_pins c p there)

    cycles : Facts device limits c
    cycles = bus.facts device limits c refl

    pub in_every_state : InEveryState c p n
    unfolding step_of
    in_every_state = record {
      both_read = λ d. (cycles.begins p d).read_answers;
      held = held_in;
      unreadable = λ d. (cycles.at_place (p + 2) d).not_readable (omega (arith, there)) (omega arith);
      reset_turns_in = reset_turns;
      reset_shows = reset_shows_lem;
      reset_keeps_lines = λ off. reset_leaves ∙ sym (input_shows p n there small c off);
      reset_keeps_latch = λ m on set. after_reset_lem p n there small c m ∙ rw (set) (sym (output_shows p n there small c on));
    }
