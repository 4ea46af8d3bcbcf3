-- The document's sentences about writes hold of every pin of both ports, in every state with an idle bus.
-- Rests on Ports and Pins.
use Rattle.std.proofs.Common.{◌≡◌, ◌∙◌, ap, sym, subst, true, false, List, [], ◌++◌, ℕ, ◌+◌, ◌<◌, arith}
use Rattle.bits.specs.Bit.{bit_of}
use Rattle.bus.specs.Event.{Event}
use Rattle.bus.specs.Histories.{write, levels}
use Rattle.bus.specs.declared.Phase.{Phase}
use Rattle.bus.specs.declared.Phase.TheVariants.{Idle}
use Rattle.i8355.specs.declared.Port.{Port}
use Rattle.i8355.specs.declared.Ports.{Ports}
use Rattle.i8355.specs.declared.Chip8355.{Chip8355}
use Rattle.i8355.specs.Registers.{with_direction, with_latch, with_outside, after_write_ends, after_levels}
use Rattle.i8355.specs.Step.{on_bus}
use Rattle.laws8355.specs.Promise.{run}
use Rattle.laws8355.specs.Sheet.{level, drives, direction_of, reset, Written}
use Rattle.laws8355.proofs.Ports.{port_at, at_write, at_direction, at_levels}
use Rattle.laws8355.proofs.Pins.{write_runs_lem, levels_run, drives_is, level_then, after_reset_lem}

module _ (p n : ℕ) (there : p < 2) (small : n < 8) where
  module _ (s : Ports) where
    -- A port's own address, and that of its direction register, are below 4.
    own : p < 4
    own = omega (arith, there)

    next : p + 2 < 4
    next = omega (arith, there)

    -- Two whole writes, one after the other.
    abbrev twice : ℕ → ℕ → ℕ → ℕ → Ports
    twice x d y e = after_write_ends (after_write_ends s x d) y e

    twice_runs : (x d y e : ℕ) (es : List Event) → x < 4 → y < 4 → run (on_bus Idle s) (write x d ++ write y e ++ es) ≡ run (on_bus Idle (twice x d y e)) es
    twice_runs x d y e es h k = write_runs_lem s x d (write y e ++ es) h ∙ write_runs_lem (after_write_ends s x d) y e es k

    -- The byte d is written to the port, and m to its direction register; then levels come, or another direction.
    loaded : (d m : ℕ) → port_at (twice p d (p + 2) m) p ≡ with_direction (with_latch (port_at s p) d) m
    loaded d m = at_direction (after_write_ends s p d) m p there ∙ ap (λ (q : Port). with_direction q m) (at_write s d p there)

    turned : (m d : ℕ) → port_at (twice (p + 2) m p d) p ≡ with_latch (with_direction (port_at s p) m) d
    turned m d = at_write (after_write_ends s (p + 2) m) d p there ∙ ap (λ (q : Port). with_latch q d) (at_direction s m p there)

    at_once_in : (m d : ℕ) → bit_of m n ≡ true → level (run (on_bus Idle s) (write (direction_of p) m ++ write p d)) p n ≡ bit_of d n
    at_once_in m d on = level_then p n there small _ (twice (p + 2) m p d) _ (twice_runs (p + 2) m p d [] next own) (turned m d) ∙ rw (on)

    -- A direction that makes the pin an output, on ports of which this one is q, brings out what q has in its latch.
    enabled : (t : Ports) (q : Port) → port_at t p ≡ q → (m : ℕ) → bit_of m n ≡ true → level (run (on_bus Idle t) (write (direction_of p) m)) p n ≡ bit_of q.latch n
    enabled t q is m on =
        level_then p n there small _ (after_write_ends t (p + 2) m) _ (write_runs_lem t (p + 2) m [] next)
        (at_direction t m p there ∙ ap (λ (q : Port). with_direction q m) is)
        ∙ rw (on)

    affected_in : (m d m' : ℕ) → bit_of m' n ≡ true → level (run (on_bus Idle s) (write (direction_of p) m ++ write p d ++ write (direction_of p) m')) p n ≡ bit_of d n
    affected_in m d m' on =
        ap (λ (c : Chip8355). level c p n) (twice_runs (p + 2) m p d (write (p + 2) m') next own) ∙ enabled (twice (p + 2) m p d) _ (turned m d) m' on

    shown_in : (d m m' : ℕ) → bit_of m' n ≡ true → level (run (on_bus Idle s) (write p d ++ write (direction_of p) m ++ write (direction_of p) m')) p n ≡ bit_of d n
    shown_in d m m' on =
        ap (λ (c : Chip8355). level c p n) (twice_runs p d (p + 2) m (write (p + 2) m') own next) ∙ enabled (twice p d (p + 2) m) _ (loaded d m) m' on

    kept_in : (d m v : ℕ) → bit_of m n ≡ false → level (run (on_bus Idle s) (write p d ++ write (direction_of p) m ++ levels p v)) p n ≡ bit_of v n
    kept_in d m v off =
        level_then p n there small _ (after_levels (twice p d (p + 2) m) p v) _
        (twice_runs p d (p + 2) m (levels p v) own next ∙ levels_run (on_bus Idle (twice p d (p + 2) m)) p v [] there)
        (at_levels (twice p d (p + 2) m) v p there ∙ ap (λ (q : Port). with_outside q v) (loaded d m))
        ∙ rw (off)

    turns_in : (m : ℕ) → drives (run (on_bus Idle s) (write (direction_of p) m)) p n ≡ bit_of m n
    turns_in m =
        ap (λ (c : Chip8355). drives c p n) (write_runs_lem s (p + 2) m [] next) ∙ drives_is p n there small (on_bus Idle (after_write_ends s (p + 2) m))
        ∙ ap (λ (q : Port). bit_of q.direction n) (at_direction s m p there)

    -- The port after a reset and a direction is what it is after the direction alone.
    reset_in_lem : (m : ℕ) → level (run (on_bus Idle s) (reset ++ write (direction_of p) m)) p n ≡ level (run (on_bus Idle s) (write (direction_of p) m)) p n
    reset_in_lem m =
        after_reset_lem p n there small (on_bus Idle s) m
        ∙ sym (level_then p n there small _ (after_write_ends s (p + 2) m) _ (write_runs_lem s (p + 2) m [] next) (at_direction s m p there))

  pub written : (c : Chip8355) → c.phase ≡ Idle → Written c p n
  written c idle = subst (λ (ph : Phase). Written (on_bus ph c.ports) p n) (sym idle) (record {
    turns = turns_in c.ports;
    at_once = at_once_in c.ports;
    affected = affected_in c.ports;
    kept_back = kept_in c.ports;
    shown_then = λ d m m' off. shown_in c.ports d m m';
    reset_keeps = reset_in_lem c.ports;
  })
