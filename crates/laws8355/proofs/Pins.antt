-- The ports after whole writes, levels and a reset, and what is seen of a pin by its three bits.
-- Rests on Ports, and on bits' BitLaws and MaskLaws.
use Rattle.std.proofs.Common.{◌≡◌, ◌∙◌, refl, ap, sym, Bool, true, false, cond, List, [], ◌++◌, ℕ, ◌+◌, ◌<◌, arith, lt-ltb}
use Rattle.bits.specs.Bit.{bit_of, value_of}
use Rattle.bits.proofs.BitLaws.{bit_of_value}
use Rattle.bits.proofs.MaskLaws.{bit_of_blend}
use Rattle.bus.specs.Kinds.{is_kind}
use Rattle.bus.specs.Event.{Event}
use Rattle.bus.specs.Histories.{write, levels}
use Rattle.bus.specs.declared.Phase.TheVariants.{Idle}
use Rattle.bus.specs.Refusals.{number_of}
use Rattle.bus.specs.Device.{step_in}
use Rattle.i8355.specs.declared.Port.{Port}
use Rattle.i8355.specs.declared.Ports.{Ports}
use Rattle.bus.specs.declared.Pins.{Pins}
use Rattle.i8355.specs.declared.Chip8355.{Chip8355}
use Rattle.i8355.specs.Registers.{with_direction, after_reset, after_write_ends, after_levels}
use Rattle.i8355.specs.Views.{shown_by}
use Rattle.i8355.specs.Step.{on_bus}
use Rattle.laws8355.specs.Promise.{run}
use Rattle.laws8355.specs.Sheet.{level, drives, direction_of, reset}
use Rattle.laws8355.proofs.Ports.{port_at, at_pins, at_reset, at_direction}

-- The device after a whole write on an idle bus, under new levels, and after a reset; other events may follow.
pub write_runs_lem : (s : Ports) (x d : ℕ) (es : List Event) → x < 4 → run (on_bus Idle s) (write x d ++ es) ≡ run (on_bus Idle (after_write_ends s x d)) es
unfolding step_in number_of is_kind
write_runs_lem s x d es there = rw (lt-ltb x 4 there)

pub levels_run : (c : Chip8355) (x v : ℕ) (es : List Event) → x < 2 → run c (levels x v ++ es) ≡ run (on_bus c.phase (after_levels c.ports x v)) es
unfolding step_in number_of is_kind
levels_run c x v es there = rw (lt-ltb x 2 there)

pub reset_runs : (c : Chip8355) (es : List Event) → run c (reset ++ es) ≡ run (on_bus Idle (after_reset c.ports)) es
unfolding step_in number_of is_kind
reset_runs c es = refl

-- 0 has no ones.
pub clear : (n : ℕ) → bit_of 0 n ≡ false
unfolding value_of
clear n = bit_of_value [] n

-- What a pin of a port shows, by the three bits that it has.
abbrev pub shows : Port → ℕ → Bool
shows q n = cond (bit_of q.direction n) (bit_of q.latch n) (bit_of q.outside n)

module _ (p n : ℕ) (there : p < 2) (small : n < 8) where
  pub level_is : (c : Chip8355) → level c p n ≡ shows (port_at c.ports p) n
  unfolding shown_by
  level_is c = ap (λ (v : Pins). bit_of v.levels n) (at_pins c p there) ∙ bit_of_blend _ _ _ n small

  pub drives_is : (c : Chip8355) → drives c p n ≡ bit_of (port_at c.ports p).direction n
  drives_is c = ap (λ (v : Pins). bit_of v.driven n) (at_pins c p there)

  -- The level of the pin in a state to which some events lead, where the port there is q.
  pub level_then : (c : Chip8355) (s : Ports) (q : Port) → c ≡ on_bus Idle s → port_at s p ≡ q → level c p n ≡ shows q n
  level_then c s q leads is = ap (λ (c : Chip8355). level c p n) leads ∙ level_is (on_bus Idle s) ∙ ap (λ (q : Port). shows q n) is

  -- By what is seen of it, the pin shows the line or the latch.
  pub input_shows : (c : Chip8355) → drives c p n ≡ false → level c p n ≡ bit_of (port_at c.ports p).outside n
  input_shows c off = level_is c ∙ rw (sym (drives_is c) ∙ off)

  pub output_shows : (c : Chip8355) → drives c p n ≡ true → level c p n ≡ bit_of (port_at c.ports p).latch n
  output_shows c on = level_is c ∙ rw (sym (drives_is c) ∙ on)

  -- After a reset and a direction m the port is what it was, with that direction.
  pub after_reset_lem : (c : Chip8355) (m : ℕ) → level (run c (reset ++ write (direction_of p) m)) p n ≡ shows (with_direction (port_at c.ports p) m) n
  after_reset_lem c m =
      level_then _ (after_write_ends (after_reset c.ports) (p + 2) m) _
      (reset_runs c (write (p + 2) m) ∙ write_runs_lem (after_reset c.ports) (p + 2) m [] (omega (arith, there)))
      (at_direction (after_reset c.ports) m p there ∙ ap (λ (q : Port). with_direction q m) (at_reset c.ports p there))
