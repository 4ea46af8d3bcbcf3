-- What bit set/reset does to a pin of port C, and that it does nothing else ("Writes and bit set/reset", "Forcing the flags").
use Rattle.std.specs.Prelude.{◌≡◌, Bool, false, cond, ◌&&◌, ◌||◌, ℕ, ◌/◌, ◌%◌, ◌<◌, eqb}
use Rattle.bits.specs.Bit.{bit_of}
use Rattle.control.specs.declared.Group.{Group}
use Rattle.chip.specs.declared.channel.Side.{Side}
use Rattle.chip.specs.Moves.{after_force}
use Rattle.chip.specs.declared.Core.{Core}
use Rattle.chip.specs.State.{port_of, channel_of}
use Rattle.chip.specs.Handshakes.{line_pin, flag_pin, enable_of}
use Rattle.laws.specs.PlainBits.{handshake_on, used, free_output, is_line_pin, is_flag_pin}

-- Pin n is put to v, where it may be a free output, and a handshake may use it. A free output keeps the value in its bit of the latch, the
-- line of a channel in that channel's enable, the flag of a channel is forced, and any other pin, INTR among them, keeps it nowhere.
pub record OnePin (before : Core) (n : ℕ) (v free in_use : Bool) (after : Core) : Type 0 where
  pub word : after.word ≡ before.word
  pub levels : (g : Group) → (port_of after g).outside ≡ (port_of before g).outside
  pub lines_levels : after.c.outside ≡ before.c.outside
  pub bits : (k : ℕ) → k < 8 → bit_of after.c.latch k ≡ cond (free && eqb k n) v (bit_of before.c.latch k)
  pub enables : (g : Group) (s : Side) → enable_of after.inte g s ≡ cond (in_use && eqb n (line_pin g s)) v (enable_of before.inte g s)
  pub channels : (g : Group) (s : Side)
      → channel_of after g s ≡ cond (handshake_on before.word g s && eqb n (flag_pin g s)) (after_force s v (channel_of before g s)) (channel_of before g s)
  pub nothing : (free || (in_use && (is_line_pin n || is_flag_pin n))) ≡ false → after ≡ before

-- A control word b with bit 7 clear names the pin in bits 3 to 1, and puts it to bit 0.
abbrev pub PinPut : Core → ℕ → Core → Type 0
PinPut before b after = OnePin before (b / 2 % 8) (bit_of b 0) (free_output before.word (b / 2 % 8)) (used before.word (b / 2 % 8)) after
