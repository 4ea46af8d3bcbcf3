-- What belongs to a group is kept, by plain numbers and by the fields of a chip.
-- Rests on Pins.
use Rattle.std.proofs.Common.{◌≡◌, ◌∙◌, ap, sym, true, ℕ, ◌<◌, arith, lt-ltb}
use Rattle.bits.specs.Bit.{bit_of}
use Rattle.control.specs.declared.Group.{Group}
use Rattle.control.specs.declared.Group.TheVariants.{A, B}
use Rattle.chip.specs.declared.channel.Channel.{Channel}
use Rattle.chip.specs.declared.Chip.{Chip}
use Rattle.chip.specs.Reads.{read_of}
use Rattle.chip.specs.Pins.{pins_of}
use Rattle.groups.specs.Belongings.{its_pin, at_its_pins, belongings_of}
use Rattle.groups.specs.Kept.{PinKept, PortKept, ChannelKept, KeptByA, KeptByB}
use Rattle.groups.proofs.Pins.{bit_at}

-- What belongs to a group, by its parts.
module _ (g : Group) (c c' : Chip) (same : belongings_of g c' ≡ belongings_of g c) where
  pin_kept : (n : ℕ) → n < 8 → its_pin g n ≡ true → PinKept c' c n
  pin_kept n small its = record {
    level = at _ _ (ap (λ b. b.levels) same);
    driven = at _ _ (ap (λ b. b.driven) same);
    told = at _ _ (ap (λ b. b.told) same);
    latch = at _ _ (ap (λ b. b.latch) same);
    outside = at _ _ (ap (λ b. b.outside) same);
  }
    where
      at : (x y : ℕ) → at_its_pins g x ≡ at_its_pins g y → bit_of x n ≡ bit_of y n
      at x y is = sym (bit_at g x n small its) ∙ ap (λ b. bit_of b n) is ∙ bit_at g y n small its

port_kept : (c c' : Chip) (p : ℕ) → pins_of c' p ≡ pins_of c p → read_of c' p ≡ read_of c p → PortKept c' c p
port_kept c c' p shown read = record { levels = ap (λ b. b.levels) shown; driven = ap (λ b. b.driven) shown; read = read }

channel_kept : (k k' : Channel) → k' ≡ k → ChannelKept k' k
channel_kept k k' same = record {
  fill = ap (λ b. b.fill) same;
  latch = ap (λ b. b.latch) same;
  offered = ap (λ b. b.tally.offered) same;
  handed = ap (λ b. b.tally.handed) same;
  overwritten = ap (λ b. b.tally.overwritten) same;
  swallowed = ap (λ b. b.tally.swallowed) same;
  cleared = ap (λ b. b.tally.cleared) same;
  planted = ap (λ b. b.tally.planted) same;
  struck = ap (λ b. b.tally.struck) same;
}

module _ (c c' : Chip) where
  pub kept_by_a : belongings_of A c' ≡ belongings_of A c → KeptByA c' c
  kept_by_a same = record {
    pins = λ n three small. pin_kept A c c' same n small (lt-ltb 2 n (omega (arith, three)));
    port = port_kept c c' 0 (ap (λ b. b.port) same) (ap (λ b. b.port_read) same);
    outside = ap (λ b. b.port_outside) same;
    input = channel_kept _ _ (ap (λ b. b.input) same);
    output = channel_kept _ _ (ap (λ b. b.output) same);
    input_enabled = ap (λ b. b.input_enabled) same;
    output_enabled = ap (λ b. b.output_enabled) same;
    interrupt = ap (λ b. b.interrupt) same;
  }

  pub kept_by_b : belongings_of B c' ≡ belongings_of B c → KeptByB c' c
  kept_by_b same = record {
    pins = λ n few. pin_kept B c c' same n (omega (arith, few)) (lt-ltb n 3 few);
    port = port_kept c c' 1 (ap (λ b. b.port) same) (ap (λ b. b.port_read) same);
    outside = ap (λ b. b.port_outside) same;
    input = channel_kept _ _ (ap (λ b. b.input) same);
    output = channel_kept _ _ (ap (λ b. b.output) same);
    enabled = ap (λ b. b.input_enabled) same;
    interrupt = ap (λ b. b.interrupt) same;
  }
