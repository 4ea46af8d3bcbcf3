-- What a mode word or a reset makes of each channel and of its surroundings, and what bit set/reset does.
-- Rests on Flags, and on chip's Surrounded and OneChannel.
use Rattle.std.proofs.Common.{arith, ◌≡◌, ◌∙◌, refl, ap, Bool, true, false, cond, ℕ, ◌/◌, ◌%◌, ◌<◌}
use mathlib.Core.Bool.{and-true, and-false}
use Rattle.bits.specs.Bit.{bit_of, with_bit}
use Rattle.control.specs.declared.Group.{Group}
use Rattle.control.specs.declared.Group.TheVariants.{A, B}
use Rattle.control.specs.Word.{control_of}
use Rattle.control.specs.Role.{Role, input, output, INTR, IBF, OBF, STB, ACK, role_of}
use Rattle.chip.specs.declared.channel.Side.{Side}
use Rattle.chip.specs.declared.channel.Side.TheVariants.{Input, Output}
use Rattle.chip.specs.Moves.{after_clear, after_force}
use Rattle.chip.specs.declared.Core.{Core}
use Rattle.chip.specs.State.{port_of, channel_of}
use Rattle.chip.specs.Handshakes.{enable_of, group_at}
use Rattle.chip.proofs.Surrounded.{Surrounded, spares_itself, latch_spares, enables_spare, spared_channel, spared_surrounded}
use Rattle.chip.proofs.OneChannel.{same_group, one_channel, channel_surrounded}
use Rattle.chip.specs.ModeWord.{cleared_port, after_mode_word}
use Rattle.chip.specs.ControlWord.{enabled, set_as, pin_set, after_control_word}
use Rattle.chip.proofs.Flags.{is_flag_of, flag_at_pin, flag_by_role}

module _ (c : Core) (w : ℕ) where
  pub mode_word_channel : (g : Group) (s : Side) → channel_of (after_mode_word c w) g s ≡ after_clear (channel_of c g s)
  unfolding after_mode_word cleared_port
  mode_word_channel A Input = refl
  mode_word_channel A Output = refl
  mode_word_channel B Input = refl
  mode_word_channel B Output = refl

  pub mode_word_word : (after_mode_word c w).word ≡ w
  unfolding after_mode_word
  mode_word_word = refl

  pub mode_word_ports : (g : Group) → (port_of (after_mode_word c w) g).outside ≡ (port_of c g).outside
  unfolding after_mode_word cleared_port
  mode_word_ports A = refl
  mode_word_ports B = refl

  pub mode_word_lines : (after_mode_word c w).c.outside ≡ c.c.outside
  unfolding after_mode_word
  mode_word_lines = refl

  -- Port C's latch is wiped too.
  pub mode_word_latch : (after_mode_word c w).c.latch ≡ 0
  unfolding after_mode_word
  mode_word_latch = refl

  -- And so are the enables.
  pub mode_word_enable : (g : Group) (s : Side) → enable_of (after_mode_word c w).inte g s ≡ false
  unfolding after_mode_word
  mode_word_enable A Input = refl
  mode_word_enable A Output = refl
  mode_word_enable B s = refl

-- A word with bit 7 set makes the chip anew.
pub mode_word_lem : (c : Core) (d : ℕ) → bit_of d 7 ≡ true → after_control_word c d ≡ after_mode_word c d
unfolding after_control_word control_of
mode_word_lem c d seven = rw (seven)

-- What bit set/reset of pin n to v leaves: only a channel whose flag that pin is can have changed, and it is forced; mode word and levels
-- outside stay. Here alone it reaches the channels.
pub record PinPut (c' c : Core) (n : ℕ) (v : Bool) : Type 0 where
  pub surroundings : Surrounded c' c
  pub channel : (g : Group) (s : Side)
      → channel_of c' g s ≡ cond (flag_at_pin c.word g s n) (after_force s v (channel_of c g s)) (channel_of c g s)

-- In any role of the pin.
module _ (c : Core) (n : ℕ) (v : Bool) where
  -- The channel is forced where the role is that of its flag.
  abbrev Forced : Role → Group → Side → Type 0
  Forced r g s = channel_of (set_as c n v r) g s ≡ cond (is_flag_of g s n r) (after_force s v (channel_of c g s)) (channel_of c g s)

  set_channel : (r : Role) (g : Group) (s : Side) → Forced r g s
  set_channel input g Input = refl
  set_channel input g Output = refl
  set_channel output g Input = spared_channel (latch_spares c (with_bit c.c.latch n v)) g Input
  set_channel output g Output = spared_channel (latch_spares c (with_bit c.c.latch n v)) g Output
  set_channel INTR g Input = refl
  set_channel INTR g Output = refl
  set_channel IBF g Input = rw (one_channel c (λ s. after_force s v) (group_at n) g Input Input, and-true (same_group (group_at n) g))
  set_channel IBF g Output = rw (one_channel c (λ s. after_force s v) (group_at n) g Input Output, and-false (same_group (group_at n) g))
  set_channel OBF g Input = rw (one_channel c (λ s. after_force s v) (group_at n) g Output Input, and-false (same_group (group_at n) g))
  set_channel OBF g Output = rw (one_channel c (λ s. after_force s v) (group_at n) g Output Output, and-true (same_group (group_at n) g))
  set_channel STB g Input = spared_channel (enables_spare c (enabled c.inte (group_at n) Input v)) g Input
  set_channel STB g Output = spared_channel (enables_spare c (enabled c.inte (group_at n) Input v)) g Output
  set_channel ACK g Input = spared_channel (enables_spare c (enabled c.inte (group_at n) Output v)) g Input
  set_channel ACK g Output = spared_channel (enables_spare c (enabled c.inte (group_at n) Output v)) g Output

  set_surrounded : (r : Role) → Surrounded (set_as c n v r) c
  set_surrounded input = spared_surrounded (spares_itself c)
  set_surrounded output = spared_surrounded (latch_spares c _)
  set_surrounded INTR = spared_surrounded (spares_itself c)
  set_surrounded IBF = channel_surrounded c (λ s. after_force s v) (group_at n) Input
  set_surrounded OBF = channel_surrounded c (λ s. after_force s v) (group_at n) Output
  set_surrounded STB = spared_surrounded (enables_spare c _)
  set_surrounded ACK = spared_surrounded (enables_spare c _)

  pub pin_put : n < 8 → PinPut (pin_set c n v) c n v
  unfolding pin_set
  pin_put below = record {
    surroundings = set_surrounded (role_of c.word n);
    channel = λ g s. set_channel (role_of c.word n) g s
        ∙ ap (λ (on : Bool). cond on (after_force s v (channel_of c g s)) (channel_of c g s)) (flag_by_role c.word n below g s);
  }

pub bit_word_lem : (c : Core) (d : ℕ) → bit_of d 7 ≡ false → after_control_word c d ≡ pin_set c (d / 2 % 8) (bit_of d 0)
unfolding after_control_word control_of
bit_word_lem c d seven = rw (seven)

pub bit_put : (c : Core) (d : ℕ) → bit_of d 7 ≡ false → PinPut (after_control_word c d) c (d / 2 % 8) (bit_of d 0)
bit_put c d seven = rw (bit_word_lem c d seven) (pin_put c (d / 2 % 8) (bit_of d 0) (omega arith))
