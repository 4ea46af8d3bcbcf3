-- One pin set by asking the masks is the pin set by its role ("Writes and bit set/reset").
-- Rests on bits' Tabled and control's PinByMasks.
use Rattle.std.proofs.Common.{◌≡◌, ◌∙◌, refl, ap, Bool, true, false, cond, ℕ, ◌<◌}
use Rattle.bits.specs.Bit.{bit_of, with_bit}
use Rattle.control.specs.declared.Group.TheVariants.{B}
use Rattle.control.specs.Mode.{strobed_input}
use Rattle.control.specs.Pins.{handshake_pins, output_pins, handshake_role}
use Rattle.control.specs.Word.{control_of}
pub use Rattle.control.proofs.PinNamed.{pin_named_lem}
use Rattle.control.proofs.PinByMasks.{sorted, role_by_masks}
use Rattle.chip.specs.declared.channel.Side.TheVariants.{Input, Output}
use Rattle.chip.specs.declared.Core.{Core}
use Rattle.chip.specs.State.{with_latch, with_enables}
use Rattle.chip.specs.ControlWord.{enabled, flag_put, set_as, pin_set, obeyed, after_control_word}

-- The two pins of group B that go by its side: the line of its channel stands for the one enable, and the flag is that channel's.
pub line_of_b : (c : Core) (v taking : Bool) → set_as c 2 v (handshake_role taking 2) ≡ with_enables c (enabled c.inte B Input v)
line_of_b c v true = refl
line_of_b c v false = refl

pub flag_of_b : (c : Core) (v taking : Bool) → set_as c 1 v (handshake_role taking 1) ≡ flag_put c B (cond taking Input Output) v
flag_of_b c v true = refl
flag_of_b c v false = refl

set_sorted : (c : Core) (n : ℕ) (v used out taking : Bool)
    → set_as c n v (sorted used out taking n)
    ≡ cond used (set_as c n v (handshake_role taking n)) (cond out (with_latch c (with_bit c.c.latch n v)) c)
set_sorted c n v true out taking = refl
set_sorted c n v false true taking = refl
set_sorted c n v false false taking = refl

pin_by_masks : (c : Core) (n : ℕ) (v : Bool) → c.word < 256 → n < 8
    → pin_set c n v
    ≡ cond (bit_of (handshake_pins c.word) n) (set_as c n v (handshake_role (strobed_input c.word B) n))
    (cond (bit_of (output_pins c.word) n) (with_latch c (with_bit c.c.latch n v)) c)
unfolding pin_set
pin_by_masks c n v hw hn =
    ap (set_as c n v) (role_by_masks c.word n hw hn)
    ∙ set_sorted c n v (bit_of (handshake_pins c.word) n) (bit_of (output_pins c.word) n) (strobed_input c.word B)

-- A pin of a handshake, a free output and a free input.
module _ (c : Core) (n : ℕ) (v : Bool) (hw : c.word < 256) (hn : n < 8) where
  pub set_in_handshake : bit_of (handshake_pins c.word) n ≡ true → pin_set c n v ≡ set_as c n v (handshake_role (strobed_input c.word B) n)
  set_in_handshake used = pin_by_masks c n v hw hn ∙ rw (used)

  pub set_output : bit_of (handshake_pins c.word) n ≡ false → bit_of (output_pins c.word) n ≡ true
      → pin_set c n v ≡ with_latch c (with_bit c.c.latch n v)
  set_output unused out = pin_by_masks c n v hw hn ∙ rw (unused, out)

  pub set_input : bit_of (handshake_pins c.word) n ≡ false → bit_of (output_pins c.word) n ≡ false → pin_set c n v ≡ c
  set_input unused no_out = pin_by_masks c n v hw hn ∙ rw (unused, no_out)

-- A byte for control is obeyed as what it says, and names one of the eight pins.
pub obeyed_so : (c : Core) (d : ℕ) → after_control_word c d ≡ obeyed c (control_of d)
unfolding after_control_word
obeyed_so c d = refl

pub ruleset commanded = (obeyed_so, pin_named_lem)

pub ruleset set_by_masks = (set_in_handshake, set_output, set_input)
