-- The chip is divided between the two groups without a rest: a pin belongs to one group, and chips that are the same in both groups, the mode
-- word, the edition and the bus are the same chip.
-- Rests on Alike and Pins, and on bits' Tested and BitLaws.
use Rattle.std.proofs.Common.{◌≡◌, ◌∙◌, refl, ap, sym, Bool, true, false, not, ◌&&◌, ℕ, ◌<◌, eqb}
use Rattle.bits.specs.Bit.{bit_of}
use Rattle.bits.proofs.Tested.{bits}
use Rattle.bits.proofs.BitLaws.{assembled_same, assembled_bits}
use Rattle.control.specs.declared.Group.{Group}
use Rattle.control.specs.declared.Group.TheVariants.{A, B}
use Rattle.chip.specs.declared.Chip.{Chip}
use Rattle.chip.specs.State.{port_of}
use Rattle.groups.specs.Belongings.{its_pin, at_its_pins}
use Rattle.groups.specs.Doings.{acts_on}
use Rattle.groups.specs.Divided.{PinDivided, LinesOfBytes, SameInAll}
use Rattle.groups.proofs.Alike.{port_by_parts}
use Rattle.groups.proofs.Pins.{bit_at}

pub pin_divided : (n : ℕ) → n < 8 → PinDivided n
pin_divided n small = record { belongs = bits 8 (its_pin A) (λ n. not (its_pin B n)) tt n small; acted = acted }
  where
    acted : (g : Group) → acts_on g n ≡ (its_pin g n && not (eqb n 3))
    acted A = bits 8 (acts_on A) (λ n. its_pin A n && not (eqb n 3)) tt n small
    acted B = bits 8 (acts_on B) (λ n. its_pin B n && not (eqb n 3)) tt n small

-- Bytes that have the same bits at the pins of both groups.
same_byte : (x y : ℕ) → x < 256 → y < 256 → ((g : Group) → at_its_pins g x ≡ at_its_pins g y) → x ≡ y
same_byte x y hx hy same =
    sym (assembled_bits x hx) ∙ assembled_same (bit_of x) (bit_of y) (λ n small. go n small (its_pin B n) refl) ∙ assembled_bits y hy
  where
    at : (g : Group) (n : ℕ) → n < 8 → its_pin g n ≡ true → bit_of x n ≡ bit_of y n
    at g n small its = sym (bit_at g x n small its) ∙ ap (λ b. bit_of b n) (same g) ∙ bit_at g y n small its

    go : (n : ℕ) → n < 8 → (of_b : Bool) → its_pin B n ≡ of_b → bit_of x n ≡ bit_of y n
    go n small true is = at B n small is
    go n small false is = at A n small ((pin_divided n small).belongs ∙ rw (is))

-- A chip, put together of its parts.
abbrev together : Chip → Chip
together c =
    record {
      phase = c.phase;
      edition = c.edition;
      core = record {
        word = c.core.word;
        a = c.core.a;
        b = c.core.b;
        c = record { latch = c.core.c.latch; outside = c.core.c.outside };
        inte = record { input = c.core.inte.input; output = c.core.inte.output; b = c.core.inte.b };
      };
    }

-- Nothing of the chip is forgotten.
pub same_in_all : (c' c : Chip) → LinesOfBytes c' → LinesOfBytes c → SameInAll c' c → c' ≡ c
same_in_all c' c small' small k =
    let a : c'.core.a ≡ c.core.a = port A in
    let b : c'.core.b ≡ c.core.b = port B in
    let latch = same_byte _ _ small'.latch small.latch (λ g. ap (λ x. x.latch) (k.belongings g)) in
    let outside = same_byte _ _ small'.outside small.outside (λ g. ap (λ x. x.outside) (k.belongings g)) in
    let input : c'.core.inte.input ≡ c.core.inte.input = ap (λ x. x.input_enabled) (k.belongings A) in
    let output : c'.core.inte.output ≡ c.core.inte.output = ap (λ x. x.output_enabled) (k.belongings A) in
    let enable_b : c'.core.inte.b ≡ c.core.inte.b = ap (λ x. x.input_enabled) (k.belongings B) in
    let all : together c' ≡ together c = cc (k.phase, k.edition, k.word, a, b, latch, outside, input, output, enable_b) in
    all
  where
    port : (g : Group) → port_of c'.core g ≡ port_of c.core g
    port g =
        port_by_parts (port_of c'.core g) (port_of c.core g)
        (ap (λ x. x.input) (k.belongings g)) (ap (λ x. x.output) (k.belongings g)) (ap (λ x. x.port_outside) (k.belongings g))
