-- Port C put together from what the handshakes in force have of it is port C pin by pin ("Reads and pins").
-- Rests on bits' laws of bytes and masks, and on control's PinByMasks and ByBits.
use Rattle.std.proofs.Common.{◌≡◌, ◌∙◌, refl, ap, ap₂, sym, Bool, true, false, cond, not, ◌&&◌, ◌||◌, [], ℕ, zero, suc, ◌<◌, arith, eqb}
use mathlib.Core.Bool.{or-false, and-false, and-true, and_assoc}
use lib.Bits.{bit_or}
use Rattle.bits.specs.Bit.{bit_of, value_of, assembled, blend_of}
use Rattle.bits.proofs.Tested.{bits, numbers_of_two}
use Rattle.bits.proofs.BitLaws.{bit_of_value, assembled_same}
use Rattle.bits.proofs.MaskLaws.{bit_or_lem, blend_assembled, bit_of_blend}
use Rattle.control.specs.declared.Group.{Group}
use Rattle.control.specs.declared.Group.TheVariants.{A, B}
use Rattle.control.specs.Mode.{mode_of, input_of, upper_input, lower_input, strobed_input, strobed_output}
use Rattle.control.specs.Role.{Role, input, output, IBF, OBF, STB, ACK, number, uses_of, in_lower_half, free_role, role_of}
use Rattle.control.specs.Pins.{is_output, output_pins, handshake_role}
use Rattle.control.proofs.ByBits.{b_takes, b_gives}
use Rattle.control.proofs.PinByMasks.{number_one, bit_of_outputs}
use Rattle.chip.specs.declared.channel.Side.{Side}
use Rattle.chip.specs.declared.channel.Side.TheVariants.{Input, Output}
use Rattle.chip.specs.declared.Chip.{Chip}
use Rattle.chip.specs.declared.in_force.Handshake.{Handshake}
use Rattle.chip.specs.Handshakes.{strobed}
use Rattle.chip.specs.Status.{flag_at, request_of, intr_of}
use Rattle.chip.specs.Reads.{read_as, read_lines}
use Rattle.chip.specs.Pins.{is_driven, level_as, pins_of_lines}
use Rattle.chip.specs.InForce.{asks_of, of_channel, joined, of_group, in_force, half_of}

-- A strobed channel has pin n. Such a pin has the one role that a handshake can give it, and any other that of its half.
abbrev used : ℕ → ℕ → Bool
used w n =
    (strobed_input w A && bit_of 0x38 n || strobed_output w A && bit_of 0xc8 n)
    || (strobed_input w B && bit_of 0x07 n || strobed_output w B && bit_of 0x07 n)

abbrev role_in_force : ℕ → ℕ → Role
role_in_force w n = cond (used w n) (handshake_role (strobed_input w B) n) (free_role w n)

role_split : (w n : ℕ) → w < 256 → n < 8 → role_of w n ≡ role_in_force w n
unfolding role_of uses_of free_role strobed_input strobed_output mode_of input_of upper_input lower_input bit_of
role_split w n hw hn =
    number_one (role_of w n) (role_in_force w n)
    (numbers_of_two 256 8 (λ w n. number (role_of w n)) (λ w n. number (role_in_force w n)) tt w n hw hn)

-- A channel whose flag is down does not ask.
pub flag_down : (c : Chip) (g : Group) (s : Side) → flag_at c.core g s ≡ false → asks_of c g s ≡ false
flag_down c g s down = simp (down, and-false)

-- Pin by pin, of the pins that handshakes have and of what they tell: each is that of a strobed channel.
module _ (part : Handshake → ℕ) (parts : (one other : Handshake) → part (joined one other) ≡ bit_or (part one) (part other))
    (nothing : part (record { pins = 0; told = 0 }) ≡ 0) (c : Chip) (n : ℕ) where
  abbrev has : Handshake → Bool
  has h = bit_of (part h) n

  both : (one other : Handshake) → has (joined one other) ≡ (has one || has other)
  both one other = ap (λ (k : ℕ). bit_of k n) (parts one other) ∙ bit_or_lem (part one) (part other) n

  abbrev of_side : Group → Side → Bool
  of_side g s = strobed c.core.word g s && has (of_channel c g s)

  group_at : (g : Group) → has (of_group c g) ≡ (of_side g Input || of_side g Output)
  unfolding of_group strobed_input strobed_output value_of
  group_at g = go (eqb (mode_of c.core.word g) 2) (eqb (mode_of c.core.word g) 1) (input_of c.core.word g)
    where
      go : (two one taking : Bool)
          → has (cond two (joined (of_channel c g Input) (of_channel c g Output))
          (cond (two || one && taking) (of_channel c g Input)
          (cond (two || one && not taking) (of_channel c g Output) (record { pins = 0; told = 0 }))))
          ≡ ((two || one && taking) && has (of_channel c g Input) || (two || one && not taking) && has (of_channel c g Output))
      go true one taking = both (of_channel c g Input) (of_channel c g Output)
      go false true true = sym (or-false (has (of_channel c g Input)))
      go false true false = refl
      go false false taking = ap (λ (k : ℕ). bit_of k n) nothing ∙ bit_of_value [] n

  channels_at : has (in_force c) ≡ ((of_side A Input || of_side A Output) || (of_side B Input || of_side B Output))
  unfolding in_force
  channels_at = both (of_group c A) (of_group c B) ∙ rw (group_at A, group_at B)

request_asked : (c : Chip) (g : Group) (s : Side) → request_of c g s ≡ (strobed c.core.word g s && asks_of c g s)
unfolding request_of
request_asked c g s = simp and_assoc

-- What a strobed channel tells stands on its pins alone.
masked : (on told else : Bool) → cond on (on && told) else ≡ cond on told else
masked true told else = refl
masked false told else = refl

ruleset of_bits = (bit_of_value, and-false, or-false, and-true, request_asked, masked)

-- Group B is strobed on one side at most.
one_of_b : (told : Bool → Bool) (on taking else : Bool)
    → cond (on && taking || on && not taking) (on && taking && told true || on && not taking && told false) else
    ≡ cond (on && taking || on && not taking) (told (on && taking)) else
one_of_b told true true else = or-false (told true)
one_of_b told true false else = refl
one_of_b told false taking else = refl

lower_half : (n : ℕ) → n < 8 → bit_of 0x0f n ≡ in_lower_half n
unfolding bit_of
lower_half = bits 8 (bit_of 0x0f) in_lower_half tt

upper_half : (n : ℕ) → n < 8 → bit_of 0xf0 n ≡ not (in_lower_half n)
unfolding bit_of
upper_half = bits 8 (bit_of 0xf0) (λ n. not (in_lower_half n)) tt

blended : (mask x y : ℕ) (f : ℕ → Bool)
    → ((n : ℕ) → n < 8 → cond (bit_of mask n) (bit_of x n) (bit_of y n) ≡ f n) → blend_of mask x y ≡ assembled f
blended mask x y f each = blend_assembled mask x y ∙ assembled_same (λ n. cond (bit_of mask n) (bit_of x n) (bit_of y n)) f each

-- Of the handshakes' pins all but 2, 4 and 6 are driven.
abbrev driven_pins : ℕ
driven_pins = 0xab

driven_in_handshake : (taking : Bool) (n : ℕ) → n < 8 → is_driven (handshake_role taking n) ≡ bit_of driven_pins n
unfolding bit_of
driven_in_handshake true = bits 8 (λ n. is_driven (handshake_role true n)) (bit_of driven_pins) tt
driven_in_handshake false = bits 8 (λ n. is_driven (handshake_role false n)) (bit_of driven_pins) tt

-- A pin in the role r that a handshake gives it, or in that of its half. Where it is free it is driven as an output.
abbrev taken : Bool → Role → Bool → Role
taken used r half = cond used r (cond half input output)

driven_taken : (used half : Bool) (r : Role) → cond used (is_driven r) (is_output (taken used r half)) ≡ is_driven (taken used r half)
driven_taken true half r = refl
driven_taken false true r = refl
driven_taken false false r = refl

module _ (c : Chip) (hw : c.core.word < 256) where
  abbrev word : ℕ
  word = c.core.word

  pins_at : (n : ℕ) → bit_of (in_force c).pins n ≡ used word n
  unfolding of_channel
  pins_at n = channels_at (λ h. h.pins) (λ one other. refl) refl c n

  abbrev tells : ℕ → Group → Side → Bool
  tells n g s = strobed word g s && bit_of (of_channel c g s).told n

  bits_told : (n : ℕ) → bit_of (in_force c).told n ≡ ((tells n A Input || tells n A Output) || (tells n B Input || tells n B Output))
  bits_told n = channels_at (λ h. h.told) (λ one other. refl) refl c n

  -- The role that a handshake can give a pin, and what the pin tells in it.
  abbrev role_at : ℕ → Role
  role_at n = handshake_role (strobed_input word B) n

  abbrev told_as : ℕ → Bool
  told_as n = read_as c n (role_at n)

  told_at : (n : ℕ) (else : Bool) → n < 8 → cond (used word n) (bit_of (in_force c).told n) else ≡ cond (used word n) (told_as n) else
  unfolding of_channel bit_of intr_of
  told_at zero else hn = simp (bits_told, of_bits)
  told_at (suc zero) else hn =
      simp (bits_told, of_bits, b_takes, b_gives) (one_of_b (λ t. read_as c 1 (cond t IBF OBF)) (bit_of word 2) (bit_of word 1) else)
  told_at (suc (suc zero)) else hn =
      simp (bits_told, of_bits, b_takes, b_gives) (one_of_b (λ t. read_as c 2 (cond t STB ACK)) (bit_of word 2) (bit_of word 1) else)
  told_at (suc (suc (suc zero))) else hn = simp (bits_told, of_bits)
  told_at (suc (suc (suc (suc zero)))) else hn = simp (bits_told, of_bits)
  told_at (suc (suc (suc (suc (suc zero))))) else hn = simp (bits_told, of_bits)
  told_at (suc (suc (suc (suc (suc (suc zero)))))) else hn = simp (bits_told, of_bits)
  told_at (suc (suc (suc (suc (suc (suc (suc zero))))))) else hn = simp (bits_told, of_bits)
  told_at (suc (suc (suc (suc (suc (suc (suc (suc n)))))))) else hn = absurd (omega (arith, hn))

  -- Where no handshake has a pin, its level is that of its half.
  half_at : (input : Bool) (pins levels n : ℕ) → n < 8
      → bit_of (half_of c input pins levels) n ≡ cond (input && bit_of pins n) (bit_of c.core.c.outside n) (bit_of levels n)
  half_at true pins levels n hn = bit_of_blend pins c.core.c.outside levels n hn
  half_at false pins levels n hn = refl

  abbrev free : ℕ
  free = half_of c (lower_input word) 0x0f (half_of c (upper_input word) 0xf0 c.core.c.latch)

  free_at : (n : ℕ) → n < 8 → bit_of free n ≡ read_as c n (free_role word n)
  unfolding free_role
  free_at n hn =
      half_at (lower_input word) 0x0f (half_of c (upper_input word) 0xf0 c.core.c.latch) n hn
      ∙ rw (half_at (upper_input word) 0xf0 c.core.c.latch n hn, lower_half n hn, upper_half n hn)
      (go (in_lower_half n) (lower_input word) (upper_input word))
    where
      go : (lower low up : Bool)
          → cond (low && lower) (bit_of c.core.c.outside n) (cond (up && not lower) (bit_of c.core.c.outside n) (bit_of c.core.c.latch n))
          ≡ read_as c n (cond (cond lower low up) input output)
      go true true up = refl
      go true false up = rw (and-false up)
      go false low true = rw (and-false low)
      go false low false = rw (and-false low)

  abbrev input_half : ℕ → Bool
  input_half n = cond (in_lower_half n) (lower_input word) (upper_input word)

  -- What is read.
  pub lines_in_force : blend_of (in_force c).pins (in_force c).told free ≡ read_lines c
  unfolding read_lines
  lines_in_force =
      blended (in_force c).pins (in_force c).told free (λ n. read_as c n (role_of word n))
      (λ n hn. rw (pins_at n, told_at n (bit_of free n) hn, free_at n hn, role_split word n hw hn) (go n (used word n)))
    where
      go : (n : ℕ) (on : Bool)
          → cond on (told_as n) (read_as c n (free_role word n)) ≡ read_as c n (cond on (role_at n) (free_role word n))
      go n true = refl
      go n false = refl

  abbrev driven : ℕ
  driven = blend_of (in_force c).pins driven_pins (output_pins word)

  driven_at : (n : ℕ) → n < 8
      → cond (bit_of (in_force c).pins n) (bit_of driven_pins n) (bit_of (output_pins word) n) ≡ is_driven (role_of word n)
  unfolding free_role
  driven_at n hn =
      rw (pins_at n, ← driven_in_handshake (strobed_input word B) n hn, bit_of_outputs word n hn, role_split word n hw hn)
      (driven_taken (used word n) (input_half n) (role_at n))

  abbrev shown : ℕ
  shown = blend_of (in_force c).pins (in_force c).told c.core.c.latch

  -- A driven pin shows what is read there, and any other what is outside.
  level_at : (n : ℕ) → n < 8 → cond (bit_of driven n) (bit_of shown n) (bit_of c.core.c.outside n) ≡ level_as c n (role_of word n)
  unfolding free_role
  level_at n hn =
      rw (
        bit_of_blend (in_force c).pins driven_pins (output_pins word) n hn,
        driven_at n hn,
        bit_of_blend (in_force c).pins (in_force c).told c.core.c.latch n hn,
        pins_at n,
        told_at n (bit_of c.core.c.latch n) hn,
        role_split word n hw hn,
      )
      (go (used word n) (input_half n))
    where
      go : (used half : Bool)
          → cond (is_driven (taken used (role_at n) half)) (cond used (told_as n) (bit_of c.core.c.latch n)) (bit_of c.core.c.outside n)
          ≡ level_as c n (taken used (role_at n) half)
      go true half = refl
      go false true = refl
      go false false = refl

  -- What is shown.
  pub pins_in_force : record { levels = blend_of driven shown c.core.c.outside; driven = driven } ≡ pins_of_lines c
  unfolding pins_of_lines
  pins_in_force =
      ap₂ (λ (l d : ℕ). record { levels = l; driven = d })
      (blended driven shown c.core.c.outside (λ n. level_as c n (role_of word n)) level_at)
      (blended (in_force c).pins driven_pins (output_pins word) (λ n. is_driven (role_of word n)) driven_at)
