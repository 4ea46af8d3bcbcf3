-- What the mode word says, told by its plain bits: the mode and the direction of each group, what is strobed, the role of each pin ("Mode
-- words", "Port C roles").
-- Rests on bits' Tested, and control's AsByte, ByBits, RoleWords and PinByMasks.
use Rattle.std.proofs.Common.{◌≡◌, ◌∙◌, refl, ap, Bool, true, false, cond, not, ◌&&◌, ◌||◌, ℕ, zero, suc, ◌/◌, ◌%◌, ◌^◌, ◌<◌, arith, eqb, lit<}
use Rattle.bits.specs.Bit.{bit_of}
use Rattle.bits.proofs.Tested.{numbers, numbers_of_two}
use Rattle.control.specs.declared.Group.{Group}
use Rattle.control.specs.declared.Group.TheVariants.{A, B}
use Rattle.control.specs.Mode.{mode_of, input_of, upper_input, lower_input}
use Rattle.control.proofs.AsByte.{as_byte}
use Rattle.control.proofs.ByBits.{a_takes, a_gives, b_takes, b_gives}
use Rattle.control.specs.Role.{number, uses_of, free_role, role_of}
use Rattle.control.proofs.RoleWords.{role_as_byte}
use Rattle.control.proofs.PinByMasks.{number_one}
use Rattle.chip.specs.declared.channel.Side.{Side}
use Rattle.chip.specs.declared.channel.Side.TheVariants.{Input, Output}
use Rattle.chip.specs.Handshakes.{strobed}
use Rattle.laws.specs.PlainBits.{goes_both_ways, handshake, into, handshake_on, role_by}

-- What holds of each of the eight pins holds of every number below 8.
pub by_pin : (P : ℕ → Type 0) → P 0 → P 1 → P 2 → P 3 → P 4 → P 5 → P 6 → P 7 → (n : ℕ) → n < 8 → P n
by_pin P a b c d e f g h zero below = a
by_pin P a b c d e f g h (suc zero) below = b
by_pin P a b c d e f g h (suc (suc zero)) below = c
by_pin P a b c d e f g h (suc (suc (suc zero))) below = d
by_pin P a b c d e f g h (suc (suc (suc (suc zero)))) below = e
by_pin P a b c d e f g h (suc (suc (suc (suc (suc zero))))) below = f
by_pin P a b c d e f g h (suc (suc (suc (suc (suc (suc zero)))))) below = g
by_pin P a b c d e f g h (suc (suc (suc (suc (suc (suc (suc zero))))))) below = h
by_pin P a b c d e f g h (suc (suc (suc (suc (suc (suc (suc (suc n)))))))) below = absurd (omega (arith, below))

-- The eight bits of a word are those of a byte.
pub bit_as_byte : (w n : ℕ) → n < 8 → bit_of (w % 256) n ≡ bit_of w n
unfolding bit_of
bit_as_byte w n below =
    ap (λ (k : ℕ). eqb k 1)
    (by_pin (λ n. w % 256 / 2 ^ n % 2 ≡ w / 2 ^ n % 2)
    (omega arith) (omega arith) (omega arith) (omega arith) (omega arith) (omega arith) (omega arith) (omega arith) n below)

-- The mode of a group.
pub mode_by_bits : (w : ℕ) (g : Group) → mode_of w g ≡ cond (goes_both_ways w g) 2 (cond (handshake w g) 1 0)
unfolding mode_of bit_of
mode_by_bits w A =
    rw (← (as_byte w).mode A, ← bit_as_byte w 6 (lit< tt), ← bit_as_byte w 5 (lit< tt))
    (numbers 256 (λ w. mode_of w A) (λ w. cond (goes_both_ways w A) 2 (cond (handshake w A) 1 0)) tt (w % 256) (omega arith))
mode_by_bits w B =
    rw (← (as_byte w).mode B)
    (numbers 256 (λ w. mode_of w B) (λ w. cond (goes_both_ways w B) 2 (cond (handshake w B) 1 0)) tt (w % 256) (omega arith))

-- Mode 2 is bit 6, and mode 0 of group A is neither 6 nor 5.
pub two_by_bit : (w : ℕ) (g : Group) → eqb (mode_of w g) 2 ≡ goes_both_ways w g
two_by_bit w g = ap (λ (m : ℕ). eqb m 2) (mode_by_bits w g) ∙ go (goes_both_ways w g) (handshake w g)
  where
    go : (two one : Bool) → eqb (cond two 2 (cond one 1 0)) 2 ≡ two
    go true one = refl
    go false true = refl
    go false false = refl

pub zero_by_bits : (w : ℕ) → eqb (mode_of w A) 0 ≡ not (handshake w A)
zero_by_bits w = ap (λ (m : ℕ). eqb m 0) (mode_by_bits w A) ∙ go (bit_of w 6) (bit_of w 5)
  where
    go : (six five : Bool) → eqb (cond six 2 (cond (six || five) 1 0)) 0 ≡ not (six || five)
    go true five = refl
    go false true = refl
    go false false = refl

-- The direction of its port, and what is strobed.
pub direction_by_bit : (w : ℕ) (g : Group) → input_of w g ≡ into w g
unfolding input_of
direction_by_bit w A = refl
direction_by_bit w B = refl

absorbs : (six five way : Bool) → (six || (five && way)) ≡ (six || ((six || five) && way))
absorbs true five way = refl
absorbs false five way = refl

pub strobed_by_bits : (w : ℕ) (g : Group) (s : Side) → strobed w g s ≡ handshake_on w g s
strobed_by_bits w A Input = a_takes w ∙ absorbs (bit_of w 6) (bit_of w 5) (bit_of w 4)
strobed_by_bits w A Output = a_gives w ∙ absorbs (bit_of w 6) (bit_of w 5) (not (bit_of w 4))
strobed_by_bits w B Input = b_takes w
strobed_by_bits w B Output = b_gives w

-- The role of a pin.
pub role_by_bits : (w n : ℕ) → n < 8 → role_of w n ≡ role_by w n
unfolding role_of uses_of free_role mode_of input_of upper_input lower_input bit_of
role_by_bits w n below =
    rw (
      ← role_as_byte w n,
      ← bit_as_byte w 0 (lit< tt),
      ← bit_as_byte w 1 (lit< tt),
      ← bit_as_byte w 2 (lit< tt),
      ← bit_as_byte w 3 (lit< tt),
      ← bit_as_byte w 4 (lit< tt),
      ← bit_as_byte w 5 (lit< tt),
      ← bit_as_byte w 6 (lit< tt),
    )
    (of_byte_lem (w % 256) n (omega arith) below)
  where
    of_byte_lem : (w n : ℕ) → w < 256 → n < 8 → role_of w n ≡ role_by w n
    of_byte_lem w n hw hn =
        number_one (role_of w n) (role_by w n) (numbers_of_two 256 8 (λ w n. number (role_of w n)) (λ w n. number (role_by w n)) tt w n hw hn)
