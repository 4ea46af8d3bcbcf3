-- The eight bytes from the conditions to the bus, judged together as one number.
-- Rests on ByByte, and on bits' Tested.
use Rattle.std.proofs.Common.{◌≡◌, refl, Bool, true, false, cond, ◌&&◌, List, ℕ, ◌+◌, ◌*◌, ◌/◌, ◌%◌, ◌^◌, ◌<◌, lt_of_le_of_lt, lit<, arith, w64, ltb}
use Rattle.std.proofs.lemmas.Bool.Decides.{nat_tests}
use Rattle.std.specs.Int.{rotate_left}
use lib.Bits.{bit_and, bit_or, bit_xor, xor_lt, and_le_r, and_mod, or_mod, and_mask, or_self, or_shifted}
use Rattle.bits.specs.Bit.{bit_of, value_of}
use Rattle.bits.proofs.Tested.{each}
use Rattle.control.specs.Mode.{mode_of, input_of, strobed_input, strobed_output}
use Rattle.control.specs.declared.Group.{Group}
use Rattle.control.specs.declared.Group.TheVariants.{A, B}
use Rattle.chip.specs.declared.channel.Side.{Side}
use Rattle.chip.specs.declared.channel.Side.TheVariants.{Input, Output}
use Rattle.chip.specs.Handshakes.{strobed}
use Rattle.image.specs.Places as places
use Rattle.image.specs.Loaded.{byte_at, wide_at, eight_at}
use Rattle.image.specs.Good.{enables_fit, fill_fits, channel_fits, core_fits}
use Rattle.image.specs.Masks.{masks_of}
use Rattle.image.proofs.ByByte.{left, ToldByByte, Number, with_lowest}

-- Each byte of the core tells whether it fits.
input : (on : Bool) → ToldByByte 0 1 (cond on 252 254) (fill_fits on Input)
input true = record { small = tt; told = tt; carries = tt }
input false = record { small = tt; told = tt; carries = tt }

output : (on : Bool) → ToldByByte 0 0 (cond on 254 255) (fill_fits on Output)
output true = record { small = tt; told = tt; carries = tt }
output false = record { small = tt; told = tt; carries = tt }

word : ToldByByte 128 0 128 (λ b. bit_of b 7)
unfolding bit_of
word = record { small = tt; told = tt; carries = tt }

enables : ToldByByte 0 0 171 enables_fit
unfolding bit_of value_of
enables = record { small = tt; told = tt; carries = tt }

-- What is asked of six bytes, in their order and in that of the definitions.
in_order : (a b c d w e : Bool) → (a && (b && (c && (d && (w && (e && true)))))) ≡ (w && (a && b && c && d) && e)
in_order a b c d w e = grind (arith, nat_tests)

-- Under a mask of eight bytes a number is as its lowest eight.
masked : (n mask : ℕ) → mask < 2 ^ 64 → bit_and n mask ≡ bit_and (n % 2 ^ 64) mask
masked n mask below = grind (arith, and_mod n mask 64, and_le_r n mask)

wrapped : (n above mask : ℕ) → mask < 2 ^ 64 → bit_and (bit_or n (above % 2 ^ 64)) mask ≡ bit_and (bit_or n above) mask
wrapped n above mask below =
    grind (arith, masked (bit_or n (above % 2 ^ 64)) mask below, masked (bit_or n above) mask below, or_mod n (above % 2 ^ 64) 64, or_mod n above 64)

-- Rotated by two bytes, a number has its highest two lowest.
rotated : (n : ℕ) → n < 2 ^ 64 → rotate_left w64 n 16 ≡ n % 2 ^ 48 * 65536 + n / 2 ^ 48
rotated n below = grind (arith, or_shifted (n % 2 ^ 48) 16 (n / 2 ^ 48) (omega (arith, below)))

masks_below : (word : ℕ) → word < 256 → masks_of word < 2 ^ 64
unfolding bit_of mode_of input_of strobed_input strobed_output
masks_below word below = lit< (each 256 (λ w. ltb (masks_of w) (2 ^ 64)) tt word below)

module _ (l : List ℕ) (small : (i : ℕ) → byte_at l i < 256) where
  abbrev number : ℕ
  number = eight_at l places.conditions

  abbrev masks : ℕ
  masks = masks_of (byte_at l places.word)

  -- The bus as it differs from an idle one. All of it is left.
  abbrev bus : ℕ
  bus = bit_xor (wide_at l places.bus) places.idle

  bus_below : bus < 65536
  bus_below = xor_lt 16 (wide_at l places.bus) places.idle (omega (arith, small places.bus, small places.written)) (omega arith)

  bus_left : Number (wide_at l places.bus) places.idle 0 65535 1 true bus
  bus_left = record { all_fit = λ _. grind (arith, or_self bus, and_mask bus 16, bus_below); none_left = λ _ _. refl }

  abbrev fits : Group → Side → ℕ → Bool
  fits g s k = channel_fits (byte_at l) g s k

  judged : Number number 2252349569499136 65537 masks (2 ^ 48) (core_fits (byte_at l)) bus
  judged =
      let on = strobed (byte_at l places.word) in
      let by_byte =
      with_lowest (input (on A Input)) (byte_at l 64) (small 64)
      (with_lowest (output (on A Output)) (byte_at l 65) (small 65)
      (with_lowest (input (on B Input)) (byte_at l 66) (small 66)
      (with_lowest (output (on B Output)) (byte_at l 67) (small 67)
      (with_lowest word (byte_at l 68) (small 68)
      (with_lowest enables (byte_at l 69) (small 69) bus_left))))) in
      let as_one : byte_at l 64 + 256 * (byte_at l 65 + 256 * (byte_at l 66 + 256 * (byte_at l 67
      + 256 * (byte_at l 68 + 256 * (byte_at l 69 + 256 * wide_at l places.bus))))) ≡ number = omega arith in
      let ordered = in_order (fits A Input 0) (fits A Output 1) (fits B Input 2) (fits B Output 3)
      (bit_of (byte_at l places.word) 7) (enables_fit (byte_at l places.enables)) in
      rw (as_one, ordered) at by_byte

  abbrev differing : ℕ
  differing = bit_xor number 2252349569499136

  -- What the code makes of it.
  abbrev told : ℕ
  told = rotate_left w64 (bit_and (bit_or differing ((differing + 65537) % 2 ^ 64)) masks) 16

  abbrev wrong : ℕ
  wrong = left number 2252349569499136 65537 masks 0

  bus_first : told ≡ wrong % 2 ^ 48 * 65536 + wrong / 2 ^ 48
  bus_first =
      let below = masks_below (byte_at l places.word) (small places.word) in
      grind (
        arith,
        wrapped differing (differing + 65537) masks below,
        rotated wrong (lt_of_le_of_lt (and_le_r (bit_or differing (differing + 65537 + 0)) masks) below),
      )

  pub core_lowest : ltb told (2 ^ 16) ≡ core_fits (byte_at l)
  core_lowest = grind (arith, nat_tests, bus_first, bus_below, judged.all_fit, judged.none_left (wrong / 2 ^ 48))

  pub bus_lowest : told < 2 ^ 16 → told ≡ bus
  bus_lowest is = grind (arith, nat_tests, bus_first, judged.all_fit, core_lowest, bus_below)
