-- The number of the bus, above which stands what is wrong in the core: an idle bus, and one on which a cycle runs.
-- Rests on bits' Tested.
use Rattle.std.proofs.Common.{◌≡◌, ◌∙◌, refl, ap, sym, Bool, true, false, ◌&&◌, List, ℕ, ◌+◌, ◌*◌, ◌/◌, ◌%◌, ◌^◌, ◌<◌, arith, eqb, ltb}
use Rattle.std.proofs.lemmas.Bool.Decides.{nat_tests}
use lib.Bits.{bit_and, bit_xor, and_mod, and_le_r, xor_shr, xor_zero_r, xor_assoc}
use Rattle.bits.proofs.Tested.{bits}
use Rattle.image.specs.Places as places
use Rattle.image.specs.Loaded.{byte_at, wide_at}
use Rattle.image.specs.Good.{writes, cycle_fits, edition_fits, unused_zero, core_fits, bytes_fit}

-- A write that runs: of the lower byte all but the address is `writes`.
lower_writes : (b : ℕ) → b < 256 → eqb (bit_and b 252) 4 ≡ writes b
lower_writes = bits 256 (λ b. eqb (bit_and b 252) 4) writes tt

pub write_asked : (n : ℕ) → eqb (bit_and n 252) 4 ≡ writes (n % 256)
write_asked n =
    let itself : bit_and n 252 ≡ bit_and (n % 256) 252 = grind (arith, and_mod n 252 8, and_le_r n 252) in
    ap (λ (k : ℕ). eqb k 4) itself ∙ lower_writes (n % 256) (omega arith)

-- Lowest in a number n is how a bus differs from an idle one, and above that there is something exactly where the core does not fit.
cycle_told : (n wide bus written : ℕ) (core : Bool) (cycle : ℕ → ℕ → Bool) → wide ≡ bus + 256 * written → bus < 256 → written < 256
    → ltb n (2 ^ 16) ≡ core → (n < 2 ^ 16 → n ≡ bit_xor wide 8)
    → (ltb (bit_xor n 8) (2 ^ 16) && cycle (bit_xor n 8 % 256) (bit_xor n 8 / 256)) ≡ (cycle bus written && core)
cycle_told n wide bus written core cycle parts bus_below written_below core_lowest bus_lowest =
    grind (arith, nat_tests, xor_shr n 8 16, xor_zero_r (n / 2 ^ 16), xor_assoc wide 8 8, xor_zero_r wide)

-- Where two of three hold, the third is what is asked of all; and all do not hold where one of the two does not.
between : (a b c : Bool) → (a && c) ≡ true → b ≡ ((a && b) && c)
between a b c are = grind (arith, nat_tests)

nowhere : (a b c : Bool) → (a && c) ≡ false → false ≡ ((a && b) && c)
nowhere a b c are = grind (arith, nat_tests)

module _ (l : List ℕ) (small : (i : ℕ) → byte_at l i < 256) (n : ℕ) (core_lowest : ltb n (2 ^ 16) ≡ core_fits (byte_at l))
    (bus_lowest : n < 2 ^ 16 → n ≡ bit_xor (wide_at l places.bus) places.idle) where
  abbrev cycle : ℕ → ℕ → Bool
  cycle bus written = cycle_fits (byte_at l places.edition) bus written

  abbrev of_bytes : Bool
  of_bytes = cycle (byte_at l places.bus) (byte_at l places.written)

  abbrev of_number : Bool
  of_number = ltb (bit_xor n 8) (2 ^ 16) && cycle (bit_xor n 8 % 256) (bit_xor n 8 / 256)

  abbrev rest : Bool
  rest = edition_fits (byte_at l places.edition) && unused_zero l

  told : of_number ≡ (of_bytes && core_fits (byte_at l))
  told =
      cycle_told n (wide_at l places.bus) (byte_at l places.bus) (byte_at l places.written) (core_fits (byte_at l)) cycle
      refl (small places.bus) (small places.written) core_lowest bus_lowest

  pub running : of_number ≡ true → rest ≡ bytes_fit l
  running is = between of_bytes rest (core_fits (byte_at l)) (sym told ∙ is)

  pub not_running : of_number ≡ false → false ≡ bytes_fit l
  not_running is = nowhere of_bytes rest (core_fits (byte_at l)) (sym told ∙ is)

  pub idle : n ≡ 0 → rest ≡ bytes_fit l
  idle nothing = running (grind (arith, nat_tests))
