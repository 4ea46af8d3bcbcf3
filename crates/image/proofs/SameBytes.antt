-- An image is the image of the state that it tells, byte for byte.
-- Rests on Long, and on bits' Logic and Tabled.
use Rattle.std.proofs.Common.{◌≡◌, ◌∙◌, refl, ap, sym, Bool, true, false, ◌&&◌, List, [], ◌∷◌, ◌++◌, ℕ, zero, suc, ◌+◌, ◌-◌, ◌*◌, ◌/◌, ◌%◌, ◌<◌, arith, w8, Fits, eqb, length, ext_get_or, eqb-true}
use Rattle.std.proofs.lemmas.Bool.Decides.{nat_tests}
use Rattle.bits.specs.Table.{from}
use Rattle.bits.proofs.Logic.{both}
use Rattle.bits.proofs.Tabled.{table_at}
use Rattle.control.specs.declared.Group.TheVariants.{A, B}
use Rattle.chip.specs.declared.channel.Side.{Side}
use Rattle.chip.specs.declared.channel.Side.TheVariants.{Input, Output}
use Rattle.chip.specs.declared.channel.Tally.{Tally}
use Rattle.chip.specs.Handshakes.{strobed}
use Rattle.image.specs.Places as places
use Rattle.image.specs.Layout.{fill_byte, enables_byte, port_bytes, bus_byte, written_byte, edition_byte, image_of}
use Rattle.image.specs.Loaded.{byte_at, fill_as, enables_as, core_by, channel_tally, phase_as, edition_as, state_of}
use Rattle.image.specs.Good.{cycle_fits, edition_fits, enables_fit, fill_fits, channel_fits, core_fits, all_zero, unused_zero, end_fits, bytes_fit, is_image, Told, Bytes}
use Rattle.image.proofs.Long.{is_long}

length_from : (f : ℕ → ℕ) (i n : ℕ) → length (from f i n) ≡ n
length_from f i zero = refl
length_from f i (suc n) = ap suc (length_from f (suc i) n)

-- A list is its elements, one after the other.
pub spelled : (l : List ℕ) (n : ℕ) → length l ≡ n → from (byte_at l) 0 n ≡ l
spelled l n h =
    ext_get_or 0 (from (byte_at l) 0 n) l (length_from (byte_at l) 0 n ∙ sym h)
    (λ i below. table_at (byte_at l) 0 n i (rw (length_from (byte_at l) 0 n) at below))

pub small : (l : List ℕ) → Bytes l → (i : ℕ) → byte_at l i < 256
small [] bytes i = omega arith
small (b ∷ bs) bytes zero = bytes.0
small (b ∷ bs) bytes (suc i) = small bs bytes.1 i

-- Numbers of two bytes, taken apart again.
low : (b h : ℕ) → b < 256 → (b + 256 * h) % 256 ≡ b
low b h below = omega (arith, below)

high : (b h : ℕ) → b < 256 → (b + 256 * h) / 256 ≡ h
high b h below = omega (arith, below)

module _ (f : ℕ → ℕ) (below : (i : ℕ) → f i < 256) where
  abbrev apart : ℕ → ℕ → List ℕ
  apart i zero = []
  apart i (suc n) = (f i + 256 * f (suc i)) % 256 ∷ (f i + 256 * f (suc i)) / 256 ∷ apart (suc (suc i)) n

  abbrev twice : ℕ → ℕ
  twice zero = zero
  twice (suc n) = suc (suc (twice n))

  pub same_pairs : (i n : ℕ) → apart i n ≡ from f i (twice n)
  same_pairs i zero = refl
  same_pairs i (suc n) = λ j. low (f i) (f (suc i)) (below i) j ∷ high (f i) (f (suc i)) (below i) j ∷ same_pairs (suc (suc i)) n j

same_fill : (on : Bool) (s : Side) (b : ℕ) → fill_fits on s b ≡ true → fill_byte (fill_as b) ≡ b
same_fill true Input b fits = grind (arith, nat_tests)
same_fill true Output b fits = grind (arith, nat_tests)
same_fill false Input b fits = grind (arith, nat_tests)
same_fill false Output b fits = grind (arith, nat_tests)

same_bus : (edition bus byte : ℕ) → cycle_fits edition bus byte ≡ true → bus_byte (phase_as bus byte) ≡ bus
same_bus edition bus byte fits = grind (arith, nat_tests)

same_written : (edition bus byte : ℕ) → cycle_fits edition bus byte ≡ true → written_byte (phase_as bus byte) ≡ byte
same_written edition bus byte fits = grind (arith, nat_tests)

same_edition : (b : ℕ) → edition_fits b ≡ true → edition_byte (edition_as b) ≡ b
same_edition b fits = grind (arith, nat_tests)

-- As many zeros as there are bytes.
abbrev pub zeros : List ℕ → List ℕ
zeros [] = []
zeros (b ∷ bs) = 0 ∷ zeros bs

pub same_zeros : (bs : List ℕ) → all_zero bs ≡ true → zeros bs ≡ bs
same_zeros [] all = refl
same_zeros (b ∷ bs) all =
    let is = both (eqb b 0) (all_zero bs) all in
    λ i. sym (eqb-true b 0 is.0) i ∷ same_zeros bs is.1 i

-- What is asked of the bytes between the tallies and the bus, one by one.
record Parts (byte : ℕ → ℕ) : Type 0 where
  a_input : channel_fits byte A Input 0 ≡ true
  a_output : channel_fits byte A Output 1 ≡ true
  b_input : channel_fits byte B Input 2 ≡ true
  b_output : channel_fits byte B Output 3 ≡ true
  enables : enables_fit (byte places.enables) ≡ true

parts : (byte : ℕ → ℕ) → core_fits byte ≡ true → Parts byte
parts byte fits = record {
  a_input = grind (arith, nat_tests);
  a_output = grind (arith, nat_tests);
  b_input = grind (arith, nat_tests);
  b_output = grind (arith, nat_tests);
  enables = grind (arith, nat_tests);
}

-- Those fourteen bytes, by the byte at each place, whatever the tallies are.
pub same_core : (byte : ℕ → ℕ) (tally : ℕ → Tally) → core_fits byte ≡ true
    → port_bytes (core_by byte tally) ++ (byte places.word ∷ enables_byte (enables_as (byte places.enables)) ∷ [])
    ≡ from byte places.levels_a (places.bus - places.levels_a)
same_core byte tally fits =
    let p = parts byte fits in
    let strobes = strobed (byte places.word) in
    let condition : ℕ → ℕ = λ k. byte (places.conditions + k) in
    λ i.
    from byte places.levels_a (places.conditions - places.levels_a)
    ++ (same_fill (strobes A Input) Input (condition 0) p.a_input i
    ∷ same_fill (strobes A Output) Output (condition 1) p.a_output i
    ∷ same_fill (strobes B Input) Input (condition 2) p.b_input i
    ∷ same_fill (strobes B Output) Output (condition 3) p.b_output i
    ∷ byte places.word
    ∷ eqb-true (enables_byte (enables_as (byte places.enables))) (byte places.enables) p.enables i ∷ [])

pub same_bytes_lem : (l : List ℕ) → Bytes l → is_image l ≡ true → Told l
unfolding image_of state_of is_image
same_bytes_lem l bytes good =
    let fits = both (end_fits l) (core_fits (byte_at l)) (both (eqb (length l) places.length) (bytes_fit l) good).1 in
    let edition = byte_at l places.edition in
    let bus = byte_at l places.bus in
    let written = byte_at l places.written in
    let cycle = cycle_fits edition bus written in
    let end = both cycle (edition_fits edition && unused_zero l) fits.0 in
    let behind = both (edition_fits edition) (unused_zero l) end.1 in
    (λ i.
    same_pairs (byte_at l) (small l bytes) places.tallies 28 i
    ++ same_core (byte_at l) (channel_tally l) fits.1 i
    ++ (same_bus edition bus written end.0 i ∷ same_written edition bus written end.0 i ∷ same_edition edition behind.0 i ∷ [])
    ++ same_zeros (from (byte_at l) places.unused (places.length - places.unused)) behind.1 i)
    ∙ spelled l places.length (is_long l good)

-- What a slice holds are bytes.
pub bytes_by : (l : List ℕ) → ((i : ℕ) → Fits w8 (byte_at l i)) → Bytes l
bytes_by [] each = tt
bytes_by (b ∷ bs) each = ((each 0).fits, bytes_by bs (λ i. each (suc i)))

pub slice_told : (l : List ℕ) → ((i : ℕ) → Fits w8 (byte_at l i)) → is_image l ≡ true → Told l
slice_told l each good = same_bytes_lem l (bytes_by l each) good
