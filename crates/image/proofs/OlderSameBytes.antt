-- An older image is that of the state that it tells, byte for byte.
-- Rests on bits' Logic, and on SameBytes and OlderLong.
use Rattle.std.proofs.Common.{◌≡◌, ◌∙◌, true, ◌&&◌, List, [], ◌∷◌, ◌++◌, ℕ, ◌-◌, arith, eqb, length}
use Rattle.std.proofs.lemmas.Bool.Decides.{nat_tests}
use Rattle.bits.specs.Table.{from}
use Rattle.bits.proofs.Logic.{both}
use Rattle.image.specs.Layout.{written_byte}
use Rattle.image.specs.Loaded.{byte_at}
use Rattle.image.specs.Good.{core_fits, Bytes}
use Rattle.image.proofs.SameBytes.{spelled, small, same_pairs, same_core, same_zeros}
use Rattle.image.specs.OlderPlaces as places
use Rattle.image.specs.OlderLayout.{bus_byte, address_byte, older_of}
use Rattle.image.specs.OlderLoaded.{channel_tally, core_byte, phase_as, older_state}
use Rattle.image.specs.OlderGood.{cycle_fits, unused_zero, bytes_fit, is_older}
use Rattle.image.proofs.OlderLong.{is_long}

-- The three bytes of the bus.
abbrev bus_again : ℕ → ℕ → ℕ → List ℕ
bus_again bus place byte =
    bus_byte (phase_as bus place byte) ∷ address_byte (phase_as bus place byte) ∷ written_byte (phase_as bus place byte) ∷ []

same_lower : (bus place byte : ℕ) → cycle_fits bus place byte ≡ true → bus_byte (phase_as bus place byte) ≡ bus
same_lower bus place byte fits = grind (arith, nat_tests)

same_place : (bus place byte : ℕ) → cycle_fits bus place byte ≡ true → address_byte (phase_as bus place byte) ≡ place
same_place bus place byte fits = grind (arith, nat_tests)

same_upper : (bus place byte : ℕ) → cycle_fits bus place byte ≡ true → written_byte (phase_as bus place byte) ≡ byte
same_upper bus place byte fits = grind (arith, nat_tests)

same_bus : (bus place byte : ℕ) → cycle_fits bus place byte ≡ true → bus_again bus place byte ≡ bus ∷ place ∷ byte ∷ []
same_bus bus place byte fits = λ i. same_lower bus place byte fits i ∷ same_place bus place byte fits i ∷ same_upper bus place byte fits i ∷ []

pub same_bytes_lem : (l : List ℕ) → Bytes l → is_older l ≡ true → older_of (older_state l) ≡ l
unfolding older_of older_state is_older
same_bytes_lem l bytes good =
    let cycle = cycle_fits (byte_at l places.bus) (byte_at l places.address) (byte_at l places.written) in
    let rest = both cycle (unused_zero l && core_fits (core_byte l)) (both (eqb (length l) places.length) (bytes_fit l) good).1 in
    let fits = both (unused_zero l) (core_fits (core_byte l)) rest.1 in
    (λ i.
    same_pairs (byte_at l) (small l bytes) places.tallies 20 i
    ++ same_core (core_byte l) (channel_tally l) fits.1 i
    ++ same_bus (byte_at l places.bus) (byte_at l places.address) (byte_at l places.written) rest.0 i
    ++ same_zeros (from (byte_at l) places.unused (places.length - places.unused)) fits.0 i)
    ∙ spelled l places.length (is_long l good)
