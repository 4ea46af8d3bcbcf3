-- What is promised of every byte from an older image on, once it is converted: the chip that it tells goes on, and its two new tallies count
-- from 0.
-- Rests on Saved and GoesOn, on image's SameBytes and OlderOneImage, and calls' Converted.
use Rattle.std.proofs.Common.{◌≡◌, refl, sym, subst, true, List, ℕ, ◌+◌, ◌*◌, ◌<◌, arith, length}
use Rattle.bus.specs.Event.{Event}
use Rattle.control.specs.declared.Group.{Group}
use Rattle.control.specs.declared.Group.TheVariants.{A, B}
use Rattle.chip.specs.declared.channel.Side.{Side}
use Rattle.chip.specs.declared.channel.Side.TheVariants.{Input, Output}
use Rattle.chip.specs.declared.Chip.{Chip}
use Rattle.chip.specs.State.{tally_of}
use Rattle.fates.specs.Promise.{SixteenBits}
use Rattle.image.specs.Places as places
use Rattle.image.specs.Loaded.{byte_at}
use Rattle.image.specs.Good.{has_image, Bytes}
use Rattle.image.proofs.SameBytes.{small}
use Rattle.image.specs.OlderLoaded.{channel_tally, older_state}
use Rattle.image.specs.OlderGood.{is_older}
use Rattle.image.proofs.OlderOneImage.{tells_such}
use Rattle.calls.specs.Calls.{convert_image}
use Rattle.calls.proofs.Converted.{convert_good, convert_tells}
use Rattle.restored.specs.Host.{GoesOn}
use Rattle.restored.proofs.Saved.{two_bytes}
use Rattle.restored.proofs.GoesOn.{goes_from}

-- The tallies that an older image tells have sixteen bits.
module _ (o : List ℕ) (bytes : Bytes o) where
  wide_small : (i j : ℕ) → byte_at o i + 256 * byte_at o j < 65536
  wide_small i j = two_bytes (byte_at o i) (byte_at o j) (small o bytes i) (small o bytes j)

  tally_small : (k : ℕ) → SixteenBits (channel_tally o k)
  tally_small k = record {
    offered = wide_small _ _;
    handed = wide_small _ _;
    overwritten = wide_small _ _;
    swallowed = wide_small _ _;
    cleared = wide_small _ _;
    planted = omega arith;
    struck = omega arith;
  }

  sixteen_bits : (g : Group) (s : Side) → SixteenBits (tally_of (older_state o) g s)
  unfolding older_state
  sixteen_bits A Input = tally_small 0
  sixteen_bits A Output = tally_small 1
  sixteen_bits B Input = tally_small 2
  sixteen_bits B Output = tally_small 3

-- What the call makes of an older image goes on as the chip that this tells.
pub converted_goes_on : (o l : List ℕ) → Bytes o → is_older o ≡ true → length l ≡ places.length → (es : List Event) → GoesOn (convert_image o l) es
converted_goes_on o l bytes good long es =
    let told = sym (convert_tells o l bytes good long) in
    goes_from (convert_image o l)
    (record {
      image = convert_good o l bytes good long;
      state = refl;
      has = subst (λ (c : Chip). has_image c ≡ true) told (tells_such o bytes good);
    })
    (λ g s. subst (λ (c : Chip). SixteenBits (tally_of c g s)) told (sixteen_bits o bytes g s)) es
