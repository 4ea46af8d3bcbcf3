-- What an image tells: its tallies have sixteen bits, and a byte waits only where the mode word strobes the channel.
-- Rests on Conditions, on image's SameBytes, and on fates' Tables and SameByte.
use Rattle.std.proofs.Common.{◌≡◌, ◌∙◌, ap, sym, true, List, ℕ, ◌+◌, ◌*◌, ◌<◌, arith}
use Rattle.control.specs.declared.Group.{Group}
use Rattle.control.specs.declared.Group.TheVariants.{A, B}
use Rattle.chip.specs.declared.channel.Side.{Side}
use Rattle.chip.specs.declared.channel.Side.TheVariants.{Input, Output}
use Rattle.chip.specs.declared.Chip.{Chip}
use Rattle.chip.specs.State.{tally_of}
use Rattle.chip.specs.Handshakes.{strobed}
use Rattle.fates.specs.Promise.{WaitsByHandshake, SixteenBits}
use Rattle.fates.proofs.Tables.{strobes_same}
use Rattle.fates.proofs.SameByte.{strobed_alone}
use Rattle.image.specs.Places as places
use Rattle.image.specs.Loaded.{byte_at, tally_at, state_of}
use Rattle.image.specs.Good.{allowed, has_image, Bytes}
use Rattle.image.proofs.SameBytes.{small}
use Rattle.restored.proofs.Conditions.{apart}

-- Tallies of two bytes each.
pub two_bytes : (b h : ℕ) → b < 256 → h < 256 → b + 256 * h < 65536
two_bytes b h lb lh = omega (arith, lb, lh)

module _ (l : List ℕ) (bytes : Bytes l) where
  wide_small : (i j : ℕ) → byte_at l i + 256 * byte_at l j < 65536
  wide_small i j = two_bytes (byte_at l i) (byte_at l j) (small l bytes i) (small l bytes j)

  tally_small : (i : ℕ) → SixteenBits (tally_at l i)
  tally_small i = record {
    offered = wide_small i (i + 1);
    handed = wide_small (i + 2) (i + 2 + 1);
    overwritten = wide_small (i + 4) (i + 4 + 1);
    swallowed = wide_small (i + 6) (i + 6 + 1);
    cleared = wide_small (i + 8) (i + 8 + 1);
    planted = wide_small (i + 10) (i + 10 + 1);
    struck = wide_small (i + 12) (i + 12 + 1);
  }

  pub sixteen_bits : (g : Group) (s : Side) → SixteenBits (tally_of (state_of l) g s)
  unfolding state_of
  sixteen_bits A Input = tally_small places.tallies
  sixteen_bits A Output = tally_small (places.tallies + places.channel_tallies)
  sixteen_bits B Input = tally_small (places.tallies + places.channel_tallies * 2)
  sixteen_bits B Output = tally_small (places.tallies + places.channel_tallies * 3)

-- In a chip that has an image a byte waits only where the mode word strobes the channel.
pub waits_strobed : (g : Group) (s : Side) (c : Chip) → has_image c ≡ true → WaitsByHandshake g s c
waits_strobed g s c has waits =
    let w = c.core.word in
    strobed_alone w g s (strobes_same w g s ∙ sym (ap (allowed (strobed w g s) s) waits) ∙ (apart c has).channel g s)
