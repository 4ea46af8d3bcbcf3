-- A half of INTR by the pins, in every state, and that its own cycle drops it ("Handshake").
-- Rests on ChannelPins.
use Rattle.std.proofs.Common.{◌≡◌, refl, Bool, true, false, not, ◌&&◌}
use Rattle.bits.specs.Bit.{bit_of}
use Rattle.bus.specs.declared.Phase.TheVariants.{Idle}
use Rattle.control.specs.declared.Group.{Group}
use Rattle.chip.specs.declared.channel.Side.{Side}
use Rattle.chip.specs.declared.channel.Side.TheVariants.{Input, Output}
use Rattle.chip.specs.declared.Chip.{Chip}
use Rattle.chip.specs.Handshakes.{strobed, line_pin, enable_of, running}
use Rattle.chip.specs.Status.{flag_at, request_of}
use Rattle.laws.specs.Halves.{half}
use Rattle.laws.proofs.ChannelPins.{flag_pin_lem, line_pin_lem}

pub half_is : (c : Chip) (g : Group) (s : Side) → strobed c.core.word g s ≡ true → request_of c g s ≡ half c g s
unfolding request_of
half_is c g s on = rw (on, flag_pin_lem c g s on, line_pin_lem c g s on)

dropped : (a b d e : Bool) → (a && b && d && e && not true) ≡ false
dropped true true true true = refl
dropped true true true false = refl
dropped true true false e = refl
dropped true false d e = refl
dropped false b d e = refl

-- The own cycle drops its half, whatever else holds.
pub cycle_drops_half : (c : Chip) (g : Group) (s : Side) → running c.phase g s ≡ true → request_of c g s ≡ false
unfolding request_of
cycle_drops_half c g s r =
    rw (r) (dropped (strobed c.core.word g s) (enable_of c.core.inte g s) (flag_at c.core g s) (bit_of c.core.c.outside (line_pin g s)))

-- On an idle bus none runs.
pub none_runs : (g : Group) (s : Side) → running Idle g s ≡ false
none_runs g Input = refl
none_runs g Output = refl
