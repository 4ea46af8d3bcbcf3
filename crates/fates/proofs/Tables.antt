-- The history's table of the four channels is the chip's: the same port, the same pins, and strobed under the same mode words.
-- Rests on control's ByBits and laws' PlainBits.
use Rattle.std.proofs.Common.{◌≡◌, ◌∙◌, refl, sym, true, ℕ, eqb}
use Rattle.control.specs.declared.Group.{Group}
use Rattle.control.specs.declared.Group.TheVariants.{A, B}
use Rattle.control.proofs.ByBits.{a_takes, a_gives, b_takes, b_gives}
use Rattle.chip.specs.declared.channel.Side.{Side}
use Rattle.chip.specs.declared.channel.Side.TheVariants.{Input, Output}
use Rattle.chip.specs.Handshakes.{own_address, strobed, line_pin, flag_pin}
use Rattle.laws.specs.PlainBits.{handshake_on}
use Rattle.laws.proofs.PlainBits.{strobed_by_bits}
use Rattle.fates.specs.Effects.{port_number, strobe_pin, full_pin, strobes}

pub own_same : (x : ℕ) (g : Group) → eqb x (port_number g) ≡ own_address x g
own_same x A = refl
own_same x B = refl

pub own_port_lem : (g : Group) → own_address (port_number g) g ≡ true
own_port_lem A = refl
own_port_lem B = refl

pub line_same : (g : Group) (s : Side) → strobe_pin g s ≡ line_pin g s
line_same A Input = refl
line_same A Output = refl
line_same B Input = refl
line_same B Output = refl

pub full_same : (g : Group) (s : Side) → full_pin g s ≡ flag_pin g s
full_same A Input = refl
full_same A Output = refl
full_same B Input = refl
full_same B Output = refl

pub strobes_same : (w : ℕ) (g : Group) (s : Side) → strobes w g s ≡ strobed w g s
strobes_same w A Input = sym (a_takes w)
strobes_same w A Output = sym (a_gives w)
strobes_same w B Input = sym (b_takes w)
strobes_same w B Output = sym (b_gives w)

-- And as plain bits of the word have it.
pub strobes_plain : (w : ℕ) (g : Group) (s : Side) → strobes w g s ≡ handshake_on w g s
strobes_plain w g s = strobes_same w g s ∙ strobed_by_bits w g s
