-- The conditions for an image, one by one.
-- Rests on bits' Logic.
use Rattle.std.proofs.Common.{◌≡◌, true, ◌&&◌}
use Rattle.bits.specs.Bit.{bit_of}
use Rattle.bits.proofs.Logic.{both}
use Rattle.control.specs.declared.Group.{Group}
use Rattle.control.specs.declared.Group.TheVariants.{A, B}
use Rattle.chip.specs.declared.channel.Side.{Side}
use Rattle.chip.specs.declared.channel.Side.TheVariants.{Input, Output}
use Rattle.chip.specs.declared.Chip.{Chip}
use Rattle.image.specs.Good.{names_its_place, allowed_at, has_image}

pub record Conditions (c : Chip) : Type 0 where
  pub place : names_its_place c.edition c.phase ≡ true
  pub word : bit_of c.core.word 7 ≡ true
  pub channel : (g : Group) (s : Side) → allowed_at c.core g s ≡ true

pub apart : (c : Chip) → has_image c ≡ true → Conditions c
unfolding has_image
apart c has =
    let ai = allowed_at c.core A Input in
    let ao = allowed_at c.core A Output in
    let bi = allowed_at c.core B Input in
    let bo = allowed_at c.core B Output in
    let halves = both (names_its_place c.edition c.phase && bit_of c.core.word 7) (ai && ao && bi && bo) has in
    let front = both (names_its_place c.edition c.phase) (bit_of c.core.word 7) halves.0 in
    let three = both (ai && ao && bi) bo halves.1 in
    let two = both (ai && ao) bi three.0 in
    let one = both ai ao two.0 in
    record { place = front.0; word = front.1; channel = each one.0 one.1 two.1 three.1 }
  where
    each : allowed_at c.core A Input ≡ true → allowed_at c.core A Output ≡ true → allowed_at c.core B Input ≡ true → allowed_at c.core B Output ≡ true
        → (g : Group) (s : Side) → allowed_at c.core g s ≡ true
    each ai ao bi bo A Input = ai
    each ai ao bi bo A Output = ao
    each ai ao bi bo B Input = bi
    each ai ao bi bo B Output = bo

pub together : (c : Chip) → Conditions c → has_image c ≡ true
unfolding has_image
together c k = rw (k.place, k.word, k.channel A Input, k.channel A Output, k.channel B Input, k.channel B Output)
