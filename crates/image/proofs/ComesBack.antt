-- A state that has an image comes back from it.
-- Rests on bits' Logic.
use Rattle.std.proofs.Common.{◌≡◌, refl, true, ◌&&◌, ℕ, ◌+◌, ◌*◌, ◌/◌, ◌%◌, arith}
use Rattle.std.proofs.lemmas.Bool.Decides.{nat_tests}
use Rattle.bits.specs.Bit.{bit_of, value_of}
use Rattle.bits.proofs.Logic.{both}
use Rattle.bus.specs.declared.Phase.{Phase}
use Rattle.bus.specs.declared.Phase.TheVariants.{Idle, Reading, Writing}
use Rattle.chip.specs.declared.channel.Fill.{Fill}
use Rattle.chip.specs.declared.channel.Fill.TheVariants.{Empty, Waiting, Fetching}
use Rattle.chip.specs.declared.channel.Channel.{Channel}
use Rattle.chip.specs.declared.Enables.{Enables}
use Rattle.chip.specs.declared.Edition.{Edition}
use Rattle.chip.specs.declared.Edition.TheVariants.{Older, Newer}
use Rattle.chip.specs.declared.Chip.{Chip}
use Rattle.image.specs.Layout.{tally_bytes, fill_byte, enables_byte, bus_byte, written_byte, edition_byte, image_of}
use Rattle.image.specs.Loaded.{tally_at, fill_as, enables_as, phase_as, edition_as, state_of}
use Rattle.image.specs.Good.{names_its_place, has_image}

-- A tally from its two bytes.
two_bytes : (n : ℕ) → n % 256 + 256 * (n / 256) ≡ n
two_bytes n = omega arith

pub fill_back : (f : Fill) → fill_as (fill_byte f) ≡ f
fill_back Empty = refl
fill_back Waiting = refl
fill_back Fetching = refl

pub phase_back : (ed : Edition) (ph : Phase) → names_its_place ed ph ≡ true → phase_as (bus_byte ph) (written_byte ph) ≡ ph
phase_back ed Idle names = refl
phase_back Older (Reading p) names = grind (arith, nat_tests)
phase_back Newer (Reading p) names = grind (arith, nat_tests)
phase_back ed (Writing a d) names = grind (arith, nat_tests)

edition_back : (ed : Edition) → edition_as (edition_byte ed) ≡ ed
edition_back Older = refl
edition_back Newer = refl

pub enables_back : (e : Enables) → enables_as (enables_byte e) ≡ e
unfolding bit_of value_of
enables_back e = grind (arith, nat_tests)

-- A channel, of which every layout has the condition, the latch and five tallies; of the other two it is asked what they are told as.
pub channel_back : (ch : Channel) (planted struck : ℕ) → planted ≡ ch.tally.planted → struck ≡ ch.tally.struck →
    record {
      fill = fill_as (fill_byte ch.fill);
      latch = ch.latch;
      tally = record {
        offered = ch.tally.offered % 256 + 256 * (ch.tally.offered / 256);
        handed = ch.tally.handed % 256 + 256 * (ch.tally.handed / 256);
        overwritten = ch.tally.overwritten % 256 + 256 * (ch.tally.overwritten / 256);
        swallowed = ch.tally.swallowed % 256 + 256 * (ch.tally.swallowed / 256);
        cleared = ch.tally.cleared % 256 + 256 * (ch.tally.cleared / 256);
        planted = planted;
        struck = struck;
      };
    } ≡ ch
channel_back ch planted struck same_planted same_struck = λ i. record {
  fill = fill_back ch.fill i;
  latch = ch.latch;
  tally = record {
    offered = two_bytes ch.tally.offered i;
    handed = two_bytes ch.tally.handed i;
    overwritten = two_bytes ch.tally.overwritten i;
    swallowed = two_bytes ch.tally.swallowed i;
    cleared = two_bytes ch.tally.cleared i;
    planted = same_planted i;
    struck = same_struck i;
  };
}

-- Here they are told as two bytes each.
pub seven_back : (ch : Channel) →
    record {
      fill = fill_as (fill_byte ch.fill);
      latch = ch.latch;
      tally = tally_at (tally_bytes ch.tally) 0;
    } ≡ ch
seven_back ch = channel_back ch _ _ (two_bytes ch.tally.planted) (two_bytes ch.tally.struck)

-- The bus is that of a state with an image.
pub at_place_lem : (c : Chip) → has_image c ≡ true → names_its_place c.edition c.phase ≡ true
unfolding has_image
at_place_lem c has =
    let names = names_its_place c.edition c.phase in
    (both names (bit_of c.core.word 7) (both (names && bit_of c.core.word 7) _ has).0).0

pub comes_back : (c : Chip) → has_image c ≡ true → state_of (image_of c) ≡ c
unfolding state_of image_of
comes_back c has = λ i. record {
  phase = phase_back c.edition c.phase (at_place_lem c has) i;
  edition = edition_back c.edition i;
  core = record {
    word = c.core.word;
    a = record { input = seven_back c.core.a.input i; output = seven_back c.core.a.output i; outside = c.core.a.outside };
    b = record { input = seven_back c.core.b.input i; output = seven_back c.core.b.output i; outside = c.core.b.outside };
    c = c.core.c;
    inte = enables_back c.core.inte i;
  };
}
