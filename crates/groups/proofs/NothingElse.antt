-- What a group is said to keep is all that belongs to it.
-- Rests on Seen.
use Rattle.std.proofs.Common.{◌≡◌, true, ℕ, ◌<◌, arith, ltb-true}
use Rattle.bus.specs.declared.Pins.{Pins}
use Rattle.control.specs.declared.Group.TheVariants.{A, B}
use Rattle.chip.specs.declared.channel.Channel.{Channel}
use Rattle.chip.specs.declared.Chip.{Chip}
use Rattle.chip.specs.Reads.{read_of}
use Rattle.chip.specs.Pins.{pins_of}
use Rattle.groups.specs.Belongings.{its_pin, belongings_of}
use Rattle.groups.specs.Kept.{PinKept, PortKept, ChannelKept, KeptByA, KeptByB}
use Rattle.groups.proofs.Seen.{same_bits}

port_back : (c c' : Chip) (p : ℕ) → PortKept c' c p → pins_of c' p ≡ pins_of c p
port_back c c' p k =
    let all : ◌≡◌ {A = Pins}
    (record { levels = (pins_of c' p).levels; driven = (pins_of c' p).driven })
    (record { levels = (pins_of c p).levels; driven = (pins_of c p).driven }) = cc (k.levels, k.driven) in
    all

abbrev together : Channel → Channel
together k =
    record {
      fill = k.fill;
      latch = k.latch;
      tally = record {
        offered = k.tally.offered;
        handed = k.tally.handed;
        overwritten = k.tally.overwritten;
        swallowed = k.tally.swallowed;
        cleared = k.tally.cleared;
        planted = k.tally.planted;
        struck = k.tally.struck;
      };
    }

channel_back : (k k' : Channel) → ChannelKept k' k → k' ≡ k
channel_back k k' same =
    let all : together k' ≡ together k =
    cc (
      same.fill,
      same.latch,
      same.offered,
      same.handed,
      same.overwritten,
      same.swallowed,
      same.cleared,
      same.planted,
      same.struck,
    ) in
    all

module _ (c c' : Chip) where
  pub back_a : KeptByA c' c → belongings_of A c' ≡ belongings_of A c
  back_a k =
      let pin : (n : ℕ) → n < 8 → its_pin A n ≡ true → PinKept c' c n =
      λ n small its. k.pins n (let above = ltb-true 2 n its in omega (arith, above)) small in
      cc (
        channel_back _ _ k.input,
        channel_back _ _ k.output,
        k.input_enabled,
        k.output_enabled,
        k.interrupt,
        port_back c c' 0 k.port,
        k.port.read,
        k.outside,
        same_bits A (pins_of c' 2).levels (pins_of c 2).levels (λ n small its. (pin n small its).level),
        same_bits A (pins_of c' 2).driven (pins_of c 2).driven (λ n small its. (pin n small its).driven),
        same_bits A (read_of c' 2) (read_of c 2) (λ n small its. (pin n small its).told),
        same_bits A c'.core.c.latch c.core.c.latch (λ n small its. (pin n small its).latch),
        same_bits A c'.core.c.outside c.core.c.outside (λ n small its. (pin n small its).outside),
      )

  pub back_b : KeptByB c' c → belongings_of B c' ≡ belongings_of B c
  back_b k =
      let pin : (n : ℕ) → n < 8 → its_pin B n ≡ true → PinKept c' c n = λ n small its. k.pins n (ltb-true n 3 its) in
      cc (
        channel_back _ _ k.input,
        channel_back _ _ k.output,
        k.enabled,
        k.interrupt,
        port_back c c' 1 k.port,
        k.port.read,
        k.outside,
        same_bits B (pins_of c' 2).levels (pins_of c 2).levels (λ n small its. (pin n small its).level),
        same_bits B (pins_of c' 2).driven (pins_of c 2).driven (λ n small its. (pin n small its).driven),
        same_bits B (read_of c' 2) (read_of c 2) (λ n small its. (pin n small its).told),
        same_bits B c'.core.c.latch c.core.c.latch (λ n small its. (pin n small its).latch),
        same_bits B c'.core.c.outside c.core.c.outside (λ n small its. (pin n small its).outside),
      )
