-- The pins of port C: those that a channel with a handshake uses, with their roles, what they show and what a read tells of them; and those that
-- are free ("Port C roles", "Reads and pins").
use Rattle.std.specs.Prelude.{◌≡◌, ◌↔◌, Bool, true, false, ◌&&◌, ◌||◌, ℕ}
use Rattle.bits.specs.Bit.{bit_of}
use Rattle.control.specs.declared.Group.{Group}
use Rattle.control.specs.Role.{INTR, IBF, OBF, STB, ACK, role_of}
use Rattle.chip.specs.declared.channel.Side.{Side}
use Rattle.chip.specs.declared.channel.Side.TheVariants.{Input, Output}
use Rattle.chip.specs.declared.channel.Fill.TheVariants.{Empty, Waiting}
use Rattle.chip.specs.declared.Chip.{Chip}
use Rattle.chip.specs.State.{channel_of}
use Rattle.chip.specs.Handshakes.{strobed, line_pin, flag_pin, enable_of}
use Rattle.laws.specs.Seen.{pin, told, intr_pin}
use Rattle.laws.specs.PlainBits.{handshake_on, free_input, free_output}
use Rattle.laws.specs.Halves.{half}

-- Under a mode word that strobes a group's input its pins are STB and IBF; under one that strobes the output its pins are ACK and OBF; and under
-- either the group has its INTR.
pub record PinsUsed (w : ℕ) (g : Group) : Type 0 where
  pub stb : strobed w g Input ≡ true → role_of w (line_pin g Input) ≡ STB
  pub ibf : strobed w g Input ≡ true → role_of w (flag_pin g Input) ≡ IBF
  pub ack : strobed w g Output ≡ true → role_of w (line_pin g Output) ≡ ACK
  pub obf : strobed w g Output ≡ true → role_of w (flag_pin g Output) ≡ OBF
  pub intr : (s : Side) → strobed w g s ≡ true → role_of w (intr_pin g) ≡ INTR

-- The flag of a channel by its condition: IBF is up if and only if the channel is not empty, and OBF is down if and only if it waits.
abbrev pub FlagShown : Chip → Group → Side → Type 0
FlagShown c g Input = (pin c (flag_pin g Input) ≡ true) ↔ (¬ ((channel_of c.core g Input).fill ≡ Empty))
FlagShown c g Output = (pin c (flag_pin g Output) ≡ false) ↔ ((channel_of c.core g Output).fill ≡ Waiting)

-- Either half of a group's INTR, by the enables and the pins; there is a half on each side that has a handshake.
abbrev pub either_half : Chip → Group → Bool
either_half c g =
    (handshake_on c.core.word g Input && half c g Input)
    || (handshake_on c.core.word g Output && half c g Output)

-- The pins of a strobed channel show its flag, its line as it stands outside, and its group's INTR. A read tells the flag and INTR as the pins show
-- them, and at the pin of the line the channel's enable.
pub record PinsShown (c : Chip) (g : Group) (s : Side) : Type 0 where
  pub flag : FlagShown c g s
  pub flag_told : told c (flag_pin g s) ≡ pin c (flag_pin g s)
  pub line : pin c (line_pin g s) ≡ bit_of c.core.c.outside (line_pin g s)
  pub enable : told c (line_pin g s) ≡ enable_of c.core.inte g s
  pub interrupt : pin c (intr_pin g) ≡ either_half c g
  pub interrupt_told : told c (intr_pin g) ≡ pin c (intr_pin g)

-- Pin n, if it is free: as an input it shows the level outside, and as an output its bit of the latch; a read tells the same.
pub record FreePin (c : Chip) (n : ℕ) : Type 0 where
  pub input_shows : free_input c.core.word n ≡ true → pin c n ≡ bit_of c.core.c.outside n
  pub input_tells : free_input c.core.word n ≡ true → told c n ≡ bit_of c.core.c.outside n
  pub output_shows : free_output c.core.word n ≡ true → pin c n ≡ bit_of c.core.c.latch n
  pub output_tells : free_output c.core.word n ≡ true → told c n ≡ bit_of c.core.c.latch n
