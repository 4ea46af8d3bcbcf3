-- A write to the control address, at its end ("Mode words", "Writes and bit set/reset", "Forcing the flags").
use Rattle.std.specs.Prelude.{Bool, ℕ}
use Rattle.bits.specs.Bit.{with_bit}
use Rattle.control.specs.declared.Group.{Group}
use Rattle.control.specs.declared.Group.TheVariants.{A, B}
use Rattle.control.specs.declared.word.Control.{Control}
use Rattle.control.specs.declared.word.Control.TheVariants.{Mode, Bit}
use Rattle.control.specs.Word.{control_of}
use Rattle.control.specs.Role.{Role, input, output, INTR, IBF, OBF, STB, ACK, role_of}
use Rattle.chip.specs.declared.channel.Side.{Side}
use Rattle.chip.specs.declared.channel.Side.TheVariants.{Input, Output}
use Rattle.chip.specs.Moves.{after_force}
use Rattle.chip.specs.declared.Enables.{Enables}
use Rattle.chip.specs.declared.Core.{Core}
use Rattle.chip.specs.State.{channel_of, with_channel, with_latch, with_enables}
use Rattle.chip.specs.Handshakes.{group_at}
use Rattle.chip.specs.ModeWord.{after_mode_word}

-- The enables with one channel's put to v; group B's two share theirs.
abbrev pub enabled : Enables → Group → Side → Bool → Enables
enabled e A Input v = record { input = v; output = e.output; b = e.b }
enabled e A Output v = record { input = e.input; output = v; b = e.b }
enabled e B s v = record { input = e.input; output = e.output; b = v }

-- The flag of a channel forced to v; all else stays, the latch of port C too.
abbrev pub flag_put : Core → Group → Side → Bool → Core
flag_put c g s v = with_channel c g s (after_force s v (channel_of c g s))

-- What it means to put pin n to v: a free output keeps the bit in the latch, the line of a channel stands for that channel's
-- enable, a flag is forced, and the other roles have nothing to put.
abbrev pub set_as : Core → ℕ → Bool → Role → Core
set_as c n v input = c
set_as c n v output = with_latch c (with_bit c.c.latch n v)
set_as c n v INTR = c
set_as c n v IBF = flag_put c (group_at n) Input v
set_as c n v OBF = flag_put c (group_at n) Output v
set_as c n v STB = with_enables c (enabled c.inte (group_at n) Input v)
set_as c n v ACK = with_enables c (enabled c.inte (group_at n) Output v)

-- Pin n put to v, in the role that the mode word gives it.
unfoldable pub pin_set : Core → ℕ → Bool → Core
pin_set c n v = set_as c n v (role_of c.word n)

-- A mode word makes the chip anew; any other word sets one pin.
abbrev pub obeyed : Core → Control → Core
obeyed c (Mode w) = after_mode_word c w
obeyed c (Bit n v) = pin_set c n v

-- The byte d as the control address takes it.
unfoldable pub after_control_word : Core → ℕ → Core
after_control_word c d = obeyed c (control_of d)
