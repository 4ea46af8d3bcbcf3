-- The port of a group, and its pins of port C, by plain numbers ("Port C roles"). These stand apart from the table of Effects, and guard it.
use Rattle.std.specs.Prelude.{ℕ}
use Rattle.control.specs.declared.Group.{Group}
use Rattle.control.specs.declared.Group.TheVariants.{A, B}
use Rattle.chip.specs.declared.channel.Side.{Side}
use Rattle.chip.specs.declared.channel.Side.TheVariants.{Input, Output}

-- The port.
abbrev pub own_port : Group → ℕ
own_port A = 0
own_port B = 1

-- The pin of STB or ACK.
abbrev pub own_line : Group → Side → ℕ
own_line A Input = 4
own_line A Output = 6
own_line B s = 2

-- The pin of IBF or OBF.
abbrev pub own_flag : Group → Side → ℕ
own_flag A Input = 5
own_flag A Output = 7
own_flag B s = 1
