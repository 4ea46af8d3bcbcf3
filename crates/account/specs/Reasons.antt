-- What an account says of a quiet INTR, in numbers ("Why the interrupt is quiet").
use Rattle.std.specs.Prelude.{cond, [], ◌∷◌, ℕ, get_or}
use Rattle.control.specs.declared.Group.{Group}
use Rattle.control.specs.declared.Group.TheVariants.{A, B}
use Rattle.chip.specs.declared.channel.Side.{Side}
use Rattle.chip.specs.declared.channel.Side.TheVariants.{Input, Output}
use Rattle.chip.specs.Reasons.{Numbers}
use Rattle.fates.specs.Effects.{strobe_pin}
use Rattle.account.specs.Summary.{Column, plain_in, plain_out, strobed_in, strobed_out, both_ways, column_of}
use Rattle.account.specs.Account.{Account, flag, line, served}

-- Of a half: 6 where it is up, and else the first that it lacks: 2 INTE, 3 the flag, 4 the line high, 5 a port that is not being served.
abbrev pub lacks : Account → Group → Side → ℕ
lacks a g s =
    cond (a.bit (strobe_pin g s)) (cond (flag a g s) (cond (line a.surroundings g s) (cond (served a.surroundings g s) 5 6) 4) 3) 2

-- Three numbers: that the group is there, and what is said of its input's half and of its output's.
abbrev pub said : ℕ → ℕ → Numbers
said i o = record { number = 0; input = i; output = o }

-- Of a group, column by column: 1 of both halves where there is no handshake, and 0 of a half that there is not.
abbrev pub said_in : Account → Group → Column → Numbers
said_in a g plain_in = said 1 1
said_in a g plain_out = said 1 1
said_in a g strobed_in = said (lacks a g Input) 0
said_in a g strobed_out = said 0 (lacks a g Output)
said_in a g both_ways = said (lacks a g Input) (lacks a g Output)

-- Of the groups 0 and 1; any other is refused with 2.
abbrev pub explained : Account → ℕ → Numbers
explained a n =
    get_or (said_in a A (column_of a.surroundings.word A) ∷ said_in a B (column_of a.surroundings.word B) ∷ []) n (record { number = 2; input = 0; output = 0 })
