-- What an account shows: the pins and what drives them, the reads, INTR, and the byte of an event ("Reads and pins").
use Rattle.std.specs.Prelude.{Bool, true, false, cond, not, ◌||◌, [], ◌∷◌, ℕ, get_or}
use Rattle.bits.specs.Bit.{bit_of}
use Rattle.bits.specs.Sum.{byte_by}
use Rattle.bus.specs.Event.{Event}
use Rattle.control.specs.declared.Group.{Group}
use Rattle.control.specs.declared.Group.TheVariants.{A, B}
use Rattle.chip.specs.declared.channel.Side.TheVariants.{Input, Output}
use Rattle.fates.specs.Kinds.{Kind, reset, cycle_ended, unknown, read_begun, write_begun, new_levels, kind_of, accepts}
use Rattle.fates.specs.Surroundings.{Surroundings}
use Rattle.fates.specs.Effects.{levels_on}
use Rattle.account.specs.Summary.{Column, plain_in, plain_out, strobed_in, strobed_out, both_ways, column_of, Signal, io, INTR, IBF, OBF, STB, ACK, signal_at, is_in, driven}
use Rattle.account.specs.Account.{Account, line}

-- INTR is up where either half is.
abbrev pub intr : Account → Group → Bool
intr a g = a.asks g Input || a.asks g Output

-- What a read of port A or B answers, column by column.
abbrev pub port_read : Account → Group → Column → ℕ
port_read a g plain_in = levels_on g a.surroundings
port_read a g plain_out = a.output g
port_read a g strobed_in = a.input g
port_read a g strobed_out = a.output g
port_read a g both_ways = a.input g

-- The chip drives port A or B: an output always, and port A in mode 2 while ACK is low.
abbrev pub drives : Surroundings → Group → Column → Bool
drives a g plain_in = false
drives a g plain_out = true
drives a g strobed_in = false
drives a g strobed_out = true
drives a g both_ways = not (line a g Output)

-- So it is with the port's own column.
abbrev pub driving : Account → Group → Bool
driving a g = drives a.surroundings g (column_of a.surroundings.word g)

-- The levels of port A or B: driven, the output latch; else what stands outside.
abbrev pub port_levels : Account → Group → ℕ
port_levels a g = cond (driving a g) (a.output g) (levels_on g a.surroundings)

-- What a read tells of pin n of port C, by what the pin is; a free one tells its line or its latch.
abbrev pub told_of : Account → ℕ → Signal → Bool
told_of a n io = cond (is_in a.surroundings.word n) (bit_of a.surroundings.levels_c n) (a.bit n)
told_of a n (INTR g) = intr a g
told_of a n (IBF g) = a.ibf g
told_of a n (OBF g) = a.obf g
told_of a n (STB g) = a.bit n
told_of a n (ACK g) = a.bit n

-- Bit n of a read of port C.
abbrev pub told : Account → ℕ → Bool
told a n = told_of a n (signal_at a.surroundings.word n)

-- The chip drives pin n of port C.
abbrev pub pin_driven : Account → ℕ → Bool
pin_driven a n = driven (signal_at a.surroundings.word n) (is_in a.surroundings.word n)

-- The level of pin n: driven, what a read tells of it; else what stands outside.
abbrev pub pin_level : Account → ℕ → Bool
pin_level a n = cond (pin_driven a n) (told a n) (bit_of a.surroundings.levels_c n)

-- Ports A, B and C: the levels, and the mask of driven pins; where there is no port, nothing.
abbrev pub levels_shown : Account → ℕ → ℕ
levels_shown a p = get_or (port_levels a A ∷ port_levels a B ∷ byte_by (pin_level a) ∷ []) p 0

abbrev pub mask_shown : Account → ℕ → ℕ
mask_shown a p = get_or (cond (driving a A) 0xff 0 ∷ cond (driving a B) 0xff 0 ∷ byte_by (pin_driven a) ∷ []) p 0

-- A read of port A or B, by the port's own column.
abbrev pub port_answer : Account → Group → ℕ
port_answer a g = port_read a g (column_of a.surroundings.word g)

-- What a read answers: A, B and C, and at control the mode word in force, bit by bit ("The 82C55A"); elsewhere nothing. Whether there is an answer
-- to be had, the number says.
abbrev pub read_answer : Account → ℕ → ℕ
read_answer a p = get_or (port_answer a A ∷ port_answer a B ∷ byte_by (told a) ∷ byte_by (bit_of a.surroundings.word) ∷ []) p 0

-- The byte of an accepted event: only a read that begins has one to give.
abbrev pub byte_for : Account → Kind → ℕ
byte_for a reset = 0
byte_for a (read_begun x) = read_answer a x
byte_for a cycle_ended = 0
byte_for a (write_begun x d) = 0
byte_for a (new_levels x d) = 0
byte_for a unknown = 0

-- The byte of an event; a refused one has none.
abbrev pub byte_answered : Account → Event → ℕ
byte_answered a e = cond (accepts a.surroundings.edition a.surroundings.phase (kind_of e)) (byte_for a (kind_of e)) 0
