-- The places of an older image: where each of its parts begins, and how long it is. docs/IMAGE.md has the same table.
use Rattle.std.specs.Prelude.{ℕ}

-- Of each channel, A in, A out, B in and B out, five tallies of two bytes.
abbrev pub tallies : ℕ
tallies = 0

abbrev pub channel_tallies : ℕ
channel_tallies = 10

-- What an image has between its tallies and its bus an older one has too, in the same order, so many places further ahead.
abbrev pub ahead : ℕ
ahead = 16

-- The first of these, the levels outside of port A.
abbrev pub levels_a : ℕ
levels_a = 40

-- What runs on the bus, the port or address that it names, and the byte that it writes.
abbrev pub bus : ℕ
bus = 54

abbrev pub address : ℕ
address = 55

abbrev pub written : ℕ
written = 56

-- What is not used, up to the end.
abbrev pub unused : ℕ
unused = 57

abbrev pub length : ℕ
length = 64
