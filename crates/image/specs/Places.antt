-- The places of an image: where each of its parts begins, and how long it is. docs/IMAGE.md has the same table.
use Rattle.std.specs.Prelude.{ℕ}

-- Of each channel, A in, A out, B in and B out, seven tallies of two bytes.
abbrev pub tallies : ℕ
tallies = 0

abbrev pub channel_tallies : ℕ
channel_tallies = 14

-- The levels outside of the three ports, and the latch of port C.
abbrev pub levels_a : ℕ
levels_a = 56

abbrev pub levels_b : ℕ
levels_b = 57

abbrev pub levels_c : ℕ
levels_c = 58

abbrev pub latch_c : ℕ
latch_c = 59

-- The latches of the four channels, and their conditions.
abbrev pub latches : ℕ
latches = 60

abbrev pub conditions : ℕ
conditions = 64

-- The mode word, and the enables.
abbrev pub word : ℕ
word = 68

abbrev pub enables : ℕ
enables = 69

-- What runs on the bus with the address that it names, and the byte that it writes.
abbrev pub bus : ℕ
bus = 70

abbrev pub written : ℕ
written = 71

-- The edition.
abbrev pub edition : ℕ
edition = 72

-- What is not used, up to the end. All of it is 0.
abbrev pub unused : ℕ
unused = 73

abbrev pub length : ℕ
length = 96

-- The byte of the bus: below `writes` it is the address that is read, from there on the address that is written above it, and `idle` that
-- nothing runs. A state whose cycle names no address has `nowhere`, which no image has.
abbrev pub writes : ℕ
writes = 4

abbrev pub idle : ℕ
idle = 8

abbrev pub nowhere : ℕ
nowhere = 255

-- The byte of the edition. What was saved before there were two has `older` there.
abbrev pub older : ℕ
older = 0

abbrev pub newer : ℕ
newer = 1
