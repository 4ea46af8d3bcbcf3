-- Histories that show the fates, with what becomes of each byte; events are counted from 1.
use Rattle.std.specs.Prelude.{List, [], ◌∷◌, ◌++◌, ℕ, zero, suc, ◌+◌, length}
use Rattle.bus.specs.Event.{Event, event}
use Rattle.bus.specs.Histories.{write, levels, read_from, cycle_end}
use Rattle.control.specs.declared.Group.{Group}
use Rattle.control.specs.declared.Group.TheVariants.{A, B}
use Rattle.chip.specs.declared.channel.Side.{Side}
use Rattle.chip.specs.declared.channel.Side.TheVariants.{Input, Output}
use Rattle.chip.specs.declared.channel.Tally.{Tally}
use Rattle.chip.specs.declared.Edition.{Edition}
use Rattle.chip.specs.declared.Levels.{Levels}
use Rattle.chip.specs.State.{all_low, all_high}
use Rattle.bus.specs.declared.Pins.{Pins}
use Rattle.laws.specs.Marked.{strobe, P13}
use Rattle.fates.specs.Bytes.{Fate, handed_over, overwritten, swallowed, cleared, struck, waiting, Byte, offered_at, planted_at, decided_at, bytes_of}

-- The levels at power-up, a history, one of the four channels, and the bytes that it is said to have had.
pub record Example : Type 0 where
  pub start : Levels
  pub history : List Event
  pub group : Group
  pub side : Side
  pub said : List Byte

-- It, in that order.
abbrev pub example : Levels → List Event → Group → Side → List Byte → Example
example l es g s bs = record { start = l; history = es; group = g; side = s; said = bs }

-- What the definitions make of it, on a chip of either edition.
abbrev pub bytes_in : Edition → Example → List Byte
bytes_in ed x = bytes_of x.group x.side ed x.start x.history

-- The bytes that the definitions find in each example, and those that it says.
abbrev pub found_in : Edition → List Example → List (List Byte)
found_in ed [] = []
found_in ed (x ∷ xs) = bytes_in ed x ∷ found_in ed xs

abbrev pub said_of : List Example → List (List Byte)
said_of [] = []
said_of (x ∷ xs) = x.said ∷ said_of xs

-- How many bytes they say.
abbrev pub bytes_said : List Example → ℕ
bytes_said [] = 0
bytes_said (x ∷ xs) = length x.said + bytes_said xs

-- The byte v, offered at place n and decided at place m.
infixl 70 ◌at◌is◌at◌
abbrev pub ◌at◌is◌at◌ : ℕ → ℕ → Fate → ℕ → Byte
v at n is f at m = record { offer = offered_at n v; outcome = decided_at m f }

-- The byte v, planted by the event at place n, and decided at place m.
infixl 70 ◌planted_by◌is◌at◌
abbrev pub ◌planted_by◌is◌at◌ : ℕ → ℕ → Fate → ℕ → Byte
v planted_by n is f at m = record { offer = planted_at n v; outcome = decided_at m f }

-- Last season's bale: a digit is strobed in and its read begins; the next digit comes before the read has ended, and is lost.
abbrev pub lost_bale : List Event
lost_bale = write 3 0xb0 ++ strobe 0x41 ++ read_from 0 ++ strobe 0x42 ++ cycle_end

-- A scale and a program that mind IBF: each digit is read, to the end of the read, before the next one comes.
abbrev pub two_digits : List Event
two_digits = write 3 0xb0 ++ strobe 0x41 ++ read_from 0 ++ cycle_end ++ strobe 0x42 ++ read_from 0 ++ cycle_end

-- Port A in mode 2: a byte in by STB and read, then a byte written, which ACK takes out.
abbrev pub in_and_written : List Event
in_and_written = write 3 0xc0 ++ strobe 0x41 ++ read_from 0 ++ cycle_end ++ write 0 0x55

abbrev pub both_ways : List Event
both_ways = in_and_written ++ levels 2 0xbf

-- A byte waits while the mode word is written once more.
abbrev pub same_word_again : List Event
same_word_again = write 3 0xb0 ++ strobe 0x41 ++ write 3 0xb0

-- A printer on port B: a second byte is written before it has taken the first; it takes the second, and a reset comes before it takes
-- the third.
abbrev pub printer : List Event
printer = write 3 0x94 ++ write 1 0x33 ++ write 1 0x34 ++ levels 2 0xfb ++ write 1 0x35 ++ (event 0 0 0 ∷ [])

-- Port A in mode 0, where pin 4 of port C is no STB: levels, a fall and a read.
abbrev pub plain : List Event
plain = write 3 0x9b ++ strobe 0x41 ++ read_from 0 ++ cycle_end

-- A byte waits on port B, and nothing that follows is for it: a read of port A; another begun meanwhile, which is refused; a write to
-- port B, which is an input and keeps nothing; a read of control, which the older edition refuses and which is nothing to the channel in the newer;
-- and two numbers that are no kinds, refused.
abbrev pub not_for_it : List Event
not_for_it =
    write 3 0x96 ++ levels 1 0x41 ++ levels 2 0xfb ++ read_from 0 ++ read_from 1 ++ cycle_end ++ write 1 0x42 ++ read_from 3
    ++ (event 4 1 0 ∷ event 9 1 0 ∷ [])

-- A scale on a backplane that pulls its lines down: STB is low from the start, and stays so at the fourth event. The digit comes in when
-- STB, once raised, falls.
abbrev pub raised_first : List Event
raised_first = write 3 0xb0 ++ levels 0 0x41 ++ levels 2 0xef ++ levels 2 0xff ++ levels 2 0xef ++ read_from 0

-- A scale that lowers STB before its digit has settled: 40 passes by, 41 is there as STB rises, and 42 comes too late.
abbrev pub settling : List Event
settling = write 3 0xb0 ++ levels 2 0xef ++ levels 0 0x40 ++ levels 0 0x41 ++ levels 2 0xff ++ levels 0 0x42 ++ read_from 0

-- The same scale, and nobody reads: 41 has settled before it is overwritten, and of the next digit 43 is what stands there so far.
abbrev pub settling_twice : List Event
settling_twice = write 3 0xb0 ++ levels 2 0xef ++ levels 0 0x41 ++ levels 2 0xff ++ levels 0 0x42 ++ levels 2 0xef ++ levels 0 0x43

-- Levels that come while STB is still low, but once the read has begun, are no byte's.
abbrev pub too_late : List Event
too_late = write 3 0xb0 ++ levels 0 0x41 ++ levels 2 0xef ++ read_from 0 ++ levels 0 0x42 ++ cycle_end ++ levels 0 0x43

-- The old test disk sets IBF of port A and reads; then it sets IBF once more, and resets it. The latch is 00 since the mode word.
abbrev pub test_disk : List Event
test_disk = write 3 0xb0 ++ write 3 0x0b ++ read_from 0 ++ cycle_end ++ write 3 0x0b ++ write 3 0x0a

-- A digit is struck. Then IBF is set twice: once it plants what the strobe left in the latch, and once it finds no room.
abbrev pub struck_and_planted : List Event
struck_and_planted = write 3 0xb0 ++ strobe 0x41 ++ write 3 0x0a ++ write 3 0x0b ++ write 3 0x0b ++ read_from 0

-- A byte that is planted while STB is low has the levels that come then, and the next strobe overwrites it.
abbrev pub planted_under_low : List Event
planted_under_low = write 3 0xb0 ++ write 3 0x0b ++ levels 0 0x42 ++ levels 2 0xff ++ strobe 0x43

-- A printer on port B: OBF is reset once its byte was taken, and the latch is given out again; a byte is struck as OBF is set; one that is
-- planted is cleared by a reset.
abbrev pub planted_for_printer : List Event
planted_for_printer =
    write 3 0x94 ++ write 1 0x33 ++ levels 2 0xfb ++ levels 2 0xff ++ write 3 0x02 ++ levels 2 0xfb ++ write 1 0x34 ++ write 3 0x03 ++ write 3 0x02
    ++ (event 0 0 0 ∷ [])

-- Nothing is forced: port A is in mode 0, where pin 5 is a free output; then in mode 1, where pin 3 is INTR, and pin 7 no OBF; and port B
-- has no handshake.
abbrev pub not_forced : List Event
not_forced = write 3 0x80 ++ write 3 0x0b ++ write 3 0xb0 ++ write 3 0x07 ++ write 3 0x06 ++ write 3 0x0e ++ write 3 0x03 ++ write 3 0x02

-- Each of the six fates, each side, both groups, mode 2, a port without a handshake, which has no bytes, lines that start low, levels that come
-- while STB is low, and bytes that are planted.
abbrev pub examples : List Example
examples =
    example all_high lost_bale A Input (0x41 at 4 is handed_over at 6 ∷ 0x42 at 8 is swallowed at 10 ∷ [])
    ∷ example all_high two_digits A Input (0x41 at 4 is handed_over at 6 ∷ 0x42 at 9 is handed_over at 11 ∷ [])
    ∷ example all_high P13 A Input (0x41 at 4 is overwritten at 7 ∷ 0x42 at 7 is waiting at 9 ∷ [])
    ∷ example all_high (P13 ++ read_from 0) A Input (0x41 at 4 is overwritten at 7 ∷ 0x42 at 7 is handed_over at 9 ∷ [])
    ∷ example all_high both_ways A Input (0x41 at 4 is handed_over at 6 ∷ [])
    ∷ example all_high both_ways A Output (0x55 at 9 is handed_over at 10 ∷ [])
    ∷ example all_high same_word_again A Input (0x41 at 4 is cleared at 7 ∷ [])
    ∷ example all_high printer B Output (0x33 at 4 is overwritten at 6 ∷ 0x34 at 6 is handed_over at 7 ∷ 0x35 at 9 is cleared at 10 ∷ [])
    ∷ example all_high plain A Input []
    ∷ example all_high not_for_it B Input (0x41 at 4 is waiting at 13 ∷ [])
    ∷ example all_low raised_first A Input (0x41 at 6 is handed_over at 7 ∷ [])
    ∷ example all_high settling A Input (0x41 at 3 is handed_over at 8 ∷ [])
    ∷ example all_high settling_twice A Input (0x41 at 3 is overwritten at 7 ∷ 0x43 at 7 is waiting at 9 ∷ [])
    ∷ example all_high too_late A Input (0x41 at 4 is handed_over at 5 ∷ [])
    ∷ example all_high test_disk A Input (0x00 planted_by 4 is handed_over at 5 ∷ 0x00 planted_by 8 is struck at 10 ∷ [])
    ∷ example all_high struck_and_planted A Input (0x41 at 4 is struck at 7 ∷ 0x41 planted_by 9 is handed_over at 12 ∷ [])
    ∷ example all_low planted_under_low A Input (0x42 planted_by 4 is overwritten at 8 ∷ 0x43 at 8 is waiting at 10 ∷ [])
    ∷ example all_high planted_for_printer B Output
    (0x33 at 4 is handed_over at 5 ∷ 0x33 planted_by 8 is handed_over at 9 ∷ 0x34 at 11 is struck at 13 ∷ 0x34 planted_by 15 is cleared at 16 ∷ [])
    ∷ example all_high not_forced A Input []
    ∷ example all_high not_forced A Output []
    ∷ example all_high not_forced B Input []
    ∷ []

-- The same events n times over.
abbrev pub times : ℕ → List Event → List Event
times zero es = []
times (suc n) es = es ++ times n es

-- Port A strobed n times, with nobody to read it.
abbrev pub strobed_times : ℕ → ℕ → List Event
strobed_times n v = write 3 0xb0 ++ times n (strobe v)

-- What the chip is said to count and to show in some of the examples. The lost bale: both digits were offered, one was handed over and
-- one swallowed.
abbrev pub bale_tally : Tally
bale_tally = record { offered = 2; handed = 1; overwritten = 0; swallowed = 1; cleared = 0; planted = 0; struck = 0 }

-- Both ways: after the write the lines of port A are still the outside's, as the strobe left them.
abbrev pub before_ack : Pins
before_ack = record { levels = 0x41; driven = 0 }
