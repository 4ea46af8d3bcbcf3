-- The sheet's mode definition summary as a table: its five columns, what ports A and B do in each, and a row for each pin of port C ("Mode
-- words", "Port C roles", "Reads and pins"). It asks the mode word for single bits, and bit 7 for nothing.
use Rattle.std.specs.Prelude.{Bool, true, false, cond, not, ◌&&◌, ◌||◌, List, [], ◌∷◌, ℕ, ltb, get_or}
use Rattle.bits.specs.Bit.{bit_of}
use Rattle.control.specs.declared.Group.{Group}
use Rattle.control.specs.declared.Group.TheVariants.{A, B}

-- The columns: mode 0 in and out, mode 1 in and out, and mode 2, which group A alone has.
pub data Column : Type 0 where
  plain_in plain_out strobed_in strobed_out both_ways : Column

-- The column of a group. Bit 6 puts group A in mode 2, whatever bits 5 and 4 are; bit 5 otherwise in mode 1; bit 4 says input. Bit 2 puts
-- group B in mode 1; bit 1 says input.
abbrev pub column_of : ℕ → Group → Column
column_of w A = cond (bit_of w 6) both_ways (cond (bit_of w 5) (cond (bit_of w 4) strobed_in strobed_out) (cond (bit_of w 4) plain_in plain_out))
column_of w B = cond (bit_of w 2) (cond (bit_of w 1) strobed_in strobed_out) (cond (bit_of w 1) plain_in plain_out)

-- Bytes come in by STB.
abbrev pub takes : Column → Bool
takes plain_in = false
takes plain_out = false
takes strobed_in = true
takes strobed_out = false
takes both_ways = true

-- Bytes go out by ACK.
abbrev pub gives : Column → Bool
gives plain_in = false
gives plain_out = false
gives strobed_in = false
gives strobed_out = true
gives both_ways = true

-- What is written to the port stays in its output latch.
abbrev pub keeps : Column → Bool
keeps plain_in = false
keeps plain_out = true
keeps strobed_in = false
keeps strobed_out = true
keeps both_ways = true

-- The group has no handshake.
abbrev pub is_plain : Column → Bool
is_plain plain_in = true
is_plain plain_out = true
is_plain strobed_in = false
is_plain strobed_out = false
is_plain both_ways = false

-- What a pin of port C can be: free, which the sheet writes as IN and OUT or as I/O, or a signal of a group's handshake.
pub data Signal : Type 0 where
  io : Signal
  INTR IBF OBF STB ACK : Group → Signal

-- A row of the table: what a pin is in each of the five columns.
abbrev pub row : Signal → Signal → Signal → Signal → Signal → Column → Signal
row in0 out0 in1 out1 two plain_in = in0
row in0 out0 in1 out1 two plain_out = out0
row in0 out0 in1 out1 two strobed_in = in1
row in0 out0 in1 out1 two strobed_out = out1
row in0 out0 in1 out1 two both_ways = two

-- The rows of PC0 to PC7, where group B is in the column b and group A in the column a.
abbrev pub summary : Column → Column → List Signal
summary b a =
    row io io (INTR B) (INTR B) io b
    ∷ row io io (IBF B) (OBF B) io b
    ∷ row io io (STB B) (ACK B) io b
    ∷ row io io (INTR A) (INTR A) (INTR A) a
    ∷ row io io (STB A) io (STB A) a
    ∷ row io io (IBF A) io (IBF A) a
    ∷ row io io io (ACK A) (ACK A) a
    ∷ row io io io (OBF A) (OBF A) a
    ∷ []

-- What pin n is under the mode word w.
abbrev pub signal_at : ℕ → ℕ → Signal
signal_at w n = get_or (summary (column_of w B) (column_of w A)) n io

-- A free pin is an input by bit 0 in the lower half of the port, and by bit 3 in the upper; else it is an output.
abbrev pub is_in : ℕ → ℕ → Bool
is_in w n = cond (ltb n 4) (bit_of w 0) (bit_of w 3)

-- The number of what a pin is, as the table of roles has it: 0 input, 1 output, 2 INTR, 3 IBF, 4 OBF, 5 STB, 6 ACK.
abbrev pub role_number : Signal → Bool → ℕ
role_number io inward = cond inward 0 1
role_number (INTR g) inward = 2
role_number (IBF g) inward = 3
role_number (OBF g) inward = 4
role_number (STB g) inward = 5
role_number (ACK g) inward = 6

-- Of a pin that is `s`, and free as an input or not: the chip drives it.
abbrev pub driven : Signal → Bool → Bool
driven io inward = not inward
driven (INTR g) inward = true
driven (IBF g) inward = true
driven (OBF g) inward = true
driven (STB g) inward = false
driven (ACK g) inward = false

-- Bit set/reset has a bit to put there: that of a free output, or the INTE of STB or ACK ("Writes and bit set/reset"). A flag that it forces is
-- no bit that it puts.
abbrev pub settable : Signal → Bool → Bool
settable io inward = not inward
settable (INTR g) inward = false
settable (IBF g) inward = false
settable (OBF g) inward = false
settable (STB g) inward = true
settable (ACK g) inward = true

-- It is a free output.
abbrev pub free_out : Signal → Bool → Bool
free_out io inward = not inward
free_out (INTR g) inward = false
free_out (IBF g) inward = false
free_out (OBF g) inward = false
free_out (STB g) inward = false
free_out (ACK g) inward = false

-- A write to port C reaches pin n: a free output, in the upper half only while group A has no handshake.
abbrev pub reached : ℕ → ℕ → Bool
reached w n = free_out (signal_at w n) (is_in w n) && (ltb n 4 || is_plain (column_of w A))
