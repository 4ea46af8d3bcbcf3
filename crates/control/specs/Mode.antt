-- Mode words taken apart ("Mode words"). Bit 7 counts as set: nothing here looks at it.
use Rattle.std.specs.Prelude.{Bool, not, cond, ◌&&◌, ◌||◌, [], ◌∷◌, ℕ, ◌/◌, ◌%◌, eqb, get_or, Option, Some, None}
use Rattle.bits.specs.Bit.{bit_of}
use Rattle.control.specs.declared.Group.{Group}
use Rattle.control.specs.declared.Group.TheVariants.{A, B}
use Rattle.control.specs.declared.Directions.{Directions}
use Rattle.control.specs.declared.mode.Mode.{Mode}
use Rattle.control.specs.declared.mode.Mode.TheVariants.{Zero, One, Two}

-- The groups by number: 0 is A and 1 is B, and there is no other.
abbrev pub group_numbered : ℕ → Option Group
group_numbered k = cond (eqb k 0) (Some A) (cond (eqb k 1) (Some B) None)

-- The modes by number.
abbrev pub mode_number : Mode → ℕ
mode_number Zero = 0
mode_number One = 1
mode_number Two = 2

-- Group A's mode stands in bits 6 and 5: 00 is mode 0, 01 mode 1, 10 and 11 mode 2. Group B's stands in bit 2.
unfoldable pub mode_of : ℕ → Group → ℕ
mode_of w A = get_or (0 ∷ 1 ∷ 2 ∷ 2 ∷ []) (w / 32 % 4) 0
mode_of w B = w / 4 % 2

-- Port A is an input by bit 4 (which mode 2 does not ask), port B by bit 1.
unfoldable pub input_of : ℕ → Group → Bool
input_of w A = bit_of w 4
input_of w B = bit_of w 1

-- The upper half of port C, where it is free, is an input by bit 3.
unfoldable pub upper_input : ℕ → Bool
upper_input w = bit_of w 3

-- The lower half of port C, where it is free, is an input by bit 0.
unfoldable pub lower_input : ℕ → Bool
lower_input w = bit_of w 0

-- The four directions side by side, as a row of the mode 0 chart lists them.
abbrev pub directions_of : ℕ → Directions
directions_of w = record { a = input_of w A; upper = upper_input w; b = input_of w B; lower = lower_input w }

-- The port takes bytes in by STB: mode 1 with the port an input, and mode 2 ("Port C roles").
unfoldable pub strobed_input : ℕ → Group → Bool
strobed_input w g = eqb (mode_of w g) 2 || (eqb (mode_of w g) 1 && input_of w g)

-- The port gives bytes out by ACK: mode 1 with the port an output, and mode 2 ("Port C roles").
unfoldable pub strobed_output : ℕ → Group → Bool
strobed_output w g = eqb (mode_of w g) 2 || (eqb (mode_of w g) 1 && not (input_of w g))

-- The port is an output: mode 0 or 1 with the direction output, and mode 2 ("Writes and bit set/reset").
unfoldable pub output_of : ℕ → Group → Bool
output_of w g = eqb (mode_of w g) 2 || not (input_of w g)
