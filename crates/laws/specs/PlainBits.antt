-- The mode word in plain bits: what a word makes of each group, and of each pin of port C ("Mode words", "Port C roles").
use Rattle.std.specs.Prelude.{Bool, false, cond, not, ◌&&◌, ◌||◌, [], ◌∷◌, ℕ, eqb, ltb, get_or}
use Rattle.bits.specs.Bit.{bit_of}
use Rattle.control.specs.declared.Group.{Group}
use Rattle.control.specs.declared.Group.TheVariants.{A, B}
use Rattle.control.specs.Role.{Role, input, output}
use Rattle.control.specs.Pins.{handshake_role}
use Rattle.chip.specs.declared.channel.Side.{Side}
use Rattle.chip.specs.declared.channel.Side.TheVariants.{Input, Output}

-- A group's port goes both ways, in mode 2, by bit 6; B's never does.
abbrev pub goes_both_ways : ℕ → Group → Bool
goes_both_ways w A = bit_of w 6
goes_both_ways w B = false

-- There is a handshake of the group: bit 6 or 5 is set for A, bit 2 for B.
abbrev pub handshake : ℕ → Group → Bool
handshake w A = bit_of w 6 || bit_of w 5
handshake w B = bit_of w 2

-- The mode of a group by these bits: 2 where its port goes both ways, 1 where there is another handshake, and 0 where there is none.
abbrev pub mode_by : ℕ → Group → ℕ
mode_by w g = cond (goes_both_ways w g) 2 (cond (handshake w g) 1 0)

-- The direction is input: bit 4 for port A, bit 1 for port B.
abbrev pub into : ℕ → Group → Bool
into w A = bit_of w 4
into w B = bit_of w 1

-- A port that goes one way, in mode 0 or 1: out, or in.
abbrev pub output_only : ℕ → Group → Bool
output_only w g = not (goes_both_ways w g) && not (into w g)

abbrev pub input_only : ℕ → Group → Bool
input_only w g = not (goes_both_ways w g) && into w g

-- There is a handshake on a side: of the input in mode 1 with that direction, of the output in mode 1 with the other, of both in mode 2.
abbrev pub handshake_on : ℕ → Group → Side → Bool
handshake_on w g Input = goes_both_ways w g || (handshake w g && into w g)
handshake_on w g Output = goes_both_ways w g || (handshake w g && not (into w g))

-- A handshake uses pin n: 0, 1 and 2 are B's, 3 is A's INTR, 4 and 5 are its input's, 6 and 7 its output's.
abbrev pub used : ℕ → ℕ → Bool
used w n =
    get_or
    (handshake w B ∷ handshake w B ∷ handshake w B ∷ handshake w A
    ∷ handshake_on w A Input ∷ handshake_on w A Input ∷ handshake_on w A Output ∷ handshake_on w A Output ∷ [])
    n false

-- The direction of the half of port C in which pin n stands is input: bit 0 for pins 3 to 0, bit 3 for pins 7 to 4.
abbrev pub into_c : ℕ → ℕ → Bool
into_c w n = cond (ltb n 4) (bit_of w 0) (bit_of w 3)

-- A pin that no handshake uses is free, an input or an output by that direction.
abbrev pub free_input : ℕ → ℕ → Bool
free_input w n = not (used w n) && into_c w n

abbrev pub free_output : ℕ → ℕ → Bool
free_output w n = not (used w n) && not (into_c w n)

-- The role of a pin: the one that a handshake gives it, where one uses it; of B's pins 1 and 2 that goes by the direction of port B.
abbrev pub role_by : ℕ → ℕ → Role
role_by w n = cond (used w n) (handshake_role (into w B) n) (cond (free_input w n) input output)

-- IBF and OBF are on pins 1, 5 and 7.
abbrev pub is_flag_pin : ℕ → Bool
is_flag_pin n = eqb n 1 || (eqb n 5 || eqb n 7)

-- STB and ACK are on pins 2, 4 and 6, and to these the chip listens where a handshake uses them.
abbrev pub is_line_pin : ℕ → Bool
is_line_pin n = eqb n 2 || (eqb n 4 || eqb n 6)

abbrev pub listens : ℕ → ℕ → Bool
listens w n = used w n && is_line_pin n
