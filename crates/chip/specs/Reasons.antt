-- Why a group's INTR is low, half by half, and the numbers of what is said of it ("Why the interrupt is quiet").
use Rattle.std.specs.Prelude.{Bool, true, false, cond, not, ◌||◌, List, [], ◌∷◌, ℕ, eqb, Option, Some, None}
use Rattle.bits.specs.Bit.{bit_of}
use Rattle.control.specs.declared.Group.{Group}
use Rattle.control.specs.declared.Group.TheVariants.{A, B}
use Rattle.control.specs.Mode.{mode_of, output_of}
use Rattle.chip.specs.declared.channel.Side.{Side}
use Rattle.chip.specs.declared.channel.Side.TheVariants.{Input, Output}
use Rattle.chip.specs.declared.Chip.{Chip}
use Rattle.chip.specs.Handshakes.{line_pin, enable_of, running}
use Rattle.chip.specs.declared.reasons.Reason.{Reason}
use Rattle.chip.specs.declared.reasons.Reason.TheVariants.{EnableOff, FlagWrong, LineLow, OwnCycle, High}
use Rattle.chip.specs.declared.reasons.Explained.{Explained}
use Rattle.chip.specs.declared.reasons.Explained.TheVariants.{ModeZero, InputHalf, OutputHalf, BothHalves}
use Rattle.chip.specs.declared.reasons.Halves.{Halves}
use Rattle.chip.specs.Status.{flag_at, request_of}

-- When each is so of a channel's half: its enable is off; its flag is wrong, which is IBF 0 or OBF 0; its STB or ACK is low; its own read
-- or write runs; the channel asks for an interrupt.
abbrev pub holds : Chip → Group → Side → Reason → Bool
holds c g s EnableOff = not (enable_of c.core.inte g s)
holds c g s FlagWrong = not (flag_at c.core g s)
holds c g s LineLow = not (bit_of c.core.c.outside (line_pin g s))
holds c g s OwnCycle = running c.phase g s
holds c g s High = request_of c g s

-- The reasons for a low half, in the order in which they are asked for.
abbrev pub in_order : List Reason
in_order = EnableOff ∷ FlagWrong ∷ LineLow ∷ OwnCycle ∷ []

-- The first of some reasons that is so; where none is, the half is high.
abbrev pub first_that : (Reason → Bool) → List Reason → Reason
first_that so [] = High
first_that so (r ∷ later) = cond (so r) r (first_that so later)

-- What is said of one half.
unfoldable pub reason_of : Chip → Group → Side → Reason
reason_of c g s = first_that (holds c g s) in_order

-- What is said of a group in mode 1, whose port goes one way: of its output where it is one, and else of its input.
abbrev pub one_way : Chip → Group → Explained
one_way c g = cond (output_of c.core.word g) (OutputHalf (reason_of c g Output)) (InputHalf (reason_of c g Input))

-- What is said of a group. Mode 0 comes before every other reason, since without a handshake there are no halves; mode 2 has both.
unfoldable pub explained_in : Chip → Group → Explained
explained_in c g =
    cond (eqb (mode_of c.core.word g) 0) ModeZero
    (cond (eqb (mode_of c.core.word g) 2) (BothHalves (reason_of c g Input) (reason_of c g Output))
    (one_way c g))

-- Groups A and B are 0 and 1; there is no other.
unfoldable pub explained_of : Chip → ℕ → Option Explained
explained_of c n = cond (eqb n 0) (Some (explained_in c A)) (cond (eqb n 1) (Some (explained_in c B)) None)

-- That a half is high is one of the five answers.
abbrev pub is_high : Reason → Bool
is_high EnableOff = false
is_high FlagWrong = false
is_high LineLow = false
is_high OwnCycle = false
is_high High = true

-- A group's INTR is said to be high where one of its halves is.
abbrev pub says_high : Explained → Bool
says_high ModeZero = false
says_high (InputHalf r) = is_high r
says_high (OutputHalf r) = is_high r
says_high (BothHalves i o) = is_high i || is_high o

-- What is said of a half, in numbers: 0 where there is none, 1 where its group is in mode 0.
abbrev pub no_half : ℕ
no_half = 0

abbrev pub in_mode_zero : ℕ
in_mode_zero = 1

-- The reasons' numbers follow, in their order; the last is that the half is high.
abbrev pub reason_number : Reason → ℕ
reason_number EnableOff = 2
reason_number FlagWrong = 3
reason_number LineLow = 4
reason_number OwnCycle = 5
reason_number High = 6

-- What is said of the input's half and of the output's, in numbers.
abbrev pub halves : ℕ → ℕ → Halves
halves i o = record { input = i; output = o }

abbrev pub halves_of : Explained → Halves
halves_of ModeZero = halves in_mode_zero in_mode_zero
halves_of (InputHalf r) = halves (reason_number r) no_half
halves_of (OutputHalf r) = halves no_half (reason_number r)
halves_of (BothHalves i o) = halves (reason_number i) (reason_number o)

-- An answer in three numbers: a refusal, and what is said of each half.
pub record Numbers : Type 0 where
  pub number : ℕ
  pub input : ℕ
  pub output : ℕ

abbrev pub numbers : ℕ → ℕ → ℕ → Numbers
numbers n i o = record { number = n; input = i; output = o }

-- Refused with 2 where there is no such group, and else accepted with 0.
abbrev pub numbers_of : Option Explained → Numbers
numbers_of None = numbers 2 no_half no_half
numbers_of (Some e) = numbers 0 (halves_of e).input (halves_of e).output
