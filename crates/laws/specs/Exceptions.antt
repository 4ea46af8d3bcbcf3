-- The exceptions that the promises make, and the conditions that they ask, each exactly: by plain numbers and plain bits, and apart from the
-- definition that it has where it is used. A promise with a wider exception would promise less.
use Rattle.std.specs.Prelude.{◌≡◌, ◌↔◌, Bool, true, false, List, [], ◌∷◌, ◌⊎◌, ℕ, ◌/◌, ◌%◌, ◌<◌}
use Rattle.bits.specs.Bit.{bit_of}
use Rattle.bus.specs.Kinds.{no_kind}
use Rattle.bus.specs.declared.Phase.{Phase}
use Rattle.bus.specs.declared.Phase.TheVariants.{Reading, Writing}
use Rattle.control.specs.declared.Group.{Group}
use Rattle.control.specs.declared.Group.TheVariants.{A, B}
use Rattle.chip.specs.declared.channel.Side.{Side}
use Rattle.chip.specs.declared.channel.Side.TheVariants.{Input, Output}
use Rattle.chip.specs.declared.Chip.{Chip}
use Rattle.chip.specs.Handshakes.{running}
use Rattle.chip.specs.declared.reasons.Reason.{Reason}
use Rattle.chip.specs.declared.reasons.Reason.TheVariants.{EnableOff, FlagWrong, LineLow, OwnCycle, High}
use Rattle.laws.specs.Seen.{pin, lowers, makes_anew, commands, puts}
use Rattle.laws.specs.PlainBits.{handshake, output_only, input_only, handshake_on}
use Rattle.laws.specs.Enables.{moves_enables}
use Rattle.laws.specs.Loads.{loads}
use Rattle.laws.specs.Kept.{lets_fall, reaches_all}
use Rattle.laws.specs.Flags.{moves_ibf, moves_obf}
use Rattle.laws.specs.Halves.{spares}
use Rattle.laws.specs.Editions.{reads_control}

-- The port of a group, and its pins of port C, by plain numbers ("Port C roles"): STB or ACK, and IBF or OBF.
abbrev pub own_port : Group → ℕ
own_port A = 0
own_port B = 1

abbrev pub own_line : Group → Side → ℕ
own_line A Input = 4
own_line A Output = 6
own_line B s = 2

abbrev pub own_flag : Group → Side → ℕ
own_flag A Input = 5
own_flag A Output = 7
own_flag B s = 1

-- A write to the address a runs; a write of a mode word; a write of bit set/reset that puts pin n to v.
abbrev pub WriteRuns : Phase → ℕ → Type 0
WriteRuns ph a = (b : ℕ) × (ph ≡ Writing a b)

abbrev pub ModeWordRuns : Phase → Type 0
ModeWordRuns ph = (b : ℕ) × ((ph ≡ Writing 3 b) × (bit_of b 7 ≡ true))

abbrev pub PutRuns : Phase → ℕ → Bool → Type 0
PutRuns ph n v = (b : ℕ) × ((ph ≡ Writing 3 b) × ((bit_of b 7 ≡ false) × ((b / 2 % 8 ≡ n) × (bit_of b 0 ≡ v))))

-- Which cycle runs: a write to control, a mode word's, a bit set/reset's; a channel's own cycle, which is a read of an input's port and a write to
-- an output's; and a cycle that spares a half of INTR, which is any but the half's own.
pub record CyclesMeant (ph : Phase) : Type 0 where
  pub commanding : (commands ph ≡ true) ↔ WriteRuns ph 3
  pub making_anew : (makes_anew ph ≡ true) ↔ ModeWordRuns ph
  pub putting : (n : ℕ) (v : Bool) → (puts ph n v ≡ true) ↔ PutRuns ph n v
  pub own_read : (g : Group) → (running ph g Input ≡ true) ↔ (ph ≡ Reading (own_port g))
  pub own_write : (g : Group) → (running ph g Output ≡ true) ↔ WriteRuns ph (own_port g)
  pub input_dropped : (g : Group) → (spares ph g Input ≡ false) ↔ (ph ≡ Reading (own_port g))
  pub output_dropped : (g : Group) → (spares ph g Output ≡ false) ↔ WriteRuns ph (own_port g)

-- Which events, by their kind: 0 resets, 1 begins a read, 2 ends a cycle. An enable is moved by a reset and at the end of a write to control;
-- every channel is reached by a reset and at the end of a mode word's write; control is read at 3; and 4 is no kind, nor is any above 5.
pub record EventsMeant (ph : Phase) (k : ℕ) : Type 0 where
  pub moving_enables : (moves_enables ph k ≡ true) ↔ ((k ≡ 0) ⊎ ((k ≡ 2) × WriteRuns ph 3))
  pub reaching_all : (reaches_all ph k ≡ true) ↔ ((k ≡ 0) ⊎ ((k ≡ 2) × ModeWordRuns ph))
  pub reading_control : (x : ℕ) → (reads_control k x ≡ true) ↔ ((k ≡ 1) × (x ≡ 3))
  pub none_such : (no_kind k ≡ true) ↔ ((k ≡ 4) ⊎ (5 < k))

-- The pins show a channel's line high, and levels d on port x lower it: these are levels on port C.
pub record Lowered (c : Chip) (g : Group) (s : Side) (x d : ℕ) : Type 0 where
  pub port : x ≡ 2
  pub high : pin c (own_line g s) ≡ true
  pub low : bit_of d (own_line g s) ≡ false

-- The line stands high outside, and these levels lower it there.
pub record LoweredOutside (c : Chip) (g : Group) (s : Side) (x d : ℕ) : Type 0 where
  pub port : x ≡ 2
  pub high : bit_of c.core.c.outside (own_line g s) ≡ true
  pub low : bit_of d (own_line g s) ≡ false

-- Levels on port x come onto a group's own port, and the pins show its STB low.
pub record UnderLow (c : Chip) (g : Group) (x : ℕ) : Type 0 where
  pub port : x ≡ own_port g
  pub low : pin c (own_line g Input) ≡ false

-- Which levels d on port x lower a line, seen at the pins and outside; and which load a group's input latch, if it has a handshake.
pub record LevelsMeant (c : Chip) (g : Group) (x d : ℕ) : Type 0 where
  pub lowering : (s : Side) → (lowers c g s x d ≡ true) ↔ Lowered c g s x d
  pub falling : (s : Side) → (lets_fall c g s x d ≡ true) ↔ LoweredOutside c g s x d
  pub loading : (loads c g x d ≡ true)
      ↔ ((handshake_on c.core.word g Input ≡ true) × (Lowered c g Input x d ⊎ UnderLow c g x))

-- What may let IBF fall that is high, besides a reset: the end of a mode word's write, of a read of the port, and of a bit reset of its pin. And
-- what may let OBF rise: the end of a mode word's write, and of a bit set of its pin.
abbrev pub IbfLetDown : Phase → Group → Type 0
IbfLetDown ph g = ModeWordRuns ph ⊎ ((ph ≡ Reading (own_port g)) ⊎ PutRuns ph (own_flag g Input) false)

abbrev pub ObfLetUp : Phase → Group → Type 0
ObfLetUp ph g = ModeWordRuns ph ⊎ PutRuns ph (own_flag g Output) true

-- Which events may move IBF and OBF, from the level that the pins show: 0 resets, 2 ends a cycle, 5 puts levels.
pub record FlagMovesMeant (c : Chip) (g : Group) (k x d : ℕ) : Type 0 where
  pub ibf_falls : (moves_ibf c g true k x d ≡ true) ↔ ((k ≡ 0) ⊎ ((k ≡ 2) × IbfLetDown c.phase g))
  pub ibf_rises : (moves_ibf c g false k x d ≡ true)
      ↔ (((k ≡ 5) × Lowered c g Input x d) ⊎ ((k ≡ 2) × PutRuns c.phase (own_flag g Input) true))
  pub obf_falls : (moves_obf c g true k x d ≡ true)
      ↔ ((k ≡ 2) × (WriteRuns c.phase (own_port g) ⊎ PutRuns c.phase (own_flag g Output) false))
  pub obf_rises : (moves_obf c g false k x d ≡ true)
      ↔ ((k ≡ 0) ⊎ (((k ≡ 2) × ObfLetUp c.phase g) ⊎ ((k ≡ 5) × Lowered c g Output x d)))

-- Which mode words: port A goes out, or in, by bit 4, while bit 6 is clear; port B by bit 1. Group A has a handshake by bits 6 and 5, group B by
-- bit 2.
pub record WordsMeant (w : ℕ) : Type 0 where
  pub a_goes_out : (output_only w A ≡ true) ↔ ((bit_of w 6 ≡ false) × (bit_of w 4 ≡ false))
  pub b_goes_out : (output_only w B ≡ true) ↔ (bit_of w 1 ≡ false)
  pub a_goes_in : (input_only w A ≡ true) ↔ ((bit_of w 6 ≡ false) × (bit_of w 4 ≡ true))
  pub b_goes_in : (input_only w B ≡ true) ↔ (bit_of w 1 ≡ true)
  pub a_shakes : (handshake w A ≡ true) ↔ ((bit_of w 6 ≡ true) ⊎ (bit_of w 5 ≡ true))
  pub b_shakes : (handshake w B ≡ true) ↔ (bit_of w 2 ≡ true)

-- The answers on a half of INTR, and of each which come before it and which behind it. That the half is high comes behind all reasons, and is none.
abbrev pub answers : List Reason
answers = EnableOff ∷ FlagWrong ∷ LineLow ∷ OwnCycle ∷ High ∷ []

abbrev pub earlier_ones : List (List Reason)
earlier_ones =
    []
    ∷ (EnableOff ∷ [])
    ∷ (EnableOff ∷ FlagWrong ∷ [])
    ∷ (EnableOff ∷ FlagWrong ∷ LineLow ∷ [])
    ∷ (EnableOff ∷ FlagWrong ∷ LineLow ∷ OwnCycle ∷ [])
    ∷ []

abbrev pub later_ones : List (List Reason)
later_ones =
    (FlagWrong ∷ LineLow ∷ OwnCycle ∷ [])
    ∷ (LineLow ∷ OwnCycle ∷ [])
    ∷ (OwnCycle ∷ [])
    ∷ []
    ∷ []
    ∷ []
