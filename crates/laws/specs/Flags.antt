-- Which events can move IBF and OBF, by what is seen before them, and how ("Handshake").
use Rattle.std.specs.Prelude.{◌≡◌, Bool, true, false, ◌&&◌, ◌||◌, ℕ, eqb}
use Rattle.bits.specs.Bit.{bit_of}
use Rattle.bus.specs.Kinds as kinds
use Rattle.bus.specs.declared.Phase.TheVariants.{Reading, Writing}
use Rattle.control.specs.declared.Group.{Group}
use Rattle.chip.specs.declared.channel.Side.TheVariants.{Input, Output}
use Rattle.chip.specs.declared.Chip.{Chip}
use Rattle.chip.specs.Handshakes.{own_address, strobed, line_pin, flag_pin, reading, writing}
use Rattle.chip.specs.Step.{step_of}
use Rattle.laws.specs.Seen.{pin, lowers, makes_anew, puts}

-- IBF that is high can fall at a reset, and at the end of a mode word's write, of a read of the port, or of a bit set/reset that resets its
-- pin. One that is low can rise as STB falls, and at the end of a bit set/reset that sets its pin.
abbrev pub moves_ibf : Chip → Group → Bool → ℕ → ℕ → ℕ → Bool
moves_ibf c g true k x d =
    eqb k kinds.reset || (eqb k kinds.end_cycle && (makes_anew c.phase || (reading c.phase g || puts c.phase (flag_pin g Input) false)))
moves_ibf c g false k x d =
    (eqb k kinds.outside_levels && lowers c g Input x d) || (eqb k kinds.end_cycle && puts c.phase (flag_pin g Input) true)

-- OBF that is high can fall at the end of a write to the port, or of a bit set/reset that resets its pin. One that is low can rise at a reset,
-- at the end of a mode word's write or of a bit set/reset that sets its pin, and as ACK falls.
abbrev pub moves_obf : Chip → Group → Bool → ℕ → ℕ → ℕ → Bool
moves_obf c g true k x d = eqb k kinds.end_cycle && (writing c.phase g || puts c.phase (flag_pin g Output) false)
moves_obf c g false k x d =
    eqb k kinds.reset
    || ((eqb k kinds.end_cycle && (makes_anew c.phase || puts c.phase (flag_pin g Output) true)) || (eqb k kinds.outside_levels && lowers c g Output x d))

-- IBF and OBF as the pins show them.
abbrev pub ibf : Chip → Group → Bool
ibf c g = pin c (flag_pin g Input)

abbrev pub obf : Chip → Group → Bool
obf c g = pin c (flag_pin g Output)

-- IBF of a strobed input. The fall of STB sets it, the beginning of a read, of whatever port, leaves it set, and the end of the port's read
-- resets it. As long as the mode word strobes the input, it stays as it is through every event but those that can move it.
pub record IbfMoves (c : Chip) (g : Group) : Type 0 where
  pub strobe_sets : (d : ℕ) → pin c (line_pin g Input) ≡ true → bit_of d (line_pin g Input) ≡ false → ibf (step_of c 5 2 d).state g ≡ true
  pub begin_keeps : (x d : ℕ) → ibf c g ≡ true → ibf (step_of c 1 x d).state g ≡ true
  pub end_resets : (p x d : ℕ) → c.phase ≡ Reading p → own_address p g ≡ true → ibf (step_of c 2 x d).state g ≡ false
  pub held : (v : Bool) → ibf c g ≡ v → (k x d : ℕ) → moves_ibf c g v k x d ≡ false
      → strobed (step_of c k x d).state.core.word g Input ≡ true → ibf (step_of c k x d).state g ≡ v

-- OBF of a strobed output. The end of a write to the port lowers it, and the fall of ACK raises it. As long as the mode word strobes the output,
-- it stays as it is through every event but those that can move it.
pub record ObfMoves (c : Chip) (g : Group) : Type 0 where
  pub write_lowers : (a b x d : ℕ) → c.phase ≡ Writing a b → own_address a g ≡ true → obf (step_of c 2 x d).state g ≡ false
  pub ack_raises : (d : ℕ) → pin c (line_pin g Output) ≡ true → bit_of d (line_pin g Output) ≡ false → obf (step_of c 5 2 d).state g ≡ true
  pub held : (v : Bool) → obf c g ≡ v → (k x d : ℕ) → moves_obf c g v k x d ≡ false
      → strobed (step_of c k x d).state.core.word g Output ≡ true → obf (step_of c k x d).state g ≡ v
