-- What loads an input latch, by what is seen of the chip, and what a read of the port then answers ("Handshake").
use Rattle.std.specs.Prelude.{◌≡◌, Bool, true, false, not, ◌&&◌, ◌||◌, ℕ}
use Rattle.bits.specs.Bit.{bit_of}
use Rattle.control.specs.declared.Group.{Group}
use Rattle.chip.specs.declared.channel.Side.TheVariants.{Input}
use Rattle.chip.specs.declared.Chip.{Chip}
use Rattle.chip.specs.State.{port_of, channel_of}
use Rattle.chip.specs.Handshakes.{strobed, line_pin, own_address}
use Rattle.chip.specs.Reads.{read_of}
use Rattle.chip.specs.Step.{step_of}
use Rattle.laws.specs.Seen.{pin, lowers, makes_anew}

-- Levels come onto a group's own port while the pins show its STB low.
abbrev pub comes_under_low : Chip → Group → ℕ → Bool
comes_under_low c g x = own_address x g && not (pin c (line_pin g Input))

-- Levels d on port x load the input latch of a group: the input is strobed, and they do either.
abbrev pub loads : Chip → Group → ℕ → ℕ → Bool
loads c g x d = strobed c.core.word g Input && (lowers c g Input x d || comes_under_low c g x)

-- A strobed input, whose port has the address x, in whatever condition and whatever runs on the bus. After levels that came onto the port's
-- lines while the pins show STB low, a read of the port answers these. After the fall of STB it answers the levels that stand on these lines.
pub record LatchLoads (c : Chip) (g : Group) (x : ℕ) : Type 0 where
  pub follows : (d : ℕ) → pin c (line_pin g Input) ≡ false → read_of (step_of c 5 x d).state x ≡ d
  pub falls : (d : ℕ) → pin c (line_pin g Input) ≡ true → bit_of d (line_pin g Input) ≡ false
      → read_of (step_of c 5 2 d).state x ≡ (port_of c.core g).outside

-- An input latch stays as it is through every event but a reset, the end of a mode word's write, and levels that load it.
abbrev pub LatchStays : Chip → Group → Type 0
LatchStays c g = (k x d : ℕ) → ¬ (k ≡ 0) → (k ≡ 2 → makes_anew c.phase ≡ false) → (k ≡ 5 → loads c g x d ≡ false)
    → (channel_of (step_of c k x d).state.core g Input).latch ≡ (channel_of c.core g Input).latch
