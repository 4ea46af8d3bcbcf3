-- What a reason for a low INTR says of what is seen, and when INTR is seen high ("Why the interrupt is quiet").
use Rattle.std.specs.Prelude.{◌≡◌, Bool, true, false, not, ◌&&◌, List, [], ◌∷◌, ◌-◌, eqb, take, drop}
use Rattle.control.specs.declared.Group.{Group}
use Rattle.control.specs.Mode.{mode_of}
use Rattle.control.specs.Role.{INTR, number, role_of}
use Rattle.chip.specs.declared.channel.Side.{Side}
use Rattle.chip.specs.declared.channel.Side.TheVariants.{Input, Output}
use Rattle.chip.specs.declared.Chip.{Chip}
use Rattle.chip.specs.Handshakes.{strobed, line_pin, running, flag_pin}
use Rattle.chip.specs.declared.reasons.Reason.{Reason}
use Rattle.chip.specs.declared.reasons.Reason.TheVariants.{EnableOff, FlagWrong, LineLow, OwnCycle, High}
use Rattle.chip.specs.declared.reasons.Explained.{Explained}
use Rattle.chip.specs.declared.reasons.Explained.TheVariants.{ModeZero, InputHalf, OutputHalf, BothHalves}
use Rattle.chip.specs.Reasons.{in_order, reason_number}
use Rattle.laws.specs.Seen.{pin, told, intr_pin}

-- Each answer as it is seen: a read of port C tells, on the pin of STB or ACK, that the enable is off; the pin view shows IBF or OBF at 0;
-- it shows STB or ACK low; the bus runs a read or a write of the port; the pin view shows INTR high.
abbrev pub seen : Chip → Group → Side → Reason → Bool
seen c g s EnableOff = not (told c (line_pin g s))
seen c g s FlagWrong = not (pin c (flag_pin g s))
seen c g s LineLow = not (pin c (line_pin g s))
seen c g s OwnCycle = running c.phase g s
seen c g s High = pin c (intr_pin g)

-- The reasons that come before one. The numbers follow the order, and the first of these has the number 2.
abbrev pub earlier : Reason → List Reason
earlier r = take (reason_number r - 2) in_order

-- Those that come behind it.
abbrev pub later : Reason → List Reason
later r = drop (reason_number r - 1) in_order

-- None of some reasons is seen.
abbrev pub NoneSeen : Chip → Group → Side → List Reason → Type 0
NoneSeen c g s [] = Unit {0}
NoneSeen c g s (r ∷ rs) = (seen c g s r ≡ false) × NoneSeen c g s rs

-- An answer that is true of a half: there is such a half, the answer is seen to be so, and no reason before it is.
pub record TrueOf (c : Chip) (g : Group) (s : Side) (r : Reason) : Type 0 where
  pub there : strobed c.core.word g s ≡ true
  pub is_so : seen c g s r ≡ true
  pub is_first : NoneSeen c g s (earlier r)

-- What is true of a group: mode 0; in mode 1 what is said of one half; in mode 2 what is said of both.
abbrev pub TrueOfGroup : Chip → Group → Explained → Type 0
TrueOfGroup c g ModeZero = mode_of c.core.word g ≡ 0
TrueOfGroup c g (InputHalf r) = (mode_of c.core.word g ≡ 1) × TrueOf c g Input r
TrueOfGroup c g (OutputHalf r) = (mode_of c.core.word g ≡ 1) × TrueOf c g Output r
TrueOfGroup c g (BothHalves i o) = (mode_of c.core.word g ≡ 2) × (TrueOf c g Input i × TrueOf c g Output o)

-- The pin view shows INTR high: its pin has that role under the mode word, and it is up. In mode 0 it is a free pin.
abbrev pub intr_seen : Chip → Group → Bool
intr_seen c g = eqb (number (role_of c.core.word (intr_pin g))) (number INTR) && pin c (intr_pin g)
