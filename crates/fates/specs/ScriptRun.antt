-- What is promised of every byte in the run of a text, by the history that it is.
use Rattle.std.specs.Prelude.{◌≡◌, List, ℕ}
use Rattle.control.specs.declared.Group.{Group}
use Rattle.chip.specs.declared.channel.Side.{Side}
use Rattle.chip.specs.declared.channel.Side.TheVariants.{Input}
use Rattle.chip.specs.declared.Edition.{Edition}
use Rattle.chip.specs.State.{all_high, power_up_as, power_up_with}
use Rattle.chip.specs.Pins.{pins_of}
use Rattle.chip.specs.Step.{device}
use Rattle.text.specs.History.{history_of}
use Rattle.script.specs.Answers.{by_device, answers_of, left_after}
use Rattle.script.specs.History.{answers_to}
use Rattle.fates.specs.Surroundings.{at_power_up}
use Rattle.fates.specs.Bytes.{bytes_of}
use Rattle.fates.specs.Promise.{FatesFromPowerUp, run}
use Rattle.fates.specs.Discipline.{Disciplined, NoneLost, NeverForced, NoneForced}

-- For a chip of either edition, from a power-up with every line high: the answers to a text are those of its history.
abbrev pub AnsweredAsHistory : Edition → List ℕ → Type 0
AnsweredAsHistory ed text =
    answers_of (by_device device pins_of) (power_up_as ed all_high) text ≡ answers_to device pins_of (power_up_as ed all_high) (history_of text)

-- Every byte of that history has its fate on each of the four channels.
abbrev pub TextFates : Edition → List ℕ → Type 0
TextFates ed text = (g : Group) (s : Side) → FatesFromPowerUp g s ed all_high (history_of text)

-- Where scale and program mind IBF no input byte of it is lost.
abbrev pub TextLosesNone : Edition → List ℕ → Type 0
TextLosesNone ed text =
    (g : Group) → Disciplined g (at_power_up ed all_high) (power_up_as ed all_high) (history_of text) → NoneLost (bytes_of g Input ed all_high (history_of text))

-- Where no flag is forced no byte of it is planted or struck.
abbrev pub TextForcesNone : Edition → List ℕ → Type 0
TextForcesNone ed text =
    (g : Group) (s : Side) → NeverForced g s (at_power_up ed all_high) (history_of text)
    → NoneForced (bytes_of g s ed all_high (history_of text)) (bytes_of g s ed all_high (history_of text))

-- The chip of the older edition that a text leaves is the one that its history leads to.
abbrev pub Leaves : List ℕ → Type 0
Leaves text = left_after (by_device device pins_of) (power_up_with all_high) text ≡ run (power_up_with all_high) (history_of text)
