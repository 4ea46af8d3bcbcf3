-- What a script leaves of the chip that meets it ("Why the interrupt is quiet").
use Rattle.std.specs.Prelude.{List, ℕ}
use Rattle.chip.specs.declared.Chip.{Chip}
use Rattle.chip.specs.declared.Edition.TheVariants.{Older}
use Rattle.chip.specs.State.{all_high, power_up_as}
use Rattle.chip.specs.Pins.{pins_of}
use Rattle.chip.specs.Step.{device}
use Rattle.script.specs.Answers.{by_device}
use Rattle.script.specs.Left as walk

-- A script meets a chip of the older edition, with every line high.
abbrev pub met : Chip
met = power_up_as Older all_high

-- What its lines leave of that chip.
abbrev pub left_of : List ℕ → walk.Left Chip
left_of text = walk.left_by (by_device device pins_of) met text
