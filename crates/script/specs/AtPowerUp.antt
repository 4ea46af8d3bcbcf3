-- The runs of a device at its power-up ("Script and program", "The 82C55A", "The 8355 ports").
use Rattle.std.specs.Prelude.{List, ℕ}
use Rattle.chip.specs.declared.Edition.{Edition}
use Rattle.chip.specs.State.{all_high, power_up_as}
use Rattle.chip.specs.Pins as chip_pins
use Rattle.chip.specs.Step as chip
use Rattle.i8355.specs.State as i8355_state
use Rattle.i8355.specs.Views as i8355_views
use Rattle.i8355.specs.Step as i8355
use Rattle.script.specs.Answers.{by_device}
use Rattle.script.specs.Run.{output_left}

-- The output after the run of a text on a chip of an edition, which has just been powered up with every line high.
abbrev pub output_by_chip : Edition → List ℕ → List ℕ → List ℕ
output_by_chip ed text out = output_left (by_device chip.device chip_pins.pins_of) (power_up_as ed all_high) text out

-- That after the run on an 8355, which has just been powered up; its lines are high then.
abbrev pub output_by_8355 : List ℕ → List ℕ → List ℕ
output_by_8355 text out = output_left (by_device i8355.device i8355_views.pins_of) i8355_state.power_up text out
