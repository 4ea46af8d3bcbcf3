-- The run of a script on a device ("Script and program").
use Rattle.std.specs.Prelude.{List, ℕ}
use Rattle.chip.specs.declared.Edition.TheVariants.{Older, Newer}
use Rattle.script.specs.AtPowerUp.{output_by_chip, output_by_8355}
use Rattle.prints.specs.declared.Device.{Device}
use Rattle.prints.specs.declared.Device.TheVariants.{I8255A, I82C55A, I8355}

-- The output after the run of a script on a device, from its power-up.
abbrev pub output_by : Device → List ℕ → List ℕ → List ℕ
output_by I8255A text out = output_by_chip Older text out
output_by I82C55A text out = output_by_chip Newer text out
output_by I8355 text out = output_by_8355 text out
