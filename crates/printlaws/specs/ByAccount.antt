-- What a script is answered by each device, by the accounts of what a history shows, and some scripts with their answers ("Script and program",
-- "The 82C55A", "The 8355 ports").
use Rattle.std.specs.Prelude.{List, ℕ}
use Rattle.bus.specs.Event.{Event}
use Rattle.chip.specs.declared.Edition.TheVariants.{Older, Newer}
use Rattle.text.specs.Quoted.{Text}
use Rattle.account.specs.Account.{opened}
use Rattle.account.specs.AtPowerUp.{lines_high}
use Rattle.account.specs.Script.{lines_by}
use Rattle.account.specs.Texts.{texts}
use Rattle.laws8355.specs.Account as account8355
use Rattle.laws8355.specs.Script as script8355
use Rattle.prints.specs.declared.Device.{Device}
use Rattle.prints.specs.declared.Device.TheVariants.{I8255A, I82C55A, I8355}

-- The answer lines of a history, by the account: of the older edition and of the newer, from a power-up with every line high, and of the 8355, whose
-- lines are high at power-up too.
abbrev pub accounted_lines : Device → List Event → List ℕ
accounted_lines I8255A es = lines_by (opened Older lines_high) es
accounted_lines I82C55A es = lines_by (opened Newer lines_high) es
accounted_lines I8355 es = script8355.lines_by account8355.opened es

-- Scripts, with the answers that are listed beside them: for each edition the whole case and eight others, and for the 8355 four.
abbrev pub listed_scripts : Device → List Text
listed_scripts I8255A = texts Older
listed_scripts I82C55A = texts Newer
listed_scripts I8355 = script8355.texts
