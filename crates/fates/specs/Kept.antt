-- The discipline of port A in a history from a power-up of the older edition with every line high ("Discipline").
use Rattle.std.specs.Prelude.{List}
use Rattle.bus.specs.Event.{Event}
use Rattle.control.specs.declared.Group.TheVariants.{A}
use Rattle.chip.specs.declared.Edition.TheVariants.{Older}
use Rattle.chip.specs.State.{all_high, power_up_with}
use Rattle.fates.specs.Surroundings.{at_power_up}
use Rattle.fates.specs.Discipline.{Disciplined}

-- Device and program keep to the discipline.
abbrev pub KeepsTo : List Event → Type 0
KeepsTo es = Disciplined A (at_power_up Older all_high) (power_up_with all_high) es
