-- The chip whose interrupts are explained, where a script leaves it as it was ("Why the interrupt is quiet", "The 82C55A").
use Rattle.chip.specs.declared.Edition.TheVariants.{Older}
use Rattle.chip.specs.declared.Chip.{Chip}
use Rattle.chip.specs.State.{all_high, power_up_as}

-- A chip of the older edition at its power-up, with every line high. It is said apart from `met`, with which the program begins.
abbrev pub explained_at_first : Chip
explained_at_first = power_up_as Older all_high
