-- What an answer tells of what a script leaves ("Why the interrupt is quiet").
use Rattle.std.specs.Prelude.{Result, Ok, Err}
use Rattle.chip.specs.declared.Chip.{Chip}
use Rattle.script.specs.declared.RunRefusal.{RunRefusal}
use Rattle.script.specs.Run.{run_refusal_number}
use Rattle.script.specs.Left as walk
use Rattle.prints.specs.Left.{met}
use Rattle.towanchor.specs.declared.quiet.Left.{Left}

-- A text that is too long leaves the chip as it was.
abbrev pub told : Result Left RunRefusal → walk.Left Chip
told (Ok l) = walk.left 0 l.chip l.refused
told (Err r) = walk.left (run_refusal_number r) met 0
