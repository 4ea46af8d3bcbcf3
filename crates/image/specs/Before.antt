-- The chips that there were when older images were saved.
use Rattle.std.specs.Prelude.{◌≡◌}
use Rattle.control.specs.declared.Group.{Group}
use Rattle.chip.specs.declared.channel.Side.{Side}
use Rattle.chip.specs.declared.Edition.TheVariants.{Older}
use Rattle.chip.specs.declared.Chip.{Chip}
use Rattle.chip.specs.State.{tally_of}

-- In no channel was a byte planted or struck.
abbrev pub NoneForced : Chip → Type 0
NoneForced c = (g : Group) (s : Side) → ((tally_of c g s).planted ≡ 0) × ((tally_of c g s).struck ≡ 0)

-- It is as they were: of the older edition, and none was.
abbrev pub FromBefore : Chip → Type 0
FromBefore c = (c.edition ≡ Older) × NoneForced c
