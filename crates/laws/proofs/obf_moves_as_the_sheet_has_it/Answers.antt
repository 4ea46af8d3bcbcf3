-- What moves OBF.
-- Rests on OutputFlag.
use Rattle.std.proofs.Common.{◌≡◌, true}
use Rattle.control.specs.declared.Group.{Group}
use Rattle.chip.specs.declared.channel.Side.TheVariants.{Output}
use Rattle.chip.specs.declared.Chip.{Chip}
use Rattle.chip.specs.Handshakes.{strobed}
use Rattle.laws.specs.Flags.{ObfMoves}
use Rattle.laws.proofs.OutputFlag.{end_lowers_obf, ack_raises_obf, obf_held}
use Rattle.laws.proofs.obf_moves_as_the_sheet_has_it.Goals as goal

moves : (c : Chip) (g : Group) → strobed c.core.word g Output ≡ true → ObfMoves c g
moves c g on = record { write_lowers = end_lowers_obf c g on; ack_raises = ack_raises_obf c g on; held = obf_held c g on }

pub returns : goal.returns
returns c = moves
