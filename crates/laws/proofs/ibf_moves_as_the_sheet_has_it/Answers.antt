-- What moves IBF.
-- Rests on InputFlag and ReadBegins.
use Rattle.std.proofs.Common.{◌≡◌, true}
use Rattle.control.specs.declared.Group.{Group}
use Rattle.chip.specs.declared.channel.Side.TheVariants.{Input}
use Rattle.chip.specs.declared.Chip.{Chip}
use Rattle.chip.specs.Handshakes.{strobed}
use Rattle.laws.specs.Flags.{IbfMoves}
use Rattle.laws.proofs.ReadBegins.{begin_keeps_ibf}
use Rattle.laws.proofs.InputFlag.{strobe_sets_ibf, end_resets_ibf, ibf_held}
use Rattle.laws.proofs.ibf_moves_as_the_sheet_has_it.Goals as goal

moves : (c : Chip) (g : Group) → strobed c.core.word g Input ≡ true → IbfMoves c g
moves c g on = record {
  strobe_sets = strobe_sets_ibf c g on;
  begin_keeps = begin_keeps_ibf c g on;
  end_resets = end_resets_ibf c g on;
  held = ibf_held c g on;
}

pub returns : goal.returns
returns c = moves
