-- The answers to a text stand line by line.
-- Rests on script's Pieces.
use Rattle.script.proofs.Pieces.{answers_length, prefixes_agree}
use Rattle.account.proofs.answers_stand_line_by_line.Goals as goal

pub returns : goal.returns
returns g c = record { width = answers_length; prefix = prefixes_agree }
