-- A read of control answers the last mode word.
-- Rests on ReadBack.
use Rattle.account.proofs.ReadBack.{read_back, read_back_from}
use Rattle.account.proofs.mode_words_are_read_back.Goals as goal

pub returns : goal.returns
returns c = record { power_up = read_back; any_chip = read_back_from }
