-- The scripts that are listed have the answers beside them.
-- Rests on Texts.
use Rattle.account.proofs.Texts.{texts_answered, nine_texts, lines_listed}
use Rattle.account.proofs.texts_have_these_answers.Goals as goal

pub returns : goal.returns
returns c = record { answers = texts_answered; scripts = nine_texts; lines = lines_listed }
