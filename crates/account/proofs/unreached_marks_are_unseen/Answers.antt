-- What no history reaches is not seen.
-- Rests on Unreached.
use Rattle.account.proofs.Unreached.{mark_unseen, bit_7_unseen}
use Rattle.account.proofs.unreached_marks_are_unseen.Goals as goal

pub returns : goal.returns
returns c = record { mark = mark_unseen; bit_7 = bit_7_unseen }
