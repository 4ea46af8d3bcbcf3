-- The contract of the function for C leaves no choice. Rests on bits' Determined.
use Rattle.bits.proofs.Determined.{Determines, equations_determine}
use Rattle.journal_c.specs.contracts as journal_c_says
use Rattle.journal_c.proofs as journal_c

pub towanchor_trim_determined : Determines journal_c_says.towanchor_trim.ended journal_c.towanchor_trim.Reads.Learnt
towanchor_trim_determined c x y = equations_determine
