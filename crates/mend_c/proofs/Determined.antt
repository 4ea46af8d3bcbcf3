-- The contract of the function for C leaves no choice. Rests on bits' Determined.
use Rattle.std.proofs.Common.{◌∙◌, sym}
use Rattle.bits.proofs.Determined.{Determines}
use Rattle.mend_c.specs.contracts as mend_c_says
use Rattle.mend_c.proofs as mend_c

-- Before both outputs stands the text, which is not written.
pub towanchor_mend_determined : Determines mend_c_says.towanchor_mend.ended mend_c.towanchor_mend.Reads.Learnt
towanchor_mend_determined c x y p q =
    λ i. ((p.0 ∙ sym q.0) i, (tt, ((p.1.0 ∙ sym q.1.0) i, ((p.1.1 ∙ sym q.1.1) i, tt))))
