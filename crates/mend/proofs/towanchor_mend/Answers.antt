-- `towanchor_mend` meets its contract: both lengths are small, and so the answer fits.
-- Rests on Numbers.
use Rattle.std.proofs.Common.{arith}
use Rattle.mend.proofs.Numbers.{told_small}
use Rattle.mend.proofs.towanchor_mend.Goals as goal

pub overflow_mul-result : goal.overflow_mul-result
overflow_mul-result c = omega (arith, told_small _ _ _ c.in-Ok.mended c.in-Ok.ensures.told)

pub overflow_mul-result-in-Ok : goal.overflow_mul-result-in-Ok
overflow_mul-result-in-Ok c = omega (arith, told_small _ _ _ c.in-Ok.mended c.in-Ok.ensures.told)

pub overflow_add-result : goal.overflow_add-result
overflow_add-result c = omega (arith, told_small _ _ _ c.in-Ok.mended c.in-Ok.ensures.told)
