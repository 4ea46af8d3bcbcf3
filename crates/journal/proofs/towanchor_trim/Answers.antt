-- `journal::towanchor_trim` meets its contract: its answer is a number of 32 bits.
-- Rests on Trimming.
use Rattle.std.proofs.Common.{rules, arith, List, ℕ, ◌*◌, ◌≤◌, ◌≡◌}
use Rattle.journal.specs.Trim.{trim_answer}
use Rattle.journal.proofs.Trimming.{answer_at_most}
use Rattle.journal.proofs.towanchor_trim.Goals as goal

-- Whatever trim the count is of.
few : (words : List ℕ) (edition a b c kept : ℕ) → 256 * kept ≡ trim_answer words edition a b c → 256 * kept ≤ 2097152
few words edition a b c kept told = omega (arith, told, answer_at_most words edition a b c)

pub overflow_cast-result : goal.overflow_cast-result
overflow_cast-result c = let bound = few c.args.words.now c.args.edition _ _ _ c.in-Ok.kept c.in-Ok.ensures.value in search rules

pub overflow_mul-result : goal.overflow_mul-result
overflow_mul-result c = let bound = few c.args.words.now c.args.edition _ _ _ c.in-Ok.kept c.in-Ok.ensures.value in search rules
