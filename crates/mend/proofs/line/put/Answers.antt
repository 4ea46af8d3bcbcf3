-- `line::put` meets its contract: at each turn the bytes are under way into the output, with one less, and LF is stored behind them.
-- Rests on Filling.
use Rattle.std.proofs.Common.{◌≡◌, refl, ◌∷◌, ◌++◌, map, suc, ◌+◌, ◌<◌, List, ℕ, length, get_or, drop, set, drop-cons, add-one, arith, rules}
use Rattle.std.proofs.lemmas.List.{length-map, drop_all}
use lib.Seq.{set_at}
use Rattle.text.specs.Lines.{lf}
use Rattle.mend.specs.Line.{raised}
use Rattle.mend.specs.Mend.{in_front}
use Rattle.mend.proofs.Filling.{starts, stored, arrives, one_each_lem}
use Rattle.mend.proofs.line.put.Invariants.{put}
use Rattle.mend.proofs.line.put.Goals as goal

pub loop-at-init : goal.loop-at-init
loop-at-init c =
    let bytes = c.args.bytes.now in
    starts put bytes c.args.out.now (rw (one_each_lem raised bytes, length-map bytes raised) (omega arith))

pub loop-at-preserved : goal.loop-at-preserved
loop-at-preserved c =
    let bytes = c.args.bytes.now in
    let at = c.loop-at.at in
    let next : drop at bytes ≡ get_or bytes at 0 ∷ drop (at + 1) bytes = rw (add-one at) (drop-cons bytes at 0 (search rules)) in
    rw c.raise.ensures (stored put _ _ c.loop-at.out _ (drop (at + 1) bytes) at (rw (next) at c.loop-at.invariant) _ refl)

-- LF, stored behind the bytes.
ended : (bytes out : List ℕ) → length bytes < length out
    → set (in_front (map raised bytes) out) (length bytes) lf ≡ map raised bytes ++ lf ∷ drop (suc (length bytes)) out
ended bytes out room =
    rw (length-map bytes raised, drop-cons out (length bytes) 0 room)
    (set_at (map raised bytes) (get_or out (length bytes) 0) (drop (suc (length bytes)) out) lf (length bytes) (length-map bytes raised))

pub returns : goal.returns
returns c =
    let bytes = c.args.bytes.now in
    let way = rw (drop_all c.loop-at.at bytes (search rules)) at c.loop-at.invariant in
    rw (arrives put _ _ _ _ way, one_each_lem raised bytes) (ended bytes c.args.out.now c.requires)
