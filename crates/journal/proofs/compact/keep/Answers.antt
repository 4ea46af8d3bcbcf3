-- `compact::keep` meets its contract: at each turn one word more has been gone through, and is moved to the front where it changes the chip.
-- Rests on Keeping, and on the contract of `compact::changes`.
use Rattle.std.proofs.Common.{rules, ◌∙◌, sym, ap, List, ℕ, length}
use Rattle.journal.specs.Trim.{filled_up}
use Rattle.journal.proofs.Keeping.{starts, is_frame_lem, moved, dropped, arrives, filled_up_lem}
use Rattle.journal.proofs.compact.keep.Goals as goal
use Rattle.journal.proofs.compact.keep.Goals.{then-changes, else-changes}

pub loop-at-init : goal.loop-at-init
loop-at-init c = starts _ _ c.requires

pub changes-requires : goal.changes-requires
changes-requires c = is_frame_lem _ _ _ _ _ _ c.loop-at.invariant (search rules)

pub loop-at-preserved : goal.loop-at-preserved
loop-at-preserved c =
    let way = c.loop-at.invariant in
    elim c.if-changes.branch [
      | then-changes w ↦ rw (w.words-is, w.kept-is) (moved _ _ _ _ _ _ way (search rules) _ c.changes.ensures.chip_after _ c.changes.ensures.value w.if-changes.true)
      | else-changes w ↦ rw (w.words-is, w.kept-is) (dropped _ _ _ _ _ _ way (search rules) _ c.changes.ensures.chip_after _ c.changes.ensures.value w.if-changes.false)
    ]

pub returns-clause-value : goal.returns-clause-value
returns-clause-value c = sym c.loop-at.invariant.counted ∙ ap length (arrives _ _ _ _ _ _ c.loop-at.invariant (search rules))

pub returns-clause-words_after : goal.returns-clause-words_after
returns-clause-words_after c =
    filled_up_lem _ _ _ _ _ _ c.loop-at.invariant (search rules)
    ∙ ap (λ (l : List ℕ). filled_up l (length c.args.words.now)) (arrives _ _ _ _ _ _ c.loop-at.invariant (search rules))
