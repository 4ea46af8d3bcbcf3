-- `towanchor::mending::Said::of`: at each turn one line more is said. There are no more lines than bytes, so that each has a number.
-- Rests on text's LineCount.
use Rattle.std.proofs.Common.{refl, arith, inl}
use Rattle.text.proofs.LineCount.{lines_at_most}
use Rattle.prints.specs.Mended.{said_of_all, has_unfit}
use Rattle.towanchor.proofs.mending.Said.of.Goals as goal

pub loop-at-init-derived : goal.loop-at-init-derived
loop-at-init-derived c =
    rw (
      c.into_iter-at-iterator.ensures.into_iter_gives,
      c.enumerate-at-items.ensures.source,
      c.enumerate-at-items.ensures.count,
      c.new.ensures,
    ) ((tt, tt, inl (omega (arith, lines_at_most c.args.text.now))), tt)

pub loop-at-init : goal.loop-at-init
unfolding said_of_all has_unfit
loop-at-init c =
    rw (
      c.into_iter-at-iterator.ensures.into_iter_gives,
      c.enumerate-at-items.ensures.source,
      c.enumerate-at-items.ensures.count,
      c.new.ensures,
      c.new-words.ensures.bytes,
    ) (refl, refl)
