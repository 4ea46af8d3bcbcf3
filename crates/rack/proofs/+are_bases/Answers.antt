-- `are_bases` meets its contract: the first is tested, and then those behind it.
-- Rests on InBases and on bits' Logic.
use Rattle.std.proofs.Common.{◌∙◌, sym, refl, arith}
use Rattle.bits.proofs.Logic.{contrary}
use Rattle.rack.proofs.InBases.{first_and_later}
use Rattle.rack.proofs.+are_bases.Goals as goal
use Rattle.rack.proofs.+are_bases.Goals.{then-is_base, else-is_base}

-- Both answers say `all` of the first and the later bases: the steps of a recursive function are no record that a lemma could take.
pub returns-then-not-contains : goal.returns-then-not-contains
returns-then-not-contains t c =
    elim c.if-is_base.branch [
      | then-is_base w ↦
          let all = first_and_later c.args.bases.now (omega arith) c.is_base.result w.contains.result c.is_base.ensures w.contains.ensures.value in
          c.are_bases.ensures ∙ sym (rw (w.if-is_base.true, sym w.value-is ∙ c.if-not-contains.true) at all)
      | else-is_base w ↦ absurd (contrary c.if-is_base.value (w.value-is ∙ w.if-is_base.false) c.if-not-contains.true)
    ]

pub returns-else-not-contains : goal.returns-else-not-contains
returns-else-not-contains t c =
    elim c.if-is_base.branch [
      | then-is_base w ↦
          let all = first_and_later c.args.bases.now (omega arith) c.is_base.result w.contains.result c.is_base.ensures w.contains.ensures.value in
          c.if-not-contains.false ∙ sym (rw (w.if-is_base.true, sym w.value-is ∙ c.if-not-contains.false) at all)
      | else-is_base w ↦
          let all = first_and_later c.args.bases.now (omega arith) c.is_base.result _ c.is_base.ensures refl in
          c.if-not-contains.false ∙ sym (rw (w.if-is_base.false) at all)
    ]
