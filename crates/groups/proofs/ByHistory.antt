-- The way through a history and the same history without the other group's events, in step.
-- Rests on Beside, bits' Logic, and fates' SurroundingsKept.
use Rattle.std.proofs.Common.{◌≡◌, true, false, List, [], ◌∷◌}
use Rattle.bits.proofs.Logic.{neither, by_test}
use Rattle.bus.specs.Event.{Event}
use Rattle.control.specs.declared.Group.{Group}
use Rattle.chip.specs.declared.Chip.{Chip}
use Rattle.chip.specs.Step.{stepped}
use Rattle.fates.specs.Kinds.{kind_of}
use Rattle.fates.specs.Promise.{surroundings_of}
use Rattle.fates.proofs.SurroundingsKept.{surroundings_next_lem}
use Rattle.groups.specs.Doings.{other, is_of}
use Rattle.groups.specs.Alone.{without, in_the_way, ever_in_the_way}
use Rattle.groups.proofs.Beside.{Beside, kept_beside, dropped_beside}

-- Something that may be so of a chip c' before the events es', beside a chip c before the events es. It is so before no events. It stays so
-- where an event of the other group comes before es; and where any other event comes before both, with no cycle of the other group in its way.
pub record Through (g : Group) (P : Chip → List Event → Chip → List Event → Type 0) : Type 0 where
  pub none : (c' c : Chip) → Beside g c' c → P c' [] c []
  pub dropped : (c' c : Chip) (e : Event) (es' es : List Event) → is_of (other g) (surroundings_of c) (kind_of e) ≡ true
      → P c' es' (stepped c e).state es → P c' es' c (e ∷ es)
  pub kept : (c' c : Chip) (e : Event) (es' es : List Event) → Beside g c' c
      → is_of (other g) (surroundings_of c) (kind_of e) ≡ false → in_the_way (other g) (surroundings_of c) (kind_of e) ≡ false
      → P (stepped c' e).state es' (stepped c e).state es → P c' (e ∷ es') c (e ∷ es)

-- Then it is so of every history in which no cycle of the other group is in the way.
pub by_history : (g : Group) (P : Chip → List Event → Chip → List Event → Type 0) → Through g P
    → (es : List Event) (c' c : Chip) → Beside g c' c → ever_in_the_way (other g) (surroundings_of c) es ≡ false
    → P c' (without (other g) (surroundings_of c) es) c es
by_history g P t [] c' c k clear = t.none c' c k
by_history g P t (e ∷ es) c' c k clear =
    let next = (stepped c e).state in
    let next' = (stepped c' e).state in
    let first = neither (in_the_way (other g) (surroundings_of c) (kind_of e)) _ clear in
    let later : ever_in_the_way (other g) (surroundings_of next) es ≡ false = rw (surroundings_next_lem c e) first.1 in
    rw (← surroundings_next_lem c e)
    (by_test (λ es'. P c' es' c (e ∷ es)) (is_of (other g) (surroundings_of c) (kind_of e)) _ _
    (λ its. t.dropped c' c e _ es its (by_history g P t es c' next (dropped_beside g c' c k e its) later))
    (λ others. t.kept c' c e _ es k others first.0 (by_history g P t es next' next (kept_beside g c' c k e others first.0) later)))
