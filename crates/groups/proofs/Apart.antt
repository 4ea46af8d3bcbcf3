-- The groups are kept apart: any events of the other group, with refused ones between them, leave a group as it was.
-- Rests on Seen, OneEvent, bits' Logic and fates' SurroundingsKept.
use Rattle.std.proofs.Common.{◌≡◌, ◌∙◌, refl, Bool, true, false, not, ◌||◌, List, [], ◌∷◌}
use Rattle.bits.proofs.Logic.{contrary, both}
use Rattle.bus.specs.Event.{Event}
use Rattle.control.specs.declared.Group.{Group}
use Rattle.chip.specs.declared.Chip.{Chip}
use Rattle.chip.specs.Step.{stepped}
use Rattle.fates.specs.Kinds.{kind_of, accepts}
use Rattle.fates.specs.Promise.{surroundings_of}
use Rattle.fates.proofs.SurroundingsKept.{surroundings_next_lem}
use Rattle.groups.specs.Doings.{other, harmless, only_of}
use Rattle.groups.specs.Apart.{Left}
use Rattle.groups.proofs.Seen.{same_belongings}
use Rattle.groups.proofs.OneEvent.{left_by_event}

where_accepted : (ok its : Bool) → (not ok || its) ≡ true → ok ≡ true → its ≡ true
where_accepted true its only ok = only
where_accepted false its only ok = absurd (contrary false refl ok)

-- From every chip, whatever runs on its bus.
pub left_by_history : (g : Group) (c : Chip) (es : List Event) → only_of (other g) (surroundings_of c) es ≡ true → Left g c es
left_by_history g c [] only = refl
left_by_history g c (e ∷ es) only =
    let c' = (stepped c e).state in
    let a = surroundings_of c in
    let is = both (not (accepts c.edition c.phase (kind_of e)) || harmless (other g) a (kind_of e)) _ only in
    left_by_history g c' es (rw (surroundings_next_lem c e) is.1) ∙ same_belongings g c' c (left_by_event g c e (where_accepted _ _ is.0))
