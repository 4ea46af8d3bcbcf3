-- A history without one group's events, and when that makes no difference to the other group: no chip is asked ("Two groups").
use Rattle.std.specs.Prelude.{Bool, false, cond, not, ◌&&◌, ◌||◌, List, [], ◌∷◌}
use Rattle.bus.specs.Event.{Event}
use Rattle.bus.specs.declared.Phase.TheVariants.{Idle}
use Rattle.control.specs.declared.Group.{Group}
use Rattle.fates.specs.Kinds.{Kind, kind_of, accepts}
use Rattle.fates.specs.Surroundings.{Surroundings, surroundings_next}
use Rattle.groups.specs.Doings.{its_cycle, is_of}

-- The history without the group's events, be they accepted or refused.
abbrev pub without : Group → Surroundings → List Event → List Event
without g a [] = []
without g a (e ∷ es) =
    cond (is_of g a (kind_of e)) (without g (surroundings_next a e) es) (e ∷ without g (surroundings_next a e) es)

-- A cycle of the group is in the way of an event that is not the group's: an idle bus would accept the event, and it is refused.
abbrev pub in_the_way : Group → Surroundings → Kind → Bool
in_the_way g a k = (its_cycle g a.phase && not (is_of g a k)) && (accepts a.edition Idle k && not (accepts a.edition a.phase k))

-- So it is with some event of a history.
abbrev pub ever_in_the_way : Group → Surroundings → List Event → Bool
ever_in_the_way g a [] = false
ever_in_the_way g a (e ∷ es) = in_the_way g a (kind_of e) || ever_in_the_way g (surroundings_next a e) es

-- The group's cycles are out of the way: none runs where the history begins, and none is in the way of an event.
abbrev pub out_of_the_way : Group → Surroundings → List Event → Bool
out_of_the_way g a es = not (its_cycle g a.phase) && not (ever_in_the_way g a es)
