-- In a run that keeps to the discipline a read of the strobed port has always found a byte, so that an image may be saved in it anywhere.
-- Rests on Stays, on image's ComesBack, and on fates' SurroundingsKept, Followed, Discipline and EveryByte.
use Rattle.std.proofs.Common.{sym, subst, List, [], ◌∷◌}
use Rattle.bus.specs.Event.{Event}
use Rattle.control.specs.declared.Group.{Group}
use Rattle.chip.specs.declared.Chip.{Chip}
use Rattle.chip.specs.State.{power_up_as}
use Rattle.fates.specs.Promise.{run, surroundings_of}
use Rattle.fates.specs.Discipline.{HasFound, Disciplined}
use Rattle.fates.proofs.SurroundingsKept.{surroundings_next_lem}
use Rattle.fates.proofs.Followed.{after}
use Rattle.fates.proofs.Discipline.{found_next, disciplined_from, no_read}
use Rattle.image.specs.Layout.{image_of}
use Rattle.image.specs.Loaded.{state_of}
use Rattle.image.proofs.ComesBack.{comes_back}
use Rattle.restored.proofs.Stays.{reached}
use Rattle.restored.proofs.images_of_disciplined_runs_lose_none.Goals as goal

has_found : (g : Group) (c : Chip) (es : List Event) → HasFound g c → Disciplined g (surroundings_of c) c es → HasFound g (run c es)
has_found g c [] found kept = found
has_found g c (e ∷ es) found kept =
    has_found g (after c e) es (found_next g c e found kept.0) (rw (surroundings_next_lem c e) kept.1)

pub returns : goal.returns
returns c = λ g ed v before es kept_before kept.
    let c = run (power_up_as ed v) before in
    disciplined_from g (state_of (image_of c))
    (subst (HasFound g) (sym (comes_back c (reached ed v before))) (has_found g (power_up_as ed v) before (no_read g ed v) kept_before)) es kept
