-- Of who holds a chip whole there is one after a rule; and a chip holds itself at any address.
-- Rests on nothing.
use Rattle.std.proofs.Common.{◌≡◌, ◌∙◌, sym}
use Rattle.bus.specs.declared.Phase.{Phase}
use Rattle.bus.specs.declared.Phase.TheVariants.{Idle, Reading, Writing}
use Rattle.bus.specs.declared.events.Event.{Event}
use Rattle.bus.specs.declared.events.Event.TheVariants.{Reset, BeginRead, EndCycle, BeginWrite, OutsideLevels}
use Rattle.chip.specs.declared.Chip.{Chip}
use Rattle.chip.specs.Held.{Way, Becomes, Holds, CanBegin, itself}

pub one_after : {H : Type 0} {way : Way H} {rule : Chip → Chip} {old s t : H} → way.Whole old
    → Becomes way old s rule → Becomes way old t rule → s ≡ t
one_after {way = way} {s = s} {t = t} whole p q = way.one_each s t (p.kept whole) (q.kept whole) (p.held ∙ sym q.held)

pub holds_any : (ph : Phase) → Holds itself ph
holds_any Idle = tt
holds_any (Reading x) = tt
holds_any (Writing x d) = tt

pub begins_any : (e : Event) → CanBegin itself e
begins_any Reset = tt
begins_any (BeginRead x) = tt
begins_any EndCycle = tt
begins_any (BeginWrite x d) = tt
begins_any (OutsideLevels p d) = tt
