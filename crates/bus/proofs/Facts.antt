-- The facts about cycles hold of every device, in every state.
-- Rests on Outcomes, Numbering, Places, Beginnings, Endings, Phases and Begun.
use Rattle.std.proofs.Common.{◌≡◌, refl, subst}
use Rattle.bus.specs.declared.Limits.{Limits}
use Rattle.bus.specs.Device.{Device}
use Rattle.bus.specs.Facts.{Facts}
use Rattle.bus.proofs.Outcomes.{number_given, refusal_changes_nothing}
use Rattle.bus.proofs.Numbering.{numbered}
use Rattle.bus.proofs.Places.{at_place_lem}
use Rattle.bus.proofs.Beginnings.{cycle_begins, operands_ignored}
use Rattle.bus.proofs.Endings.{cycle_ends_lem, in_any_phase_lem}
use Rattle.bus.proofs.Phases.{phase_by_events_lem}
use Rattle.bus.proofs.Begun.{begun}

pub facts : {S R : Type 0} (dev : Device S R) (l : Limits) (s : S) → dev.limits (dev.rest s) ≡ l → Facts dev l s
facts dev l s same = subst (λ (l : Limits). Facts dev l s) same (record {
  by_table = number_given dev s;
  numbered = numbered _ _;
  refusal = refusal_changes_nothing dev s;
  ignored = operands_ignored dev s;
  at_place = at_place_lem dev s;
  begins = cycle_begins dev s;
  ends = cycle_ends_lem dev s;
  in_any_phase = in_any_phase_lem dev s;
  phase_by_events = λ es. phase_by_events_lem dev _ s es refl;
  begun = begun dev s;
})
