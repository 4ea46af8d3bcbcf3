-- An event by its three numbers: a device gives for the numbers what it gives for the event that they name, and refuses with 1 what names none.
-- Rests on ByKind and Numbering.
use Rattle.std.proofs.Common.{◌≡◌, ◌∙◌, sym, ap, ℕ, Some, None, unwrap_or}
use Rattle.std.proofs.lemmas.Option.{none-some}
use Rattle.bus.specs.Kinds.{is_kind}
use Rattle.bus.specs.declared.events.Event.{Event}
use Rattle.bus.specs.declared.events.Event.TheVariants.{Reset, BeginRead, EndCycle, BeginWrite, OutsideLevels}
use Rattle.bus.specs.Refusals.{number_of}
use Rattle.bus.specs.Device.{Device, step_in}
use Rattle.bus.specs.Answers.{event_numbered, given_for}
use Rattle.bus.specs.Cycles.{refused_in}
use Rattle.bus.proofs.ByKind.{by_kind, last_choice}
use Rattle.bus.proofs.Numbering.{no_kind_refused}

module _ {S R : Type 0} (dev : Device S R) (s : S) (k x d : ℕ) where
  pub named : (e : Event) → Some e ≡ event_numbered k x d → step_in dev s k x d ≡ given_for dev s e
  unfolding step_in number_of is_kind
  named e is =
      by_kind (λ k. Some e ≡ event_numbered k x d → step_in dev s k x d ≡ given_for dev s e)
      (λ is. ap (λ o. given_for dev s (unwrap_or o Reset)) (sym is))
      (λ is. ap (λ o. given_for dev s (unwrap_or o Reset)) (sym is))
      (λ is. ap (λ o. given_for dev s (unwrap_or o Reset)) (sym is))
      (λ is. ap (λ o. given_for dev s (unwrap_or o Reset)) (sym is))
      (λ is. ap (λ o. given_for dev s (unwrap_or o Reset)) (sym is))
      (λ k none is. absurd (none-some e (sym (is ∙ last_choice _ _ _ _ _ None k none))))
      k is

  pub unnamed : None ≡ event_numbered k x d → step_in dev s k x d ≡ refused_in s 1
  unnamed is =
      by_kind (λ k. None ≡ event_numbered k x d → step_in dev s k x d ≡ refused_in s 1)
      (λ is. absurd (none-some Reset is))
      (λ is. absurd (none-some (BeginRead x) is))
      (λ is. absurd (none-some EndCycle is))
      (λ is. absurd (none-some (BeginWrite x d) is))
      (λ is. absurd (none-some (OutsideLevels x d) is))
      (λ k none is. no_kind_refused dev s k x d none)
      k is

pub ruleset by_numbers = (named, unnamed)
