-- The number of an event that is for a card or for none, and what a refusal and a reset make of the rack.
-- Rests on Inside and OnCard, and on the bus's Outcomes.
use Rattle.std.proofs.Common.{◌≡◌, refl, sym, ◌∙◌, List, ℕ, Option, Some, None, arith}
use Rattle.bus.specs.declared.Phase.{Phase}
use Rattle.bus.specs.Device.{gives, reset_in}
use Rattle.bus.specs.Refusals.{number_of}
use Rattle.bus.specs.Cycles.{refused_in}
use Rattle.bus.proofs.Outcomes as bus
use Rattle.chip.specs.declared.Core.{Core}
use Rattle.chip.specs.Step as card
use Rattle.rack.specs.Bases.{no_card_number}
use Rattle.rack.specs.Targets.{Target}
use Rattle.rack.specs.State.{number_at, card_edition}
use Rattle.rack.specs.Step.{device, step_at}
use Rattle.racklaws.proofs.Inside.{InRack}
use Rattle.racklaws.proofs.OnCard.{same_number, rack_in}

-- The number of an event of kind k, by the card and the register that it is for.
abbrev pub number_for : Phase → ℕ → Option Target → ℕ
number_for ph k None = no_card_number
number_for ph k (Some t) = number_of (card.limits card_edition) ph k t.1

module _ (count : ℕ) (bases : List ℕ) (cores : List Core) (ph : Phase) (k d : ℕ) where
  -- A number other than 0 refuses it.
  pub refused_at : (t : Option Target) → InRack t → ¬ (number_for ph k t ≡ 0)
      → step_at (rack_in count bases cores ph) t k d ≡ refused_in (rack_in count bases cores ph) (number_for ph k t)
  refused_at None inside n = refl
  refused_at (Some t) inside n =
      let same = same_number t.0 t.1 inside ph k in
      rw (bus.refuses device (rack_in count bases cores ph) k (number_at t.0 t.1) d (λ e. n (sym same ∙ e)), same)

  -- A reset.
  pub reset_at : (t : Option Target) → InRack t → number_for ph k t ≡ 0 → k ≡ 0
      → step_at (rack_in count bases cores ph) t k d ≡ gives (reset_in device (rack_in count bases cores ph)) 0 0
  reset_at None inside e zero = absurd (omega (arith, e))
  reset_at (Some t) inside e zero =
      rw (bus.accepts device (rack_in count bases cores ph) k (number_at t.0 t.1) d (same_number t.0 t.1 inside ph k ∙ e), zero)
