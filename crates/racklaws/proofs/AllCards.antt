-- A reset: each card does as a chip alone.
-- Rests on OnCard and on the chip's Outcome.
use Rattle.std.proofs.Common.{◌≡◌, refl, ◌∙◌, List, ℕ, ◌<◌, arith}
use Rattle.std.proofs.lemmas.List.{get_or-map, length-map}
use Rattle.bus.specs.Kinds.{is_kind}
use Rattle.bus.specs.Event.{event}
use Rattle.bus.specs.declared.Phase.{Phase}
use Rattle.bus.specs.Refusals.{number_of}
use Rattle.bus.specs.Device.{Given, gives, reset_in}
use Rattle.chip.specs.declared.Core.{Core}
use Rattle.chip.specs.Step as card
use Rattle.chip.specs.Step.{stepped}
use Rattle.chip.proofs.Outcome.{step_accepts}
use Rattle.rack.specs.declared.Rack.{Rack}
use Rattle.rack.specs.Bases.{most_cards}
use Rattle.rack.specs.State.{seen_at, no_core, chip_at, card_edition}
use Rattle.rack.specs.Step.{core_reset, device}
use Rattle.racklaws.proofs.OnCard.{rack_in}
use Rattle.racklaws.specs.Whom.{free, everybody}
use Rattle.racklaws.specs.Promise.{Whole, Follows}

-- A reset is accepted in every phase.
pub always : (ph : Phase) → number_of (card.limits card_edition) ph 0 0 ≡ 0
unfolding number_of is_kind
always ph = refl

module _ (count : ℕ) (bases : List ℕ) (cores : List Core) (ph : Phase) (whole : Whole (rack_in count bases cores ph)) where
  abbrev rack : Rack
  rack = rack_in count bases cores ph

  abbrev given : Given Rack
  given = gives (reset_in device rack) 0 0

  each : (i : ℕ) → i < most_cards → chip_at given.state i ≡ (stepped (chip_at rack i) (event 0 0 0)).state
  unfolding chip_at
  each i h = rw (
    step_accepts (chip_at rack i) 0 0 0 (always (seen_at i ph)),
    get_or-map core_reset cores i no_core no_core (omega (arith, h, whole.cores)),
  )

  pub reset_follows : Follows rack given (everybody (event 0 0 0)) free
  reset_follows = record {
    reached = record { accepted = refl; byte = refl; each = each };
    bus = refl;
    bases = refl;
    whole = record { cores = length-map cores core_reset ∙ whole.cores; bases = whole.bases };
  }
