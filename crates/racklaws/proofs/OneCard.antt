-- An accepted event that reaches one card: that card does as a chip alone, and every other is as it was.
-- Rests on Seen and OnCard, on the bus's Phases, chip's Outcome and laws' Editions.
use Rattle.std.proofs.Common.{◌≡◌, refl, sym, ap, ◌∙◌, List, ℕ, ◌<◌, arith, length, length-set, get_or-set_same, get_or-set_other}
use Rattle.bus.specs.Event.{Event, event}
use Rattle.bus.specs.declared.Phase.{Phase}
use Rattle.bus.specs.Refusals.{number_of}
use Rattle.bus.specs.Device.{Given, step_in}
use Rattle.bus.specs.Cycles.{phase_after}
use Rattle.bus.proofs.Phases.{phase_goes}
use Rattle.chip.specs.declared.Core.{Core}
use Rattle.chip.specs.declared.Edition.{Edition}
use Rattle.chip.specs.Step as card
use Rattle.chip.specs.Step.{stepped}
use Rattle.chip.proofs.Outcome.{step_accepts, step_number}
use Rattle.laws.proofs.Editions.{edition_stays}
use Rattle.rack.specs.declared.Rack.{Rack}
use Rattle.rack.specs.Bases.{most_cards}
use Rattle.rack.specs.State.{number_at, seen_at, no_core, chip_at, card_edition}
use Rattle.rack.specs.Step.{device}
use Rattle.racklaws.proofs.OnCard.{reached_by, rack_in, card_stepped, accepted_there_lem, reached_below, one_card_lem}
use Rattle.racklaws.specs.Whom.{card as to_card}
use Rattle.racklaws.specs.Promise.{ForOne, Whole, Follows, bus_of}
use Rattle.racklaws.proofs.Seen.{seen_own, seen_others}

module _ (count : ℕ) (bases : List ℕ) (cores : List Core) (ph : Phase) (whole : Whole (rack_in count bases cores ph)) (i r d k : ℕ) (h : i < most_cards)
    (n : ¬ (k ≡ 0)) (e : number_of (card.limits card_edition) ph k r ≡ 0) where
  abbrev rack : Rack
  rack = rack_in count bases cores ph

  abbrev place : ℕ
  place = reached_by ph k i

  abbrev own : Event
  own = event k r d

  abbrev given : Given Rack
  given = card_stepped count bases cores i r d h ph k

  its_phase : (stepped (chip_at rack place) own).state.phase ≡ phase_after (seen_at place ph) k r d
  unfolding chip_at
  its_phase = rw (step_accepts (chip_at rack place) k r d (accepted_there_lem ph i r k n e)) (phase_goes card.device (chip_at rack place) k r d)

  changed : chip_at given.state place ≡ (stepped (chip_at rack place) own).state
  unfolding chip_at
  changed =
      let after = (stepped (chip_at rack place) own).state in
      let below : place < length cores = omega (arith, reached_below ph k i h, whole.cores) in
      rw (seen_own i r d h ph k n e, get_or-set_same cores place after.core no_core below)
      (ap (λ (p : Phase). card.on_bus p card_edition after.core) (sym its_phase)
      ∙ ap (λ (ed : Edition). card.on_bus after.phase ed after.core) (sym (edition_stays (chip_at rack place) k r d)))

  others : (j : ℕ) → ¬ (j ≡ place) → chip_at given.state j ≡ chip_at rack j
  unfolding chip_at
  others j other = rw (seen_others i r d h ph k n e j other, get_or-set_other cores place j (stepped (chip_at rack place) own).state.core no_core other)

  there : (stepped (chip_at rack place) own).number ≡ 0
  unfolding chip_at
  there = step_number (chip_at rack place) k r d ∙ accepted_there_lem ph i r k n e

  one_reached : ForOne rack given place own
  one_reached = record {
    place = reached_below ph k i h;
    accepted = refl;
    accepted_there = there;
    byte = refl;
    changed = changed;
    others = others;
  }

  pub card_follows : Follows rack (step_in device rack k (number_at i r) d) (to_card place own) (bus_of (phase_after ph k (number_at i r) d))
  card_follows = rw (one_card_lem count bases cores i r d h ph k n e) record {
    reached = one_reached;
    bus = refl;
    bases = refl;
    whole = record { cores = length-set cores place _ ∙ whole.cores; bases = whole.bases };
  }
