-- What a rack gives for any event is told by whom it reaches.
-- Rests on OnCard, Seek, Inside, Targets, AllCards and Accesses, on bits' Logic, and on the bus's ByKind and Numbering.
use Rattle.std.proofs.Common.{◌≡◌, refl, sym, ap, ◌∙◌, Bool, true, false, cond, ◌&&◌, List, ℕ, min, ◌≤◌, arith, ltb, length, take, length-take, ltb-true, ltb-false, lt-ltb, le-ltb, Option, Some, None}
use Rattle.bits.proofs.Logic.{both}
use Rattle.bus.specs.Kinds as kinds
use Rattle.bus.specs.Kinds.{no_kind}
use Rattle.bus.specs.Event.{event}
use Rattle.bus.proofs.ByKind.{by_kind, no_row}
use Rattle.bus.specs.declared.Phase.{Phase}
use Rattle.bus.proofs.Numbering.{row_refuses}
use Rattle.chip.specs.declared.Core.{Core}
use Rattle.chip.specs.Step as card
use Rattle.rack.specs.declared.Rack.{Rack}
use Rattle.rack.specs.Bases.{most_cards}
use Rattle.rack.specs.State.{card_edition}
use Rattle.rack.specs.Targets.{Target, target_from, bases_in, is_place, target_at, target_of}
use Rattle.rack.specs.Step.{byte_of, step_at, step_of}
use Rattle.racklaws.proofs.OnCard.{rack_in}
use Rattle.racklaws.proofs.Inside.{place_below, target_inside}
use Rattle.racklaws.proofs.Targets.{number_for, reset_at}
use Rattle.racklaws.specs.Whom.{RackEvent, rack_event, reset, cycle_ended, unknown, read_at, write_at, levels_on, nobody, card as to_card, bus_after, bus_next}
use Rattle.racklaws.specs.Promise.{rack_stepped, Whole, Follows, bus_of, bases_of, whom_in}
use Rattle.racklaws.proofs.Seek.{sought}
use Rattle.racklaws.proofs.AllCards.{always, reset_follows}
use Rattle.racklaws.proofs.Accesses.{refused_follows, read_follows, write_follows, end_follows, levels_on_lem, of_four}

-- The card at a place is one of those that there are bases for.
pub placed : (count : ℕ) (bases : List ℕ) → length bases ≡ most_cards → (x : ℕ) → is_place count x ≡ ltb x (length (bases_in count bases))
unfolding is_place
placed count bases eight x = go (ltb x count && ltb x most_cards) refl
  where
    size : length (bases_in count bases) ≡ min most_cards (min count (length bases))
    size = length-take most_cards (take count bases) ∙ ap (λ (n : ℕ). min most_cards n) (length-take count bases)

    go : (t : Bool) → (ltb x count && ltb x most_cards) ≡ t → (ltb x count && ltb x most_cards) ≡ ltb x (length (bases_in count bases))
    go true e =
        let there = both (ltb x count) (ltb x most_cards) e in
        e ∙ sym (lt-ltb x (length (bases_in count bases)) (omega (arith, size, eight, ltb-true x count there.0, ltb-true x most_cards there.1)))
    go false e = e ∙ sym (le-ltb x (length (bases_in count bases)) (not_both (ltb x count) refl e))
      where
        not_both : (c : Bool) → ltb x count ≡ c → (c && ltb x most_cards) ≡ false → length (bases_in count bases) ≤ x
        not_both true there e = omega (arith, size, ltb-false x most_cards e)
        not_both false there e = omega (arith, size, ltb-false x count there)

module _ (count : ℕ) (bases : List ℕ) (cores : List Core) where
  levels_follow : (ph : Phase) → Whole (rack_in count bases cores ph) → (x y d : ℕ) (t : Bool) → is_place count x ≡ t
      → Follows (rack_in count bases cores ph) (step_at (rack_in count bases cores ph) (cond t (Some (x, y)) None) kinds.outside_levels d)
      (cond (t && ltb y 3) (to_card x (event kinds.outside_levels y d)) nobody)
      (bus_after (bus_of ph) (levels_on x y d) (cond (t && ltb y 3) (to_card x (event kinds.outside_levels y d)) nobody))
  levels_follow ph whole x y d true e = levels_on_lem count bases cores ph whole x y d (place_below count x e) (ltb y 3) refl
  levels_follow ph whole x y d false e = refused_follows count bases cores ph whole kinds.outside_levels d None tt (λ n. omega (arith, n))

  -- What is no kind is refused, whatever it names.
  unknown_refused : (ph : Phase) (k : ℕ) → no_kind k ≡ true → (t : Option Target) → ¬ (number_for ph k t ≡ 0)
  unknown_refused ph k none None n = omega (arith, n)
  unknown_refused ph k none (Some t) n = row_refuses (card.limits card_edition) ph k t.1 0 none n

  followed_in : (ph : Phase) → Whole (rack_in count bases cores ph) → (x y z k : ℕ)
      → Follows (rack_in count bases cores ph) (rack_stepped (rack_in count bases cores ph) (rack_event k x y z))
      (whom_in (rack_in count bases cores ph) (rack_event k x y z))
      (bus_next (bases_in count bases) (bus_of ph) (rack_event k x y z))
  unfolding step_of target_of target_at
  followed_in ph whole x y z =
      by_kind (λ k. Follows (rack_in count bases cores ph) (rack_stepped (rack_in count bases cores ph) (rack_event k x y z))
      (whom_in (rack_in count bases cores ph) (rack_event k x y z)) (bus_next (bases_in count bases) (bus_of ph) (rack_event k x y z)))
      (rw (reset_at count bases cores ph 0 y (Some (0, 0)) (omega arith) (always ph) refl) (reset_follows count bases cores ph whole))
      (rw (sought 0 x (bases_in count bases)) (read_follows count bases cores ph whole y x (target_from 0 (bases_in count bases) x) (target_inside count bases kinds.begin_read x y)))
      (end_follows count bases cores ph whole y)
      (rw (sought 0 x (bases_in count bases)) (write_follows count bases cores ph whole y x (target_from 0 (bases_in count bases) x) (target_inside count bases kinds.begin_write x y)
      (of_four 0 x (bases_in count bases))))
      (rw (sym (placed count bases whole.bases x)) (levels_follow ph whole x y z (is_place count x) refl))
      (λ k none. rw (no_row reset (read_at x) cycle_ended (write_at x y) unknown (levels_on x y z) k none)
      (refused_follows count bases cores ph whole k (byte_of k y z) (target_of count bases k x y) (target_inside count bases k x y) (unknown_refused ph k none (target_of count bases k x y))))

pub followed : (r : Rack) → Whole r → (e : RackEvent) → Follows r (rack_stepped r e) (whom_in r e) (bus_next (bases_of r) (bus_of r.phase) e)
followed r whole e = followed_in r.count r.bases r.cores r.phase whole e.first e.second e.third e.kind
