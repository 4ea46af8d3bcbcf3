-- What a rack gives for a cycle that begins or ends, or for levels, is told by whom the event reaches.
-- Rests on Seek, Inside, Targets, OnCard and OneCard, on bits' Logic, on the bus's Numbering, on laws' Cycles, and on fates' Accepted.
use Rattle.std.proofs.Common.{◌≡◌, refl, sym, ap, ◌∙◌, Bool, true, false, cond, List, [], ◌∷◌, ℕ, suc, ◌<◌, arith, ltb, lt-ltb, Option, Some, None}
use Rattle.bits.proofs.Logic.{by_test}
use Rattle.bus.specs.Kinds as kinds
use Rattle.bus.specs.Event.{Event, event}
use Rattle.bus.specs.declared.Phase.{Phase}
use Rattle.bus.specs.declared.Phase.TheVariants.{Idle, Reading, Writing}
use Rattle.bus.proofs.Numbering.{row_refuses}
use Rattle.bus.specs.Device.{Given}
use Rattle.chip.specs.declared.Core.{Core}
use Rattle.chip.specs.declared.Chip.{Chip}
use Rattle.chip.specs.Step as card
use Rattle.chip.specs.Step.{stepped}
use Rattle.laws.proofs.Cycles.{facts}
use Rattle.fates.proofs.Accepted.{accepted_number}
use Rattle.rack.specs.declared.Rack.{Rack}
use Rattle.rack.specs.Bases.{most_cards}
use Rattle.rack.specs.State.{place_of, chip_at, card_edition}
use Rattle.rack.specs.Targets.{Target, answers_at, register_at, target_from}
use Rattle.rack.specs.Step.{step_at}
use Rattle.racklaws.proofs.OnCard.{rack_in, place_numbered}
use Rattle.racklaws.proofs.Inside.{InRack}
use Rattle.racklaws.proofs.Targets.{number_for, refused_at}
use Rattle.racklaws.specs.Whom.{cycle_ended, read_at, write_at, levels_on, Bus, free, taken_by, nobody, card as to_card, read_reaches, write_reaches, end_reaches, bus_after}
use Rattle.racklaws.specs.Promise.{Whole, Follows, bus_of}
use Rattle.racklaws.proofs.Seek.{as_found}
use Rattle.racklaws.proofs.OneCard.{card_follows}

-- A register that an address is, is one of four.
abbrev pub OfFour : Option Target → Type 0
OfFour None = Unit {0}
OfFour (Some t) = t.1 < 4

pub of_four : (i address : ℕ) (bases : List ℕ) → OfFour (target_from i bases address)
unfolding target_from
of_four i address [] = tt
of_four i address (base ∷ later) =
    by_test OfFour (answers_at base address) (Some (i, register_at base address)) (target_from (suc i) later address)
    (λ e. omega arith)
    (λ e. of_four (suc i) address later)

-- Operands that a card's event lacks make no difference to it.
read_alone : (c : Chip) (r d : ℕ) → stepped c (event kinds.begin_read r d) ≡ stepped c (event kinds.begin_read r 0)
unfolding card.step_of
read_alone c r d = ((facts c).ignored r d).begin_read

end_alone : (c : Chip) (d : ℕ) → stepped c (event kinds.end_cycle 0 d) ≡ stepped c (event kinds.end_cycle 0 0)
unfolding card.step_of
end_alone c d = ((facts c).ignored 0 d).end_cycle

-- What holds of a card's event holds of another that is the same to it.
renamed : {r : Rack} {given : Given Rack} {i : ℕ} {own own' : Event} {b b' : Bus} → Follows r given (to_card i own) b
    → stepped (chip_at r i) own ≡ stepped (chip_at r i) own' → b ≡ b' → Follows r given (to_card i own') b'
renamed {r} {given} {i} {own} {own'} f same bus = record {
  reached = record {
    place = f.reached.place;
    accepted = f.reached.accepted;
    accepted_there = ap (λ (s : Given Chip). s.number) (sym same) ∙ f.reached.accepted_there;
    byte = f.reached.byte ∙ ap (λ (s : Given Chip). s.byte) same;
    changed = f.reached.changed ∙ ap (λ (s : Given Chip). s.state) same;
    others = f.reached.others;
  };
  bus = f.bus ∙ bus;
  bases = f.bases;
  whole = f.whole;
}

module _ (count : ℕ) (bases : List ℕ) (cores : List Core) where
  -- What is refused reaches nobody.
  pub refused_follows : (ph : Phase) → Whole (rack_in count bases cores ph) → (k d : ℕ) (t : Option Target) → InRack t → ¬ (number_for ph k t ≡ 0)
      → Follows (rack_in count bases cores ph) (step_at (rack_in count bases cores ph) t k d) nobody (bus_of ph)
  refused_follows ph whole k d t inside n = rw (refused_at count bases cores ph k d t inside n) record {
    reached = record { refused = n; unchanged = refl; byte = refl };
    bus = refl;
    bases = refl;
    whole = whole;
  }

  -- The beginning of a read, on a free bus at a register that can be read or that cannot.
  read_begins_lem : (whole : Whole (rack_in count bases cores Idle)) (d x i r : ℕ) → i < most_cards → (t : Bool) → ltb r 3 ≡ t
      → Follows (rack_in count bases cores Idle) (step_at (rack_in count bases cores Idle) (Some (i, r)) kinds.begin_read d)
      (cond t (to_card i (event kinds.begin_read r 0)) nobody) (bus_after free (read_at x) (cond t (to_card i (event kinds.begin_read r 0)) nobody))
  read_begins_lem whole d x i r h true e =
      let accepted = accepted_number card_edition Idle kinds.begin_read r d (rw e) in
      let follows = card_follows count bases cores Idle whole i r d kinds.begin_read h (λ n. omega (arith, n)) accepted in
      renamed follows (read_alone (chip_at (rack_in count bases cores Idle) i) r d) (ap taken_by (place_numbered i r h))
  read_begins_lem whole d x i r h false e =
      refused_follows Idle whole kinds.begin_read d (Some (i, r)) h (row_refuses (card.limits card_edition) Idle kinds.begin_read r 2 (rw e))

  pub read_follows : (ph : Phase) → Whole (rack_in count bases cores ph) → (d x : ℕ) (t : Option Target) → InRack t
      → Follows (rack_in count bases cores ph) (step_at (rack_in count bases cores ph) t kinds.begin_read d) (read_reaches (bus_of ph) (as_found t))
      (bus_after (bus_of ph) (read_at x) (read_reaches (bus_of ph) (as_found t)))
  read_follows ph whole d x None inside = refused_follows ph whole kinds.begin_read d None inside (λ n. omega (arith, n))
  read_follows Idle whole d x (Some t) inside = read_begins_lem whole d x t.0 t.1 inside (ltb t.1 3) refl
  read_follows (Reading y) whole d x (Some t) inside =
      refused_follows (Reading y) whole kinds.begin_read d (Some t) inside (row_refuses (card.limits card_edition) (Reading y) kinds.begin_read t.1 3 refl)
  read_follows (Writing y b) whole d x (Some t) inside =
      refused_follows (Writing y b) whole kinds.begin_read d (Some t) inside (row_refuses (card.limits card_edition) (Writing y b) kinds.begin_read t.1 3 refl)

  -- That of a write, which is at one of the four registers.
  pub write_follows : (ph : Phase) → Whole (rack_in count bases cores ph) → (d x : ℕ) (t : Option Target) → InRack t → OfFour t
      → Follows (rack_in count bases cores ph) (step_at (rack_in count bases cores ph) t kinds.begin_write d) (write_reaches (bus_of ph) (as_found t) d)
      (bus_after (bus_of ph) (write_at x d) (write_reaches (bus_of ph) (as_found t) d))
  write_follows ph whole d x None inside four = refused_follows ph whole kinds.begin_write d None inside (λ n. omega (arith, n))
  write_follows Idle whole d x (Some t) inside four =
      let i = t.0 in
      let r = t.1 in
      let accepted = accepted_number card_edition Idle kinds.begin_write r d (rw (lt-ltb r 4 four)) in
      let follows = card_follows count bases cores Idle whole i r d kinds.begin_write inside (λ n. omega (arith, n)) accepted in
      renamed follows refl (ap taken_by (place_numbered i r inside))
  write_follows (Reading y) whole d x (Some t) inside four =
      refused_follows (Reading y) whole kinds.begin_write d (Some t) inside (row_refuses (card.limits card_edition) (Reading y) kinds.begin_write t.1 3 refl)
  write_follows (Writing y b) whole d x (Some t) inside four =
      refused_follows (Writing y b) whole kinds.begin_write d (Some t) inside (row_refuses (card.limits card_edition) (Writing y b) kinds.begin_write t.1 3 refl)

  -- The end of a cycle, of which the event names no card.
  pub end_follows : (ph : Phase) → Whole (rack_in count bases cores ph) → (d : ℕ)
      → Follows (rack_in count bases cores ph) (step_at (rack_in count bases cores ph) (Some (0, 0)) kinds.end_cycle d) (end_reaches (bus_of ph))
      (bus_after (bus_of ph) cycle_ended (end_reaches (bus_of ph)))
  end_follows Idle whole d = refused_follows Idle whole kinds.end_cycle d (Some (0, 0)) (omega arith) (row_refuses (card.limits card_edition) Idle kinds.end_cycle 0 4 refl)
  end_follows (Reading y) whole d =
      let accepted = accepted_number card_edition (Reading y) kinds.end_cycle 0 d refl in
      let follows = card_follows count bases cores (Reading y) whole 0 0 d kinds.end_cycle (omega arith) (λ n. omega (arith, n)) accepted in
      renamed follows (end_alone (chip_at (rack_in count bases cores (Reading y)) (place_of y)) d) refl
  end_follows (Writing y b) whole d =
      let accepted = accepted_number card_edition (Writing y b) kinds.end_cycle 0 d refl in
      let follows = card_follows count bases cores (Writing y b) whole 0 0 d kinds.end_cycle (omega arith) (λ n. omega (arith, n)) accepted in
      renamed follows (end_alone (chip_at (rack_in count bases cores (Writing y b)) (place_of y)) d) refl

  -- Levels, on a port or on none.
  pub levels_on_lem : (ph : Phase) → Whole (rack_in count bases cores ph) → (x y d : ℕ) → x < most_cards → (t : Bool) → ltb y 3 ≡ t
      → Follows (rack_in count bases cores ph) (step_at (rack_in count bases cores ph) (Some (x, y)) kinds.outside_levels d)
      (cond t (to_card x (event kinds.outside_levels y d)) nobody)
      (bus_after (bus_of ph) (levels_on x y d) (cond t (to_card x (event kinds.outside_levels y d)) nobody))
  levels_on_lem ph whole x y d h true e =
      card_follows count bases cores ph whole x y d kinds.outside_levels h (λ n. omega (arith, n)) (accepted_number card_edition ph kinds.outside_levels y d e)
  levels_on_lem ph whole x y d h false e =
      refused_follows ph whole kinds.outside_levels d (Some (x, y)) h (row_refuses (card.limits card_edition) ph kinds.outside_levels y 1 (rw e))
