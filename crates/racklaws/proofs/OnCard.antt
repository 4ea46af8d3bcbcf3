-- An accepted event that is no reset: what it makes of the rack is what one card, as a chip alone, makes of it.
-- Rests on the bus's ByKind, Outcomes and Numbering, and on the chip's Outcome.
use Rattle.std.proofs.Common.{◌≡◌, refl, sym, ◌∙◌, Bool, true, false, cond, List, ℕ, ◌<◌, ◌*◌, arith, eqb, ltb, set, ltb-true, ltb-false, lt-ltb, le-ltb, eq-eqb}
use lib.Seq.{set-get_or}
use Rattle.bus.specs.Kinds as kinds
use Rattle.bus.specs.Kinds.{begins}
use Rattle.bus.proofs.ByKind.{by_kind}
use Rattle.bus.specs.declared.Phase.{Phase}
use Rattle.bus.specs.declared.Phase.TheVariants.{Idle, Reading, Writing}
use Rattle.bus.specs.declared.Limits.{Limits}
use Rattle.bus.specs.Refusals.{is_busy, number_of}
use Rattle.bus.specs.Device.{Given, gives, after_in, byte_in, step_in}
use Rattle.bus.specs.Cycles.{phase_after}
use Rattle.bus.proofs.Outcomes as bus
use Rattle.bus.proofs.Numbering.{row_refuses}
use Rattle.chip.specs.declared.Core.{Core}
use Rattle.chip.specs.Step as card
use Rattle.chip.proofs.Outcome.{step_accepts}
use Rattle.rack.specs.declared.Rack.{Rack}
use Rattle.rack.specs.Bases.{most_cards}
use Rattle.rack.specs.State.{number_at, place_of, register_of, seen_at, no_core, card_edition, chip_at}
use Rattle.rack.specs.Step.{limits, runs_at, device}

-- The number of a register at one of the eight places says which they are.
pub place_numbered : (i r : ℕ) → i < most_cards → place_of (number_at i r) ≡ i
place_numbered i r h = omega (arith, h)

pub register_numbered : (i r : ℕ) → i < most_cards → register_of (number_at i r) ≡ r
register_numbered i r h = omega (arith, h)

-- It is below eight times a limit where the register is below that limit.
eightfold : (i r n : ℕ) → i < most_cards → ltb (number_at i r) (most_cards * n) ≡ ltb r n
eightfold i r n h = go (ltb r n) refl
  where
    go : (t : Bool) → ltb r n ≡ t → ltb (number_at i r) (most_cards * n) ≡ ltb r n
    go true e = lt-ltb (number_at i r) (most_cards * n) (omega (arith, h, ltb-true r n e)) ∙ sym e
    go false e = le-ltb (number_at i r) (most_cards * n) (omega (arith, ltb-false r n e)) ∙ sym e

-- So the table says of it what it says of the register on a chip alone.
pub same_number : (i r : ℕ) → i < most_cards → (ph : Phase) (k : ℕ) → number_of limits ph k (number_at i r) ≡ number_of (card.limits card_edition) ph k r
unfolding number_of
same_number i r h ph k = rw (eightfold i r 4 h, eightfold i r 3 h)

-- Of the phase the table asks no more than whether a cycle runs; of levels not even that.
by_busy : (l : Limits) (ph ph' : Phase) (k x : ℕ) → is_busy ph ≡ is_busy ph' → number_of l ph k x ≡ number_of l ph' k x
unfolding number_of
by_busy l ph ph' k x e = rw e

levels_anyway : (l : Limits) (ph ph' : Phase) (x : ℕ) → number_of l ph kinds.outside_levels x ≡ number_of l ph' kinds.outside_levels x
unfolding number_of
levels_anyway l ph ph' x = refl

-- The card on which a cycle runs sees one run.
sees_own : (ph : Phase) → is_busy (seen_at (runs_at ph) ph) ≡ is_busy ph
sees_own Idle = refl
sees_own (Reading x) = rw (eq-eqb (place_of x) (place_of x) refl)
sees_own (Writing x d) = rw (eq-eqb (place_of x) (place_of x) refl)

-- The place that an event of kind k reaches, where it is for the card at a place: an end goes to the card on which the cycle runs.
abbrev pub reached_by : Phase → ℕ → ℕ → ℕ
reached_by ph k place = cond (eqb k kinds.end_cycle) (runs_at ph) place

-- What the rack accepts, the card that it reaches accepts too.
begins_there : (ph : Phase) (k r : ℕ) → begins k ≡ true → (i : ℕ) → number_of (card.limits card_edition) ph k r ≡ 0 → number_of (card.limits card_edition) (seen_at i ph) k r ≡ 0
begins_there Idle k r b i e = e
begins_there (Reading x) k r b i e = absurd (row_refuses (card.limits card_edition) (Reading x) k r 3 (rw b) e)
begins_there (Writing x d) k r b i e = absurd (row_refuses (card.limits card_edition) (Writing x d) k r 3 (rw b) e)

pub accepted_there_lem : (ph : Phase) (i r k : ℕ) → ¬ (k ≡ 0) → number_of (card.limits card_edition) ph k r ≡ 0
    → number_of (card.limits card_edition) (seen_at (reached_by ph k i) ph) k r ≡ 0
accepted_there_lem ph i r =
    by_kind (λ k. ¬ (k ≡ 0) → number_of (card.limits card_edition) ph k r ≡ 0 → number_of (card.limits card_edition) (seen_at (reached_by ph k i) ph) k r ≡ 0)
    (λ n. absurd (n refl))
    (λ n. begins_there ph kinds.begin_read r refl i)
    (λ n e. by_busy (card.limits card_edition) (seen_at (runs_at ph) ph) ph kinds.end_cycle r (sees_own ph) ∙ e)
    (λ n. begins_there ph kinds.begin_write r refl i)
    (λ n e. levels_anyway (card.limits card_edition) (seen_at i ph) ph r ∙ e)
    (λ k none n e. absurd (row_refuses (card.limits card_edition) ph k r 0 none e))

-- An event reaches one of the eight places.
pub reached_below : (ph : Phase) (k i : ℕ) → i < most_cards → reached_by ph k i < most_cards
reached_below ph k i h = go (eqb k kinds.end_cycle)
  where
    run : (p : Phase) → runs_at p < most_cards
    run Idle = omega arith
    run (Reading x) = omega arith
    run (Writing x d) = omega arith

    go : (t : Bool) → cond t (runs_at ph) i < most_cards
    go true = run ph
    go false = h

-- A rack by its parts.
abbrev pub rack_in : ℕ → List ℕ → List Core → Phase → Rack
rack_in count bases cores ph = record { phase = ph; count = count; bases = bases; cores = cores }

module _ (count : ℕ) (bases : List ℕ) (cores : List Core) (i r d : ℕ) (h : i < most_cards) where
  -- The card that the event reaches steps as a chip alone.
  abbrev pub card_stepped : Phase → ℕ → Given Rack
  card_stepped ph k =
      let j = reached_by ph k i in
      let after = card.step_of (chip_at (rack_in count bases cores ph) j) k r d in
      gives (record { phase = phase_after ph k (number_at i r) d; count = count; bases = bases; cores = set cores j after.state.core }) 0 after.byte

  abbrev pub accepted : (ph : Phase) (k : ℕ) → Type 0
  accepted ph k = number_of (card.limits card_edition) ph k r ≡ 0 → step_in device (rack_in count bases cores ph) k (number_at i r) d ≡ card_stepped ph k

  -- Kind by kind, with what the card makes of it.
  module _ (ph : Phase) where
    there : (k : ℕ) → ¬ (k ≡ 0) → number_of (card.limits card_edition) ph k r ≡ 0
        → card.step_of (chip_at (rack_in count bases cores ph) (reached_by ph k i)) k r d
        ≡ card.accepted (after_in card.device (chip_at (rack_in count bases cores ph) (reached_by ph k i)) k r d)
        (byte_in card.device (chip_at (rack_in count bases cores ph) (reached_by ph k i)) k r)
    unfolding chip_at
    there k n e = step_accepts (chip_at (rack_in count bases cores ph) (reached_by ph k i)) k r d (accepted_there_lem ph i r k n e)

    whole : (k : ℕ) → number_of (card.limits card_edition) ph k r ≡ 0
        → step_in device (rack_in count bases cores ph) k (number_at i r) d
        ≡ gives (after_in device (rack_in count bases cores ph) k (number_at i r) d) 0 (byte_in device (rack_in count bases cores ph) k (number_at i r))
    whole k e = bus.accepts device (rack_in count bases cores ph) k (number_at i r) d (same_number i r h ph k ∙ e)

    begun : ¬ (kinds.begin_read ≡ 0) → accepted ph kinds.begin_read
    unfolding chip_at
    begun n e = rw (whole kinds.begin_read e, there kinds.begin_read n e, place_numbered i r h, register_numbered i r h)

    ended : ¬ (kinds.end_cycle ≡ 0) → accepted ph kinds.end_cycle
    unfolding chip_at
    ended n e = rw (whole kinds.end_cycle e, there kinds.end_cycle n e)

    written : ¬ (kinds.begin_write ≡ 0) → accepted ph kinds.begin_write
    unfolding chip_at
    written n e = rw (whole kinds.begin_write e, there kinds.begin_write n e, set-get_or cores i no_core)

    levelled : ¬ (kinds.outside_levels ≡ 0) → accepted ph kinds.outside_levels
    unfolding chip_at
    levelled n e = rw (whole kinds.outside_levels e, there kinds.outside_levels n e, place_numbered i r h, register_numbered i r h)

    pub one_card_lem : (k : ℕ) → ¬ (k ≡ 0) → accepted ph k
    one_card_lem =
        by_kind (λ k. ¬ (k ≡ 0) → accepted ph k)
        (λ n. absurd (n refl))
        begun ended written levelled
        (λ k none n e. absurd (row_refuses (card.limits card_edition) ph k r 0 none e))
