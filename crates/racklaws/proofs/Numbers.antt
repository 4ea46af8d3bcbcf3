-- The number of every event of a rack is that of the first refusal of the table that applies.
-- Rests on Seek, Inside, OnCard, Targets, AllCards, Accesses and Followed, and on the bus's ByKind and Outcomes.
use Rattle.std.proofs.Common.{◌≡◌, refl, sym, ◌∙◌, Bool, true, false, cond, not, List, ℕ, zero, suc, ◌<◌, arith, eqb, ltb, lt-ltb, Option, Some, None}
use Rattle.bus.specs.Kinds as kinds
use Rattle.bus.specs.Kinds.{is_kind, no_kind}
use Rattle.bus.proofs.ByKind.{by_kind, no_kind_differs, no_row}
use Rattle.bus.specs.declared.Phase.{Phase}
use Rattle.bus.specs.declared.Phase.TheVariants.{Idle, Reading, Writing}
use Rattle.bus.specs.Refusals.{is_busy, number_of}
use Rattle.bus.proofs.Outcomes.{number_given}
use Rattle.chip.specs.Step as card
use Rattle.rack.specs.declared.Rack.{Rack}
use Rattle.rack.specs.State.{number_at, card_edition}
use Rattle.rack.specs.Targets.{Target, target_from, is_place, target_at, target_of}
use Rattle.rack.specs.Step.{device, byte_of, step_at, step_of}
use Rattle.racklaws.proofs.OnCard.{same_number}
use Rattle.racklaws.proofs.Targets.{number_for}
use Rattle.racklaws.proofs.Inside.{InRack, target_inside}
use Rattle.racklaws.specs.Whom.{RackEvent, rack_event, reset, cycle_ended, unknown, read_at, write_at, levels_on, access_of}
use Rattle.racklaws.specs.Promise.{rack_stepped, Whole, bus_of, bases_of}
use Rattle.racklaws.specs.Table.{is_taken, is_none, is_control, number_by}
use Rattle.racklaws.proofs.Seek.{as_found, sought}
use Rattle.racklaws.proofs.AllCards.{always}
use Rattle.racklaws.proofs.Accesses.{OfFour, of_four}
use Rattle.racklaws.proofs.Followed.{placed}

-- The step's number is the target's.
number_at_lem : (r : Rack) (t : Option Target) → InRack t → (k d : ℕ) → (step_at r t k d).number ≡ number_for r.phase k t
number_at_lem r None inside k d = refl
number_at_lem r (Some t) inside k d =
    number_given device r k (number_at t.0 t.1) d ∙ same_number t.0 t.1 inside r.phase k

-- A cycle runs in both words.
taken : (ph : Phase) → is_taken (bus_of ph) ≡ is_busy ph
taken Idle = refl
taken (Reading x) = refl
taken (Writing x d) = refl

-- Of four registers the last is control.
control : (r : ℕ) → r < 4 → not (ltb r 3) ≡ eqb r 3
control zero h = refl
control (suc zero) h = refl
control (suc (suc zero)) h = refl
control (suc (suc (suc zero))) h = refl
control (suc (suc (suc (suc r)))) h = absurd (omega (arith, h))

module _ (ph : Phase) where
  read_number : (t : Option Target) → OfFour t
      → number_for ph kinds.begin_read t ≡ cond (is_none (as_found t)) 10 (cond (is_control (as_found t)) 3 (cond (is_taken (bus_of ph)) 4 0))
  unfolding number_of is_kind
  read_number None four = refl
  read_number (Some t) four = rw (lt-ltb t.1 4 four, control t.1 four, taken ph)

  write_number : (t : Option Target) → OfFour t → number_for ph kinds.begin_write t ≡ cond (is_none (as_found t)) 10 (cond (is_taken (bus_of ph)) 4 0)
  unfolding number_of is_kind
  write_number None four = refl
  write_number (Some t) four = rw (lt-ltb t.1 4 four, taken ph)

  end_number : number_of (card.limits card_edition) ph kinds.end_cycle 0 ≡ cond (not (is_taken (bus_of ph))) 5 0
  unfolding number_of is_kind
  end_number = rw (taken ph)

  levels_number : (x y : ℕ) (t : Bool) → number_for ph kinds.outside_levels (cond t (Some (x, y)) None) ≡ cond (not t) 10 (cond (not (ltb y 3)) 2 0)
  unfolding number_of is_kind
  levels_number x y true = refl
  levels_number x y false = refl

  unknown_number : (count : ℕ) (bases : List ℕ) (x y k : ℕ) → no_kind k ≡ true → number_for ph k (target_of count bases k x y) ≡ 1
  unfolding target_of number_of is_kind
  unknown_number count bases x y k none =
      rw (no_kind_differs k 1 none refl, no_kind_differs k 3 none refl, no_kind_differs k 5 none refl, none)

module _ (r : Rack) (whole : Whole r) (x y z : ℕ) where
  abbrev Told : ℕ → Type 0
  Told k = number_for r.phase k (target_of r.count r.bases k x y)
      ≡ number_by (bases_of r) (bus_of r.phase) (access_of (rack_event k x y z))

  told : (k : ℕ) → Told k
  unfolding target_of target_at
  told =
      by_kind Told
      (always r.phase)
      (rw (sought 0 x (bases_of r)) (read_number r.phase (target_from 0 (bases_of r) x) (of_four 0 x (bases_of r))))
      (end_number r.phase)
      (rw (sought 0 x (bases_of r)) (write_number r.phase (target_from 0 (bases_of r) x) (of_four 0 x (bases_of r))))
      (rw (sym (placed r.count r.bases whole.bases x)) (levels_number r.phase x y (is_place r.count x)))
      (λ k none. rw (no_row reset (read_at x) cycle_ended (write_at x y) unknown (levels_on x y z) k none)
      (unknown_number r.phase r.count r.bases x y k none))

-- In every rack, the number of every event.
pub numbered : (r : Rack) → Whole r → (e : RackEvent) → (rack_stepped r e).number ≡ number_by (bases_of r) (bus_of r.phase) (access_of e)
unfolding step_of
numbered r whole e =
    let t = target_of r.count r.bases e.kind e.first e.second in
    number_at_lem r t (target_inside r.count r.bases e.kind e.first e.second) e.kind (byte_of e.kind e.second e.third)
    ∙ told r whole e.first e.second e.third e.kind
