-- An event is accepted in the history's words exactly where its number is 0, and then the chip is what the step makes of it.
-- Rests on bits' Logic, the bus's ByKind and Phases, and chip's Outcome.
use Rattle.std.proofs.Common.{◌≡◌, ◌∙◌, refl, ap, sym, Bool, true, false, not, cond, ◌&&◌, ◌||◌, ℕ, arith, eqb, ltb, ltb-true, lt-ltb, eqb-true, eq-eqb, ◌↔◌}
use borrow.Author.Tests.{eqb-false}
use Rattle.bits.proofs.Logic.{contrary}
use Rattle.bus.specs.Kinds.{is_kind, no_kind}
use Rattle.bus.proofs.ByKind.{by_kind, no_row}
use Rattle.bus.proofs.Phases.{reads_accept, writes_accept, levels_accept}
use Rattle.bus.specs.Event.{Event, event}
use Rattle.bus.specs.Device.{Given, after_in, byte_in}
use Rattle.bus.specs.Refusals.{is_busy, number_of}
use Rattle.bus.specs.declared.Phase.{Phase}
use Rattle.bus.specs.declared.Phase.TheVariants.{Idle, Reading, Writing}
use Rattle.chip.specs.declared.Edition.{Edition}
use Rattle.chip.specs.declared.Edition.TheVariants.{Older, Newer}
use Rattle.chip.specs.declared.Chip.{Chip}
use Rattle.chip.specs.Step.{readable, limits, device, accepted, refused, stepped}
use Rattle.chip.proofs.Outcome.{step_accepts, step_refuses, step_number}
use Rattle.fates.specs.Kinds.{unknown, kind_of, free, readable_at, accepts}

-- The bus is free where no cycle runs.
free_is : (ph : Phase) → free ph ≡ not (is_busy ph)
free_is Idle = refl
free_is (Reading p) = refl
free_is (Writing a d) = refl

-- Whether there is such a place need not be asked of one that can be read.
asked_too : (can there free : Bool) → (can ≡ true → there ≡ true) → (can && free) ≡ (there && (can && free))
asked_too true true free among = refl
asked_too true false free among = absurd (contrary false refl (among refl))
asked_too false true free among = refl
asked_too false false free among = refl

begin_accepts : (ed : Edition) (ph : Phase) (x : ℕ)
    → (readable_at ed x && free ph) ≡ eqb (cond (not (ltb x 4) || false) 2 (cond (not (ltb x (readable ed))) 3 (cond (is_busy ph) 4 0))) 0
begin_accepts Older ph x =
    rw (free_is ph) (asked_too (ltb x 3) (ltb x 4) (not (is_busy ph)) (λ can. let low = ltb-true x 3 can in lt-ltb x 4 (omega (arith, low)))
    ∙ reads_accept (ltb x 4) (ltb x 3) (is_busy ph))
begin_accepts Newer ph x =
    rw (free_is ph) (asked_too (ltb x 4) (ltb x 4) (not (is_busy ph)) (λ can. can) ∙ reads_accept (ltb x 4) (ltb x 4) (is_busy ph))

end_accepts : (ed : Edition) (ph : Phase) → not (free ph) ≡ eqb (number_of (limits ed) ph 2 0) 0
unfolding number_of is_kind
end_accepts ed Idle = refl
end_accepts ed (Reading p) = refl
end_accepts ed (Writing a d) = refl

-- What is no kind is named as such.
pub no_name : (k x d : ℕ) → no_kind k ≡ true → kind_of (event k x d) ≡ unknown
no_name k x d none = no_row _ _ _ _ unknown _ k none

accepts_number : (ed : Edition) (ph : Phase) (k x d : ℕ) → accepts ed ph (kind_of (event k x d)) ≡ eqb (number_of (limits ed) ph k x) 0
unfolding number_of is_kind
accepts_number ed ph k x d =
    by_kind (λ k. accepts ed ph (kind_of (event k x d)) ≡ eqb (number_of (limits ed) ph k x) 0)
    refl
    (begin_accepts ed ph x)
    (end_accepts ed ph)
    (rw (free_is ph) (writes_accept (ltb x 4) (is_busy ph)))
    (levels_accept (ltb x 3))
    (λ k none. rw (no_name k x d none, none))
    k

-- What is no kind is not accepted.
pub no_kind_accepted : (ed : Edition) (ph : Phase) (k x d : ℕ) → no_kind k ≡ true → accepts ed ph (kind_of (event k x d)) ≡ true → ⊥
no_kind_accepted ed ph k x d none ok = contrary _ (ap (accepts ed ph) (no_name k x d none)) ok

-- The number of an accepted event is 0.
pub accepted_number : (ed : Edition) (ph : Phase) (k x d : ℕ) → accepts ed ph (kind_of (event k x d)) ≡ true → number_of (limits ed) ph k x ≡ 0
accepted_number ed ph k x d ok = eqb-true _ _ (sym (accepts_number ed ph k x d) ∙ ok)

-- An event has the number 0 exactly where it is accepted.
pub zero_accepted : (c : Chip) (e : Event) → ((stepped c e).number ≡ 0) ↔ (accepts c.edition c.phase (kind_of e) ≡ true)
zero_accepted c e =
    let number = step_number c e.kind e.first e.second in
    let same = accepts_number c.edition c.phase e.kind e.first e.second in
    (λ zeroed. same ∙ eq-eqb _ 0 (sym number ∙ zeroed), λ ok. number ∙ eqb-true _ 0 (sym same ∙ ok))

-- What holds of the result of an accepted event, and of a refusal where the event is refused, holds of any event's.
pub by_result : (P : Given Chip → Bool → Type 0) (c : Chip) (e : Event)
    → (accepts c.edition c.phase (kind_of e) ≡ true → P (accepted (after_in device c e.kind e.first e.second) (byte_in device c e.kind e.first)) true)
    → ((n : ℕ) → P (refused c n) false) → P (stepped c e) (accepts c.edition c.phase (kind_of e))
by_result P c e taken left = go (accepts c.edition c.phase (kind_of e)) refl
  where
    go : (b : Bool) → accepts c.edition c.phase (kind_of e) ≡ b → P (stepped c e) b
    go true ok = rw (step_accepts c e.kind e.first e.second (accepted_number c.edition c.phase e.kind e.first e.second ok)) (taken ok)
    go false ok =
        let number = accepts_number c.edition c.phase e.kind e.first e.second in
        rw (step_refuses c e.kind e.first e.second (eqb-false _ _ (sym number ∙ ok))) (left (number_of (limits c.edition) c.phase e.kind e.first))

-- So it is with the chip that is left.
pub by_outcome : (P : Chip → Bool → Type 0) (c : Chip) (e : Event)
    → (accepts c.edition c.phase (kind_of e) ≡ true → P (after_in device c e.kind e.first e.second) true) → P c false
    → P (stepped c e).state (accepts c.edition c.phase (kind_of e))
by_outcome P c e taken left = by_result (λ r ok. P r.state ok) c e taken (λ n. left)
