-- The phase of any device goes by the events alone: after any history it is what its limits and the events say.
-- Rests on Outcomes and ByKind.
use Rattle.std.proofs.Common.{◌≡◌, ◌∙◌, refl, ap, Bool, true, false, cond, not, ◌&&◌, ◌||◌, List, [], ◌∷◌, ℕ, eqb, ltb, ne_eqb}
use mathlib.Core.Bool.{or-false}
use Rattle.bus.specs.Kinds.{is_kind}
use Rattle.bus.specs.Event.{Event}
use Rattle.bus.proofs.ByKind.{by_kind, no_kind_differs}
use Rattle.bus.specs.declared.Phase.{Phase}
use Rattle.bus.specs.declared.Phase.TheVariants.{Idle, Reading, Writing}
use Rattle.bus.specs.declared.Limits.{Limits}
use Rattle.bus.specs.Refusals.{is_busy, number_of}
use Rattle.bus.specs.Device.{Device, Given, number_in, reset_in, read_begun_in, cycle_ended_in, write_begun_in, levels_put_in, after_in, step_in, run_in}
use Rattle.bus.specs.Cycles.{is_accepted, phase_after, phase_over}
use Rattle.bus.proofs.Outcomes.{outcomes, either}

-- What is accepted in those words has the number 0 by the table, and nothing else has.
pub reads_accept : (there readable busy : Bool) → (there && (readable && not busy)) ≡ eqb (cond (not there || false) 2 (cond (not readable) 3 (cond busy 4 0))) 0
reads_accept false readable busy = refl
reads_accept true false busy = refl
reads_accept true true false = refl
reads_accept true true true = refl

pub writes_accept : (there busy : Bool) → (there && not busy) ≡ eqb (cond (not there || false) 2 (cond busy 4 0)) 0
writes_accept false busy = refl
writes_accept true false = refl
writes_accept true true = refl

pub levels_accept : (there : Bool) → there ≡ eqb (cond (not there) 2 0) 0
levels_accept false = refl
levels_accept true = refl

ends_accept : (busy : Bool) → (busy || false) ≡ eqb (cond (not busy) 5 0) 0
ends_accept false = refl
ends_accept true = refl

accepted_so : (l : Limits) (ph : Phase) (k x : ℕ) → is_accepted l ph k x ≡ eqb (number_of l ph k x) 0
unfolding number_of is_kind
accepted_so l ph k x =
    by_kind (λ k. is_accepted l ph k x ≡ eqb (number_of l ph k x) 0)
    refl
    (rw (or-false _) (reads_accept (ltb x l.addresses) (ltb x l.readable) (is_busy ph)))
    (ends_accept (is_busy ph))
    (rw (or-false _) (writes_accept (ltb x l.addresses) (is_busy ph)))
    (levels_accept (ltb x l.ports))
    (λ k none. rw (
      no_kind_differs k 0 none refl,
      no_kind_differs k 1 none refl,
      no_kind_differs k 2 none refl,
      no_kind_differs k 3 none refl,
      no_kind_differs k 5 none refl,
    ))
    k

module _ {S R : Type 0} (dev : Device S R) where
  -- After an accepted event.
  pub phase_goes : (s : S) (k x d : ℕ) → dev.phase (after_in dev s k x d) ≡ phase_after (dev.phase s) k x d
  phase_goes s k x d = go (eqb k 0) (eqb k 1) (eqb k 2) (eqb k 3)
    where
      go : (r b e w : Bool)
          → dev.phase (cond r (reset_in dev s) (cond b (read_begun_in dev s x) (cond e (cycle_ended_in dev s) (cond w (write_begun_in dev s x d) (levels_put_in dev s x d)))))
          ≡ cond r Idle (cond b (Reading x) (cond e Idle (cond w (Writing x d) (dev.phase s))))
      go true b e w = dev.phase_on Idle (dev.after_reset (dev.rest s))
      go false true e w = dev.phase_on (Reading x) (dev.after_begin (dev.rest s) x)
      go false false true w = dev.phase_on Idle (dev.after_end (dev.rest s) (dev.phase s))
      go false false false true = dev.phase_on (Writing x d) (dev.rest s)
      go false false false false = dev.phase_on (dev.phase s) (dev.after_levels (dev.rest s) x d)

  -- An accepted event leaves the limits, and so does every event.
  limits_after : (s : S) (k x d : ℕ) → dev.limits (dev.rest (after_in dev s k x d)) ≡ dev.limits (dev.rest s)
  limits_after s k x d = go (eqb k 0) (eqb k 1) (eqb k 2) (eqb k 3)
    where
      on : (ph : Phase) (r : R) → dev.limits r ≡ dev.limits (dev.rest s) → dev.limits (dev.rest (dev.on ph r)) ≡ dev.limits (dev.rest s)
      on ph r same = ap dev.limits (dev.rest_on ph r) ∙ same

      go : (r b e w : Bool)
          → dev.limits (dev.rest (cond r (reset_in dev s) (cond b (read_begun_in dev s x) (cond e (cycle_ended_in dev s) (cond w (write_begun_in dev s x d) (levels_put_in dev s x d))))))
          ≡ dev.limits (dev.rest s)
      go true b e w = on Idle _ (dev.reset_limits (dev.rest s))
      go false true e w = on (Reading x) _ (dev.begin_limits (dev.rest s) x)
      go false false true w = on Idle _ (dev.end_limits (dev.rest s) (dev.phase s))
      go false false false true = on (Writing x d) _ refl
      go false false false false = on (dev.phase s) _ (dev.levels_limits (dev.rest s) x d)

  pub limits_stay : (s : S) (k x d : ℕ) → dev.limits (dev.rest (step_in dev s k x d).state) ≡ dev.limits (dev.rest s)
  limits_stay s k x d = either dev s k x d (λ (s' : S). dev.limits (dev.rest s') ≡ dev.limits (dev.rest s)) refl (λ ok. limits_after s k x d)

  -- After any event.
  pub phase_next : (l : Limits) (s : S) (k x d : ℕ) → dev.limits (dev.rest s) ≡ l
      → dev.phase (step_in dev s k x d).state ≡ cond (is_accepted l (dev.phase s) k x) (phase_after (dev.phase s) k x d) (dev.phase s)
  phase_next l s k x d same =
      rw (accepted_so l (dev.phase s) k x, ← same)
      (outcomes dev s k x d (λ (o : Given S). dev.phase o.state ≡ cond (eqb (number_in dev s k x) 0) (phase_after (dev.phase s) k x d) (dev.phase s))
      (λ no. rw (ne_eqb _ _ no))
      (λ ok. rw (ok) (phase_goes s k x d)))

  -- After any history, from any state.
  pub phase_by_events_lem : (l : Limits) (s : S) (es : List Event) → dev.limits (dev.rest s) ≡ l → dev.phase (run_in dev s es) ≡ phase_over l (dev.phase s) es
  phase_by_events_lem l s [] same = refl
  phase_by_events_lem l s (e ∷ es) same =
      let next = (step_in dev s e.kind e.first e.second).state in
      phase_by_events_lem l next es (limits_stay s e.kind e.first e.second ∙ same)
      ∙ ap (λ (ph : Phase). phase_over l ph es) (phase_next l s e.kind e.first e.second same)
