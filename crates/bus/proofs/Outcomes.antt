-- The two outcomes of an event on any device: accepted where its number is 0, and otherwise refused, which changes nothing.
-- Rests on nothing.
use Rattle.std.proofs.Common.{◌≡◌, ◌∙◌, refl, sym, subst, Bool, true, false, ℕ, eqb, eqb-true, ne_eqb}
use borrow.Author.Tests.{eqb-false}
use Rattle.bus.specs.Device.{Device, Given, gives, number_in, after_in, byte_in, step_in}
use Rattle.bus.specs.Cycles.{refused_in}

module _ {S R : Type 0} (dev : Device S R) (s : S) (k x d : ℕ) where
  pub accepts : number_in dev s k x ≡ 0 → step_in dev s k x d ≡ gives (after_in dev s k x d) 0 (byte_in dev s k x)
  unfolding step_in
  accepts e = rw (e)

  pub refuses : ¬ (number_in dev s k x ≡ 0) → step_in dev s k x d ≡ refused_in s (number_in dev s k x)
  unfolding step_in
  refuses h = rw (ne_eqb _ _ h)

  -- What holds of a refusal, where the number is not 0, and of what is accepted, where it is, holds of the outcome.
  pub outcomes : (P : Given S → Type 0) → (¬ (number_in dev s k x ≡ 0) → P (refused_in s (number_in dev s k x)))
      → (number_in dev s k x ≡ 0 → P (gives (after_in dev s k x d) 0 (byte_in dev s k x))) → P (step_in dev s k x d)
  outcomes P refused accepted = go (eqb (number_in dev s k x) 0) refl
    where
      go : (b : Bool) → eqb (number_in dev s k x) 0 ≡ b → P (step_in dev s k x d)
      go true e = let z = eqb-true _ _ e in subst P (sym (accepts z)) (accepted z)
      go false e = let h = eqb-false _ _ e in subst P (sym (refuses h)) (refused h)

  -- The number that the step gives is the table's.
  pub number_given : (step_in dev s k x d).number ≡ number_in dev s k x
  number_given = outcomes (λ (o : Given S). o.number ≡ number_in dev s k x) (λ h. refl) (λ z. sym z)

  -- What holds of the state before, and of the state after where the event is accepted, holds after the step.
  pub either : (P : S → Type 0) → P s → (number_in dev s k x ≡ 0 → P (after_in dev s k x d)) → P (step_in dev s k x d).state
  either P before after = outcomes (λ (o : Given S). P o.state) (λ h. before) after

  -- A refusal leaves the state as it was, and its byte is 00.
  pub refusal_changes_nothing : ¬ ((step_in dev s k x d).number ≡ 0) → step_in dev s k x d ≡ refused_in s (number_in dev s k x)
  refusal_changes_nothing h = refuses (λ e. h (number_given ∙ e))
