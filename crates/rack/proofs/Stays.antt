-- An event leaves a rack its cards: how many there are, and their bases.
-- Rests on the bus's ByKind, Outcomes and Numbering.
use Rattle.std.proofs.Common.{◌≡◌, refl, ℕ, Option, Some, None}
use Rattle.bus.proofs.ByKind.{by_kind}
use Rattle.bus.specs.Refusals.{number_of}
use Rattle.bus.specs.Device.{after_in}
use Rattle.bus.proofs.Outcomes.{either}
use Rattle.bus.proofs.Numbering.{row_refuses}
use Rattle.rack.specs.declared.Rack.{Rack}
use Rattle.rack.specs.State.{number_at}
use Rattle.rack.specs.Targets.{Target, target_of}
use Rattle.rack.specs.Step.{limits, device, byte_of, step_at, step_of}

abbrev pub SameCards : Rack → Rack → Type 0
SameCards r s = (s.count ≡ r.count) × (s.bases ≡ r.bases)

accepted_stays : (r : Rack) (x d k : ℕ) → number_of limits r.phase k x ≡ 0 → SameCards r (after_in device r k x d)
accepted_stays r x d =
    by_kind (λ k. number_of limits r.phase k x ≡ 0 → SameCards r (after_in device r k x d))
    (λ e. (refl, refl)) (λ e. (refl, refl)) (λ e. (refl, refl)) (λ e. (refl, refl)) (λ e. (refl, refl))
    (λ k none e. absurd (row_refuses limits r.phase k x 0 none e))

pub target_stays : (r : Rack) (t : Option Target) (k d : ℕ) → SameCards r (step_at r t k d).state
target_stays r None k d = (refl, refl)
target_stays r (Some t) k d =
    let x = number_at t.0 t.1 in
    either device r k x d (SameCards r) (refl, refl) (accepted_stays r x d k)

pub cards_stay : (r : Rack) (k x y z : ℕ) → SameCards r (step_of r k x y z).state
unfolding step_of
cards_stay r k x y z = target_stays r (target_of r.count r.bases k x y) k (byte_of k y z)
