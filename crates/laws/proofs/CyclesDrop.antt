-- Which cycles drop which half of INTR, in every state: a read or a write drops its own as it begins, and no other; a cycle elsewhere leaves
-- INTR as it was ("Handshake").
-- Rests on Interrupts, Halves, and chip's Outcome.
use Rattle.std.proofs.Common.{◌≡◌, ◌∙◌, refl, ap, sym, ap₂, Bool, true, false, not, ◌&&◌, ◌||◌, ℕ}
use borrow.Author.Tests.{not-true}
use Rattle.bus.specs.Device.{Given, after_in}
use Rattle.bus.specs.Refusals.{number_of}
use Rattle.bus.specs.declared.Phase.{Phase}
use Rattle.bus.specs.declared.Phase.TheVariants.{Idle, Reading, Writing}
use Rattle.control.specs.declared.Group.{Group}
use Rattle.chip.specs.declared.channel.Side.{Side}
use Rattle.chip.specs.declared.channel.Side.TheVariants.{Input, Output}
use Rattle.chip.specs.declared.Chip.{Chip}
use Rattle.chip.specs.Handshakes.{own_address, running}
use Rattle.chip.specs.Status.{request_of, intr_of}
use Rattle.chip.specs.Step.{limits, device, step_of}
use Rattle.chip.proofs.Outcome.{step_accepts, step_number}
use Rattle.laws.specs.Halves.{spares, HalfAfter, IntrAfter}
use Rattle.laws.proofs.Interrupts.{cycle_drops_half}
use Rattle.laws.proofs.Halves.{read_leaves, write_leaves, end_leaves}

-- What a cycle does not spare is its own.
own_or_spared : (ph : Phase) (g : Group) (s : Side) → spares ph g s ≡ not (running ph g s)
own_or_spared Idle g Input = refl
own_or_spared Idle g Output = refl
own_or_spared (Reading p) g Input = refl
own_or_spared (Reading p) g Output = refl
own_or_spared (Writing a d) g Input = refl
own_or_spared (Writing a d) g Output = refl

-- One that is its own drops it as it begins.
begun_half : (c : Chip) (g : Group) (s : Side) (k x d : ℕ) (ph : Phase) → (step_of c k x d).state.phase ≡ ph
    → (running ph g s ≡ false → request_of (step_of c k x d).state g s ≡ request_of c g s)
    → request_of (step_of c k x d).state g s ≡ (spares ph g s && request_of c g s)
begun_half c g s k x d ph phase leaves = rw (own_or_spared ph g s) (go (running ph g s) refl)
  where
    go : (own : Bool) → running ph g s ≡ own → request_of (step_of c k x d).state g s ≡ (not own && request_of c g s)
    go true own = cycle_drops_half (step_of c k x d).state g s (ap (λ ph. running ph g s) phase ∙ own)
    go false none = leaves none

pub half_after : (c : Chip) (g : Group) (s : Side) (x d : ℕ) → HalfAfter c g s x d
half_after c g s x d = record {
  read_begins = λ ok. begun_half c g s 1 x d (Reading x) (accepted_phase 1 ok) (read_leaves c g s x d);
  write_begins = λ ok. begun_half c g s 3 x d (Writing x d) (accepted_phase 3 ok) (write_leaves c g s x d);
  cycle_ends = λ spared. end_leaves c g s x d (not-true (running c.phase g s) (sym (own_or_spared c.phase g s) ∙ spared));
}
  where
    accepted_phase : (k : ℕ) → (step_of c k x d).number ≡ 0 → (step_of c k x d).state.phase ≡ (after_in device c k x d).phase
    accepted_phase k ok = ap (λ (r : Given Chip). r.state.phase) (step_accepts c k x d (sym (step_number c k x d) ∙ ok))

pub intr_after : (c : Chip) (g : Group) (x d : ℕ) → IntrAfter c g x d
unfolding intr_of
intr_after c g x d = record {
  read_begins = λ other. ap₂ (λ (i o : Bool). i || o) (read_leaves c g Input x d other) (read_leaves c g Output x d refl);
  write_begins = λ other. ap₂ (λ (i o : Bool). i || o) (write_leaves c g Input x d refl) (write_leaves c g Output x d other);
  cycle_ends = λ spared other.
      ap₂ (λ (i o : Bool). i || o) ((half_after c g Input x d).cycle_ends (spared Input) other) ((half_after c g Output x d).cycle_ends (spared Output) other);
}

-- The own cycle runs from its beginning: an accepted read for an input, an accepted write for an output.
pub begun_read_runs : (c : Chip) (g : Group) (x d : ℕ) → number_of (limits c.edition) c.phase 1 x ≡ 0 → running (step_of c 1 x d).state.phase g Input ≡ own_address x g
begun_read_runs c g x d ok = rw (step_accepts c 1 x d ok)

pub begun_write_runs : (c : Chip) (g : Group) (x d : ℕ) → number_of (limits c.edition) c.phase 3 x ≡ 0 → running (step_of c 3 x d).state.phase g Output ≡ own_address x g
begun_write_runs c g x d ok = rw (step_accepts c 3 x d ok)
