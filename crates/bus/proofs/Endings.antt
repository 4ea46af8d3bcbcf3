-- The end of a cycle, a reset and levels, in every state of any device: an end is accepted exactly while a cycle runs, and the others in any phase
-- ("Events and numbers").
-- Rests on Outcomes and ByPhase.
use Rattle.std.proofs.Common.{◌≡◌, refl, ℕ, arith, lt-ltb}
use Rattle.bus.specs.Kinds.{is_kind}
use Rattle.bus.specs.Kinds as kinds
use Rattle.bus.specs.declared.Phase.{Phase}
use Rattle.bus.specs.declared.Phase.TheVariants.{Idle, Reading, Writing}
use Rattle.bus.specs.Refusals.{number_of}
use Rattle.bus.specs.Device.{Device, step_in}
use Rattle.bus.specs.Cycles.{Ends, InAnyPhase}
use Rattle.bus.proofs.Outcomes.{either}
use Rattle.bus.proofs.ByPhase.{read_ends_lem, write_ends, idle_ends_nothing, by_phase}

module _ {S R : Type 0} (dev : Device S R) (s : S) (x d : ℕ) where
  accepted_in : (ph : Phase) → dev.phase s ≡ ph → ¬ (ph ≡ Idle) → (step_in dev s kinds.end_cycle x d).number ≡ 0
  accepted_in Idle phase runs = absurd (runs refl)
  accepted_in (Reading p) phase runs = rw (read_ends_lem dev s x d p phase)
  accepted_in (Writing a b) phase runs = rw (write_ends dev s x d a b phase)

  pub cycle_ends_lem : Ends dev s x d
  cycle_ends_lem = record {
    while_one_runs = accepted_in (dev.phase s) refl;
    only_then = λ ok phase. absurd (omega (arith, rw (idle_ends_nothing dev s x d phase) at ok));
    idle = idle_ends_nothing dev s x d;
    over =
        by_phase dev s x d (λ (s' : S). dev.phase s' ≡ Idle) (λ idle. idle) (λ p phase. dev.phase_on Idle _) (λ a b phase. dev.phase_on Idle _);
  }

  pub in_any_phase_lem : InAnyPhase dev (dev.limits (dev.rest s)) s x d
  unfolding step_in number_of is_kind
  in_any_phase_lem = record {
    reset = refl;
    reset_drops = dev.phase_on Idle (dev.after_reset (dev.rest s));
    levels = λ there. rw (lt-ltb x _ there);
    levels_hold = either dev s kinds.outside_levels x d (λ (s' : S). dev.phase s' ≡ dev.phase s) refl (λ ok. dev.phase_on (dev.phase s) _);
  }
