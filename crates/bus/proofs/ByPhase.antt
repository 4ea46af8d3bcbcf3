-- The end of a cycle on any device, by the phase that it finds.
-- Rests on nothing.
use Rattle.std.proofs.Common.{◌≡◌, refl, ap, cond, ℕ, eqb}
use Rattle.bus.specs.Kinds.{is_kind}
use Rattle.bus.specs.Kinds as kinds
use Rattle.bus.specs.declared.Phase.{Phase}
use Rattle.bus.specs.declared.Phase.TheVariants.{Idle, Reading, Writing}
use Rattle.bus.specs.Refusals.{number_of}
use Rattle.bus.specs.Device.{Device, Given, gives, step_in}
use Rattle.bus.specs.Cycles.{refused_in}

module _ {S R : Type 0} (dev : Device S R) (s : S) (x d : ℕ) where
  -- The end in a phase.
  abbrev end_in : Phase → Given S
  end_in ph =
      let number = number_of (dev.limits (dev.rest s)) ph kinds.end_cycle x in
      cond (eqb number 0) (gives (dev.on Idle (dev.after_end (dev.rest s) ph)) 0 0) (refused_in s number)

  -- While a cycle runs it is accepted, and does what that cycle asks.
  pub read_ends_lem : (p : ℕ) → dev.phase s ≡ Reading p → step_in dev s kinds.end_cycle x d ≡ gives (dev.on Idle (dev.after_end (dev.rest s) (Reading p))) 0 0
  unfolding step_in number_of is_kind
  read_ends_lem p phase = ap end_in phase

  pub write_ends : (a b : ℕ) → dev.phase s ≡ Writing a b
      → step_in dev s kinds.end_cycle x d ≡ gives (dev.on Idle (dev.after_end (dev.rest s) (Writing a b))) 0 0
  unfolding step_in number_of is_kind
  write_ends a b phase = ap end_in phase

  -- On an idle bus it is refused with 5.
  pub idle_ends_nothing : dev.phase s ≡ Idle → step_in dev s kinds.end_cycle x d ≡ refused_in s 5
  unfolding step_in number_of is_kind
  idle_ends_nothing phase = ap end_in phase

  -- What holds of the state itself where the bus is idle, and of what is left of it where a read or a write ends, holds after the event.
  pub by_phase : (P : S → Type 0) → (dev.phase s ≡ Idle → P s)
      → ((p : ℕ) → dev.phase s ≡ Reading p → P (dev.on Idle (dev.after_end (dev.rest s) (Reading p))))
      → ((a b : ℕ) → dev.phase s ≡ Writing a b → P (dev.on Idle (dev.after_end (dev.rest s) (Writing a b))))
      → P (step_in dev s kinds.end_cycle x d).state
  by_phase P idle read write = go (dev.phase s) refl
    where
      go : (ph : Phase) → dev.phase s ≡ ph → P (step_in dev s kinds.end_cycle x d).state
      go Idle phase = rw (idle_ends_nothing phase) (idle phase)
      go (Reading p) phase = rw (read_ends_lem p phase) (read p phase)
      go (Writing a b) phase = rw (write_ends a b phase) (write a b phase)
