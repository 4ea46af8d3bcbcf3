-- What an event leaves of a port: of all events only a reset, the end of a write and levels reach it.
-- Rests on Ports, on the bus's ByKind and Outcomes.
use Rattle.std.proofs.Common.{◌≡◌, refl, sym, subst, [], ◌∷◌, ℕ, ◌<◌, arith}
use Rattle.bus.specs.Kinds.{is_kind}
use Rattle.bus.specs.Event.{Event}
use Rattle.bus.proofs.ByKind.{by_kind}
use Rattle.bus.specs.declared.Phase.{Phase}
use Rattle.bus.specs.declared.Phase.TheVariants.{Idle, Reading, Writing}
use Rattle.bus.specs.Refusals.{number_of}
use Rattle.bus.specs.Device.{after_in}
use Rattle.bus.proofs.Outcomes.{either}
use Rattle.i8355.specs.declared.Port.{Port}
use Rattle.i8355.specs.declared.Chip8355.{Chip8355}
use Rattle.i8355.specs.Registers.{with_direction, after_write_ends, after_levels}
use Rattle.i8355.specs.Step.{limits, after_end, device}
use Rattle.laws8355.specs.Promise.{run}
use Rattle.laws8355.proofs.Ports.{port_at, at_reset}

module _ (p : ℕ) (there : p < 2) (P : Port → Type 0) (c : Chip8355) (before : P (port_at c.ports p)) where
  abbrev Ended : Type 0
  Ended = (y d : ℕ) → c.phase ≡ Writing y d → P (port_at (after_write_ends c.ports y d) p)

  ended : (ph : Phase) → c.phase ≡ ph → Ended → P (port_at (after_end c.ports ph) p)
  ended Idle phase written = before
  ended (Reading y) phase written = before
  ended (Writing y d) phase written = written y d phase

  abbrev Left : ℕ → ℕ → ℕ → Type 0
  Left k x d =
      (k ≡ 0 → P (with_direction (port_at c.ports p) 0))
      → (k ≡ 2 → Ended)
      → (k ≡ 5 → P (port_at (after_levels c.ports x d) p))
      → number_of limits c.phase k x ≡ 0 → P (port_at (after_in device c k x d).ports p)

  left : (k x d : ℕ) → Left k x d
  unfolding number_of is_kind
  left k x d =
      by_kind (λ k. Left k x d)
      (λ reset end levels ok. subst P (sym (at_reset c.ports p there)) (reset refl))
      (λ reset end levels ok. before)
      (λ reset end levels ok. ended c.phase refl (end refl))
      (λ reset end levels ok. before)
      (λ reset end levels ok. levels refl)
      (λ k unknown reset end levels ok. absurd (omega (arith, rw (unknown) at ok)))
      k

  -- What holds of the port before an event, and of what each of these three would leave of it where it is one of them, holds after it.
  pub by_event : (e : Event)
      → (e.kind ≡ 0 → P (with_direction (port_at c.ports p) 0))
      → (e.kind ≡ 2 → (y d : ℕ) → c.phase ≡ Writing y d → P (port_at (after_write_ends c.ports y d) p))
      → (e.kind ≡ 5 → P (port_at (after_levels c.ports e.first e.second) p))
      → P (port_at (run c (e ∷ [])).ports p)
  by_event e reset end levels =
      either device c e.kind e.first e.second (λ (c' : Chip8355). P (port_at c'.ports p)) before
      (left e.kind e.first e.second reset end levels)
