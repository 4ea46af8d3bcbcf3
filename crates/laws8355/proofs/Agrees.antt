-- A device and an account that agree go on agreeing with every event.
-- Rests on Numbers and Ports, on the bus's ByKind and Outcomes.
use Rattle.std.proofs.Common.{◌≡◌, refl, sym, subst, cond, ℕ, zero, suc, arith, eqb, lit<, ne_eqb}
use Rattle.bus.specs.Kinds.{is_kind}
use Rattle.bus.specs.Event.{Event, event}
use Rattle.bus.proofs.ByKind.{by_kind}
use Rattle.bus.specs.declared.Phase.{Phase}
use Rattle.bus.specs.declared.Phase.TheVariants.{Idle, Reading, Writing}
use Rattle.bus.specs.Refusals.{number_of}
use Rattle.bus.specs.Device.{Given, after_in, step_in}
use Rattle.bus.proofs.Outcomes.{outcomes}
use Rattle.i8355.specs.declared.Ports.{Ports}
use Rattle.i8355.specs.declared.Chip8355.{Chip8355}
use Rattle.i8355.specs.State.{power_up}
use Rattle.i8355.specs.Registers.{after_reset, after_write_ends, after_levels}
use Rattle.i8355.specs.Step.{limits, after_end, device}
use Rattle.laws8355.specs.Table.{Act, reset, written, levels, ended, row_of}
use Rattle.laws8355.specs.Account.{Account, register_after, lines_after, account_after, account_next, opened}
use Rattle.laws8355.specs.Promise.{account_of}
use Rattle.laws8355.proofs.Ports.{above}
use Rattle.laws8355.proofs.Numbers.{number_same}

-- Registers and lines hold what the ports hold: the latches of A and B, their directions, their levels outside.
abbrev pub Holds : Ports → (ℕ → ℕ) → (ℕ → ℕ) → Type 0
Holds s r l =
    ((r 0 ≡ s.a.latch) × (r 1 ≡ s.b.latch))
    × (((r 2 ≡ s.a.direction) × (r 3 ≡ s.b.direction))
    × ((l 0 ≡ s.a.outside) × (l 1 ≡ s.b.outside)))

-- So does an account, whose phase is the device's.
pub record Agrees (c : Chip8355) (a : Account) : Type 0 where
  pub phase : a.phase ≡ c.phase
  pub holds : Holds c.ports a.register a.lines

pub agrees_of : (c : Chip8355) → Agrees c (account_of c)
agrees_of c = record { phase = refl; holds = ((refl, refl), ((refl, refl), (refl, refl))) }

pub agrees_opened : Agrees power_up opened
agrees_opened = record { phase = refl; holds = ((refl, refl), ((refl, refl), (refl, refl))) }

-- Each act does to registers and lines what the device's rules do to the ports.
module _ (s : Ports) (r l : ℕ → ℕ) (h : Holds s r l) where
  abbrev After : Act → Ports → Type 0
  After t s' = Holds s' (λ x. register_after x (r x) t) (λ p. lines_after p (l p) t)

  reset_holds : After reset (after_reset s)
  unfolding after_reset
  reset_holds = (h.0, ((refl, refl), h.1.1))

  written_holds : (x d : ℕ) → After (written x d) (after_write_ends s x d)
  unfolding after_write_ends
  written_holds zero d = ((refl, h.0.1), h.1)
  written_holds (suc zero) d = ((h.0.0, refl), h.1)
  written_holds (suc (suc zero)) d = (h.0, ((refl, h.1.0.1), h.1.1))
  written_holds (suc (suc (suc zero))) d = (h.0, ((h.1.0.0, refl), h.1.1))
  written_holds (suc (suc (suc (suc x)))) d =
      let n = suc (suc (suc (suc x))) in
      rw (
        ne_eqb n 0 (λ e. omega (arith, e)),
        ne_eqb n 1 (λ e. omega (arith, e)),
        ne_eqb n 2 (λ e. omega (arith, e)),
        ne_eqb n 3 (λ e. omega (arith, e)),
      ) h

  levels_hold_lem : (x d : ℕ) → After (levels x d) (after_levels s x d)
  unfolding after_levels
  levels_hold_lem zero d = (h.0, (h.1.0, (refl, h.1.1.1)))
  levels_hold_lem (suc zero) d = (h.0, (h.1.0, (h.1.1.0, refl)))
  levels_hold_lem (suc (suc x)) d = rw (above x 0 (lit< tt), above x 1 (lit< tt)) h

  ending_holds : (ph : Phase) → After (ended ph).act (after_end s ph)
  ending_holds Idle = h
  ending_holds (Reading x) = h
  ending_holds (Writing x d) = written_holds x d

-- An account with the phase of the device, after an event: as the number has it.
module _ (c : Chip8355) (r l : ℕ → ℕ) (h : Holds c.ports r l) where
  abbrev before : Account
  before = record { phase = c.phase; register = r; lines = l }

  -- The account after an accepted event.
  abbrev accepted : Event → Account
  accepted e = account_after before (row_of c.phase e).leaves (row_of c.phase e).act

  goes : (k x d : ℕ) → number_of limits c.phase k x ≡ 0 → Agrees (after_in device c k x d) (accepted (event k x d))
  unfolding number_of is_kind
  goes k x d =
      by_kind (λ k. number_of limits c.phase k x ≡ 0 → Agrees (after_in device c k x d) (accepted (event k x d)))
      (λ ok. record { phase = refl; holds = reset_holds c.ports r l h })
      (λ ok. record { phase = refl; holds = h })
      (λ ok. record { phase = idle_after c.phase; holds = ending_holds c.ports r l h c.phase })
      (λ ok. record { phase = refl; holds = h })
      (λ ok. record { phase = refl; holds = levels_hold_lem c.ports r l h x d })
      (λ k none ok. absurd (omega (arith, rw (none) at ok)))
      k
    where
      idle_after : (ph : Phase) → (ended ph).leaves ≡ Idle
      idle_after Idle = refl
      idle_after (Reading x) = refl
      idle_after (Writing x d) = refl

  next : (k x d : ℕ) → Agrees (step_in device c k x d).state (account_next before (event k x d))
  next k x d =
      outcomes device c k x d
      (λ (o : Given Chip8355). Agrees o.state (cond (eqb (row_of c.phase (event k x d)).number 0) (accepted (event k x d)) before))
      (λ no. rw (← number_same c.phase k x d, ne_eqb _ _ no) (record { phase = refl; holds = h }))
      (λ ok. rw (← number_same c.phase k x d, ok) (goes k x d ok))

pub agrees_next : (c : Chip8355) (a : Account) (e : Event) → Agrees c a
    → Agrees (step_in device c e.kind e.first e.second).state (account_next a e)
agrees_next c a e k =
    subst
    (λ (ph : Phase). Agrees (step_in device c e.kind e.first e.second).state (account_next (record { phase = ph; register = a.register; lines = a.lines }) e))
    (sym k.phase)
    (next c a.register a.lines k.holds e.kind e.first e.second)
