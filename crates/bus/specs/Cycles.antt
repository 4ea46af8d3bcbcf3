-- What the facts about cycles say of any device: places, beginnings and ends, what comes in any phase, operands that a kind lacks, and the phase
-- by the events alone ("Events and numbers", "State").
use Rattle.std.specs.Prelude.{◌≡◌, Bool, cond, not, ◌&&◌, ◌||◌, List, [], ◌∷◌, ℕ, ◌<◌, ◌≤◌, eqb, ltb}
use Rattle.bus.specs.Kinds as kinds
use Rattle.bus.specs.Event.{Event}
use Rattle.bus.specs.declared.Phase.{Phase}
use Rattle.bus.specs.declared.Phase.TheVariants.{Idle, Reading, Writing}
use Rattle.bus.specs.declared.Limits.{Limits}
use Rattle.bus.specs.Refusals.{is_busy}
use Rattle.bus.specs.Device.{Device, Given, gives, step_in}

-- A refusal with number n: the state as it was, and the byte 00.
abbrev pub refused_in : {S : Type 0} → S → ℕ → Given S
refused_in s n = gives s n 0

-- A cycle begins at address x, or levels come onto port x. Where there is no such place it is 2, whatever the bus does; a read where none is to
-- be had is 3, whatever it does; at any other place a cycle is 4 while another runs, and accepted on an idle bus.
pub record AtPlace {S R : Type 0} (dev : Device S R) (l : Limits) (s : S) (x d : ℕ) : Type 0 where
  pub read_nowhere : l.addresses ≤ x → step_in dev s kinds.begin_read x d ≡ refused_in s 2
  pub write_nowhere : l.addresses ≤ x → step_in dev s kinds.begin_write x d ≡ refused_in s 2
  pub levels_nowhere : l.ports ≤ x → step_in dev s kinds.outside_levels x d ≡ refused_in s 2
  pub not_readable : x < l.addresses → l.readable ≤ x → step_in dev s kinds.begin_read x d ≡ refused_in s 3
  pub read_in_cycle : x < l.addresses → x < l.readable → ¬ (dev.phase s ≡ Idle) → step_in dev s kinds.begin_read x d ≡ refused_in s 4
  pub write_in_cycle : x < l.addresses → ¬ (dev.phase s ≡ Idle) → step_in dev s kinds.begin_write x d ≡ refused_in s 4
  pub read_begins : x < l.addresses → x < l.readable → dev.phase s ≡ Idle → (step_in dev s kinds.begin_read x d).number ≡ 0
  pub write_begins : x < l.addresses → dev.phase s ≡ Idle → (step_in dev s kinds.begin_write x d).number ≡ 0

-- A write that begins leaves all but the bus as it is. A read that is accepted answers what the device answers there, and no event of another kind
-- answers anything but 00.
pub record Begins {S R : Type 0} (dev : Device S R) (s : S) (x d : ℕ) : Type 0 where
  pub write_held : dev.rest (step_in dev s kinds.begin_write x d).state ≡ dev.rest s
  pub read_answers : (step_in dev s kinds.begin_read x d).number ≡ 0 → (step_in dev s kinds.begin_read x d).byte ≡ dev.answer s x
  pub others_silent : (k : ℕ) → ¬ (k ≡ kinds.begin_read) → (step_in dev s k x d).byte ≡ 0

-- An end is accepted exactly while a cycle runs, and is 5 on an idle bus; after it the bus is idle.
pub record Ends {S R : Type 0} (dev : Device S R) (s : S) (x d : ℕ) : Type 0 where
  pub while_one_runs : ¬ (dev.phase s ≡ Idle) → (step_in dev s kinds.end_cycle x d).number ≡ 0
  pub only_then : (step_in dev s kinds.end_cycle x d).number ≡ 0 → ¬ (dev.phase s ≡ Idle)
  pub idle : dev.phase s ≡ Idle → step_in dev s kinds.end_cycle x d ≡ refused_in s 5
  pub over : dev.phase (step_in dev s kinds.end_cycle x d).state ≡ Idle

-- What comes in the middle of a cycle as on an idle bus: a reset is accepted, and drops the cycle; levels on a port that there is are accepted, and
-- leave the cycle running.
pub record InAnyPhase {S R : Type 0} (dev : Device S R) (l : Limits) (s : S) (x d : ℕ) : Type 0 where
  pub reset : (step_in dev s kinds.reset x d).number ≡ 0
  pub reset_drops : dev.phase (step_in dev s kinds.reset x d).state ≡ Idle
  pub levels : x < l.ports → (step_in dev s kinds.outside_levels x d).number ≡ 0
  pub levels_hold : dev.phase (step_in dev s kinds.outside_levels x d).state ≡ dev.phase s

-- Operands that a kind lacks are ignored.
pub record Ignored {S R : Type 0} (dev : Device S R) (s : S) (x d : ℕ) : Type 0 where
  pub reset : step_in dev s kinds.reset x d ≡ step_in dev s kinds.reset 0 0
  pub begin_read : step_in dev s kinds.begin_read x d ≡ step_in dev s kinds.begin_read x 0
  pub end_cycle : step_in dev s kinds.end_cycle x d ≡ step_in dev s kinds.end_cycle 0 0

-- An event is accepted, kind by kind and apart from the table: a reset always; a cycle at an address that there is, for a read one that can be
-- read, on an idle bus; an end while a cycle runs; levels on a port that there is.
abbrev pub is_accepted : Limits → Phase → ℕ → ℕ → Bool
is_accepted l ph k x =
    eqb k kinds.reset
    || ((eqb k kinds.begin_read && (ltb x l.addresses && (ltb x l.readable && not (is_busy ph))))
    || ((eqb k kinds.end_cycle && is_busy ph)
    || ((eqb k kinds.begin_write && (ltb x l.addresses && not (is_busy ph)))
    || (eqb k kinds.outside_levels && ltb x l.ports))))

-- The phase after an accepted event: a cycle runs from its beginning to its end, and a reset drops it.
abbrev pub phase_after : Phase → ℕ → ℕ → ℕ → Phase
phase_after ph k x d =
    cond (eqb k kinds.reset) Idle
    (cond (eqb k kinds.begin_read) (Reading x)
    (cond (eqb k kinds.end_cycle) Idle
    (cond (eqb k kinds.begin_write) (Writing x d)
    ph)))

-- The phase after a history, by the limits and the events alone: a refused event changes nothing.
abbrev pub phase_over : Limits → Phase → List Event → Phase
phase_over l ph [] = ph
phase_over l ph (e ∷ es) =
    phase_over l (cond (is_accepted l ph e.kind e.first) (phase_after ph e.kind e.first e.second) ph) es
