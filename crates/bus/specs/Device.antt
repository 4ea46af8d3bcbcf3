-- A device on the bus, and its step: what every device shares ("Events and numbers").
use Rattle.std.specs.Prelude.{◌≡◌, cond, List, [], ◌∷◌, ℕ, eqb}
use Rattle.bus.specs.Kinds as kinds
use Rattle.bus.specs.Event.{Event}
use Rattle.bus.specs.declared.Phase.{Phase}
use Rattle.bus.specs.declared.Phase.TheVariants.{Idle, Reading, Writing}
use Rattle.bus.specs.declared.Limits.{Limits}
use Rattle.bus.specs.Refusals.{number_of}

-- A device whose state S is a phase of the bus and a rest R. It says how the two make a state, its limits, what each kind of event makes of
-- the rest, and what a read at an address answers. The last fields are laws: a state put together has that phase and that rest, and no event
-- changes the limits.
pub record Device (S R : Type 0) : Type 0 where
  pub phase : S → Phase
  pub rest : S → R
  pub on : Phase → R → S
  pub limits : R → Limits
  pub after_reset : R → R
  pub after_begin : R → ℕ → R
  pub after_end : R → Phase → R
  pub after_levels : R → ℕ → ℕ → R
  pub answer : S → ℕ → ℕ
  pub phase_on : (ph : Phase) (r : R) → phase (on ph r) ≡ ph
  pub rest_on : (ph : Phase) (r : R) → rest (on ph r) ≡ r
  pub reset_limits : (r : R) → limits (after_reset r) ≡ limits r
  pub begin_limits : (r : R) (x : ℕ) → limits (after_begin r x) ≡ limits r
  pub end_limits : (r : R) (ph : Phase) → limits (after_end r ph) ≡ limits r
  pub levels_limits : (r : R) (x d : ℕ) → limits (after_levels r x d) ≡ limits r

-- What an event gives: the new state, the number, and the byte.
pub record Given (S : Type 0) : Type 0 where
  pub state : S
  pub number : ℕ
  pub byte : ℕ

abbrev pub gives : {S : Type 0} → S → ℕ → ℕ → Given S
gives s n b = record { state = s; number = n; byte = b }

-- The number of an event in a state.
abbrev pub number_in : {S R : Type 0} → Device S R → S → ℕ → ℕ → ℕ
number_in dev s k x = number_of (dev.limits (dev.rest s)) (dev.phase s) k x

-- What an accepted event of each kind makes of a state: a reset drops a running cycle, a cycle begins, the one that runs ends, levels leave the
-- bus as it is.
abbrev pub reset_in : {S R : Type 0} → Device S R → S → S
reset_in dev s = dev.on Idle (dev.after_reset (dev.rest s))

abbrev pub read_begun_in : {S R : Type 0} → Device S R → S → ℕ → S
read_begun_in dev s x = dev.on (Reading x) (dev.after_begin (dev.rest s) x)

abbrev pub cycle_ended_in : {S R : Type 0} → Device S R → S → S
cycle_ended_in dev s = dev.on Idle (dev.after_end (dev.rest s) (dev.phase s))

abbrev pub write_begun_in : {S R : Type 0} → Device S R → S → ℕ → ℕ → S
write_begun_in dev s x d = dev.on (Writing x d) (dev.rest s)

abbrev pub levels_put_in : {S R : Type 0} → Device S R → S → ℕ → ℕ → S
levels_put_in dev s x d = dev.on (dev.phase s) (dev.after_levels (dev.rest s) x d)

-- The state after an accepted event of kind k with operands x and d.
abbrev pub after_in : {S R : Type 0} → Device S R → S → ℕ → ℕ → ℕ → S
after_in dev s k x d =
    cond (eqb k kinds.reset) (reset_in dev s)
    (cond (eqb k kinds.begin_read) (read_begun_in dev s x)
    (cond (eqb k kinds.end_cycle) (cycle_ended_in dev s)
    (cond (eqb k kinds.begin_write) (write_begun_in dev s x d)
    (levels_put_in dev s x d))))

-- Only a read that begins has a byte to give.
abbrev pub byte_in : {S R : Type 0} → Device S R → S → ℕ → ℕ → ℕ
byte_in dev s k x = cond (eqb k kinds.begin_read) (dev.answer s x) 0

-- One event, of kind k with operands x and d: accepted with the number 0, or refused with its number, and then the state is as it was and the
-- byte is 00.
unfoldable pub step_in : {S R : Type 0} → Device S R → S → ℕ → ℕ → ℕ → Given S
step_in dev s k x d =
    cond (eqb (number_in dev s k x) 0)
    (gives (after_in dev s k x d) 0 (byte_in dev s k x))
    (gives s (number_in dev s k x) 0)

-- The state after a history: each event meets the state that the one before it left.
abbrev pub run_in : {S R : Type 0} → Device S R → S → List Event → S
run_in dev s [] = s
run_in dev s (e ∷ es) = run_in dev (step_in dev s e.kind e.first e.second).state es
