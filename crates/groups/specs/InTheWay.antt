-- When a group's cycle is in the way of an event, by the numbers that the step answers ("Two groups").
use Rattle.std.specs.Prelude.{◌≡◌, true, false, ◌&&◌, List, [], ◌∷◌, ℕ}
use Rattle.bits.specs.Bit.{bit_of}
use Rattle.bus.specs.Event.{Event}
use Rattle.bus.specs.declared.Phase.{Phase}
use Rattle.bus.specs.declared.Phase.TheVariants.{Idle, Reading, Writing}
use Rattle.control.specs.declared.Group.{Group}
use Rattle.control.specs.declared.Group.TheVariants.{A, B}
use Rattle.chip.specs.declared.Chip.{Chip}
use Rattle.chip.specs.Step.{stepped}

-- A cycle of the group runs: a read or a write of its port, or bit set/reset, of pins 7 to 4 for group A and 2 to 0 for group B. The word for
-- that has bit 7 clear, and its bits 3 to 1 name the pin: one of 7 to 4 where bit 3 is set, and one of 2 to 0 where it is clear and bits 2 and 1
-- are not both set.
pub data Runs (ph : Phase) : Group → Type 0 where
  reads_a : ph ≡ Reading 0 → Runs ph A
  writes_a : {d : ℕ} → ph ≡ Writing 0 d → Runs ph A
  sets_a : {d : ℕ} → ph ≡ Writing 3 d → bit_of d 7 ≡ false → bit_of d 3 ≡ true → Runs ph A
  reads_b : ph ≡ Reading 1 → Runs ph B
  writes_b : {d : ℕ} → ph ≡ Writing 1 d → Runs ph B
  sets_b : {d : ℕ} → ph ≡ Writing 3 d → bit_of d 7 ≡ false → bit_of d 3 ≡ false → (bit_of d 2 && bit_of d 1) ≡ false → Runs ph B

-- The same chip, where no cycle runs.
abbrev pub with_idle_bus : Chip → Chip
with_idle_bus c = record { phase = Idle; edition = c.edition; core = c.core }

-- The event is refused with 4 while a cycle of the group runs. With an idle bus it would have the number 0, and begin no cycle of the group.
pub record Blocked (g : Group) (c : Chip) (e : Event) : Type 0 where
  pub runs : Runs c.phase g
  pub refused : (stepped c e).number ≡ 4
  pub accepted : (stepped (with_idle_bus c) e).number ≡ 0
  pub not_its : ¬ Runs (stepped (with_idle_bus c) e).state.phase g

-- So it is with no event of a history.
abbrev pub NeverBlocked : Group → Chip → List Event → Type 0
NeverBlocked g c [] = Unit {0}
NeverBlocked g c (e ∷ es) = (¬ Blocked g c e) × NeverBlocked g (stepped c e).state es

-- No cycle of the group runs where a history begins, and no event of it is refused so.
pub record OutOfTheWay (g : Group) (c : Chip) (es : List Event) : Type 0 where
  pub none_runs : ¬ Runs c.phase g
  pub never : NeverBlocked g c es
