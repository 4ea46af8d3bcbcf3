-- What is done on a group leaves the other alone, one doing after the other.
-- Rests on Pins and Apart.
use Rattle.std.proofs.Common.{◌≡◌, refl, Bool, true, false, not, ◌||◌, [], ◌∷◌, ◌++◌, ℕ, ◌/◌, ◌%◌, ◌<◌, eqb, eq-eqb}
use mathlib.Core.Bool.{or-true}
use Rattle.bits.specs.Bit.{bit_of}
use Rattle.bus.specs.Event.{Event, event}
use Rattle.bus.specs.Histories.{write, read_from, cycle_end}
use Rattle.bus.specs.declared.Phase.TheVariants.{Idle, Writing}
use Rattle.control.specs.declared.Group.{Group}
use Rattle.control.specs.declared.Group.TheVariants.{A, B}
use Rattle.chip.specs.declared.Edition.{Edition}
use Rattle.chip.specs.declared.Edition.TheVariants.{Older, Newer}
use Rattle.chip.specs.declared.Chip.{Chip}
use Rattle.fates.specs.Kinds.{cycle_ended, read_begun, write_begun, new_levels, kind_of, accepts}
use Rattle.fates.specs.Surroundings.{Surroundings, phase_after, surroundings_next}
use Rattle.fates.specs.Effects.{port_number}
use Rattle.fates.specs.Promise.{surroundings_of}
use Rattle.groups.specs.Doings.{other, acts_on, its_cycle, is_of, reads_for_both, harmless, only_of}
use Rattle.groups.specs.Apart.{Left, LeftAlone}
use Rattle.groups.proofs.Pins.{same_elsewhere}
use Rattle.groups.proofs.Apart.{left_by_history}

-- A group's port is its own, and can be read and written.
at_its_port : (h : Group) → eqb (port_number h) (port_number h) ≡ true
at_its_port h = eq-eqb (port_number h) (port_number h) refl

readable : (ed : Edition) (h : Group) → accepts ed Idle (read_begun (port_number h)) ≡ true
readable Older A = refl
readable Older B = refl
readable Newer A = refl
readable Newer B = refl

lines_readable : (ed : Edition) → accepts ed Idle (read_begun 2) ≡ true
lines_readable Older = refl
lines_readable Newer = refl

writable : (ed : Edition) (h : Group) (d : ℕ) → accepts ed Idle (write_begun (port_number h) d) ≡ true
writable ed A d = refl
writable ed B d = refl

-- Cycles of the group.
its_write : (h : Group) (d : ℕ) → its_cycle h (Writing (port_number h) d) ≡ true
its_write h d = rw (at_its_port h)

its_bit : (h : Group) (d : ℕ) → bit_of d 7 ≡ false → acts_on h (d / 2 % 8) ≡ true → its_cycle h (Writing 3 d) ≡ true
its_bit h d clear acts = rw (clear, acts) (or-true (eqb 3 (port_number h)))

module _ (h : Group) (a : Surroundings) where
  -- A harmless event by itself;
  alone : (e : Event) → harmless h a (kind_of e) ≡ true → only_of h a (e ∷ []) ≡ true
  alone e does = rw (does, or-true (not (accepts a.edition a.phase (kind_of e))))

  -- and a harmless cycle that begins on an idle bus, and ends.
  whole : a.phase ≡ Idle → (e : Event) → accepts a.edition Idle (kind_of e) ≡ true → harmless h a (kind_of e) ≡ true
      → (its_cycle h (phase_after Idle (kind_of e)) || reads_for_both (phase_after Idle (kind_of e))) ≡ true → only_of h a (e ∷ cycle_end) ≡ true
  whole idle e ok does cycle =
      let runs : (its_cycle h (surroundings_next a e).phase || reads_for_both (surroundings_next a e).phase) ≡ true = rw (idle, ok) (cycle) in
      rw (does, or-true (not (accepts a.edition a.phase (kind_of e))), runs) (rw (or-true (not (accepts (surroundings_next a e).edition (surroundings_next a e).phase cycle_ended))))

  its_levels : (d : ℕ) → is_of h a (new_levels (port_number h) d) ≡ true
  its_levels d = rw (at_its_port h)

  its_lines : (d : ℕ) → ((n : ℕ) → n < 8 → acts_on h n ≡ false → bit_of d n ≡ bit_of a.levels_c n) → is_of h a (new_levels 2 d) ≡ true
  its_lines d same = rw (same_elsewhere h d a.levels_c same) (or-true (eqb 2 (port_number h)))

  -- A read of control, which the older edition refuses, and with it the end that then finds an idle bus.
  whole_control : a.phase ≡ Idle → only_of h a (read_from 3 ++ cycle_end) ≡ true
  whole_control idle = go a.edition refl
    where
      go : (ed : Edition) → a.edition ≡ ed → only_of h a (read_from 3 ++ cycle_end) ≡ true
      go Older old = rw (old, idle)
      go Newer new = whole idle (event 1 3 0) (rw (new)) (or-true (eqb 3 (port_number h))) (or-true (eqb 3 (port_number h)))

-- Of two the first.
first_of : (a b : Bool) → a ≡ true → (a || b) ≡ true
first_of a b is = rw (is)

-- From every chip with an idle bus, reached by a history or not: one theorem for both groups.
pub left_alone : (g : Group) (c : Chip) → c.phase ≡ Idle → LeftAlone g (other g) c
left_alone g c idle =
    let h = other g in
    let p = port_number h in
    let a = surroundings_of c in
    let by : (e : Event) → is_of h a (kind_of e) ≡ true → Left g c (e ∷ []) = λ e its. left_by_history g c (e ∷ []) (alone h a e (first_of _ _ its)) in
    record {
      port_levels = λ d. by (event 5 p d) (its_levels h a d);
      line_levels = λ d same. by (event 5 2 d) (its_lines h a d same);
      reading = by (event 1 p 0) (at_its_port h);
      read = left_by_history g c (read_from p ++ cycle_end)
          (whole h a idle (event 1 p 0) (readable c.edition h) (first_of _ _ (at_its_port h)) (first_of _ _ (at_its_port h)));
      writing = λ d. by (event 3 p d) (its_write h d);
      written = λ d. left_by_history g c (write p d)
          (whole h a idle (event 3 p d) (writable c.edition h d) (first_of _ _ (its_write h d)) (first_of _ _ (its_write h d)));
      setting_bit = λ d clear acts. by (event 3 3 d) (its_bit h d clear acts);
      bit_set = λ d clear acts.
          let its = first_of _ _ (its_bit h d clear acts) in left_by_history g c (write 3 d) (whole h a idle (event 3 3 d) refl its its);
      reading_lines = left_by_history g c (read_from 2) (alone h a (event 1 2 0) (or-true (eqb 2 p)));
      lines_read = left_by_history g c (read_from 2 ++ cycle_end) (whole h a idle (event 1 2 0) (lines_readable c.edition) (or-true (eqb 2 p)) (or-true (eqb 2 p)));
      reading_control = left_by_history g c (read_from 3) (alone h a (event 1 3 0) (or-true (eqb 3 p)));
      control_read = left_by_history g c (read_from 3 ++ cycle_end) (whole_control h a idle);
    }
