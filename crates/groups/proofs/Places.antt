-- Where a group's events come: never at the other group's port, nor as a mode word. From the events alone.
-- Rests on Alike, Pins and bits' Logic.
use Rattle.std.proofs.Common.{◌≡◌, ◌∙◌, refl, ap, sym, true, false, not, ◌&&◌, ℕ, ◌/◌, ◌%◌, eqb, eqb-true}
use borrow.Author.Tests.{not-true}
use Rattle.bits.specs.Bit.{bit_of}
use Rattle.bits.proofs.Logic.{contrary, both, one_of}
use Rattle.bus.specs.declared.Phase.TheVariants.{Reading, Writing}
use Rattle.control.specs.declared.Group.{Group}
use Rattle.control.specs.declared.Group.TheVariants.{A, B}
use Rattle.fates.specs.Kinds.{new_levels}
use Rattle.fates.specs.Surroundings.{Surroundings}
use Rattle.fates.specs.Effects.{port_number}
use Rattle.groups.specs.Doings.{other, acts_on, sets_bit, its_cycle, is_of, reads_for_both}
use Rattle.groups.proofs.Alike.{SameAt}
use Rattle.groups.proofs.Pins.{same_at}

-- The other group's port, port C and control are at another address than the group's port.
apart : (g : Group) (x y : ℕ) → eqb y (port_number g) ≡ false → eqb x y ≡ true → eqb x (port_number g) ≡ false
apart g x y differ at = rw (eqb-true x y at) (differ)

ports_apart : (g : Group) → eqb (port_number (other g)) (port_number g) ≡ false
ports_apart A = refl
ports_apart B = refl

lines_apart : (g : Group) → eqb 2 (port_number g) ≡ false
lines_apart A = refl
lines_apart B = refl

control_apart : (g : Group) → eqb 3 (port_number g) ≡ false
control_apart A = refl
control_apart B = refl

-- So the cycles of the other group, and a read of port C or of control, are at another address.
pub read_away : (g : Group) (x : ℕ) → its_cycle (other g) (Reading x) ≡ true → eqb x (port_number g) ≡ false
read_away g x its = apart g x _ (ports_apart g) its

pub for_both_away : (g : Group) (x : ℕ) → reads_for_both (Reading x) ≡ true → eqb x (port_number g) ≡ false
for_both_away g x status = one_of (eqb x 2) (eqb x 3) status (apart g x 2 (lines_apart g)) (apart g x 3 (control_apart g))

pub write_away : (g : Group) (x d : ℕ) → its_cycle (other g) (Writing x d) ≡ true → eqb x (port_number g) ≡ false
write_away g x d its =
    one_of _ (eqb x 3 && sets_bit (other g) d) its
    (apart g x _ (ports_apart g))
    (λ word. apart g x 3 (control_apart g) (both (eqb x 3) _ word).0)

-- What a group writes at control is bit set/reset of a pin on which it acts; at port C it writes nothing.
pub sets_bit_lem : (h : Group) (x d : ℕ) → its_cycle h (Writing x d) ≡ true → x ≡ 3 → (bit_of d 7 ≡ false) × (acts_on h (d / 2 % 8) ≡ true)
sets_bit_lem h x d its three =
    let word = both (not (bit_of d 7)) _ (sym (word_its h) ∙ ap (λ x. its_cycle h (Writing x d)) (sym three) ∙ its) in
    (not-true (bit_of d 7) word.0, word.1)
  where
    word_its : (h : Group) → its_cycle h (Writing 3 d) ≡ sets_bit h d
    word_its A = refl
    word_its B = refl

pub writes_no_lines : (h : Group) (x d : ℕ) → its_cycle h (Writing x d) ≡ true → x ≡ 2 → ⊥
writes_no_lines h x d its two = contrary _ (ap (λ x. its_cycle h (Writing x d)) two ∙ none h) its
  where
    none : (h : Group) → its_cycle h (Writing 2 d) ≡ false
    none A = refl
    none B = refl

-- Levels of the other group come onto another port than the group's;
pub levels_away : (g : Group) (a : Surroundings) (x d : ℕ) → is_of (other g) a (new_levels x d) ≡ true → eqb x (port_number g) ≡ false
levels_away g a x d its =
    one_of _ (eqb x 2 && _) its (apart g x _ (ports_apart g)) (λ at. apart g x 2 (lines_apart g) (both (eqb x 2) _ at).0)

-- and it is not port C, or they are the old ones at the group's pins.
pub levels_either : {X : Type 0} (g : Group) (a : Surroundings) (x d : ℕ) → is_of (other g) a (new_levels x d) ≡ true
    → (eqb x 2 ≡ false → X) → (eqb x 2 ≡ true → SameAt g d a.levels_c → X) → X
levels_either g a x d its on_port_lem on_lines =
    one_of _ (eqb x 2 && _) its
    (λ at. on_port_lem (not_lines (other g) at))
    (λ at. let is = both (eqb x 2) _ at in on_lines is.0 (same_at g d a.levels_c is.1))
  where
    not_lines : (h : Group) → eqb x (port_number h) ≡ true → eqb x 2 ≡ false
    not_lines A at = rw (eqb-true x 0 at)
    not_lines B at = rw (eqb-true x 1 at)
