-- A cycle of a group, in plain numbers and in the words of Doings.
-- Rests on bits' Logic and fates' PinNamed.
use Rattle.std.proofs.Common.{◌≡◌, ◌∙◌, refl, ap, sym, Bool, true, false, not, ◌&&◌, ℕ, ◌+◌, ◌*◌, ◌/◌, ◌%◌, eqb, eqb-true}
use borrow.Author.Tests.{not-true}
use Rattle.bits.specs.Bit.{bit_of, num}
use Rattle.bits.proofs.Logic.{contrary, both, one_of}
use Rattle.bus.specs.declared.Phase.{Phase}
use Rattle.bus.specs.declared.Phase.TheVariants.{Idle, Reading, Writing}
use Rattle.control.specs.declared.Group.{Group}
use Rattle.control.specs.declared.Group.TheVariants.{A, B}
use Rattle.fates.proofs.PinNamed.{pin_same}
use Rattle.groups.specs.Doings.{acts_on, its_cycle}
use Rattle.groups.specs.InTheWay.{Runs, reads_a, writes_a, sets_a, reads_b, writes_b, sets_b}

-- The pins on which a group acts, by the bits of a word for control that name them.
by_bits_a : (d : ℕ) → acts_on A (d / 2 % 8) ≡ bit_of d 3
by_bits_a d = ap (acts_on A) (sym (pin_same d)) ∙ go (bit_of d 1) (bit_of d 2) (bit_of d 3)
  where
    go : (i j k : Bool) → acts_on A (num i + 2 * num j + 4 * num k) ≡ k
    go true true true = refl
    go true true false = refl
    go true false true = refl
    go true false false = refl
    go false true true = refl
    go false true false = refl
    go false false true = refl
    go false false false = refl

by_bits_b : (d : ℕ) → acts_on B (d / 2 % 8) ≡ (not (bit_of d 3) && not (bit_of d 2 && bit_of d 1))
by_bits_b d = ap (acts_on B) (sym (pin_same d)) ∙ go (bit_of d 1) (bit_of d 2) (bit_of d 3)
  where
    go : (i j k : Bool) → acts_on B (num i + 2 * num j + 4 * num k) ≡ (not k && not (j && i))
    go true true true = refl
    go true true false = refl
    go true false true = refl
    go true false false = refl
    go false true true = refl
    go false true false = refl
    go false false true = refl
    go false false false = refl

-- A cycle of the group, in the plain numbers and in the words of Doings.
pub runs_is : (g : Group) (ph : Phase) → its_cycle g ph ≡ true → Runs ph g
runs_is g Idle its = absurd (contrary false refl its)
runs_is A (Reading x) its = reads_a (ap Reading (eqb-true x 0 its))
runs_is B (Reading x) its = reads_b (ap Reading (eqb-true x 1 its))
runs_is A (Writing x d) its =
    one_of (eqb x 0) _ its
    (λ at. writes_a (ap (λ x. Writing x d) (eqb-true x 0 at)))
    (λ word.
    let at = both (eqb x 3) _ word in
    let sets = both (not (bit_of d 7)) _ at.1 in
    sets_a (ap (λ x. Writing x d) (eqb-true x 3 at.0)) (not-true (bit_of d 7) sets.0) (sym (by_bits_a d) ∙ sets.1))
runs_is B (Writing x d) its =
    one_of (eqb x 1) _ its
    (λ at. writes_b (ap (λ x. Writing x d) (eqb-true x 1 at)))
    (λ word.
    let at = both (eqb x 3) _ word in
    let sets = both (not (bit_of d 7)) _ at.1 in
    let named = both (not (bit_of d 3)) _ (sym (by_bits_b d) ∙ sets.1) in
    sets_b (ap (λ x. Writing x d) (eqb-true x 3 at.0)) (not-true (bit_of d 7) sets.0) (not-true (bit_of d 3) named.0)
    (not-true (bit_of d 2 && bit_of d 1) named.1))

pub is_runs : (g : Group) (ph : Phase) → Runs ph g → its_cycle g ph ≡ true
is_runs A ph (reads_a is) = ap (its_cycle A) is
is_runs A ph (writes_a is) = ap (its_cycle A) is
is_runs A ph (sets_a {d} is clear named) = ap (its_cycle A) is ∙ rw (clear, by_bits_a d, named)
is_runs B ph (reads_b is) = ap (its_cycle B) is
is_runs B ph (writes_b is) = ap (its_cycle B) is
is_runs B ph (sets_b {d} is clear third others) = ap (its_cycle B) is ∙ rw (clear, by_bits_b d, third, others)
