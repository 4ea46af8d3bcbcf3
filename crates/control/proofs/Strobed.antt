-- Strobed ports: in mode 0 a group is not strobed, in mode 1 one way, by the direction of its port, and there is no mode above 2; a
-- strobed output is an output ("Mode words").
-- Rests on AsByte and on bits' Logic and Tested.
use Rattle.std.proofs.Common.{◌≡◌, refl, Bool, true, false, not, ◌&&◌, ◌||◌, ℕ, ◌%◌, ◌<◌, arith, eqb, ltb, ltb-true, ne_eqb}
use Rattle.bits.proofs.Logic.{both}
use Rattle.bits.proofs.Tested.{bits}
use Rattle.control.specs.declared.Group.{Group}
use Rattle.control.specs.declared.Group.TheVariants.{A, B}
use Rattle.control.specs.Mode.{mode_of, input_of, strobed_input, strobed_output, output_of}
use Rattle.control.proofs.AsByte.{as_byte}

pub mode_below_3 : (w : ℕ) (g : Group) → mode_of w g < 3
unfolding mode_of
mode_below_3 w g = rw (← (as_byte w).mode g) (ltb-true _ _ (of_byte_lem g (w % 256) (omega arith)))
  where
    of_byte_lem : (g : Group) (w : ℕ) → w < 256 → ltb (mode_of w g) 3 ≡ true
    of_byte_lem A = bits 256 (λ w. ltb (mode_of w A) 3) (λ w. true) tt
    of_byte_lem B = bits 256 (λ w. ltb (mode_of w B) 3) (λ w. true) tt

pub mode_0_takes : (w : ℕ) (g : Group) → mode_of w g ≡ 0 → strobed_input w g ≡ false
unfolding strobed_input
mode_0_takes w g zero = rw zero

pub mode_0_gives : (w : ℕ) (g : Group) → mode_of w g ≡ 0 → strobed_output w g ≡ false
unfolding strobed_output
mode_0_gives w g zero = rw zero

pub mode_1_takes : (w : ℕ) (g : Group) → mode_of w g ≡ 1 → strobed_input w g ≡ input_of w g
unfolding strobed_input
mode_1_takes w g one = rw one

pub mode_1_gives : (w : ℕ) (g : Group) → mode_of w g ≡ 1 → strobed_output w g ≡ not (input_of w g)
unfolding strobed_output
mode_1_gives w g one = rw one

-- But for mode 2 a port is an output by its direction.
pub output_by_direction : (w : ℕ) (g : Group) → ¬ (mode_of w g ≡ 2) → output_of w g ≡ not (input_of w g)
unfolding output_of
output_by_direction w g other = rw (ne_eqb (mode_of w g) 2 other)

pub giving_is_output : (w : ℕ) (g : Group) → strobed_output w g ≡ true → output_of w g ≡ true
unfolding strobed_output output_of
giving_is_output w g on = go (eqb (mode_of w g) 2) (eqb (mode_of w g) 1) (input_of w g) on
  where
    go : (two one input : Bool) → (two || (one && not input)) ≡ true → (two || not input) ≡ true
    go true one input e = refl
    go false one input e = (both one (not input) e).1
