-- Which levels on port C are a group's, by plain numbers of pins.
-- Rests on Pins.
use Rattle.std.proofs.Common.{◌≡◌, ◌∙◌, refl, ap, sym, Bool, true, false, ◌&&◌, ◌||◌, ℕ, ◌<◌, arith, eqb, ltb-false, le-ltb, eqb-true, ◌↔◌}
use Rattle.bits.specs.Bit.{bit_of}
use Rattle.bus.specs.Histories.{levels}
use Rattle.control.specs.declared.Group.{Group}
use Rattle.control.specs.declared.Group.TheVariants.{A, B}
use Rattle.chip.specs.declared.Chip.{Chip}
use Rattle.fates.specs.Promise.{surroundings_of}
use Rattle.groups.specs.Doings.{elsewhere, acts_on, only_of}
use Rattle.groups.specs.Kept.{SameFrom3, SameTo3}
use Rattle.groups.proofs.Pins.{bit_elsewhere_lem, same_elsewhere}

-- Bytes that are the same elsewhere have the same bits there.
elsewhere_bits : (g : Group) (x y : ℕ) → eqb (elsewhere g x) (elsewhere g y) ≡ true → (n : ℕ) → n < 8 → acts_on g n ≡ false → bit_of x n ≡ bit_of y n
elsewhere_bits g x y same n small none =
    sym (bit_elsewhere_lem g x n small none) ∙ ap (λ b. bit_of b n) (eqb-true _ _ same) ∙ bit_elsewhere_lem g y n small none

-- So levels on port C are a group's exactly where they are the same elsewhere.
its : (b : Bool) → (((b || false) && true) ≡ true) ↔ (b ≡ true)
its true = (λ is. refl, λ is. refl)
its false = (λ is. is, λ is. is)

pub lines_b : (d l : ℕ) → (eqb (elsewhere B d) (elsewhere B l) ≡ true) ↔ SameFrom3 d l
lines_b d l = (
  λ only n three small. elsewhere_bits B d l only n small (le-ltb n 3 three),
  λ same. same_elsewhere B d l (λ n small none. same n (ltb-false n _ none) small),
)

pub lines_a : (d l : ℕ) → (eqb (elsewhere A d) (elsewhere A l) ≡ true) ↔ SameTo3 d l
lines_a d l = (
  λ only n few. elsewhere_bits A d l only n (omega (arith, few)) (le-ltb 3 n few),
  λ same. same_elsewhere A d l (λ n small none. same n (ltb-false _ n none)),
)

module _ (c : Chip) (d : ℕ) where
  pub own_lines_b : (only_of B (surroundings_of c) (levels 2 d) ≡ true) ↔ SameFrom3 d c.core.c.outside
  own_lines_b = (λ only. (lines_b d c.core.c.outside).0 ((its _).0 only), λ same. (its _).1 ((lines_b d c.core.c.outside).1 same))

  pub own_lines_a : (only_of A (surroundings_of c) (levels 2 d) ≡ true) ↔ SameTo3 d c.core.c.outside
  own_lines_a = (λ only. (lines_a d c.core.c.outside).0 ((its _).0 only), λ same. (its _).1 ((lines_a d c.core.c.outside).1 same))
