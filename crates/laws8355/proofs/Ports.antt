-- A port of the 8355 by its number, and what events make of it: one law for both ports.
-- Rests on nothing.
use Rattle.std.proofs.Common.{◌≡◌, ◌∙◌, refl, ap, false, cond, ℕ, zero, suc, ◌+◌, ◌<◌, arith, eqb, lit<, eq-eqb, ne_eqb}
use Rattle.i8355.specs.declared.Port.{Port}
use Rattle.i8355.specs.declared.Ports.{Ports}
use Rattle.i8355.specs.declared.Chip8355.{Chip8355}
use Rattle.i8355.specs.Registers.{with_direction, with_latch, with_outside, after_reset, after_write_ends, after_levels}
use Rattle.i8355.specs.Views.{pins_of_port, pins_of}

abbrev pub port_at : Ports → ℕ → Port
port_at s p = cond (eqb p 0) s.a s.b

-- What holds of A and of B holds of every port.
pub by_port : (P : ℕ → Type 0) → P 0 → P 1 → (p : ℕ) → p < 2 → P p
by_port P a b zero there = a
by_port P a b (suc zero) there = b
by_port P a b (suc (suc p)) there = absurd (omega (arith, there))

-- A port above B is neither A nor B.
pub above : (q k : ℕ) → k < 2 → eqb (suc (suc q)) k ≡ false
above q k low = ne_eqb (suc (suc q)) k (λ e. omega (arith, low, e))

-- Above 3 there is nothing to write to.
pub written_nowhere : (s : Ports) (x d : ℕ) → 3 < x → after_write_ends s x d ≡ s
unfolding after_write_ends
written_nowhere s x d none =
    rw (
      ne_eqb x 0 (λ e. omega (arith, none, e)),
      ne_eqb x 1 (λ e. omega (arith, none, e)),
      ne_eqb x 2 (λ e. omega (arith, none, e)),
      ne_eqb x 3 (λ e. omega (arith, none, e)),
    )

pub at_pins : (c : Chip8355) (p : ℕ) → p < 2 → pins_of c p ≡ pins_of_port (port_at c.ports p)
unfolding pins_of
at_pins c = by_port (λ p. pins_of c p ≡ pins_of_port (port_at c.ports p)) refl refl

module _ (s : Ports) where
  pub at_reset : (p : ℕ) → p < 2 → port_at (after_reset s) p ≡ with_direction (port_at s p) 0
  unfolding after_reset
  at_reset = by_port (λ p. port_at (after_reset s) p ≡ with_direction (port_at s p) 0) refl refl

  -- What a write to y leaves of port p: another latch where y is the port, another direction where it is the register two above, and else all.
  abbrev WrittenAt : ℕ → ℕ → ℕ → Type 0
  WrittenAt d y p =
      port_at (after_write_ends s y d) p ≡ cond (eqb y p) (with_latch (port_at s p) d) (cond (eqb y (p + 2)) (with_direction (port_at s p) d) (port_at s p))

  pub written_at : (d y p : ℕ) → p < 2 → WrittenAt d y p
  unfolding after_write_ends
  written_at d zero = by_port (WrittenAt d 0) refl refl
  written_at d (suc zero) = by_port (WrittenAt d 1) refl refl
  written_at d (suc (suc zero)) = by_port (WrittenAt d 2) refl refl
  written_at d (suc (suc (suc zero))) = by_port (WrittenAt d 3) refl refl
  written_at d (suc (suc (suc (suc y)))) =
      let n = suc (suc (suc (suc y))) in
      λ p there. ap (λ (s : Ports). port_at s p) (written_nowhere s n d (omega arith))
      ∙ rw (ne_eqb n p (λ e. omega (arith, there, e)), ne_eqb n (p + 2) (λ e. omega (arith, there, e)))

  -- What levels on x leave of it.
  abbrev LevelsAt : ℕ → ℕ → ℕ → Type 0
  LevelsAt v x p = port_at (after_levels s x v) p ≡ cond (eqb x p) (with_outside (port_at s p) v) (port_at s p)

  pub levels_at_lem : (v x p : ℕ) → p < 2 → LevelsAt v x p
  unfolding after_levels
  levels_at_lem v zero = by_port (LevelsAt v 0) refl refl
  levels_at_lem v (suc zero) = by_port (LevelsAt v 1) refl refl
  levels_at_lem v (suc (suc x)) = by_port (LevelsAt v (suc (suc x))) (rw (above x 0 (lit< tt), above x 1 (lit< tt))) (rw (above x 0 (lit< tt), above x 1 (lit< tt)))

  -- So the port's own registers and lines change, and what is done elsewhere leaves it.
  module _ (d p : ℕ) (there : p < 2) where
    pub at_write : port_at (after_write_ends s p d) p ≡ with_latch (port_at s p) d
    at_write = written_at d p p there ∙ rw (eq-eqb p p refl)

    pub at_direction : port_at (after_write_ends s (p + 2) d) p ≡ with_direction (port_at s p) d
    at_direction = written_at d (p + 2) p there ∙ rw (ne_eqb (p + 2) p (λ e. omega (arith, e)), eq-eqb (p + 2) (p + 2) refl)

    pub at_levels : port_at (after_levels s p d) p ≡ with_outside (port_at s p) d
    at_levels = levels_at_lem d p p there ∙ rw (eq-eqb p p refl)

    pub written_elsewhere : (y : ℕ) → ¬ (y ≡ p) → ¬ (y ≡ p + 2) → port_at (after_write_ends s y d) p ≡ port_at s p
    written_elsewhere y own direction = written_at d y p there ∙ rw (ne_eqb y p own, ne_eqb y (p + 2) direction)

    pub levels_elsewhere : (x : ℕ) → ¬ (x ≡ p) → port_at (after_levels s x d) p ≡ port_at s p
    levels_elsewhere x own = levels_at_lem d x p there ∙ rw (ne_eqb x p own)
