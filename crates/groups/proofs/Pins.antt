-- The pins of port C, and bytes that differ only at the pins on which the other group acts.
-- Rests on Alike, and on bits' Logic, BitLaws and Sum.
use Rattle.std.proofs.Common.{◌≡◌, ◌∙◌, refl, ap, sym, Bool, true, false, not, ◌&&◌, ℕ, ◌<◌, arith, eqb, ltb-true, lt-ltb, le-ltb, eqb-true, eq-eqb, ne_eqb}
use Rattle.bits.specs.Bit.{bit_of, assembled}
use Rattle.bits.proofs.Logic.{contrary}
use Rattle.bits.proofs.BitLaws.{bit_of_assembled}
use Rattle.bits.proofs.Sum.{byte_same}
use Rattle.control.specs.declared.Group.{Group}
use Rattle.control.specs.declared.Group.TheVariants.{A, B}
use Rattle.chip.specs.Handshakes.{group_at}
use Rattle.groups.specs.Belongings.{its_pin, at_its_pins}
use Rattle.groups.specs.Doings.{other, acts_on, elsewhere}
use Rattle.groups.proofs.Alike.{SameAt, at_its_pin}

-- What a byte has at the group's pins are its own bits there.
pub bit_at : (g : Group) (x n : ℕ) → n < 8 → its_pin g n ≡ true → bit_of (at_its_pins g x) n ≡ bit_of x n
bit_at g x n small its = bit_of_assembled (λ n. its_pin g n && bit_of x n) n small ∙ rw (its)

-- No group acts on a pin of the other.
not_acted : (g : Group) (n : ℕ) → its_pin g n ≡ true → acts_on (other g) n ≡ false
not_acted A n its = let above = ltb-true _ n its in le-ltb n _ (omega (arith, above))
not_acted B n its = let below = ltb-true n _ its in le-ltb _ n (omega (arith, below))

-- A pin on which the other group acts is none of the group's.
pub acted_apart : (g : Group) (n k : ℕ) → acts_on (other g) n ≡ true → its_pin g k ≡ true → eqb k n ≡ false
acted_apart g n k acts its =
    ne_eqb k n (λ same. contrary (acts_on (other g) n) (ap (acts_on (other g)) (sym same) ∙ not_acted g k its) acts)

-- The signals at a pin on which a group acts are that group's, for the pin is.
acted_its : (g : Group) (n : ℕ) → acts_on g n ≡ true → its_pin g n ≡ true
acted_its A n acts = let above = ltb-true _ n acts in lt-ltb _ n (omega (arith, above))
acted_its B n acts = let below = ltb-true n _ acts in lt-ltb n _ (omega (arith, below))

pub acted_group : (g : Group) (n : ℕ) → acts_on g n ≡ true → group_at n ≡ g
acted_group g n acts = at_its_pin g n (acted_its g n acts)

-- Bit n of a byte, where the group does not act on that pin.
abbrev bit_elsewhere : Group → ℕ → ℕ → Bool
bit_elsewhere g x n = not (acts_on g n) && bit_of x n

assembled_elsewhere : (g : Group) (x : ℕ) → assembled (bit_elsewhere g x) ≡ elsewhere g x
assembled_elsewhere g x = byte_same (bit_elsewhere g x) (bit_elsewhere g x) (λ n small. refl)

pub bit_elsewhere_lem : (g : Group) (x n : ℕ) → n < 8 → acts_on g n ≡ false → bit_of (elsewhere g x) n ≡ bit_of x n
bit_elsewhere_lem g x n small none =
    ap (λ b. bit_of b n) (sym (assembled_elsewhere g x)) ∙ bit_of_assembled (bit_elsewhere g x) n small ∙ rw (none)

-- Bytes that differ only where the other group acts have the same bits at the group's pins.
pub same_at : (g : Group) (x y : ℕ) → eqb (elsewhere (other g) x) (elsewhere (other g) y) ≡ true → SameAt g x y
same_at g x y same n small its =
    let none = not_acted g n its in
    sym (bit_elsewhere_lem (other g) x n small none)
    ∙ ap (λ b. bit_of b n) (eqb-true _ _ same)
    ∙ bit_elsewhere_lem (other g) y n small none

-- Said pin by pin.
pub same_elsewhere : (g : Group) (x y : ℕ) → ((n : ℕ) → n < 8 → acts_on g n ≡ false → bit_of x n ≡ bit_of y n)
    → eqb (elsewhere g x) (elsewhere g y) ≡ true
same_elsewhere g x y same =
    eq-eqb _ _ (sym (assembled_elsewhere g x) ∙ byte_same (bit_elsewhere g x) (bit_elsewhere g y) (λ n small. go n small (acts_on g n) refl))
  where
    go : (n : ℕ) → n < 8 → (acts : Bool) → acts_on g n ≡ acts → (not acts && bit_of x n) ≡ (not acts && bit_of y n)
    go n small true acts = refl
    go n small false acts = same n small acts
