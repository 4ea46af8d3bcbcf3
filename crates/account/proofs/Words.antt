-- Mode words with the same bits 0 to 6 have the same place in the summary; so bit 7 is asked for nothing.
-- Rests on bits' Logic and laws' PlainBits.
use Rattle.std.proofs.Common.{◌≡◌, ◌∙◌, refl, ap, ap₂, sym, Bool, true, false, cond, ℕ, ◌+◌, ◌/◌, ◌%◌, ◌^◌, ◌<◌, arith, eqb, lit<, get_or, eqb-true, eq-eqb}
use borrow.Author.Tests.{eqb-false}
use Rattle.bits.specs.Bit.{bit_of}
use Rattle.bits.proofs.Logic.{either_way}
use Rattle.control.specs.declared.Group.{Group}
use Rattle.control.specs.declared.Group.TheVariants.{A, B}
use Rattle.laws.proofs.PlainBits.{by_pin, bit_as_byte}
use Rattle.account.specs.Summary.{Column, column_of, io, summary, signal_at, is_in}
use Rattle.account.specs.Promise.{with_bit7}

-- Words with the same bits 0 to 6.
abbrev pub Alike : ℕ → ℕ → Type 0
Alike u w = (k : ℕ) → k < 7 → bit_of u k ≡ bit_of w k

module _ (u w : ℕ) (alike : Alike u w) where
  pub column_alike : (g : Group) → column_of u g ≡ column_of w g
  column_alike A = rw (alike 6 (lit< tt), alike 5 (lit< tt), alike 4 (lit< tt))
  column_alike B = rw (alike 2 (lit< tt), alike 1 (lit< tt))

  pub signal_alike : (n : ℕ) → signal_at u n ≡ signal_at w n
  signal_alike n = ap₂ (λ (b a : Column). get_or (summary b a) n io) (column_alike B) (column_alike A)

  pub in_alike : (n : ℕ) → is_in u n ≡ is_in w n
  in_alike n = rw (alike 0 (lit< tt), alike 3 (lit< tt))

-- A number has the low bits of its lowest byte,
pub byte_alike : (w : ℕ) → Alike (w % 256) w
byte_alike w k h = bit_as_byte w k (omega (arith, h))

-- and keeps them where bit 7 is set.
set_alike : (w : ℕ) → Alike (w + 128) w
unfolding bit_of
set_alike w k h =
    ap (λ (b : ℕ). eqb b 1)
    (by_pin (λ k. k < 7 → (w + 128) / 2 ^ k % 2 ≡ w / 2 ^ k % 2)
    (λ h. omega arith) (λ h. omega arith) (λ h. omega arith) (λ h. omega arith) (λ h. omega arith) (λ h. omega arith) (λ h. omega arith)
    (λ h. absurd (omega (arith, h))) k (omega (arith, h)) h)

pub with_bit_7_alike : (w : ℕ) → Alike (with_bit7 w) w
with_bit_7_alike w k h = either_way (λ v. bit_of v k) (bit_of w k) (bit_of w 7) w (w + 128) refl (set_alike w k h)

-- Bit 7 is set then, and so a word is read back bit by bit.
pub with_bit_7_set : (w : ℕ) → bit_of (with_bit7 w) 7 ≡ true
unfolding bit_of
with_bit_7_set w = go (eqb (w / 2 ^ 7 % 2) 1) refl
  where
    go : (set : Bool) → eqb (w / 2 ^ 7 % 2) 1 ≡ set → eqb (cond set w (w + 128) / 2 ^ 7 % 2) 1 ≡ true
    go true is = is
    go false is = let clear = eqb-false (w / 2 ^ 7 % 2) 1 is in eq-eqb ((w + 128) / 2 ^ 7 % 2) 1 (omega (arith, clear))

pub with_bit_7_bits : (w n : ℕ) → n < 8 → cond (eqb n 7) true (bit_of w n) ≡ bit_of (with_bit7 w) n
with_bit_7_bits w n below = go (eqb n 7) refl
  where
    go : (seven : Bool) → eqb n 7 ≡ seven → cond seven true (bit_of w n) ≡ bit_of (with_bit7 w) n
    go true is = sym (ap (bit_of (with_bit7 w)) (eqb-true n 7 is) ∙ with_bit_7_set w)
    go false is = let other = eqb-false n 7 is in sym (with_bit_7_alike w n (omega (arith, below, other)))
