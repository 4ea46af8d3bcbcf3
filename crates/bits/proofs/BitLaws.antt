-- Laws of bits: a byte is its eight bits, and each bit of what was assembled can be read back.
-- Rests on the tests of Tested and the table's law of Tabled.
use Rattle.std.proofs.Common.{◌≡◌, ◌∙◌, refl, ap, sym, Bool, true, false, cond, List, [], ◌∷◌, ℕ, zero, suc, ◌+◌, ◌*◌, ◌/◌, ◌%◌, ◌^◌, ◌<◌, div-one, lt_of_lt_of_le, arith, eqb, lit<, get_or, pow_pos, ne_eqb}
use native.Mathlib.Nat.{div-eq_of_lt, pow-zero, pow-succ', div-div-eq-div-mul, pow-le-pow_right}
use lib.Bits.{bit_and, and_mask}
use Rattle.bits.specs.Table.{table}
use Rattle.bits.specs.Bit.{bit_of, num, value_of, assembled, with_bit}
use Rattle.bits.proofs.Tested.{numbers}
use Rattle.bits.proofs.Tabled.{table_at}

num_below : (b : Bool) → num b < 2
num_below true = omega arith
num_below false = omega arith

num_is : (b : Bool) → eqb (num b) 1 ≡ b
num_is true = refl
num_is false = refl

-- Nothing but zeros in 0, and nothing above bit 7 in a byte.
none : (x n : ℕ) → x < 2 ^ n → bit_of x n ≡ false
unfolding bit_of
none x n h = rw (div-eq_of_lt h)

pub bit_above : (x n : ℕ) → x < 256 → 7 < n → bit_of x n ≡ false
bit_above x n hx hn = none x n (lt_of_lt_of_le hx (pow-le-pow_right (lit< tt) hn))

-- The mask 1 leaves of a number, shifted down to bit n, that bit.
pub masked : (x n : ℕ) → eqb (bit_and (x / 2 ^ n) 1) 1 ≡ bit_of x n
unfolding bit_of
masked x n = ap (λ (k : ℕ). eqb k 1) (and_mask (x / 2 ^ n) 1)

-- Bit n of a number that was put together is the n-th of its bits.
pub bit_of_value : (bs : List Bool) (n : ℕ) → bit_of (value_of bs) n ≡ get_or bs n false
unfolding bit_of value_of
bit_of_value [] n = none 0 n (pow_pos n)
bit_of_value (b ∷ bs) zero =
    let e : (num b + 2 * value_of bs) % 2 ≡ num b = omega (arith, num_below b) in
    rw (pow-zero 2, div-one, e) (num_is b)
bit_of_value (b ∷ bs) (suc n) =
    let e : (num b + 2 * value_of bs) / 2 ≡ value_of bs = omega (arith, num_below b) in
    rw (pow-succ' 2 n, ← div-div-eq-div-mul, e) (bit_of_value bs n)

-- Bit n of a byte that was assembled by a rule is the rule's.
pub bit_of_assembled : (f : ℕ → Bool) (n : ℕ) → n < 8 → bit_of (assembled f) n ≡ f n
bit_of_assembled f n h = bit_of_value (table f 8) n ∙ table_at f false 8 n h

-- Rules that agree on the eight bits assemble the same byte.
pub assembled_same : (f g : ℕ → Bool) → ((n : ℕ) → n < 8 → f n ≡ g n) → assembled f ≡ assembled g
assembled_same f g h =
    cc (h 0 (lit< tt), h 1 (lit< tt), h 2 (lit< tt), h 3 (lit< tt), h 4 (lit< tt), h 5 (lit< tt), h 6 (lit< tt), h 7 (lit< tt))

-- A byte is the byte of its bits.
pub assembled_bits : (x : ℕ) → x < 256 → assembled (bit_of x) ≡ x
unfolding bit_of value_of
assembled_bits = numbers 256 (λ x. assembled (bit_of x)) (λ x. x) tt

-- So a byte with the rule's bits is what the rule assembles.
pub byte_by_bits : (x : ℕ) (f : ℕ → Bool) → x < 256 → ((n : ℕ) → n < 8 → bit_of x n ≡ f n) → x ≡ assembled f
byte_by_bits x f hx h = sym (assembled_bits x hx) ∙ assembled_same (bit_of x) f h

-- What the contract of with_bit says of each bit.
pub bit_of_with : (x n : ℕ) (on : Bool) (k : ℕ) → k < 8 → bit_of (with_bit x n on) k ≡ cond (eqb k n) on (bit_of x k)
unfolding with_bit
bit_of_with x n on = bit_of_assembled (λ k. cond (eqb k n) on (bit_of x k))

-- There is no bit above 7 to put.
pub with_above : (x n : ℕ) (on : Bool) → x < 256 → 7 < n → with_bit x n on ≡ x
unfolding with_bit
with_above x n on hx hn =
    assembled_same (λ k. cond (eqb k n) on (bit_of x k)) (bit_of x)
    (λ k hk. let e : eqb k n ≡ false = ne_eqb k n (λ (p : k ≡ n). omega arith) in rw e)
    ∙ assembled_bits x hx
