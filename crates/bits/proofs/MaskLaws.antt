-- Laws of masks: `&`, `|` and `!` work bit by bit, and a mask with its complement chooses between two bytes.
-- Rests on Tested and BitLaws.
use Rattle.std.proofs.Common.{◌≡◌, ◌∙◌, refl, ap, Bool, true, false, cond, not, ◌&&◌, ◌||◌, List, [], ◌∷◌, get_or, ℕ, ◌*◌, ◌-◌, ◌/◌, ◌%◌, ◌^◌, ◌<◌, mod-lt, arith, T, eqb, eqb→eq, lit<}
use mir.Val.{bool_byte}
use lib.Bits.{bit_and, bit_or, and_shr, or_shr, and_mod, or_mod, and_lt, or_lt}
use Rattle.bits.specs.Bit.{bit_of, value_of, byte_of, assembled, with_bit, blend_of}
use Rattle.bits.proofs.Tested.{all, same, bits, bits_of_two, each_list}
use Rattle.bits.proofs.BitLaws.{bit_of_assembled, assembled_same, byte_by_bits}

-- An operation of masks works bit by bit: it commutes with shifts and remainders, and a test covers the two bits at one place.
module _ (op : ℕ → ℕ → ℕ) (on : Bool → Bool → Bool)
    (shifts : (x y n : ℕ) → op x y / 2 ^ n ≡ op (x / 2 ^ n) (y / 2 ^ n))
    (remains : (x y n : ℕ) → op x y % 2 ^ n ≡ op (x % 2 ^ n) (y % 2 ^ n))
    (tested : T (all 2 (λ u. all 2 (λ v. same (eqb (op u v) 1) (on (eqb u 1) (eqb v 1)))))) where
  bit_by_bit : (x y n : ℕ) → bit_of (op x y) n ≡ on (bit_of x n) (bit_of y n)
  unfolding bit_of
  bit_by_bit x y n =
      ap (λ (k : ℕ). eqb k 1) (ap (λ (k : ℕ). k % 2) (shifts x y n) ∙ remains (x / 2 ^ n) (y / 2 ^ n) 1)
      ∙ bits_of_two 2 2 (λ u v. eqb (op u v) 1) (λ u v. on (eqb u 1) (eqb v 1)) tested (x / 2 ^ n % 2) (y / 2 ^ n % 2)
      (mod-lt (x / 2 ^ n) (lit< tt)) (mod-lt (y / 2 ^ n) (lit< tt))

pub bit_and_lem : (x y n : ℕ) → bit_of (bit_and x y) n ≡ (bit_of x n && bit_of y n)
bit_and_lem = bit_by_bit bit_and ◌&&◌ and_shr and_mod tt

pub bit_or_lem : (x y n : ℕ) → bit_of (bit_or x y) n ≡ (bit_of x n || bit_of y n)
bit_or_lem = bit_by_bit bit_or ◌||◌ or_shr or_mod tt

pub bit_not : (x n : ℕ) → x < 256 → n < 8 → bit_of (255 - x) n ≡ not (bit_of x n)
unfolding bit_of
bit_not = bits_of_two 256 8 (λ x n. bit_of (255 - x) n) (λ x n. not (bit_of x n)) tt

-- A blend is assembled of its bits.
pub blend_assembled : (m x y : ℕ) → blend_of m x y ≡ assembled (λ k. cond (bit_of m k) (bit_of x k) (bit_of y k))
unfolding blend_of
blend_assembled m x y = refl

-- What the contract of blend says of each bit.
pub bit_of_blend : (m x y k : ℕ) → k < 8 → bit_of (blend_of m x y) k ≡ cond (bit_of m k) (bit_of x k) (bit_of y k)
unfolding blend_of
bit_of_blend m x y = bit_of_assembled (λ k. cond (bit_of m k) (bit_of x k) (bit_of y k))

-- What a mask and its complement leave of two bits is one of them, and so of two bytes.
either : (m a b : Bool) → (a && m || b && not m) ≡ cond m a b
either true true b = refl
either true false true = refl
either true false false = refl
either false true true = refl
either false true false = refl
either false false true = refl
either false false false = refl

pub masks_blend : (m x y : ℕ) → m < 256 → x < 256 → y < 256 → bit_or (bit_and x m) (bit_and y (255 - m)) ≡ blend_of m x y
unfolding blend_of
masks_blend m x y hm hx hy =
    byte_by_bits (bit_or (bit_and x m) (bit_and y (255 - m))) (λ k. cond (bit_of m k) (bit_of x k) (bit_of y k))
    (or_lt 8 (bit_and x m) (bit_and y (255 - m)) (and_lt 8 x m hx hm) (and_lt 8 y (255 - m) hy (omega arith)))
    (λ k hk. rw (bit_or_lem, bit_and_lem x m k, bit_and_lem y (255 - m) k, bit_not m k hm hk) (either (bit_of m k) (bit_of x k) (bit_of y k)))

-- A mask of one bit, and a byte that is all ones or all zeros: a blend of the two puts that bit.
one_bit : (n k : ℕ) → n < 8 → k < 8 → bit_of (1 * 2 ^ n % 256) k ≡ eqb k n
unfolding bit_of
one_bit n k hn hk = bits_of_two 8 8 (λ n k. bit_of (1 * 2 ^ n % 256) k) (λ n k. eqb k n) tt n k hn hk

full : (on : Bool) (k : ℕ) → k < 8 → bit_of (cond on 255 0) k ≡ on
unfolding bit_of
full true k h = bits 8 (λ k. bit_of 255 k) (λ k. true) tt k h
full false k h = bits 8 (λ k. bit_of 0 k) (λ k. false) tt k h

pub blend_puts : (x n : ℕ) (on : Bool) → n < 8 → blend_of (1 * 2 ^ n % 256) (cond on 255 0) x ≡ with_bit x n on
unfolding with_bit
blend_puts x n on hn =
    blend_assembled (1 * 2 ^ n % 256) (cond on 255 0) x
    ∙ assembled_same
    (λ k. cond (bit_of (1 * 2 ^ n % 256) k) (bit_of (cond on 255 0) k) (bit_of x k))
    (λ k. cond (eqb k n) on (bit_of x k))
    (λ k hk. rw (one_bit n k hn hk, full on k hk))

-- A byte's bits, each shifted to its place, joined by `|`: the byte of these bits, by a test at all 256 of them.
abbrev shifted : Bool → ℕ → ℕ
shifted b n = bool_byte b * 2 ^ n % 256

abbrev all_shifted : List Bool → ℕ
all_shifted bs =
    let at : ℕ → ℕ = λ n. shifted (get_or bs n false) n in
    bit_or (bit_or (bit_or (bit_or (bit_or (bit_or (bit_or (at 7) (at 6)) (at 5)) (at 4)) (at 3)) (at 2)) (at 1)) (bool_byte (get_or bs 0 false))

pub joined : (h g f e d c b a : Bool)
    → bit_or (bit_or (bit_or (bit_or (bit_or (bit_or (bit_or (shifted h 7) (shifted g 6)) (shifted f 5)) (shifted e 4)) (shifted d 3)) (shifted c 2)) (shifted b 1))
    (bool_byte a)
    ≡ byte_of h g f e d c b a
unfolding value_of
joined h g f e d c b a =
    let bs = a ∷ b ∷ c ∷ d ∷ e ∷ f ∷ g ∷ h ∷ [] in
    eqb→eq (all_shifted bs) (value_of bs) (each_list (λ bs. eqb (all_shifted bs) (value_of bs)) bs tt)
