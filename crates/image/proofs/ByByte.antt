-- Numbers that are judged as one, byte by byte: what differs from another number is joined with the number that much above it, and masked.
-- Rests on bits' Tested.
use Rattle.std.proofs.Common.{◌≡◌, Bool, true, not, ◌&&◌, ◌||◌, ℕ, ◌+◌, ◌*◌, ◌/◌, ◌%◌, ◌^◌, ◌<◌, lt_of_le_of_lt, lit<, arith, T, eqb, ltb, eqb→eq}
use Rattle.std.proofs.Math.Nat.{mul_assoc}
use lib.Bits.{bit_and, bit_or, bit_xor, and_block, or_block, xor_block, or_lt, xor_lt, and_le_r}
use Rattle.std.proofs.lemmas.Bool.Decides.{nat_tests}
use Rattle.bits.proofs.Tested.{left as first, right as second, all, each, same, same_is}

-- What is left of a number, with what is carried to it from below.
abbrev pub left : (n other above mask carry : ℕ) → ℕ
left n other above mask carry = bit_and (bit_or (bit_xor n other) (bit_xor n other + above + carry)) mask

-- The same of a byte, to which nothing is carried.
abbrev byte_left : (b other above mask : ℕ) → ℕ
byte_left b other above mask = bit_and (bit_or (bit_xor b other) ((bit_xor b other + above) % 256)) mask

-- Nothing is left of a byte exactly where it fits, and then it carries nothing: by a test at every byte.
pub record ToldByByte (other above mask : ℕ) (fits : ℕ → Bool) : Type 0 where
  pub small : T (ltb other 256 && ltb mask 256)
  pub told : T (all 256 (λ b. same (eqb (byte_left b other above mask) 0) (fits b)))
  pub carries : T (all 256 (λ b. not (fits b) || eqb ((bit_xor b other + above) / 256) 0))

-- What is left of a number is a multiple exactly where its lowest bytes fit, and tells then what is left of those above them.
pub record Number (n other above mask multiple : ℕ) (fits : Bool) (upper : ℕ) : Type 0 where
  pub all_fit : fits ≡ true → left n other above mask 0 ≡ multiple * upper
  pub none_left : (m : ℕ) → left n other above mask 0 ≡ multiple * m → fits ≡ true

-- An operation on bits works on the lowest byte by itself.
lowest_apart : (op : ℕ → ℕ → ℕ) → ((k a b r s : ℕ) → r < 2 ^ k → s < 2 ^ k → op (a * 2 ^ k + r) (b * 2 ^ k + s) ≡ op a b * 2 ^ k + op r s)
    → (a b m n : ℕ) → a < 256 → b < 256 → op (a + 256 * m) (b + 256 * n) ≡ op a b + 256 * op m n
lowest_apart op block a b m n a_below b_below = grind (arith, block 8 m n a b a_below b_below)

module _ {other above mask : ℕ} {fits : ℕ → Bool} (asked : ToldByByte other above mask fits) (b : ℕ) (below : b < 256)
    {n others aboves masks multiple upper : ℕ} {rest : Bool} (number : Number n others aboves masks multiple rest upper) where
  abbrev whole : ℕ
  whole = left (b + 256 * n) (other + 256 * others) (above + 256 * aboves) (mask + 256 * masks) 0

  abbrev lower : ℕ
  lower = byte_left b other above mask

  abbrev carry : ℕ
  carry = (bit_xor b other + above) / 256

  mask_below : mask < 256
  mask_below = lit< (second (ltb other 256) (ltb mask 256) asked.small)

  apart : whole ≡ lower + 256 * left n others aboves masks carry
  apart =
      let x = bit_xor b other in
      let y = bit_xor n others in
      let sum = (x + above) % 256 in
      let other_below : other < 256 = lit< (first (ltb other 256) (ltb mask 256) asked.small) in
      let x_below : x < 256 = xor_lt 8 b other below other_below in
      let sum_below : sum < 256 = omega arith in
      grind (
        arith,
        lowest_apart bit_xor xor_block b other n others below other_below,
        lowest_apart bit_or or_block x sum y (y + aboves + carry) x_below sum_below,
        lowest_apart bit_and and_block (bit_or x sum) mask (bit_or y (y + aboves + carry)) masks (or_lt 8 x sum x_below sum_below) mask_below,
      )

  told : eqb lower 0 ≡ fits b
  told = same_is (eqb lower 0) (fits b) (each 256 (λ b. same (eqb (byte_left b other above mask) 0) (fits b)) asked.told b below)

  none_carried : fits b ≡ true → carry ≡ 0
  none_carried is = eqb→eq carry 0 (rw is at (each 256 (λ b. not (fits b) || eqb ((bit_xor b other + above) / 256) 0) asked.carries b below))

  pub with_lowest : Number (b + 256 * n) (other + 256 * others) (above + 256 * aboves) (mask + 256 * masks) (256 * multiple) (fits b && rest) upper
  with_lowest = record {
    all_fit = λ is. grind (arith, nat_tests, apart, told, none_carried, number.all_fit, mul_assoc 256 multiple upper);
    none_left = λ m is.
        let small : lower < 256 = lt_of_le_of_lt (and_le_r (bit_or (bit_xor b other) ((bit_xor b other + above) % 256)) mask) mask_below in
        grind (arith, nat_tests, apart, told, none_carried, number.none_left m, mul_assoc 256 multiple m, small);
  }
