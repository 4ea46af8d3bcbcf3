-- Bits of a byte in plain arithmetic: what it means to take one, to put one, and to assemble a byte of them.
use Rattle.std.specs.Prelude.{Bool, cond, List, [], ◌∷◌, ℕ, ◌+◌, ◌*◌, ◌/◌, ◌%◌, ◌^◌, eqb}
use Rattle.bits.specs.Table.{table}

-- Bit n of x is x / 2^n % 2. A byte has no bit above 7: there the quotient is 0, and the bit is clear.
unfoldable pub bit_of : ℕ → ℕ → Bool
bit_of x n = eqb (x / 2 ^ n % 2) 1

-- A bit's number.
abbrev pub num : Bool → ℕ
num b = cond b 1 0

-- The number of which these are the bits, bit 0 first.
unfoldable pub value_of : List Bool → ℕ
value_of [] = 0
value_of (b ∷ bs) = num b + 2 * value_of bs

-- The byte of which these are the bits 7 to 0.
abbrev pub byte_of : Bool → Bool → Bool → Bool → Bool → Bool → Bool → Bool → ℕ
byte_of h g f e d c b a = value_of (a ∷ b ∷ c ∷ d ∷ e ∷ f ∷ g ∷ h ∷ [])

-- The byte of which bit n is f n.
abbrev pub assembled : (ℕ → Bool) → ℕ
assembled f = value_of (table f 8)

-- The byte x with bit n put to on. There is no bit above 7 to put: x stays as it is.
unfoldable pub with_bit : ℕ → ℕ → Bool → ℕ
with_bit x n on = assembled (λ k. cond (eqb k n) on (bit_of x k))

-- The byte that has the bits of x where the mask has a one, and the bits of y elsewhere.
unfoldable pub blend_of : ℕ → ℕ → ℕ → ℕ
blend_of mask x y = assembled (λ k. cond (bit_of mask k) (bit_of x k) (bit_of y k))
