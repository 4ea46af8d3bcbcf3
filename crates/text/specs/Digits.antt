-- Bytes in hexadecimal: two digits each, in capitals ("Script and program").
use Rattle.std.specs.Prelude.{cond, ◌&&◌, List, [], ◌∷◌, ℕ, suc, ◌+◌, ◌*◌, ◌/◌, ◌%◌, eqb, ltb, get_or}

-- The codes of the sixteen digits, 0 to 9 and A to F, in their order. There is no other digit: no small letter, no blank.
abbrev pub digits : List ℕ
digits = 48 ∷ 49 ∷ 50 ∷ 51 ∷ 52 ∷ 53 ∷ 54 ∷ 55 ∷ 56 ∷ 57 ∷ 65 ∷ 66 ∷ 67 ∷ 68 ∷ 69 ∷ 70 ∷ []

-- The place of a code in a list, counted from n; one past the last place where it is not there.
abbrev pub place_from : ℕ → List ℕ → ℕ → ℕ
place_from n [] code = n
place_from n (x ∷ xs) code = cond (eqb x code) n (place_from (suc n) xs code)

-- What a code is worth as a digit; 16 where it is none.
unfoldable pub digit_value : ℕ → ℕ
digit_value code = place_from 0 digits code

-- The code of the digit worth n % 16.
unfoldable pub digit_code : ℕ → ℕ
digit_code n = get_or digits (n % 16) 0

-- A byte written out: the digit of its sixteens, and that of the rest.
abbrev pub in_digits : ℕ → List ℕ
in_digits byte = digit_code (byte / 16) ∷ digit_code byte ∷ []

-- What stands where no byte was written: every byte is below it.
abbrev pub no_byte : ℕ
no_byte = 256

-- The byte that two codes write; none where they are not both digits.
unfoldable pub pair_value : ℕ → ℕ → ℕ
pair_value high low = cond (ltb (digit_value high) 16 && ltb (digit_value low) 16) (16 * digit_value high + digit_value low) no_byte
