-- Numbers in hexadecimal, written in capitals ("Script and program").
use Rattle.std.specs.Prelude.{List, [], ◌∷◌, ◌++◌, ℕ, ◌/◌, ◌%◌, get_or}
use Rattle.text.specs.Quoted.{codes}

-- The digit of the ones of a number.
abbrev pub digit : ℕ → ℕ
digit n = get_or (codes "0123456789ABCDEF") (n % 16) 0

-- A byte in two digits, its sixteens first; and a number of sixteen bits in four, its higher byte first.
abbrev pub two_digits : ℕ → List ℕ
two_digits b = digit (b / 16) ∷ digit b ∷ []

abbrev pub four_digits : ℕ → List ℕ
four_digits n = two_digits (n / 256) ++ two_digits (n % 256)
