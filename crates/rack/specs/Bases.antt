-- Which bases make a rack ("A rack of cards").
use Rattle.std.specs.Prelude.{Bool, true, false, not, ◌&&◌, ◌||◌, List, [], ◌∷◌, ℕ, ◌%◌, eqb, leb, length}

-- The numbers that a rack has beside those of a device: 9, the bases make no rack; 10, there is no card at this address or place.
abbrev pub bad_rack_number : ℕ
bad_rack_number = 9

abbrev pub no_card_number : ℕ
no_card_number = 10

-- A rack has room for eight cards, and each of them is eight byte locations wide.
abbrev pub most_cards : ℕ
most_cards = 8

abbrev pub card_width : ℕ
card_width = 8

-- The last base.
abbrev pub last_base : ℕ
last_base = 0x7f8

-- The bases are the multiples of 8 from 000 to 7F8.
unfoldable pub is_base : ℕ → Bool
is_base b = eqb (b % card_width) 0 && leb b last_base

-- The base is among some.
unfoldable pub is_among : ℕ → List ℕ → Bool
is_among b [] = false
is_among b (c ∷ cs) = eqb b c || is_among b cs

-- Each is a base, and none comes again behind itself.
unfoldable pub are_bases : List ℕ → Bool
are_bases [] = true
are_bases (b ∷ bs) = is_base b && (not (is_among b bs) && are_bases bs)

-- A list of bases makes a rack where there are at most eight, and these are bases of which no two are equal. None at all make one.
unfoldable pub makes_rack : List ℕ → Bool
makes_rack bs = leb (length bs) most_cards && are_bases bs
