-- Bases that make a rack, and the locations of its cards, in plain numbers ("A rack of cards").
use Rattle.std.specs.Prelude.{◌≡◌, List, ℕ, ◌+◌, ◌%◌, ◌<◌, ◌≤◌, length, get_or}
use Rattle.racklaws.specs.Whom.{no_card, found, seek}

-- The base of the card at place i.
abbrev pub base_at : List ℕ → ℕ → ℕ
base_at bs i = get_or bs i 0

-- There are at most eight, each is a multiple of 8 from 000 to 7F8, and those at two places differ.
pub record GoodBases (bs : List ℕ) : Type 0 where
  pub few : length bs ≤ 8
  pub multiples : (i : ℕ) → i < length bs → base_at bs i % 8 ≡ 0
  pub last_base : (i : ℕ) → i < length bs → base_at bs i ≤ 0x7f8
  pub apart : (i j : ℕ) → i < length bs → j < length bs → base_at bs i ≡ base_at bs j → i ≡ j

-- The eight locations of each card are its four registers, twice, and no other address is a register of any card. No location is in two
-- cards. Two locations of one card are the same register exactly where their addresses agree modulo 4.
pub record Located (bs : List ℕ) : Type 0 where
  pub here : (i n : ℕ) → i < length bs → n < 8 → seek 0 (base_at bs i + n) bs ≡ found i (n % 4)
  pub nowhere : (a : ℕ) → ((i n : ℕ) → i < length bs → n < 8 → ¬ (a ≡ base_at bs i + n)) → seek 0 a bs ≡ no_card
  pub one_card : (i j n m : ℕ) → i < length bs → j < length bs → n < 8 → m < 8 → base_at bs i + n ≡ base_at bs j + m → i ≡ j
  pub same_register : (a b i r q : ℕ) → seek 0 a bs ≡ found i r → seek 0 b bs ≡ found i q → a % 4 ≡ b % 4 → r ≡ q
  pub only_then : (a b i r q : ℕ) → seek 0 a bs ≡ found i r → seek 0 b bs ≡ found i q → r ≡ q → a % 4 ≡ b % 4
