-- Bases in a list: what is among them, and how many make a rack.
-- Rests on the laws of truth values.
use Rattle.std.proofs.Common.{◌≡◌, refl, Bool, true, not, ◌&&◌, List, [], ◌∷◌, ℕ, ◌≤◌, eqb, leb, length, get_or, take, drop, ◌-◌, arith, leb-true}
use Rattle.std.proofs.lemmas.List.{take_rest}
use Rattle.std.specs.List.{list_any}
use Rattle.bits.proofs.Logic.{both, turned}
use Rattle.rack.specs.Bases.{most_cards, is_base, is_among, are_bases, makes_rack}

-- A base is among some where one of them is equal to it.
pub among_any : (b : ℕ) (bs : List ℕ) → list_any (λ c. eqb c b) bs ≡ is_among b bs
unfolding is_among
among_any b [] = refl
among_any b (c ∷ cs) = rw (turned c b, among_any b cs)

-- Some bases are what the first is, whether it comes again behind itself, and what those behind it are.
abbrev pub behind_first : List ℕ → List ℕ
behind_first bases = take (length bases - 1) (drop 1 bases)

pub first_and_later : (bases : List ℕ) → 1 ≤ length bases → (base again : Bool)
    → base ≡ is_base (get_or bases 0 0) → again ≡ list_any (λ c. eqb c (get_or bases 0 0)) (behind_first bases)
    → are_bases bases ≡ (base && (not again && are_bases (behind_first bases)))
unfolding are_bases
first_and_later [] some base again is comes = absurd (omega (arith, some))
first_and_later (b ∷ bs) some base again is comes = rw (comes, is, take_rest (b ∷ bs) 1, among_any b bs) refl

-- Bases that make a rack are at most eight.
pub few : (bs : List ℕ) → makes_rack bs ≡ true → length bs ≤ most_cards
unfolding makes_rack
few bs e = leb-true (length bs) most_cards (both (leb (length bs) most_cards) (are_bases bs) e).0
