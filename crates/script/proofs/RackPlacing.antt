-- The bases of a line, while they are read one after the other.
-- Rests on RackNaming.
use Rattle.std.proofs.Common.{◌≡◌, refl, sym, List, [], ◌∷◌, ◌++◌, append_assoc, append-nil, ℕ, min, ◌<◌, arith, length, length-append}
use Rattle.rack.specs.Bases.{most_cards}
use Rattle.rack.specs.State.{built_of}
use Rattle.script.specs.RackBases.{base_digits, no_base, leading_base, bases_of_line, no_rack}
use Rattle.script.proofs.RackNaming.{too_many, missing_digits}

-- The first base of a line is that of its first four codes, or of all that it has.
first_base : (digits later : List ℕ) → length digits ≡ min base_digits (length (digits ++ later)) → 0 < length (digits ++ later)
    → bases_of_line (digits ++ later) ≡ leading_base digits ∷ bases_of_line later
unfolding bases_of_line leading_base
first_base [] later cut some = absurd (omega (arith, cut, some))
first_base (a ∷ []) [] cut some = refl
first_base (a ∷ []) (b ∷ later) cut some = absurd (omega (arith, cut))
first_base (a ∷ b ∷ []) [] cut some = refl
first_base (a ∷ b ∷ []) (c ∷ later) cut some = absurd (omega (arith, cut))
first_base (a ∷ b ∷ c ∷ []) [] cut some = refl
first_base (a ∷ b ∷ c ∷ []) (d ∷ later) cut some = absurd (omega (arith, cut))
first_base (a ∷ b ∷ c ∷ d ∷ []) later cut some = refl
first_base (a ∷ b ∷ c ∷ d ∷ e ∷ more) later cut some = absurd (omega (arith, cut))

blank : (codes : List ℕ) → length codes ≡ 0 → bases_of_line codes ≡ []
unfolding bases_of_line
blank [] none = refl
blank (a ∷ codes) none = absurd (omega (arith, none))

-- The bases that were read, and those of what is left, which is cut into pieces of a base's size, are the line's.
pub record Placed (line bases left : List ℕ) (size : ℕ) : Type 0 where
  pub four : size ≡ base_digits
  pub comes : bases ++ bases_of_line left ≡ bases_of_line line

-- A turn takes digits off the front of what is left.
module _ (line bases left : List ℕ) (size : ℕ) (digits later : List ℕ) (so : Placed line bases left size) (whole : left ≡ digits ++ later)
    (cut : length digits ≡ min size (length left)) (some : 0 < length left) where
  goes_on_lem : bases ++ (leading_base digits ∷ bases_of_line later) ≡ bases_of_line line
  goes_on_lem = rw (← first_base digits later (rw (so.four, whole) at cut) (rw (whole) at some), ← whole) so.comes

  -- Where every place is taken, there are too many; where the digits write no base, there is no rack; else the base is one more.
  pub one_too_many : length bases ≡ most_cards → no_rack ≡ built_of (bases_of_line line)
  one_too_many full =
      let long = length-append bases (leading_base digits ∷ bases_of_line later) in
      sym (too_many (bases_of_line line) (rw (← goes_on_lem) (omega (arith, long, full))))

  pub none_there : no_base ≡ leading_base digits → no_rack ≡ built_of (bases_of_line line)
  none_there none = sym (rw (← goes_on_lem, ← none) (missing_digits bases (bases_of_line later)))

  pub one_more_lem : (b : ℕ) → b ≡ leading_base digits → Placed line (bases ++ (b ∷ [])) later size
  one_more_lem b is = record { four = so.four; comes = rw (append_assoc bases (b ∷ []) (bases_of_line later), is) goes_on_lem }

pub all_placed : (line bases left : List ℕ) (size : ℕ) → Placed line bases left size → length left ≡ 0 → bases ≡ bases_of_line line
all_placed line bases left size so none = rw (← so.comes, blank left none, append-nil bases)
