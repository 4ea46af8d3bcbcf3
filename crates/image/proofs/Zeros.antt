-- Bytes that are 0, and an edition before them, told by the numbers that they are together.
-- Rests on nothing.
use Rattle.std.proofs.Common.{◌≡◌, ◌∙◌, refl, ap, sym, Bool, not, ◌&&◌, List, [], ◌∷◌, ◌++◌, ℕ, ◌+◌, ◌*◌, ◌≤◌, arith, eqb, ltb, le-ltb}
use Rattle.std.proofs.lemmas.Bool.Decides.{nat_tests}
use lib.Bits.{bit_or, or_add_and, and_le_r}
use Rattle.bits.specs.Table.{from}
use Rattle.std.proofs.Math.Bool.{and_assoc}
use Rattle.image.specs.Places as places
use Rattle.image.specs.Loaded.{byte_at, eight_at}
use Rattle.image.specs.Good.{edition_fits, all_zero, unused_zero}

-- Bytes as one number, the lowest first.
abbrev value : List ℕ → ℕ
value [] = 0
value (b ∷ bs) = b + 256 * value bs

both_zero : (b v : ℕ) → eqb (b + 256 * v) 0 ≡ (eqb b 0 && eqb v 0)
both_zero b v = grind (arith, nat_tests)

value_zero : (bs : List ℕ) → eqb (value bs) 0 ≡ all_zero bs
value_zero [] = refl
value_zero (b ∷ bs) = both_zero b (value bs) ∙ ap (λ (z : Bool). eqb b 0 && z) (value_zero bs)

-- What follows 0s is 0 where all is.
in_two : (xs ys : List ℕ) → (all_zero xs && all_zero ys) ≡ all_zero (xs ++ ys)
in_two [] ys = refl
in_two (x ∷ xs) ys = and_assoc (eqb x 0) (all_zero xs) (all_zero ys) ∙ ap (λ (z : Bool). eqb x 0 && z) (in_two xs ys)

-- An edition is the lowest byte of a number, and all else is 0.
told : (b u v w : ℕ) → (not (ltb 1 (b + 256 * u)) && eqb (bit_or v w) 0) ≡ (edition_fits b && (eqb u 0 && (eqb v 0 && eqb w 0)))
told b u v w = grind (arith, nat_tests, or_add_and v w, and_le_r v w)

module _ (l : List ℕ) where
  abbrev others : ℕ
  others = bit_or (eight_at l (places.edition + 8)) (eight_at l (places.edition + 16))

  abbrev fits : Bool
  fits = edition_fits (byte_at l places.edition)

  pub all_fit : (not (ltb 1 (eight_at l places.edition)) && eqb others 0) ≡ (fits && unused_zero l)
  all_fit =
      let first = from (byte_at l) places.unused 7 in
      let second = from (byte_at l) (places.edition + 8) 8 in
      let third = from (byte_at l) (places.edition + 16) 8 in
      let of_first : eight_at l places.edition ≡ byte_at l places.edition + 256 * value first = omega arith in
      let of_second : eight_at l (places.edition + 8) ≡ value second = omega arith in
      let of_third : eight_at l (places.edition + 16) ≡ value third = omega arith in
      (λ i. not (ltb 1 (of_first i)) && eqb (bit_or (of_second i) (of_third i)) 0)
      ∙ told (byte_at l places.edition) (value first) (value second) (value third)
      ∙ (λ i. fits && (value_zero first i && (value_zero second i && value_zero third i)))
      ∙ ap (λ (z : Bool). fits && z) (ap (λ (z : Bool). all_zero first && z) (in_two second third) ∙ in_two first (second ++ third))

  pub up_to_newer : eight_at l places.edition ≤ 1 → eqb others 0 ≡ (fits && unused_zero l)
  up_to_newer is = ap (λ (z : Bool). not z && eqb others 0) (sym (le-ltb 1 (eight_at l places.edition) is)) ∙ all_fit
