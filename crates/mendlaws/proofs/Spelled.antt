-- A captured line spells what it is when it is mended, and of the lines that are made of digits no other.
-- Rests on bits' Tested and text's WrittenBack.
use Rattle.std.proofs.Common.{◌≡◌, ◌∙◌, refl, ap, sym, subst, Bool, true, false, cond, List, [], ◌∷◌, map, ℕ, ◌+◌, ◌-◌, ◌<◌, ◌≤◌, arith, eqb, ltb, get_or, drop, eqb-true, ne_eqb, ltb-true, ltb-false}
use Rattle.bits.proofs.Tested.{numbers}
use Rattle.bus.specs.Event.{Event}
use Rattle.text.specs.Digits.{digits}
use Rattle.text.proofs.WrittenBack.{no_place}
use Rattle.mend.specs.Line.{cr, small_digits, without_cr, raised, mended}
use Rattle.mendlaws.specs.Says.{Digit, figure, letter, Byte, Says, reset, begin_read, end_cycle, begin_write, levels}
use Rattle.mendlaws.specs.Spells.{StandsFor, itself, small, Spells, done, cr as cr_left, next}
use Rattle.mendlaws.specs.Reasons.{AllDigits, over, digit}

-- What is raised: the codes from 97 to 102, by a test, and no code below or above.
pub raised_below : (b : ℕ) → b < 97 → raised b ≡ b
unfolding raised
raised_below b few = numbers 97 raised (λ b. b) tt b few

pub raised_small : (b : ℕ) → 97 ≤ b → b ≤ 102 → raised b ≡ b - 32
unfolding raised
raised_small b many few =
    let place : b ≡ 97 + (b - 97) = omega (arith, many) in
    ap raised place ∙ numbers 6 (λ n. raised (97 + n)) (λ n. 65 + n) tt (b - 97) (omega (arith, few)) ∙ omega (arith, many)

pub raised_above : (b : ℕ) → 103 ≤ b → raised b ≡ b
unfolding raised
raised_above b many = ap (λ n. get_or (drop 10 digits) n b) (no_place small_digits 0 103 b refl many)

-- So each code stands for what it is raised to, and of the digits for no other.
stands_for_raised : (b : ℕ) → StandsFor b (raised b)
stands_for_raised b = go (ltb b 97) refl (ltb b 103) refl
  where
    go : (below : Bool) → ltb b 97 ≡ below → (up_to : Bool) → ltb b 103 ≡ up_to → StandsFor b (raised b)
    go true l up_to u = itself (sym (raised_below b (ltb-true b 97 l)))
    go false l true u =
        let many = ltb-false b 97 l in
        let few = ltb-true b 103 u in
        small many (omega (arith, few)) (omega (arith, many, raised_small b many (omega (arith, few))))
    go false l false u = itself (sym (raised_above b (ltb-false b 103 u)))

module _ {c n : ℕ} (digit : Digit c n) where
  -- The codes of digits lie between 48 and 70.
  in_between : (48 ≤ c) × (c ≤ 70)
  in_between = go digit
    where
      go : Digit c n → (48 ≤ c) × (c ≤ 70)
      go (figure few is) = (omega (arith, is), omega (arith, is, few))
      go (letter many few is) = (omega (arith, is), omega (arith, is, few))

  pub digit_raised : (b : ℕ) → StandsFor b c → raised b ≡ c
  digit_raised b (itself is) = raised_below b (omega (arith, is, in_between.1)) ∙ is
  digit_raised b (small many few is) = raised_small b many few ∙ omega (arith, is)

  no_cr : (b : ℕ) → StandsFor b c → eqb b cr ≡ false
  no_cr b (itself is) = ne_eqb b cr (λ e. omega (arith, e, is, in_between.0))
  no_cr b (small many few is) = ne_eqb b cr (λ e. omega (arith, e, many))

-- Each event is said in digits.
two_digits_lem : {h l b : ℕ} {cs : List ℕ} → Byte h l b → AllDigits cs → AllDigits (h ∷ l ∷ cs)
two_digits_lem byte all = digit byte.first (digit byte.second all)

kind_digits : (n : ℕ) → n < 10 → {cs : List ℕ} → AllDigits cs → AllDigits (48 ∷ (48 + n) ∷ cs)
kind_digits n few all = digit {n = 0} (figure (omega arith) refl) (digit (figure few refl) all)

pub said_in_digits : {bytes : List ℕ} {e : Event} → Says bytes e → AllDigits bytes
said_in_digits reset = kind_digits 0 (omega arith) over
said_in_digits (begin_read a) = kind_digits 1 (omega arith) (two_digits_lem a over)
said_in_digits end_cycle = kind_digits 2 (omega arith) over
said_in_digits (begin_write a d) = kind_digits 3 (omega arith) (two_digits_lem a (two_digits_lem d over))
said_in_digits (levels p d) = kind_digits 5 (omega arith) (two_digits_lem p (two_digits_lem d over))

pub spelled : {bs cs : List ℕ} → AllDigits cs → Spells bs cs → mended bs ≡ cs
unfolding without_cr mended
spelled over done = refl
spelled over cr_left = refl
spelled (digit first all) (next {b} stands done) = rw (no_cr first b stands) (ap (λ c. c ∷ []) (digit_raised first b stands))
spelled (digit first all) (next {b} stands cr_left) = ap (λ c. c ∷ []) (digit_raised first b stands)
spelled (digit first all) (next {b} stands (next {b = d} {bs = bs} also rest)) =
    λ i. digit_raised first b stands i ∷ spelled {bs = d ∷ bs} all (next also rest) i

pub spells_mended : (bs : List ℕ) → Spells bs (mended bs)
unfolding without_cr mended
spells_mended [] = done
spells_mended (b ∷ []) = go (eqb b cr) refl
  where
    go : (t : Bool) → eqb b cr ≡ t → Spells (b ∷ []) (map raised (cond t [] (b ∷ [])))
    go true is = subst (λ b. Spells (b ∷ []) []) (sym (eqb-true b cr is)) cr_left
    go false is = next (stands_for_raised b) done
spells_mended (b ∷ d ∷ bs) = next (stands_for_raised b) (spells_mended (d ∷ bs))
