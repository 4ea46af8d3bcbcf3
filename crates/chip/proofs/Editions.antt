-- The editions by number: a number that has one is that edition's, and which have one is told by two tests.
-- Rests on nothing.
use Rattle.std.proofs.Common.{arith, ◌≡◌, ◌∙◌, refl, sym, ap, cond, not, eqb, ltb, ℕ, zero, suc, Some, None, unwrap_or, lt-ltb, ne_eqb}
use Rattle.std.proofs.lemmas.Option.{none-some}
use Rattle.chip.specs.declared.Edition.{Edition}
use Rattle.chip.specs.declared.Edition.TheVariants.{Older, Newer}
use Rattle.chip.specs.State.{edition_number, edition_numbered}

pub none_above : (n : ℕ) → edition_numbered (suc (suc n)) ≡ None
none_above n = rw (ne_eqb (suc (suc n)) 0 (λ e. omega (arith, e)), ne_eqb (suc (suc n)) 1 (λ e. omega (arith, e)))

pub edition_tested : (n : ℕ) → edition_numbered n ≡ cond (not (ltb 1 n)) (Some (cond (eqb n 0) Older Newer)) None
edition_tested zero = refl
edition_tested (suc zero) = refl
edition_tested (suc (suc n)) = rw (none_above n, lt-ltb 1 (suc (suc n)) (omega arith))

pub edition_back : (n : ℕ) (e : Edition) → Some e ≡ edition_numbered n → edition_number e ≡ n
edition_back zero e is = ap (λ o. edition_number (unwrap_or o Older)) is
edition_back (suc zero) e is = ap (λ o. edition_number (unwrap_or o Older)) is
edition_back (suc (suc n)) e is = absurd (none-some e (sym (is ∙ none_above n)))
