-- The CR at the end of a line: what is left of the line without it.
-- Rests on nothing.
use Rattle.std.proofs.Common.{◌≡◌, ◌∙◌, refl, ap, sym, ◌≢◌, Bool, true, false, cond, List, [], ◌∷◌, ◌++◌, ℕ, ◌≤◌, arith, eqb, length, ne_eqb, Option, Some, None, Bor, unwrap_or}
use Rattle.std.specs.Option.{MatchOption}
use Rattle.mend.specs.Line.{cr, without_cr}

-- By what stands before it, or where nothing does.
drops_one : (front : List ℕ) → without_cr (front ++ (cr ∷ [])) ≡ front
unfolding without_cr
drops_one [] = refl
drops_one (b ∷ []) = refl
drops_one (b ∷ d ∷ front) = ap (λ (l : List ℕ). b ∷ l) (drops_one (d ∷ front))

drops_none : (line : List ℕ) → ((front : List ℕ) → line ≢ front ++ (cr ∷ [])) → without_cr line ≡ line
unfolding without_cr
drops_none [] none = refl
drops_none (b ∷ []) none = rw (ne_eqb b cr (λ is. none [] (ap (λ b. b ∷ []) is))) refl
drops_none (b ∷ d ∷ bytes) none =
    ap (λ (l : List ℕ). b ∷ l) (drops_none (d ∷ bytes) (λ front is. none (b ∷ front) (ap (λ (l : List ℕ). b ∷ l) is)))

-- So it is dropped by what a suffix leaves of the line.
pub stripped : (line : Bor (List ℕ)) (left : Option (Bor (List ℕ)))
    → MatchOption left ((front : List ℕ) → line.now ≢ front ++ (cr ∷ [])) (λ x. line.now ≡ x.now ++ (cr ∷ []))
    → (unwrap_or left line).now ≡ without_cr line.now
stripped line None none = sym (drops_none line.now none)
stripped line (Some x) is = sym (ap without_cr is ∙ drops_one x.now)

-- Either way no byte is added.
pub no_longer : (line : List ℕ) → length (without_cr line) ≤ length line
unfolding without_cr
no_longer [] = omega arith
no_longer (b ∷ []) = go (eqb b cr)
  where
    go : (t : Bool) → length (cond t [] (b ∷ [])) ≤ 1
    go true = omega arith
    go false = omega arith
no_longer (b ∷ d ∷ bytes) = omega (arith, no_longer (d ∷ bytes))
