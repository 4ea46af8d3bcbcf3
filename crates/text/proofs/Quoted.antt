-- Who answers every text alike answers the quoted ones alike.
-- Rests on nothing.
use Rattle.std.proofs.Common.{◌≡◌, refl, ap₂, List, [], ◌∷◌, ℕ}
use Rattle.text.specs.Quoted.{codes, Text, answered}

pub answered_alike : (f g : List ℕ → List ℕ) → ((text : List ℕ) → f text ≡ g text) → (ts : List Text) → answered f ts ≡ answered g ts
answered_alike f g same [] = refl
answered_alike f g same (t ∷ ts) =
    ap₂ (λ (first : List ℕ) (others : List (List ℕ)). first ∷ others) (same (codes t.script)) (answered_alike f g same ts)
