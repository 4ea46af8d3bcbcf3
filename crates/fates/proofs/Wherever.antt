-- What holds wherever an event stands in a history, of the first event and of the later ones.
-- Rests on nothing.
use Rattle.std.proofs.Common.{◌≡◌, refl, ap, subst, List, [], ◌∷◌, ◌++◌}
use Rattle.bus.specs.Event.{Event}
use Rattle.fates.specs.Conditions.{Wherever}

-- An empty history has no events.
pub nowhere : (P : List Event → Event → Type 0) → Wherever P []
nowhere P [] later x is = absurd cc
nowhere P (b ∷ before) later x is = absurd cc

module _ (P : List Event → Event → Type 0) (e : Event) (es : List Event) where
  pub at_first : Wherever P (e ∷ es) → P [] e
  at_first at = at [] es e refl

  pub at_later : Wherever P (e ∷ es) → Wherever (λ before x. P (e ∷ before) x) es
  at_later at before later x is = at (e ∷ before) later x (ap (λ (l : List Event). e ∷ l) is)

  pub at_both : P [] e → Wherever (λ before x. P (e ∷ before) x) es → Wherever P (e ∷ es)
  at_both first others [] later x is = let same : e ≡ x = cc in subst (λ (y : Event). P [] y) same first
  at_both first others (b ∷ before) later x is =
      let same : e ≡ b = cc in
      let rest : es ≡ before ++ x ∷ later = cc in
      subst (λ (y : Event). P (y ∷ before) x) same (others before later x rest)
