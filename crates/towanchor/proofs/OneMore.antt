-- What is made of some items one after the other: of none nothing, and of one item more its own part behind the others'.
-- Rests on nothing.
use Rattle.std.proofs.Common.{◌≡◌, ◌∙◌, refl, ap, List, [], ◌∷◌, ◌++◌, append-nil, ℕ, ◌+◌, ◌<◌, length, take, get_or}
use mathlib.Core.List.{flat_map}
use Rattle.std.proofs.lemmas.Grind.{flat_map-append}
use Rattle.std.proofs.lemmas.List.{take_more}

module _ (part : ℕ → List ℕ) where
  pub none : flat_map part [] ≡ []
  unfolding flat_map
  none = refl

  pub one_more : (items : List ℕ) (i d : ℕ) → i < length items → flat_map part (take (i + 1) items) ≡ flat_map part (take i items) ++ part (get_or items i d)
  unfolding flat_map
  one_more items i d inside =
      ap (flat_map part) (take_more items i d inside)
      ∙ flat_map-append part (take i items) (get_or items i d ∷ [])
      ∙ ap (λ l. flat_map part (take i items) ++ l) (append-nil (part (get_or items i d)))
