-- A list gone through place by place: what is ahead of a place.
-- Rests on nothing.
use Rattle.std.proofs.Common.{◌≡◌, ◌∙◌, ap, sym, List, ◌∷◌, ℕ, ◌+◌, ◌<◌, add-one, length, drop, get_or, drop-cons}

-- Ahead of a place stands what is there, and then what is ahead of the next.
pub ahead : (l : List ℕ) (at : ℕ) → at < length l → drop at l ≡ get_or l at 0 ∷ drop (at + 1) l
ahead l at inside = drop-cons l at 0 inside ∙ ap (λ n. get_or l at 0 ∷ drop n l) (sym (add-one at))
