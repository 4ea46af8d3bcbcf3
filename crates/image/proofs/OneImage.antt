-- A state that meets the conditions has exactly one image, and all other bytes are refused.
-- Rests on Fitting and SameBytes.
use Rattle.std.proofs.Common.{◌≡◌, ◌∙◌, refl, ap, sym, Bool, true, false, List, ℕ}
use Rattle.chip.specs.declared.Chip.{Chip}
use Rattle.image.specs.Layout.{image_of}
use Rattle.image.specs.Loaded.{state_of}
use Rattle.image.specs.Good.{has_image, is_image, Bytes}
use Rattle.image.proofs.Fitting.{image_where}
use Rattle.image.proofs.SameBytes.{same_bytes_lem}

-- The bytes of a state with an image are accepted. That they tell the state is `comes_back`.
pub has_image_lem : (c : Chip) → has_image c ≡ true → is_image (image_of c) ≡ true
has_image_lem c has = image_where c ∙ has

-- What an image tells is a state that has one.
pub tells_such : (l : List ℕ) → Bytes l → is_image l ≡ true → has_image (state_of l) ≡ true
tells_such l bytes good = sym (image_where (state_of l)) ∙ ap is_image (same_bytes_lem l bytes good) ∙ good

-- Two images of one state are one.
pub one_image : (l m : List ℕ) → Bytes l → Bytes m → is_image l ≡ true → is_image m ≡ true → state_of l ≡ state_of m → l ≡ m
one_image l m bl bm gl gm same = sym (same_bytes_lem l bl gl) ∙ ap image_of same ∙ same_bytes_lem m bm gm

-- Bytes that are no state's image are refused.
pub others_refused : (l : List ℕ) → Bytes l → ((c : Chip) → has_image c ≡ true → ¬ (image_of c ≡ l)) → is_image l ≡ false
others_refused l bytes none = go (is_image l) refl
  where
    go : (b : Bool) → is_image l ≡ b → b ≡ false
    go true good = absurd (none (state_of l) (tells_such l bytes good) (same_bytes_lem l bytes good))
    go false bad = refl
