-- An image is as long as an image is, and over as many bytes a chip's image is saved.
-- Rests on bits' Logic.
use Rattle.std.proofs.Common.{◌≡◌, Bool, true, ◌&&◌, List, ℕ, eqb, length, eqb-true, eq-eqb}
use Rattle.bits.proofs.Logic.{both}
use Rattle.chip.specs.declared.Chip.{Chip}
use Rattle.image.specs.Places as places
use Rattle.image.specs.Layout.{image_of}
use Rattle.image.specs.Good.{bytes_fit, is_image}
use Rattle.image.specs.Slices.{saved_in}

-- What asks for a length, and for more, is met by no other length.
pub long_and_more : (l : List ℕ) (n : ℕ) (more : Bool) → (eqb (length l) n && more) ≡ true → length l ≡ n
long_and_more l n more good = eqb-true _ _ (both (eqb (length l) n) more good).0

pub is_long : (l : List ℕ) → is_image l ≡ true → length l ≡ places.length
unfolding is_image
is_long l good = long_and_more l places.length (bytes_fit l) good

pub written_over : (l : List ℕ) (c : Chip) → length l ≡ places.length → saved_in l c ≡ image_of c
unfolding saved_in
written_over l c long = rw (eq-eqb (length l) places.length long)
