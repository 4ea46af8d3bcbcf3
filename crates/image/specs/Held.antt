-- How the bytes of an image hold a chip: the one that they tell; whole, if they are its image; and a cycle at an address that there is, 0 to 3.
use Rattle.std.specs.Prelude.{◌≡◌, List, ℕ, ◌<◌}
use Rattle.std.proofs.Common.{◌∙◌, ap, sym}
use Rattle.chip.specs.Held.{Way}
use Rattle.image.specs.Layout.{image_of}
use Rattle.image.specs.Loaded.{state_of}
use Rattle.image.specs.Good.{Told}

-- Bytes that are those of the state that they tell are told by it: each state has one such list of bytes.
pub told_once : (l m : List ℕ) → Told l → Told m → state_of l ≡ state_of m → l ≡ m
told_once l m told other same = sym told ∙ ap image_of same ∙ other

abbrev pub in_bytes : Way (List ℕ)
in_bytes = record { chip = state_of; Whole = Told; Reaches = λ x. x < 4; one_each = told_once }
