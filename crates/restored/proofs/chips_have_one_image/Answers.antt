-- One image of each chip, and none of the others.
-- Rests on Having and Table, and on image's Fitting, SameBytes and OneImage.
use Rattle.std.proofs.Common.{◌≡◌, ◌∙◌, sym, subst, true, false, List, ℕ, ◌↔◌}
use Rattle.chip.specs.declared.Chip.{Chip}
use Rattle.image.specs.Layout.{image_of}
use Rattle.image.specs.Good.{has_image, is_image, Bytes}
use Rattle.image.proofs.Fitting.{image_where}
use Rattle.image.proofs.SameBytes.{same_bytes_lem}
use Rattle.image.proofs.OneImage.{has_image_lem, tells_such, one_image, others_refused}
use Rattle.restored.specs.Having.{HasImage}
use Rattle.restored.specs.Table.{Tells}
use Rattle.restored.specs.Restoring.{IsImageOf, SavedOfNone}
use Rattle.restored.proofs.Having.{has_so, has_by}
use Rattle.restored.proofs.Table.{told_layout}
use Rattle.restored.proofs.chips_have_one_image.Goals as goal

-- Two images from which one chip is restored, and two lists of bytes that tell one.
one : (l m : List ℕ) (c : Chip) → Bytes l → Bytes m → IsImageOf l c → IsImageOf m c → l ≡ m
one l m c bl bm x y = one_image l m bl bm x.0 y.0 (x.1 ∙ sym y.1)

told : (l m : List ℕ) (c : Chip) → Bytes l → Bytes m → HasImage c → Tells l c → Tells m c → l ≡ m
told l m c bl bm has t u = sym (told_layout l c bl has t) ∙ told_layout m c bm has u

-- A chip that has none.
no_other : (l : List ℕ) (c : Chip) → Bytes l → ¬ HasImage c → ¬ IsImageOf l c
no_other l c bytes none is = none (has_so c (subst (λ (c : Chip). has_image c ≡ true) is.1 (tells_such l bytes is.0)))

saved_where : (c : Chip) → (is_image (image_of c) ≡ true) ↔ HasImage c
saved_where c = (λ good. has_so c (sym (image_where c) ∙ good), λ has. has_image_lem c (has_by c has))

refused_others : (l : List ℕ) → Bytes l → SavedOfNone l → is_image l ≡ false
refused_others l bytes none = others_refused l bytes (λ c has. none c (has_so c has))

pub returns : goal.returns
returns c = record { one = one; told = told; again = same_bytes_lem; none = no_other; saved = saved_where; others = refused_others }
