-- Which chip is loaded from which bytes.
-- Rests on Having and Table, and on image's Long, ComesBack and OneImage.
use Rattle.std.proofs.Common.{◌≡◌, ◌∙◌, refl, sym, subst, Bool, true, false, List, ℕ, Some, None, length, ne_eqb}
use Rattle.chip.specs.declared.Chip.{Chip}
use Rattle.image.specs.Layout.{image_of}
use Rattle.image.specs.Loaded.{state_of}
use Rattle.image.specs.Good.{is_image, Bytes}
use Rattle.image.specs.Slices.{saved_in, loaded_from}
use Rattle.image.proofs.Long.{written_over}
use Rattle.image.proofs.ComesBack.{comes_back}
use Rattle.image.proofs.OneImage.{has_image_lem}
use Rattle.restored.specs.Having.{HasImage}
use Rattle.restored.specs.Table.{Tells}
use Rattle.restored.specs.Restoring.{TellsNone}
use Rattle.restored.proofs.Having.{has_by}
use Rattle.restored.proofs.Table.{told_is, image_where}

-- What is loaded from an image, and from other bytes.
pub loaded_good : (l : List ℕ) → is_image l ≡ true → loaded_from l ≡ Some (state_of l)
unfolding loaded_from
loaded_good l good = rw (good)

pub loaded_bad : (l : List ℕ) → is_image l ≡ false → loaded_from l ≡ None
unfolding loaded_from
loaded_bad l bad = rw (bad)

module _ (l : List ℕ) (bytes : Bytes l) where
  pub loads_told : (c : Chip) → HasImage c × Tells l c → loaded_from l ≡ Some c
  loads_told c (has, t) = loaded_good l ((image_where l bytes).1 (c, has, t)) ∙ rw (told_is l c bytes has t)

  pub told_by_load : (c : Chip) → loaded_from l ≡ Some c → HasImage c × Tells l c
  told_by_load c is = go (is_image l) refl
    where
      one : ((d : Chip) × HasImage d × Tells l d) → HasImage c × Tells l c
      one (d, has, t) =
          let same : Some d ≡ Some c = sym (loads_told d (has, t)) ∙ is in
          let back : d ≡ c = cc in
          subst (λ (c : Chip). HasImage c × Tells l c) back (has, t)

      go : (b : Bool) → is_image l ≡ b → HasImage c × Tells l c
      go true good = one ((image_where l bytes).0 good)
      go false bad = let never = rw (loaded_bad l bad) at is in cc

  pub loads_none : TellsNone l → loaded_from l ≡ None
  loads_none none = go (is_image l) refl
    where
      never : ((c : Chip) × HasImage c × Tells l c) → loaded_from l ≡ None
      never (c, has, t) = absurd (none c has t)

      go : (b : Bool) → is_image l ≡ b → loaded_from l ≡ None
      go true good = never ((image_where l bytes).0 good)
      go false bad = loaded_bad l bad

pub loads_other_length : (l : List ℕ) → ¬ (length l ≡ 96) → loaded_from l ≡ None
unfolding is_image
loads_other_length l other = loaded_bad l (rw (ne_eqb (length l) 96 other))

pub loads_back : (l : List ℕ) (c : Chip) → length l ≡ 96 → HasImage c → loaded_from (saved_in l c) ≡ Some c
loads_back l c long has =
    rw (written_over l c long, loaded_good (image_of c) (has_image_lem c (has_by c has)), comes_back c (has_by c has))
