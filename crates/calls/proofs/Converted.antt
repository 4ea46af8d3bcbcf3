-- What becomes of an older image: the image of the state that it tells, of the older edition, in which nothing was planted or struck; and
-- bad bytes are refused.
-- Rests on image's SameBytes, ComesBack, OneImage, Long, OlderComesBack, OlderLong and OlderOneImage.
use Rattle.std.proofs.Common.{◌≡◌, ◌∙◌, refl, ap, true, false, List, ℕ, arith, w8, Fits, length, eq-eqb, ne_eqb}
use Rattle.chip.specs.declared.Chip.{Chip}
use Rattle.image.specs.Places as places
use Rattle.image.specs.Layout.{image_of}
use Rattle.image.specs.Loaded.{byte_at, state_of}
use Rattle.image.specs.Good.{has_image, is_image, Bytes}
use Rattle.image.specs.Slices.{saved_in}
use Rattle.image.proofs.ComesBack.{comes_back}
use Rattle.image.proofs.OneImage.{has_image_lem}
use Rattle.image.proofs.Long.{written_over}
use Rattle.image.proofs.SameBytes.{bytes_by}
use Rattle.image.specs.OlderPlaces as older_places
use Rattle.image.specs.OlderLayout.{older_of}
use Rattle.image.specs.OlderLoaded.{older_state}
use Rattle.image.specs.OlderGood.{is_older}
use Rattle.image.specs.OlderSlices.{converted_in}
use Rattle.image.specs.Before.{FromBefore}
use Rattle.image.proofs.OlderComesBack as older
use Rattle.image.proofs.OlderLong.{is_long}
use Rattle.image.proofs.OlderOneImage.{older_where, tells_such, converted}
use Rattle.calls.specs.Calls.{convert_answer, convert_image}

-- What the writing of an older image leaves of a slice of any length is what the call leaves.
pub converted_so : (o l : List ℕ) → ((i : ℕ) → Fits w8 (byte_at o i)) → is_older o ≡ true → converted_in o l ≡ convert_image o l
unfolding convert_image converted_in saved_in
converted_so o l each good = rw (good, eq-eqb (length o) older_places.length (is_long o good), converted o (bytes_by o each) good) refl

module _ (o l : List ℕ) where
  -- Bytes that are no older image: number 8, and nothing is written.
  pub convert_bad : is_older o ≡ false → (convert_answer o l ≡ 8) × (convert_image o l ≡ l)
  unfolding convert_answer convert_image
  convert_bad bad = (rw (bad), rw (bad))

  module _ (bytes : Bytes o) (good : is_older o ≡ true) (long : length l ≡ places.length) where
    -- Accepted, and the bytes are the image of the state that the older image tells.
    pub converts : convert_answer o l ≡ 0
    unfolding convert_answer
    converts = rw (good, eq-eqb (length l) places.length long)

    pub convert_same : convert_image o l ≡ image_of (older_state o)
    unfolding convert_image
    convert_same = rw (good) (written_over l (older_state o) long)

    -- So they are an image, and tell that state.
    pub convert_good : is_image (convert_image o l) ≡ true
    convert_good = ap is_image convert_same ∙ has_image_lem (older_state o) (tells_such o bytes good)

    pub convert_tells : state_of (convert_image o l) ≡ older_state o
    convert_tells = ap state_of convert_same ∙ comes_back (older_state o) (tells_such o bytes good)

-- Of every state of the older edition with an image, in which nothing was planted or struck, the older image becomes the image.
pub brought_over : (c : Chip) (l : List ℕ) → has_image c ≡ true → FromBefore c → length l ≡ places.length → convert_image (older_of c) l ≡ image_of c
unfolding convert_image
brought_over c l has before long =
    rw (older_where c before.0, has, written_over l (older_state (older_of c)) long) (ap image_of (older.comes_back c before))

-- An older image is no image, for its length: every call that asks for an image answers it with 8.
pub no_image : (o : List ℕ) → is_older o ≡ true → is_image o ≡ false
unfolding is_image
no_image o good = rw (ne_eqb (length o) places.length (λ e. omega (arith, e, is_long o good)))
