-- The five saved images become those beside them: computed.
-- Rests on image's Long.
use Rattle.std.proofs.Common.{◌≡◌, ◌∙◌, refl, true, List, ℕ, length, eq-eqb}
use Rattle.bits.specs.Bit.{bit_of, value_of}
use Rattle.control.specs.Mode.{mode_of, input_of, strobed_input, strobed_output}
use Rattle.image.specs.Layout.{image_of}
use Rattle.image.proofs.Long.{written_over}
use Rattle.image.specs.OlderLoaded.{older_state}
use Rattle.image.specs.OlderGood.{is_older}
use Rattle.calls.specs.Calls.{convert_answer, convert_image}
use Rattle.restored.specs.SavedOlder.{five_saved, Becomes}

-- An older image is accepted where there is room for an image, and becomes that of the state that it tells.
becomes : (older image room : List ℕ) → is_older older ≡ true → image_of (older_state older) ≡ image → length room ≡ 96
    → (convert_answer older room ≡ 0) × (convert_image older room ≡ image)
unfolding convert_answer convert_image
becomes older image room good is long = (rw (good, eq-eqb (length room) 96 long), rw (good) (written_over room (older_state older) long ∙ is))

pub all_become : (room : List ℕ) → length room ≡ 96 → Becomes five_saved room
unfolding is_older older_state image_of strobed_input strobed_output mode_of input_of bit_of value_of
all_become room long = (
  becomes _ _ room refl refl long,
  (
    becomes _ _ room refl refl long,
    (
      becomes _ _ room refl refl long,
      (
        becomes _ _ room refl refl long,
        (becomes _ _ room refl refl long, tt),
      ),
    ),
  ),
)
