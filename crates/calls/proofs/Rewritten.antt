-- An image that is written whole: at power-up, of an edition by its number; and of an older image.
-- Rests on chip's Editions and Converted.
use Rattle.std.proofs.Common.{◌≡◌, ◌∙◌, refl, sym, ap, true, false, List, ℕ, Some, None, zero, suc, arith, eqb, lt-ltb, length, unwrap_or}
use Rattle.std.proofs.lemmas.Option.{none-some}
use Rattle.chip.specs.declared.Edition.{Edition}
use Rattle.chip.specs.declared.Edition.TheVariants.{Older, Newer}
use Rattle.chip.specs.State.{levels_by, power_up_as, edition_numbered}
use Rattle.chip.proofs.Editions.{none_above}
use Rattle.image.specs.Places as places
use Rattle.image.specs.Slices.{saved_in}
use Rattle.image.specs.OlderGood.{is_older}
use Rattle.calls.specs.Calls.{power_up_answer, power_up_as_answer, power_up_as_image, convert_answer, convert_image}
pub use Rattle.calls.proofs.Converted.{converted_so}

module _ (l : List ℕ) where
  pub answer_known : (n : ℕ) (e : Edition) → Some e ≡ edition_numbered n → power_up_as_answer l n ≡ power_up_answer l
  unfolding power_up_as_answer
  answer_known zero e is = refl
  answer_known (suc zero) e is = refl
  answer_known (suc (suc n)) e is = absurd (none-some e (sym (is ∙ none_above n)))

  pub image_known : (n : ℕ) (e : Edition) (a b c : ℕ) → Some e ≡ edition_numbered n
      → power_up_as_image l n a b c ≡ saved_in l (power_up_as e (levels_by a b c))
  unfolding power_up_as_image
  image_known zero e a b c is = ap (λ o. saved_in l (power_up_as (unwrap_or o Older) (levels_by a b c))) (sym is)
  image_known (suc zero) e a b c is = ap (λ o. saved_in l (power_up_as (unwrap_or o Older) (levels_by a b c))) (sym is)
  image_known (suc (suc n)) e a b c is = absurd (none-some e (sym (is ∙ none_above n)))

  pub answer_unknown : (n : ℕ) → None ≡ edition_numbered n → power_up_as_answer l n ≡ 8
  unfolding power_up_as_answer
  answer_unknown zero none = absurd (none-some Older none)
  answer_unknown (suc zero) none = absurd (none-some Newer none)
  answer_unknown (suc (suc n)) none = rw (lt-ltb 1 (suc (suc n)) (omega arith))

  pub image_unknown : (n a b c : ℕ) → None ≡ edition_numbered n → power_up_as_image l n a b c ≡ l
  unfolding power_up_as_image
  image_unknown zero a b c none = absurd (none-some Older none)
  image_unknown (suc zero) a b c none = absurd (none-some Newer none)
  image_unknown (suc (suc n)) a b c none = rw (lt-ltb 1 (suc (suc n)) (omega arith))

pub ruleset by_edition = (answer_known, image_known, answer_unknown, image_unknown)

module _ (o l : List ℕ) where
  pub answer_bad : is_older o ≡ false → convert_answer o l ≡ 8
  unfolding convert_answer
  answer_bad bad = rw (bad)

  pub image_bad : is_older o ≡ false → convert_image o l ≡ l
  unfolding convert_image
  image_bad bad = rw (bad)

  pub answer_good : is_older o ≡ true → convert_answer o l ≡ power_up_answer l
  unfolding convert_answer
  answer_good good = rw (good)

  pub no_room : is_older o ≡ true → eqb (length l) places.length ≡ false → convert_image o l ≡ l
  unfolding convert_image saved_in
  no_room good other = rw (good, other)

pub ruleset from_older = (answer_bad, image_bad, answer_good, no_room, converted_so)
