-- Which calls are refused with 8, in plain numbers, and what a refusal leaves ("A host in C", "The 82C55A").
use Rattle.std.specs.Prelude.{◌≡◌, true, false, List, ℕ, ◌%◌, ◌<◌, ◌≤◌, length}
use Rattle.image.specs.Good.{is_image}
use Rattle.image.specs.OlderGood.{is_older}
use Rattle.calls.specs.Calls.{power_up_answer, power_up_image, power_up_image_with, power_up_as_answer, power_up_as_image, convert_answer, convert_image, step_answer, step_image, pins_answer, tally_answer, explain_answer}

-- Bytes that are no image: the step, the pin view, the tallies and the explanation answer 8, whatever the operands, and the step leaves each
-- byte as it was.
pub record RefusedBytes (l : List ℕ) : Type 0 where
  pub step : (k x d : ℕ) → step_answer l k x d ≡ 8
  pub step_leaves : (k x d : ℕ) → step_image l k x d ≡ l
  pub pins : (p : ℕ) → pins_answer l p ≡ 8
  pub tally : (k n : ℕ) → tally_answer l k n ≡ 8
  pub explain : (g : ℕ) → explain_answer l g ≡ 8

-- Bytes are no image, and are refused as such.
abbrev pub NoImage : List ℕ → Type 0
NoImage l = (is_image l ≡ false) × RefusedBytes l

-- An image: the refusal of each of these calls, which is its answer modulo 256, is at most 5.
pub record AcceptedBytes (l : List ℕ) : Type 0 where
  pub step : (k x d : ℕ) → step_answer l k x d % 256 ≤ 5
  pub pins : (p : ℕ) → pins_answer l p % 256 ≤ 5
  pub tally : (k n : ℕ) → tally_answer l k n % 256 ≤ 5
  pub explain : (g : ℕ) → explain_answer l g % 256 ≤ 5

-- A call that writes over the bytes l is refused with 8, and what it leaves are these bytes.
abbrev pub Refused : ℕ → List ℕ → List ℕ → Type 0
Refused answer left l = (answer ≡ 8) × (left ≡ l)

-- Every power-up is accepted where there are 96 bytes, and the edition, where one is named, is 0 or 1. Otherwise it is refused.
pub record PowersUp (l : List ℕ) : Type 0 where
  pub accepted : length l ≡ 96 → power_up_answer l ≡ 0
  pub accepted_as : (ed : ℕ) → length l ≡ 96 → ed ≤ 1 → power_up_as_answer l ed ≡ 0
  pub other_length : ¬ (length l ≡ 96) → Refused (power_up_answer l) (power_up_image l) l
  pub other_length_with : (a b c : ℕ) → ¬ (length l ≡ 96) → Refused (power_up_answer l) (power_up_image_with l a b c) l
  pub other_length_as : (ed a b c : ℕ) → ¬ (length l ≡ 96) → Refused (power_up_as_answer l ed) (power_up_as_image l ed a b c) l
  pub no_edition : (ed a b c : ℕ) → 1 < ed → Refused (power_up_as_answer l ed) (power_up_as_image l ed a b c) l

-- The conversion of the bytes o into the bytes l is accepted where the first are an older image and there are 96 of the second. Otherwise it is
-- refused.
pub record Converts (o l : List ℕ) : Type 0 where
  pub accepted : is_older o ≡ true → length l ≡ 96 → convert_answer o l ≡ 0
  pub no_older : is_older o ≡ false → Refused (convert_answer o l) (convert_image o l) l
  pub other_length : ¬ (length l ≡ 96) → Refused (convert_answer o l) (convert_image o l) l
