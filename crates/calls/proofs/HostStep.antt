-- The step of an image is the step: what it leaves is the image of the state after, refusals included, and bad bytes are left alone.
-- Rests on image's SameBytes and chip's Outcome.
use Rattle.std.proofs.Common.{◌≡◌, ◌∙◌, refl, ap, sym, subst, Bool, true, false, cond, List, ℕ, eqb}
use borrow.Author.Tests.{eqb-false}
use Rattle.bus.specs.Device.{Given}
use Rattle.chip.specs.declared.Chip.{Chip}
use Rattle.chip.specs.Step.{step_of}
use Rattle.chip.proofs.Outcome.{step_refuses, step_number}
use Rattle.image.specs.Layout.{image_of}
use Rattle.image.specs.Loaded.{state_of}
use Rattle.image.specs.Good.{is_image, Bytes}
use Rattle.image.proofs.SameBytes.{same_bytes_lem}
use Rattle.calls.specs.Calls.{packed, step_answer, step_image}

module _ (l : List ℕ) (k x d : ℕ) where
  -- The same number and the same byte.
  pub host_answer : is_image l ≡ true → step_answer l k x d ≡ packed (step_of (state_of l) k x d).number (step_of (state_of l) k x d).byte 0
  unfolding step_answer
  host_answer good = rw (good)

  stays : ¬ ((step_of (state_of l) k x d).number ≡ 0) → (step_of (state_of l) k x d).state ≡ state_of l
  stays h = ap (λ (r : Given Chip). r.state) (step_refuses (state_of l) k x d (λ e. h (step_number (state_of l) k x d ∙ e)))

  -- What is so of the image of the state after an accepted event, and of the bytes and their own state where the event is refused, is so of
  -- what the call leaves and the state after.
  pub by_number : (P : List ℕ → Chip → Type 0) → is_image l ≡ true
      → P (image_of (step_of (state_of l) k x d).state) (step_of (state_of l) k x d).state → P l (state_of l)
      → P (step_image l k x d) (step_of (state_of l) k x d).state
  unfolding step_image
  by_number P good after before = rw (good) (go (eqb (step_of (state_of l) k x d).number 0) refl)
    where
      go : (b : Bool) → eqb (step_of (state_of l) k x d).number 0 ≡ b
          → P (cond b (image_of (step_of (state_of l) k x d).state) l) (step_of (state_of l) k x d).state
      go true accepted = after
      go false refused = subst (P l) (sym (stays (eqb-false _ _ refused))) before

  -- Decode, step, encode: a refusal, which writes nothing, leaves the same bytes.
  pub host_step : Bytes l → is_image l ≡ true → step_image l k x d ≡ image_of (step_of (state_of l) k x d).state
  host_step bytes good = by_number (λ m c. m ≡ image_of c) good refl (sym (same_bytes_lem l bytes good))

  -- Bad bytes: number 8, whatever the event, and nothing is written.
  pub bad_answer : is_image l ≡ false → step_answer l k x d ≡ 8
  unfolding step_answer
  bad_answer bad = rw (bad)

  pub bad_stays : is_image l ≡ false → step_image l k x d ≡ l
  unfolding step_image
  bad_stays bad = rw (bad)
