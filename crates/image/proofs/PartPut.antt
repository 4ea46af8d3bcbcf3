-- A part that is put into the bytes of an image: they hold the chip with that part, and hold it whole if they held a chip whole.
-- Rests on ComesBack, BusSaved and SameBytes.
use Rattle.std.proofs.Common.{◌≡◌, ◌∙◌, refl, ap, sym, true, List, ℕ, ◌+◌, length, slice_set, lt-ltb}
use Rattle.bits.specs.Table.{from}
use Rattle.bus.specs.declared.Phase.{Phase}
use Rattle.bus.specs.declared.Phase.TheVariants.{Idle, Reading, Writing}
use Rattle.control.specs.declared.Group.{Group}
use Rattle.control.specs.declared.Group.TheVariants.{A, B}
use Rattle.chip.specs.declared.channel.Side.{Side}
use Rattle.chip.specs.declared.channel.Side.TheVariants.{Input, Output}
use Rattle.chip.specs.declared.channel.Channel.{Channel}
use Rattle.chip.specs.declared.Enables.{Enables}
use Rattle.chip.specs.declared.Edition.TheVariants.{Newer}
use Rattle.chip.specs.declared.Chip.{Chip}
use Rattle.chip.specs.State.{with_word, with_channel, with_outside, with_latch, with_lines, with_enables}
use Rattle.chip.specs.Held.{Becomes, Leaves, Holds, core_put, phase_put, on_channel, latched}
use Rattle.image.specs.Places as places
use Rattle.image.specs.Layout.{number_of, enables_byte, image_of}
use Rattle.image.specs.Loaded.{byte_at, state_of}
use Rattle.image.specs.Good.{names_its_place}
use Rattle.image.specs.Held.{in_bytes}
use Rattle.image.specs.Slices.{channel_saved_in, bus_saved_in}
use Rattle.image.proofs.ComesBack.{enables_back, seven_back, phase_back}
use Rattle.image.proofs.BusSaved.{over_bus}
use Rattle.image.proofs.SameBytes.{spelled}

names : (ph : Phase) → Holds in_bytes ph → names_its_place Newer ph ≡ true
names Idle h = refl
names (Reading x) h = lt-ltb x 4 h
names (Writing x d) h = lt-ltb x 4 h

module _ (l : List ℕ) (long : length l ≡ places.length) where
  -- What f puts leaves what the rule makes, if the bytes one by one tell that with it, and if of the image of a chip it makes the image of that.
  left_by : (f : List ℕ → List ℕ) (rule : Chip → Chip) → state_of (f (from (byte_at l) 0 places.length)) ≡ rule (state_of l)
      → f (image_of (state_of l)) ≡ image_of (rule (state_of l)) → Becomes in_bytes l (f l) rule
  left_by f rule told over =
      let held : state_of (f l) ≡ rule (state_of l) = ap (λ (m : List ℕ). state_of (f m)) (sym (spelled l places.length long)) ∙ told in
      record { held = held; kept = λ whole. ap image_of held ∙ sym over ∙ ap f whole }

  pub phase_left : (ph : Phase) → Holds in_bytes ph → Becomes in_bytes l (bus_saved_in l ph) (phase_put ph)
  unfolding state_of bus_saved_in
  phase_left ph h =
      left_by (λ (m : List ℕ). bus_saved_in m ph) (phase_put ph)
      (ap (λ (ph : Phase). phase_put ph (state_of l)) (phase_back Newer ph (names ph h)))
      (over_bus (state_of l) ph)

  pub word_left : (w : ℕ) → Leaves in_bytes l (slice_set l places.word w) (λ c. with_word c w)
  unfolding state_of image_of
  word_left w = left_by (λ (m : List ℕ). slice_set m places.word w) _ refl refl

  pub channel_left : (g : Group) (s : Side) (ch : Channel)
      → Leaves in_bytes l (channel_saved_in l (number_of g s) ch) (λ c. with_channel c g s ch)
  unfolding state_of image_of
  channel_left A Input ch =
      left_by (λ (m : List ℕ). channel_saved_in m 0 ch) _ (ap (λ (ch : Channel). core_put (state_of l) (with_channel (state_of l).core A Input ch)) (seven_back ch)) refl
  channel_left A Output ch =
      left_by (λ (m : List ℕ). channel_saved_in m 1 ch) _ (ap (λ (ch : Channel). core_put (state_of l) (with_channel (state_of l).core A Output ch)) (seven_back ch)) refl
  channel_left B Input ch =
      left_by (λ (m : List ℕ). channel_saved_in m 2 ch) _ (ap (λ (ch : Channel). core_put (state_of l) (with_channel (state_of l).core B Input ch)) (seven_back ch)) refl
  channel_left B Output ch =
      left_by (λ (m : List ℕ). channel_saved_in m 3 ch) _ (ap (λ (ch : Channel). core_put (state_of l) (with_channel (state_of l).core B Output ch)) (seven_back ch)) refl

  pub latch_left : (g : Group) (s : Side) (b : ℕ)
      → Leaves in_bytes l (slice_set l (places.latches + number_of g s) b) (λ c. on_channel c g s (latched b))
  unfolding state_of image_of
  latch_left A Input b = left_by (λ (m : List ℕ). slice_set m 60 b) _ refl refl
  latch_left A Output b = left_by (λ (m : List ℕ). slice_set m 61 b) _ refl refl
  latch_left B Input b = left_by (λ (m : List ℕ). slice_set m 62 b) _ refl refl
  latch_left B Output b = left_by (λ (m : List ℕ). slice_set m 63 b) _ refl refl

  pub levels_a_left : (d : ℕ) → Leaves in_bytes l (slice_set l places.levels_a d) (λ c. with_outside c A d)
  unfolding state_of image_of
  levels_a_left d = left_by (λ (m : List ℕ). slice_set m places.levels_a d) _ refl refl

  pub levels_b_left : (d : ℕ) → Leaves in_bytes l (slice_set l places.levels_b d) (λ c. with_outside c B d)
  unfolding state_of image_of
  levels_b_left d = left_by (λ (m : List ℕ). slice_set m places.levels_b d) _ refl refl

  pub latch_c_left : (d : ℕ) → Leaves in_bytes l (slice_set l places.latch_c d) (λ c. with_latch c d)
  unfolding state_of image_of
  latch_c_left d = left_by (λ (m : List ℕ). slice_set m places.latch_c d) _ refl refl

  pub levels_c_left : (d : ℕ) → Leaves in_bytes l (slice_set l places.levels_c d) (λ c. with_lines c d)
  unfolding state_of image_of
  levels_c_left d = left_by (λ (m : List ℕ). slice_set m places.levels_c d) _ refl refl

  pub enables_left : (e : Enables) → Leaves in_bytes l (slice_set l places.enables (enables_byte e)) (λ c. with_enables c e)
  unfolding state_of image_of
  enables_left e =
      left_by (λ (m : List ℕ). slice_set m places.enables (enables_byte e)) _
      (ap (λ (e : Enables). core_put (state_of l) (with_enables (state_of l).core e)) (enables_back e)) refl
