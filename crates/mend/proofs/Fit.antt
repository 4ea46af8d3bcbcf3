-- When the bytes of a mended line are a frame: they are too many for one, or they are read from a room that they stand in.
-- Rests on text's WrittenBack.
use Rattle.std.proofs.Common.{◌≡◌, ◌∙◌, refl, ap, sym, Bool, true, false, cond, List, ◌++◌, map, ℕ, ◌<◌, arith, length, take, take_at, Option, Some, None}
use lib.ListN.{length-map}
use Rattle.std.specs.Option.{is_some}
use Rattle.bus.specs.declared.events.Event as events
use Rattle.text.specs.Frames.{Event, NoFrame, kind_in, first_in, second_in, is_frame, frame_of, is_event, frame_in}
use Rattle.text.specs.Lines.{Line}
use Rattle.text.specs.Answers.{frame_told}
use Rattle.text.proofs.WrittenBack.{no_longer_than_six}
use Rattle.mend.specs.Line.{raised, without_cr, mended}

-- A line says an event where it is a frame.
pub event_of_lem : (bytes : List ℕ) → is_event (frame_of bytes) ≡ is_frame bytes
unfolding frame_of
event_of_lem bytes = go (is_frame bytes)
  where
    go : (t : Bool) → is_event (cond t (Event (kind_in bytes) (first_in bytes) (second_in bytes)) NoFrame) ≡ t
    go true = refl
    go false = refl

-- An answer is there where it is an event that it tells.
pub told_event : (o : Option events.Event) → is_event (frame_told o) ≡ is_some o
told_event (Some e) = refl
told_event None = refl

pub event_told : (o : Option events.Event) (l : Line) → frame_told o ≡ frame_in l → is_event (frame_in l) ≡ is_some o
event_told o l told = sym (ap is_event told) ∙ told_event o

module _ (line : List ℕ) where
  pub mended_length : length (mended line) ≡ length (without_cr line)
  unfolding mended
  mended_length = length-map (without_cr line) raised

  pub too_wide : 6 < length (without_cr line) → false ≡ is_frame (mended line)
  too_wide wide = go (is_frame (mended line)) refl
    where
      go : (t : Bool) → is_frame (mended line) ≡ t → false ≡ t
      go true is = absurd (omega (arith, wide, mended_length, no_longer_than_six (mended line) is))
      go false is = refl

  -- The room, with the bytes that are left of the line, raised, in front.
  pub in_the_room : (bytes behind : List ℕ) → bytes ≡ without_cr line
      → is_event (frame_of (take (length bytes) (map raised bytes ++ behind))) ≡ is_frame (mended line)
  unfolding mended
  in_the_room bytes behind is =
      rw (take_at (map raised bytes) behind (length bytes) (length-map bytes raised))
      (event_of_lem (map raised bytes) ∙ ap (λ (bytes : List ℕ). is_frame (map raised bytes)) is)
