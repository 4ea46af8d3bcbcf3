-- What is promised of every byte, beginning at a chip that a host restores from an image.
-- Rests on Saved and Holds, and on fates' InTheLatch, Unforced and EveryByte.
use Rattle.std.proofs.Common.{◌≡◌, true, List, ℕ}
use Rattle.bus.specs.Event.{Event}
use Rattle.control.specs.declared.Group.{Group}
use Rattle.chip.specs.declared.channel.Side.{Side}
use Rattle.chip.specs.State.{tally_of}
use Rattle.fates.specs.Promise.{SixteenBits}
use Rattle.fates.proofs.InTheLatch.{held_from}
use Rattle.fates.proofs.Unforced.{unforced_from}
use Rattle.fates.proofs.EveryByte.{fates_from}
use Rattle.image.specs.Loaded.{state_of}
use Rattle.image.specs.Good.{is_image, Bytes}
use Rattle.restored.specs.Host.{Holds, GoesOn}
use Rattle.restored.proofs.Holds.{holds_image, holds_run}
use Rattle.restored.proofs.Saved.{sixteen_bits, waits_strobed}

-- From bytes that are the image of a chip whose tallies have sixteen bits, over all events.
pub goes_from : (l : List ℕ) → Holds l (state_of l) → ((g : Group) (s : Side) → SixteenBits (tally_of (state_of l) g s)) → (es : List Event) → GoesOn l es
goes_from l h small es =
    let at_end = holds_run l (state_of l) es h in
    record {
      image = at_end.image;
      state = at_end.state;
      fates = λ g s. fates_from g s (state_of l) (small g s) es;
      held = λ g s. held_from g s (state_of l) (waits_strobed g s (state_of l) h.has) es;
      unforced = λ g s. unforced_from g s (state_of l) es;
    }

-- From every image.
pub goes_on_lem : (l : List ℕ) → Bytes l → is_image l ≡ true → (es : List Event) → GoesOn l es
goes_on_lem l bytes good es = goes_from l (holds_image l bytes good) (sixteen_bits l bytes) es
