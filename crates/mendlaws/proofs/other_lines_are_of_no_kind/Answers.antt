-- A line that says no event, and a rest, are an event of no kind, which every device refuses.
-- Rests on OneLine, and on the bus's Numbering.
use Rattle.std.proofs.Common.{◌≡◌, refl, ap, Bool, true, false, List, ℕ}
use Rattle.bus.specs.Kinds.{is_kind}
use Rattle.bus.specs.Device.{Device, Given}
use Rattle.bus.proofs.Numbering.{no_kind_refused}
use Rattle.text.specs.Lines.{ended, rest}
use Rattle.text.specs.Frames.{is_frame, frame_of, frame_in}
use Rattle.text.specs.History.{event_of}
use Rattle.mendlaws.specs.Others.{SaysNothing, of_no_kind, RefusesWith1}
use Rattle.mendlaws.proofs.OneLine.{frame_exactly}
use Rattle.mendlaws.proofs.other_lines_are_of_no_kind.Goals as goal

said_by_another : (bytes : List ℕ) → SaysNothing bytes → event_of (frame_in (ended bytes)) ≡ of_no_kind
unfolding frame_of frame_in
said_by_another bytes none = go (is_frame bytes) refl
  where
    go : (t : Bool) → is_frame bytes ≡ t → event_of (frame_in (ended bytes)) ≡ of_no_kind
    go true is = let says = (frame_exactly bytes).0 is in absurd (none says.0 says.1)
    go false other = rw (other) refl

said_by_a_rest : (bytes : List ℕ) → event_of (frame_in (rest bytes)) ≡ of_no_kind
unfolding frame_in
said_by_a_rest bytes = refl

refused_so : {S R : Type 0} (dev : Device S R) (s : S) → RefusesWith1 dev s of_no_kind
unfolding is_kind
refused_so {S} dev s =
    let is = no_kind_refused dev s 255 0 0 refl in
    record {
      number = ap (λ (g : Given S). g.number) is;
      byte = ap (λ (g : Given S). g.byte) is;
      stays = ap (λ (g : Given S). g.state) is;
    }

pub returns : goal.returns
returns g c = record { line = said_by_another; rest = said_by_a_rest; refused = refused_so }
