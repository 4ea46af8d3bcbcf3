-- Which conversions are refused.
-- Rests on bits' Logic and calls' Converted.
use Rattle.std.proofs.Common.{refl, ℕ, length, eq-eqb, ne_eqb}
use Rattle.bits.proofs.Logic.{either_way}
use Rattle.image.specs.Slices.{saved_in}
use Rattle.image.specs.OlderGood.{is_older}
use Rattle.calls.specs.Calls.{convert_answer, convert_image}
use Rattle.calls.proofs.Converted.{convert_bad}
use Rattle.restored.proofs.conversions_need_an_older_image_and_room.Goals as goal

pub returns : goal.returns
unfolding convert_answer convert_image saved_in
returns c = λ o l. record {
  accepted = λ older long. rw (older, eq-eqb (length l) 96 long);
  no_older = convert_bad o l;
  other_length = λ other.
      let no = ne_eqb (length l) 96 other in
      (rw (no) (either_way (λ (n : ℕ). n) 8 (is_older o) 8 8 refl refl), rw (no) (either_way (λ m. m) l (is_older o) l l refl refl));
}
