-- Which power-ups are refused.
-- Rests on bits' Logic.
use Rattle.std.proofs.Common.{refl, not, ℕ, ltb, length, eq-eqb, ne_eqb, lt-ltb, le-ltb}
use Rattle.bits.proofs.Logic.{either_way}
use Rattle.image.specs.Slices.{saved_in}
use Rattle.calls.specs.Calls.{power_up_as_answer, power_up_as_image}
use Rattle.restored.proofs.power_ups_need_room_and_an_edition.Goals as goal

pub returns : goal.returns
unfolding power_up_as_answer power_up_as_image saved_in
returns c = λ l. record {
  accepted = λ long. rw (eq-eqb (length l) 96 long);
  accepted_as = λ ed long few. rw (le-ltb 1 ed few, eq-eqb (length l) 96 long);
  other_length = λ other. let no = ne_eqb (length l) 96 other in (rw (no), rw (no));
  other_length_with = λ a b c other. let no = ne_eqb (length l) 96 other in (rw (no), rw (no));
  other_length_as = λ ed a b c other.
      let no = ne_eqb (length l) 96 other in
      (rw (no) (either_way (λ (n : ℕ). n) 8 (not (ltb 1 ed)) 8 8 refl refl), rw (no) (either_way (λ m. m) l (not (ltb 1 ed)) l l refl refl));
  no_edition = λ ed a b c many. let no = lt-ltb 1 ed many in (rw (no), rw (no));
}
