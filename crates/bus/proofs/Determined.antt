-- The contract of each public function of the bus leaves no choice. Those of `judge` and of the steps say the number and the byte that an answer
-- tells, and no two answers tell the same. Rests on bits' Determined.
use Rattle.std.proofs.Common.{◌≡◌, ◌∙◌, refl, ap, cond, ℕ, eqb, Result, Ok, Err}
use Rattle.bits.proofs.Determined.{Determines, equation_determines, equations_determine}
use Rattle.bus.specs.Device.{Given}
use Rattle.bus.specs.Answers.{refusal_number, frame_number, number_told, byte_told, given_by}
use Rattle.bus.specs.declared.refusals.Refusal.{Refusal}
use Rattle.bus.specs.declared.refusals.Refusal.TheVariants.{OutOfRange, NotReadable, CycleRuns, NoCycleRuns}
use Rattle.bus.specs.declared.refusals.FrameRefusal.{FrameRefusal}
use Rattle.bus.specs.declared.refusals.FrameRefusal.TheVariants.{NoSuchKind, Event}
use Rattle.bus.specs.contracts as bus_says
use Rattle.bus.proofs as bus

-- The refusal that has a number, and the answer that tells a number and has a value where it was accepted.
abbrev pub refusal_of : ℕ → Refusal
refusal_of n = cond (eqb n 2) OutOfRange (cond (eqb n 3) NotReadable (cond (eqb n 4) CycleRuns NoCycleRuns))

abbrev pub frame_of : ℕ → FrameRefusal Refusal
frame_of n = cond (eqb n 1) NoSuchKind (Event (refusal_of n))

abbrev pub answer_of : {A E : Type 0} → (ℕ → E) → ℕ → A → Result A E
answer_of refusal n a = cond (eqb n 0) (Ok a) (Err (refusal n))

judged_so : (r : Result (Unit {0}) Refusal) → r ≡ answer_of refusal_of (number_told refusal_number r) tt
judged_so (Ok tt) = refl
judged_so (Err OutOfRange) = refl
judged_so (Err NotReadable) = refl
judged_so (Err CycleRuns) = refl
judged_so (Err NoCycleRuns) = refl

told_so : (r : Result ℕ Refusal) → r ≡ answer_of refusal_of (number_told refusal_number r) (byte_told r)
told_so (Ok b) = refl
told_so (Err OutOfRange) = refl
told_so (Err NotReadable) = refl
told_so (Err CycleRuns) = refl
told_so (Err NoCycleRuns) = refl

pub frame_told_so : (r : Result ℕ (FrameRefusal Refusal)) → r ≡ answer_of frame_of (number_told (frame_number refusal_number) r) (byte_told r)
frame_told_so (Ok b) = refl
frame_told_so (Err NoSuchKind) = refl
frame_told_so (Err (Event OutOfRange)) = refl
frame_told_so (Err (Event NotReadable)) = refl
frame_told_so (Err (Event CycleRuns)) = refl
frame_told_so (Err (Event NoCycleRuns)) = refl

-- What is given tells the answer and the state, if each answer is told by its number and its byte.
pub given_so
    : {S R : Type 0} (n : R → ℕ) (refusal : ℕ → R) → ((r : Result ℕ R) → r ≡ answer_of refusal (number_told n r) (byte_told r))
    → {r : Result ℕ R} {s : S} {o : Given S} → given_by n s r ≡ o → (r ≡ answer_of refusal o.number o.byte) × (s ≡ o.state)
given_so n refusal told {r = r} p = (told r ∙ ap (λ o. answer_of refusal o.number o.byte) p, ap (λ o. o.state) p)

pub kind_numbered_determined : Determines bus_says.kinds.Kind.numbered.ended bus.kinds.Kind.numbered.Reads.Learnt
kind_numbered_determined c x y = equation_determines

pub kind_number_determined : Determines bus_says.kinds.Kind.number.ended bus.kinds.Kind.number.Reads.Learnt
kind_number_determined c x y = equation_determines

pub kind_operands_determined : Determines bus_says.kinds.Kind.operands.ended bus.kinds.Kind.operands.Reads.Learnt
kind_operands_determined c x y = equation_determines

pub numbered_determined : Determines bus_says.events.Event.numbered.ended bus.events.Event.numbered.Reads.Learnt
numbered_determined c x y = equation_determines

pub refusal_number_determined : Determines bus_says.refusals.RefusalNumbered.number.ended bus.refusals.RefusalNumbered.number.Reads.Learnt
refusal_number_determined c x y = equation_determines

pub number_determined
    : (T : _) (lT : _) (R : _) (lR : _) (copy : _) (G : _) (t : _) (H : _) (u : _)
    → Determines (bus_says.refusals.number.ended T R G t H u) (bus.refusals.number.Reads.Learnt T R lT lR copy G t H u)
number_determined T lT R lR copy G t H u c x y = equation_determines

pub frame_number_determined
    : (R : _) (lR : _) (copy : _) (G : _) (t : _) (H : _) (u : _)
    → Determines (bus_says.refusals.FrameRefusalNumbered.number.ended R G t H u) (bus.refusals.FrameRefusalNumbered.number.Reads.Learnt R lR copy G t H u)
frame_number_determined R lR copy G t H u c x y = equation_determines

pub frame_refusal_from_determined
    : (R : _) (lR : _) → Determines (bus_says.refusals.FrameRefusalFrom.from.ended R) (bus.refusals.FrameRefusalFrom.from.Reads.Learnt R lR)
frame_refusal_from_determined R lR c x y = equation_determines

pub judge_determined : Determines bus_says.refusals.judge.ended bus.refusals.judge.Reads.Learnt
judge_determined c x y p q =
    equation_determines
    (judged_so x.0 ∙ ap (λ n. answer_of refusal_of n tt) p)
    (judged_so y.0 ∙ ap (λ n. answer_of refusal_of n tt) q)

pub step_determined : (D : _) (lD : _) (G : _) (t : _) → Determines (bus_says.devices.step.ended D G t) (bus.devices.step.Reads.Learnt D lD G t)
step_determined D lD G t c x y p q = equations_determine (given_so _ refusal_of told_so p) (given_so _ refusal_of told_so q)

pub step_numbers_determined
    : (D : _) (lD : _) (G : _) (t : _) → Determines (bus_says.devices.step_numbers.ended D G t) (bus.devices.step_numbers.Reads.Learnt D lD G t)
step_numbers_determined D lD G t c x y p q = equations_determine (given_so _ frame_of frame_told_so p) (given_so _ frame_of frame_told_so q)

pub facts_determined
    : (D : _) (lD : _) (G : _) (t : _) → Determines (bus_says.devices.facts_about_cycles.ended D G t) (bus.devices.facts_about_cycles.Reads.Learnt D lD G t)
facts_determined D lD G t c x y p q = refl
