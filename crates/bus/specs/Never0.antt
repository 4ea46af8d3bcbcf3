-- No refusal has the number 0, which says that an event was accepted ("Events and numbers").
use Rattle.std.specs.Prelude.{◌≡◌, refl, false, ℕ, eqb}
use Rattle.bus.specs.Answers.{refusal_number, frame_number}
use Rattle.bus.specs.declared.refusals.Refusal.TheVariants.{OutOfRange, NotReadable, CycleRuns, NoCycleRuns}
use Rattle.bus.specs.declared.refusals.FrameRefusal as frame
use Rattle.bus.specs.declared.refusals.FrameRefusal.{FrameRefusal}

-- None of these numbers is 0.
abbrev pub Never0 : {R : Type 0} → (R → ℕ) → Type 0
Never0 n = (r : _) → eqb (n r) 0 ≡ false

pub refusal_never_0 : Never0 refusal_number
refusal_never_0 OutOfRange = refl
refusal_never_0 NotReadable = refl
refusal_never_0 CycleRuns = refl
refusal_never_0 NoCycleRuns = refl

pub frame_never_0 : {R : Type 0} (n : R → ℕ) → Never0 n → Never0 (frame_number n)
frame_never_0 n never frame.TheVariants.NoSuchKind = refl
frame_never_0 n never (frame.TheVariants.Event r) = never r
