-- Events and refusals by their numbers, and what an event gives as an answer: a byte, or a refusal ("Events and numbers").
use Rattle.std.specs.Prelude.{cond, ℕ, eqb, Option, Some, None, Result, Ok, Err}
use Rattle.bus.specs.Kinds as kinds
use Rattle.bus.specs.Event as frames
use Rattle.bus.specs.Device as rules
use Rattle.bus.specs.Device.{Given, gives, after_in, byte_in, step_in}
use Rattle.bus.specs.declared.kinds.Kind as kind
use Rattle.bus.specs.declared.kinds.Kind.{Kind}
use Rattle.bus.specs.declared.events.Event.{Event}
use Rattle.bus.specs.declared.events.Event.TheVariants.{Reset, BeginRead, EndCycle, BeginWrite, OutsideLevels}
use Rattle.bus.specs.declared.refusals.Refusal.{Refusal}
use Rattle.bus.specs.declared.refusals.Refusal.TheVariants.{OutOfRange, NotReadable, CycleRuns, NoCycleRuns}
use Rattle.bus.specs.declared.refusals.FrameRefusal as frame
use Rattle.bus.specs.declared.refusals.FrameRefusal.{FrameRefusal}

-- The kinds by their numbers, and the kind that a number names, if there is such a kind.
abbrev pub kind_number : Kind → ℕ
kind_number kind.TheVariants.Reset = kinds.reset
kind_number kind.TheVariants.BeginRead = kinds.begin_read
kind_number kind.TheVariants.EndCycle = kinds.end_cycle
kind_number kind.TheVariants.BeginWrite = kinds.begin_write
kind_number kind.TheVariants.OutsideLevels = kinds.outside_levels

abbrev pub kind_numbered : ℕ → Option Kind
kind_numbered k =
    cond (eqb k kinds.reset) (Some kind.TheVariants.Reset)
    (cond (eqb k kinds.begin_read) (Some kind.TheVariants.BeginRead)
    (cond (eqb k kinds.end_cycle) (Some kind.TheVariants.EndCycle)
    (cond (eqb k kinds.begin_write) (Some kind.TheVariants.BeginWrite)
    (cond (eqb k kinds.outside_levels) (Some kind.TheVariants.OutsideLevels)
    None))))

-- An event by its three numbers; the operands that its kind lacks are zeros.
abbrev pub raw : Event → frames.Event
raw Reset = frames.event kinds.reset 0 0
raw (BeginRead x) = frames.event kinds.begin_read x 0
raw EndCycle = frames.event kinds.end_cycle 0 0
raw (BeginWrite x d) = frames.event kinds.begin_write x d
raw (OutsideLevels p d) = frames.event kinds.outside_levels p d

-- The event that three numbers name, where the first is a kind.
abbrev pub event_numbered : ℕ → ℕ → ℕ → Option Event
event_numbered k x d =
    cond (eqb k kinds.reset) (Some Reset)
    (cond (eqb k kinds.begin_read) (Some (BeginRead x))
    (cond (eqb k kinds.end_cycle) (Some EndCycle)
    (cond (eqb k kinds.begin_write) (Some (BeginWrite x d))
    (cond (eqb k kinds.outside_levels) (Some (OutsideLevels x d))
    None))))

-- The refusals of a device by their numbers: 2, there is no such address or port; 3, the address is not to be read; 4, another cycle runs;
-- 5, none does.
abbrev pub refusal_number : Refusal → ℕ
refusal_number OutOfRange = 2
refusal_number NotReadable = 3
refusal_number CycleRuns = 4
refusal_number NoCycleRuns = 5

-- Of a frame 1 stands before the numbers of its event: there is no such kind.
abbrev pub frame_number : {R : Type 0} → (R → ℕ) → FrameRefusal R → ℕ
frame_number n frame.TheVariants.NoSuchKind = 1
frame_number n (frame.TheVariants.Event r) = n r

-- The number that an answer tells, by the numbers of its refusals: 0 where the event was accepted.
abbrev pub number_told : {A R : Type 0} → (R → ℕ) → Result A R → ℕ
number_told n (Ok a) = 0
number_told n (Err r) = n r

-- The byte that an answer tells: 00 where the event was refused.
abbrev pub byte_told : {E : Type 0} → Result ℕ E → ℕ
byte_told (Ok b) = b
byte_told (Err r) = 0

-- What is given by an answer and the state that it leaves, by the numbers of its refusals.
abbrev pub given_by : {S R : Type 0} → (R → ℕ) → S → Result ℕ R → Given S
given_by n s r = gives s (number_told n r) (byte_told r)

-- What an accepted event makes of a device, and the byte that it gives.
abbrev pub after_event : {S R : Type 0} → rules.Device S R → Event → S → S
after_event dev e s = after_in dev s (raw e).kind (raw e).first (raw e).second

abbrev pub byte_of : {S R : Type 0} → rules.Device S R → Event → S → ℕ
byte_of dev e s = byte_in dev s (raw e).kind (raw e).first

-- What a device gives for an event.
abbrev pub given_for : {S R : Type 0} → rules.Device S R → S → Event → Given S
given_for dev s e = step_in dev s (raw e).kind (raw e).first (raw e).second
