-- Why a call gives nothing, and what it answers.
use Rattle.std.specs.Prelude.{refl, ℕ, ◌*◌, Result, Ok, Err}
use Rattle.bus.specs.Answers.{refusal_number}
use Rattle.bus.specs.Never0.{Never0, refusal_never_0}
use Rattle.calls.specs.Calls.{no_state, out_of_range}
use Rattle.calls.specs.declared.refusals.CallRefusal.{CallRefusal}
use Rattle.calls.specs.declared.refusals.CallRefusal.TheVariants.{NoState, NoEdition, NoSuchKind, Event, OutOfRange}

-- 1, there is no such kind of event. What the chip refuses has the number that it has elsewhere.
abbrev pub call_number : CallRefusal → ℕ
call_number NoState = no_state
call_number NoEdition = no_state
call_number NoSuchKind = 1
call_number (Event r) = refusal_number r
call_number OutOfRange = out_of_range

pub call_never_0 : Never0 call_number
call_never_0 NoState = refl
call_never_0 NoEdition = refl
call_never_0 NoSuchKind = refl
call_never_0 (Event r) = refusal_never_0 r
call_never_0 OutOfRange = refl

-- What is given stands above the lowest byte, which is then 0; otherwise that byte has the refusal.
abbrev pub answered : Result ℕ CallRefusal → ℕ
answered (Ok given) = 256 * given
answered (Err r) = call_number r
