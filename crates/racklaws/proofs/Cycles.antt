-- The facts about cycles, of a rack: those of every device on the bus, applied to this one; and a rack's histories are that device's.
-- Rests on the bus's Facts and Numbering, and on the rack's Stays.
use Rattle.std.proofs.Common.{◌≡◌, refl, ap, ◌∙◌, List, [], ◌∷◌, map, ℕ, Option, Some, None}
use Rattle.bus.specs.Kinds.{is_kind}
use Rattle.bus.specs.Refusals.{limits_of}
use Rattle.bus.specs.Device.{step_in, run_in}
use Rattle.bus.specs.Facts.{Facts}
use Rattle.bus.proofs.Facts as bus
use Rattle.bus.proofs.Numbering.{no_kind_refused}
use Rattle.rack.specs.declared.Rack.{Rack}
use Rattle.rack.specs.Targets.{Target, target_of}
use Rattle.rack.specs.Step.{limits, device, byte_of, step_at, step_of}
use Rattle.rack.proofs.Stays.{target_stays}
use Rattle.racklaws.specs.Whom.{RackEvent}
use Rattle.racklaws.specs.Promise.{rack_run}
use Rattle.racklaws.specs.Cycles.{as_event, event_by}

-- There are four registers at each of eight places, of which three can be read, and three ports at each.
pub facts : (r : Rack) → Facts device (limits_of 32 24 24) r
facts r = bus.facts device limits r refl

as_device : (r : Rack) (t : Option Target) (k d : ℕ) → let e = as_event t k d in (step_at r t k d).state ≡ (step_in device r e.kind e.first e.second).state
unfolding is_kind
as_device r None k d = rw (no_kind_refused device r 0xff 0 0 refl)
as_device r (Some t) k d = refl

run_from : (count : ℕ) (bases : List ℕ) (r : Rack) → r.count ≡ count → r.bases ≡ bases → (es : List RackEvent)
    → rack_run r es ≡ run_in device r (map (event_by count bases) es)
unfolding step_of
run_from count bases r c b [] = refl
run_from count bases r c b (e ∷ es) =
    let t = target_of r.count r.bases e.kind e.first e.second in
    let d = byte_of e.kind e.second e.third in
    let same = target_stays r t e.kind d in
    run_from count bases (step_at r t e.kind d).state (same.0 ∙ c) (same.1 ∙ b) es
    ∙ ap (λ (s : Rack). run_in device s (map (event_by count bases) es)) (as_device r t e.kind d ∙ rw (c, b))

-- So what the facts say of histories they say of a rack's.
pub run_as_device : (r : Rack) (es : List RackEvent) → rack_run r es ≡ run_in device r (map (event_by r.count r.bases) es)
run_as_device r es = run_from r.count r.bases r refl refl es
