-- The loop of a reset: the cards before the place are reset.
use Rattle.std.proofs.Common.{◌≡◌, map, ◌++◌, take, drop}
use Rattle.rack.specs.Step.{core_reset}
use Rattle.rack.proofs.device.RackDevice.accept.Given as goal

abbrev pub invariant-loop-place : goal.invariant-loop-place
invariant-loop-place l =
    l.self ≡ record l.fn.self { cores = map core_reset (take l.place l.fn.self.cores) ++ drop l.place l.fn.self.cores }
