-- At each turn of the loop one card more is reset.
use Rattle.std.proofs.Common.{◌≡◌, ◌∙◌, ◌<◌, ◌+◌, List, ap, length, map, ◌++◌, take, drop, set, arith}
use Rattle.std.proofs.lemmas.Grind.{common_steps}
use Rattle.std.proofs.lemmas.List.{get_or_default}
use Rattle.std.proofs.lemmas.List.Edits.{map_over_more}
use Rattle.chip.specs.declared.Core.{Core}
use Rattle.rack.specs.declared.Rack.{Rack}
use Rattle.rack.specs.State.{no_core, core_in, chip_at}
use Rattle.rack.specs.Step.{core_reset}
use Rattle.rack.proofs.device.RackDevice.accept.Goals as goal

pub loop-place-preserved : goal.loop-place-preserved
unfolding chip_at
loop-place-preserved c =
    let l = c.loop-place in
    let within : l.place < length l.self.cores = grind (arith, common_steps) in
    let more : set l.self.cores l.place (core_reset (core_in l.self.cores l.place))
    ≡ map core_reset (take (l.place + 1) c.args.self.now.cores) ++ drop (l.place + 1) c.args.self.now.cores =
    map_over_more core_reset c.args.self.now.cores l.self.cores l.place _ (omega arith)
    (ap (λ (r : Rack). r.cores) l.invariant)
    (get_or_default l.self.cores l.place no_core _ within) in
    c.pass.ensures.state
    ∙ ap (λ (r : Rack). record r { cores = set l.self.cores l.place (core_reset (core_in l.self.cores l.place)) }) l.invariant
    ∙ ap (λ (cs : List Core). record c.args.self.now { cores = cs }) more
