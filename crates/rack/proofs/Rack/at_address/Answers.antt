-- `Rack::at_address` meets its contract: the first base that answers is at the place of its card.
-- Rests on Places.
use Rattle.std.proofs.Common.{◌≡◌, ◌∙◌, ap, sym, rules, List, ℕ, take, arith}
use Rattle.rack.specs.Targets.{target_from, bases_in}
use Rattle.rack.proofs.Places.{not_before, in_rack, at_first, at_none}
use Rattle.rack.proofs.Rack.at_address.Goals as goal
use Rattle.rack.proofs.Rack.at_address.Goals.{After-min}

-- The bases up to the count, which are searched, are those of the cards that there are.
found_in : (c : goal.After-min) → target_from 0 (take c.min.result c.args.self.now.bases) c.args.address ≡ target_from 0 (bases_in c.args.self.now.count c.args.self.now.bases) c.args.address
found_in c = ap (λ (bases : List ℕ). target_from 0 bases c.args.address) (rw c.min.ensures (in_rack c.args.self.now.count c.args.self.now.bases))

pub returns-in_err-place-clause-first : goal.returns-in_err-place-clause-first
returns-in_err-place-clause-first c =
    let none = at_none c.args.address (take c.min.result c.args.self.now.bases) 0 (search rules) in
    c.from_residual.ensures ∙ sym none ∙ found_in (goal.at.returns-in_err-place-clause-first c).After-min

pub overflow_sub-result : goal.overflow_sub-result
overflow_sub-result c = not_before _ _ (search rules)

pub returns-clause-first : goal.returns-clause-first
returns-clause-first c =
    sym (at_first c.args.address (take c.min.result c.args.self.now.bases) 0 c.in_ok-place.place (omega arith) (search rules) (search rules) (search rules))
    ∙ found_in (goal.at.returns-clause-first c).After-min
