-- `first::named` meets its contract: at each turn the bases that were read and those that are left are the line's.
-- Rests on RackPlacing and the contract of first::base.
use Rattle.std.proofs.Common.{rules, ◌≡◌, ◌∙◌, ◌∷◌, [], ◌++◌, ap, length}
use Rattle.rack.specs.Bases.{most_cards}
use Rattle.rack.specs.State.{built_of}
use Rattle.script.specs.RackBases.{no_base, leading_base}
use Rattle.script.proofs.RackPlacing.{one_too_many, none_there, one_more_lem, all_placed}
use Rattle.script.proofs.racks.first.named.Goals as goal

pub returns-in_err-base : goal.returns-in_err-base
returns-in_err-base c =
    let turn = c.in-Some.ensures.steps.1 in
    let none : no_base ≡ leading_base c.in-Some.digits.now = search rules in
    let told = none_there _ _ _ _ _ _ c.loop-digits.invariant turn.0 turn.1 turn.2 none in
    search (rules, told)

pub returns-in_err-map_err : goal.returns-in_err-map_err
returns-in_err-map_err c =
    let turn = c.in-Some.ensures.steps.1 in
    let full : length c.loop-digits.bases.items ≡ most_cards = search rules in
    let told = one_too_many _ _ _ _ _ _ c.loop-digits.invariant turn.0 turn.1 turn.2 full in
    search (rules, told)

pub loop-digits-preserved : goal.loop-digits-preserved
loop-digits-preserved c =
    let turn = c.in-Some.ensures.steps.1 in
    let is : c.in_ok-base.base ≡ leading_base c.in-Some.digits.now = search rules in
    let pushed : c.try_push.new.self.items ≡ c.loop-digits.bases.items ++ (c.in_ok-base.base ∷ []) = search rules in
    rw (pushed, c.in-Some.ensures.steps.0) (one_more_lem _ _ _ _ _ _ c.loop-digits.invariant turn.0 turn.1 turn.2 _ is)

pub returns : goal.returns
returns c =
    let all = all_placed _ _ _ _ c.loop-digits.invariant c.in-None.ensures.steps.1.0 in
    let lent : c.deref.result.now ≡ c.loop-digits.bases.items = search rules in
    c.new.ensures ∙ ap built_of (lent ∙ all)
