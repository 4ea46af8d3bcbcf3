-- `clean::length` meets its contract: what the clean script has of each line adds up to its length, which is small.
-- Rests on Cleaning, and on the contracts of what it calls.
use Rattle.std.proofs.Common.{◌∙◌, ◌<◌, ◌^◌, rules, ap, ℕ, List, Bor, arith}
use Rattle.std.specs.Iterator.{YieldsFirstBy}
use Rattle.std.specs.Iterator.Adapters.{map_source}
use Rattle.std.specs.List.{sum_by}
use Rattle.std.proofs.lemmas.Iterator.{YieldsList, YieldsList-from_map}
use Rattle.std.proofs.lemmas.Iterator.Consumers.{YieldsList-at, YieldsList-from_first, sum_by_from_yields_List, fits_by_from_yields_list}
use Rattle.text.specs.Lines.{lines_of}
use Rattle.text.specs.Answers.{line_of, lines_left}
use Rattle.mend.specs.Mend.{clean_of}
use Rattle.mend.proofs.Cleaning.{clean_length, lengths_add_up, bytes_got, one_longer_at_most}
use Rattle.mend.proofs.clean.length.Goals as goal
use Rattle.mend.proofs.clean.length.Goals.{After-map}

-- The lines that are walked are those of the text. Of their lengths a lemma could not tell: the closure that finds them has no name.
lines : (c : goal.After-map) → YieldsList (YieldsFirstBy line_of lines_left) line_of (map_source c.map.result) (lines_of c.args.text.now)
lines c =
    let all = ap (λ (text : Bor (List ℕ)). lines_of text.now) c.new.ensures in
    YieldsList-at c.map.ensures.source (YieldsList-from_first line_of lines_left (lines_of c.args.text.now) all)

pub sum-requires-clause-fits : goal.sum-requires-clause-fits
unfolding clean_of
sum-requires-clause-fits c =
    let ls = lines_of c.args.text.now in
    let fits : sum_by clean_length ls < 2 ^ 64 = rw (lengths_add_up ls) (omega (arith, one_longer_at_most c.args.text.now)) in
    fits_by_from_yields_list clean_length ls c.map.result _
    (YieldsList-from_map _ clean_length (lines (goal.at.sum-requires-clause-fits c).After-map) c.map.ensures.closure
    (λ x r q k. search (rules, bytes_got))) fits

pub returns : goal.returns
unfolding clean_of
returns c =
    let ls = lines_of c.args.text.now in
    sum_by_from_yields_List clean_length ls c.map.result _ c.sum.ensures.ran
    (YieldsList-from_map _ clean_length (lines (goal.at.returns c).After-map) c.map.ensures.closure
    (λ x r q k. search (rules, bytes_got)))
    ∙ lengths_add_up ls
