-- The room that is enough for the answers to any script.
-- Rests on bits' Logic, rack's InBases and text's LineCount.
use Rattle.std.proofs.Common.{◌≡◌, refl, List, [], ◌∷◌, ℕ, ◌*◌, ◌≤◌, mul-le-mul, arith, length, Result}
use Rattle.std.specs.Result.{result_unwrap_or}
use Rattle.bits.proofs.Logic.{by_test}
use Rattle.rack.specs.declared.Rack.{Rack}
use Rattle.rack.specs.declared.refusals.BadRack.{BadRack}
use Rattle.rack.specs.Bases.{most_cards, makes_rack}
use Rattle.rack.specs.State.{rack_of, built_of}
use Rattle.rack.proofs.InBases.{few}
use Rattle.script.specs.Answers.{line_width}
use Rattle.script.specs.Run.{longest_script}
use Rattle.text.specs.Lines.{Line, ended, rest, lines_of}
use Rattle.text.proofs.LineCount.{lines_at_most}
use Rattle.script.specs.RackBases.{bases_of_line, rack_of_line, rack_for, further_lines}
use Rattle.script.specs.RackRun.{rack_named, to_answer, room_for_text}

-- As many lines as a script can have, each as wide as with eight cards.
abbrev pub most_room : ℕ
most_room = line_width most_cards * longest_script

pub most_room_is : most_room ≡ 217088
most_room_is = refl

-- No line, and so no text, names more cards than a rack has room for.
abbrev Few : Result Rack BadRack → Type 0
Few built = (result_unwrap_or built (rack_of [])).count ≤ most_cards

few_built : (bases : List ℕ) → Few (built_of bases)
unfolding built_of rack_of
few_built bases = by_test Few (makes_rack bases) _ _ (few bases) (λ none. omega arith)

few_in : (l : Line) → Few (rack_of_line l)
unfolding rack_of_line rack_of
few_in (ended bytes) = few_built (bases_of_line bytes)
few_in (rest bytes) = omega arith

few_cards : (ls : List Line) → Few (rack_for ls)
unfolding rack_for rack_of
few_cards [] = omega arith
few_cards (l ∷ ls) = few_in l

no_more : (ls : List Line) → length (further_lines ls) ≤ length ls
unfolding further_lines
no_more [] = omega arith
no_more (l ∷ ls) = omega arith

pub most_room_lem : (text : List ℕ) → length text ≤ longest_script → room_for_text text ≤ most_room
most_room_lem text short =
    let narrow : line_width (rack_named text).count ≤ line_width most_cards = omega (arith, few_cards (lines_of text)) in
    let few : length (to_answer text) ≤ longest_script = omega (arith, no_more (lines_of text), lines_at_most text, short) in
    mul-le-mul narrow few
