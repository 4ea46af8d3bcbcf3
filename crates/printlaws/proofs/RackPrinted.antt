-- What is printed of a text whose first line is a rack.
-- Rests on script's RackShown, racklaws' NamesRack, and Columns.
use Rattle.std.proofs.Common.{ℕ, ◌≤◌, List, length, le-ltb}
use Rattle.text.specs.Lines.{lines_of}
use Rattle.rack.specs.State.{rack_of}
use Rattle.script.proofs.RackShown.{shows_cards}
use Rattle.prints.specs.Printed.{printed_of_rack}
use Rattle.racklaws.specs.NamesRack.{NamesRack}
use Rattle.racklaws.proofs.NamesRack.{rack_made, lines_behind}
use Rattle.printlaws.specs.Columns.{Answers}
use Rattle.printlaws.proofs.Columns.{in_columns}

pub columns_printed : (text : List ℕ) (named : NamesRack text) → length text ≤ 4096 → Answers (rack_of named.bases) (lines_of named.further) (printed_of_rack text)
unfolding printed_of_rack rack_of
columns_printed text named short =
    rw (le-ltb 4096 (length text) short, rack_made text named, lines_behind text named)
    (in_columns (lines_of named.further) (rack_of named.bases) named.good.few)

-- What is said of columns: printed of a text, answered by any rack, and shown by each card.
pub ruleset columns = (columns_printed, in_columns, shows_cards)
