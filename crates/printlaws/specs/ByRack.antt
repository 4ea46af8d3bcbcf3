-- The answers of a rack to some lines, by their columns ("A rack of cards", "Script and program").
use Rattle.std.specs.Prelude.{List}
use Rattle.text.specs.Lines.{Line}
use Rattle.rack.specs.declared.Rack.{Rack}
use Rattle.script.specs.Answers.{answers_from}
use Rattle.script.specs.RackAnswers.{answering}
use Rattle.printlaws.specs.Columns.{Answers}

-- What the rack answers has the columns that it should have.
abbrev pub InColumns : List Line → Rack → Type 0
InColumns ls r = Answers r ls (answers_from answering r ls)
