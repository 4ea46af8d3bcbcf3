-- The run of a rack's script, in plain numbers ("A rack of cards", "Script and program").
use Rattle.std.specs.Prelude.{◌≡◌, List, ℕ, ◌+◌, ◌*◌, ◌<◌, ◌≤◌, length, take, drop}
use Rattle.text.specs.Lines.{lines_of}
use Rattle.rack.specs.State.{rack_of}
use Rattle.script.specs.Answers.{answers_from}
use Rattle.script.specs.RackAnswers.{answering}
use Rattle.script.specs.RackRun.{ran_of, output_left}
use Rattle.account.specs.Script.{line_total}
use Rattle.racklaws.specs.NamesRack.{NamesRack}

-- The bytes of the answers to a text: of each further line five, and six more for each card.
abbrev pub answer_bytes : {text : List ℕ} → NamesRack text → ℕ
answer_bytes named = (5 + 6 * length named.bases) * line_total named.further

-- The numbers with which a run is refused, in their order: 6 if the text has more than 4,096 bytes; 9 if its first line is no rack; 7 if the output
-- is shorter than the answers.
pub data RefusedWith (text out : List ℕ) : ℕ → Type 0 where
  too_long : 4096 < length text → RefusedWith text out 6
  no_rack : length text ≤ 4096 → ¬ NamesRack text → RefusedWith text out 9
  no_room : length text ≤ 4096 → (named : NamesRack text) → length out < answer_bytes named
      → RefusedWith text out 7

-- A refused run tells its number, no lines and no bytes, and leaves every byte of the output.
pub record Refuses (text out : List ℕ) (n : ℕ) : Type 0 where
  pub told : ran_of text (length out) ≡ record { number = n; lines = 0; length = 0 }
  pub output : output_left text out ≡ out

-- A run is accepted of a text of at most 4,096 bytes whose first line is a rack, if the answers fit into the output.
pub record Fits (text out : List ℕ) : Type 0 where
  pub short : length text ≤ 4096
  pub named : NamesRack text
  pub room : answer_bytes named ≤ length out

-- An accepted run tells how many lines it answered, and in how many bytes. With the answers of the rack to these lines the output begins, and every
-- byte behind them is as it was.
pub record Writes (text out : List ℕ) (named : NamesRack text) : Type 0 where
  pub told : ran_of text (length out)
      ≡ record { number = 0; lines = line_total named.further; length = answer_bytes named }
  pub answers : take (answer_bytes named) (output_left text out)
      ≡ answers_from answering (rack_of named.bases) (lines_of named.further)
  pub behind : drop (answer_bytes named) (output_left text out) ≡ drop (answer_bytes named) out

-- The answers to every text that is not too long fit into so many bytes.
abbrev pub FitsAll : ℕ → Type 0
FitsAll room =
    (text : List ℕ) (named : NamesRack text) → length text ≤ 4096 → answer_bytes named ≤ room
