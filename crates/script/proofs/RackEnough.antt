-- What a caller of a run can count on: the answers have as many bytes as it says, and leave what stands behind them; and with enough room no
-- text is refused for want of it.
-- Rests on Pieces and RackRoom.
use Rattle.std.proofs.Common.{◌≡◌, refl, Bool, true, false, cond, not, List, ℕ, ◌≤◌, arith, ltb, length, drop, drop_at, le-ltb, ltb-false}
use Rattle.rack.specs.declared.Rack.{Rack}
use Rattle.rack.specs.Bases.{bad_rack_number}
use Rattle.script.specs.Answers.{answers_from}
use Rattle.script.specs.Run.{longest_script, too_long, too_long_number, no_room_number}
use Rattle.script.proofs.Pieces.{width_each}
use Rattle.text.specs.Lines.{Line}
use Rattle.script.specs.RackAnswers.{answering}
use Rattle.script.specs.RackRun.{names_rack, rack_named, to_answer, room_for, room_for_text, run_number, output_left}
use Rattle.script.proofs.RackRoom.{most_room, most_room_lem}

-- One width to a line.
pub answers_length : (r : Rack) (ls : List Line) → length (answers_from answering r ls) ≡ room_for r ls
answers_length r ls = width_each answering r ls

-- An accepted run leaves every byte behind its answers.
pub behind_stays : (text out : List ℕ) → run_number text (length out) ≡ 0
    → drop (room_for_text text) (output_left text out) ≡ drop (room_for_text text) out
behind_stays text out e =
    let answers : List ℕ = answers_from answering (rack_named text) (to_answer text) in
    rw (e) (drop_at answers (drop (room_for_text text) out) (room_for_text text) (answers_length (rack_named text) (to_answer text)))

-- The number of a run by its three tests.
abbrev first_of : Bool → Bool → Bool → ℕ
first_of long rack short = cond long too_long_number (cond (not rack) bad_rack_number (cond short no_room_number 0))

-- With room enough for any script no text is refused with 7.
pub room_enough : (text : List ℕ) (room : ℕ) → most_room ≤ room
    → run_number text room ≡ cond (too_long text) too_long_number (cond (not (names_rack text)) bad_rack_number 0)
unfolding run_number
room_enough text room enough = go (too_long text) refl
  where
    go : (long : Bool) → too_long text ≡ long → first_of (too_long text) (names_rack text) (ltb room (room_for_text text))
        ≡ cond (too_long text) too_long_number (cond (not (names_rack text)) bad_rack_number 0)
    go true l = rw l
    go false l = rw (l, le-ltb room (room_for_text text) (omega (arith, enough, most_room_lem text (ltb-false longest_script (length text) l))))
