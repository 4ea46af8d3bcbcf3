-- The output while a text is answered into it: each line changes it, and what it will hold at the end stays the same.
-- Rests on Stores, Levels and Pieces.
use Rattle.std.proofs.Common.{◌≡◌, ◌∙◌, ap, List, [], ◌∷◌, ◌++◌, ℕ, ◌+◌, ◌*◌, ◌-◌, ◌≤◌, mul-suc, arith, length, take, drop, length-drop}
use lib.Seq.{sets, length-sets}
use borrow.Author.Rules.{part_to_end}
use Rattle.bus.specs.Device.{Given}
use Rattle.text.specs.Lines.{Line}
use Rattle.script.specs.Answers.{Answerer, line_after, answers_from, answers_of, state_after, left_after}
use Rattle.script.specs.Run.{width_of, room_for, filled}
use Rattle.script.proofs.Stores.{behind, from_start, lent}
use Rattle.script.proofs.Levels.{line_length}
use Rattle.script.proofs.Pieces.{answers_length}

module _ {S : Type 0} (a : Answerer S) where
  -- A text under way, from whoever met it, into an output that began as `first`: its lines ls are left, and whoever answers, in the state s, will
  -- answer them from `at` on.
  pub record UnderWay (start : S) (text first out : List ℕ) (ls : List Line) (s : S) (at : ℕ) : Type 0 where
    pub as_wide : a.cards s ≡ a.cards start
    pub room : at + width_of a start * length ls ≤ length out
    pub comes : sets out at (answers_from a s ls) ≡ sets first 0 (answers_of a start text)
    pub leads : state_after a s ls ≡ left_after a start text

  -- A turn answers the line l, and there is room for that: `part` is the part of the output that is lent, as it comes back.
  module _ (start : S) (text first out : List ℕ) (l : Line) (ls : List Line) (s : S) (at : ℕ)
      (way : UnderWay start text first out (l ∷ ls) s at) (given : Given S) (is : given ≡ a.takes s l) where
    same_width : width_of a given.state ≡ width_of a start
    same_width = rw is (ap (λ n. 4 + 6 * n + 1) (a.cards_stay s l ∙ way.as_wide))

    pub room_for_one : width_of a given.state ≤ length (take (length out - at) (drop at out))
    room_for_one = rw (part_to_end out at, length-drop at out, same_width) (omega (arith, way.room, mul-suc (width_of a start) (length ls)))

    pub goes_on_lem : (part : List ℕ) → part ≡ sets (take (length out - at) (drop at out)) 0 (line_after a given)
        → UnderWay start text first (take at out ++ (part ++ drop (length out - at) (drop at out))) ls given.state (at + width_of a start)
    unfolding answers_from
    goes_on_lem part written =
        let line : List ℕ = line_after a given in
        let wide : length line ≡ width_of a start = line_length a given ∙ same_width in
        let more = mul-suc (width_of a start) (length ls) in
        rw (written, lent out line at (omega (arith, way.room, wide, more)), ← wide) (record {
          as_wide = rw is (a.cards_stay s l ∙ way.as_wide);
          room = omega (arith, way.room, wide, more, length-sets out at line);
          comes = behind out at line (answers_from a given.state ls) ∙ rw (← is) at way.comes;
          leads = rw (← is) at way.leads;
        })

  -- When no line is left the output holds all that it will.
  pub arrives : (start : S) (text first out : List ℕ) (s : S) (at : ℕ) → room_for (width_of a start) text ≤ length first
      → UnderWay start text first out [] s at → out ≡ filled a start text first
  unfolding answers_from
  arrives start text first out s at room way =
      let long = answers_length a start text in
      way.comes ∙ from_start first (answers_of a start text) (omega (arith, room, long)) ∙ ap (λ n. answers_of a start text ++ drop n first) long
