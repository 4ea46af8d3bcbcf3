-- A run as a whole: of an empty text, and the room that the answers take.
-- Rests on text's LineCount and on Numbers.
use Rattle.std.proofs.Common.{◌≡◌, ◌∙◌, refl, sym, Bool, true, false, cond, List, [], ℕ, ◌*◌, ◌≤◌, mul-zero, arith, length, le-ltb, ltb-false}
use Rattle.std.proofs.Math.Nat.{mul-le-mul_left}
use Rattle.text.specs.Lines.{lines_of, line_count}
use Rattle.text.proofs.LineCount.{lines_at_most}
use Rattle.script.specs.Answers.{Answerer, answers_from}
use Rattle.script.specs.Run.{longest_script, too_long, too_long_number, room_for, run_number, Ran, ran_of, width_of, output_left, subject_left}
use Rattle.script.proofs.Numbers.{number_given, has_room_lem}

module _ {S : Type 0} (a : Answerer S) (s : S) where
  -- An empty text has no lines, is accepted whatever the room, and leaves the output and the state.
  pub empty_text : (out : List ℕ)
      → (ran_of (width_of a s) [] (length out) ≡ record { number = 0; lines = 0 })
      × (output_left a s [] out ≡ out)
      × (subject_left a s [] (length out) ≡ s)
  unfolding run_number lines_of answers_from
  empty_text out =
      let none = mul-zero (width_of a s) in
      let room = le-ltb (length out) 0 (omega arith) in
      (rw (none, room), rw (none, room), rw (none, room))

module _ (w : ℕ) where
  -- The answers of an accepted run lie within the output.
  pub answers_fit : (text : List ℕ) (room : ℕ) (r : Ran) → r ≡ ran_of w text room → r.number ≡ 0 → w * r.lines ≤ room
  answers_fit text room r is e = let accepted = sym (number_given w text room r is) ∙ e in rw (is, accepted) (has_room_lem w text room accepted)

  -- With room for 4,096 answers a script is refused only where it is too long: its number is never 7.
  pub room_enough : (text : List ℕ) (room : ℕ) → w * longest_script ≤ room → run_number w text room ≡ cond (too_long text) too_long_number 0
  unfolding run_number
  room_enough text room enough = go (too_long text) refl
    where
      go : (long : Bool) → too_long text ≡ long → run_number w text room ≡ cond (too_long text) too_long_number 0
      go true l = rw l
      go false l =
          let few : line_count text ≤ longest_script = omega (arith, ltb-false longest_script (length text) l, lines_at_most text) in
          rw (l, le-ltb room (room_for w text) (omega (arith, enough, mul-le-mul_left w few)))
