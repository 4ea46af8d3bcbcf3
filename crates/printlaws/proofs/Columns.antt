-- The answers of a rack have the columns that they should have.
-- Rests on script's Levels and RackShown.
use Rattle.std.proofs.Common.{◌≡◌, ℕ, zero, suc, ◌+◌, ◌*◌, ◌<◌, ◌≤◌, List, [], ◌∷◌, ◌++◌, drop, refl, ap, ◌∙◌, arith, drop_at, lt-ltb}
use Rattle.bus.specs.Device.{Given}
use Rattle.chip.specs.Pins.{pins_of}
use Rattle.text.specs.Digits.{digit_code, in_digits}
use Rattle.text.specs.Lines.{lf, Line}
use Rattle.rack.specs.declared.Rack.{Rack}
use Rattle.rack.specs.State.{chip_at}
use Rattle.rack.specs.Targets.{is_place}
use Rattle.script.specs.Answers.{levels_from, all_levels, line_text, line_after, answers_from}
use Rattle.script.proofs.Levels.{all_length, line_length}
use Rattle.script.specs.RackFrames.{RackFrame, Event, NoFrame, rack_frame_in}
use Rattle.script.specs.RackAnswers.{acted, count_kept, answering}
use Rattle.script.proofs.RackShown.{shows_cards}
use Rattle.racklaws.specs.Digits.{two_digits}
use Rattle.printlaws.specs.Columns.{stepped_by, step_at, column, AnswerLine, Answers, none, next}

pub same_digits : (b : ℕ) → in_digits b ≡ two_digits b
unfolding digit_code
same_digits b = refl

same_step : (r : Rack) (f : RackFrame) → acted r f ≡ stepped_by r f
unfolding acted
same_step r (Event k x y z) = refl
same_step r NoFrame = refl

-- The levels of a port stand where they should, among those of n cards from card i on.
levels_at_lem : (r : Rack) (rest : List ℕ) (n i place at port : ℕ) → at ≡ place + i → place < n → port < 3
    → column (6 * place + 2 * port) (levels_from answering r i n ++ rest) ≡ in_digits (answering.levels r at port)
unfolding levels_from
levels_at_lem r rest zero i place at port same there is = absurd (omega (arith, there))
levels_at_lem r rest (suc n) i zero at zero same there is = let first : at ≡ i = omega (arith, same) in rw (first) refl
levels_at_lem r rest (suc n) i zero at (suc zero) same there is = let first : at ≡ i = omega (arith, same) in rw (first) refl
levels_at_lem r rest (suc n) i zero at (suc (suc zero)) same there is = let first : at ≡ i = omega (arith, same) in rw (first) refl
levels_at_lem r rest (suc n) i zero at (suc (suc (suc p))) same there is = absurd (omega (arith, is))
levels_at_lem r rest (suc n) i (suc place) at port same there is =
    let behind : 6 * suc place + 2 * port ≡ suc (suc (suc (suc (suc (suc (6 * place + 2 * port)))))) = omega arith in
    rw (behind) (levels_at_lem r rest n (suc i) place at port (omega (arith, same)) (omega (arith, there)) is)

module _ (given : Given Rack) (few : given.state.count ≤ 8) where
  abbrev line : List ℕ
  line = line_after answering given

  abbrev levels : List ℕ
  levels = all_levels answering given.state

  ports : (place port : ℕ) → place < given.state.count → port < 3
      → column (4 + 6 * place + 2 * port) line ≡ two_digits (pins_of (chip_at given.state place) port).levels
  unfolding line_text is_place
  ports place port there is =
      let behind : 4 + 6 * place + 2 * port ≡ suc (suc (suc (suc (6 * place + 2 * port)))) = omega arith in
      let shown : answering.levels given.state place port ≡ (pins_of (chip_at given.state place) port).levels =
      shows_cards given.state place port (rw (lt-ltb place given.state.count there, lt-ltb place 8 (omega (arith, there, few)))) in
      rw (behind) (levels_at_lem given.state (lf ∷ []) given.state.count 0 place place port (omega arith) there is) ∙ ap in_digits shown ∙ same_digits _

  ended : drop (4 + 6 * given.state.count) line ≡ lf ∷ []
  unfolding line_text
  ended =
      let behind : 4 + 6 * given.state.count ≡ suc (suc (suc (suc (6 * given.state.count)))) = omega arith in
      rw (behind) (drop_at levels (lf ∷ []) (6 * given.state.count) (all_length answering given.state))

  pub line_of_columns : AnswerLine line given
  unfolding line_text
  line_of_columns = record {
    number = same_digits given.number;
    byte = same_digits given.byte;
    ports = ports;
    ended = ended;
    width = line_length answering given ∙ omega arith;
  }

pub in_columns : (ls : List Line) (r : Rack) → r.count ≤ 8 → Answers r ls (answers_from answering r ls)
unfolding answers_from
in_columns [] r few = none
in_columns (l ∷ ls) r few =
    let kept : (step_at r l).state.count ≤ 8 = omega (arith, few, count_kept r (rack_frame_in l), ap (λ (g : Given Rack). g.state.count) (same_step r (rack_frame_in l))) in
    rw (same_step r (rack_frame_in l)) (next (line_of_columns (step_at r l) kept) (in_columns ls (step_at r l).state kept))
