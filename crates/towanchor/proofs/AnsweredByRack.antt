-- With room for any script's answers, what a rack's run leaves in front of the output, or its number alone, is what the program prints; and
-- it is refused where the text is too long or its first line is no rack.
-- Rests on bits' Logic and on script's RackRoom and RackEnough.
use Rattle.std.proofs.Common.{◌≡◌, Ok, Err, ℕ, ◌≤◌, Bool, true, false, List, length, take, drop, cond, not, ap, ◌∙◌, refl, take_at, eqb, arith, eq-eqb}
use Rattle.bits.proofs.Logic.{contrary}
use Rattle.script.specs.Run.{too_long, too_long_number}
use Rattle.rack.specs.Bases.{bad_rack_number}
use Rattle.script.specs.Answers.{answers_from}
use Rattle.script.specs.declared.racks.Ran as counts
use Rattle.script.specs.declared.racks.RackRunRefusal.{RackRunRefusal}
use Rattle.script.specs.RackAnswers.{answering}
use Rattle.script.specs.RackRun.{run_told, names_rack, rack_named, to_answer, room_for_text, run_number, run_refusal_number, run_refusal_never_0, Ran, ran_of, output_left}
use Rattle.script.proofs.RackRoom.{most_room}
use Rattle.script.proofs.RackEnough.{answers_length, room_enough}
use Rattle.prints.specs.Printed.{refusal_text, printed_of_rack, refuses_rack}

module _ (text out : List ℕ) (enough : most_room ≤ length out) where
  abbrev by_line : ℕ
  by_line = cond (too_long text) too_long_number (cond (not (names_rack text)) bad_rack_number 0)

  number_is : run_number text (length out) ≡ by_line
  number_is = room_enough text (length out) enough

  -- The number that a run gives back is the run's.
  number_given : (r : Ran) → r ≡ ran_of text (length out) → r.number ≡ by_line
  number_given r is = ap (λ (r : Ran). r.number) is ∙ grind arith ∙ number_is

  pub answered : (ran : counts.Ran) → run_told (Ok ran) ≡ ran_of text (length out)
      → (take ran.length (output_left text out) ≡ printed_of_rack text) × (false ≡ refuses_rack text)
  unfolding printed_of_rack
  answered ran is = go (too_long text) (names_rack text) refl refl
    where
      go : (long rack : Bool) → too_long text ≡ long → names_rack text ≡ rack
          → (take ran.length (output_left text out) ≡ printed_of_rack text) × (false ≡ refuses_rack text)
      go true rack l k = absurd (omega (arith, rw (l) at (number_given _ is)))
      go false false l k = absurd (omega (arith, rw (l, k) at (number_given _ is)))
      go false true l k =
          let counted : ran.length ≡ room_for_text text = rw (number_is, l, k) at (ap (λ (r : Ran). r.length) is) in (
            rw (counted, number_is, l, k)
                (take_at (answers_from answering (rack_named text) (to_answer text)) (drop (room_for_text text) out) (room_for_text text)
                (answers_length (rack_named text) (to_answer text))),
            rw (l, k) refl,
          )

  pub refused : (r : RackRunRefusal) → run_told (Err r) ≡ ran_of text (length out)
      → (refusal_text (run_refusal_number r) ≡ printed_of_rack text) × (true ≡ refuses_rack text)
  unfolding printed_of_rack
  refused r is = go (too_long text) (names_rack text) refl refl
    where
      number : run_refusal_number r ≡ by_line
      number = number_given _ is

      go : (long rack : Bool) → too_long text ≡ long → names_rack text ≡ rack
          → (refusal_text (run_refusal_number r) ≡ printed_of_rack text) × (true ≡ refuses_rack text)
      go true rack l k = (rw (number, l) refl, rw (l) refl)
      go false false l k = (rw (number, l, k) refl, rw (l, k) refl)
      go false true l k = absurd (contrary (eqb (run_refusal_number r) 0) (run_refusal_never_0 r) (eq-eqb _ 0 (number ∙ rw (l, k) refl)))
