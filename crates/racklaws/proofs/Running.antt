-- The run of a rack's script, in plain numbers.
-- Rests on account's RunNumbers, script's RackEnough and RackRoom, and on NamesRack.
use Rattle.std.proofs.Common.{◌≡◌, ◌∙◌, refl, ap, subst, Bool, true, false, List, ℕ, ◌+◌, ◌*◌, ◌<◌, ◌≤◌, arith, length, drop, take_at, lt-ltb, le-ltb}
use Rattle.text.specs.Lines.{lines_of}
use Rattle.rack.specs.State.{rack_of}
use Rattle.script.specs.Answers.{answers_from}
use Rattle.script.specs.RackAnswers.{answering}
use Rattle.script.specs.RackRun.{names_rack, room_for, room_for_text, run_number, output_left}
use Rattle.script.proofs.RackRoom.{most_room, most_room_lem}
use Rattle.script.proofs.RackEnough.{answers_length, behind_stays}
use Rattle.account.specs.Script.{line_total}
use Rattle.account.proofs.RunNumbers.{lines_counted}
use Rattle.racklaws.specs.NamesRack.{NamesRack}
use Rattle.racklaws.specs.Run.{answer_bytes, RefusedWith, too_long, no_rack, no_room, Refuses, Writes}
use Rattle.racklaws.proofs.NamesRack.{names_rack_lem, rack_made, lines_behind}

module _ (text : List ℕ) (named : NamesRack text) where
  room_behind : room_for (rack_of named.bases) (lines_of named.further) ≡ answer_bytes named
  unfolding rack_of
  room_behind =
      let width : 4 + 6 * length named.bases + 1 ≡ 5 + 6 * length named.bases = omega arith in
      rw (lines_counted named.further) (ap (λ (w : ℕ). w * line_total named.further) width)

  room : room_for_text text ≡ answer_bytes named
  room = rw (rack_made text named, lines_behind text named) room_behind

  -- MOST_ROOM is enough for it.
  pub enough : length text ≤ 4096 → answer_bytes named ≤ most_room
  enough short = omega (arith, room, most_room_lem text short)

  module _ (short : length text ≤ 4096) where
    number_short : (n : ℕ) → n < answer_bytes named → run_number text n ≡ 7
    unfolding run_number
    number_short n less = rw (le-ltb 4096 (length text) short, room, rack_made text named, lt-ltb n (answer_bytes named) less) refl

    number_enough : (n : ℕ) → answer_bytes named ≤ n → run_number text n ≡ 0
    unfolding run_number
    number_enough n more = rw (le-ltb 4096 (length text) short, room, rack_made text named, le-ltb n (answer_bytes named) more) refl

    pub writes : (out : List ℕ) → answer_bytes named ≤ length out → Writes text out named
    writes out more =
        let number = number_enough (length out) more in
        let rack = rack_of named.bases in
        let ls = lines_of named.further in
        record {
          told = rw (number, room, lines_behind text named, lines_counted named.further) refl;
          answers =
              rw (number, rack_made text named, lines_behind text named)
              (take_at (answers_from answering rack ls) (drop (room_for rack ls) out) (answer_bytes named) (answers_length rack ls ∙ room_behind));
          behind = subst (λ n. drop n (output_left text out) ≡ drop n out) room (behind_stays text out number);
        }

number_long : (text : List ℕ) (n : ℕ) → 4096 < length text → run_number text n ≡ 6
unfolding run_number
number_long text n long = rw (lt-ltb 4096 (length text) long) refl

number_of_none : (text : List ℕ) (n : ℕ) → length text ≤ 4096 → ¬ NamesRack text → run_number text n ≡ 9
unfolding run_number
number_of_none text n short none = go (names_rack text) refl
  where
    go : (t : Bool) → names_rack text ≡ t → run_number text n ≡ 9
    go true e = absurd (none (names_rack_lem text e))
    go false e = rw (le-ltb 4096 (length text) short, e) refl

-- A run with one of these numbers is refused.
pub refuses : (text out : List ℕ) (n : ℕ) → RefusedWith text out n → Refuses text out n
refuses text out n why = go why
  where
    go : {n : ℕ} → RefusedWith text out n → Refuses text out n
    go (too_long long) = let number = number_long text (length out) long in record { told = rw (number) refl; output = rw (number) refl }
    go (no_rack short none) = let number = number_of_none text (length out) short none in record { told = rw (number) refl; output = rw (number) refl }
    go (no_room short named less) = let number = number_short text named short (length out) less in record { told = rw (number) refl; output = rw (number) refl }
