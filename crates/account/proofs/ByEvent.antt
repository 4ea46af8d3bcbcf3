-- What holds of the surroundings after each act holds after every event; and they go on alike where bit 7 of the mode word counts as set.
-- Rests on bits' Logic.
use Rattle.std.proofs.Common.{◌≡◌, refl, Bool, true, false, cond, ◌&&◌, ℕ, eqb, ltb}
use Rattle.bits.specs.Bit.{bit_of}
use Rattle.bits.proofs.Logic.{contrary, both}
use Rattle.bus.specs.Event.{Event}
use Rattle.bus.specs.declared.Phase.{Phase}
use Rattle.bus.specs.declared.Phase.TheVariants.{Idle, Reading, Writing}
use Rattle.fates.specs.Kinds.{Kind, reset, cycle_ended, unknown, read_begun, write_begun, new_levels, kind_of, free, readable_at, accepts}
use Rattle.fates.specs.Surroundings.{Surroundings, of_mode_word, brought, surroundings_after, surroundings_next}
use Rattle.account.specs.Acts.{Act, nothing, anew, read_begins, read_ends, write_begins, written, levels, ending, act_of, act}
use Rattle.account.specs.Promise.{with_bit7}

is_idle : (ph : Phase) → free ph ≡ true → ph ≡ Idle
is_idle Idle e = refl
is_idle (Reading x) e = cc
is_idle (Writing x d) e = cc

-- The same edition and levels, in another phase and under another word.
abbrev pub on_bus : Phase → ℕ → Surroundings → Surroundings
on_bus ph w a = record { phase = ph; edition = a.edition; word = w; levels_a = a.levels_a; levels_b = a.levels_b; levels_c = a.levels_c }

-- What is shown of the surroundings that each act leaves: nothing happens, all is made anew, a cycle begins or ends, or levels come.
pub record SurroundingsAfterEachAct (P : Surroundings → Act → Type 0) (a : Surroundings) : Type 0 where
  pub at_rest : P a nothing
  pub made_anew : (w : ℕ) → P (on_bus Idle w a) anew
  pub read_starts : (x : ℕ) → a.phase ≡ Idle → P (on_bus (Reading x) a.word a) (read_begins x)
  pub read_over : (x : ℕ) → a.phase ≡ Reading x → P (on_bus Idle a.word a) (read_ends x)
  pub write_starts : (x d : ℕ) → a.phase ≡ Idle → P (on_bus (Writing x d) a.word a) (write_begins x)
  pub write_over : (x d : ℕ) → a.phase ≡ Writing x d → P (on_bus Idle a.word a) (written x d)
  pub levels_put : (x d : ℕ) → P (surroundings_after a (new_levels x d)) (levels x d)

module _ (P : Surroundings → Act → Type 0) (a : Surroundings) (shown : SurroundingsAfterEachAct P a) where
  by_phase : (ph : Phase) → a.phase ≡ ph → accepts a.edition ph cycle_ended ≡ true → P (on_bus Idle (cond (of_mode_word ph) (brought ph) a.word) a) (ending ph)
  by_phase Idle phase ok = absurd (contrary false refl ok)
  by_phase (Reading x) phase ok = shown.read_over x phase
  by_phase (Writing x d) phase ok = go (eqb x 3 && bit_of d 7)
    where
      go : (mode : Bool) → P (on_bus Idle (cond mode d a.word) a) (cond mode anew (written x d))
      go true = shown.made_anew d
      go false = shown.write_over x d phase

  by_name : (ok : Bool) (v : Kind) → accepts a.edition a.phase v ≡ ok → P (cond ok (surroundings_after a v) a) (cond ok (act_of a.phase v) nothing)
  by_name false v e = shown.at_rest
  by_name true reset e = shown.made_anew 0x9b
  by_name true (read_begun x) e = shown.read_starts x (is_idle a.phase (both (readable_at a.edition x) (free a.phase) e).1)
  by_name true cycle_ended e = by_phase a.phase refl e
  by_name true (write_begun x d) e = shown.write_starts x d (is_idle a.phase (both (ltb x 4) (free a.phase) e).1)
  by_name true (new_levels x d) e = shown.levels_put x d
  by_name true unknown e = absurd (contrary false refl e)

  pub by_event : (e : Event) → P (surroundings_next a e) (act a e)
  by_event e = by_name (accepts a.edition a.phase (kind_of e)) (kind_of e) refl

-- The surroundings with bit 7 of the word counted as set.
abbrev pub seven : Surroundings → Surroundings
seven a = on_bus a.phase (with_bit7 a.word) a

-- A word that has it set is itself.
counted_is : (w : ℕ) → bit_of w 7 ≡ true → with_bit7 w ≡ w
counted_is w set = rw (set)

module _ (a : Surroundings) where
  seven_ended : (ph : Phase) → seven (on_bus Idle (cond (of_mode_word ph) (brought ph) a.word) a) ≡ on_bus Idle (cond (of_mode_word ph) (brought ph) (with_bit7 a.word)) a
  seven_ended Idle = refl
  seven_ended (Reading x) = refl
  seven_ended (Writing x d) = go (eqb x 3 && bit_of d 7) refl
    where
      go : (mode : Bool) → (eqb x 3 && bit_of d 7) ≡ mode → seven (on_bus Idle (cond mode d a.word) a) ≡ on_bus Idle (cond mode d (with_bit7 a.word)) a
      go true e = rw (counted_is d (both (eqb x 3) (bit_of d 7) e).1)
      go false e = refl

  seven_after : (v : Kind) → seven (surroundings_after a v) ≡ surroundings_after (seven a) v
  unfolding bit_of
  seven_after reset = refl
  seven_after (read_begun x) = refl
  seven_after cycle_ended = seven_ended a.phase
  seven_after (write_begun x d) = refl
  seven_after (new_levels x d) = refl
  seven_after unknown = refl

  pub seven_next : (e : Event) → seven (surroundings_next a e) ≡ surroundings_next (seven a) e
  seven_next e = go (accepts a.edition a.phase (kind_of e))
    where
      go : (ok : Bool) → seven (cond ok (surroundings_after a (kind_of e)) a) ≡ cond ok (surroundings_after (seven a) (kind_of e)) (seven a)
      go true = seven_after (kind_of e)
      go false = refl
