-- What surrounds a channel, worked out from the events alone: the bus phase, the mode word and the levels outside ("State"), for a chip whose
-- edition is named.
use Rattle.std.specs.Prelude.{Bool, false, cond, ◌&&◌, List, [], ◌∷◌, ℕ, eqb}
use Rattle.bits.specs.Bit.{bit_of}
use Rattle.bus.specs.Event.{Event}
use Rattle.bus.specs.declared.Phase.{Phase}
use Rattle.bus.specs.declared.Phase.TheVariants.{Idle, Reading, Writing}
use Rattle.chip.specs.declared.Edition.{Edition}
use Rattle.chip.specs.declared.Levels.{Levels}
use Rattle.fates.specs.Kinds.{Kind, reset, cycle_ended, unknown, read_begun, write_begun, new_levels, kind_of, accepts}

-- The phase, the edition, the mode word in force, and the levels on ports A, B and C.
pub record Surroundings : Type 0 where
  pub phase : Phase
  pub edition : Edition
  pub word : ℕ
  pub levels_a : ℕ
  pub levels_b : ℕ
  pub levels_c : ℕ

-- The mode word at power-up and after a reset: every port is an input in mode 0.
abbrev pub first_word : ℕ
first_word = 0x9b

-- At power-up the bus is idle, the mode word is that one, and the edition and the lines are as they were named.
abbrev pub at_power_up : Edition → Levels → Surroundings
at_power_up ed l = record { phase = Idle; edition = ed; word = first_word; levels_a = l.a; levels_b = l.b; levels_c = l.c }

-- The write that runs is of a mode word: to control, with bit 7 set ("Mode words").
abbrev pub of_mode_word : Phase → Bool
of_mode_word Idle = false
of_mode_word (Reading p) = false
of_mode_word (Writing x d) = eqb x 3 && bit_of d 7

-- The byte that the write brings; 0 stands where no write runs, and is not asked for.
abbrev pub brought : Phase → ℕ
brought Idle = 0
brought (Reading p) = 0
brought (Writing x d) = d

-- A cycle runs from its beginning to its end; a reset drops it.
abbrev pub phase_after : Phase → Kind → Phase
phase_after ph reset = Idle
phase_after ph (read_begun x) = Reading x
phase_after ph cycle_ended = Idle
phase_after ph (write_begun x d) = Writing x d
phase_after ph (new_levels x d) = ph
phase_after ph unknown = ph

-- A mode word comes into force where the cycle that ends is its write, and a reset brings back the first.
abbrev pub word_after : Phase → ℕ → Kind → ℕ
word_after ph w reset = first_word
word_after ph w (read_begun x) = w
word_after ph w cycle_ended = cond (of_mode_word ph) (brought ph) w
word_after ph w (write_begun x d) = w
word_after ph w (new_levels x d) = w
word_after ph w unknown = w

-- The levels of port p, which the outside alone changes.
abbrev pub levels_after : ℕ → ℕ → Kind → ℕ
levels_after p l reset = l
levels_after p l (read_begun x) = l
levels_after p l cycle_ended = l
levels_after p l (write_begun x d) = l
levels_after p l (new_levels x d) = cond (eqb x p) d l
levels_after p l unknown = l

-- All of it after an accepted event. The edition is for good.
abbrev pub surroundings_after : Surroundings → Kind → Surroundings
surroundings_after a e = record {
  phase = phase_after a.phase e;
  edition = a.edition;
  word = word_after a.phase a.word e;
  levels_a = levels_after 0 a.levels_a e;
  levels_b = levels_after 1 a.levels_b e;
  levels_c = levels_after 2 a.levels_c e;
}

-- After any event: a refused one changes nothing.
abbrev pub surroundings_next : Surroundings → Event → Surroundings
surroundings_next a e = cond (accepts a.edition a.phase (kind_of e)) (surroundings_after a (kind_of e)) a

-- And after a history.
abbrev pub surroundings_over : Surroundings → List Event → Surroundings
surroundings_over a [] = a
surroundings_over a (e ∷ es) = surroundings_over (surroundings_next a e) es
