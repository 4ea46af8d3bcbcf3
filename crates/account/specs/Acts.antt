-- What an event comes to, and its number ("Events and numbers"): the end of a cycle is what the cycle was, and a refused event is nothing.
use Rattle.std.specs.Prelude.{cond, [], ◌∷◌, ℕ, get_or}
use Rattle.bus.specs.Event.{Event}
use Rattle.bus.specs.declared.Phase.{Phase}
use Rattle.bus.specs.declared.Phase.TheVariants.{Idle, Reading, Writing}
use Rattle.chip.specs.declared.Edition.{Edition}
use Rattle.chip.specs.declared.Edition.TheVariants.{Older, Newer}
use Rattle.fates.specs.Kinds.{Kind, reset, cycle_ended, unknown, read_begun, write_begun, new_levels, kind_of, free, accepts}
use Rattle.fates.specs.Surroundings.{Surroundings, of_mode_word}

-- `anew`: a reset, or the end of a mode word's write. `read_begins x`, `read_ends x`: RD falls, and rises, at the address x. `write_begins x`,
-- `written x d`: WR falls, and rises with the byte d, which is no mode word. `levels x d`: the levels d come onto port x.
pub data Act : Type 0 where
  nothing anew : Act
  read_begins read_ends write_begins : ℕ → Act
  written levels : ℕ → ℕ → Act

-- The end of the cycle that runs.
abbrev pub ending : Phase → Act
ending Idle = nothing
ending (Reading x) = read_ends x
ending (Writing x d) = cond (of_mode_word (Writing x d)) anew (written x d)

-- An accepted event.
abbrev pub act_of : Phase → Kind → Act
act_of ph reset = anew
act_of ph (read_begun x) = read_begins x
act_of ph cycle_ended = ending ph
act_of ph (write_begun x d) = write_begins x
act_of ph (new_levels x d) = levels x d
act_of ph unknown = nothing

-- Any event.
abbrev pub act : Surroundings → Event → Act
act a e = cond (accepts a.edition a.phase (kind_of e)) (act_of a.phase (kind_of e)) nothing

-- A cycle that would begin: 4 where another runs.
abbrev pub begun : Phase → ℕ
begun ph = cond (free ph) 0 4

-- A read of control: the older edition has none to give, whatever runs ("The 82C55A").
abbrev pub read_at_control : Edition → Phase → ℕ
read_at_control Older ph = 3
read_at_control Newer ph = begun ph

-- The number of an event, place by place: A, B, C and control; 2 is for every place that there is not, whatever runs.
abbrev pub number_by : Edition → Phase → Kind → ℕ
number_by ed ph reset = 0
number_by ed ph (read_begun x) = get_or (begun ph ∷ begun ph ∷ begun ph ∷ read_at_control ed ph ∷ []) x 2
number_by ed ph cycle_ended = cond (free ph) 5 0
number_by ed ph (write_begun x d) = get_or (begun ph ∷ begun ph ∷ begun ph ∷ begun ph ∷ []) x 2
number_by ed ph (new_levels x d) = get_or (0 ∷ 0 ∷ 0 ∷ []) x 2
number_by ed ph unknown = 1
