-- The words of a journal: an event packed in 32 bits, and read back ("Trimming the journal").
use Rattle.std.specs.Prelude.{Bool, ◌&&◌, ◌||◌, List, ℕ, ◌+◌, ◌*◌, ◌/◌, ◌%◌, eqb, ltb}
use Rattle.std.specs.List.{list_all}
use Rattle.bus.specs.Kinds.{is_kind, operands_of}
use Rattle.bus.specs.Event.{Event, event}
use Rattle.journal.specs.declared.words.Logged.{Logged}

-- The packing: the kind times 65,536, the first operand times 256, and the second.
abbrev pub word_of : Event → ℕ
word_of e = e.kind * 65536 + e.first * 256 + e.second

-- The reading: the kind is all that stands above the lower sixteen bits, and the operands are the two bytes there.
abbrev pub event_in : ℕ → Event
event_in w = event (w / 65536) (w / 256 % 256) (w % 256)

-- It, as the code gives it back.
abbrev pub logged_in : ℕ → Logged
logged_in w = record { kind = (event_in w).kind; first = (event_in w).first; second = (event_in w).second }

-- Operands beyond the first n are zero.
abbrev pub unused_zero : ℕ → Event → Bool
unused_zero n e = (ltb 0 n || eqb e.first 0) && (ltb 1 n || eqb e.second 0)

-- A frame has a kind that there is, and zero for each operand that the kind lacks.
unfoldable pub is_frame : Event → Bool
is_frame e = is_kind e.kind && unused_zero (operands_of e.kind) e

-- Each word of a journal is a frame in this packing.
abbrev pub all_frames : List ℕ → Bool
all_frames ws = list_all (λ w. is_frame (event_in w)) ws
