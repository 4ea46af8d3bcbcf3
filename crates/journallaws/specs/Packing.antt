-- Which event a word packs, in plain numbers, and which words are frames ("Trimming the journal").
use Rattle.std.specs.Prelude.{◌≡◌, Bool, ℕ, ◌+◌, ◌*◌}
use Rattle.bus.specs.Event.{event}
use Rattle.journal.specs.Words.{word_of, event_in, is_frame}

-- The word of an event is its kind times 65,536, its first operand times 256, and its second; and that word is read as that event.
pub record Packs (kind first second : ℕ) : Type 0 where
  pub packing : word_of (event kind first second) ≡ 65536 * kind + 256 * first + second
  pub reading : event_in (65536 * kind + 256 * first + second) ≡ event kind first second

-- Whether the trim takes a word for a frame: it looks at the event that the word packs.
abbrev pub word_is_frame : ℕ → Bool
word_is_frame w = is_frame (event_in w)
