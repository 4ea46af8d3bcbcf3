-- Which act decides a byte's fate, fate by fate, in the account's words and by plain numbers ("Handshake", "Forcing the flags", "Mode words",
-- "State").
use Rattle.std.specs.Prelude.{◌≡◌, true, false, List, [], ◌∷◌, ℕ, zero, suc, ◌/◌, ◌%◌, length}
use Rattle.bits.specs.Bit.{bit_of}
use Rattle.bus.specs.Event.{Event}
use Rattle.control.specs.declared.Group.{Group}
use Rattle.chip.specs.declared.channel.Side.{Side}
use Rattle.chip.specs.declared.channel.Side.TheVariants.{Input, Output}
use Rattle.fates.specs.Numbers.{own_port, own_line, own_flag}
use Rattle.fates.specs.Surroundings.{Surroundings, surroundings_next}
use Rattle.fates.specs.Bytes.{Fate, handed_over, overwritten, swallowed, cleared, struck, waiting, Byte}
use Rattle.fates.specs.Promise.{Each}
use Rattle.account.specs.Acts.{Act, anew, read_begins, read_ends, written, levels, act}
use Rattle.account.specs.Account.{strobed}

-- The levels d lower pin n, which was high.
pub record Lowers (a : Surroundings) (n d : ℕ) : Type 0 where
  pub high : bit_of a.levels_c n ≡ true
  pub low : bit_of d n ≡ false

-- The act t gives a byte that waits in a channel its fate. A byte is handed over where RD falls at an input's port, or as ACK falls. It is
-- overwritten as STB falls, or where WR rises at an output's port. It is swallowed where RD rises at an input's port, and cleared where all is made
-- anew. It is struck where bit set/reset names the channel's flag in its bits 3 to 1, and resets IBF or sets OBF by bit 0.
pub data Decides (g : Group) (a : Surroundings) (t : Act) : Side → Fate → Type 0 where
  read : strobed a g Input ≡ true → t ≡ read_begins (own_port g) → Decides g a t Input handed_over
  acknowledged : {d : ℕ} → strobed a g Output ≡ true → t ≡ levels 2 d → Lowers a (own_line g Output) d → Decides g a t Output handed_over
  strobed_again : {d : ℕ} → strobed a g Input ≡ true → t ≡ levels 2 d → Lowers a (own_line g Input) d → Decides g a t Input overwritten
  written_again : {d : ℕ} → strobed a g Output ≡ true → t ≡ written (own_port g) d → Decides g a t Output overwritten
  read_over : strobed a g Input ≡ true → t ≡ read_ends (own_port g) → Decides g a t Input swallowed
  wiped : {s : Side} → t ≡ anew → Decides g a t s cleared
  ibf_reset : {d : ℕ} → strobed a g Input ≡ true → t ≡ written 3 d → d / 2 % 8 ≡ own_flag g Input → bit_of d 0 ≡ false
      → Decides g a t Input struck
  obf_set : {d : ℕ} → strobed a g Output ≡ true → t ≡ written 3 d → d / 2 % 8 ≡ own_flag g Output → bit_of d 0 ≡ true
      → Decides g a t Output struck

-- In a history from the surroundings a the event at place n comes to such an act; the first is at place 1. A refused event comes to nothing.
abbrev pub DecidesAt : Group → Side → Fate → Surroundings → List Event → ℕ → Type 0
DecidesAt g s f a [] n = ⊥
DecidesAt g s f a (e ∷ es) zero = ⊥
DecidesAt g s f a (e ∷ es) (suc zero) = Decides g a (act a e) s f
DecidesAt g s f a (e ∷ es) (suc (suc n)) = DecidesAt g s f (surroundings_next a e) es (suc n)

-- What decided a fate at place n. Of a byte that waits the place is the one behind the last event.
abbrev pub DecidedAt : Group → Side → Surroundings → List Event → Fate → ℕ → Type 0
DecidedAt g s a es handed_over n = DecidesAt g s handed_over a es n
DecidedAt g s a es overwritten n = DecidesAt g s overwritten a es n
DecidedAt g s a es swallowed n = DecidesAt g s swallowed a es n
DecidedAt g s a es cleared n = DecidesAt g s cleared a es n
DecidedAt g s a es struck n = DecidesAt g s struck a es n
DecidedAt g s a es waiting n = n ≡ suc (length es)

-- So it is with each of a channel's bytes.
abbrev pub EachDecided : Group → Side → Surroundings → List Event → List Byte → Type 0
EachDecided g s a es bs = Each (λ b. DecidedAt g s a es b.outcome.fate b.outcome.place) bs
