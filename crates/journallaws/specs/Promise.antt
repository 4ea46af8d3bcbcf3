-- What is promised of a trim: of its number, of the words that it leaves, and of what they mean ("Trimming the journal").
use Rattle.std.specs.Prelude.{◌≡◌, List, ◌++◌, ℕ, ◌/◌, ◌%◌, ◌<◌, ◌≤◌, length, take, get_or}
use Rattle.bus.specs.Event.{Event}
use Rattle.control.specs.declared.Group.{Group}
use Rattle.chip.specs.declared.channel.Side.{Side}
use Rattle.chip.specs.declared.Edition.{Edition}
use Rattle.chip.specs.declared.Levels.{Levels}
use Rattle.chip.specs.State.{power_up_as}
use Rattle.image.specs.Layout.{edition_byte}
use Rattle.fates.specs.Bytes.{bytes_of, values_and_fates}
use Rattle.fates.specs.Promise.{run, tallies}
use Rattle.restored.specs.Host.{host_run, power_up_in}
use Rattle.journal.specs.Trim.{trim_answer, trimmed_words}
use Rattle.journallaws.specs.Frames.{Frames}
use Rattle.journallaws.specs.Keeps.{events_in, Keeps}

-- Two histories from a power-up mean the same: they lead to the same chip, and so to the same tallies; on each channel they bring the same
-- bytes, with the same values and fates, places aside; and a host that passes them to its chip holds the same bytes in the end.
pub record SameMeaning (ed : Edition) (v : Levels) (es ks : List Event) : Type 0 where
  pub state : run (power_up_as ed v) ks ≡ run (power_up_as ed v) es
  pub counts : (g : Group) (s : Side) → tallies g s (power_up_as ed v) ks ≡ tallies g s (power_up_as ed v) es
  pub fates : (g : Group) (s : Side) → values_and_fates (bytes_of g s ed v ks) ≡ values_and_fates (bytes_of g s ed v es)
  pub image : (l : List ℕ) → length l ≡ 96 → host_run (power_up_in l ed v) ks ≡ host_run (power_up_in l ed v) es

-- A call of the trim that names an edition and levels: its answer, the words that it leaves, and those of them that it says are kept.
abbrev pub answer_of : Edition → Levels → List ℕ → ℕ
answer_of ed v ws = trim_answer ws (edition_byte ed) v.a v.b v.c

abbrev pub left_of : Edition → Levels → List ℕ → List ℕ
left_of ed v ws = trimmed_words ws (edition_byte ed) v.a v.b v.c

abbrev pub front_of : Edition → Levels → List ℕ → List ℕ
front_of ed v ws = take (answer_of ed v ws / 256) (left_of ed v ws)

-- What is promised of an accepted call.
pub record Trimmed (ed : Edition) (v : Levels) (ws : List ℕ) : Type 0 where
  -- The words are as many as before; those behind the kept ones are zero. (Beyond the last there is 1, and no zero.)
  pub accepted : answer_of ed v ws % 256 ≡ 0
  pub as_long : length (left_of ed v ws) ≡ length ws
  pub counted : length (front_of ed v ws) ≡ answer_of ed v ws / 256
  pub zero_behind : (i : ℕ) → answer_of ed v ws / 256 ≤ i → i < length ws → get_or (left_of ed v ws) i 1 ≡ 0
  -- Those that change the chip are kept, and no others.
  pub keeps : Keeps (power_up_as ed v) (events_in ws) (events_in (front_of ed v ws))
  -- They mean the same as all, also where the same new events are logged behind them.
  pub same_meaning : SameMeaning ed v (events_in ws) (events_in (front_of ed v ws))
  pub goes_on : (new : List Event) → SameMeaning ed v (events_in ws ++ new) (events_in (front_of ed v ws) ++ new)
  -- A trim of what is kept keeps all of it.
  pub again : (answer_of ed v (front_of ed v ws) ≡ answer_of ed v ws) × (left_of ed v (front_of ed v ws) ≡ front_of ed v ws)

-- A refused call answers its number and nothing else, and changes no word.
abbrev pub RefusedWith : ℕ → List ℕ → ℕ → ℕ → ℕ → ℕ → Type 0
RefusedWith n ws edition a b c = (trim_answer ws edition a b c ≡ n) × (trimmed_words ws edition a b c ≡ ws)

-- The number of every call: 8 where there is no such edition; then 6 where there are more than 8,192 words; then 1 where a word is no frame; and
-- else 0.
pub record Numbered (ws : List ℕ) (edition a b c : ℕ) : Type 0 where
  pub no_edition : 1 < edition → RefusedWith 8 ws edition a b c
  pub too_long : edition ≤ 1 → 8192 < length ws → RefusedWith 6 ws edition a b c
  pub no_frame : edition ≤ 1 → length ws ≤ 8192 → ¬ Frames ws → RefusedWith 1 ws edition a b c
  pub accepted : edition ≤ 1 → length ws ≤ 8192 → Frames ws → trim_answer ws edition a b c % 256 ≡ 0
