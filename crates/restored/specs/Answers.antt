-- What the calls answer along a host's whole run, in the host's own words: the bytes that it keeps, the answers, and what the events alone
-- tell, which is the account and the bytes of each channel.
use Rattle.std.specs.Prelude.{◌≡◌, Bool, cond, ◌||◌, List, [], ◌∷◌, ◌++◌, ℕ, zero, suc, ◌+◌, ◌*◌, ◌/◌, ◌%◌, ltb}
use Rattle.bits.specs.Bit.{bit_of}
use Rattle.bus.specs.Event.{Event}
use Rattle.control.specs.declared.Group.{Group}
use Rattle.chip.specs.declared.channel.Side.{Side}
use Rattle.chip.specs.declared.channel.Side.TheVariants.{Input, Output}
use Rattle.chip.specs.declared.Edition.{Edition}
use Rattle.chip.specs.declared.Levels.{Levels}
use Rattle.chip.specs.Handshakes.{flag_pin}
use Rattle.fates.specs.Kinds.{kind_of}
use Rattle.fates.specs.Surroundings.{Surroundings, at_power_up, surroundings_next}
use Rattle.fates.specs.Effects.{port_number, effect}
use Rattle.fates.specs.Bytes.{handed_over, overwritten, swallowed, cleared, struck, Byte, bytes_of, planted_among, offered_among, count}
use Rattle.fates.specs.Promise.{new_bytes, old_byte, Each}
use Rattle.fates.specs.Discipline.{Minds, NoneLost, NeverForced, NoneForced}
use Rattle.account.specs.Acts.{number_by}
use Rattle.account.specs.Account.{Account, opened}
use Rattle.account.specs.Views.{levels_shown, mask_shown, byte_answered}
use Rattle.account.specs.Reasons.{explained}
use Rattle.account.specs.Promise.{over, account_of}
use Rattle.image.specs.Loaded.{state_of}
use Rattle.calls.specs.Calls.{step_answer, pins_answer, tally_answer, explain_answer}
use Rattle.restored.specs.Header.{answer_of, by_channel, entry}
use Rattle.restored.specs.Host.{passed, host_run, power_up_in}

-- What a call of the step answers, where an event is passed to it,
abbrev pub answer_to : List ℕ → Event → ℕ
answer_to l e = step_answer l e.kind e.first e.second

-- and what it answers by the account: the number, and the byte above it.
abbrev pub answer_by : Account → Event → ℕ
answer_by a e = answer_of (number_by a.surroundings.edition a.surroundings.phase (kind_of e)) (byte_answered a e) 0

-- What the pins call answers of port p by the account: the levels, and the mask of those driven above them; 2 above port 2.
abbrev pub pins_by : Account → ℕ → ℕ
pins_by a p = cond (ltb 2 p) 2 (answer_of 0 (levels_shown a p) (mask_shown a p))

-- What the explanation call answers of group n by the account: the number, and above it what is said of the input's half and of the output's.
abbrev pub explained_by : Account → ℕ → ℕ
explained_by a n = answer_of (explained a n).number (explained a n).input (explained a n).output

-- What the tallies of a channel count, by their numbers: of the bytes that came since the start those that were offered; of these bytes and the
-- one that waited there those that were handed over, overwritten, swallowed and cleared; of those that came since the ones that were planted;
-- and of all again those that were struck.
abbrev pub counts : List Byte → List Byte → List ℕ
counts new all =
    offered_among new ∷ count handed_over all ∷ count overwritten all ∷ count swallowed all ∷ count cleared all
    ∷ planted_among new ∷ count struck all ∷ []

-- What the tally call answers of tally n of channel k by these counts, which go on from the tallies at the start; 2 above channel 3 and tally 6.
abbrev pub tally_by : (ℕ → ℕ → ℕ) → (Group → Side → List Byte) → (Group → Side → List Byte) → ℕ → ℕ → ℕ
tally_by start new all k n =
    cond (ltb 3 k || ltb 6 n) 2 (256 * ((start k n + entry (by_channel (λ g s. counts (new g s) (all g s))) k n) % 65536))

-- The call to which an event is passed shows the byte v: to the program, by the number 0 with that byte; to the device, by the number 0,
-- and the pins call right after it answers that byte with all eight lines of the port driven.
abbrev pub AnswerShows : Group → Side → List ℕ → Event → ℕ → Type 0
AnswerShows g Input l e v = answer_to l e ≡ answer_of 0 v 0
AnswerShows g Output l e v = (answer_to l e % 256 ≡ 0) × (pins_answer (passed l e) (port_number g) ≡ answer_of 0 v 0xff)

-- The call at place n of a run shows v; the first is at place 1.
abbrev pub AnsweredAt : Group → Side → List ℕ → List Event → ℕ → ℕ → Type 0
AnsweredAt g s l [] n v = ⊥
AnsweredAt g s l (e ∷ es) zero v = ⊥
AnsweredAt g s l (e ∷ es) (suc zero) v = AnswerShows g s l e v
AnsweredAt g s l (e ∷ es) (suc (suc n)) v = AnsweredAt g s (passed l e) es (suc n) v

-- What the calls answer after the events es, passed one by one to the bytes l, where a is the account of the beginning, `start` are the
-- tallies there, `new` are the bytes offered and planted since, and `all` are these and the one that waited at the start.
pub record Answers (l : List ℕ) (a : Account) (es : List Event) (start : ℕ → ℕ → ℕ) (new all : Group → Side → List Byte) : Type 0 where
  -- The step, whatever event comes next; the pin view of every port; what is said of every group's INTR; every tally of every channel.
  pub next : (e : Event) → answer_to (host_run l es) e ≡ answer_by (over a es) e
  pub pins : (p : ℕ) → pins_answer (host_run l es) p ≡ pins_by (over a es) p
  pub explains : (n : ℕ) → explain_answer (host_run l es) n ≡ explained_by (over a es) n
  pub tallies : (k n : ℕ) → tally_answer (host_run l es) k n ≡ tally_by start new all k n
  -- Each byte handed over was shown, as it was offered, by the call that passed the event at its place.
  pub as_offered : (g : Group) (s : Side)
      → Each (λ b. b.outcome.fate ≡ handed_over → AnsweredAt g s l es b.outcome.place b.offer.value) (all g s)

-- IBF in what the pins call answers of port C: a bit of the levels.
abbrev pub ibf_answered : List ℕ → Group → Bool
ibf_answered l g = bit_of (pins_answer l 2 / 256 % 256) (flag_pin g Input)

-- Device and program keep to the discipline throughout a run, by the IBF that the pins call answers before each event.
abbrev pub HostDisciplined : Group → Surroundings → List ℕ → List Event → Type 0
HostDisciplined g a l [] = Unit {0}
HostDisciplined g a l (e ∷ es) = Minds (ibf_answered l g) (effect g Input a e) × HostDisciplined g (surroundings_next a e) (passed l e) es

-- What is promised of a host that powers its chip up, of either edition and under any levels, in 96 bytes that held anything, and passes it any
-- events: what the calls answer, the tallies counting from 0; and that no input byte is overwritten or swallowed where device and program keep
-- to the discipline, and none planted or struck where no flag is forced. Nothing here asks a chip.
pub record HostKept (l : List ℕ) (ed : Edition) (v : Levels) (es : List Event) : Type 0 where
  pub answers : Answers (power_up_in l ed v) (opened ed v) es (λ k n. 0) (λ g s. bytes_of g s ed v es) (λ g s. bytes_of g s ed v es)
  pub none_lost : (g : Group) → HostDisciplined g (at_power_up ed v) (power_up_in l ed v) es → NoneLost (bytes_of g Input ed v es)
  pub none_forced : (g : Group) (s : Side) → NeverForced g s (at_power_up ed v) es → NoneForced (bytes_of g s ed v es) (bytes_of g s ed v es)

-- What is promised of an image and any events after it: what the calls answer, by the account of the chip that the image tells, the tallies
-- counting from what the tally call answers there.
abbrev pub ImageKept : List ℕ → List Event → Type 0
ImageKept l es =
    let c = state_of l in
    Answers l (account_of c) es (λ k n. tally_answer l k n / 256) (λ g s. new_bytes g s c es) (λ g s. old_byte g s c es ++ new_bytes g s c es)
