-- The trim of a journal: what is kept, its number, its answer, and the words that it leaves ("Trimming the journal").
use Rattle.std.specs.Prelude.{refl, Bool, cond, not, List, [], ◌∷◌, ◌++◌, ℕ, ◌-◌, ◌*◌, eqb, ltb, length, replicate, Result, Ok, Err}
use Rattle.bus.specs.Never0.{Never0}
use Rattle.chip.specs.declared.Chip.{Chip}
use Rattle.chip.specs.declared.Edition.{Edition}
use Rattle.chip.specs.declared.Edition.TheVariants.{Older, Newer}
use Rattle.chip.specs.State.{levels_by, power_up_as}
use Rattle.chip.specs.Step.{stepped}
use Rattle.journal.specs.declared.TrimRefusal.{TrimRefusal}
use Rattle.journal.specs.declared.TrimRefusal.TheVariants.{NoFrame, TooLong, NoEdition}
use Rattle.journal.specs.Words.{event_in, all_frames}
use Rattle.journal.specs.Same.{same_state}

-- The chip after the event of a word.
abbrev pub after_word : Chip → ℕ → Chip
after_word c w = (stepped c (event_in w)).state

-- Of some words those are kept, in order, after which the state differs from the state before.
unfoldable pub kept_from : Chip → List ℕ → List ℕ
kept_from c [] = []
kept_from c (w ∷ ws) = cond (same_state c (after_word c w)) (kept_from (after_word c w) ws) (w ∷ kept_from (after_word c w) ws)

-- The older edition is 0, and the newer is 1. There is no other.
abbrev pub edition_fits : ℕ → Bool
edition_fits n = not (ltb 1 n)

abbrev pub edition_as : ℕ → Edition
edition_as n = cond (eqb n 0) Older Newer

-- They are kept from a power-up on, whose edition and levels the caller names.
abbrev pub kept_of : List ℕ → ℕ → ℕ → ℕ → ℕ → List ℕ
kept_of ws edition a b c = kept_from (power_up_as (edition_as edition) (levels_by a b c)) ws

-- A journal has at most 8,192 words.
abbrev pub most_words : ℕ
most_words = 8192

-- The refusals: there is no such edition; there are more words than that; a word is no frame.
abbrev pub no_edition_number : ℕ
no_edition_number = 8

abbrev pub too_long_number : ℕ
too_long_number = 6

abbrev pub no_frame_number : ℕ
no_frame_number = 1

abbrev pub refusal_number : TrimRefusal → ℕ
refusal_number NoEdition = no_edition_number
refusal_number TooLong = too_long_number
refusal_number NoFrame = no_frame_number

pub refusal_never_0 : Never0 refusal_number
refusal_never_0 NoEdition = refl
refusal_never_0 TooLong = refl
refusal_never_0 NoFrame = refl

-- The number of a trim: that of the first refusal that applies, and 0 where none does.
unfoldable pub trim_number : List ℕ → ℕ → ℕ
trim_number ws edition =
    cond (not (edition_fits edition)) no_edition_number
    (cond (ltb most_words (length ws)) too_long_number
    (cond (all_frames ws) 0 no_frame_number))

-- The answer: how many are kept, above the number. A refused call keeps none.
unfoldable pub trim_answer : List ℕ → ℕ → ℕ → ℕ → ℕ → ℕ
trim_answer ws edition a b c =
    cond (eqb (trim_number ws edition) 0) (256 * length (kept_of ws edition a b c)) (trim_number ws edition)

-- The answer that an outcome tells: its count above the number 0, or the number of its refusal.
abbrev pub answer_told : Result ℕ TrimRefusal → ℕ
answer_told (Ok kept) = 256 * kept
answer_told (Err r) = refusal_number r

-- Words with zero words behind, as many in all as there were.
abbrev pub filled_up : List ℕ → ℕ → List ℕ
filled_up ks n = ks ++ replicate (n - length ks) 0

-- The words after the call: those that are kept, and zero words behind them. A refused call leaves every word as it was.
unfoldable pub trimmed_words : List ℕ → ℕ → ℕ → ℕ → ℕ → List ℕ
trimmed_words ws edition a b c = cond (eqb (trim_number ws edition) 0) (filled_up (kept_of ws edition a b c) (length ws)) ws
