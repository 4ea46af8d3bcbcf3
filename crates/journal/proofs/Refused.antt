-- The answer of a trim and the words that it leaves, by its edition or by the number of one.
-- Rests on chip's Editions.
use Rattle.std.proofs.Common.{◌≡◌, refl, Bool, true, false, cond, List, ℕ, ◌*◌, ltb, eqb, length, None}
use Rattle.chip.specs.declared.Edition.{Edition}
use Rattle.chip.specs.declared.Edition.TheVariants.{Older, Newer}
use Rattle.chip.specs.State.{levels_by, power_up_as, edition_number, edition_numbered}
pub use Rattle.chip.proofs.Editions.{edition_back}
use Rattle.journal.specs.Words.{all_frames}
use Rattle.journal.specs.Trim.{kept_from, most_words, filled_up, trim_number, trim_answer, trimmed_words}
use Rattle.journal.proofs.Editions.{no_edition}

-- What is chosen by the number of a trim is chosen by the two tests.
chosen : {A : Type 0} (kept : A) (none : ℕ → A) (long frames : Bool)
    → cond (eqb (cond long 6 (cond frames 0 1)) 0) kept (none (cond long 6 (cond frames 0 1))) ≡ cond long (none 6) (cond frames kept (none 1))
chosen kept none true frames = refl
chosen kept none false true = refl
chosen kept none false false = refl

module _ (ws : List ℕ) (a b c : ℕ) where
  pub answer_by : (e : Edition) → trim_answer ws (edition_number e) a b c
      ≡ cond (ltb most_words (length ws)) 6 (cond (all_frames ws) (256 * length (kept_from (power_up_as e (levels_by a b c)) ws)) 1)
  unfolding trim_answer trim_number
  answer_by Older = chosen (256 * length (kept_from (power_up_as Older (levels_by a b c)) ws)) (λ n. n) (ltb most_words (length ws)) (all_frames ws)
  answer_by Newer = chosen (256 * length (kept_from (power_up_as Newer (levels_by a b c)) ws)) (λ n. n) (ltb most_words (length ws)) (all_frames ws)

  pub words_by : (e : Edition) → trimmed_words ws (edition_number e) a b c
      ≡ cond (ltb most_words (length ws)) ws (cond (all_frames ws) (filled_up (kept_from (power_up_as e (levels_by a b c)) ws) (length ws)) ws)
  unfolding trimmed_words trim_number
  words_by Older = chosen (filled_up (kept_from (power_up_as Older (levels_by a b c)) ws) (length ws)) (λ n. ws) (ltb most_words (length ws)) (all_frames ws)
  words_by Newer = chosen (filled_up (kept_from (power_up_as Newer (levels_by a b c)) ws) (length ws)) (λ n. ws) (ltb most_words (length ws)) (all_frames ws)

  pub answer_unknown : (n : ℕ) → None ≡ edition_numbered n → trim_answer ws n a b c ≡ 8
  unfolding trim_answer trim_number
  answer_unknown n none = rw (no_edition n none)

  pub words_unknown : (n : ℕ) → None ≡ edition_numbered n → trimmed_words ws n a b c ≡ ws
  unfolding trimmed_words trim_number
  words_unknown n none = rw (no_edition n none)

pub ruleset by_edition = (answer_by, words_by)

pub ruleset by_number = (edition_back, answer_unknown, words_unknown)
