-- What a trim gives back and leaves, by its number: where it is accepted, and where it is refused.
-- Rests on nothing.
use Rattle.std.proofs.Common.{◌≡◌, refl, Bool, true, false, cond, not, List, [], ◌∷◌, ℕ, suc, ◌*◌, ◌≤◌, arith, eqb, ltb, length, ltb-false, eq-eqb, ne_eqb}
use Rattle.chip.specs.declared.Chip.{Chip}
use Rattle.chip.specs.State.{levels_by, power_up_as}
use Rattle.journal.specs.Words.{all_frames}
use Rattle.journal.specs.Same.{same_state}
use Rattle.journal.specs.Trim.{after_word, kept_from, edition_fits, edition_as, kept_of, most_words, no_edition_number, too_long_number, no_frame_number, trim_number, trim_answer, filled_up, trimmed_words}

-- No more words are kept than there are.
pub kept_at_most : (c : Chip) (ws : List ℕ) → length (kept_from c ws) ≤ length ws
unfolding kept_from
kept_at_most c [] = omega arith
kept_at_most c (w ∷ ws) = go (kept_from (after_word c w) ws) (same_state c (after_word c w)) (kept_at_most (after_word c w) ws)
  where
    go : (ks : List ℕ) (same : Bool) → length ks ≤ length ws → length (cond same ks (w ∷ ks)) ≤ suc (length ws)
    go ks true most = omega (arith, most)
    go ks false most = omega (arith, most)

module _ (ws : List ℕ) (edition a b c : ℕ) where
  pub refused_answer : ¬ (trim_number ws edition ≡ 0) → trim_number ws edition ≡ trim_answer ws edition a b c
  unfolding trim_answer
  refused_answer refused = rw (ne_eqb (trim_number ws edition) 0 refused)

  pub refused_words : ¬ (trim_number ws edition ≡ 0) → ws ≡ trimmed_words ws edition a b c
  unfolding trimmed_words
  refused_words refused = rw (ne_eqb (trim_number ws edition) 0 refused)

  pub accepted_answer : trim_number ws edition ≡ 0 → 256 * length (kept_of ws edition a b c) ≡ trim_answer ws edition a b c
  unfolding trim_answer
  accepted_answer zero = rw (eq-eqb (trim_number ws edition) 0 zero)

  pub accepted_words : trim_number ws edition ≡ 0 → filled_up (kept_of ws edition a b c) (length ws) ≡ trimmed_words ws edition a b c
  unfolding trimmed_words
  accepted_words zero = rw (eq-eqb (trim_number ws edition) 0 zero)

  -- No answer is greater than that of the longest journal, all of which is kept.
  pub answer_at_most : trim_answer ws edition a b c ≤ 256 * most_words
  unfolding trim_number trim_answer
  answer_at_most = go (edition_fits edition) (ltb most_words (length ws)) refl (all_frames ws)
    where
      count : ℕ
      count = length (kept_of ws edition a b c)

      answer_by : ℕ → ℕ
      answer_by n = cond (eqb n 0) (256 * count) n

      go : (known many : Bool) → ltb most_words (length ws) ≡ many → (all : Bool)
          → answer_by (cond (not known) no_edition_number (cond many too_long_number (cond all 0 no_frame_number))) ≤ 256 * most_words
      go false many m all = omega arith
      go true true m all = omega arith
      go true false m false = omega arith
      go true false m true = omega (arith, kept_at_most (power_up_as (edition_as edition) (levels_by a b c)) ws, ltb-false most_words (length ws) m)
