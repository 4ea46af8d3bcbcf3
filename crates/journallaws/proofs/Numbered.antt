-- The number of every call of the trim.
-- Rests on Shapes, and on journal's Trimming.
use Rattle.std.proofs.Common.{◌≡◌, ◌∙◌, refl, sym, Bool, true, false, cond, List, ℕ, ◌<◌, ◌≤◌, arith, length, lt-ltb, le-ltb}
use Rattle.journal.specs.Words.{all_frames}
use Rattle.journal.specs.Trim.{trim_number}
use Rattle.journal.proofs.Trimming.{refused_answer, refused_words, accepted_answer}
use Rattle.journallaws.specs.Frames.{Frames}
use Rattle.journallaws.specs.Promise.{RefusedWith, Numbered}
use Rattle.journallaws.proofs.Shapes.{all_shapes, shapes_all}

-- The number, by the refusals.
module _ (ws : List ℕ) (edition a b c : ℕ) where
  refused_with : (n : ℕ) → trim_number ws edition ≡ n → ¬ (n ≡ 0) → RefusedWith n ws edition a b c
  refused_with n is some =
      let refused : ¬ (trim_number ws edition ≡ 0) = λ e. some (sym is ∙ e) in
      (sym (refused_answer ws edition a b c refused) ∙ is, sym (refused_words ws edition a b c refused))

  no_edition_lem : 1 < edition → trim_number ws edition ≡ 8
  unfolding trim_number
  no_edition_lem above = rw (lt-ltb 1 edition above)

  too_long_lem : edition ≤ 1 → 8192 < length ws → trim_number ws edition ≡ 6
  unfolding trim_number
  too_long_lem known many = rw (le-ltb 1 edition known, lt-ltb 8192 (length ws) many)

  by_frames : edition ≤ 1 → length ws ≤ 8192 → (all : Bool) → all_frames ws ≡ all → trim_number ws edition ≡ cond all 0 1
  unfolding trim_number
  by_frames known few all is = rw (le-ltb 1 edition known, le-ltb 8192 (length ws) few, is)

  not_all : ¬ Frames ws → all_frames ws ≡ false
  not_all none = go (all_frames ws) refl
    where
      go : (all : Bool) → all_frames ws ≡ all → all ≡ false
      go true is = absurd (none (all_shapes ws is))
      go false is = refl

  pub numbered : Numbered ws edition a b c
  numbered = record {
    no_edition = λ above. refused_with 8 (no_edition_lem above) (λ e. omega (arith, e));
    too_long = λ known many. refused_with 6 (too_long_lem known many) (λ e. omega (arith, e));
    no_frame = λ known few none. refused_with 1 (by_frames known few false (not_all none)) (λ e. omega (arith, e));
    accepted = λ known few all.
        let zero = by_frames known few true (shapes_all ws all) in
        let count = accepted_answer ws edition a b c zero in
        omega (arith, count);
  }
