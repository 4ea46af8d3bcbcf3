-- What is promised of an accepted call of the trim: what it leaves, and what that means.
-- Rests on Kept, Meaning and Shapes, and on journal's Trimming.
use Rattle.std.proofs.Common.{◌≡◌, ◌∙◌, refl, ap, sym, true, List, ◌++◌, append-nil, ℕ, ◌+◌, ◌-◌, ◌*◌, ◌/◌, ◌<◌, ◌≤◌, arith, length, take, get_or, replicate, length-append, take_at, get_or-append-add, le-ltb}
use lib.ListN.{length-replicate, get_or-replicate}
use Rattle.chip.specs.declared.Edition.{Edition}
use Rattle.chip.specs.declared.Edition.TheVariants.{Older, Newer}
use Rattle.chip.specs.declared.Levels.{Levels}
use Rattle.chip.specs.State.{power_up_as}
use Rattle.image.specs.Layout.{edition_byte}
use Rattle.journal.specs.Words.{all_frames}
use Rattle.journal.specs.Trim.{kept_from, kept_of, trim_number, filled_up}
use Rattle.journal.proofs.Trimming.{kept_at_most, accepted_answer, accepted_words}
use Rattle.journallaws.specs.Frames.{Frames}
use Rattle.journallaws.specs.Keeps.{events_in, Keeps}
use Rattle.journallaws.specs.Promise.{answer_of, left_of, front_of, Trimmed}
use Rattle.journallaws.proofs.Kept.{keeps, kept_again, kept_frames}
use Rattle.journallaws.proofs.Meaning.{same_meaning_lem, alone}
use Rattle.journallaws.proofs.Shapes.{shapes_all}

-- An edition by its number is that edition.
kept_is : (ed : Edition) (v : Levels) (ws : List ℕ) → kept_of ws (edition_byte ed) v.a v.b v.c ≡ kept_from (power_up_as ed v) ws
kept_is Older v ws = refl
kept_is Newer v ws = refl

known : (ed : Edition) → edition_byte ed ≤ 1
known Older = omega arith
known Newer = omega arith

module _ (ed : Edition) (v : Levels) where
  abbrev kept_in : List ℕ → List ℕ
  kept_in ws = kept_from (power_up_as ed v) ws

  module _ (ws : List ℕ) (few : length ws ≤ 8192) (all : all_frames ws ≡ true) where
    zero : trim_number ws (edition_byte ed) ≡ 0
    unfolding trim_number
    zero = rw (le-ltb 1 (edition_byte ed) (known ed), le-ltb 8192 (length ws) few, all)

    answer : answer_of ed v ws ≡ 256 * length (kept_in ws)
    answer = sym (accepted_answer ws (edition_byte ed) v.a v.b v.c zero) ∙ ap (λ ks. 256 * length ks) (kept_is ed v ws)

    words : left_of ed v ws ≡ filled_up (kept_in ws) (length ws)
    words = sym (accepted_words ws (edition_byte ed) v.a v.b v.c zero) ∙ ap (λ ks. filled_up ks (length ws)) (kept_is ed v ws)

    count : answer_of ed v ws / 256 ≡ length (kept_in ws)
    count = omega (arith, answer)

    front : front_of ed v ws ≡ kept_in ws
    front = (λ i. take (count i) (words i)) ∙ take_at (kept_in ws) (replicate (length ws - length (kept_in ws)) 0) (length (kept_in ws)) refl

    as_long_lem : length (left_of ed v ws) ≡ length ws
    as_long_lem =
        ap length words
        ∙ length-append (kept_in ws) (replicate (length ws - length (kept_in ws)) 0)
        ∙ omega (arith, length-replicate {A = ℕ} (length ws - length (kept_in ws)) 0, kept_at_most (power_up_as ed v) ws)

    zero_behind_lem : (i : ℕ) → answer_of ed v ws / 256 ≤ i → i < length ws → get_or (left_of ed v ws) i 1 ≡ 0
    zero_behind_lem i behind inside =
        let n = length (kept_in ws) in
        let place : i ≡ n + (i - n) = omega (arith, behind, count) in
        (λ j. get_or (words j) (place j) 1)
        ∙ get_or-append-add (kept_in ws) (replicate (length ws - n) 0) (i - n) 1
        ∙ get_or-replicate (length ws - n) (i - n) 0 1 (omega (arith, behind, count, inside))

  pub trimmed : (ws : List ℕ) → length ws ≤ 8192 → Frames ws → Trimmed ed v ws
  trimmed ws few shapes =
      let all = shapes_all ws shapes in
      let ks = kept_in ws in
      let again = kept_again (power_up_as ed v) ws in
      let fewer : length ks ≤ 8192 = omega (arith, kept_at_most (power_up_as ed v) ws, few) in
      let frames = kept_frames (power_up_as ed v) ws all in
      let kept : Keeps (power_up_as ed v) (events_in ws) (events_in ks) = keeps (power_up_as ed v) ws in
      record {
        accepted = omega (arith, answer ws few all);
        as_long = as_long_lem ws few all;
        counted = ap length (front ws few all) ∙ sym (count ws few all);
        zero_behind = zero_behind_lem ws few all;
        keeps = rw (front ws few all) kept;
        same_meaning = rw (front ws few all) (alone ed v (events_in ws) (events_in ks) kept);
        goes_on = λ new. rw (front ws few all) (same_meaning_lem ed v (events_in ws) (events_in ks) kept new);
        again = (
          ap (answer_of ed v) (front ws few all) ∙ answer ks fewer frames ∙ ap (λ l. 256 * length l) again ∙ sym (answer ws few all),
          ap (left_of ed v) (front ws few all) ∙ words ks fewer frames ∙ ap (λ l. filled_up l (length ks)) again ∙ full ks ∙ sym (front ws few all),
        );
      }
    where
      full : (ks : List ℕ) → filled_up ks (length ks) ≡ ks
      full ks = let none : length ks - length ks ≡ 0 = omega arith in ap (λ n. ks ++ replicate n 0) none ∙ append-nil ks
