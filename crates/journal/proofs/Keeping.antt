-- The pass over the words of a journal, turn by turn: what is kept of those gone through stands in front, with zero words behind, and ahead
-- nothing has changed.
-- Rests on Ahead and bits' Logic.
use Rattle.std.proofs.Common.{◌≡◌, ◌∙◌, refl, ap, sym, Bool, true, false, not, List, [], ◌∷◌, ◌++◌, append_assoc, append-nil, ℕ, suc, ◌+◌, ◌-◌, ◌<◌, ◌≤◌, arith, length, drop, set, get_or, replicate, length-append, length-drop, drop_of_length-le}
use lib.ListN.{length-replicate, replicate-append-replicate}
use lib.Seq.{set_at, get_or_at}
use Rattle.std.proofs.Math.Bool.{not-not}
use Rattle.bits.proofs.Logic.{both}
use Rattle.chip.specs.declared.Chip.{Chip}
use Rattle.journal.specs.Words.{event_in, is_frame, all_frames}
use Rattle.journal.specs.Same.{same_state}
use Rattle.journal.specs.Trim.{after_word, kept_from, filled_up}
use Rattle.journal.proofs.Ahead.{ahead}

-- Of the words ws₀, met by the chip c₀, those before the place `at` have been gone through, and `kept` of them are kept. They are `done`, and have
-- led to the chip c. What they and those ahead are kept as is what is kept of all.
pub record Keeping (c₀ : Chip) (ws₀ ws : List ℕ) (c : Chip) (at kept : ℕ) : Type 0 where
  pub done : List ℕ
  pub counted : length done ≡ kept
  pub behind : kept ≤ at
  pub inside : at ≤ length ws₀
  pub words : ws ≡ (done ++ replicate (at - kept) 0) ++ drop at ws₀
  pub all : done ++ kept_from c (drop at ws₀) ≡ kept_from c₀ ws₀
  pub frames : all_frames (drop at ws₀) ≡ true

pub starts : (c₀ : Chip) (ws₀ : List ℕ) → all_frames ws₀ ≡ true → Keeping c₀ ws₀ ws₀ c₀ 0 0
starts c₀ ws₀ frames = record {
  done = [];
  counted = refl;
  behind = omega arith;
  inside = omega arith;
  words = refl;
  all = refl;
  frames = frames;
}

-- What is kept of a word and of those behind it, where the word changes the chip, and where it does not.
kept_here : (c : Chip) (w : ℕ) (ws : List ℕ) → same_state c (after_word c w) ≡ false → kept_from c (w ∷ ws) ≡ w ∷ kept_from (after_word c w) ws
unfolding kept_from
kept_here c w ws differs = rw (differs)

dropped_here : (c : Chip) (w : ℕ) (ws : List ℕ) → same_state c (after_word c w) ≡ true → kept_from c (w ∷ ws) ≡ kept_from (after_word c w) ws
unfolding kept_from
dropped_here c w ws same = rw (same)

none_kept : (c : Chip) → kept_from c [] ≡ []
unfolding kept_from
none_kept c = refl

module _ (c₀ : Chip) (ws₀ ws : List ℕ) (c : Chip) (at kept : ℕ) (way : Keeping c₀ ws₀ ws c at kept) where
  -- What stands before the place.
  abbrev passed_by : List ℕ
  passed_by = way.done ++ replicate (at - kept) 0

  up_to_here : length passed_by ≡ at
  up_to_here =
      length-append way.done (replicate (at - kept) 0)
      ∙ omega (arith, way.counted, length-replicate {A = ℕ} (at - kept) 0, way.behind)

  pub long : length ws ≡ length ws₀
  long = ap length way.words ∙ length-append passed_by (drop at ws₀) ∙ omega (arith, up_to_here, length-drop at ws₀, way.inside)

  module _ (ahead_of_it : at < length ws) where
    abbrev word : ℕ
    word = get_or ws₀ at 0

    pub below : at < length ws₀
    below = omega (arith, ahead_of_it, long)

    split : ws ≡ passed_by ++ word ∷ drop (at + 1) ws₀
    split = way.words ∙ ap (λ l. passed_by ++ l) (ahead ws₀ at below)

    -- The word at the place is the one that stood there.
    pub here : get_or ws at 0 ≡ word
    here = ap (λ l. get_or l at 0) split ∙ get_or_at passed_by word (drop (at + 1) ws₀) 0 at up_to_here

    -- Taken out, it leaves one zero word more.
    pub taken_out : set ws at 0 ≡ (way.done ++ 0 ∷ replicate (at - kept) 0) ++ drop (at + 1) ws₀
    taken_out =
        ap (λ l. set l at 0) split
        ∙ set_at passed_by word (drop (at + 1) ws₀) 0 at up_to_here
        ∙ sym (append_assoc passed_by (0 ∷ []) (drop (at + 1) ws₀))
        ∙ ap (λ l. l ++ drop (at + 1) ws₀)
        (append_assoc way.done (replicate (at - kept) 0) (0 ∷ []) ∙ ap (λ l. way.done ++ l) one_zero_more)
      where
        one_zero_more : ◌++◌ {A = ℕ} (replicate (at - kept) 0) (0 ∷ []) ≡ 0 ∷ replicate (at - kept) 0
        one_zero_more =
            let count : at - kept + 1 ≡ 1 + (at - kept) = omega arith in
            replicate-append-replicate (at - kept) 1 0
            ∙ ap (λ (n : ℕ). replicate n 0) count
            ∙ sym (replicate-append-replicate 1 (at - kept) 0)

    both_frames : (is_frame (event_in word) ≡ true) × (all_frames (drop (at + 1) ws₀) ≡ true)
    both_frames = both (is_frame (event_in word)) (all_frames (drop (at + 1) ws₀)) (sym (ap all_frames (ahead ws₀ at below)) ∙ way.frames)

    pub is_frame_lem : is_frame (event_in (get_or ws at 0)) ≡ true
    is_frame_lem = ap (λ w. is_frame (event_in w)) here ∙ both_frames.0

    -- What is kept of this word and of those behind it, once more.
    all_here : way.done ++ kept_from c (word ∷ drop (at + 1) ws₀) ≡ kept_from c₀ ws₀
    all_here = ap (λ l. way.done ++ kept_from c l) (sym (ahead ws₀ at below)) ∙ way.all

    module _ (next : Chip) (met : next ≡ after_word c (get_or ws at 0)) (changed : Bool) (told : changed ≡ not (same_state c next)) where
      now_met : next ≡ after_word c word
      now_met = met ∙ ap (after_word c) here

      same_as : same_state c (after_word c word) ≡ not changed
      same_as = ap (same_state c) (sym now_met) ∙ sym (not-not _) ∙ ap not (sym told)

      -- A word that changes nothing is dropped.
      pub dropped : changed ≡ false → Keeping c₀ ws₀ (set ws at 0) next (at + 1) kept
      dropped off =
          let zeros : suc (at - kept) ≡ at + 1 - kept = omega (arith, way.behind) in
          record {
            done = way.done;
            counted = way.counted;
            behind = omega (arith, way.behind);
            inside = omega (arith, below);
            words = taken_out ∙ ap (λ n. (way.done ++ replicate n 0) ++ drop (at + 1) ws₀) zeros;
            all =
                ap (λ d. way.done ++ kept_from d (drop (at + 1) ws₀)) now_met
                ∙ ap (λ l. way.done ++ l) (sym (dropped_here c word (drop (at + 1) ws₀) (same_as ∙ ap not off)))
                ∙ all_here;
            frames = both_frames.1;
          }

      pub moved : changed ≡ true → Keeping c₀ ws₀ (set (set ws at 0) kept (get_or ws at 0)) next (at + 1) (kept + 1)
      moved on =
          let zeros : at - kept ≡ at + 1 - (kept + 1) = omega (arith, way.behind) in
          record {
            done = way.done ++ (word ∷ []);
            counted = length-append way.done (word ∷ []) ∙ ap (λ n. n + 1) way.counted;
            behind = omega (arith, way.behind);
            inside = omega (arith, below);
            words =
                (λ i. set ((taken_out ∙ append_assoc way.done (0 ∷ replicate (at - kept) 0) (drop (at + 1) ws₀)) i) kept (here i))
                ∙ set_at way.done 0 (replicate (at - kept) 0 ++ drop (at + 1) ws₀) word kept way.counted
                ∙ sym (append_assoc way.done (word ∷ []) (replicate (at - kept) 0 ++ drop (at + 1) ws₀))
                ∙ sym (append_assoc (way.done ++ (word ∷ [])) (replicate (at - kept) 0) (drop (at + 1) ws₀))
                ∙ ap (λ n. ((way.done ++ (word ∷ [])) ++ replicate n 0) ++ drop (at + 1) ws₀) zeros;
            all =
                append_assoc way.done (word ∷ []) (kept_from next (drop (at + 1) ws₀))
                ∙ ap (λ d. way.done ++ (word ∷ kept_from d (drop (at + 1) ws₀))) now_met
                ∙ ap (λ l. way.done ++ l) (sym (kept_here c word (drop (at + 1) ws₀) (same_as ∙ ap not on)))
                ∙ all_here;
            frames = both_frames.1;
          }

  -- Behind the last word `done` is all that is kept, and what stands behind it is zero.
  module _ (over : length ws ≤ at) where
    end : at ≡ length ws₀
    end = omega (arith, over, long, way.inside)

    none_ahead : drop at ws₀ ≡ []
    none_ahead = let all_passed : length ws₀ ≤ at = omega (arith, end) in drop_of_length-le ws₀ all_passed

    pub arrives : way.done ≡ kept_from c₀ ws₀
    arrives =
        sym (append-nil way.done)
        ∙ ap (λ l. way.done ++ l) (sym (ap (kept_from c) none_ahead ∙ none_kept c))
        ∙ way.all

    pub filled_up_lem : ws ≡ filled_up way.done (length ws₀)
    filled_up_lem =
        way.words
        ∙ ap (λ l. passed_by ++ l) none_ahead
        ∙ append-nil passed_by
        ∙ (λ i. way.done ++ replicate (end i - sym way.counted i) 0)
