-- What the trim keeps is what the relation keeps; kept again, it is all kept.
-- Rests on bits' Logic and journal's Exact.
use Rattle.std.proofs.Common.{◌≡◌, refl, ap, sym, subst, Bool, true, false, cond, List, [], ◌∷◌, ℕ}
use Rattle.bits.proofs.Logic.{both, contrary}
use Rattle.chip.specs.declared.Chip.{Chip}
use Rattle.journal.specs.Words.{event_in, is_frame, all_frames}
use Rattle.journal.specs.Same.{same_state}
use Rattle.journal.specs.Trim.{after_word, kept_from}
use Rattle.journal.proofs.Exact.{only_then_lem, then}
use Rattle.journallaws.specs.Keeps.{events_in, Keeps, none, kept, dropped}

module _ (c : Chip) (w : ℕ) where
  is_same : same_state c (after_word c w) ≡ true → after_word c w ≡ c
  is_same same = sym (only_then_lem c (after_word c w) same)

  differs : same_state c (after_word c w) ≡ false → ¬ (after_word c w ≡ c)
  differs other is = contrary (same_state c (after_word c w)) other (then c (after_word c w) (sym is))

pub keeps : (c : Chip) (ws : List ℕ) → Keeps c (events_in ws) (events_in (kept_from c ws))
unfolding kept_from
keeps c [] = none
keeps c (w ∷ ws) = go (same_state c (after_word c w)) refl (keeps (after_word c w) ws)
  where
    go : (b : Bool) → same_state c (after_word c w) ≡ b → Keeps (after_word c w) (events_in ws) (events_in (kept_from (after_word c w) ws))
        → Keeps c (events_in (w ∷ ws)) (events_in (cond b (kept_from (after_word c w) ws) (w ∷ kept_from (after_word c w) ws)))
    go true same later = dropped (is_same c w same) later
    go false other later = kept (differs c w other) later

-- Of what is kept all is kept.
pub kept_again : (c : Chip) (ws : List ℕ) → kept_from c (kept_from c ws) ≡ kept_from c ws
unfolding kept_from
kept_again c [] = refl
kept_again c (w ∷ ws) = go (same_state c (after_word c w)) refl (kept_again (after_word c w) ws)
  where
    c' : Chip
    c' = after_word c w

    go : (b : Bool) → same_state c c' ≡ b → kept_from c' (kept_from c' ws) ≡ kept_from c' ws
        → kept_from c (cond b (kept_from c' ws) (w ∷ kept_from c' ws)) ≡ cond b (kept_from c' ws) (w ∷ kept_from c' ws)
    go true same again = subst (λ (d : Chip). kept_from d (kept_from c' ws) ≡ kept_from c' ws) (is_same c w same) again
    go false other again = rw (other) (ap (λ (ks : List ℕ). w ∷ ks) again)

-- What is kept of frames is frames.
pub kept_frames : (c : Chip) (ws : List ℕ) → all_frames ws ≡ true → all_frames (kept_from c ws) ≡ true
unfolding kept_from
kept_frames c [] all = refl
kept_frames c (w ∷ ws) all =
    let k = both (is_frame (event_in w)) (all_frames ws) all in
    go (same_state c (after_word c w)) k.0 (kept_frames (after_word c w) ws k.1)
  where
    go : (b : Bool) → is_frame (event_in w) ≡ true → all_frames (kept_from (after_word c w) ws) ≡ true
        → all_frames (cond b (kept_from (after_word c w) ws) (w ∷ kept_from (after_word c w) ws)) ≡ true
    go true is later = later
    go false is later = rw (is) later
