-- What the cards see of the bus after an accepted event: the one that it reaches what a chip alone has, and every other what it saw
-- before.
-- Rests on OnCard, and on the bus's ByKind and Numbering.
use Rattle.std.proofs.Common.{◌≡◌, refl, sym, true, ℕ, ◌<◌, eq-eqb, ne_eqb}
use Rattle.bus.specs.Kinds as kinds
use Rattle.bus.specs.Kinds.{begins}
use Rattle.bus.proofs.ByKind.{by_kind}
use Rattle.bus.specs.declared.Phase.{Phase}
use Rattle.bus.specs.declared.Phase.TheVariants.{Idle, Reading, Writing}
use Rattle.bus.specs.Refusals.{number_of}
use Rattle.bus.specs.Cycles.{phase_after}
use Rattle.bus.proofs.Numbering.{row_refuses}
use Rattle.chip.specs.Step as card
use Rattle.rack.specs.Bases.{most_cards}
use Rattle.rack.specs.State.{number_at, place_of, seen_at, card_edition}
use Rattle.rack.specs.Step.{runs_at}
use Rattle.racklaws.proofs.OnCard.{reached_by, place_numbered, register_numbered}

module _ (i r d : ℕ) (h : i < most_cards) where
  pub seen_own : (ph : Phase) (k : ℕ) → ¬ (k ≡ 0) → number_of (card.limits card_edition) ph k r ≡ 0
      → seen_at (reached_by ph k i) (phase_after ph k (number_at i r) d) ≡ phase_after (seen_at (reached_by ph k i) ph) k r d
  seen_own ph =
      by_kind (λ k. ¬ (k ≡ 0) → number_of (card.limits card_edition) ph k r ≡ 0
      → seen_at (reached_by ph k i) (phase_after ph k (number_at i r) d) ≡ phase_after (seen_at (reached_by ph k i) ph) k r d)
      (λ n. absurd (n refl))
      (λ n e. rw (place_numbered i r h, register_numbered i r h, eq-eqb i i refl))
      (λ n e. refl)
      (λ n e. rw (place_numbered i r h, register_numbered i r h, eq-eqb i i refl))
      (λ n e. refl)
      (λ k none n e. absurd (row_refuses (card.limits card_edition) ph k r 0 none e))

  -- A cycle that begins finds an idle bus.
  idle_others : (ph : Phase) (k : ℕ) → begins k ≡ true → number_of (card.limits card_edition) ph k r ≡ 0 → (j : ℕ) → seen_at j ph ≡ Idle
  idle_others Idle k b e j = refl
  idle_others (Reading x) k b e j = absurd (row_refuses (card.limits card_edition) (Reading x) k r 3 (rw b) e)
  idle_others (Writing x c) k b e j = absurd (row_refuses (card.limits card_edition) (Writing x c) k r 3 (rw b) e)

  -- Who is not the card on which a cycle runs sees none.
  not_theirs : (ph : Phase) (j : ℕ) → ¬ (j ≡ runs_at ph) → seen_at j ph ≡ Idle
  not_theirs Idle j n = refl
  not_theirs (Reading x) j n = rw (ne_eqb (place_of x) j (λ e. n (sym e)))
  not_theirs (Writing x c) j n = rw (ne_eqb (place_of x) j (λ e. n (sym e)))

  pub seen_others : (ph : Phase) (k : ℕ) → ¬ (k ≡ 0) → number_of (card.limits card_edition) ph k r ≡ 0 → (j : ℕ) → ¬ (j ≡ reached_by ph k i)
      → seen_at j (phase_after ph k (number_at i r) d) ≡ seen_at j ph
  seen_others ph =
      by_kind (λ k. ¬ (k ≡ 0) → number_of (card.limits card_edition) ph k r ≡ 0 → (j : ℕ) → ¬ (j ≡ reached_by ph k i)
      → seen_at j (phase_after ph k (number_at i r) d) ≡ seen_at j ph)
      (λ n. absurd (n refl))
      (λ n e j m. rw (idle_others ph kinds.begin_read refl e j, place_numbered i r h, ne_eqb i j (λ w. m (sym w))))
      (λ n e j m. sym (not_theirs ph j m))
      (λ n e j m. rw (idle_others ph kinds.begin_write refl e j, place_numbered i r h, ne_eqb i j (λ w. m (sym w))))
      (λ n e j m. refl)
      (λ k none n e. absurd (row_refuses (card.limits card_edition) ph k r 0 none e))
