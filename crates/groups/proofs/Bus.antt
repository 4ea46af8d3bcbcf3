-- The bus of a history beside that of the same history without one group's events, from the events alone.
-- Rests on bits' Logic.
use Rattle.std.proofs.Common.{◌≡◌, ◌∙◌, refl, Bool, true, false, cond, not, ◌&&◌, ltb}
use Rattle.bits.proofs.Logic.{contrary, both}
use Rattle.bus.specs.Event.{Event}
use Rattle.bus.specs.declared.Phase.{Phase}
use Rattle.bus.specs.declared.Phase.TheVariants.{Idle, Reading, Writing}
use Rattle.control.specs.declared.Group.{Group}
use Rattle.fates.specs.Kinds.{Kind, reset, cycle_ended, unknown, read_begun, write_begun, new_levels, kind_of, free, readable_at, accepts}
use Rattle.fates.specs.Surroundings.{Surroundings, phase_after, surroundings_after, surroundings_next}
use Rattle.groups.specs.Doings.{its_cycle, is_of}
use Rattle.groups.specs.Alone.{in_the_way}

-- Without the group's events the bus is idle while its cycle runs, and otherwise what it is.
abbrev pub freed : Group → Phase → Phase
freed h ph = cond (its_cycle h ph) Idle ph

pub not_its_lem : (h : Group) (ph : Phase) → its_cycle h ph ≡ false → freed h ph ≡ ph
not_its_lem h ph other = rw (other)

pub its_busy : (h : Group) (ph : Phase) → its_cycle h ph ≡ true → free ph ≡ false
its_busy h Idle its = absurd (contrary false refl its)
its_busy h (Reading x) its = refl
its_busy h (Writing x d) its = refl

-- A cycle is begun at a place while the group's cycle runs. If that is not in its way, there is no such place.
no_such_place : (its own there way : Bool) → its ≡ true → own ≡ false → way ≡ false
    → ((its && not own) && ((there && true) && not (there && way))) ≡ false → (there && true) ≡ (there && way)
no_such_place its own false way runs other busy clear = refl
no_such_place false own true way runs other busy clear = absurd (contrary false refl runs)
no_such_place true true true way runs other busy clear = absurd (contrary true other refl)
no_such_place true false true true runs other busy clear = refl
no_such_place true false true false runs other busy clear = absurd (contrary true clear refl)

idle_where_free : (h : Group) (ph : Phase) → free ph ≡ true → freed h ph ≡ Idle
idle_where_free h Idle is = refl
idle_where_free h (Reading x) is = absurd (contrary false refl is)
idle_where_free h (Writing x d) is = absurd (contrary false refl is)

module _ (h : Group) (a : Surroundings) where
  -- What is not the group's, and in whose way its cycle is not, is accepted as on an idle bus;
  while_its : (k : Kind) → its_cycle h a.phase ≡ true → is_of h a k ≡ false → in_the_way h a k ≡ false
      → accepts a.edition Idle k ≡ accepts a.edition a.phase k
  while_its reset runs other clear = refl
  while_its (read_begun x) runs other clear =
      no_such_place (its_cycle h a.phase) (is_of h a (read_begun x)) (readable_at a.edition x) (free a.phase) runs other (its_busy h a.phase runs) clear
  while_its cycle_ended runs other clear = absurd (contrary _ other runs)
  while_its (write_begun x d) runs other clear =
      no_such_place (its_cycle h a.phase) (is_of h a (write_begun x d)) (ltb x 4) (free a.phase) runs other (its_busy h a.phase runs) clear
  while_its (new_levels x d) runs other clear = refl
  while_its unknown runs other clear = refl

  -- and so it is accepted on both buses, or on neither.
  pub accepted_beside : (k : Kind) → is_of h a k ≡ false → in_the_way h a k ≡ false → accepts a.edition (freed h a.phase) k ≡ accepts a.edition a.phase k
  accepted_beside k other clear = go (its_cycle h a.phase) refl
    where
      go : (its : Bool) → its_cycle h a.phase ≡ its → accepts a.edition (cond its Idle a.phase) k ≡ accepts a.edition a.phase k
      go true runs = while_its k runs other clear
      go false none = refl

  -- After an accepted event that is not the group's, each bus is what the event makes of it;
  kept_phase : (k : Kind) → is_of h a k ≡ false → phase_after (freed h a.phase) k ≡ freed h (phase_after a.phase k)
  kept_phase reset other = refl
  kept_phase (read_begun x) other = rw (other)
  kept_phase cycle_ended other = refl
  kept_phase (write_begun x d) other = rw (other)
  kept_phase (new_levels x d) other = refl
  kept_phase unknown other = refl

  -- and after one that is, the other bus is still what it was.
  dropped_phase : (k : Kind) → accepts a.edition a.phase k ≡ true → is_of h a k ≡ true → freed h a.phase ≡ freed h (phase_after a.phase k)
  dropped_phase reset ok its = absurd (contrary false refl its)
  dropped_phase (read_begun x) ok its = idle_where_free h a.phase (both (readable_at a.edition x) _ ok).1 ∙ rw (its)
  dropped_phase cycle_ended ok its = rw (its)
  dropped_phase (write_begun x d) ok its = idle_where_free h a.phase (both (ltb x 4) _ ok).1 ∙ rw (its)
  dropped_phase (new_levels x d) ok its = refl
  dropped_phase unknown ok its = refl

  -- The same of any event.
  pub kept_next : (a' : Surroundings) (e : Event) → a'.edition ≡ a.edition → a'.phase ≡ freed h a.phase
      → is_of h a (kind_of e) ≡ false → in_the_way h a (kind_of e) ≡ false
      → (surroundings_next a' e).phase ≡ freed h (surroundings_next a e).phase
  kept_next a' e same_part beside other clear =
      go (accepts a'.edition a'.phase (kind_of e)) (accepts a.edition a.phase (kind_of e)) (rw (same_part, beside) (accepted_beside (kind_of e) other clear))
    where
      go : (ok' ok : Bool) → ok' ≡ ok
          → (cond ok' (surroundings_after a' (kind_of e)) a').phase ≡ freed h (cond ok (surroundings_after a (kind_of e)) a).phase
      go true true same = rw (beside) (kept_phase (kind_of e) other)
      go true false same = absurd (contrary true same refl)
      go false true same = absurd (contrary false refl same)
      go false false same = beside

  pub dropped_next : (ph : Phase) (e : Event) → ph ≡ freed h a.phase → is_of h a (kind_of e) ≡ true
      → ph ≡ freed h (surroundings_next a e).phase
  dropped_next ph e beside its = go (accepts a.edition a.phase (kind_of e)) refl
    where
      go : (ok : Bool) → accepts a.edition a.phase (kind_of e) ≡ ok → ph ≡ freed h (cond ok (surroundings_after a (kind_of e)) a).phase
      go true ok = beside ∙ dropped_phase (kind_of e) ok its
      go false ok = beside
