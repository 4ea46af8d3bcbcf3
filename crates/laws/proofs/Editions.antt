-- The two editions differ in nothing but the read of control: any other event does in the one what it does in the other ("The 82C55A").
-- Rests on ShowsAlike, the bus's ByKind, and chip's Outcome.
use Rattle.std.proofs.Common.{◌≡◌, ◌∙◌, refl, sym, ap, Bool, true, false, cond, not, ◌||◌, ℕ, arith, eqb, ltb, eqb-true, lt-ltb, ltb-true}
use borrow.Author.Tests.{eqb-false}
use Rattle.bus.specs.Kinds.{is_kind}
use Rattle.bus.proofs.ByKind.{by_kind, no_kind_differs}
use Rattle.bus.specs.declared.Phase.{Phase}
use Rattle.bus.specs.Refusals.{is_busy, number_of}
use Rattle.bus.specs.Device.{after_in, byte_in}
use Rattle.chip.specs.declared.Edition.{Edition}
use Rattle.chip.specs.declared.Edition.TheVariants.{Older, Newer}
use Rattle.chip.specs.declared.Chip.{Chip}
use Rattle.chip.specs.Step.{readable, limits, device, step_of}
use Rattle.chip.proofs.Outcome.{step_accepts, step_refuses, step_either}
use Rattle.laws.specs.Editions.{as_edition, given_as, reads_control, ShowsAlike}
use Rattle.laws.proofs.ShowsAlike.{shows_alike, read_same}

-- The number of a read, by whether its address is there, whether it can be read, and whether a cycle runs.
abbrev read_number : Bool → Bool → Bool → ℕ
read_number there can busy = cond (not there || false) 2 (cond (not can) 3 (cond busy 4 0))

-- An address other than control can be read in the one edition where it can in the other, if it is there at all.
same_readable : (ed other : Edition) (x : ℕ) (busy : Bool) → eqb x 3 ≡ false
    → read_number (ltb x 4) (ltb x (readable ed)) busy ≡ read_number (ltb x 4) (ltb x (readable other)) busy
same_readable ed other x busy elsewhere = go (ltb x 4) refl
  where
    among : (ed : Edition) → ltb x 4 ≡ true → ltb x (readable ed) ≡ true
    among Older there = let below = ltb-true x 4 there in let off = eqb-false x 3 elsewhere in lt-ltb x 3 (omega (arith, below, off))
    among Newer there = there

    go : (there : Bool) → ltb x 4 ≡ there → read_number there (ltb x (readable ed)) busy ≡ read_number there (ltb x (readable other)) busy
    go true there = rw (among ed there, among other there)
    go false there = refl

-- So the number of any event but the read of control is the same.
same_number : (ed other : Edition) (ph : Phase) (k x : ℕ) → reads_control k x ≡ false → number_of (limits ed) ph k x ≡ number_of (limits other) ph k x
unfolding number_of is_kind
same_number ed other ph k x =
    by_kind (λ k. reads_control k x ≡ false → number_of (limits ed) ph k x ≡ number_of (limits other) ph k x)
    (λ elsewhere. refl)
    (λ elsewhere. same_readable ed other x (is_busy ph) elsewhere)
    (λ elsewhere. refl)
    (λ elsewhere. refl)
    (λ elsewhere. refl)
    (λ k none elsewhere. rw (none))
    k

-- What an accepted event leaves, and the byte that it gives, do not ask for the edition.
same_after : (ed : Edition) (c : Chip) (k x d : ℕ) → after_in device (as_edition ed c) k x d ≡ as_edition ed (after_in device c k x d)
unfolding is_kind
same_after ed c k x d =
    by_kind (λ k. after_in device (as_edition ed c) k x d ≡ as_edition ed (after_in device c k x d))
    refl
    refl
    refl
    refl
    refl
    (λ k none. rw (no_kind_differs k 0 none refl, no_kind_differs k 1 none refl, no_kind_differs k 2 none refl, no_kind_differs k 3 none refl))
    k

same_byte : (ed : Edition) (c : Chip) (k x : ℕ) → byte_in device (as_edition ed c) k x ≡ byte_in device c k x
same_byte ed c k x = ap (λ (b : ℕ). cond (eqb k 1) b 0) (read_same c.core c.phase c.phase ed c.edition (λ g s. refl) x)

-- In the one edition any event but the read of control gives what it gives in the other.
pub editions_alike : (ed : Edition) (c : Chip) (k x d : ℕ) → reads_control k x ≡ false
    → step_of (as_edition ed c) k x d ≡ given_as ed (step_of c k x d)
editions_alike ed c k x d elsewhere = go (eqb (number_of (limits c.edition) c.phase k x) 0) refl
  where
    same : number_of (limits ed) c.phase k x ≡ number_of (limits c.edition) c.phase k x
    same = same_number ed c.edition c.phase k x elsewhere

    go : (ok : Bool) → eqb (number_of (limits c.edition) c.phase k x) 0 ≡ ok → step_of (as_edition ed c) k x d ≡ given_as ed (step_of c k x d)
    go true ok =
        let zero = eqb-true _ _ ok in
        rw (step_accepts (as_edition ed c) k x d (same ∙ zero), step_accepts c k x d zero, same_after ed c k x d, same_byte ed c k x)
    go false ok =
        rw (step_refuses (as_edition ed c) k x d (λ e. eqb-false _ _ ok (sym same ∙ e)), step_refuses c k x d (eqb-false _ _ ok), same)

-- Nor is the edition seen at the pins, in the answers, in the tallies or in what is said of the interrupts.
pub edition_unseen : (ed : Edition) (c : Chip) → ShowsAlike (as_edition ed c) c
edition_unseen ed c = shows_alike c.core c.phase c.phase ed c.edition (λ g s. refl)

-- No event changes it.
pub edition_stays : (c : Chip) (k x d : ℕ) → (step_of c k x d).state.edition ≡ c.edition
edition_stays c k x d = step_either (λ c'. c'.edition ≡ c.edition) c k x d refl (λ ok. kept)
  where
    kept : (after_in device c k x d).edition ≡ c.edition
    kept = ap (λ (c' : Chip). c'.edition) (same_after c.edition c k x d)
