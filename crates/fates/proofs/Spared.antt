-- No byte is lost exactly where each has one of the other four fates.
-- Rests on nothing.
use Rattle.std.proofs.Common.{◌≡◌, refl, List, [], ◌∷◌, ℕ, ◌+◌, arith, ◌↔◌}
use Rattle.bits.specs.Bit.{num}
use Rattle.fates.specs.Bytes.{Fate, handed_over, overwritten, swallowed, cleared, struck, waiting, Byte, same}
use Rattle.fates.specs.Promise.{Each}
use Rattle.fates.specs.Discipline.{NoneLost}
use Rattle.fates.specs.Spared.{Spared, was_handed_over, was_cleared, was_struck, still_waits}

-- One byte, before others of which these are lost.
one_spared : (f : Fate) (o s : ℕ) → num (same overwritten f) + o ≡ 0 → num (same swallowed f) + s ≡ 0 → Spared f
one_spared handed_over o s over under = was_handed_over
one_spared overwritten o s over under = absurd (omega (arith, over))
one_spared swallowed o s over under = absurd (omega (arith, under))
one_spared cleared o s over under = was_cleared
one_spared struck o s over under = was_struck
one_spared waiting o s over under = still_waits

not_lost : {f : Fate} → Spared f → (num (same overwritten f) ≡ 0) × (num (same swallowed f) ≡ 0)
not_lost was_handed_over = (refl, refl)
not_lost was_cleared = (refl, refl)
not_lost was_struck = (refl, refl)
not_lost still_waits = (refl, refl)

each_spared : (bs : List Byte) → NoneLost bs → Each (λ b. Spared b.outcome.fate) bs
each_spared [] none = tt
each_spared (b ∷ bs) none = (
  one_spared b.outcome.fate _ _ none.none_overwritten none.none_swallowed,
  each_spared bs (record { none_overwritten = omega (arith, none.none_overwritten); none_swallowed = omega (arith, none.none_swallowed) }),
)

none_lost_lem : (bs : List Byte) → Each (λ b. Spared b.outcome.fate) bs → NoneLost bs
none_lost_lem [] each = record { none_overwritten = refl; none_swallowed = refl }
none_lost_lem (b ∷ bs) each =
    let first = not_lost each.0 in
    let others = none_lost_lem bs each.1 in
    record {
      none_overwritten = omega (arith, first.0, others.none_overwritten);
      none_swallowed = omega (arith, first.1, others.none_swallowed);
    }

pub none_lost_spares : (bs : List Byte) → NoneLost bs ↔ Each (λ b. Spared b.outcome.fate) bs
none_lost_spares bs = (each_spared bs, none_lost_lem bs)
