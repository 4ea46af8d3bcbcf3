-- The number of an event is n exactly when the first row of the table that applies has the number n, and 0 exactly when none applies
-- ("Events and numbers").
-- Rests on bits' Logic.
use Rattle.std.proofs.Common.{◌≡◌, refl, sym, Bool, true, false, cond, inl, inr, ⊎_elim, List, [], ◌∷◌, ℕ, zero, suc, arith, get_or}
use Rattle.bits.proofs.Logic.{contrary}
use Rattle.bus.specs.Kinds.{no_kind}
use Rattle.bus.specs.declared.Phase.{Phase}
use Rattle.bus.specs.declared.Limits.{Limits}
use Rattle.bus.specs.Refusals.{Row, row, rows, first_of, number_of}
use Rattle.bus.specs.Device.{Device, step_in}
use Rattle.bus.specs.Numbered.{First, NoneOf, Numbered}
use Rattle.bus.specs.Cycles.{refused_in}

-- No row has the number 0.
abbrev Positive : List Row → Type 0
Positive [] = Unit {0}
Positive (r ∷ rs) = (¬ (r.number ≡ 0)) × Positive rs

found : (n : ℕ) (rs : List Row) → First n rs → first_of rs ≡ n
found n [] f = absurd f
found n (r ∷ rs) f = ⊎_elim (λ here. rw here.0 here.1) (λ there. rw there.0 (found n rs there.1)) f

is_first_lem : (n : ℕ) (rs : List Row) → ¬ (n ≡ 0) → first_of rs ≡ n → First n rs
is_first_lem n [] some e = absurd (some (sym e))
is_first_lem n (r ∷ rs) some e = go r.applies refl (is_first_lem n rs some) e
  where
    go : (b : Bool) → r.applies ≡ b → (first_of rs ≡ n → First n rs) → cond b r.number (first_of rs) ≡ n → First n (r ∷ rs)
    go true on behind e = inl (on, e)
    go false off behind e = inr (off, behind e)

none : (rs : List Row) → NoneOf rs → first_of rs ≡ 0
none [] u = refl
none (r ∷ rs) u = rw u.0 (none rs u.1)

is_none : (rs : List Row) → Positive rs → first_of rs ≡ 0 → NoneOf rs
is_none [] p e = tt
is_none (r ∷ rs) p e = go r.applies refl (is_none rs p.1) e
  where
    go : (b : Bool) → r.applies ≡ b → (first_of rs ≡ 0 → NoneOf rs) → cond b r.number (first_of rs) ≡ 0 → NoneOf (r ∷ rs)
    go true on behind e = absurd (p.0 e)
    go false off behind e = (off, behind e)

positive : (l : Limits) (ph : Phase) (k x : ℕ) → Positive (rows l ph k x)
positive l ph k x =
    ((λ e. omega (arith, e)), ((λ e. omega (arith, e)), ((λ e. omega (arith, e)), ((λ e. omega (arith, e)), ((λ e. omega (arith, e)), tt)))))

-- The number of every event is that of the first row that applies, and of no other.
pub numbered : (l : Limits) (ph : Phase) (k x : ℕ) → Numbered l ph k x
unfolding number_of
numbered l ph k x = record {
  given = λ n. found n (rows l ph k x);
  only_then = λ n. is_first_lem n (rows l ph k x);
  accepted = none (rows l ph k x);
  only_accepted = is_none (rows l ph k x) (positive l ph k x);
}

none_at : (rs : List Row) → NoneOf rs → (j : ℕ) → (get_or rs j (row 0 false)).applies ≡ false
none_at [] u j = refl
none_at (r ∷ rs) u zero = u.0
none_at (r ∷ rs) u (suc j) = none_at rs u.1 j

-- An event that any row speaks of is refused.
pub row_refuses : (l : Limits) (ph : Phase) (k x j : ℕ) → (get_or (rows l ph k x) j (row 0 false)).applies ≡ true → ¬ (number_of l ph k x ≡ 0)
row_refuses l ph k x j applies e = contrary _ (none_at (rows l ph k x) ((numbered l ph k x).only_accepted e) j) applies

-- What is no kind is refused with 1, whatever its operands.
pub no_kind_refused : {S R : Type 0} (dev : Device S R) (s : S) (k x d : ℕ) → no_kind k ≡ true → step_in dev s k x d ≡ refused_in s 1
unfolding step_in number_of
no_kind_refused dev s k x d none = rw (none)
