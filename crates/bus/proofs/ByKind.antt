-- The numbers that are kinds, and those that are none: what holds of each of the five, and of every number that is none, holds of every
-- number.
-- Rests on bits' Logic.
use Rattle.std.proofs.Common.{◌≡◌, ◌∙◌, refl, ap, subst, sym, true, false, cond, not, [], ◌∷◌, ℕ, zero, suc, ◌<◌, arith, eqb, get_or, ne_eqb, Some, None, unwrap_or}
use mathlib.Core.Bool.{not-not}
use Rattle.bits.proofs.Logic.{contrary}
use Rattle.std.proofs.lemmas.Option.{none-some}
use Rattle.bus.specs.Kinds.{reset, begin_read, end_cycle, begin_write, outside_levels, is_kind, no_kind}
use Rattle.bus.specs.Answers.{kind_number, kind_numbered}
use Rattle.bus.specs.declared.kinds.Kind.{Kind}
use Rattle.bus.specs.declared.kinds.Kind.TheVariants.{Reset, BeginRead, EndCycle, BeginWrite, OutsideLevels}

pub none_above : (k : ℕ) → 5 < k → is_kind k ≡ false
unfolding is_kind
none_above k above =
    rw (
      ne_eqb k 0 (λ e. omega (arith, above, e)),
      ne_eqb k 1 (λ e. omega (arith, above, e)),
      ne_eqb k 2 (λ e. omega (arith, above, e)),
      ne_eqb k 3 (λ e. omega (arith, above, e)),
      ne_eqb k 5 (λ e. omega (arith, above, e)),
    )

pub by_kind : (P : ℕ → Type 0) → P 0 → P 1 → P 2 → P 3 → P 5 → ((k : ℕ) → no_kind k ≡ true → P k) → (k : ℕ) → P k
unfolding is_kind
by_kind P reset begin end write levels none zero = reset
by_kind P reset begin end write levels none (suc zero) = begin
by_kind P reset begin end write levels none (suc (suc zero)) = end
by_kind P reset begin end write levels none (suc (suc (suc zero))) = write
by_kind P reset begin end write levels none (suc (suc (suc (suc zero)))) = none 4 refl
by_kind P reset begin end write levels none (suc (suc (suc (suc (suc zero))))) = levels
by_kind P reset begin end write levels none (suc (suc (suc (suc (suc (suc k)))))) =
    let n = suc (suc (suc (suc (suc (suc k))))) in none n (rw (none_above n (omega arith)))

-- What holds of each of the five holds of every kind.
pub by_known_kind : (P : ℕ → Type 0) → P 0 → P 1 → P 2 → P 3 → P 5 → (k : ℕ) → is_kind k ≡ true → P k
by_known_kind P reset begin end write levels =
    by_kind (λ k. is_kind k ≡ true → P k)
    (λ is. reset) (λ is. begin) (λ is. end) (λ is. write) (λ is. levels)
    (λ k none is. absurd (contrary (no_kind k) (rw (is)) none))

-- What is no kind is none of them.
pub no_kind_differs : (k j : ℕ) → no_kind k ≡ true → is_kind j ≡ true → eqb k j ≡ false
no_kind_differs k j none kind = ne_eqb k j (λ e. contrary (no_kind j) (rw (kind)) (subst (λ (n : ℕ). no_kind n ≡ true) e none))

-- In a table with a row for each number from 00 to 05, what is no kind has the row of 04, which is none.
pub no_row : {A : Type 0} (reset begin end write none levels : A) (k : ℕ) → no_kind k ≡ true
    → get_or (reset ∷ begin ∷ end ∷ write ∷ none ∷ levels ∷ []) k none ≡ none
unfolding is_kind
no_row reset begin end write none levels zero other = cc
no_row reset begin end write none levels (suc zero) other = cc
no_row reset begin end write none levels (suc (suc zero)) other = cc
no_row reset begin end write none levels (suc (suc (suc zero))) other = cc
no_row reset begin end write none levels (suc (suc (suc (suc zero)))) other = refl
no_row reset begin end write none levels (suc (suc (suc (suc (suc zero))))) other = cc
no_row reset begin end write none levels (suc (suc (suc (suc (suc (suc k)))))) other = refl

-- Every kind is below 06.
pub kind_small : (k : ℕ) → is_kind k ≡ true → k < 6
kind_small = by_known_kind (λ k. k < 6) (omega arith) (omega arith) (omega arith) (omega arith) (omega arith)

-- What is chosen by the five kinds in turn is for what is no kind the last choice.
pub last_choice : {A : Type 0} (r b e w l last : A) (k : ℕ) → no_kind k ≡ true
    → cond (eqb k reset) r (cond (eqb k begin_read) b (cond (eqb k end_cycle) e (cond (eqb k begin_write) w (cond (eqb k outside_levels) l last)))) ≡ last
unfolding is_kind
last_choice r b e w l last k none =
    rw (
      no_kind_differs k reset none refl,
      no_kind_differs k begin_read none refl,
      no_kind_differs k end_cycle none refl,
      no_kind_differs k begin_write none refl,
      no_kind_differs k outside_levels none refl,
    )

-- A number that has a kind is that kind's, and is a kind; one that has none is no kind.
pub kind_back : (n : ℕ) (k : Kind) → Some k ≡ kind_numbered n → (kind_number k ≡ n) × (is_kind n ≡ true)
unfolding is_kind
kind_back =
    by_kind (λ n. (k : Kind) → Some k ≡ kind_numbered n → (kind_number k ≡ n) × (is_kind n ≡ true))
    (λ k e. (ap (λ o. kind_number (unwrap_or o Reset)) e, refl))
    (λ k e. (ap (λ o. kind_number (unwrap_or o BeginRead)) e, refl))
    (λ k e. (ap (λ o. kind_number (unwrap_or o EndCycle)) e, refl))
    (λ k e. (ap (λ o. kind_number (unwrap_or o BeginWrite)) e, refl))
    (λ k e. (ap (λ o. kind_number (unwrap_or o OutsideLevels)) e, refl))
    (λ n none k e. absurd (none-some k (sym (e ∙ last_choice _ _ _ _ _ None n none))))

pub none_back : (n : ℕ) → None ≡ kind_numbered n → is_kind n ≡ false
unfolding is_kind
none_back =
    by_kind (λ n. None ≡ kind_numbered n → is_kind n ≡ false)
    (λ e. absurd (none-some Reset e)) (λ e. absurd (none-some BeginRead e)) (λ e. absurd (none-some EndCycle e))
    (λ e. absurd (none-some BeginWrite e)) (λ e. absurd (none-some OutsideLevels e))
    (λ n none e. sym (not-not (is_kind n)) ∙ ap not none)
