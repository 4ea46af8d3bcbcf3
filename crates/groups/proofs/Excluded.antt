-- Each example of specs/Excluded.antt changes the group that it names, and what is done there is no group's. The checker computes the pins by
-- the account, without a chip.
-- Rests on the account.
use Rattle.std.proofs.Common.{◌≡◌, ◌∙◌, refl, ap, sym, false, List, [], ◌∷◌, ◌++◌, ℕ, eqb}
use borrow.Author.Tests.{eqb-false}
use Rattle.bits.specs.Bit.{bit_of, value_of}
use Rattle.bus.specs.Event.{Event}
use Rattle.control.specs.declared.Group.{Group}
use Rattle.control.specs.declared.Group.TheVariants.{A, B}
use Rattle.chip.specs.declared.Edition.TheVariants.{Older}
use Rattle.chip.specs.declared.Chip.{Chip}
use Rattle.chip.specs.State.{all_high, power_up_with}
use Rattle.chip.specs.Step.{stepped}
use Rattle.fates.specs.Promise.{run}
use Rattle.account.specs.Account.{opened}
use Rattle.account.specs.Views.{levels_shown}
use Rattle.account.specs.Promise.{over}
use Rattle.account.proofs.Account.{account}
use Rattle.groups.specs.Belongings.{at_its_pins}
use Rattle.groups.specs.Excluded.{Example, shown, Changes, EachChanges, examples, excluded, NoneIsOf}

-- The levels of a group's pins after a history, by the account.
abbrev by_account : Group → List Event → ℕ
by_account g es = at_its_pins g (levels_shown (over (opened Older all_high) es) 2)

shown_by_account : (g : Group) (es : List Event) → shown g (run (power_up_with all_high) es) ≡ by_account g es
shown_by_account g es = ap (at_its_pins g) ((account Older all_high es).levels 2)

-- One history after another.
run_on : (c : Chip) (es later : List Event) → run (run c es) later ≡ run c (es ++ later)
run_on c [] later = refl
run_on c (e ∷ es) later = run_on (stepped c e).state es later

changes_by_account : (x : Example) → by_account x.group x.before ≡ x.was → by_account x.group (x.before ++ x.done) ≡ x.becomes
    → eqb x.becomes x.was ≡ false → Changes x
changes_by_account x was becomes differ =
    let first = shown_by_account x.group x.before ∙ was in
    let on = run_on (power_up_with all_high) x.before x.done in
    let last = ap (shown x.group) on ∙ shown_by_account x.group (x.before ++ x.done) ∙ becomes in
    record { first = first; last = last; not_left = λ left. eqb-false _ _ differ (sym last ∙ ap (λ b. b.levels) left ∙ first) }

pub each_changes : EachChanges examples
unfolding bit_of value_of
each_changes = (
  changes_by_account _ refl refl refl,
  (
    changes_by_account _ refl refl refl,
    (
      changes_by_account _ refl refl refl,
      (
        changes_by_account _ refl refl refl,
        (
          changes_by_account _ refl refl refl,
          (
            changes_by_account _ refl refl refl,
            (
              changes_by_account _ refl refl refl,
              (
                changes_by_account _ refl refl refl,
                tt,
              ),
            ),
          ),
        ),
      ),
    ),
  ),
)

pub none_is_of : (g : Group) → NoneIsOf g excluded
unfolding bit_of
none_is_of A = (refl, (refl, (refl, (refl, (refl, tt)))))
none_is_of B = (refl, (refl, (refl, (refl, (refl, tt)))))
