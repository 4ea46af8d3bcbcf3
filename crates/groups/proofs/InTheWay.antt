-- A group is in the way of an event exactly where the step refuses with 4 what an idle bus would accept.
-- Rests on bits' Logic, fates' SurroundingsKept, the account, Bus and Runs.
use Rattle.std.proofs.Common.{◌≡◌, ◌∙◌, refl, ap, sym, Bool, true, false, cond, not, ◌&&◌, List, [], ◌∷◌, ℕ, zero, suc, arith, eqb, ltb, eq-eqb, le-ltb, ◌↔◌}
use borrow.Author.Tests.{not-true}
use Rattle.bits.proofs.Logic.{contrary, both, neither}
use Rattle.bus.specs.Event.{Event}
use Rattle.bus.specs.declared.Phase.{Phase}
use Rattle.bus.specs.declared.Phase.TheVariants.{Idle}
use Rattle.control.specs.declared.Group.{Group}
use Rattle.chip.specs.declared.Edition.{Edition}
use Rattle.chip.specs.declared.Edition.TheVariants.{Older, Newer}
use Rattle.chip.specs.declared.Chip.{Chip}
use Rattle.chip.specs.Step.{stepped}
use Rattle.fates.specs.Kinds.{Kind, reset, cycle_ended, unknown, read_begun, write_begun, new_levels, kind_of, free, readable_at, accepts}
use Rattle.fates.specs.Surroundings.{Surroundings, phase_after, surroundings_after}
use Rattle.fates.specs.Promise.{surroundings_of}
use Rattle.fates.proofs.SurroundingsKept.{surroundings_next_lem}
use Rattle.account.specs.Acts.{begun, number_by}
use Rattle.account.proofs.Account.{account_from}
use Rattle.groups.specs.Doings.{its_cycle, is_of}
use Rattle.groups.specs.Alone.{in_the_way, ever_in_the_way, out_of_the_way}
use Rattle.groups.specs.InTheWay.{with_idle_bus, Blocked, NeverBlocked, OutOfTheWay}
use Rattle.groups.proofs.Bus.{its_busy}
use Rattle.groups.proofs.Runs.{runs_is, is_runs}

-- A beginning at a place where one can be had has the number that the bus has for it; at any other place it is refused on each bus.
module _ (X : Type 0) where
  at_read : (ed : Edition) (x : ℕ) → (readable_at ed x ≡ true → ((ph : Phase) → number_by ed ph (read_begun x) ≡ begun ph) → X)
      → (readable_at ed x ≡ false → ((ph : Phase) → eqb (number_by ed ph (read_begun x)) 0 ≡ false) → X) → X
  at_read Older zero there none = there refl (λ ph. refl)
  at_read Newer zero there none = there refl (λ ph. refl)
  at_read Older (suc zero) there none = there refl (λ ph. refl)
  at_read Newer (suc zero) there none = there refl (λ ph. refl)
  at_read Older (suc (suc zero)) there none = there refl (λ ph. refl)
  at_read Newer (suc (suc zero)) there none = there refl (λ ph. refl)
  at_read Older (suc (suc (suc zero))) there none = none refl (λ ph. refl)
  at_read Newer (suc (suc (suc zero))) there none = there refl (λ ph. refl)
  at_read Older (suc (suc (suc (suc x)))) there none = none (le-ltb _ 3 (omega arith)) (λ ph. refl)
  at_read Newer (suc (suc (suc (suc x)))) there none = none (le-ltb _ 4 (omega arith)) (λ ph. refl)

  at_write : (ed : Edition) (x d : ℕ) → (ltb x 4 ≡ true → ((ph : Phase) → number_by ed ph (write_begun x d) ≡ begun ph) → X)
      → (ltb x 4 ≡ false → ((ph : Phase) → eqb (number_by ed ph (write_begun x d)) 0 ≡ false) → X) → X
  at_write ed zero d there none = there refl (λ ph. refl)
  at_write ed (suc zero) d there none = there refl (λ ph. refl)
  at_write ed (suc (suc zero)) d there none = there refl (λ ph. refl)
  at_write ed (suc (suc (suc zero))) d there none = there refl (λ ph. refl)
  at_write ed (suc (suc (suc (suc x)))) d there none = none (le-ltb _ 4 (omega arith)) (λ ph. refl)

free_busy : (ph : Phase) → free ph ≡ false → begun ph ≡ 4
free_busy ph busy = rw (busy)

turn_false : (b : Bool) → ¬ (b ≡ true) → b ≡ false
turn_false true never = absurd (never refl)
turn_false false never = refl

-- What is so of an event by its kind, on the bus where the group's cycle runs and on an idle one.
module _ (g : Group) (a : Surroundings) where
  record InNumbers (k : Kind) : Type 0 where
    runs : its_cycle g a.phase ≡ true
    refused : number_by a.edition a.phase k ≡ 4
    accepted : number_by a.edition Idle k ≡ 0
    not_its : its_cycle g (phase_after Idle k) ≡ false

  -- Of the parts of the definition.
  parts : (k : Kind) → in_the_way g a k ≡ true
      → (its_cycle g a.phase ≡ true) × (is_of g a k ≡ false) × (accepts a.edition Idle k ≡ true) × (accepts a.edition a.phase k ≡ false)
  parts k way =
      let sides = both (its_cycle g a.phase && not (is_of g a k)) _ way in
      let first = both (its_cycle g a.phase) _ sides.0 in
      let second = both (accepts a.edition Idle k) _ sides.1 in
      (first.0, not-true _ first.1, second.0, not-true _ second.1)

  to_numbers : (k : Kind) → in_the_way g a k ≡ true → InNumbers k
  to_numbers reset way = absurd (contrary true (parts reset way).3 refl)
  to_numbers (read_begun x) way =
      let p = parts (read_begun x) way in
      let busy = its_busy g a.phase p.0 in
      at_read (InNumbers (read_begun x)) a.edition x
      (λ there number. record { runs = p.0; refused = number a.phase ∙ free_busy a.phase busy; accepted = number Idle; not_its = p.1 })
      (λ none number. absurd (contrary _ none (both (readable_at a.edition x) true p.2).0))
  to_numbers cycle_ended way = let p = parts cycle_ended way in absurd (contrary _ p.1 p.0)
  to_numbers (write_begun x d) way =
      let p = parts (write_begun x d) way in
      let busy = its_busy g a.phase p.0 in
      at_write (InNumbers (write_begun x d)) a.edition x d
      (λ there number. record { runs = p.0; refused = number a.phase ∙ free_busy a.phase busy; accepted = number Idle; not_its = p.1 })
      (λ none number. absurd (contrary _ none (both (ltb x 4) true p.2).0))
  to_numbers (new_levels x d) way = let p = parts (new_levels x d) way in absurd (contrary _ p.3 p.2)
  to_numbers unknown way = absurd (contrary false refl (parts unknown way).2)

  -- And back.
  from_numbers : (k : Kind) → InNumbers k → in_the_way g a k ≡ true
  from_numbers reset n = absurd (omega (arith, n.refused))
  from_numbers (read_begun x) n =
      at_read (in_the_way g a (read_begun x) ≡ true) a.edition x
      (λ there number. rw (n.runs, n.not_its, there, its_busy g a.phase n.runs))
      (λ none number. absurd (contrary _ (number Idle) (eq-eqb _ 0 n.accepted)))
  from_numbers cycle_ended n = absurd (omega (arith, n.accepted))
  from_numbers (write_begun x d) n =
      at_write (in_the_way g a (write_begun x d) ≡ true) a.edition x d
      (λ there number. rw (n.runs, n.not_its, there, its_busy g a.phase n.runs))
      (λ none number. absurd (contrary _ (number Idle) (eq-eqb _ 0 n.accepted)))
  from_numbers (new_levels x d) n = absurd (omega (arith, sym n.accepted ∙ n.refused))
  from_numbers unknown n = absurd (omega (arith, n.accepted))

-- What has the number 0 on an idle bus is accepted there.
accepted_there_lem : (ed : Edition) (k : Kind) → number_by ed Idle k ≡ 0 → accepts ed Idle k ≡ true
accepted_there_lem ed reset zeroed = refl
accepted_there_lem ed (read_begun x) zeroed =
    at_read (accepts ed Idle (read_begun x) ≡ true) ed x
    (λ there number. rw (there))
    (λ none number. absurd (contrary _ (number Idle) (eq-eqb _ 0 zeroed)))
accepted_there_lem ed cycle_ended zeroed = absurd (omega (arith, zeroed))
accepted_there_lem ed (write_begun x d) zeroed =
    at_write (accepts ed Idle (write_begun x d) ≡ true) ed x d
    (λ there number. rw (there))
    (λ none number. absurd (contrary _ (number Idle) (eq-eqb _ 0 zeroed)))
accepted_there_lem ed (new_levels zero d) zeroed = refl
accepted_there_lem ed (new_levels (suc zero) d) zeroed = refl
accepted_there_lem ed (new_levels (suc (suc zero)) d) zeroed = refl
accepted_there_lem ed (new_levels (suc (suc (suc x))) d) zeroed = absurd (omega (arith, zeroed))
accepted_there_lem ed unknown zeroed = absurd (omega (arith, zeroed))

module _ (g : Group) (c : Chip) (e : Event) where
  -- The numbers are the chip's,
  number : (c : Chip) → (stepped c e).number ≡ number_by c.edition c.phase (kind_of e)
  number c = (account_from c []).number e

  -- and so is what runs on the bus.
  begins : number_by c.edition Idle (kind_of e) ≡ 0 → (stepped (with_idle_bus c) e).state.phase ≡ phase_after Idle (kind_of e)
  begins zeroed =
      ap (λ a. a.phase) (surroundings_next_lem (with_idle_bus c) e)
      ∙ ap (λ ok. (cond ok (surroundings_after (surroundings_of (with_idle_bus c)) (kind_of e)) (surroundings_of (with_idle_bus c))).phase)
      (accepted_there_lem c.edition (kind_of e) zeroed)

  pub in_the_way_lem : (in_the_way g (surroundings_of c) (kind_of e) ≡ true) ↔ Blocked g c e
  in_the_way_lem = (
    λ way. let n = to_numbers g (surroundings_of c) (kind_of e) way in
        record {
          runs = runs_is g c.phase n.runs;
          refused = number c ∙ n.refused;
          accepted = number (with_idle_bus c) ∙ n.accepted;
          not_its = λ runs. contrary _ n.not_its (ap (its_cycle g) (sym (begins n.accepted)) ∙ is_runs g _ runs);
        },
    λ b. from_numbers g (surroundings_of c) (kind_of e)
        (let zeroed = sym (number (with_idle_bus c)) ∙ b.accepted in
        record {
          runs = is_runs g c.phase b.runs;
          refused = sym (number c) ∙ b.refused;
          accepted = zeroed;
          not_its = turn_false _ (λ its. b.not_its (runs_is g _ (ap (its_cycle g) (begins zeroed) ∙ its)));
        }),
  )

-- So it is with each event of a history.
never_blocked : (g : Group) (es : List Event) (c : Chip) → (ever_in_the_way g (surroundings_of c) es ≡ false) ↔ NeverBlocked g c es
never_blocked g [] c = (λ clear. tt, λ none. refl)
never_blocked g (e ∷ es) c =
    let later = never_blocked g es (stepped c e).state in (
      λ clear.
          let both = neither (in_the_way g (surroundings_of c) (kind_of e)) _ clear in
          (λ b. contrary _ both.0 ((in_the_way_lem g c e).1 b), later.0 (rw (surroundings_next_lem c e) both.1)),
      λ none. rw (turn_false _ (λ way. none.0 ((in_the_way_lem g c e).0 way)), ← surroundings_next_lem c e) (later.1 none.1),
    )

pub out_of_the_way_lem : (g : Group) (c : Chip) (es : List Event) → (out_of_the_way g (surroundings_of c) es ≡ true) ↔ OutOfTheWay g c es
out_of_the_way_lem g c es = (
  λ out.
      let is = both (not (its_cycle g c.phase)) _ out in
      record {
        none_runs = λ runs. contrary _ (not-true _ is.0) (is_runs g c.phase runs);
        never = (never_blocked g es c).0 (not-true _ is.1);
      },
  λ out. rw (turn_false _ (λ its. out.none_runs (runs_is g c.phase its)), (never_blocked g es c).1 out.never),
)
