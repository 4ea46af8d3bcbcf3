-- A history is one group's exactly where each event of it that the chip accepts is done on that group, or reads for both.
-- Rests on bits' Logic, the bus's ByKind, fates' Accepted, SurroundingsKept and Wherever, OwnLines and Runs.
use Rattle.std.proofs.Common.{◌≡◌, ◌∙◌, refl, ap, sym, Bool, true, false, cond, not, ◌&&◌, ◌||◌, List, [], ◌∷◌, ℕ, eqb, eq-eqb, eqb-true, ◌↔◌}
use Rattle.bits.proofs.Logic.{contrary, both, one_of}
use Rattle.bus.specs.Event.{Event, event}
use Rattle.bus.specs.declared.Phase.{Phase}
use Rattle.bus.specs.declared.Phase.TheVariants.{Idle, Reading, Writing}
use Rattle.bus.proofs.ByKind.{by_kind}
use Rattle.control.specs.declared.Group.{Group}
use Rattle.control.specs.declared.Group.TheVariants.{A, B}
use Rattle.chip.specs.declared.Chip.{Chip}
use Rattle.chip.specs.Step.{stepped}
use Rattle.fates.specs.Kinds.{Kind, kind_of, accepts}
use Rattle.fates.specs.Surroundings.{surroundings_next}
use Rattle.fates.specs.Promise.{run, surroundings_of}
use Rattle.fates.proofs.Accepted.{no_name, zero_accepted}
use Rattle.fates.proofs.SurroundingsKept.{surroundings_next_lem}
use Rattle.fates.proofs.Wherever.{nowhere, at_first, at_later, at_both}
use Rattle.groups.specs.Doings.{is_of, reads_for_both, is_for_both, harmless, only_of}
use Rattle.groups.specs.Alone.{without}
use Rattle.groups.specs.OneGroup.{DoneOn, levels_a, levels_b, lines_a, lines_b, read_begins, write_begins, cycle_ends, ReadsForBoth, reads_lines, reads_control, Harmless, done, status_begins, status_ends, EachHarmless, StruckOut, at_the_end, struck, kept}
use Rattle.groups.proofs.OwnLines as own
use Rattle.groups.proofs.Runs.{runs_is, is_runs}

-- A read of port C or of control.
reads_is : (ph : Phase) → reads_for_both ph ≡ true → ReadsForBoth ph
reads_is Idle reads = absurd (contrary false refl reads)
reads_is (Reading x) reads =
    one_of (eqb x 2) _ reads (λ lines. reads_lines (ap Reading (eqb-true x 2 lines))) (λ control. reads_control (ap Reading (eqb-true x 3 control)))
reads_is (Writing x d) reads = absurd (contrary false refl reads)

is_reads : (ph : Phase) → ReadsForBoth ph → reads_for_both ph ≡ true
is_reads ph (reads_lines is) = ap reads_for_both is
is_reads ph (reads_control is) = ap reads_for_both is

-- Of two that hold one by one, either.
by_first : (a b : Bool) → a ≡ true → (a || b) ≡ true
by_first true b holds = refl
by_first false b holds = absurd (contrary false refl holds)

by_second : (a b : Bool) → b ≡ true → (a || b) ≡ true
by_second true b holds = refl
by_second false b holds = holds

both_hold : (a b : Bool) → a ≡ true → b ≡ true → (a && b) ≡ true
both_hold true b first second = second
both_hold false b first second = absurd (contrary false refl first)

module _ (c : Chip) (x d : ℕ) where
  -- Levels,
  levels_done : (g : Group) → is_of g (surroundings_of c) (kind_of (event 5 x d)) ≡ true → DoneOn c (event 5 x d) g
  levels_done A its =
      one_of (eqb x 0) _ its (λ port. levels_a refl (eqb-true x 0 port))
      (λ lines.
      let are = both (eqb x 2) _ lines in
      lines_a refl (eqb-true x 2 are.0) ((own.lines_a d c.core.c.outside).0 are.1))
  levels_done B its =
      one_of (eqb x 1) _ its (λ port. levels_b refl (eqb-true x 1 port))
      (λ lines.
      let are = both (eqb x 2) _ lines in
      lines_b refl (eqb-true x 2 are.0) ((own.lines_b d c.core.c.outside).0 are.1))

  -- and every other event.
  is_done : (g : Group) (k : ℕ) → is_of g (surroundings_of c) (kind_of (event k x d)) ≡ true → DoneOn c (event k x d) g
  is_done g =
      by_kind (λ k. is_of g (surroundings_of c) (kind_of (event k x d)) ≡ true → DoneOn c (event k x d) g)
      (λ its. absurd (contrary false refl its))
      (λ its. read_begins refl (runs_is g (Reading x) its))
      (λ its. cycle_ends refl (runs_is g c.phase its))
      (λ its. write_begins refl (runs_is g (Writing x d) its))
      (levels_done g)
      (λ k none its. absurd (contrary false refl (sym (ap (is_of g (surroundings_of c)) (no_name k x d none)) ∙ its)))

  for_both_is : (g : Group) (k : ℕ) → is_for_both (surroundings_of c) (kind_of (event k x d)) ≡ true → Harmless g c (event k x d)
  for_both_is g =
      by_kind (λ k. is_for_both (surroundings_of c) (kind_of (event k x d)) ≡ true → Harmless g c (event k x d))
      (λ reads. absurd (contrary false refl reads))
      (λ reads. status_begins refl (reads_is (Reading x) reads))
      (λ reads. status_ends refl (reads_is c.phase reads))
      (λ reads. absurd (contrary false refl reads))
      (λ reads. absurd (contrary false refl reads))
      (λ k none reads. absurd (contrary false refl (sym (ap (is_for_both (surroundings_of c)) (no_name k x d none)) ∙ reads)))

module _ (c : Chip) (e : Event) where
  -- An event of a kind, by name.
  as_named : (P : Kind → Bool) (k : ℕ) → e.kind ≡ k → P (kind_of (event k e.first e.second)) ≡ true → P (kind_of e) ≡ true
  as_named P k is holds = ap (λ (n : ℕ). P (kind_of (event n e.first e.second))) is ∙ holds

  done_is : (g : Group) → DoneOn c e g → is_of g (surroundings_of c) (kind_of e) ≡ true
  done_is A (levels_a kind port) = as_named (is_of A (surroundings_of c)) 5 kind (by_first (eqb e.first 0) _ (eq-eqb e.first 0 port))
  done_is B (levels_b kind port) = as_named (is_of B (surroundings_of c)) 5 kind (by_first (eqb e.first 1) _ (eq-eqb e.first 1 port))
  done_is A (lines_a kind lines same) =
      as_named (is_of A (surroundings_of c)) 5 kind
      (by_second (eqb e.first 0) _ (both_hold (eqb e.first 2) _ (eq-eqb e.first 2 lines) ((own.lines_a e.second c.core.c.outside).1 same)))
  done_is B (lines_b kind lines same) =
      as_named (is_of B (surroundings_of c)) 5 kind
      (by_second (eqb e.first 1) _ (both_hold (eqb e.first 2) _ (eq-eqb e.first 2 lines) ((own.lines_b e.second c.core.c.outside).1 same)))
  done_is g (read_begins kind runs) = as_named (is_of g (surroundings_of c)) 1 kind (is_runs g _ runs)
  done_is g (write_begins kind runs) = as_named (is_of g (surroundings_of c)) 3 kind (is_runs g _ runs)
  done_is g (cycle_ends kind runs) = as_named (is_of g (surroundings_of c)) 2 kind (is_runs g _ runs)

  pub done_on : (g : Group) → (is_of g (surroundings_of c) (kind_of e) ≡ true) ↔ DoneOn c e g
  done_on g = (is_done c e.first e.second g e.kind, done_is g)

  harmless_is : (g : Group) → Harmless g c e → harmless g (surroundings_of c) (kind_of e) ≡ true
  harmless_is g (done its) = by_first (is_of g (surroundings_of c) (kind_of e)) _ (done_is g its)
  harmless_is g (status_begins kind reads) =
      by_second (is_of g (surroundings_of c) (kind_of e)) _ (as_named (is_for_both (surroundings_of c)) 1 kind (is_reads _ reads))
  harmless_is g (status_ends kind reads) =
      by_second (is_of g (surroundings_of c) (kind_of e)) _ (as_named (is_for_both (surroundings_of c)) 2 kind (is_reads _ reads))

  is_harmless : (g : Group) → harmless g (surroundings_of c) (kind_of e) ≡ true → Harmless g c e
  is_harmless g is =
      one_of (is_of g (surroundings_of c) (kind_of e)) _ is (λ its. done ((done_on g).0 its)) (for_both_is c e.first e.second g e.kind)

  -- What is asked where the event is accepted.
  where_accepted : (ok harm : Bool) → (ok ≡ true → harm ≡ true) → (not ok || harm) ≡ true
  where_accepted true harm holds = holds refl
  where_accepted false harm holds = refl

  accepted_holds : (ok harm : Bool) → (not ok || harm) ≡ true → ok ≡ true → harm ≡ true
  accepted_holds true harm holds ok = holds
  accepted_holds false harm holds ok = absurd (contrary false refl ok)

  one_group : (g : Group)
      → ((not (accepts c.edition c.phase (kind_of e)) || harmless g (surroundings_of c) (kind_of e)) ≡ true)
      ↔ ((stepped c e).number ≡ 0 → Harmless g c e)
  one_group g = (
    λ only zeroed. is_harmless g (accepted_holds _ _ only ((zero_accepted c e).0 zeroed)),
    λ each. where_accepted _ _ (λ ok. harmless_is g (each ((zero_accepted c e).1 ok))),
  )

-- So it is over a history,
pub each_harmless : (g : Group) (es : List Event) (c : Chip) → (only_of g (surroundings_of c) es ≡ true) ↔ EachHarmless g c es
each_harmless g [] c = (λ only. nowhere _, λ each. refl)
each_harmless g (e ∷ es) c =
    let here = one_group c e g in
    let later = each_harmless g es (stepped c e).state in
    let P : List Event → Event → Type 0 = λ before x. (stepped (run c before) x).number ≡ 0 → Harmless g (run c before) x in (
      λ only.
          let are = both (not (accepts c.edition c.phase (kind_of e)) || harmless g (surroundings_of c) (kind_of e)) _ only in
          at_both P e es (here.0 are.0) (later.0 (rw (surroundings_next_lem c e) are.1)),
      λ each. both_hold _ _ (here.1 (at_first P e es each)) (rw (← surroundings_next_lem c e) (later.1 (at_later P e es each))),
    )

-- and of it those events are struck out.
pub struck_out : (g : Group) (es : List Event) (c : Chip) → StruckOut g c es (without g (surroundings_of c) es)
struck_out g [] c = at_the_end
struck_out g (e ∷ es) c = go (is_of g (surroundings_of c) (kind_of e)) refl (rw (← surroundings_next_lem c e) (struck_out g es (stepped c e).state))
  where
    go : (b : Bool) → is_of g (surroundings_of c) (kind_of e) ≡ b
        → StruckOut g (stepped c e).state es (without g (surroundings_next (surroundings_of c) e) es)
        → StruckOut g c (e ∷ es)
        (cond b (without g (surroundings_next (surroundings_of c) e) es) (e ∷ without g (surroundings_next (surroundings_of c) e) es))
    go true its later = struck ((done_on c e g).0 its) later
    go false other later = kept (λ its. contrary _ other ((done_on c e g).1 its)) later
