-- A read of control: refused with 3 by the older edition, and by the newer answered with the mode word read back, while nothing but the bus
-- moves ("The 82C55A").
-- Rests on Cycles, ShowsAlike, Unreached, bits' BitLaws, the bus's ByKind, and chip's Outcome.
use Rattle.std.proofs.Common.{◌≡◌, ◌∙◌, refl, sym, ap, subst, Bool, true, false, cond, not, ◌||◌, ℕ, arith, eqb, ltb, lit<, ne_eqb}
use borrow.Author.Tests.{eqb-false}
use Rattle.bits.proofs.BitLaws.{bit_of_with}
use Rattle.bus.specs.Kinds.{is_kind}
use Rattle.bus.proofs.ByKind.{by_kind}
use Rattle.bus.specs.declared.Phase.{Phase}
use Rattle.bus.specs.declared.Phase.TheVariants.{Idle, Reading, Writing}
use Rattle.bus.specs.Refusals.{is_busy, number_of}
use Rattle.control.specs.declared.Group.{Group}
use Rattle.control.specs.declared.Group.TheVariants.{A, B}
use Rattle.chip.specs.declared.channel.Side.{Side}
use Rattle.chip.specs.declared.channel.Side.TheVariants.{Input, Output}
use Rattle.chip.specs.declared.Core.{Core}
use Rattle.chip.specs.declared.Edition.{Edition}
use Rattle.chip.specs.declared.Edition.TheVariants.{Older, Newer}
use Rattle.chip.specs.declared.Chip.{Chip}
use Rattle.chip.specs.Handshakes.{running}
use Rattle.chip.specs.Read.{after_read_begins}
use Rattle.chip.specs.Reads.{read_control, read_of}
use Rattle.chip.specs.Step.{limits, on_bus, step_of}
use Rattle.chip.proofs.Outcome.{step_accepts, step_number, step_either}
use Rattle.laws.specs.Editions.{ShowsAlike, ReadBack, ControlRead, ControlReadEnds}
use Rattle.laws.proofs.Cycles.{facts, read_answers_lem}
use Rattle.laws.proofs.ShowsAlike.{shows_alike}
use Rattle.laws.proofs.Unreached.{read_of_no_port_ends}

-- The byte that is read back is the mode word but for bit 7.
read_back : (w : ℕ) → ReadBack (read_control w) w
unfolding read_control
read_back w = record {
  mode_bit = bit_of_with w 7 true 7 (lit< tt);
  others = λ n small. bit_of_with w 7 true n (omega (arith, small)) ∙ rw (ne_eqb n 7 (λ e. omega (arith, small, e)));
}

-- A read of control is no port's own cycle.
no_own_cycle : (g : Group) (s : Side) → running (Reading 3) g s ≡ running Idle g s
no_own_cycle A Input = refl
no_own_cycle A Output = refl
no_own_cycle B Input = refl
no_own_cycle B Output = refl

-- It begins on an idle bus, and moves nothing there.
begins_idle : (ed : Edition) (ph : Phase) → number_of (limits ed) ph 1 3 ≡ 0 → ph ≡ Idle
unfolding number_of is_kind
begins_idle Older ph none = cc
begins_idle Newer Idle none = refl
begins_idle Newer (Reading p) none = cc
begins_idle Newer (Writing a d) none = cc

moves_nothing : (c : Core) → after_read_begins c 3 ≡ c
unfolding after_read_begins
moves_nothing c = refl

module _ (c : Chip) (d : ℕ) where
  accepted_where : (step_of c 1 3 d).number ≡ 0 → number_of (limits c.edition) c.phase 1 3 ≡ 0
  accepted_where ok = sym (step_number c 1 3 d) ∙ ok

  bus_alone_lem : (step_of c 1 3 d).number ≡ 0 → (step_of c 1 3 d).state ≡ on_bus (Reading 3) c.edition c.core
  bus_alone_lem ok = rw (step_accepts c 1 3 d (accepted_where ok)) (ap (λ (core : Core). on_bus (Reading 3) c.edition core) (moves_nothing c.core))

  shows : ShowsAlike (step_of c 1 3 d).state c
  shows = step_either (λ c'. ShowsAlike c' c) c 1 3 d
      (shows_alike c.core c.phase c.phase c.edition c.edition (λ g s. refl))
      (λ ok. rw (moves_nothing c.core)
      (shows_alike c.core (Reading 3) c.phase c.edition c.edition
      (λ g s. rw (begins_idle c.edition c.phase ok) (no_own_cycle g s))))

  pub control_read_lem : ControlRead c d
  unfolding read_of step_of
  control_read_lem = record {
    older = λ old. ((facts c).at_place 3 d).not_readable (lit< tt) (rw (old) (omega arith));
    in_cycle = λ new busy. (((facts c).at_place 3 d).read_in_cycle (lit< tt) (rw (new) (lit< tt)) busy);
    begins = λ new. ((facts c).at_place 3 d).read_begins (lit< tt) (rw (new) (lit< tt));
    answers = λ ok. subst (λ (b : ℕ). ReadBack b c.core.word) (sym (read_answers_lem c 3 d ok)) (read_back c.core.word);
    bus_alone = bus_alone_lem;
    shows = shows;
  }

-- No event is 3 in the newer edition.
three_never : (ph : Phase) (k x : ℕ) → eqb (number_of (limits Newer) ph k x) 3 ≡ false
unfolding number_of is_kind
three_never ph k x =
    by_kind (λ k. eqb (number_of (limits Newer) ph k x) 3 ≡ false)
    refl
    (reading (ltb x 4) (is_busy ph))
    (ending (is_busy ph))
    (writing (ltb x 4) (is_busy ph))
    (levels (ltb x 3))
    (λ k none. rw (none))
    k
  where
    reading : (there busy : Bool) → eqb (cond (not there || false) 2 (cond (not there) 3 (cond busy 4 0))) 3 ≡ false
    reading true true = refl
    reading true false = refl
    reading false busy = refl

    ending : (busy : Bool) → eqb (cond (not busy) 5 0) 3 ≡ false
    ending true = refl
    ending false = refl

    writing : (there busy : Bool) → eqb (cond (not there || false) 2 (cond busy 4 0)) 3 ≡ false
    writing true true = refl
    writing true false = refl
    writing false busy = refl

    levels : (there : Bool) → eqb (cond (not there) 2 0) 3 ≡ false
    levels true = refl
    levels false = refl

pub newer_never_three : (c : Chip) (k x d : ℕ) → c.edition ≡ Newer → ¬ ((step_of c k x d).number ≡ 3)
newer_never_three c k x d new three =
    eqb-false _ _ (three_never c.phase k x)
    (ap (λ (ed : Edition). number_of (limits ed) c.phase k x) (sym new) ∙ sym (step_number c k x d) ∙ three)

-- The end of such a read frees the bus, and that is all.
pub control_read_ends : (c : Chip) (x d : ℕ) → c.phase ≡ Reading 3 → ControlReadEnds c x d
control_read_ends c x d phase =
    let ends = read_of_no_port_ends c 3 x d phase (lit< tt) in
    record {
      bus_alone = ends;
      shows = rw (ends) (shows_alike c.core Idle c.phase c.edition c.edition (λ g s. rw (phase) (sym (no_own_cycle g s))));
    }
