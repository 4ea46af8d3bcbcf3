-- Which events make a chip another one: a beginning and an end do where they are accepted, and levels do where the lines of their port become others,
-- or the latch to which they go through.
-- Rests on Exact, Packed, bits' Logic and bus's Named.
use Rattle.std.proofs.Common.{rules, ◌≡◌, ◌∙◌, refl, sym, ap, subst, Bool, true, false, cond, not, ◌||◌, ℕ, suc, zero, arith, ltb, ne_eqb, ◌⊎◌, ⊎_elim}
use Rattle.std.proofs.Math.Bool.{and-false, and-not_self}
use Rattle.bits.specs.Bit.{bit_of}
use Rattle.bits.proofs.Logic.{contrary}
use Rattle.bus.specs.Kinds as kinds
use Rattle.bus.specs.Kinds.{is_kind}
use Rattle.bus.specs.declared.Limits.{Limits}
use Rattle.bus.specs.Answers.{raw, after_event}
use Rattle.bus.specs.declared.events.Event.{Event}
use Rattle.bus.specs.declared.events.Event.TheVariants.{BeginRead, EndCycle, BeginWrite}
use Rattle.bus.specs.Refusals.{is_busy, number_of}
use Rattle.bus.specs.Device.{read_begun_in, cycle_ended_in, write_begun_in, levels_put_in}
pub use Rattle.bus.proofs.Named.{named, unnamed}
use Rattle.chip.specs.declared.Port.{Port}
use Rattle.chip.specs.declared.Core.{Core}
use Rattle.chip.specs.declared.Chip.{Chip}
use Rattle.chip.specs.Moves.{after_follow}
use Rattle.chip.specs.Levels.{fallen, edged, after_levels_on_c, port_after_levels, after_levels}
use Rattle.chip.specs.Step.{device}
use Rattle.journal.specs.declared.compact.Standing.{Standing}
use Rattle.journal.specs.contracts.compact.StandingPartialEq.TheImpl as standings
use Rattle.journal.specs.Same.{same_state, standing_at}
pub use Rattle.journal.proofs.Packed.{frame_small}
use Rattle.journal.proofs.Exact.{then, other_state}

-- A cycle whose beginning is accepted finds the bus idle, and an end that is accepted finds it busy.
reads_idle : (there readable busy : Bool) → ◌≡◌ {A = ℕ} (cond (not there || false) 2 (cond (not readable) 3 (cond busy 4 0))) 0 → busy ≡ false
reads_idle true true false e = refl
reads_idle true true true e = absurd (omega (arith, e))
reads_idle true false busy e = absurd (omega (arith, e))
reads_idle false readable busy e = absurd (omega (arith, e))

writes_idle : (there busy : Bool) → ◌≡◌ {A = ℕ} (cond (not there || false) 2 (cond busy 4 0)) 0 → busy ≡ false
writes_idle true false e = refl
writes_idle true true e = absurd (omega (arith, e))
writes_idle false busy e = absurd (omega (arith, e))

ends_busy : (busy : Bool) → ◌≡◌ {A = ℕ} (cond (not busy) 5 0) 0 → busy ≡ true
ends_busy true e = refl
ends_busy false e = absurd (omega (arith, e))

-- Chips of which one has a cycle that runs, and the other has none, are not the same. So each of the three makes the chip another one.
module _ (c d : Chip) where
  begun : is_busy c.phase ≡ false → is_busy d.phase ≡ true → same_state c d ≡ false
  begun idle busy = other_state c d (λ same. contrary (is_busy d.phase) (subst (λ (e : Chip). is_busy e.phase ≡ false) same idle) busy)

  ended : is_busy c.phase ≡ true → is_busy d.phase ≡ false → same_state c d ≡ false
  ended busy idle = other_state c d (λ same. contrary (is_busy d.phase) idle (subst (λ (e : Chip). is_busy e.phase ≡ true) same busy))

module _ (c : Chip) (l : Limits) (x d : ℕ) where
  read_changes : number_of l c.phase kinds.begin_read x ≡ 0 → same_state c (read_begun_in device c x) ≡ false
  unfolding number_of is_kind
  read_changes ok = begun c (read_begun_in device c x) (reads_idle (ltb x l.addresses) (ltb x l.readable) (is_busy c.phase) ok) refl

  write_changes : number_of l c.phase kinds.begin_write x ≡ 0 → same_state c (write_begun_in device c x d) ≡ false
  unfolding number_of is_kind
  write_changes ok = begun c (write_begun_in device c x d) (writes_idle (ltb x l.addresses) (is_busy c.phase) ok) refl

  end_changes : number_of l c.phase kinds.end_cycle x ≡ 0 → same_state c (cycle_ended_in device c) ≡ false
  unfolding number_of is_kind
  end_changes ok = ended c (cycle_ended_in device c) (ends_busy (is_busy c.phase) ok) refl

-- So a cycle that is accepted as it begins or ends makes the chip another one.
pub cycle_changes : (c : Chip) (l : Limits) (e : Event)
    → ((x : ℕ) × (e ≡ BeginRead x)) ⊎ ((e ≡ EndCycle) ⊎ ((x : ℕ) × (d : ℕ) × (e ≡ BeginWrite x d)))
    → number_of l c.phase (raw e).kind (raw e).first ≡ 0 → same_state c (after_event device e c) ≡ false
cycle_changes c l e is =
    let by : (f : Event) → e ≡ f → Changes f → Changes e = λ f same changes. subst Changes (sym same) changes in
    ⊎_elim (λ r. by (BeginRead r.0) r.1 (read_changes c l r.0 0))
    (⊎_elim (λ same. by EndCycle same (end_changes c l 0 0)) (λ w. by (BeginWrite w.0 w.1) w.2 (write_changes c l w.0 w.1)))
    is
  where
    Changes : Event → Type 0
    Changes f = number_of l c.phase (raw f).kind (raw f).first ≡ 0 → same_state c (after_event device f c) ≡ false

-- Levels on port C that are there already fall nowhere.
none_falls : (before n : ℕ) → fallen before before n ≡ false
unfolding fallen
none_falls before n = and-not_self (bit_of before n)

lines_stay : (c : Core) → after_levels_on_c c c.c.outside ≡ c
unfolding after_levels_on_c edged
lines_stay c = simp (none_falls, and-false) refl

-- Levels on port A or B leave the port where they leave its lines and the latch.
port_stays : (p : Port) (through : Bool) (d : ℕ) → d ≡ p.outside → (port_after_levels p through d).input.latch ≡ p.input.latch → port_after_levels p through d ≡ p
unfolding port_after_levels after_follow
port_stays p true d levels latch = λ i. record {
  input = record { fill = p.input.fill; latch = latch i; tally = p.input.tally };
  output = p.output;
  outside = levels i;
}
port_stays p false d levels latch = λ i. record { input = p.input; output = p.output; outside = levels i }

-- What is compared is told exactly.
same_standing : (p q : Standing) → standings.ghosts.eq p q ≡ true → p ≡ q
same_standing p q h = search rules

standing_self : (p : Standing) → standings.ghosts.eq p p ≡ true
standing_self p = search rules

module _ (c : Chip) where
  pub unchanged : same_state c c ≡ true
  unchanged = then c c refl

  -- Levels leave the core where they leave what is compared. On a number that is no port nothing happens.
  core_stays : (x d : ℕ) → standing_at (levels_put_in device c x d) x ≡ standing_at c x → after_levels c.core x d ≡ c.core
  unfolding after_levels port_after_levels after_levels_on_c
  core_stays zero d same = λ i. record {
    word = c.core.word;
    a = port_stays c.core.a _ d (ap (λ (s : Standing). s.levels) same) (ap (λ (s : Standing). s.latch) same) i;
    b = c.core.b;
    c = c.core.c;
    inte = c.core.inte;
  }
  core_stays (suc zero) d same = λ i. record {
    word = c.core.word;
    a = c.core.a;
    b = port_stays c.core.b _ d (ap (λ (s : Standing). s.levels) same) (ap (λ (s : Standing). s.latch) same) i;
    c = c.core.c;
    inte = c.core.inte;
  }
  core_stays (suc (suc zero)) d same = ap (after_levels_on_c c.core) (ap (λ (s : Standing). s.levels) same) ∙ lines_stay c.core
  core_stays (suc (suc (suc x))) d same =
      let n = suc (suc (suc x)) in
      rw (ne_eqb n 2 (λ e. omega (arith, e)), ne_eqb n 0 (λ e. omega (arith, e)), ne_eqb n 1 (λ e. omega (arith, e))) refl

  -- So what is compared, before the levels and after, answers what the definition's test does.
  module _ (x d : ℕ) where
    abbrev next : Chip
    next = levels_put_in device c x d

    pub levels_told : standings.ghosts.eq (standing_at next x) (standing_at c x) ≡ same_state c next
    levels_told = go (standings.ghosts.eq (standing_at next x) (standing_at c x)) refl
      where
        go : (b : Bool) → standings.ghosts.eq (standing_at next x) (standing_at c x) ≡ b → b ≡ same_state c next
        go true is =
            let stays : c ≡ next = λ i. record { phase = c.phase; edition = c.edition; core = sym (core_stays x d (same_standing _ _ is)) i } in
            sym (then c next stays)
        go false is =
            sym (other_state c next
            (λ same. contrary (standings.ghosts.eq (standing_at next x) (standing_at c x)) is
            (subst (λ (e : Chip). standings.ghosts.eq (standing_at e x) (standing_at c x) ≡ true) same (standing_self (standing_at c x)))))

pub ruleset by_word = (frame_small, named, unnamed, unchanged)
