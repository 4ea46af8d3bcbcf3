-- Which events are kept and which are dropped, by the events alone.
-- Rests on Along, SameLevels and PlainWord, on bits' Logic, on chip's Outcome, and on fates' Shapes, Tables, Accepted, SurroundingsKept and
-- Followed.
use Rattle.std.proofs.Common.{◌≡◌, ◌∙◌, refl, ap, sym, subst, Bool, true, false, cond, List, ℕ, ◌<◌, arith, eqb, ltb, lt-ltb, eqb-true, eq-eqb}
use borrow.Author.Tests.{eqb-false, not-true}
use Rattle.bits.specs.Bit.{bit_of}
use Rattle.bits.proofs.Logic.{both, contrary}
use Rattle.bus.specs.Event.{Event, event}
use Rattle.bus.specs.Kinds.{is_kind}
use Rattle.bus.specs.Refusals.{number_of}
use Rattle.bus.specs.declared.Phase.{Phase}
use Rattle.bus.specs.declared.Phase.TheVariants.{Idle, Reading, Writing}
use Rattle.control.specs.declared.Group.{Group}
use Rattle.control.specs.declared.Group.TheVariants.{A, B}
use Rattle.chip.specs.declared.channel.Side.TheVariants.{Input}
use Rattle.chip.specs.declared.Edition.{Edition}
use Rattle.chip.specs.declared.Chip.{Chip}
use Rattle.chip.specs.declared.Levels.{Levels}
use Rattle.chip.specs.State.{power_up_as}
use Rattle.chip.specs.ModeWord.{after_mode_word}
use Rattle.chip.specs.Levels.{lets_through, after_levels}
use Rattle.chip.specs.Step.{on_bus}
use Rattle.chip.proofs.Outcome.{step_accepts}
use Rattle.fates.specs.Kinds.{Kind, reset, cycle_ended, unknown, read_begun, write_begun, new_levels, readable_at, kind_of, accepts}
use Rattle.fates.specs.Surroundings.{Surroundings, phase_after, surroundings_after, surroundings_next}
use Rattle.fates.specs.Effects.{followed, port_number, strobe_pin, strobes, effect}
use Rattle.fates.specs.Promise.{surroundings_of}
use Rattle.fates.proofs.Shapes.{shape_of, latch_after}
use Rattle.fates.proofs.Tables.{line_same, strobes_same}
use Rattle.fates.proofs.Accepted.{by_outcome}
use Rattle.fates.proofs.SurroundingsKept.{surroundings_next_lem}
use Rattle.fates.proofs.Followed.{after, latch, next_latch}
use Rattle.journallaws.specs.Here.{levels_at, of_a_cycle, here, Open}
use Rattle.journallaws.specs.ByEvents.{IsKept, IsDropped, ByEvents}
use Rattle.journallaws.proofs.Along.{one_more_lem, reached, surrounded, edition_here, latched}
use Rattle.journallaws.proofs.SameLevels.{levels_stay}
use Rattle.journallaws.proofs.PlainWord.{cleared_along, cleared_at_first}

-- A refused event leaves the chip as it was.
refused_stays : (c : Chip) (e : Event) → accepts c.edition c.phase (kind_of e) ≡ false → after c e ≡ c
refused_stays c e = by_outcome (λ c' ok. ok ≡ false → c' ≡ c) c e (λ ok is. absurd (contrary true is refl)) (λ is. refl)

-- What begins or ends a cycle moves the phase.
phase_moves : (ed : Edition) (ph : Phase) (k : Kind) → accepts ed ph k ≡ true → of_a_cycle k ≡ true → ¬ (phase_after ph k ≡ ph)
phase_moves ed ph reset ok of is = contrary false refl of
phase_moves ed Idle (read_begun x) ok of is = let z : ◌≡◌ {A = ℕ} 0 1 = cc in omega arith
phase_moves ed (Reading p) (read_begun x) ok of is = contrary false refl (both (readable_at ed x) false ok).1
phase_moves ed (Writing a d) (read_begun x) ok of is = contrary false refl (both (readable_at ed x) false ok).1
phase_moves ed Idle cycle_ended ok of is = contrary false refl ok
phase_moves ed (Reading p) cycle_ended ok of is = let z : ◌≡◌ {A = ℕ} 0 1 = cc in omega arith
phase_moves ed (Writing a d) cycle_ended ok of is = let z : ◌≡◌ {A = ℕ} 0 1 = cc in omega arith
phase_moves ed Idle (write_begun x d) ok of is = let z : ◌≡◌ {A = ℕ} 0 1 = cc in omega arith
phase_moves ed (Reading p) (write_begun x d) ok of is = contrary false refl (both (ltb x 4) false ok).1
phase_moves ed (Writing a b) (write_begun x d) ok of is = contrary false refl (both (ltb x 4) false ok).1
phase_moves ed ph (new_levels x d) ok of is = contrary false refl of
phase_moves ed ph unknown ok of is = contrary false refl of

-- The levels on a port after they came there.
levels_come : (a : Surroundings) (x d : ℕ) → x < 3 → levels_at x (surroundings_after a (new_levels x d)) ≡ d
levels_come a x d below = go (eqb x 0) refl (eqb x 1) refl
  where
    two : eqb x 0 ≡ false → eqb x 1 ≡ false → eqb x 2 ≡ true
    two zero one = eq-eqb x 2 (omega (arith, eqb-false x 0 zero, eqb-false x 1 one, below))

    go : (z : Bool) → eqb x 0 ≡ z → (o : Bool) → eqb x 1 ≡ o
        → cond z (cond z d a.levels_a) (cond o (cond o d a.levels_b) (cond (eqb x 2) d a.levels_c)) ≡ d
    go true zero o one = refl
    go false zero true one = refl
    go false zero false one = rw (two zero one)

-- What a reset leaves.
reset_leaves : (c : Chip) → after c (event 0 0 0) ≡ on_bus Idle c.edition (after_mode_word c.core 0x9b)
unfolding number_of is_kind
reset_leaves c = ap (λ r. r.state) (step_accepts c 0 0 0 refl)

-- Levels that come onto a port that there is, where they leave the core as it is, leave the chip.
levels_leave : (c : Chip) (x d : ℕ) → after_levels c.core x d ≡ c.core → after c (event 5 x d) ≡ c
levels_leave c x d stays = by_outcome (λ c' ok. c' ≡ c) c (event 5 x d) (λ ok. ap (on_bus c.phase c.edition) stays) refl

-- What surrounds the channels after an accepted event.
next_accepted : (b : Surroundings) (e : Event) → accepts b.edition b.phase (kind_of e) ≡ true → surroundings_next b e ≡ surroundings_after b (kind_of e)
next_accepted b e ok = rw (ok)

-- Levels on the port of a strobed input whose STB is low are followed.
follows_them : (b : Surroundings) (g : Group) (d : ℕ) → strobes b.word g Input ≡ true → bit_of b.levels_c (strobe_pin g Input) ≡ false
    → effect g Input b (event 5 (port_number g) d) ≡ followed d
follows_them b A d on low = rw (on, low)
follows_them b B d on low = rw (on, low)

module _ (ed : Edition) (v : Levels) (es : List Event) where
  abbrev c : Chip
  c = reached ed v es

  abbrev a : Surroundings
  a = here ed v es

  -- An event is dropped where it leaves the chip, and kept where it does not.
  drops : (e : Event) → after c e ≡ c → IsDropped ed v es e
  drops e stays = one_more_lem (power_up_as ed v) es e ∙ stays

  keeps : (e : Event) → ¬ (after c e ≡ c) → IsKept ed v es e
  keeps e moves same = moves (sym (one_more_lem (power_up_as ed v) es e) ∙ same)

  -- It does not where what surrounds the channels moves.
  around_moves : (e : Event) → ¬ (surroundings_next a e ≡ a) → IsKept ed v es e
  around_moves e moves =
      keeps e (λ same. moves (ap (λ b. surroundings_next b e) (sym (surrounded ed v es)) ∙ sym (surroundings_next_lem c e) ∙ ap surroundings_of same ∙ surrounded ed v es))

  -- The chip and the history accept alike.
  accepts_here : (e : Event) → accepts ed a.phase (kind_of e) ≡ accepts c.edition c.phase (kind_of e)
  accepts_here e =
      let phases = sym (ap (λ b. b.phase) (surrounded ed v es)) in
      let editions = sym (edition_here ed v es) ∙ sym (ap (λ b. b.edition) (surrounded ed v es)) in
      λ i. accepts (editions i) (phases i) (kind_of e)

  next_is : (e : Event) → accepts ed a.phase (kind_of e) ≡ true → surroundings_next a e ≡ surroundings_after a (kind_of e)
  next_is e ok = next_accepted a e (ap (λ x. accepts x a.phase (kind_of e)) (edition_here ed v es) ∙ ok)

  -- What lets levels through in the chip does so in the history, and the other way round.
  opens : (g : Group) → lets_through c.core g ≡ true → Open ed v es g
  opens g is =
      let k = both _ _ is in (
        ap (λ b. strobes b.word g Input) (sym (surrounded ed v es)) ∙ strobes_same c.core.word g Input ∙ k.0,
        (λ i. bit_of (sym (surrounded ed v es) i).levels_c (line_same g Input i)) ∙ not-true _ k.1,
      )

  moved_latch : (g : Group) (d : ℕ) → Open ed v es g → latch g Input (after c (event 5 (port_number g) d)) ≡ d
  moved_latch g d through =
      let on = ap (λ b. strobes b.word g Input) (surrounded ed v es) ∙ through.0 in
      let low = ap (λ b. bit_of b.levels_c (strobe_pin g Input)) (surrounded ed v es) ∙ through.1 in
      next_latch g Input c (event 5 (port_number g) d) refl
      ∙ ap (λ x. latch_after (latch g Input c) (shape_of x)) (follows_them (surroundings_of c) g d on low)

  levels_there : (x n d : ℕ) → levels_at x a ≡ d → eqb x n ≡ true → levels_at n (surroundings_of c) ≡ d
  levels_there x n d there is = subst (λ m. levels_at m (surroundings_of c) ≡ d) (eqb-true x n is) (ap (levels_at x) (surrounded ed v es) ∙ there)

  -- On an idle bus, and under the word of power-up, a reset finds what it would leave.
  reset_stays : a.phase ≡ Idle → a.word ≡ 0x9b → after c (event 0 0 0) ≡ c
  reset_stays idle plain =
      let cleared = cleared_along (power_up_as ed v) es (λ is. cleared_at_first ed v) (ap (λ b. b.word) (surrounded ed v es) ∙ plain) in
      let phases = ap (λ b. b.phase) (surrounded ed v es) ∙ idle in
      reset_leaves c ∙ (λ i. on_bus (sym phases i) c.edition (cleared i))

  pub by_events : ByEvents ed v es
  by_events = record {
    refused = λ e no. drops e (refused_stays c e (sym (accepts_here e) ∙ no));
    cycle = λ e ok of. around_moves e (λ same. phase_moves ed a.phase (kind_of e) ok of (ap (λ b. b.phase) (sym (next_is e ok) ∙ same)));
    other_levels = λ x d below other.
        around_moves (event 5 x d)
        (λ same. other (sym (ap (levels_at x) (sym (next_is (event 5 x d) (lt-ltb x 3 below)) ∙ same)) ∙ levels_come a x d below));
    through_to_the_latch = λ g d through other.
        keeps (event 5 (port_number g) d) (λ same. other (sym (latched ed v es g) ∙ sym (ap (latch g Input) same) ∙ moved_latch g d through));
    same_levels = λ x d there holds.
        drops (event 5 x d)
        (levels_leave c x d
        (levels_stay c.core x d (levels_there x 2 d there)
        (λ is. (levels_there x 0 d there is, λ through. latched ed v es A ∙ holds A (sym (eqb-true x 0 is)) (opens A through)))
        (λ is. (levels_there x 1 d there is, λ through. latched ed v es B ∙ holds B (sym (eqb-true x 1 is)) (opens B through)))));
    reset_in_a_cycle = λ runs. around_moves (event 0 0 0) (λ same. runs (sym (ap (λ b. b.phase) same)));
    reset_of_a_word = λ other. around_moves (event 0 0 0) (λ same. other (sym (ap (λ b. b.word) same)));
    reset_of_nothing = λ idle plain. drops (event 0 0 0) (reset_stays idle plain);
  }
