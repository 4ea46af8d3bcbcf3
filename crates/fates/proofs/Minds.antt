-- Device and program keep to the discipline exactly where every event keeps to its two rules.
-- Rests on bits' Logic, the bus's ByKind, laws' PlainBits, Tables, Accepted, SurroundingsKept and Wherever.
use Rattle.std.proofs.Common.{◌≡◌, ◌∙◌, refl, ap, sym, Bool, true, false, cond, not, ◌&&◌, List, [], ◌∷◌, ℕ, arith, eqb, ltb, eq-eqb, eqb-true, ◌↔◌}
use borrow.Author.Tests.{not-true, eqb-false}
use Rattle.bits.specs.Bit.{bit_of}
use Rattle.bits.proofs.Logic.{contrary, both}
use Rattle.bus.specs.Kinds.{is_kind}
use Rattle.bus.specs.Event.{Event, event}
use Rattle.bus.specs.declared.Phase.{Phase}
use Rattle.bus.specs.declared.Phase.TheVariants.{Idle, Reading, Writing}
use Rattle.bus.proofs.ByKind.{by_kind, no_kind_differs}
use Rattle.control.specs.declared.Group.{Group}
use Rattle.control.specs.declared.Group.TheVariants.{A, B}
use Rattle.chip.specs.declared.channel.Side.TheVariants.{Input}
use Rattle.chip.specs.declared.channel.Fill.{Fill}
use Rattle.chip.specs.declared.Edition.{Edition}
use Rattle.chip.specs.declared.Edition.TheVariants.{Older, Newer}
use Rattle.chip.specs.declared.Chip.{Chip}
use Rattle.chip.specs.Handshakes.{flag_pin}
use Rattle.chip.specs.Step.{stepped}
use Rattle.laws.specs.Seen.{pin}
use Rattle.laws.specs.PlainBits.{handshake_on}
use Rattle.laws.proofs.PlainBits.{strobed_by_bits}
use Rattle.fates.specs.Kinds.{readable_at, free}
use Rattle.fates.specs.Surroundings.{of_mode_word}
use Rattle.fates.specs.Effects.{Effect, offered, followed, taken, ended, cleared_away, forced_full, forced_empty, nothing, port_number, strobe_pin, levels_on, strobes, read_runs, under_low, of_pin, when, effect}
use Rattle.fates.specs.Numbers.{own_port, own_line, own_flag}
use Rattle.fates.specs.Promise.{run, surroundings_of}
use Rattle.fates.specs.Discipline.{ibf, HasFound, Minds, Disciplined}
use Rattle.fates.specs.Harm.{StbFalls}
use Rattle.fates.specs.Conditions.{ibf_level, MindsIbf, EachMindsIbf, ReadHasFound, FallsOn}
use Rattle.fates.proofs.Tables.{strobes_plain}
use Rattle.fates.proofs.Accepted.{no_name}
use Rattle.fates.proofs.SurroundingsKept.{surroundings_next_lem}
use Rattle.fates.proofs.Wherever.{nowhere, at_first, at_later, at_both}

-- The tables, by plain numbers.
port_own : (g : Group) → own_port g ≡ port_number g
port_own A = refl
port_own B = refl

line_own : (g : Group) → strobe_pin g Input ≡ own_line g Input
line_own A = refl
line_own B = refl

flag_own : (g : Group) → flag_pin g Input ≡ own_flag g Input
flag_own A = refl
flag_own B = refl

readable : (ed : Edition) (g : Group) → readable_at ed (own_port g) ≡ true
readable Older A = refl
readable Older B = refl
readable Newer A = refl
readable Newer B = refl

-- The bus is free where it is idle.
idle_of : (ph : Phase) → free ph ≡ true → ph ≡ Idle
idle_of Idle free = refl
idle_of (Reading p) free = absurd (contrary false refl free)
idle_of (Writing x d) free = absurd (contrary false refl free)

-- A fall of STB, of levels on port C.
abbrev fall : Bool → Bool → Bool → Bool
fall lines high low = lines && (high && not low)

is_fall : (lines high low : Bool) → lines ≡ true → high ≡ true → low ≡ false → fall lines high low ≡ true
is_fall lines high low l h d = rw (l, h, d)

fall_is : (lines high low : Bool) → fall lines high low ≡ true → (lines ≡ true) × (high ≡ true) × (low ≡ false)
fall_is lines high low falls =
    let on_c = both lines _ falls in
    let line = both high _ on_c.1 in
    (on_c.0, line.0, not-true low line.1)

-- What is asked where an effect under conditions is another than these two, and where it is one of them.
module _ (level : Bool) where
  minds_either : (b : Bool) (d d' : Effect) → Minds level d → Minds level d' → Minds level (cond b d d')
  minds_either true d d' minds minds' = minds
  minds_either false d d' minds minds' = minds'

  minds_when : (b : Bool) (d : Effect) → Minds level d → Minds level (when b d)
  minds_when b d minds = minds_either b d nothing minds tt

  abbrev at_read : Bool → Bool → Bool → Bool → Effect
  at_read there idle takes own = when (there && idle) (when takes (when own taken))

  read_asks : (there idle takes own : Bool) → there ≡ true → idle ≡ true → takes ≡ true → own ≡ true → Minds level (at_read there idle takes own) → level ≡ true
  read_asks false idle takes own t i k o minds = absurd (contrary false refl t)
  read_asks true false takes own t i k o minds = absurd (contrary false refl i)
  read_asks true true false own t i k o minds = absurd (contrary false refl k)
  read_asks true true true false t i k o minds = absurd (contrary false refl o)
  read_asks true true true true t i k o minds = minds

  asks_read : (there idle takes own : Bool) → (idle ≡ true → takes ≡ true → own ≡ true → level ≡ true) → Minds level (at_read there idle takes own)
  asks_read false idle takes own asks = tt
  asks_read true false takes own asks = tt
  asks_read true true false own asks = tt
  asks_read true true true false asks = tt
  asks_read true true true true asks = asks refl refl refl

  abbrev at_levels : Bool → Bool → Bool → Bool → ℕ → ℕ → Effect
  at_levels there takes falls under v d = when there (when takes (cond falls (offered v) (when under (followed d))))

  fall_asks : (there takes falls under : Bool) (v d : ℕ) → there ≡ true → takes ≡ true → falls ≡ true → Minds level (at_levels there takes falls under v d)
      → level ≡ false
  fall_asks false takes falls under v d t k f minds = absurd (contrary false refl t)
  fall_asks true false falls under v d t k f minds = absurd (contrary false refl k)
  fall_asks true true false under v d t k f minds = absurd (contrary false refl f)
  fall_asks true true true under v d t k f minds = minds

  asks_fall : (there takes falls under : Bool) (v d : ℕ) → (takes ≡ true → falls ≡ true → level ≡ false) → Minds level (at_levels there takes falls under v d)
  asks_fall false takes falls under v d asks = tt
  asks_fall true false falls under v d asks = tt
  asks_fall true true false under v d asks = minds_when under (followed d) tt
  asks_fall true true true under v d asks = asks refl refl

module _ (g : Group) (c : Chip) (x d : ℕ) where
  level_is : ibf c g ≡ ibf_level c g
  level_is = ap (pin c) (flag_own g)

  takes_is : strobes c.core.word g Input ≡ true → handshake_on c.core.word g Input ≡ true
  takes_is takes = sym (strobes_plain c.core.word g Input) ∙ takes

  abbrev Exactly : ℕ → Type 0
  Exactly k = Minds (ibf c g) (effect g Input (surroundings_of c) (event k x d)) ↔ MindsIbf g c (event k x d)

  -- An event that is neither levels nor the beginning of a read is free.
  neither_asks : (k : ℕ) → ¬ (k ≡ 5) → ¬ (k ≡ 1) → Minds (ibf c g) (effect g Input (surroundings_of c) (event k x d)) → Exactly k
  neither_asks k levels read minds = (
    λ kept. record { strobes = λ l. absurd (levels l.levels); reads = λ r. absurd (read r.read) },
    λ kept. minds,
  )

  read_exactly : Exactly 1
  read_exactly = (
    λ kept.
        record {
          strobes = λ l. absurd (omega (arith, l.levels));
          reads = λ r.
              sym level_is
              ∙ read_asks (ibf c g) (readable_at c.edition x) (free c.phase) (strobes c.core.word g Input) (eqb x (port_number g))
              (ap (readable_at c.edition) r.port ∙ readable c.edition g) (ap free r.idle) (strobes_plain c.core.word g Input ∙ r.takes)
              (eq-eqb x _ (r.port ∙ port_own g)) kept;
        },
    λ kept.
        asks_read (ibf c g) (readable_at c.edition x) (free c.phase) (strobes c.core.word g Input) (eqb x (port_number g))
        (λ idle takes own.
        level_is
        ∙ kept.reads (record { takes = takes_is takes; idle = idle_of c.phase idle; read = refl; port = eqb-true x _ own ∙ sym (port_own g) })),
  )

  levels_exactly : Exactly 5
  levels_exactly =
      let high = bit_of c.core.c.outside (strobe_pin g Input) in
      let low = bit_of d (strobe_pin g Input) in (
        λ kept.
            record {
              strobes = λ l.
                  sym level_is
                  ∙ fall_asks (ibf c g) (ltb x 3) (strobes c.core.word g Input) (fall (eqb x 2) high low) (under_low g (surroundings_of c) x)
                  (levels_on g (surroundings_of c)) d
                  (ap (λ (n : ℕ). ltb n 3) l.lines) (strobes_plain c.core.word g Input ∙ l.takes)
                  (is_fall (eqb x 2) high low (eq-eqb x 2 l.lines) (ap (bit_of c.core.c.outside) (line_own g) ∙ l.high) (ap (bit_of d) (line_own g) ∙ l.low))
                  kept;
              reads = λ r. absurd (omega (arith, r.read));
            },
        λ kept.
            asks_fall (ibf c g) (ltb x 3) (strobes c.core.word g Input) (fall (eqb x 2) high low) (under_low g (surroundings_of c) x)
            (levels_on g (surroundings_of c)) d
            (λ takes falls.
            let is = fall_is (eqb x 2) high low falls in
            level_is
            ∙ kept.strobes
            (record {
              takes = takes_is takes;
              levels = refl;
              lines = eqb-true x 2 is.0;
              high = ap (bit_of c.core.c.outside) (sym (line_own g)) ∙ is.1;
              low = ap (bit_of d) (sym (line_own g)) ∙ is.2;
            })),
      )

  end_minds : Minds (ibf c g) (effect g Input (surroundings_of c) (event 2 x d))
  end_minds =
      minds_when (ibf c g) (not (free c.phase)) _
      (minds_either (ibf c g) (of_mode_word c.phase) cleared_away _ tt
      (minds_when (ibf c g) (strobes c.core.word g Input) _
      (minds_either (ibf c g) (read_runs g c.phase) ended _ tt
      (minds_when (ibf c g) (of_pin c.phase _) _ (minds_either (ibf c g) _ forced_full forced_empty tt tt)))))

  minds_exactly : (k : ℕ) → Exactly k
  unfolding is_kind
  minds_exactly =
      by_kind Exactly
      (neither_asks 0 (λ e. omega (arith, e)) (λ e. omega (arith, e)) tt)
      read_exactly
      (neither_asks 2 (λ e. omega (arith, e)) (λ e. omega (arith, e)) end_minds)
      (neither_asks 3 (λ e. omega (arith, e)) (λ e. omega (arith, e))
      (minds_when (ibf c g) _ _ (minds_when (ibf c g) (strobes c.core.word g Input) nothing tt)))
      levels_exactly
      (λ k other.
      neither_asks k (eqb-false k 5 (no_kind_differs k 5 other refl)) (eqb-false k 1 (no_kind_differs k 1 other refl)) (rw (no_name k x d other) tt))

-- So it is over a history.
pub each_minds : (g : Group) (es : List Event) (c : Chip) → Disciplined g (surroundings_of c) c es ↔ EachMindsIbf g c es
each_minds g [] c = (λ kept. nowhere _, λ each. tt)
each_minds g (e ∷ es) c =
    let here = minds_exactly g c e.first e.second e.kind in
    let later = each_minds g es (stepped c e).state in
    let P : List Event → Event → Type 0 = λ before x. MindsIbf g (run c before) x in (
      λ kept. at_both P e es (here.0 kept.0) (later.0 (rw (surroundings_next_lem c e) kept.1)),
      λ each. (here.1 (at_first P e es each), rw (← surroundings_next_lem c e) (later.1 (at_later P e es each))),
    )

-- The condition at the start, and that of what the discipline forbids.
own_read : (g : Group) (ph : Phase) → read_runs g ph ≡ true → ph ≡ Reading (own_port g)
own_read g Idle runs = absurd (contrary false refl runs)
own_read g (Reading p) runs = ap Reading (eqb-true p _ runs ∙ sym (port_own g))
own_read g (Writing x d) runs = absurd (contrary false refl runs)

pub read_has_found : (g : Group) (c : Chip) → HasFound g c ↔ ReadHasFound g c
read_has_found g c = (
  λ found takes runs. found (rw (strobes_plain c.core.word g Input ∙ takes, runs) (eq-eqb _ _ (port_own g))),
  λ found runs.
      let are = both (strobes c.core.word g Input) _ runs in
      found (sym (strobes_plain c.core.word g Input) ∙ are.0) (own_read g c.phase are.1),
)

pub falls_on : (g : Group) (c : Chip) (f : Fill) (x : ℕ) → StbFalls g c f x ↔ FallsOn g c f x
falls_on g c f x =
    let takes = strobed_by_bits c.core.word g Input in (
      λ k. record { lowers = record { takes = sym takes ∙ k.takes; levels = refl; lines = refl; high = k.high; low = k.low }; fill = k.fill },
      λ k. record { takes = takes ∙ k.lowers.takes; fill = k.fill; high = k.lowers.high; low = k.lowers.low },
    )
