-- Each exception and each condition of the promises is what specs/ says of it in plain numbers and plain bits.
-- Rests on PlainBits, bits' Logic and the bus's ByKind.
use Rattle.std.proofs.Common.{◌≡◌, ◌↔◌, ◌∙◌, refl, ap, sym, Bool, true, false, cond, not, ◌&&◌, ◌||◌, ◌⊎◌, inl, inr, ⊎_elim, ℕ, zero, suc, ◌/◌, ◌%◌, ◌<◌, arith, eqb, eqb-true, eq-eqb}
use mathlib.Core.Bool.{or-true}
use Rattle.bits.specs.Bit.{bit_of}
use Rattle.bits.proofs.Logic.{contrary, both, one_of}
use Rattle.bus.specs.Kinds.{is_kind, no_kind}
use Rattle.bus.proofs.ByKind.{none_above}
use Rattle.bus.specs.declared.Phase.{Phase}
use Rattle.bus.specs.declared.Phase.TheVariants.{Idle, Reading, Writing}
use Rattle.control.specs.declared.Group.{Group}
use Rattle.control.specs.declared.Group.TheVariants.{A, B}
use Rattle.chip.specs.declared.channel.Side.{Side}
use Rattle.chip.specs.declared.channel.Side.TheVariants.{Input, Output}
use Rattle.chip.specs.declared.Chip.{Chip}
use Rattle.chip.specs.Handshakes.{own_address, strobed, line_pin, flag_pin, running}
use Rattle.chip.specs.Levels.{fallen}
use Rattle.laws.specs.Seen.{pin, lowers, makes_anew, commands, puts}
use Rattle.laws.specs.Loads.{comes_under_low}
use Rattle.laws.specs.Kept.{lets_fall}
use Rattle.laws.specs.Halves.{spares}
use Rattle.laws.specs.Exceptions.{own_port, own_line, own_flag, WriteRuns, ModeWordRuns, PutRuns, CyclesMeant, EventsMeant, Lowered, LoweredOutside, UnderLow, LevelsMeant, FlagMovesMeant, WordsMeant}
use Rattle.laws.proofs.PlainBits.{strobed_by_bits}

-- What tests mean, put together.
both_mean : {P Q : Type 0} (a b : Bool) → ((a ≡ true) ↔ P) → ((b ≡ true) ↔ Q) → ((a && b) ≡ true) ↔ (P × Q)
both_mean a b p q = (λ on. let k = both a b on in (p.0 k.0, q.0 k.1), λ k. rw (p.1 k.0, q.1 k.1))

either_means : {P Q : Type 0} (a b : Bool) → ((a ≡ true) ↔ P) → ((b ≡ true) ↔ Q) → ((a || b) ≡ true) ↔ (P ⊎ Q)
either_means a b p q = (
  λ on. one_of a b on (λ x. inl (p.0 x)) (λ y. inr (q.0 y)),
  ⊎_elim (λ x. rw (p.1 x)) (λ y. rw (q.1 y) (or-true a)),
)

number_means : (m n : ℕ) → (eqb m n ≡ true) ↔ (m ≡ n)
number_means m n = (eqb-true m n, eq-eqb m n)

not_means : (a : Bool) → (not a ≡ true) ↔ (a ≡ false)
not_means true = (λ on. sym on, λ off. sym off)
not_means false = (λ on. refl, λ off. refl)

not_false_means : (a : Bool) → (not a ≡ false) ↔ (a ≡ true)
not_false_means true = (λ on. refl, λ off. refl)
not_false_means false = (λ on. sym on, λ off. sym off)

no : {X : Type 0} → false ≡ true → X
no e = absurd (contrary false refl e)

-- Addresses and pins.
pub own_means : (a : ℕ) (g : Group) → (own_address a g ≡ true) ↔ (a ≡ own_port g)
own_means a A = number_means a 0
own_means a B = number_means a 1

line_named : (g : Group) (s : Side) → line_pin g s ≡ own_line g s
line_named A Input = refl
line_named A Output = refl
line_named B s = refl

flag_named : (g : Group) (s : Side) → flag_pin g s ≡ own_flag g s
flag_named A Input = refl
flag_named A Output = refl
flag_named B s = refl

-- Cycles.
writes_mean : (a : ℕ) (ph : Phase) (test : ℕ → Bool)
    → ((x : ℕ) → (test x ≡ true) ↔ (x ≡ a)) → (on : Phase → Bool)
    → (on Idle ≡ false) → ((p : ℕ) → on (Reading p) ≡ false) → ((x d : ℕ) → on (Writing x d) ≡ test x)
    → (on ph ≡ true) ↔ WriteRuns ph a
writes_mean a ph test means on idle reading writing = (go ph, λ (b, e). ap on e ∙ writing a b ∙ (means a).1 refl)
  where
    go : (ph : Phase) → on ph ≡ true → WriteRuns ph a
    go Idle o = absurd (contrary (on Idle) idle o)
    go (Reading p) o = absurd (contrary (on (Reading p)) (reading p) o)
    go (Writing x d) o = (d, ap (λ y. Writing y d) ((means x).0 (sym (writing x d) ∙ o)))

commanding : (ph : Phase) → (commands ph ≡ true) ↔ WriteRuns ph 3
commanding ph = writes_mean 3 ph (λ x. eqb x 3) (λ x. number_means x 3) commands refl (λ p. refl) (λ x d. refl)

making_anew : (ph : Phase) → (makes_anew ph ≡ true) ↔ ModeWordRuns ph
making_anew ph = (go ph, λ (b, (e, seven)). ap makes_anew e ∙ seven)
  where
    go : (ph : Phase) → makes_anew ph ≡ true → ModeWordRuns ph
    go Idle on = no on
    go (Reading p) on = no on
    go (Writing a d) on = let k = both (eqb a 3) (bit_of d 7) on in (d, (ap (λ x. Writing x d) (eqb-true a 3 k.0), k.1))

put_means : (b v : Bool) → (cond v b (not b) ≡ true) ↔ (b ≡ v)
put_means true true = (λ on. refl, λ is. refl)
put_means true false = (λ on. sym on, λ is. sym is)
put_means false true = (λ on. on, λ is. is)
put_means false false = (λ on. refl, λ is. refl)

putting : (ph : Phase) (n : ℕ) (v : Bool) → (puts ph n v ≡ true) ↔ PutRuns ph n v
putting ph n v = (go ph, λ (b, (e, said)). ap (λ ph. puts ph n v) e ∙ (word b).1 said)
  where
    word : (b : ℕ) → ((not (bit_of b 7) && (eqb (b / 2 % 8) n && cond v (bit_of b 0) (not (bit_of b 0)))) ≡ true)
        ↔ ((bit_of b 7 ≡ false) × ((b / 2 % 8 ≡ n) × (bit_of b 0 ≡ v)))
    word b =
        both_mean (not (bit_of b 7)) (eqb (b / 2 % 8) n && cond v (bit_of b 0) (not (bit_of b 0))) (not_means (bit_of b 7))
        (both_mean (eqb (b / 2 % 8) n) (cond v (bit_of b 0) (not (bit_of b 0))) (number_means (b / 2 % 8) n) (put_means (bit_of b 0) v))

    go : (ph : Phase) → puts ph n v ≡ true → PutRuns ph n v
    go Idle on = no on
    go (Reading p) on = no on
    go (Writing a d) on = let k = both (eqb a 3) _ on in (d, (ap (λ x. Writing x d) (eqb-true a 3 k.0), (word d).0 k.1))

own_read : (ph : Phase) (g : Group) → (running ph g Input ≡ true) ↔ (ph ≡ Reading (own_port g))
own_read ph g = (go ph, λ e. ap (λ ph. running ph g Input) e ∙ (own_means (own_port g) g).1 refl)
  where
    go : (ph : Phase) → running ph g Input ≡ true → ph ≡ Reading (own_port g)
    go Idle on = no on
    go (Reading p) on = ap Reading ((own_means p g).0 on)
    go (Writing a d) on = no on

own_write : (ph : Phase) (g : Group) → (running ph g Output ≡ true) ↔ WriteRuns ph (own_port g)
own_write ph g = writes_mean (own_port g) ph (λ x. own_address x g) (λ x. own_means x g) (λ ph. running ph g Output) refl (λ p. refl) (λ x d. refl)

-- A half is spared by every cycle but its own.
spares_others : (ph : Phase) (g : Group) (s : Side) → spares ph g s ≡ not (running ph g s)
spares_others Idle g Input = refl
spares_others Idle g Output = refl
spares_others (Reading p) g Input = refl
spares_others (Reading p) g Output = refl
spares_others (Writing a d) g Input = refl
spares_others (Writing a d) g Output = refl

dropped_means : {P : Type 0} (ph : Phase) (g : Group) (s : Side) → ((running ph g s ≡ true) ↔ P) → (spares ph g s ≡ false) ↔ P
dropped_means ph g s own =
    let not_spared = not_false_means (running ph g s) in
    (λ off. own.0 (not_spared.0 (sym (spares_others ph g s) ∙ off)), λ p. spares_others ph g s ∙ not_spared.1 (own.1 p))

pub cycles_meant : (ph : Phase) → CyclesMeant ph
cycles_meant ph = record {
  commanding = commanding ph;
  making_anew = making_anew ph;
  putting = putting ph;
  own_read = own_read ph;
  own_write = own_write ph;
  input_dropped = λ g. dropped_means ph g Input (own_read ph g);
  output_dropped = λ g. dropped_means ph g Output (own_write ph g);
}

-- Events, by their kinds.
none_such : (k : ℕ) → (no_kind k ≡ true) ↔ ((k ≡ 4) ⊎ (5 < k))
unfolding is_kind
none_such zero = (λ on. no on, ⊎_elim (λ e. absurd (omega (arith, e))) (λ h. absurd (omega (arith, h))))
none_such (suc zero) = (λ on. no on, ⊎_elim (λ e. absurd (omega (arith, e))) (λ h. absurd (omega (arith, h))))
none_such (suc (suc zero)) = (λ on. no on, ⊎_elim (λ e. absurd (omega (arith, e))) (λ h. absurd (omega (arith, h))))
none_such (suc (suc (suc zero))) = (λ on. no on, ⊎_elim (λ e. absurd (omega (arith, e))) (λ h. absurd (omega (arith, h))))
none_such (suc (suc (suc (suc zero)))) = (λ on. inl refl, λ is. refl)
none_such (suc (suc (suc (suc (suc zero))))) = (λ on. no on, ⊎_elim (λ e. absurd (omega (arith, e))) (λ h. absurd (omega (arith, h))))
none_such (suc (suc (suc (suc (suc (suc k)))))) = (λ on. inr (omega arith), λ is. rw (none_above (suc (suc (suc (suc (suc (suc k)))))) (omega arith)))

pub events_meant : (ph : Phase) (k : ℕ) → EventsMeant ph k
events_meant ph k = record {
  moving_enables = either_means (eqb k 0) (eqb k 2 && commands ph) (number_means k 0) (both_mean (eqb k 2) (commands ph) (number_means k 2) (commanding ph));
  reaching_all = either_means (eqb k 0) (eqb k 2 && makes_anew ph) (number_means k 0) (both_mean (eqb k 2) (makes_anew ph) (number_means k 2) (making_anew ph));
  reading_control = λ x. both_mean (eqb k 1) (eqb x 3) (number_means k 1) (number_means x 3);
  none_such = none_such k;
}

-- Levels. A line falls where it was high and comes low on port C.
fall_means : (x d m n : ℕ) (high : Bool) → m ≡ n → ((eqb x 2 && (high && not (bit_of d m))) ≡ true) ↔ ((x ≡ 2) × ((high ≡ true) × (bit_of d n ≡ false)))
fall_means x d m n high same =
    rw (same)
    (both_mean (eqb x 2) (high && not (bit_of d n)) (number_means x 2)
    (both_mean high (not (bit_of d n)) (λ on. on, λ on. on) (not_means (bit_of d n))))

module _ (c : Chip) (g : Group) (x d : ℕ) where
  lowering : (s : Side) → (lowers c g s x d ≡ true) ↔ Lowered c g s x d
  lowering s =
      let means = fall_means x d (line_pin g s) (own_line g s) (pin c (line_pin g s)) (line_named g s) in
      let shown : pin c (line_pin g s) ≡ pin c (own_line g s) = ap (pin c) (line_named g s) in (
        λ on. let k = means.0 on in record { port = k.0; high = sym shown ∙ k.1.0; low = k.1.1 },
        λ k. means.1 (k.port, (shown ∙ k.high, k.low)),
      )

  falling : (s : Side) → (lets_fall c g s x d ≡ true) ↔ LoweredOutside c g s x d
  unfolding fallen
  falling s =
      let means = fall_means x d (line_pin g s) (own_line g s) (bit_of c.core.c.outside (line_pin g s)) (line_named g s) in
      let stands : bit_of c.core.c.outside (line_pin g s) ≡ bit_of c.core.c.outside (own_line g s) = ap (bit_of c.core.c.outside) (line_named g s) in (
        λ on. let k = means.0 on in record { port = k.0; high = sym stands ∙ k.1.0; low = k.1.1 },
        λ k. means.1 (k.port, (stands ∙ k.high, k.low)),
      )

  under_low : (comes_under_low c g x ≡ true) ↔ UnderLow c g x
  under_low =
      let means = both_mean (own_address x g) (not (pin c (line_pin g Input))) (own_means x g) (not_means (pin c (line_pin g Input))) in
      let shown : pin c (line_pin g Input) ≡ pin c (own_line g Input) = ap (pin c) (line_named g Input) in
      (λ on. let k = means.0 on in record { port = k.0; low = sym shown ∙ k.1 }, λ k. means.1 (k.port, shown ∙ k.low))

  pub levels_meant : LevelsMeant c g x d
  levels_meant = record {
    lowering = lowering;
    falling = falling;
    loading =
        let on_side = strobed_by_bits c.core.word g Input in
        both_mean (strobed c.core.word g Input) (lowers c g Input x d || comes_under_low c g x) (λ on. sym on_side ∙ on, λ on. on_side ∙ on)
        (either_means (lowers c g Input x d) (comes_under_low c g x) (lowering Input) under_low);
  }

-- The flags.
put_flag : (ph : Phase) (g : Group) (s : Side) (v : Bool) → (puts ph (flag_pin g s) v ≡ true) ↔ PutRuns ph (own_flag g s) v
put_flag ph g s v = rw (flag_named g s) (putting ph (own_flag g s) v)

pub flag_moves_meant : (c : Chip) (g : Group) (k x d : ℕ) → FlagMovesMeant c g k x d
flag_moves_meant c g k x d = record {
  ibf_falls =
      either_means (eqb k 0) _ (number_means k 0)
      (both_mean (eqb k 2) _ (number_means k 2)
      (either_means (makes_anew c.phase) _ (making_anew c.phase)
      (either_means (running c.phase g Input) _ (own_read c.phase g) (put_flag c.phase g Input false))));
  ibf_rises =
      either_means _ _ (both_mean (eqb k 5) _ (number_means k 5) (lowering c g x d Input))
      (both_mean (eqb k 2) _ (number_means k 2) (put_flag c.phase g Input true));
  obf_falls =
      both_mean (eqb k 2) _ (number_means k 2)
      (either_means (running c.phase g Output) _ (own_write c.phase g) (put_flag c.phase g Output false));
  obf_rises =
      either_means (eqb k 0) _ (number_means k 0)
      (either_means _ _
      (both_mean (eqb k 2) _ (number_means k 2) (either_means (makes_anew c.phase) _ (making_anew c.phase) (put_flag c.phase g Output true)))
      (both_mean (eqb k 5) _ (number_means k 5) (lowering c g x d Output)));
}

-- Mode words.
pub words_meant : (w : ℕ) → WordsMeant w
words_meant w = record {
  a_goes_out = both_mean (not (bit_of w 6)) (not (bit_of w 4)) (not_means (bit_of w 6)) (not_means (bit_of w 4));
  b_goes_out = not_means (bit_of w 1);
  a_goes_in = both_mean (not (bit_of w 6)) (bit_of w 4) (not_means (bit_of w 6)) (λ on. on, λ on. on);
  b_goes_in = (λ on. on, λ on. on);
  a_shakes = either_means (bit_of w 6) (bit_of w 5) (λ on. on, λ on. on) (λ on. on, λ on. on);
  b_shakes = (λ on. on, λ on. on);
}
