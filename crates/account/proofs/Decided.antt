-- Each byte has the fate of the event that decided it.
-- Rests on Columns, bits' Logic, and fates' PinNamed, Tables, Shapes and Story.
use Rattle.std.proofs.Common.{◌≡◌, ◌∙◌, refl, ap, sym, subst, Bool, true, false, cond, not, List, [], ◌∷◌, ◌++◌, ℕ, suc, ◌+◌, ◌/◌, ◌%◌, arith, eqb, eqb-true}
use borrow.Author.Tests.{not-true}
use Rattle.bits.specs.Bit.{bit_of}
use Rattle.bits.proofs.Logic.{contrary, both}
use Rattle.bus.specs.Event.{Event}
use Rattle.bus.specs.declared.Phase.{Phase}
use Rattle.bus.specs.declared.Phase.TheVariants.{Idle, Reading, Writing}
use Rattle.control.specs.declared.Group.{Group}
use Rattle.control.specs.declared.Group.TheVariants.{A, B}
use Rattle.chip.specs.declared.channel.Side.{Side}
use Rattle.chip.specs.declared.channel.Side.TheVariants.{Input, Output}
use Rattle.chip.specs.declared.channel.Fill.{Fill}
use Rattle.chip.specs.declared.channel.Fill.TheVariants.{Empty, Waiting, Fetching}
use Rattle.chip.specs.declared.Edition.{Edition}
use Rattle.chip.specs.declared.Chip.{Chip}
use Rattle.chip.specs.declared.Levels.{Levels}
use Rattle.chip.specs.State.{channel_of}
use Rattle.fates.specs.Numbers.{own_port, own_line, own_flag}
use Rattle.fates.specs.Kinds.{Kind, reset, cycle_ended, unknown, read_begun, write_begun, new_levels, kind_of, accepts}
use Rattle.fates.specs.Surroundings.{Surroundings, at_power_up, of_mode_word, brought, surroundings_next}
use Rattle.fates.specs.Effects.{Effect, offered, followed, taken, ended, cleared_away, forced_full, forced_empty, nothing, port_number, levels_on, strobe_pin, full_pin, strobes, read_runs, write_runs, falls, under_low, of_pin, when, forced, own_effect, clears, effect_of, effect, effects}
use Rattle.fates.specs.Bytes.{Fate, handed_over, overwritten, swallowed, cleared, struck, waiting, Offer, offered_at, same, bytes_of}
use Rattle.fates.specs.Promise.{surroundings_of, Each, new_bytes, old_byte}
use Rattle.fates.proofs.PinNamed.{pin_same}
use Rattle.fates.proofs.Tables.{strobes_same}
use Rattle.fates.proofs.Shapes.{shape_of, fate_by, fill_after, held_after}
use Rattle.fates.proofs.Story.{story, decided_each, story_step}
use Rattle.account.specs.Acts.{Act, anew, read_begins, read_ends, written, levels, ending, act_of, act}
use Rattle.account.specs.Acts
use Rattle.account.specs.Account.{strobed}
use Rattle.account.specs.Decided.{Lowers, Decides, read, acknowledged, strobed_again, written_again, read_over, wiped, ibf_reset, obf_set, DecidedAt, EachDecided}
use Rattle.account.proofs.Columns.{takes_same, gives_same}

-- The table of the channels is that of the history.
port_is : (g : Group) → port_number g ≡ own_port g
port_is A = refl
port_is B = refl

line_is : (g : Group) (s : Side) → strobe_pin g s ≡ own_line g s
line_is A Input = refl
line_is A Output = refl
line_is B Input = refl
line_is B Output = refl

flag_is : (g : Group) (s : Side) → full_pin g s ≡ own_flag g s
flag_is A Input = refl
flag_is A Output = refl
flag_is B Input = refl
flag_is B Output = refl

strobed_is : (a : Surroundings) (g : Group) (s : Side) → strobes a.word g s ≡ strobed a g s
strobed_is a g Input = strobes_same a.word g Input ∙ sym (takes_same a.word g)
strobed_is a g Output = strobes_same a.word g Output ∙ sym (gives_same a.word g)

-- The fate that an effect gives, where it gives one.
abbrev given : Effect → Fate
given d = fate_by (shape_of d)

module _ (g : Group) (a : Surroundings) where
  -- An act is what decides, where an effect is decisive.
  abbrev Right : Side → Act → Effect → Type 0
  Right s t d = same waiting (given d) ≡ false → Decides g a t s (given d)

  none_decides : (s : Side) (t : Act) → Right s t nothing
  none_decides s t decisive = absurd (contrary true decisive refl)

  under : (s : Side) (t : Act) (b : Bool) (d : Effect) → (b ≡ true → Right s t d) → Right s t (when b d)
  under s t true d right = right refl
  under s t false d right = none_decides s t

  -- Where the mode word strobes the channel.
  strobed_so : (s : Side) (t : Act) (d : Effect) → (strobed a g s ≡ true → Right s t d) → Right s t (when (strobes a.word g s) d)
  strobed_so s t d right = under s t (strobes a.word g s) d (λ on. right (sym (strobed_is a g s) ∙ on))

  -- The levels lower its line.
  lowered : (s : Side) (x d : ℕ) → falls g s a x d ≡ true → (x ≡ 2) × Lowers a (own_line g s) d
  lowered s x d fell =
      let lines = both (eqb x 2) _ fell in
      let edge = both (bit_of a.levels_c (strobe_pin g s)) _ lines.1 in (
        eqb-true x 2 lines.0,
        record {
          high = ap (bit_of a.levels_c) (sym (line_is g s)) ∙ edge.0;
          low = ap (bit_of d) (sym (line_is g s)) ∙ not-true (bit_of d (strobe_pin g s)) edge.1;
        },
      )

  -- Bit set/reset names its flag.
  named : (s : Side) (x d : ℕ) → of_pin (Writing x d) (full_pin g s) ≡ true → (x ≡ 3) × (d / 2 % 8 ≡ own_flag g s)
  named s x d names =
      let control = both (eqb x 3) _ names in
      let pin = both (not (bit_of d 7)) _ control.1 in
      (eqb-true x 3 control.0, sym (pin_same d) ∙ eqb-true _ _ pin.1 ∙ flag_is g s)

  force_input : (x d : ℕ) → strobed a g Input ≡ true → Right Input (written x d) (forced g Input (Writing x d))
  force_input x d on =
      under Input (written x d) (of_pin (Writing x d) (full_pin g Input)) _
      (λ names. go (named Input x d names) (bit_of d 0) refl)
    where
      go : (x ≡ 3) × (d / 2 % 8 ≡ own_flag g Input) → (b : Bool) → bit_of d 0 ≡ b → Right Input (written x d) (cond b forced_full forced_empty)
      go at true is decisive = absurd (contrary true decisive refl)
      go at false is decisive = ibf_reset on (ap (λ x. written x d) at.0) at.1 is

  force_output : (x d : ℕ) → strobed a g Output ≡ true → Right Output (written x d) (forced g Output (Writing x d))
  force_output x d on =
      under Output (written x d) (of_pin (Writing x d) (full_pin g Output)) _
      (λ names. go (named Output x d names) (bit_of d 0) refl)
    where
      go : (x ≡ 3) × (d / 2 % 8 ≡ own_flag g Output) → (b : Bool) → bit_of d 0 ≡ b
          → Right Output (written x d) (cond (not b) forced_full forced_empty)
      go at true is decisive = obf_set on (ap (λ x. written x d) at.0) at.1 is
      go at false is decisive = absurd (contrary true decisive refl)

  right_own : (s : Side) (k : Kind) → clears a.phase k ≡ false → strobed a g s ≡ true → Right s (act_of a.phase k) (own_effect g s a k)
  right_own s reset none on = absurd (contrary true none refl)
  right_own Input (read_begun x) none on =
      under Input _ (eqb x (port_number g)) taken (λ at decisive. read on (ap read_begins (eqb-true x _ at ∙ port_is g)))
  right_own Output (read_begun x) none on = none_decides Output _
  right_own Input cycle_ended none on = end_input a.phase none
    where
      end_input : (ph : Phase) → of_mode_word ph ≡ false → Right Input (ending ph) (cond (read_runs g ph) ended (forced g Input ph))
      end_input Idle none = none_decides Input _
      end_input (Reading x) none = go (eqb x (port_number g)) refl
        where
          go : (b : Bool) → eqb x (port_number g) ≡ b → Right Input (read_ends x) (cond b ended nothing)
          go true at = λ decisive. read_over on (ap read_ends (eqb-true x _ at ∙ port_is g))
          go false at = none_decides Input _
      end_input (Writing x d) none = rw (none) (force_input x d on)
  right_own Output cycle_ended none on = end_output a.phase none
    where
      end_output : (ph : Phase) → of_mode_word ph ≡ false
          → Right Output (ending ph) (cond (write_runs g ph) (offered (brought ph)) (forced g Output ph))
      end_output Idle none = none_decides Output _
      end_output (Reading x) none = none_decides Output _
      end_output (Writing x d) none = rw (none) (go (eqb x (port_number g)) refl)
        where
          go : (b : Bool) → eqb x (port_number g) ≡ b → Right Output (written x d) (cond b (offered d) (forced g Output (Writing x d)))
          go true at = λ decisive. written_again on (ap (λ x. written x d) (eqb-true x _ at ∙ port_is g))
          go false at = force_output x d on
  right_own s (write_begun x d) none on = none_decides s _
  right_own Input (new_levels x d) none on = go (falls g Input a x d) refl
    where
      go : (b : Bool) → falls g Input a x d ≡ b → Right Input (levels x d) (cond b (offered (levels_on g a)) (when (under_low g a x) (followed d)))
      go true fell = λ decisive. let at = lowered Input x d fell in strobed_again on (ap (λ x. levels x d) at.0) at.1
      go false fell = under Input _ (under_low g a x) (followed d) (λ low decisive. absurd (contrary true decisive refl))
  right_own Output (new_levels x d) none on =
      under Output _ (falls g Output a x d) taken
      (λ fell decisive. let at = lowered Output x d fell in acknowledged on (ap (λ x. levels x d) at.0) at.1)
  right_own s unknown none on = none_decides s _

  -- Where all is cleared.
  anew_clears : (k : Kind) → clears a.phase k ≡ true → act_of a.phase k ≡ anew
  anew_clears reset all = refl
  anew_clears (read_begun x) all = absurd (contrary false refl all)
  anew_clears cycle_ended all = ends a.phase all
    where
      ends : (ph : Phase) → of_mode_word ph ≡ true → ending ph ≡ anew
      ends Idle all = absurd (contrary false refl all)
      ends (Reading x) all = absurd (contrary false refl all)
      ends (Writing x d) all = rw (all)
  anew_clears (write_begun x d) all = absurd (contrary false refl all)
  anew_clears (new_levels x d) all = absurd (contrary false refl all)
  anew_clears unknown all = absurd (contrary false refl all)

  right_kind : (s : Side) (k : Kind) → Right s (act_of a.phase k) (effect_of g s a k)
  right_kind s k = go (clears a.phase k) refl
    where
      go : (b : Bool) → clears a.phase k ≡ b → Right s (act_of a.phase k) (cond b cleared_away (when (strobes a.word g s) (own_effect g s a k)))
      go true all = λ decisive. wiped (anew_clears k all)
      go false none = strobed_so s _ (own_effect g s a k) (right_own s k none)

  pub right : (s : Side) (e : Event) → Right s (act a e) (effect g s a e)
  right s e = go (accepts a.edition a.phase (kind_of e))
    where
      go : (ok : Bool) → Right s (cond ok (act_of a.phase (kind_of e)) Acts.nothing) (when ok (effect_of g s a (kind_of e)))
      go true = right_kind s (kind_of e)
      go false = none_decides s Acts.nothing

module _ (g : Group) (s : Side) where
  -- What is so of the event at once is so of the history's first place,
  at_first : (a : Surroundings) (e : Event) (es : List Event) (f : Fate) → same waiting f ≡ false → Decides g a (act a e) s f
      → DecidedAt g s a (e ∷ es) f 1
  at_first a e es handed_over decisive so = so
  at_first a e es overwritten decisive so = so
  at_first a e es swallowed decisive so = so
  at_first a e es cleared decisive so = so
  at_first a e es struck decisive so = so
  at_first a e es waiting decisive so = absurd (contrary true decisive refl)

  -- and what is so of a later place is so of the next one of the whole.
  one_later : (a : Surroundings) (e : Event) (es : List Event) (f : Fate) (j : ℕ) → DecidedAt g s (surroundings_next a e) es f (suc j)
      → DecidedAt g s a (e ∷ es) f (suc (suc j))
  one_later a e es handed_over j so = so
  one_later a e es overwritten j so = so
  one_later a e es swallowed j so = so
  one_later a e es cleared j so = so
  one_later a e es struck j so = so
  one_later a e es waiting j so = ap suc so

  -- Along a history, with the first event at place n.
  module _ (P : Fate → ℕ → Type 0) where
    along : (a : Surroundings) (f : Fill) (h : Offer) (n : ℕ) (es : List Event) → ((j : ℕ) (x : Fate) → DecidedAt g s a es x (suc j) → P x (n + j))
        → Each (λ b. P b.outcome.fate b.outcome.place) (story s f h n (effects g s a es))
    along a Empty h n [] lift = tt
    along a Waiting h n [] lift = (subst (P waiting) (omega arith) (lift 0 waiting refl), tt)
    along a Fetching h n [] lift = tt
    along a f h n (e ∷ es) lift =
        let d = shape_of (effect g s a e) in
        let next = surroundings_next a e in
        rw (story_step s f h n (effect g s a e) (effects g s next es))
        (decided_each (λ b. P b.outcome.fate b.outcome.place) f h n d (story s (fill_after s f d) (held_after s f h n d) (suc n) (effects g s next es))
        (λ waits decisive. subst (P (fate_by d)) (omega arith) (lift 0 (fate_by d) (at_first a e es (fate_by d) decisive (right g a s e decisive))))
        (along next (fill_after s f d) (held_after s f h n d) (suc n) es
        (λ j x so. subst (P x) (omega arith) (lift (suc j) x (one_later a e es x j so)))))

  -- From the start of a history, whose first event is at place 1.
  from_first : (a : Surroundings) (f : Fill) (h : Offer) (es : List Event) → EachDecided g s a es (story s f h 1 (effects g s a es))
  from_first a f h es = along (λ x n. DecidedAt g s a es x n) a f h 1 es (λ j x so. subst (DecidedAt g s a es x) (omega arith) so)

  pub from_chip : (c : Chip) (es : List Event) → EachDecided g s (surroundings_of c) es (old_byte g s c es ++ new_bytes g s c es)
  from_chip c es = let ch = channel_of c.core g s in from_first (surroundings_of c) ch.fill (offered_at 0 ch.latch) es

  pub from_power_up_lem : (ed : Edition) (l : Levels) (es : List Event) → EachDecided g s (at_power_up ed l) es (bytes_of g s ed l es)
  from_power_up_lem ed l es = from_first (at_power_up ed l) Empty (offered_at 0 0) es
