-- What an event is to the channels of a group: nothing where it is the other group's, and else the same without the other group's events.
-- Rests on Alike, Pins, Places, Bus, bits' Logic, and fates' PinNamed and Tables.
use Rattle.std.proofs.Common.{◌≡◌, ◌∙◌, refl, ap₂, Bool, true, false, cond, not, ◌&&◌, ℕ, ◌/◌, ◌%◌, eqb, eqb-true}
use mathlib.Core.Bool.{and-false, and-not_self}
use Rattle.bits.specs.Bit.{bit_of}
use Rattle.bits.proofs.Logic.{contrary, turned}
use Rattle.bus.specs.Event.{Event}
use Rattle.bus.specs.declared.Phase.{Phase}
use Rattle.bus.specs.declared.Phase.TheVariants.{Idle, Reading, Writing}
use Rattle.control.specs.declared.Group.{Group}
use Rattle.control.specs.declared.Group.TheVariants.{A, B}
use Rattle.chip.specs.declared.channel.Side.{Side}
use Rattle.chip.specs.declared.channel.Side.TheVariants.{Input, Output}
use Rattle.fates.specs.Kinds.{Kind, reset, cycle_ended, unknown, read_begun, write_begun, new_levels, kind_of, accepts}
use Rattle.fates.specs.Surroundings.{Surroundings, of_mode_word}
use Rattle.fates.specs.Effects.{forced_full, forced_empty, nothing, levels_on, strobe_pin, full_pin, strobes, read_runs, write_runs, pin_named, says_full, falls, under_low, when, forced, own_effect, clears, effect}
use Rattle.fates.proofs.PinNamed.{pin_same}
use Rattle.fates.proofs.Tables as tables
use Rattle.groups.specs.Belongings.{its_pin}
use Rattle.groups.specs.Doings.{other, its_cycle, is_of}
use Rattle.groups.specs.Alone.{in_the_way}
use Rattle.groups.proofs.Alike.{SameAt, line_same}
use Rattle.groups.proofs.Pins.{acted_apart}
use Rattle.groups.proofs.Places.{read_away, write_away, sets_bit_lem, levels_away, levels_either}
use Rattle.groups.proofs.Bus.{freed, not_its_lem, accepted_beside}

-- STB and ACK come in at the group's own pins, in the history's words too.
strobe_same : (g : Group) (x y : ℕ) → SameAt g x y → (s : Side) → bit_of x (strobe_pin g s) ≡ bit_of y (strobe_pin g s)
strobe_same g x y same s = rw (tables.line_same g s) (line_same g x y same s)

when_nothing : (b : Bool) → when b nothing ≡ nothing
when_nothing true = refl
when_nothing false = refl

module _ (g : Group) where
  -- The other group's cycle is none of the group's port, and no mode word.
  no_read : (ph : Phase) → its_cycle (other g) ph ≡ true → read_runs g ph ≡ false
  no_read Idle its = refl
  no_read (Reading x) its = read_away g x its
  no_read (Writing x d) its = refl

  no_write : (ph : Phase) → its_cycle (other g) ph ≡ true → write_runs g ph ≡ false
  no_write Idle its = refl
  no_write (Reading x) its = refl
  no_write (Writing x d) its = write_away g x d its

  -- It forces no flag of the group, which stands at the group's own pin.
  full_its : (s : Side) → its_pin g (full_pin g s) ≡ true
  full_its s = go g s
    where
      go : (g : Group) (s : Side) → its_pin g (full_pin g s) ≡ true
      go A Input = refl
      go A Output = refl
      go B Input = refl
      go B Output = refl

  no_force : (s : Side) (ph : Phase) → its_cycle (other g) ph ≡ true → forced g s ph ≡ nothing
  no_force s Idle its = refl
  no_force s (Reading x) its = refl
  no_force s (Writing x d) its = go (eqb x 3) refl
    where
      go : (three : Bool) → eqb x 3 ≡ three
          → when (three && (not (bit_of d 7) && eqb (pin_named d) (full_pin g s))) (cond (says_full s (bit_of d 0)) forced_full forced_empty) ≡ nothing
      go true at =
          let apart = acted_apart g (d / 2 % 8) (full_pin g s) (sets_bit_lem (other g) x d its (eqb-true x 3 at)).1 (full_its s) in
          rw (pin_same d, turned (d / 2 % 8) (full_pin g s), apart, and-false (not (bit_of d 7)))
      go false at = refl

  no_mode_word : (ph : Phase) → its_cycle (other g) ph ≡ true → of_mode_word ph ≡ false
  no_mode_word Idle its = refl
  no_mode_word (Reading x) its = refl
  no_mode_word (Writing x d) its = go (eqb x 3) refl
    where
      go : (three : Bool) → eqb x 3 ≡ three → (three && bit_of d 7) ≡ false
      go true at = (sets_bit_lem (other g) x d its (eqb-true x 3 at)).0
      go false at = refl

module _ (g : Group) (a : Surroundings) where
  -- Its levels lower no line of the group, and do not come onto its port.
  no_line_falls : (s : Side) (x d : ℕ) → is_of (other g) a (new_levels x d) ≡ true → falls g s a x d ≡ false
  no_line_falls s x d its =
      levels_either g a x d its
      (λ lines. rw (lines))
      (λ lines same. rw (lines, strobe_same g d a.levels_c same s) (and-not_self (bit_of a.levels_c (strobe_pin g s))))

  none_come : (x d : ℕ) → is_of (other g) a (new_levels x d) ≡ true → under_low g a x ≡ false
  none_come x d its = rw (levels_away g a x d its)

  quiet_own : (s : Side) (k : Kind) → is_of (other g) a k ≡ true → own_effect g s a k ≡ nothing
  quiet_own s reset its = refl
  quiet_own Input (read_begun x) its = rw (read_away g x its)
  quiet_own Output (read_begun x) its = refl
  quiet_own Input cycle_ended its = rw (no_read g a.phase its, no_force g Input a.phase its)
  quiet_own Output cycle_ended its = rw (no_write g a.phase its, no_force g Output a.phase its)
  quiet_own s (write_begun x d) its = refl
  quiet_own Input (new_levels x d) its = rw (no_line_falls Input x d its, none_come x d its)
  quiet_own Output (new_levels x d) its = rw (no_line_falls Output x d its)
  quiet_own s unknown its = refl

  clears_none : (k : Kind) → is_of (other g) a k ≡ true → clears a.phase k ≡ false
  clears_none reset its = absurd (contrary false refl its)
  clears_none (read_begun x) its = refl
  clears_none cycle_ended its = no_mode_word g a.phase its
  clears_none (write_begun x d) its = refl
  clears_none (new_levels x d) its = refl
  clears_none unknown its = refl

  -- So the other group's event is nothing to a channel.
  pub quiet : (s : Side) (e : Event) → is_of (other g) a (kind_of e) ≡ true → effect g s a e ≡ nothing
  quiet s e its =
      rw (clears_none (kind_of e) its, quiet_own s (kind_of e) its, when_nothing (strobes a.word g s))
      (when_nothing (accepts a.edition a.phase (kind_of e)))

-- Surroundings of a history without the other group's events beside those of the whole: what a channel of the group can tell of them.
pub record Around (g : Group) (a' a : Surroundings) : Type 0 where
  pub edition : a'.edition ≡ a.edition
  pub phase : a'.phase ≡ freed (other g) a.phase
  pub word : a'.word ≡ a.word
  pub port : levels_on g a' ≡ levels_on g a
  pub lines : SameAt g a'.levels_c a.levels_c

module _ (g : Group) (a' a : Surroundings) (k : Around g a' a) where
  -- An event that is not the other group's is the same to a channel.
  falls_same : (s : Side) (x d : ℕ) → falls g s a' x d ≡ falls g s a x d
  falls_same s x d = rw (strobe_same g _ _ k.lines s)

  under_same : (x : ℕ) → under_low g a' x ≡ under_low g a x
  under_same x = rw (strobe_same g _ _ k.lines Input)

  own_same : (s : Side) (e : Kind) → is_of (other g) a e ≡ false → own_effect g s a' e ≡ own_effect g s a e
  own_same s reset others = refl
  own_same Input (read_begun x) others = refl
  own_same Output (read_begun x) others = refl
  own_same Input cycle_ended others = rw (k.phase ∙ not_its_lem (other g) a.phase others)
  own_same Output cycle_ended others = rw (k.phase ∙ not_its_lem (other g) a.phase others)
  own_same s (write_begun x d) others = refl
  own_same Input (new_levels x d) others = rw (falls_same Input x d, under_same x, k.port)
  own_same Output (new_levels x d) others = rw (falls_same Output x d)
  own_same s unknown others = refl

  clears_same : (e : Kind) → is_of (other g) a e ≡ false → clears a'.phase e ≡ clears a.phase e
  clears_same reset others = refl
  clears_same (read_begun x) others = refl
  clears_same cycle_ended others = rw (k.phase ∙ not_its_lem (other g) a.phase others)
  clears_same (write_begun x d) others = refl
  clears_same (new_levels x d) others = refl
  clears_same unknown others = refl

  pub same_effect : (s : Side) (e : Event) → is_of (other g) a (kind_of e) ≡ false → in_the_way (other g) a (kind_of e) ≡ false
      → effect g s a' e ≡ effect g s a e
  same_effect s e others clear =
      let ok = ap₂ (λ ed ph. accepts ed ph (kind_of e)) k.edition k.phase ∙ accepted_beside (other g) a (kind_of e) others clear in
      cc (ok, clears_same (kind_of e) others, own_same s (kind_of e) others, k.word)
