-- Where the history says that an event takes a byte from a channel, the read answers the channel's latch, or the chip drives the port
-- with it.
-- Rests on Tables, Accepted, Shapes, Followed, bits' Logic, the bus's ByKind, chip's LevelsAfter, Strobed and Outcome, and laws' OwnPort
-- and Falls.
use Rattle.std.proofs.Common.{◌≡◌, ◌∙◌, refl, ap, sym, subst, Bool, true, false, cond, ℕ, T, eqb}
use borrow.Author.Tests.{not-true}
use Rattle.bits.specs.Bit.{bit_of}
use Rattle.bits.proofs.Logic.{both}
use Rattle.bus.proofs.ByKind.{by_kind}
use Rattle.bus.specs.Event.{Event, event}
use Rattle.control.specs.declared.Group.{Group}
use Rattle.control.specs.Mode.{strobed_output}
use Rattle.bus.specs.Device.{Given}
use Rattle.chip.specs.declared.channel.Side.{Side}
use Rattle.chip.specs.declared.channel.Side.TheVariants.{Input, Output}
use Rattle.chip.specs.declared.Chip.{Chip}
use Rattle.chip.specs.State.{port_of}
use Rattle.chip.specs.Levels.{after_levels}
use Rattle.chip.proofs.LevelsAfter.{levels_word, levels_lines}
use Rattle.chip.specs.Reads.{read_of}
use Rattle.chip.specs.Pins.{drives_port}
use Rattle.chip.proofs.Strobed.{strobed_reads, acknowledge_drives, driven_shows}
use Rattle.chip.proofs.Outcome.{step_accepts}
use Rattle.laws.proofs.OwnPort.{own_pins, own_read}
use Rattle.laws.proofs.Falls.{output_latch_stays}
use Rattle.fates.specs.Kinds.{kind_of, accepts}
use Rattle.fates.specs.Surroundings.{brought}
use Rattle.fates.specs.Effects.{Effect, offered, followed, taken, ended, cleared_away, forced_full, forced_empty, port_number, levels_on, strobe_pin, full_pin, strobes, read_runs, write_runs, of_pin, says_full, falls, under_low, when, own_effect, clears, effect}
use Rattle.fates.specs.Bytes.{handed_over, same}
use Rattle.fates.specs.Promise.{surroundings_of, Shows}
use Rattle.fates.proofs.Tables.{own_same, own_port_lem, line_same, strobes_same}
use Rattle.fates.proofs.Accepted.{no_kind_accepted, accepted_number}
use Rattle.fates.proofs.Shapes.{shape_of, fate_by}
use Rattle.fates.proofs.Followed.{after, latch}

-- An effect takes a byte, where one waits.
abbrev pub takes : Effect → Bool
takes d = same handed_over (fate_by (shape_of d))

-- What holds where a byte is taken.
abbrev WhereTaken : Type 0 → Effect → Type 0
WhereTaken P d = T (takes d) → P

-- An event has its effect only under its conditions.
under_condition : (P : Type 0) (b : Bool) (d : Effect) → (b ≡ true → WhereTaken P d) → WhereTaken P (when b d)
under_condition P true d h = h refl
under_condition P false d h = λ t. absurd t

unless_cleared : (P : Type 0) (b : Bool) (d : Effect) → WhereTaken P d → WhereTaken P (cond b cleared_away d)
unless_cleared P true d h = λ t. absurd t
unless_cleared P false d h = h

-- The end of a cycle takes none, nor does a flag that is forced.
ends_take_none : (P : Type 0) (runs own says : Bool) (d : Effect) → takes d ≡ false → WhereTaken P (cond runs d (when own (cond says forced_full forced_empty)))
ends_take_none P true own says d none = λ t. absurd (subst T none t)
ends_take_none P false true true d none = λ t. absurd t
ends_take_none P false true false d none = λ t. absurd t
ends_take_none P false false says d none = λ t. absurd t

-- Levels take no byte from an input.
levels_take_none : (P : Type 0) (fell low : Bool) (v u : ℕ) → WhereTaken P (cond fell (offered v) (when low (followed u)))
levels_take_none P true low v u = λ t. absurd t
levels_take_none P false low v u = under_condition P low (followed u) (λ e t. absurd t)

module _ (c : Chip) (g : Group) where
  abbrev word : ℕ
  word = c.core.word

  -- The channel is strobed, and the event shows its latch.
  abbrev pub Takes : Side → Event → Type 0
  Takes s e = (strobes word g s ≡ true) × Shows g s c e (latch g s c)

  -- So it is wherever an accepted event takes a byte from a strobed channel.
  abbrev Shown : Side → Event → Type 0
  Shown s e = accepts c.edition c.phase (kind_of e) ≡ true → strobes word g s ≡ true → WhereTaken (Takes s e) (own_effect g s (surroundings_of c) (kind_of e))

  -- A strobed input reads as its latch.
  input_reads : strobes word g Input ≡ true → (x : ℕ) → eqb x (port_number g) ≡ true → read_of c x ≡ latch g Input c
  input_reads on x own =
      own_read c x g (sym (own_same x g) ∙ own) ∙ strobed_reads word g (port_of c.core g) (sym (strobes_same word g Input) ∙ on)

  begun_shows : (x d : ℕ) → accepts c.edition c.phase (kind_of (event 1 x d)) ≡ true → strobes word g Input ≡ true → eqb x (port_number g) ≡ true
      → Takes Input (event 1 x d)
  begun_shows x d ok on own = (on, rw (step_accepts c 1 x d (accepted_number c.edition c.phase 1 x d ok)) (refl, input_reads on x own))

  shown_input : (k x d : ℕ) → Shown Input (event k x d)
  shown_input k x d =
      by_kind (λ k. Shown Input (event k x d))
      (λ ok on t. absurd t)
      (λ ok on. under_condition _ (eqb x (port_number g)) taken (λ own t. begun_shows x d ok on own))
      (λ ok on. ends_take_none _ (read_runs g c.phase) (of_pin c.phase (full_pin g Input)) (says_full Input (bit_of (brought c.phase) 0)) ended refl)
      (λ ok on t. absurd t)
      (λ ok on. levels_take_none _ (falls g Input (surroundings_of c) x d) (under_low g (surroundings_of c) x) (levels_on g (surroundings_of c)) d)
      (λ k none ok on. absurd (no_kind_accepted c.edition c.phase k x d none ok))
      k

  -- The fall of ACK.
  module _ (x d : ℕ) (ok : accepts c.edition c.phase (kind_of (event 5 x d)) ≡ true) (on : strobes word g Output ≡ true)
      (fell : falls g Output (surroundings_of c) x d ≡ true) where
    abbrev left : Chip
    left = after c (event 5 x d)

    -- ACK is low in the chip that is left.
    driven_left : drives_port left.core g ≡ true
    driven_left =
        let lines = both (eqb x 2) _ fell in
        let low = not-true (bit_of d (strobe_pin g Output)) (both (bit_of c.core.c.outside (strobe_pin g Output)) _ lines.1).1 in
        ap (λ (r : Given Chip). drives_port r.state.core g) (step_accepts c 5 x d (accepted_number c.edition c.phase 5 x d ok))
        ∙ acknowledge_drives (after_levels c.core x d) g
        (ap (λ w. strobed_output w g) (levels_word c.core x d) ∙ sym (strobes_same word g Output) ∙ on)
        (rw (levels_lines c.core x d, lines.0, ← line_same g Output) (low))

    fall_shows : Takes Output (event 5 x d)
    fall_shows = (
      on,
      (
        rw (step_accepts c 5 x d (accepted_number c.edition c.phase 5 x d ok)),
        own_pins left (port_number g) g (own_port_lem g) ∙ rw (driven_left, driven_shows (port_of left.core g), output_latch_stays c g x d),
      ),
    )

  shown_output : (k x d : ℕ) → Shown Output (event k x d)
  shown_output k x d =
      by_kind (λ k. Shown Output (event k x d))
      (λ ok on t. absurd t)
      (λ ok on t. absurd t)
      (λ ok on. ends_take_none _ (write_runs g c.phase) (of_pin c.phase (full_pin g Output)) (says_full Output (bit_of (brought c.phase) 0))
      (offered (brought c.phase)) refl)
      (λ ok on t. absurd t)
      (λ ok on. under_condition _ (falls g Output (surroundings_of c) x d) taken (λ fell t. fall_shows x d ok on fell))
      (λ k none ok on. absurd (no_kind_accepted c.edition c.phase k x d none ok))
      k

  shown_own : (s : Side) (e : Event) → Shown s e
  shown_own Input e = shown_input e.kind e.first e.second
  shown_own Output e = shown_output e.kind e.first e.second

  -- Where any event takes a byte from the channel, it shows the channel's latch.
  pub taken_shows : (s : Side) (e : Event) → WhereTaken (Takes s e) (effect g s (surroundings_of c) e)
  taken_shows s e =
      under_condition _ (accepts c.edition c.phase (kind_of e)) _
      (λ ok. unless_cleared _ (clears c.phase (kind_of e)) _
      (under_condition _ (strobes word g s) _ (shown_own s e ok)))
