-- Under the mode word of power-up nothing is ever set: the chip is as a reset leaves it, but for the bus and the levels outside.
-- Rests on the bus's ByKind, on chip's OnPort, SettingsAfter, ReadsAfter and LevelsAfter, and on fates' Accepted and Followed.
use Rattle.std.proofs.Common.{◌≡◌, ◌∙◌, refl, ap, sym, subst, Bool, true, false, cond, List, [], ◌∷◌, ℕ, ◌/◌, ◌%◌, eqb, ltb}
use Rattle.bits.specs.Bit.{bit_of, value_of}
use Rattle.bus.specs.Event.{Event, event}
use Rattle.bus.proofs.ByKind.{by_kind}
use Rattle.bus.specs.Device.{after_in}
use Rattle.bus.specs.declared.Phase.{Phase}
use Rattle.bus.specs.declared.Phase.TheVariants.{Idle, Reading, Writing}
use Rattle.control.specs.declared.Group.{Group}
use Rattle.control.specs.declared.Group.TheVariants.{A, B}
use Rattle.control.specs.Mode.{mode_of, input_of, upper_input, lower_input, strobed_input, strobed_output, output_of}
use Rattle.chip.specs.declared.channel.Side.{Side}
use Rattle.chip.specs.declared.channel.Side.TheVariants.{Input, Output}
use Rattle.chip.specs.Moves.{after_clear}
use Rattle.chip.specs.declared.Port.{Port}
use Rattle.chip.specs.declared.Edition.{Edition}
use Rattle.chip.specs.declared.Core.{Core}
use Rattle.chip.specs.declared.Chip.{Chip}
use Rattle.chip.specs.declared.Levels.{Levels}
use Rattle.chip.specs.State.{power_up_as, with_port, with_latch, on_port}
use Rattle.chip.specs.Handshakes.{strobed}
use Rattle.chip.proofs.OnPort.{word_on}
use Rattle.control.specs.Role.{input, output, uses_of, free_role, role_of}
use Rattle.chip.specs.ModeWord.{cleared_port, after_mode_word}
use Rattle.chip.specs.ControlWord.{set_as, pin_set, after_control_word}
use Rattle.chip.proofs.SettingsAfter.{mode_word_lem, mode_word_word, mode_word_latch, bit_word_lem, bit_put}
use Rattle.chip.specs.Read.{fetched_from, done_with, after_read_begins, after_read_ends}
use Rattle.chip.proofs.ReadsAfter.{begun_surrounded, ended_surrounded}
use Rattle.chip.specs.Write.{stored_by, latch_written, after_write_ends}
use Rattle.chip.specs.Levels.{edged, after_levels_on_c, port_after_levels, after_levels}
use Rattle.chip.proofs.LevelsAfter.{levels_word}
use Rattle.chip.specs.Step.{device, after_end}
use Rattle.fates.specs.Kinds.{kind_of, accepts}
use Rattle.fates.specs.Promise.{run}
use Rattle.fates.proofs.Accepted.{by_outcome, no_kind_accepted}
use Rattle.fates.proofs.Followed.{after}

-- As a reset leaves it.
abbrev pub Cleared : Core → Type 0
Cleared c = after_mode_word c 0x9b ≡ c

pub anew_again : (c : Core) (w : ℕ) → after_mode_word (after_mode_word c w) w ≡ after_mode_word c w
unfolding after_mode_word cleared_port after_clear
anew_again c w = refl

-- Whatever the address, a port that stays leaves the core.
stays_there : (c : Core) (zero one : Bool) → cond zero c (cond one c c) ≡ c
stays_there c true one = refl
stays_there c false true = refl
stays_there c false false = refl

module _ (c : Core) (plain : c.word ≡ 0x9b) where
  -- Under that word a read finds no handshake,
  none_begun : (x : ℕ) → after_read_begins c x ≡ c
  unfolding after_read_begins strobed_input mode_of input_of bit_of
  none_begun x = subst (λ w. on_port c x (λ g p. fetched_from p (strobed_input w g)) ≡ c) (sym plain) (stays_there c (eqb x 0) (eqb x 1))

  none_ended : (x : ℕ) → after_read_ends c x ≡ c
  unfolding after_read_ends strobed_input mode_of input_of bit_of
  none_ended x = subst (λ w. on_port c x (λ g p. done_with p (strobed_input w g)) ≡ c) (sym plain) (stays_there c (eqb x 0) (eqb x 1))

  -- bit set/reset finds a pin of port C that is an input,
  no_pin_lem : (n : ℕ) (v : Bool) → pin_set c n v ≡ c
  unfolding pin_set role_of uses_of free_role mode_of input_of upper_input lower_input bit_of
  no_pin_lem n v = subst (λ w. set_as c n v (role_of w n) ≡ c) (sym plain) (go (ltb n 4))
    where
      go : (lower : Bool) → set_as c n v (cond (cond lower true true) input output) ≡ c
      go true = refl
      go false = refl

  -- and a write finds no output.
  none_stored : (x d : ℕ) → on_port c x (λ g p. stored_by p c.word g d) ≡ c
  unfolding stored_by output_of mode_of input_of bit_of
  none_stored x d = subst (λ w. on_port c x (λ g p. stored_by p w g d) ≡ c) (sym plain) (stays_there c (eqb x 0) (eqb x 1))

  module _ (cleared : Cleared c) where
    no_bit : (d : ℕ) → with_latch c (latch_written c.word c.c.latch d) ≡ c
    unfolding latch_written role_of uses_of free_role mode_of input_of upper_input lower_input bit_of value_of
    no_bit d =
        let zero : c.c.latch ≡ 0 = sym (ap (λ c'. c'.c.latch) cleared) ∙ mode_word_latch c 0x9b in
        subst (λ w. with_latch c (latch_written w c.c.latch d) ≡ c) (sym plain)
        (subst (λ l. with_latch c (latch_written 0x9b l d) ≡ c) (sym zero) (λ i. with_latch c (sym zero i)))

-- A core with other levels on a port, and nothing else changed.
abbrev other_levels : Core → ℕ → ℕ → Core
other_levels c x d =
    cond (eqb x 2) (record { word = c.word; a = c.a; b = c.b; c = record { latch = c.c.latch; outside = d }; inte = c.inte })
    (on_port c x (λ g p. record { input = p.input; output = p.output; outside = d }))

-- A mode word leaves them.
levels_outlast : (c : Core) (x d : ℕ) → after_mode_word (other_levels c x d) 0x9b ≡ other_levels (after_mode_word c 0x9b) x d
unfolding after_mode_word cleared_port
levels_outlast c x d = go (eqb x 2) (eqb x 0) (eqb x 1)
  where
    anew : Core → Core
    anew c' = after_mode_word c' 0x9b

    lines : Core → Core
    lines c' = record { word = c'.word; a = c'.a; b = c'.b; c = record { latch = c'.c.latch; outside = d }; inte = c'.inte }

    port : Port → Port
    port p = record { input = p.input; output = p.output; outside = d }

    go : (two zero one : Bool)
        → anew (cond two (lines c) (cond zero (with_port c A (port c.a)) (cond one (with_port c B (port c.b)) c)))
        ≡ cond two (lines (anew c)) (cond zero (with_port (anew c) A (port (anew c).a)) (cond one (with_port (anew c) B (port (anew c).b)) (anew c)))
    go true zero one = refl
    go false true one = refl
    go false false true = refl
    go false false false = refl

module _ (c : Core) (plain : c.word ≡ 0x9b) where
  -- Under that word no channel is strobed, so that levels are levels and nothing more.
  none_strobed : (g : Group) (s : Side) → strobed c.word g s ≡ false
  unfolding strobed_input strobed_output mode_of input_of bit_of
  none_strobed A Input = ap (λ w. strobed_input w A) plain
  none_strobed A Output = ap (λ w. strobed_output w A) plain
  none_strobed B Input = ap (λ w. strobed_input w B) plain
  none_strobed B Output = ap (λ w. strobed_output w B) plain

  levels_alone : (x d : ℕ) → after_levels c x d ≡ other_levels c x d
  unfolding after_levels after_levels_on_c edged port_after_levels
  levels_alone x d = rw (none_strobed A Input, none_strobed A Output, none_strobed B Input, none_strobed B Output)

-- What is so of a core is so of another that is the same.
moved : {c c' : Core} → c' ≡ c → Cleared c → Cleared c'
moved same cleared = subst Cleared (sym same) cleared

-- The core is cleared wherever its word is that one.
abbrev Kept : Core → Type 0
Kept c = c.word ≡ 0x9b → Cleared c

module _ (c : Core) (was : Kept c) where
  by_control : (d : ℕ) → Kept (after_control_word c d)
  by_control d = go (bit_of d 7) refl
    where
      go : (seven : Bool) → bit_of d 7 ≡ seven → Kept (after_control_word c d)
      go true seven is =
          let same = mode_word_lem c d seven in
          let nine_b : d ≡ 0x9b = sym (mode_word_word c d) ∙ sym (ap (λ c'. c'.word) same) ∙ is in
          moved same (subst (λ w. Cleared (after_mode_word c w)) (sym nine_b) (anew_again c 0x9b))
      go false seven is =
          let plain = sym (bit_put c d seven).surroundings.word ∙ is in
          moved (bit_word_lem c d seven ∙ no_pin_lem c plain (d / 2 % 8) (bit_of d 0)) (was plain)

  write_ended : (x d : ℕ) → Kept (after_write_ends c x d)
  unfolding after_write_ends
  write_ended x d = go (eqb x 2) (eqb x 3)
    where
      go : (lines command : Bool)
          → Kept (cond lines (with_latch c (latch_written c.word c.c.latch d)) (cond command (after_control_word c d) (on_port c x (λ g p. stored_by p c.word g d))))
      go true command is = moved (no_bit c is (was is) d) (was is)
      go false true is = by_control d is
      go false false is = let plain = sym (word_on c x (λ g p. stored_by p c.word g d)) ∙ is in moved (none_stored c plain x d) (was plain)

  ended : (ph : Phase) → Kept (after_end c ph)
  ended Idle is = was is
  ended (Reading p) is = let plain = sym (ended_surrounded c p).word ∙ is in moved (none_ended c plain p) (was plain)
  ended (Writing x d) is = write_ended x d is

  begun : (x : ℕ) → Kept (after_read_begins c x)
  begun x is = let plain = sym (begun_surrounded c x).word ∙ is in moved (none_begun c plain x) (was plain)

  levelled : (x d : ℕ) → Kept (after_levels c x d)
  levelled x d is =
      let plain = sym (levels_word c x d) ∙ is in
      moved (levels_alone c plain x d) (levels_outlast c x d ∙ ap (λ c'. other_levels c' x d) (was plain))

-- From a power-up on, whatever the events.
kept_next : (c : Chip) (e : Event) → Kept c.core → Kept (after c e).core
kept_next c e was =
    by_outcome (λ c' ok. Kept c'.core) c e
    (λ ok.
    by_kind (λ k. accepts c.edition c.phase (kind_of (event k e.first e.second)) ≡ true → Kept (after_in device c k e.first e.second).core)
    (λ ok is. anew_again c.core 0x9b)
    (λ ok. begun c.core was e.first)
    (λ ok. ended c.core was c.phase)
    (λ ok. was)
    (λ ok. levelled c.core was e.first e.second)
    (λ k none ok. absurd (no_kind_accepted c.edition c.phase k e.first e.second none ok))
    e.kind ok)
    was

pub cleared_along : (c : Chip) (es : List Event) → Kept c.core → Kept (run c es).core
cleared_along c [] was = was
cleared_along c (e ∷ es) was = cleared_along (after c e) es (kept_next c e was)

pub cleared_at_first : (ed : Edition) (v : Levels) → Cleared (power_up_as ed v).core
unfolding after_mode_word cleared_port after_clear
cleared_at_first ed v = refl
