-- One event that is harmless to a group leaves the chip alike in what belongs to it, from every chip.
-- Rests on Alike, Places, Rules, Spared, bits' Logic, the bus's ByKind, chip's WritesAfter, laws' Interrupts, and fates' Tables and
-- Accepted.
use Rattle.std.proofs.Common.{◌≡◌, ◌∙◌, refl, sym, true, false, ℕ, eqb, ltb}
use Rattle.bits.specs.Bit.{bit_of}
use Rattle.bits.proofs.Logic.{contrary, both, one_of}
use Rattle.bus.specs.Event.{Event, event}
use Rattle.bus.proofs.ByKind.{by_kind}
use Rattle.bus.specs.Device.{after_in}
use Rattle.bus.specs.declared.Phase.{Phase}
use Rattle.bus.specs.declared.Phase.TheVariants.{Idle, Reading, Writing}
use Rattle.control.specs.declared.Group.{Group}
use Rattle.chip.specs.declared.channel.Side.{Side}
use Rattle.chip.specs.declared.channel.Side.TheVariants.{Input, Output}
use Rattle.chip.specs.declared.Edition.{Edition}
use Rattle.chip.specs.declared.Core.{Core}
use Rattle.chip.specs.declared.Chip.{Chip}
use Rattle.chip.specs.Handshakes.{running}
use Rattle.chip.specs.Read.{after_read_begins, after_read_ends}
use Rattle.chip.specs.Write.{after_write_ends}
use Rattle.chip.proofs.WritesAfter.{by_write}
use Rattle.chip.specs.Levels.{after_levels}
use Rattle.laws.proofs.Interrupts.{none_runs}
use Rattle.chip.specs.Step.{device, after_end, on_bus, stepped}
use Rattle.fates.specs.Kinds.{read_begun, new_levels, kind_of, free, readable_at, accepts}
use Rattle.fates.specs.Effects.{port_number}
use Rattle.fates.specs.Promise.{surroundings_of}
use Rattle.fates.proofs.Tables.{own_same}
use Rattle.fates.proofs.Accepted.{no_kind_accepted, by_outcome}
use Rattle.groups.specs.Doings.{other, its_cycle, is_of, reads_for_both, is_for_both, harmless}
use Rattle.groups.proofs.Alike.{Alike, AlikeOnBus, alike_same}
use Rattle.groups.proofs.Places.{read_away, for_both_away, write_away, sets_bit_lem, writes_no_lines, levels_away, levels_either}
use Rattle.groups.proofs.Rules.{beginning, ending, levelling}
use Rattle.groups.proofs.Spared.{on_elsewhere, stored_elsewhere, bit_set_elsewhere, lines_elsewhere}

-- A cycle of the other group is none of the group's port.
pub not_running : (g : Group) (ph : Phase) → its_cycle (other g) ph ≡ true → (s : Side) → running ph g s ≡ false
not_running g Idle its s = absurd (contrary false refl its)
not_running g (Reading x) its Input = sym (own_same x g) ∙ read_away g x its
not_running g (Reading x) its Output = refl
not_running g (Writing x d) its Input = refl
not_running g (Writing x d) its Output = sym (own_same x g) ∙ write_away g x d its

-- Nor is a read of port C or of control.
for_both_not_running : (g : Group) (ph : Phase) → reads_for_both ph ≡ true → (s : Side) → running ph g s ≡ false
for_both_not_running g Idle status s = absurd (contrary false refl status)
for_both_not_running g (Reading x) status Input = sym (own_same x g) ∙ for_both_away g x status
for_both_not_running g (Reading x) status Output = refl
for_both_not_running g (Writing x d) status s = absurd (contrary false refl status)

-- Nor does any run where the bus is free.
free_running : (g : Group) (ph : Phase) → free ph ≡ true → (s : Side) → running ph g s ≡ false
free_running g Idle is s = none_runs g s
free_running g (Reading x) is s = absurd (contrary false refl is)
free_running g (Writing x d) is s = absurd (contrary false refl is)

module _ (g : Group) (c : Core) where
  -- The end of the other group's write: a byte for its port, or bit set/reset of a pin on which it acts.
  write_ended : (x d : ℕ) → its_cycle (other g) (Writing x d) ≡ true → Alike g (after_write_ends c x d) c
  write_ended x d its = by_write (λ c'. Alike g c' c) c x d (record {
    mode_word = λ three seven. absurd (contrary (bit_of d 7) (sets_bit_lem (other g) x d its three).0 seven);
    bit_word = λ three seven. bit_set_elsewhere g c d seven (sets_bit_lem (other g) x d its three).1;
    lines = λ two. absurd (writes_no_lines (other g) x d its two);
    port = λ elsewhere c' k. stored_elsewhere g c' c x d k (sym (own_same x g) ∙ write_away g x d its);
  })

  -- A read elsewhere, which begins and ends.
  begun : (x : ℕ) → eqb x (port_number g) ≡ false → Alike g (after_read_begins c x) c
  unfolding after_read_begins
  begun x away = on_elsewhere g c x (beginning c) (sym (own_same x g) ∙ away)

  read_ended : (x : ℕ) → eqb x (port_number g) ≡ false → Alike g (after_read_ends c x) c
  unfolding after_read_ends
  read_ended x away = on_elsewhere g c x (ending c) (sym (own_same x g) ∙ away)

  ended : (ph : Phase) → its_cycle (other g) ph ≡ true → Alike g (after_end c ph) c
  ended Idle its = alike_same g c
  ended (Reading x) its = read_ended x (read_away g x its)
  ended (Writing x d) its = write_ended x d its

  for_both_ended : (ph : Phase) → reads_for_both ph ≡ true → Alike g (after_end c ph) c
  for_both_ended Idle status = alike_same g c
  for_both_ended (Reading x) status = read_ended x (for_both_away g x status)
  for_both_ended (Writing x d) status = absurd (contrary false refl status)

  levels_come : (ed : Edition) (ph : Phase) (x d : ℕ) → is_of (other g) (surroundings_of (on_bus ph ed c)) (new_levels x d) ≡ true → Alike g (after_levels c x d) c
  unfolding after_levels
  levels_come ed ph x d its =
      levels_either g (surroundings_of (on_bus ph ed c)) x d its
      (λ lines. rw (lines) (on_elsewhere g c x (levelling c d) (sym (own_same x g) ∙ levels_away g (surroundings_of (on_bus ph ed c)) x d its)))
      (λ lines same. rw (lines) (lines_elsewhere g c d same))

module _ (g : Group) (c : Chip) where
  -- An accepted event leaves the chip alike in what belongs to the group.
  abbrev LeavesAlike : Event → Type 0
  LeavesAlike e = AlikeOnBus g (after_in device c e.kind e.first e.second) c

  -- A read begins elsewhere, on a bus that is free.
  read_begins_lem : (x : ℕ) → accepts c.edition c.phase (read_begun x) ≡ true → eqb x (port_number g) ≡ false → LeavesAlike (event 1 x 0)
  read_begins_lem x ok away = record {
    core = begun g c.core x away;
    cycle = λ s. go s ∙ sym (free_running g c.phase (both (readable_at c.edition x) _ ok).1 s);
  }
    where
      go : (s : Side) → running (Reading x) g s ≡ false
      go Input = sym (own_same x g) ∙ away
      go Output = refl

  -- The other group's.
  abbrev ItsLeaves : Event → Type 0
  ItsLeaves e = accepts c.edition c.phase (kind_of e) ≡ true → is_of (other g) (surroundings_of c) (kind_of e) ≡ true → LeavesAlike e

  its_leaves : (k x d : ℕ) → ItsLeaves (event k x d)
  its_leaves k x d =
      by_kind (λ k. ItsLeaves (event k x d))
      (λ ok its. absurd (contrary false refl its))
      (λ ok its. read_begins_lem x ok (read_away g x its))
      (λ ok its. record {
        core = ended g c.core c.phase its;
        cycle = λ s. none_runs g s ∙ sym (not_running g c.phase its s);
      })
      (λ ok its. record {
        core = alike_same g c.core;
        cycle = λ s. not_running g (Writing x d) its s ∙ sym (free_running g c.phase (both (ltb x 4) _ ok).1 s);
      })
      (λ ok its. record { core = levels_come g c.core c.edition c.phase x d its; cycle = λ s. refl })
      (λ k none ok. absurd (no_kind_accepted c.edition c.phase k x d none ok))
      k

  -- That of a read of port C or of control.
  abbrev ForBothLeaves : Event → Type 0
  ForBothLeaves e = accepts c.edition c.phase (kind_of e) ≡ true → is_for_both (surroundings_of c) (kind_of e) ≡ true → LeavesAlike e

  for_both_leaves : (k x d : ℕ) → ForBothLeaves (event k x d)
  for_both_leaves k x d =
      by_kind (λ k. ForBothLeaves (event k x d))
      (λ ok status. absurd (contrary false refl status))
      (λ ok status. read_begins_lem x ok (for_both_away g x status))
      (λ ok status. record {
        core = for_both_ended g c.core c.phase status;
        cycle = λ s. none_runs g s ∙ sym (for_both_not_running g c.phase status s);
      })
      (λ ok status. absurd (contrary false refl status))
      (λ ok status. absurd (contrary false refl status))
      (λ k none ok. absurd (no_kind_accepted c.edition c.phase k x d none ok))
      k

  -- An event that is refused, or harmless.
  pub left_by_event : (e : Event)
      → (accepts c.edition c.phase (kind_of e) ≡ true → harmless (other g) (surroundings_of c) (kind_of e) ≡ true) → AlikeOnBus g (stepped c e).state c
  left_by_event e =
      by_outcome (λ c' ok. (ok ≡ true → harmless (other g) (surroundings_of c) (kind_of e) ≡ true) → AlikeOnBus g c' c) c e
      (λ ok does. one_of _ _ (does refl) (its_leaves e.kind e.first e.second ok) (for_both_leaves e.kind e.first e.second ok))
      (λ does. record { core = alike_same g c.core; cycle = λ s. refl })
