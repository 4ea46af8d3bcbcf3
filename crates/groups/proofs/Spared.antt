-- What the other group's events leave of the chip: a rule at another port's address, bit set/reset of another pin, and levels on port C
-- that differ elsewhere.
-- Rests on Alike, Pins, bits' BitLaws, and on chip's OnPort, OneChannel, SettingsAfter, WritesAfter and LevelsAfter.
use Rattle.std.proofs.Common.{◌≡◌, ◌∙◌, refl, ap, Bool, true, false, ℕ, ◌/◌, ◌%◌}
use mathlib.Core.Bool.{and-false, and-not_self}
use Rattle.bits.specs.Bit.{bit_of, with_bit}
use Rattle.bits.proofs.BitLaws.{bit_of_with}
use Rattle.control.specs.declared.Group.{Group}
use Rattle.control.specs.declared.Group.TheVariants.{A, B}
use Rattle.control.specs.Role.{Role, input, output, INTR, IBF, OBF, STB, ACK, role_of}
use Rattle.chip.specs.declared.channel.Side.{Side}
use Rattle.chip.specs.declared.channel.Side.TheVariants.{Input, Output}
use Rattle.chip.specs.Moves.{after_force}
use Rattle.chip.specs.declared.Port.{Port}
use Rattle.chip.specs.declared.Enables.{Enables}
use Rattle.chip.specs.declared.Core.{Core}
use Rattle.chip.specs.State.{port_of, with_latch, with_enables, on_port}
use Rattle.chip.specs.Handshakes.{own_address, strobed, line_pin, group_at, enable_of}
use Rattle.chip.proofs.OnPort.{port_on, word_on, lines_on, enables_on}
use Rattle.chip.proofs.OneChannel.{same_group, port_put, channel_surrounded, channel_lines, channel_enables}
use Rattle.chip.specs.ControlWord.{enabled, flag_put, set_as, pin_set, after_control_word}
use Rattle.chip.proofs.SettingsAfter.{bit_word_lem}
use Rattle.chip.proofs.WritesAfter.{Stored}
use Rattle.chip.specs.Levels.{fallen, edged, line_falls, edges_on, after_levels_on_c}
use Rattle.chip.proofs.LevelsAfter.{edges_of}
use Rattle.groups.specs.Doings.{other, acts_on}
use Rattle.groups.proofs.Alike.{SameAt, Alike, alike_same, port_by_parts, port_same, line_same}
use Rattle.groups.proofs.Pins.{acted_apart, acted_group}

-- A rule applied at an address that is not the group's.
pub on_elsewhere : (g : Group) (c : Core) (x : ℕ) (f : Group → Port → Port) → own_address x g ≡ false → Alike g (on_port c x f) c
on_elsewhere g c x f away = record {
  word = word_on c x f;
  port = port_on c x f g ∙ rw (away);
  enables = λ s. ap (λ e. enable_of e g s) (enables_on c x f);
  latch = λ n small its. ap (λ l. bit_of l.latch n) (lines_on c x f);
  lines = λ n small its. ap (λ l. bit_of l.outside n) (lines_on c x f);
}

-- A byte stored there.
pub stored_elsewhere : (g : Group) (c' c : Core) (x d : ℕ) → Stored c' c x d → own_address x g ≡ false → Alike g c' c
stored_elsewhere g c' c x d k away = record {
  word = k.surroundings.word;
  port = port_by_parts (port_of c' g) (port_of c g) (k.input g) (k.output g ∙ rw (away)) (k.surroundings.ports g);
  enables = λ s. ap (λ e. enable_of e g s) k.enables;
  latch = λ n small its. ap (λ l. bit_of l n) k.latch;
  lines = λ n small its. ap (λ l. bit_of l n) k.surroundings.lines;
}

-- The enable of one group is put, and the other's is asked.
enabled_apart : (e : Enables) (g : Group) (t s : Side) (v : Bool) → enable_of (enabled e (other g) t v) g s ≡ enable_of e g s
enabled_apart e A t Input v = refl
enabled_apart e A t Output v = refl
enabled_apart e B Input s v = refl
enabled_apart e B Output s v = refl

groups_apart : (g : Group) → same_group (other g) g ≡ false
groups_apart A = refl
groups_apart B = refl

module _ (g : Group) (c : Core) (n : ℕ) (v : Bool) (acts : acts_on (other g) n ≡ true) where
  enabling : (t : Side) → Alike g (with_enables c (enabled c.inte (group_at n) t v)) c
  enabling t = rw (acted_group (other g) n acts) (record {
    word = refl;
    port = port_same (with_enables c (enabled c.inte (other g) t v)) c refl refl g;
    enables = λ s. enabled_apart c.inte g t s v;
    latch = λ k small its. refl;
    lines = λ k small its. refl;
  })

  forcing : (t : Side) → Alike g (flag_put c (group_at n) t v) c
  forcing t = rw (acted_group (other g) n acts) (record {
    word = (channel_surrounded c (λ s. after_force s v) (other g) t).word;
    port = port_put c (λ s. after_force s v) (other g) g t ∙ rw (groups_apart g);
    enables = λ s. ap (λ e. enable_of e g s) (channel_enables c (λ s. after_force s v) (other g) t);
    latch = λ k small its. ap (λ l. bit_of l.latch k) (channel_lines c (λ s. after_force s v) (other g) t);
    lines = λ k small its. ap (λ l. bit_of l.outside k) (channel_lines c (λ s. after_force s v) (other g) t);
  })

  -- A pin on which the other group acts is set, in any role that it has.
  set_elsewhere : (r : Role) → Alike g (set_as c n v r) c
  set_elsewhere input = alike_same g c
  set_elsewhere output = record {
    word = refl;
    port = port_same (with_latch c (with_bit c.c.latch n v)) c refl refl g;
    enables = λ s. refl;
    latch = λ k small its. bit_of_with c.c.latch n v k small ∙ rw (acted_apart g n k acts its);
    lines = λ k small its. refl;
  }
  set_elsewhere INTR = alike_same g c
  set_elsewhere IBF = forcing Input
  set_elsewhere OBF = forcing Output
  set_elsewhere STB = enabling Input
  set_elsewhere ACK = enabling Output

-- Bit set/reset of such a pin.
pub bit_set_elsewhere : (g : Group) (c : Core) (d : ℕ) → bit_of d 7 ≡ false → acts_on (other g) (d / 2 % 8) ≡ true
    → Alike g (after_control_word c d) c
unfolding pin_set
bit_set_elsewhere g c d clear acts =
    rw (bit_word_lem c d clear) (set_elsewhere g c (d / 2 % 8) (bit_of d 0) acts (role_of c.word (d / 2 % 8)))

-- New levels on port C that are the old ones at the group's pins: no line of the group falls.
module _ (g : Group) (c : Core) (d : ℕ) (same : SameAt g d c.c.outside) where
  still : (s : Side) → line_falls c d g s ≡ false
  unfolding fallen
  still s = rw (line_same g d c.c.outside same s, and-not_self (bit_of c.c.outside (line_pin g s))) (and-false (strobed c.word g s))

  still_port : edges_on c d g ≡ port_of c g
  unfolding edged
  still_port = rw (still Input, still Output)

  pub lines_elsewhere : Alike g (after_levels_on_c c d) c
  unfolding after_levels_on_c
  lines_elsewhere = record {
    word = refl;
    port = edges_of c d g ∙ still_port;
    enables = λ s. refl;
    latch = λ n small its. refl;
    lines = same;
  }
