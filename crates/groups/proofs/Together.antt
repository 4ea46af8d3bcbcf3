-- Chips alike in what belongs to a group stay so under one and the same event.
-- Rests on Alike, Rules, bits' BitLaws, and chip's OnPort, OneChannel and LevelsAfter.
use Rattle.std.proofs.Common.{◌≡◌, ◌∙◌, refl, ap, sym, subst, Bool, true, false, cond, ℕ, eqb}
use Rattle.bits.specs.Bit.{bit_of}
use Rattle.bits.proofs.BitLaws.{bit_of_assembled, bit_of_with}
use Rattle.bus.specs.declared.Phase.{Phase}
use Rattle.bus.specs.declared.Phase.TheVariants.{Idle, Reading, Writing}
use Rattle.control.specs.declared.Group.{Group}
use Rattle.control.specs.declared.Group.TheVariants.{A, B}
use Rattle.control.specs.declared.word.Control.{Control}
use Rattle.control.specs.declared.word.Control.TheVariants.{Mode, Bit}
use Rattle.control.specs.Word.{control_of}
use Rattle.control.specs.Role.{Role, input, output, INTR, IBF, OBF, STB, ACK, role_of}
use Rattle.chip.specs.declared.channel.Side.{Side}
use Rattle.chip.specs.declared.channel.Side.TheVariants.{Input, Output}
use Rattle.chip.specs.declared.channel.Channel.{Channel}
use Rattle.chip.specs.Moves.{after_force}
use Rattle.chip.specs.declared.Port.{Port}
use Rattle.chip.specs.declared.Enables.{Enables}
use Rattle.chip.specs.declared.Core.{Core}
use Rattle.chip.specs.State.{port_of, with_latch, with_enables, on_port}
use Rattle.chip.specs.Handshakes.{group_at, enable_of}
use Rattle.chip.proofs.OnPort.{port_on, word_on, lines_on, enables_on}
use Rattle.chip.proofs.OneChannel.{port_put, channel_surrounded, channel_lines, channel_enables}
use Rattle.chip.specs.ModeWord.{cleared_port, after_mode_word}
use Rattle.chip.specs.ControlWord.{enabled, flag_put, set_as, pin_set, obeyed, after_control_word}
use Rattle.chip.specs.Read.{after_read_begins, after_read_ends}
use Rattle.chip.specs.Write.{writable, latch_written, after_write_ends}
use Rattle.chip.specs.Levels.{fallen, line_falls, lets_through, after_levels_on_c, after_levels}
use Rattle.chip.proofs.LevelsAfter.{edges_of}
use Rattle.chip.specs.Step.{after_end}
use Rattle.groups.proofs.Alike.{SameAt, Alike, port_same, line_same}
use Rattle.groups.proofs.Rules.{beginning, ending, storing, levelling}

-- One enable is put, in enables that agree on the group's.
enabled_both : (e' e : Enables) (v : Bool) (g : Group) → ((s : Side) → enable_of e' g s ≡ enable_of e g s) → (h : Group) (t s : Side)
    → enable_of (enabled e' h t v) g s ≡ enable_of (enabled e h t v) g s
enabled_both e' e v A same A Input Input = refl
enabled_both e' e v A same A Input Output = same Output
enabled_both e' e v A same A Output Input = same Input
enabled_both e' e v A same A Output Output = refl
enabled_both e' e v A same B t Input = same Input
enabled_both e' e v A same B t Output = same Output
enabled_both e' e v B same A Input s = same s
enabled_both e' e v B same A Output s = same s
enabled_both e' e v B same B t s = refl

module _ (g : Group) (c' c : Core) (k : Alike g c' c) where
  -- A rule at an address that makes the same of the group's port.
  on_both : (x : ℕ) (f' f : Group → Port → Port) → f' g (port_of c' g) ≡ f g (port_of c g) → Alike g (on_port c' x f') (on_port c x f)
  on_both x f' f same = record {
    word = word_on c' x f' ∙ k.word ∙ sym (word_on c x f);
    port = port_on c' x f' g ∙ cc (same, k.port) ∙ sym (port_on c x f g);
    enables = λ s. rw (enables_on c' x f', enables_on c x f) (k.enables s);
    latch = λ n small its. rw (lines_on c' x f', lines_on c x f) (k.latch n small its);
    lines = λ n small its. rw (lines_on c' x f', lines_on c x f) (k.lines n small its);
  }

  pub begun_both : (x : ℕ) → Alike g (after_read_begins c' x) (after_read_begins c x)
  unfolding after_read_begins
  begun_both x = on_both x (beginning c') (beginning c) (rw (k.port, k.word))

  read_ended_both : (x : ℕ) → Alike g (after_read_ends c' x) (after_read_ends c x)
  unfolding after_read_ends
  read_ended_both x = on_both x (ending c') (ending c) (rw (k.port, k.word))

  -- A mode word or a reset.
  pub anew_both : (w : ℕ) → Alike g (after_mode_word c' w) (after_mode_word c w)
  unfolding after_mode_word
  anew_both w = record {
    word = refl;
    port = cleared c' g ∙ ap cleared_port k.port ∙ sym (cleared c g);
    enables = λ s. refl;
    latch = λ n small its. refl;
    lines = k.lines;
  }
    where
      cleared : (c : Core) (h : Group) → port_of (after_mode_word c w) h ≡ cleared_port (port_of c h)
      cleared c A = refl
      cleared c B = refl

  -- Another latch of port C, and other enables.
  latch_both : (x' x : ℕ) → SameAt g x' x → Alike g (with_latch c' x') (with_latch c x)
  latch_both x' x same = record {
    word = k.word;
    port = port_same (with_latch c' x') c' refl refl g ∙ k.port ∙ port_same c (with_latch c x) refl refl g;
    enables = k.enables;
    latch = same;
    lines = k.lines;
  }

  enables_both : (e' e : Enables) → ((s : Side) → enable_of e' g s ≡ enable_of e g s) → Alike g (with_enables c' e') (with_enables c e)
  enables_both e' e same = record {
    word = k.word;
    port = port_same (with_enables c' e') c' refl refl g ∙ k.port ∙ port_same c (with_enables c e) refl refl g;
    enables = same;
    latch = k.latch;
    lines = k.lines;
  }

  -- A flag is forced.
  forced_both : (h : Group) (s : Side) (v : Bool) → Alike g (flag_put c' h s v) (flag_put c h s v)
  forced_both h s v =
      let f : Side → Channel → Channel = λ s. after_force s v in
      record {
        word = (channel_surrounded c' f h s).word ∙ k.word ∙ sym (channel_surrounded c f h s).word;
        port = port_put c' f h g s ∙ rw k.port (sym (port_put c f h g s));
        enables = λ t. rw (channel_enables c' f h s, channel_enables c f h s) (k.enables t);
        latch = λ n small its. rw (channel_lines c' f h s, channel_lines c f h s) (k.latch n small its);
        lines = λ n small its. rw (channel_lines c' f h s, channel_lines c f h s) (k.lines n small its);
      }

  -- A pin is set, in any role that it has.
  set_both : (n : ℕ) (v : Bool) (r : Role) → Alike g (set_as c' n v r) (set_as c n v r)
  set_both n v input = k
  set_both n v output =
      latch_both _ _ (λ m small its.
      bit_of_with c'.c.latch n v m small ∙ ap (cond (eqb m n) v) (k.latch m small its) ∙ sym (bit_of_with c.c.latch n v m small))
  set_both n v INTR = k
  set_both n v IBF = forced_both (group_at n) Input v
  set_both n v OBF = forced_both (group_at n) Output v
  set_both n v STB = enables_both _ _ (enabled_both c'.inte c.inte v g k.enables (group_at n) Input)
  set_both n v ACK = enables_both _ _ (enabled_both c'.inte c.inte v g k.enables (group_at n) Output)

  -- A word at control.
  obeyed_both : (o : Control) → Alike g (obeyed c' o) (obeyed c o)
  unfolding pin_set
  obeyed_both (Mode w) = anew_both w
  obeyed_both (Bit n v) =
      subst (λ w. Alike g (set_as c' n v (role_of w n)) (pin_set c n v)) (sym k.word) (set_both n v (role_of c.word n))

  -- A byte for port C.
  latch_written_both : (d : ℕ) → SameAt g (latch_written c'.word c'.c.latch d) (latch_written c.word c.c.latch d)
  unfolding latch_written
  latch_written_both d n small its =
      bit_of_assembled (λ n. cond (writable c'.word n) (bit_of d n) (bit_of c'.c.latch n)) n small
      ∙ cc (k.word, k.latch n small its)
      ∙ sym (bit_of_assembled (λ n. cond (writable c.word n) (bit_of d n) (bit_of c.c.latch n)) n small)

  write_ended_both : (x d : ℕ) → Alike g (after_write_ends c' x d) (after_write_ends c x d)
  unfolding after_write_ends after_control_word
  write_ended_both x d = go (eqb x 2) (eqb x 3)
    where
      go : (lines command : Bool)
          → Alike g
          (cond lines (with_latch c' (latch_written c'.word c'.c.latch d))
          (cond command (after_control_word c' d) (on_port c' x (storing c' d))))
          (cond lines (with_latch c (latch_written c.word c.c.latch d))
          (cond command (after_control_word c d) (on_port c x (storing c d))))
      go true command = latch_both _ _ (latch_written_both d)
      go false true = obeyed_both (control_of d)
      go false false = on_both x (storing c' d) (storing c d) (rw (k.port, k.word))

  -- The end of the cycle that runs on both buses.
  pub ended_both : (ph : Phase) → Alike g (after_end c' ph) (after_end c ph)
  ended_both Idle = k
  ended_both (Reading x) = read_ended_both x
  ended_both (Writing x d) = write_ended_both x d

  -- Levels on port C, and on another port.
  falls_both : (d : ℕ) (s : Side) → line_falls c' d g s ≡ line_falls c d g s
  unfolding fallen
  falls_both d s = rw (line_same g _ _ k.lines s, k.word)

  lines_both : (d : ℕ) → Alike g (after_levels_on_c c' d) (after_levels_on_c c d)
  unfolding after_levels_on_c
  lines_both d = record {
    word = k.word;
    port = edges_of c' d g ∙ rw (k.port, falls_both d Input, falls_both d Output) (sym (edges_of c d g));
    enables = k.enables;
    latch = k.latch;
    lines = λ n small its. refl;
  }

  lets_both : lets_through c' g ≡ lets_through c g
  lets_both = rw (line_same g _ _ k.lines Input, k.word)

  pub levels_both : (x d : ℕ) → Alike g (after_levels c' x d) (after_levels c x d)
  unfolding after_levels
  levels_both x d = go (eqb x 2)
    where
      go : (lines : Bool)
          → Alike g
          (cond lines (after_levels_on_c c' d) (on_port c' x (levelling c' d)))
          (cond lines (after_levels_on_c c d) (on_port c x (levelling c d)))
      go true = lines_both d
      go false = on_both x (levelling c' d) (levelling c d) (rw (k.port, lets_both))
