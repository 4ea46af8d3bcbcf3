-- The bit that a program puts at a pin of port C goes on as the account says: the latch of a free pin, or the enable of a line.
-- Rests on Words, Columns, Signals, ByAct, Kept, BitSet, bits' Tested and BitLaws, chip's SettingsAfter, and fates' PinNamed.
use Rattle.std.proofs.Common.{◌≡◌, ◌∙◌, refl, ap, sym, Bool, true, false, cond, ◌&&◌, ◌||◌, ℕ, ◌/◌, ◌%◌, ◌<◌, arith, eqb, ltb, eqb-true}
use mathlib.Core.Bool.{and-false}
use Rattle.bits.specs.Bit.{bit_of}
use Rattle.bits.proofs.Tested.{bits}
use Rattle.bits.proofs.BitLaws.{bit_of_assembled}
use Rattle.bus.specs.Event.{Event}
use Rattle.control.specs.declared.Group.{Group}
use Rattle.control.specs.declared.Group.TheVariants.{A}
use Rattle.chip.specs.declared.channel.Side.{Side}
use Rattle.chip.specs.declared.channel.Side.TheVariants.{Input, Output}
use Rattle.chip.specs.declared.Core.{Core}
use Rattle.chip.specs.declared.Chip.{Chip}
use Rattle.chip.specs.Handshakes.{enable_of}
use Rattle.chip.specs.ModeWord.{after_mode_word}
use Rattle.chip.specs.ControlWord.{set_as, pin_set, after_control_word}
use Rattle.chip.proofs.SettingsAfter.{mode_word_latch, mode_word_enable, bit_word_lem, bit_put}
use Rattle.chip.specs.Write.{latch_written, writable}
use Rattle.chip.specs.Step.{stepped}
use Rattle.fates.specs.Effects.{strobe_pin}
use Rattle.fates.proofs.PinNamed.{pin_same}
use Rattle.account.specs.Summary.{column_of, is_plain, Signal, io, INTR, IBF, OBF, STB, ACK, signal_at, is_in, settable, free_out, reached}
use Rattle.account.specs.Acts.{written, act}
use Rattle.account.specs.Account.{names, bit_after}
use Rattle.account.specs.Promise.{with_bit7, surroundings_here, bit_here}
use Rattle.account.proofs.Words.{column_alike, signal_alike, in_alike, with_bit_7_alike}
use Rattle.account.proofs.Columns.{plain_same}
use Rattle.account.proofs.Signals.{role_by, role_same, by_signal}
use Rattle.account.proofs.ByAct.{latched, by_act}
use Rattle.account.proofs.Kept.{Kept, kept_begun, kept_ended, kept_stored, kept_levelled}
use Rattle.account.proofs.BitSet.{set_latch, put_bit, moved, out_same, is_line, set_enable}

no_bit : (n : ℕ) → n < 8 → bit_of 0 n ≡ false
unfolding bit_of
no_bit = bits 8 (λ n. bit_of 0 n) (λ n. false) tt

-- Made anew, a core has no bit at any pin; and what keeps latch and enables keeps the bits.
mode_word_bit : (c : Core) (w n : ℕ) → n < 8 → (r : Signal) → false ≡ bit_here (after_mode_word c w) n r
mode_word_bit c w n hn io = rw (mode_word_latch c w) (sym (no_bit n hn))
mode_word_bit c w n hn (INTR g) = refl
mode_word_bit c w n hn (IBF g) = refl
mode_word_bit c w n hn (OBF g) = refl
mode_word_bit c w n hn (STB g) = sym (mode_word_enable c w g Input)
mode_word_bit c w n hn (ACK g) = sym (mode_word_enable c w g Output)

pub same_bit : (c' c : Core) → c'.c.latch ≡ c.c.latch → c'.inte ≡ c.inte → (n : ℕ) (r : Signal) → bit_here c' n r ≡ bit_here c n r
same_bit c' c latch enables n io = ap (λ (l : ℕ). bit_of l n) latch
same_bit c' c latch enables n (INTR g) = refl
same_bit c' c latch enables n (IBF g) = refl
same_bit c' c latch enables n (OBF g) = refl
same_bit c' c latch enables n (STB g) = ap (λ e. enable_of e g Input) enables
same_bit c' c latch enables n (ACK g) = ap (λ e. enable_of e g Output) enables

kept_bit : (c' c : Core) → Kept c' c → (n : ℕ) → bit_here c n (signal_at c.word n) ≡ bit_here c' n (signal_at c'.word n)
kept_bit c' c k n =
    sym (ap (λ (v : ℕ). bit_here c' n (signal_at v n)) k.word ∙ same_bit c' c k.latch k.enables n (signal_at c.word n))

module _ (c : Chip) (n : ℕ) (hn : n < 8) where
  abbrev core : Core
  core = c.core

  abbrev w : ℕ
  w = core.word

  abbrev now : Bool
  now = bit_here core n (signal_at w n)

  -- What a write puts at the pin, under the word as it stands.
  put_here : (x d : ℕ)
      → bit_after (surroundings_here c) n now (written x d)
      ≡ cond (names x d n && settable (signal_at w n) (is_in w n)) (bit_of d 0) (cond (eqb x 2 && reached w n) (bit_of d n) now)
  put_here x d =
      let u = with_bit7 w in let same = with_bit_7_alike w in
      rw (signal_alike u w same n, in_alike u w same n, column_alike u w same A)

  -- A control word that names pin m.
  module _ (m : ℕ) (hm : m < 8) (v : Bool) where
    abbrev set : Core
    set = set_as core m v (role_by (signal_at w m) (is_in w m))

    abbrev Set : Signal → Type 0
    Set r = signal_at w n ≡ r → cond (eqb n m && settable r (is_in w n)) v (bit_here core n r) ≡ bit_here set n r

    set_nothing : cond (eqb n m && false) v false ≡ false
    set_nothing = rw (and-false (eqb n m))

    set_line : (g : Group) (s : Side) → n ≡ strobe_pin g s → is_line (signal_at w n) ≡ true
        → cond (eqb n m && true) v (enable_of core.inte g s) ≡ enable_of set.inte g s
    set_line g s at line =
        sym (set_enable core m hm v w g s ∙ rw (← at, moved (λ k. is_line (signal_at w k)) n m, line))

    set_bit : cond (eqb n m && settable (signal_at w n) (is_in w n)) v now ≡ bit_here set n (signal_at w n)
    set_bit =
        by_signal Set n (record {
          free = λ free. sym (rw (set_latch core m v (signal_at w m) (is_in w m)) (put_bit core.c.latch m n v (free_out (signal_at w m) (is_in w m)) hn
              ∙ rw (moved (λ k. free_out (signal_at w k) (is_in w k)) n m, free)));
          interrupt = λ e. set_nothing;
          full = λ e. set_nothing;
          vacant = λ e. set_nothing;
          strobe = λ g at e. set_line g Input at (ap is_line e);
          acknowledge = λ g at e. set_line g Output at (ap is_line e);
        })
        w hn refl

  abbrev Goes : Core → Bool → Type 0
  Goes c' after = after ≡ bit_here c' n (signal_at c'.word n)

  named : (x d : ℕ) → eqb x 3 ≡ true → bit_of d 7 ≡ false → Goes (after_control_word core d) (bit_after (surroundings_here c) n now (written x d))
  unfolding pin_set
  named x d three seven =
      let m = d / 2 % 8 in let v = bit_of d 0 in
      let same : after_control_word core d ≡ set m (omega arith) v = bit_word_lem core d seven ∙ ap (set_as core m v) (role_same w m (omega arith)) in
      put_here x d
      ∙ rw (eqb-true x 3 three, pin_same d) (set_bit m (omega arith) v)
      ∙ sym (ap (λ (u : ℕ). bit_here (after_control_word core d) n (signal_at u n)) (bit_put core d seven).surroundings.word
      ∙ ap (λ (c' : Core). bit_here c' n (signal_at w n)) same)

  abbrev Written : ℕ → Signal → Type 0
  Written d r =
      signal_at w n ≡ r
      → cond (free_out r (is_in w n) && (ltb n 4 || is_plain (column_of w A))) (bit_of d n) (bit_here core n r) ≡ bit_here (latched core d) n r

  lines_written : (x d : ℕ) → eqb x 2 ≡ true → Goes (latched core d) (bit_after (surroundings_here c) n now (written x d))
  unfolding latch_written
  lines_written x d two =
      put_here x d
      ∙ rw (eqb-true x 2 two)
      (by_signal (Written d) n (record {
        free = λ free. sym (bit_of_assembled (λ n. cond (writable w n) (bit_of d n) (bit_of core.c.latch n)) n hn
            ∙ rw (role_same w n hn, out_same (signal_at w n) (is_in w n), plain_same w A, free));
        interrupt = λ e. refl;
        full = λ e. refl;
        vacant = λ e. refl;
        strobe = λ g at e. refl;
        acknowledge = λ g at e. refl;
      })
      w hn refl)

  pub bit_next : (e : Event) → Goes (stepped c e).state.core (bit_after (surroundings_here c) n now (act (surroundings_here c) e))
  bit_next =
      by_act (λ c' t. Goes c' (bit_after (surroundings_here c) n now t)) c (record {
        at_rest = refl;
        made_anew = λ v. mode_word_bit core v n hn (signal_at (after_mode_word core v).word n);
        read_starts = λ x. kept_bit _ core (kept_begun core x) n;
        read_over = λ x. kept_bit _ core (kept_ended core x) n;
        write_starts = λ x. refl;
        pin_put = named;
        lines_written = lines_written;
        port_written = λ x d two three. put_here x d ∙ rw (two, three) (kept_bit _ core (kept_stored core x d) n);
        levels_put = λ x d. kept_bit _ core (kept_levelled core x d) n;
      })
