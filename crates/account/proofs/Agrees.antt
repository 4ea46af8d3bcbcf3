-- An account that agrees with a chip goes on to agree with it.
-- Rests on Words, Columns, Signals, ByEvent, Moves, Pins, Ports and Waves, and on fates' SurroundingsKept.
use Rattle.std.proofs.Common.{◌≡◌, ◌∙◌, refl, ap, sym, Bool, true, false, not, ◌&&◌, ℕ, ◌<◌}
use Rattle.bus.specs.Event.{Event}
use Rattle.control.specs.declared.Group.{Group}
use Rattle.chip.specs.declared.channel.Side.{Side}
use Rattle.chip.specs.declared.channel.Side.TheVariants.{Input, Output}
use Rattle.chip.specs.declared.Core.{Core}
use Rattle.chip.specs.declared.Chip.{Chip}
use Rattle.chip.specs.State.{channel_of}
use Rattle.chip.specs.Handshakes.{strobed, enable_of}
use Rattle.chip.specs.Step.{stepped}
use Rattle.fates.specs.Surroundings.{surroundings_next}
use Rattle.fates.specs.Effects.{strobe_pin}
use Rattle.fates.specs.Promise.{surroundings_of}
use Rattle.fates.proofs.SurroundingsKept.{surroundings_next_lem}
use Rattle.account.specs.Summary.{signal_at}
use Rattle.account.specs.Account.{Account, strobed as Account·strobed, line, served, account_next}
use Rattle.account.specs.Promise.{with_bit7, surroundings_here, bit_here, flag_here, account_of}
use Rattle.account.proofs.Words.{signal_alike, with_bit_7_alike}
use Rattle.account.proofs.Columns.{takes_same, gives_same, takes_here, gives_here}
use Rattle.account.proofs.Signals.{strobe_stands, acknowledge_stands}
use Rattle.account.proofs.ByEvent.{seven, seven_next}
use Rattle.account.proofs.Pins.{bit_next}
use Rattle.account.proofs.Moves.{full, vacant, given}
use Rattle.account.proofs.Ports.{output_next, obf_next, input_next, ibf_next, given_next}
use Rattle.account.proofs.Waves.{Even, even_next}

-- The account has what the chip has.
pub record Agrees (c : Chip) (a : Account) : Type 0 where
  pub surroundings : a.surroundings ≡ surroundings_here c
  pub bit : (n : ℕ) → n < 8 → a.bit n ≡ bit_here c.core n (signal_at c.core.word n)
  pub output : (g : Group) → a.output g ≡ (channel_of c.core g Output).latch
  pub input : (g : Group) → a.input g ≡ (channel_of c.core g Input).latch
  pub ibf : (g : Group) → a.ibf g ≡ full (channel_of c.core g Input)
  pub obf : (g : Group) → a.obf g ≡ vacant (channel_of c.core g Output)
  pub given : (g : Group) → a.given g ≡ given (channel_of c.core g Input)
  pub even : Even a

-- The surroundings, with bit 7 of the word counted as set.
here_next : (c : Chip) (e : Event) → surroundings_here (stepped c e).state ≡ surroundings_next (surroundings_here c) e
here_next c e = ap seven (surroundings_next_lem c e) ∙ seven_next (surroundings_of c) e

pub agrees_next : (c : Chip) (a : Account) (e : Event) → Agrees c a → Agrees (stepped c e).state (account_next a e)
agrees_next c a e k = record {
  surroundings = rw k.surroundings (sym (here_next c e));
  bit = λ n hn. rw (k.surroundings, k.bit n hn) (bit_next c n hn e);
  output = λ g. rw (k.surroundings, k.output g) (sym (output_next c g e));
  input = λ g. rw (k.surroundings, k.input g) (sym (input_next c g e));
  ibf = λ g. rw (k.surroundings, k.ibf g, k.given g) (sym (ibf_next c g e));
  obf = λ g. rw (k.surroundings, k.obf g) (sym (obf_next c g e));
  given = λ g. rw (k.surroundings, k.ibf g, k.given g) (sym (given_next c g e));
  even = even_next a k.even e;
}

-- The bit at the line of a strobed channel is its enable.
pub line_bit : (c : Core) (g : Group) (s : Side) → strobed c.word g s ≡ true → bit_here c (strobe_pin g s) (signal_at c.word (strobe_pin g s)) ≡ enable_of c.inte g s
line_bit c g Input on = ap (bit_here c (strobe_pin g Input)) (strobe_stands c.word g (takes_same c.word g ∙ on))
line_bit c g Output on = ap (bit_here c (strobe_pin g Output)) (acknowledge_stands c.word g (gives_same c.word g ∙ on))

-- Two conjunctions that agree where the first part holds.
within : (s p q r : Bool) → (s ≡ true → q ≡ p) → (s && (p && r)) ≡ (s && (q && r))
within true p q r same = rw (same refl)
within false p q r same = refl

-- The account of a chip as it stands agrees with it.
module _ (c : Chip) where
  abbrev w : ℕ
  w = c.core.word

  here : (n : ℕ) → signal_at (with_bit7 w) n ≡ signal_at w n
  here n = signal_alike (with_bit7 w) w (with_bit_7_alike w) n

  line_here : (g : Group) (s : Side) → strobed w g s ≡ true → (account_of c).bit (strobe_pin g s) ≡ enable_of c.core.inte g s
  line_here g s on = ap (bit_here c.core (strobe_pin g s)) (here (strobe_pin g s)) ∙ line_bit c.core g s on

  -- What a half asks for beside its enable.
  abbrev others : Group → Side → Bool
  others g s = flag_here c.core g s && (line (surroundings_here c) g s && not (served (surroundings_here c) g s))

  even_here : Even (account_of c)
  even_here g Input =
      within (Account·strobed (surroundings_here c) g Input) (enable_of c.core.inte g Input) ((account_of c).bit (strobe_pin g Input)) (others g Input)
      (λ on. line_here g Input (sym (takes_here w g) ∙ on))
  even_here g Output =
      within (Account·strobed (surroundings_here c) g Output) (enable_of c.core.inte g Output) ((account_of c).bit (strobe_pin g Output)) (others g Output)
      (λ on. line_here g Output (sym (gives_here w g) ∙ on))

  pub agrees_of : Agrees c (account_of c)
  agrees_of = record {
    surroundings = refl;
    bit = λ n hn. ap (bit_here c.core n) (here n);
    output = λ g. refl;
    input = λ g. refl;
    ibf = λ g. refl;
    obf = λ g. refl;
    given = λ g. refl;
    even = even_here;
  }
