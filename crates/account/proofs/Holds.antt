-- Over every history the account has what the chip holds, and the end of a write leaves in it what plain bits of the mode word say.
-- Rests on Truth, Waves, Agrees, Opened, Here and Accounted.
use Rattle.std.proofs.Common.{◌≡◌, ◌∙◌, refl, ap, sym, Bool, true, false, cond, not, ◌&&◌, List, ℕ, ◌<◌}
use Rattle.bits.specs.Bit.{bit_of}
use Rattle.bus.specs.Event.{Event, event}
use Rattle.bus.specs.declared.Phase.TheVariants.{Writing}
use Rattle.control.specs.declared.Group.{Group}
use Rattle.control.specs.declared.Group.TheVariants.{A, B}
use Rattle.chip.specs.declared.channel.Side.{Side}
use Rattle.chip.specs.declared.channel.Side.TheVariants.{Input, Output}
use Rattle.chip.specs.declared.Edition.{Edition}
use Rattle.chip.specs.declared.Chip.{Chip}
use Rattle.chip.specs.declared.Levels.{Levels}
use Rattle.chip.specs.State.{power_up_as}
use Rattle.laws.specs.PlainBits.{input_only}
use Rattle.fates.specs.Effects.{strobe_pin}
use Rattle.fates.specs.Numbers.{own_port}
use Rattle.fates.specs.Promise.{run}
use Rattle.account.specs.Summary.{plain_in, plain_out, strobed_in, strobed_out, both_ways, column_of, keeps}
use Rattle.account.specs.Acts.{written, act}
use Rattle.account.specs.Account.{Account, output_after, input_after, opened, account_next}
use Rattle.account.specs.Promise.{over, asks_here, account_of}
use Rattle.account.specs.Holds.{HoldsTrue, HoldsFromPowerUp, WriteRuns, PortTakes}
use Rattle.account.proofs.Truth.{truth}
use Rattle.account.proofs.Agrees.{Agrees, agrees_of}
use Rattle.account.proofs.Opened.{agrees_opened}
use Rattle.account.proofs.Here.{pin_below}
use Rattle.account.proofs.Accounted.{agrees_over}

-- An account that agrees with a chip has the halves of INTR that the sheet's equation gives the chip.
module _ (c : Chip) (a : Account) (k : Agrees c a) where
  bit_same : (n : ℕ) → n < 8 → a.bit n ≡ (account_of c).bit n
  bit_same n below = k.bit n below ∙ sym ((agrees_of c).bit n below)

  asks_same : (g : Group) (s : Side) → a.asks g s ≡ asks_here c g s
  asks_same g Input =
      k.even g Input ∙ rw (k.surroundings, bit_same (strobe_pin g Input) (pin_below g Input), k.ibf g) (sym ((agrees_of c).even g Input))
  asks_same g Output =
      k.even g Output ∙ rw (k.surroundings, bit_same (strobe_pin g Output) (pin_below g Output), k.obf g) (sym ((agrees_of c).even g Output))

holds_true : (c : Chip) (a : Account) (es : List Event) → Agrees c a → HoldsTrue c a es
holds_true c a es start =
    let k = agrees_over es c a start in
    record {
      surroundings = k.surroundings;
      bit = bit_same (run c es) (over a es) k;
      output = k.output;
      input = k.input;
      ibf = k.ibf;
      obf = k.obf;
      given = k.given;
      asks = asks_same (run c es) (over a es) k;
    }

pub holds_from_power_up : (ed : Edition) (l : Levels) (es : List Event) → HoldsFromPowerUp ed l es
holds_from_power_up ed l es = holds_true (power_up_as ed l) (opened ed l) es (agrees_opened ed l)

pub holds_from_chip : (c : Chip) (es : List Event) → HoldsTrue c (account_of c) es
holds_from_chip c es = holds_true c (account_of c) es (agrees_of c)

-- A port keeps what is written to it unless it is an input of mode 0 or 1.
keeps_by_bits : (w : ℕ) (g : Group) → keeps (column_of w g) ≡ not (input_only w g)
keeps_by_bits w A =
    truth 3 (λ six five four. keeps (cond six both_ways (cond five (cond four strobed_in strobed_out) (cond four plain_in plain_out))))
    (λ six five four. not (not six && four)) tt (bit_of w 6) (bit_of w 5) (bit_of w 4)
keeps_by_bits w B =
    truth 2 (λ two one. keeps (cond two (cond one strobed_in strobed_out) (cond one plain_in plain_out))) (λ two one. not one) tt (bit_of w 2) (bit_of w 1)

module _ (a : Account) (b x d : ℕ) where
  act_is : (g : Group) → a.surroundings.phase ≡ Writing (own_port g) b → act a.surroundings (event 2 x d) ≡ written (own_port g) b
  act_is A phase = rw (phase)
  act_is B phase = rw (phase)

  output_is : (g : Group) → a.surroundings.phase ≡ Writing (own_port g) b
      → (account_next a (event 2 x d)).output g ≡ cond (input_only a.surroundings.word g) (a.output g) b
  output_is g phase = ap (output_after a.surroundings g (a.output g)) (act_is g phase) ∙ kept g
    where
      chosen : (input : Bool) (l : ℕ) → cond (not input) b l ≡ cond input l b
      chosen true l = refl
      chosen false l = refl

      kept : (g : Group) → output_after a.surroundings g (a.output g) (written (own_port g) b) ≡ cond (input_only a.surroundings.word g) (a.output g) b
      kept A = rw (keeps_by_bits a.surroundings.word A) (chosen (input_only a.surroundings.word A) (a.output A))
      kept B = rw (keeps_by_bits a.surroundings.word B) (chosen (input_only a.surroundings.word B) (a.output B))

  pub port_takes : (g : Group) → WriteRuns a g b → PortTakes a g b x d
  port_takes g phase = record {
    to_input = λ input. output_is g phase ∙ rw (input);
    to_output = λ output. output_is g phase ∙ rw (output);
    other_latch = ap (input_after a.surroundings g (a.input g)) (act_is g phase);
  }
