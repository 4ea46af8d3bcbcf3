-- The one end of a cycle, in every state: it is accepted while any cycle runs, a read that ends leaves the outputs, and a write that ends
-- leaves the inputs, unless it was of a mode word or forces a flag; and 04, which is no kind, is refused whatever its operands ("Events and
-- numbers").
-- Rests on Cycles, FillAfter, bits' Logic, and chip's Surrounded, ReadsAfter, WritesAfter and Ends.
use Rattle.std.proofs.Common.{◌≡◌, ◌∙◌, refl, ap, sym, Bool, true, false, ◌&&◌, ℕ, ◌/◌, ◌%◌, arith, eqb}
use mathlib.Core.Bool.{and-false}
use Rattle.bits.specs.Bit.{bit_of}
use Rattle.bits.proofs.Logic.{contrary}
use Rattle.bus.specs.Kinds.{is_kind}
use Rattle.bus.specs.declared.Phase.TheVariants.{Idle, Reading, Writing}
use Rattle.control.specs.declared.Group.{Group}
use Rattle.chip.specs.declared.channel.Side.TheVariants.{Input, Output}
use Rattle.chip.specs.declared.Core.{Core}
use Rattle.chip.specs.declared.Chip.{Chip}
use Rattle.chip.specs.State.{channel_of}
use Rattle.chip.specs.Handshakes.{strobed, flag_pin}
use Rattle.chip.proofs.Surrounded.{spared_channel}
use Rattle.chip.proofs.ReadsAfter.{ended_output}
use Rattle.chip.specs.Write.{after_write_ends}
use Rattle.chip.proofs.WritesAfter.{by_address}
use Rattle.chip.specs.Step.{refused, step_of}
use Rattle.chip.proofs.Ends.{read_ends_lem, write_ends}
use Rattle.laws.specs.Seen.{makes_anew, puts}
use Rattle.laws.specs.Anew.{Freed}
use Rattle.laws.proofs.Cycles.{facts, no_kind_refused}
use Rattle.laws.proofs.FillAfter.{puts_here}

-- The end of whatever runs is accepted, as on any device.
pub cycle_ends_lem : (c : Chip) (x d : ℕ) → ¬ (c.phase ≡ Idle) → Freed (step_of c 2 x d)
unfolding step_of
cycle_ends_lem c x d runs = record {
  taken = ((facts c).ends x d).while_one_runs runs;
  silent = ((facts c).begins x d).others_silent 2 (λ e. absurd (omega (arith, e)));
  idle = ((facts c).ends x d).over;
}

-- A read that ends leaves every output channel as it was.
pub read_end_spares_outputs : (c : Chip) (p x d : ℕ) → c.phase ≡ Reading p → (g : Group)
    → channel_of (step_of c 2 x d).state.core g Output ≡ channel_of c.core g Output
read_end_spares_outputs c p x d phase g = rw (read_ends_lem c p x d phase) (ended_output c.core p g)

-- A write that ends leaves every input channel as it was, unless it was of a mode word, or of a bit set/reset that puts the channel's flag.
module _ (c : Core) (a b : ℕ) (g : Group) (other : makes_anew (Writing a b) ≡ false)
    (unforced : (v : Bool) → puts (Writing a b) (flag_pin g Input) v ≡ false) where
  not_named : a ≡ 3 → eqb (b / 2 % 8) (flag_pin g Input) ≡ false
  not_named three = go (eqb (b / 2 % 8) (flag_pin g Input)) refl
    where
      seven : bit_of b 7 ≡ false
      seven = sym (ap (λ (x : ℕ). eqb x 3 && bit_of b 7) three) ∙ other

      go : (named : Bool) → eqb (b / 2 % 8) (flag_pin g Input) ≡ named → named ≡ false
      go true named =
          absurd (contrary _ (unforced (bit_of b 0)) (puts_here (Writing a b) b (ap (λ (x : ℕ). Writing x b) three) seven (flag_pin g Input) named))
      go false named = refl

  spares_input : channel_of (after_write_ends c a b) g Input ≡ channel_of c g Input
  spares_input =
      by_address (λ c'. channel_of c' g Input ≡ channel_of c g Input) c a b
      (λ mode. absurd (contrary (makes_anew (Writing a b)) other mode))
      (λ mode three c' k. k.channel g Input ∙ rw (not_named three, and-false (strobed c.word g Input)))
      (λ mode two c' k. spared_channel k g Input)
      (λ mode elsewhere c' k. k.input g)

pub write_end_spares_inputs : (c : Chip) (a b x d : ℕ) (g : Group) → c.phase ≡ Writing a b → makes_anew (Writing a b) ≡ false
    → ((v : Bool) → puts (Writing a b) (flag_pin g Input) v ≡ false) → channel_of (step_of c 2 x d).state.core g Input ≡ channel_of c.core g Input
write_end_spares_inputs c a b x d g phase other unforced = rw (write_ends c a b x d phase) (spares_input c.core a b g other unforced)

-- 04, which stands between the kinds, is none, whatever its operands.
pub four_is_no_kind : (c : Chip) (x d : ℕ) → step_of c 4 x d ≡ refused c 1
unfolding is_kind
four_is_no_kind c x d = no_kind_refused c 4 x d refl
