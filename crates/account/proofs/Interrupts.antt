-- INTR is what the account says, by the sheet's equation.
-- Rests on Truth, Columns, Moves, Agrees and Here, and on fates' Tables.
use Rattle.std.proofs.Common.{◌≡◌, refl, sym, Bool, true, false, not, ◌&&◌, ℕ}
use Rattle.bits.specs.Bit.{bit_of}
use Rattle.bus.specs.declared.Phase.{Phase}
use Rattle.bus.specs.declared.Phase.TheVariants.{Idle, Reading, Writing}
use Rattle.control.specs.declared.Group.{Group}
use Rattle.control.specs.Mode.{strobed_input, strobed_output}
use Rattle.chip.specs.declared.channel.Side.{Side}
use Rattle.chip.specs.declared.channel.Side.TheVariants.{Input, Output}
use Rattle.chip.specs.Channel.{flag_of}
use Rattle.chip.specs.declared.Chip.{Chip}
use Rattle.chip.specs.State.{channel_of}
use Rattle.chip.specs.Handshakes.{enable_of, reading, writing}
use Rattle.chip.specs.Status.{request_of, intr_of}
use Rattle.fates.specs.Effects.{strobe_pin, read_runs, write_runs}
use Rattle.fates.proofs.Tables.{own_same, line_same as pin_same}
use Rattle.account.specs.Account.{Account}
use Rattle.account.specs.Views.{intr}
use Rattle.account.proofs.Columns.{takes_here, gives_here}
use Rattle.account.proofs.Truth.{truth}
use Rattle.account.proofs.Moves.{full, vacant}
use Rattle.account.proofs.Agrees.{Agrees}
use Rattle.account.proofs.Here.{line_same}

-- The cycle that serves a channel is its own.
pub read_runs_lem : (ph : Phase) (g : Group) → reading ph g ≡ read_runs g ph
read_runs_lem Idle g = refl
read_runs_lem (Reading x) g = sym (own_same x g)
read_runs_lem (Writing x d) g = refl

pub write_runs_lem : (ph : Phase) (g : Group) → writing ph g ≡ write_runs g ph
write_runs_lem Idle g = refl
write_runs_lem (Reading x) g = refl
write_runs_lem (Writing x d) g = sym (own_same x g)

-- A request as the chip has it, s strobed, e enabled, f flag, l line, v served, and as the account has it.
request : (s e b f l v : Bool) → (s ≡ true → b ≡ e) → (s && e && f && l && not v) ≡ (s && (b && (f && (l && not v))))
request true e b f l v same =
    rw (same refl) (truth 4 (λ e f l v. true && e && f && l && not v) (λ e f l v. true && (e && (f && (l && not v)))) tt e f l v)
request false e b f l v same = truth 4 (λ e f l v. false && e && f && l && not v) (λ e f l v. false) tt e f l v

module _ (c : Chip) (a : Account) (k : Agrees c a) where
  abbrev w : ℕ
  w = c.core.word

  request_same : (g : Group) (s : Side) → request_of c g s ≡ a.asks g s
  unfolding request_of flag_of
  request_same g Input =
      rw (k.even g Input, k.surroundings, takes_here w g, ← pin_same g Input, k.ibf g, read_runs_lem c.phase g)
      (request (strobed_input w g) (enable_of c.core.inte g Input) (a.bit (strobe_pin g Input)) (full (channel_of c.core g Input))
      (bit_of c.core.c.outside (strobe_pin g Input)) (read_runs g c.phase) (line_same c a k g Input))
  request_same g Output =
      rw (k.even g Output, k.surroundings, gives_here w g, ← pin_same g Output, k.obf g, write_runs_lem c.phase g)
      (request (strobed_output w g) (enable_of c.core.inte g Output) (a.bit (strobe_pin g Output)) (vacant (channel_of c.core g Output))
      (bit_of c.core.c.outside (strobe_pin g Output)) (write_runs g c.phase) (line_same c a k g Output))

  pub intr_same : (g : Group) → intr_of c g ≡ intr a g
  unfolding intr_of
  intr_same g = rw (request_same g Input, request_same g Output)
