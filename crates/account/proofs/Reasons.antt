-- Why a half of INTR is low is what the account says.
-- Rests on Columns, Moves, Agrees, Here and Interrupts, and on fates' Tables.
use Rattle.std.proofs.Common.{◌≡◌, ◌∙◌, refl, ap, ap₂, sym, Bool, true, false, cond, not, ℕ, zero, suc, arith, ne_eqb, Some}
use Rattle.bits.specs.Bit.{bit_of}
use Rattle.control.specs.declared.Group.{Group}
use Rattle.control.specs.declared.Group.TheVariants.{A, B}
use Rattle.chip.specs.declared.channel.Side.{Side}
use Rattle.chip.specs.declared.channel.Side.TheVariants.{Input, Output}
use Rattle.chip.specs.Channel.{flag_of}
use Rattle.chip.specs.declared.Chip.{Chip}
use Rattle.chip.specs.State.{channel_of}
use Rattle.chip.specs.Handshakes.{strobed, enable_of}
use Rattle.chip.specs.declared.reasons.Reason.TheVariants.{EnableOff, FlagWrong, LineLow, OwnCycle, High}
use Rattle.chip.specs.declared.reasons.Explained.TheVariants.{ModeZero, InputHalf, OutputHalf, BothHalves}
use Rattle.chip.specs.Reasons.{reason_of, explained_in, explained_of, reason_number, numbers_of}
use Rattle.fates.specs.Effects.{strobe_pin, read_runs, write_runs}
use Rattle.fates.proofs.Tables.{line_same as pin_same}
use Rattle.account.specs.Summary.{Column, plain_in, plain_out, strobed_in, strobed_out, both_ways, column_of, takes, gives, keeps, is_plain}
use Rattle.account.specs.Account.{Account}
use Rattle.account.specs.Reasons.{lacks, said, said_in, explained}
use Rattle.account.proofs.Columns.{takes_same, gives_same, keeps_same, plain_same, is_two, two_same}
use Rattle.account.proofs.Moves.{full, vacant}
use Rattle.account.proofs.Agrees.{Agrees}
use Rattle.account.proofs.Here.{column_here, lines_here, line_same}
use Rattle.account.proofs.Interrupts.{read_runs_lem, write_runs_lem}

-- The first of four reasons, by its number.
first : (on right up runs : Bool)
    → reason_number (cond (not on) EnableOff (cond (not right) FlagWrong (cond (not up) LineLow (cond runs OwnCycle High))))
    ≡ cond on (cond right (cond up (cond runs 5 6) 4) 3) 2
first true true true true = refl
first true true true false = refl
first true true false runs = refl
first true false up runs = refl
first false right up runs = refl

module _ (c : Chip) (a : Account) (k : Agrees c a) where
  abbrev w : ℕ
  w = c.core.word

  phase_here : a.surroundings.phase ≡ c.phase
  phase_here = ap (λ r. r.phase) k.surroundings

  reason_same : (g : Group) (s : Side) → strobed w g s ≡ true → reason_number (reason_of c g s) ≡ lacks a g s
  unfolding reason_of flag_of
  reason_same g Input on =
      rw (line_same c a k g Input on, k.ibf g, lines_here c a k (strobe_pin g Input), phase_here, ← pin_same g Input, read_runs_lem c.phase g)
      (first (enable_of c.core.inte g Input) (full (channel_of c.core g Input)) (bit_of c.core.c.outside (strobe_pin g Input)) (read_runs g c.phase))
  reason_same g Output on =
      rw (line_same c a k g Output on, k.obf g, lines_here c a k (strobe_pin g Output), phase_here, ← pin_same g Output, write_runs_lem c.phase g)
      (first (enable_of c.core.inte g Output) (vacant (channel_of c.core g Output)) (bit_of c.core.c.outside (strobe_pin g Output)) (write_runs g c.phase))

  said_same : (g : Group) → numbers_of (Some (explained_in c g)) ≡ said_in a g (column_of a.surroundings.word g)
  unfolding explained_in
  said_same g = rw (column_here c a k g, ← plain_same w g, ← two_same w g, ← keeps_same w g) (go (column_of w g) refl)
    where
      taken : (col : Column) → column_of w g ≡ col → takes col ≡ true → reason_number (reason_of c g Input) ≡ lacks a g Input
      taken col e on = reason_same g Input (sym (takes_same w g) ∙ ap takes e ∙ on)

      given : (col : Column) → column_of w g ≡ col → gives col ≡ true → reason_number (reason_of c g Output) ≡ lacks a g Output
      given col e on = reason_same g Output (sym (gives_same w g) ∙ ap gives e ∙ on)

      go : (col : Column) → column_of w g ≡ col
          → numbers_of (Some (cond (is_plain col) ModeZero (cond (is_two col) (BothHalves (reason_of c g Input) (reason_of c g Output))
          (cond (keeps col) (OutputHalf (reason_of c g Output)) (InputHalf (reason_of c g Input)))))) ≡ said_in a g col
      go plain_in e = refl
      go plain_out e = refl
      go strobed_in e = ap (λ (i : ℕ). said i 0) (taken strobed_in e refl)
      go strobed_out e = ap (λ (o : ℕ). said 0 o) (given strobed_out e refl)
      go both_ways e = ap₂ said (taken both_ways e refl) (given both_ways e refl)

  pub explained_same : (n : ℕ) → numbers_of (explained_of c n) ≡ explained a n
  unfolding explained_of
  explained_same zero = said_same A
  explained_same (suc zero) = said_same B
  explained_same (suc (suc n)) =
      let m : ℕ = suc (suc n) in
      rw (ne_eqb m 0 (λ e. omega (arith, e)), ne_eqb m 1 (λ e. omega (arith, e)))
