-- The beginning of a cycle, in every state of any device: of a write it changes nothing but the phase of the bus, and only that of a read has a byte
-- to give; operands that a kind lacks are ignored ("Events and numbers").
-- Rests on Outcomes.
use Rattle.std.proofs.Common.{◌≡◌, ◌∙◌, refl, ap, sym, ℕ, ne_eqb}
use Rattle.bus.specs.Kinds.{is_kind}
use Rattle.bus.specs.Kinds as kinds
use Rattle.bus.specs.declared.Phase.TheVariants.{Writing}
use Rattle.bus.specs.Refusals.{number_of}
use Rattle.bus.specs.Device.{Device, Given, step_in}
use Rattle.bus.specs.Cycles.{Begins, Ignored}
use Rattle.bus.proofs.Outcomes.{accepts, outcomes, number_given, either}

module _ {S R : Type 0} (dev : Device S R) (s : S) (x d : ℕ) where
  -- That a refused read answers 00 is refusal_changes_nothing, in Outcomes.
  pub cycle_begins : Begins dev s x d
  cycle_begins = record {
    write_held = either dev s kinds.begin_write x d (λ (s' : S). dev.rest s' ≡ dev.rest s) refl (λ ok. dev.rest_on (Writing x d) (dev.rest s));
    read_answers = λ ok. ap (λ (o : Given S). o.byte) (accepts dev s kinds.begin_read x d (sym (number_given dev s kinds.begin_read x d) ∙ ok));
    others_silent = λ k other. outcomes dev s k x d (λ (o : Given S). o.byte ≡ 0) (λ no. refl) (λ ok. rw (ne_eqb k 1 other));
  }

  pub operands_ignored : Ignored dev s x d
  unfolding step_in number_of is_kind
  operands_ignored = record { reset = refl; begin_read = refl; end_cycle = refl }
