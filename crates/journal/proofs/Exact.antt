-- The test of two chips answers exactly whether they are equal.
-- Rests on bits' Same.
use Rattle.std.proofs.Common.{rules, ◌≡◌, refl, ap, subst, Bool, true, false, List, ℕ, take, drop, get_or}
use Rattle.bits.specs.Same.{same_bytes}
use Rattle.bits.proofs.Same.{same_lists, same_self}
use Rattle.bus.specs.declared.Phase.{Phase}
use Rattle.chip.specs.declared.channel.Fill.{Fill}
use Rattle.chip.specs.declared.channel.Channel.{Channel}
use Rattle.chip.specs.declared.Port.{Port}
use Rattle.chip.specs.declared.Edition.{Edition}
use Rattle.chip.specs.declared.Chip.{Chip}
use Rattle.journal.specs.Same.{of_phase, of_edition, of_fill, of_channel, of_port, of_enable, of_chip, same_state}

-- Each part is what its numbers tell.
phase : (p q : Phase) → of_phase p ≡ of_phase q → p ≡ q
phase p q h = search rules

edition : (a b : Edition) → of_edition a ≡ of_edition b → a ≡ b
edition a b h = search rules

fill : (a b : Fill) → of_fill a ≡ of_fill b → a ≡ b
fill a b h = search rules

enable : (a b : Bool) → of_enable a ≡ of_enable b → a ≡ b
enable a b h = search rules

channel : (a b : Channel) → of_channel a ≡ of_channel b → a ≡ b
channel a b h = search (rules, fill)

port : (p q : Port) → of_port p ≡ of_port q → p ≡ q
port p q h = search (rules, channel)

-- The number at a place, and some numbers from a place on.
at : {l m : List ℕ} (n : ℕ) → l ≡ m → get_or l n 0 ≡ get_or m n 0
at n h = ap (λ l. get_or l n 0) h

from : {l m : List ℕ} (n many : ℕ) → l ≡ m → take many (drop n l) ≡ take many (drop n m)
from n many h = ap (λ l. take many (drop n l)) h

chip : (c d : Chip) → of_chip c ≡ of_chip d → c ≡ d
chip c d h = λ i. record {
  phase = phase c.phase d.phase (ap (drop 45) h) i;
  edition = edition c.edition d.edition (at 0 h) i;
  core = record {
    word = at 1 h i;
    a = port c.core.a d.core.a (from 7 19 h) i;
    b = port c.core.b d.core.b (from 26 19 h) i;
    c = record { latch = at 2 h i; outside = at 3 h i };
    inte = record {
      input = enable c.core.inte.input d.core.inte.input (at 4 h) i;
      output = enable c.core.inte.output d.core.inte.output (at 5 h) i;
      b = enable c.core.inte.b d.core.inte.b (at 6 h) i;
    };
  };
}

module _ (c d : Chip) where
  pub only_then_lem : same_state c d ≡ true → c ≡ d
  unfolding same_state
  only_then_lem same = chip c d (same_lists (of_chip c) (of_chip d) same)

  pub then : c ≡ d → same_state c d ≡ true
  unfolding same_state
  then is = subst (λ (e : Chip). same_bytes (of_chip c) (of_chip e) ≡ true) is (same_self (of_chip c))

  pub other_state : ¬ (c ≡ d) → same_state c d ≡ false
  other_state differ = go (same_state c d) refl
    where
      go : (b : Bool) → same_state c d ≡ b → b ≡ false
      go true is = absurd (differ (only_then_lem is))
      go false is = refl
