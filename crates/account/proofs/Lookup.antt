-- The lookup of a role answers by the summary.
-- Rests on Signals.
use Rattle.std.proofs.Common.{◌≡◌, refl, Bool, true, false, ℕ, arith, ltb, lt-ltb, le-ltb}
use mathlib.Core.Bool.{or-true}
use Rattle.control.specs.Role.{number}
use Rattle.control.specs.Lookup.{lookup_of}
use Rattle.account.specs.Summary.{Signal, io, INTR, IBF, OBF, STB, ACK, signal_at, is_in, role_number}
use Rattle.account.specs.Promise.{LooksUp}
use Rattle.account.proofs.Signals.{role_by, role_same}

number_same : (s : Signal) (inward : Bool) → number (role_by s inward) ≡ role_number s inward
number_same io true = refl
number_same io false = refl
number_same (INTR g) inward = refl
number_same (IBF g) inward = refl
number_same (OBF g) inward = refl
number_same (STB g) inward = refl
number_same (ACK g) inward = refl

pub looks_up : (w n : ℕ) → LooksUp w n
unfolding lookup_of
looks_up w n = record {
  cell = λ word pin.
      rw (le-ltb w 128 word, le-ltb 7 n (omega (arith, pin)), role_same w n pin) (number_same (signal_at w n) (is_in w n));
  no_word = λ below. rw (lt-ltb w 128 below);
  no_pin = λ above. rw (lt-ltb 7 n above, or-true (ltb w 128));
}
