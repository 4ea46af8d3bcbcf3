-- The numbers of the events that name a place, in every state of any device: a missing place comes before an address that is not to be read, and
-- that before a running cycle ("Events and numbers").
-- Rests on nothing.
use Rattle.std.proofs.Common.{◌≡◌, refl, true, ℕ, lt-ltb, le-ltb}
use Rattle.bus.specs.Kinds.{is_kind}
use Rattle.bus.specs.declared.Phase.{Phase}
use Rattle.bus.specs.declared.Phase.TheVariants.{Idle, Reading, Writing}
use Rattle.bus.specs.Refusals.{is_busy, number_of}
use Rattle.bus.specs.Device.{Device, step_in}
use Rattle.bus.specs.Cycles.{AtPlace}

busy : (ph : Phase) → ¬ (ph ≡ Idle) → is_busy ph ≡ true
busy Idle runs = absurd (runs refl)
busy (Reading p) runs = refl
busy (Writing a d) runs = refl

pub at_place_lem : {S R : Type 0} (dev : Device S R) (s : S) (x d : ℕ) → AtPlace dev (dev.limits (dev.rest s)) s x d
unfolding step_in number_of is_kind
at_place_lem dev s x d = record {
  read_nowhere = λ above. rw (le-ltb x _ above);
  write_nowhere = λ above. rw (le-ltb x _ above);
  levels_nowhere = λ above. rw (le-ltb x _ above);
  not_readable = λ there above. rw (lt-ltb x _ there, le-ltb x _ above);
  read_in_cycle = λ there readable runs. rw (lt-ltb x _ there, lt-ltb x _ readable, busy (dev.phase s) runs);
  write_in_cycle = λ there runs. rw (lt-ltb x _ there, busy (dev.phase s) runs);
  read_begins = λ there readable idle. rw (lt-ltb x _ there, lt-ltb x _ readable, idle);
  write_begins = λ there idle. rw (lt-ltb x _ there, idle);
}
