-- What a rule that goes by an address is at the address of a group's port.
-- Rests on nothing.
use Rattle.std.proofs.Common.{◌≡◌, refl, Bool, true, false, cond, ℕ}
use Rattle.control.specs.declared.Group.{Group}
use Rattle.control.specs.declared.Group.TheVariants.{A, B}
use Rattle.control.specs.Mode.{strobed_input}
use Rattle.chip.specs.declared.channel.Side.TheVariants.{Input}
use Rattle.chip.specs.declared.Core.{Core}
use Rattle.chip.specs.declared.Chip.{Chip}
use Rattle.chip.specs.State.{port_of, with_port, with_outside}
use Rattle.chip.specs.Reads.{read_port, read_of}
use Rattle.chip.specs.Pins.{drives_port, pins_of_port, pins_of}
use Rattle.chip.specs.Read.{fetched_from, done_with, after_read_begins, after_read_ends}
use Rattle.chip.specs.Write.{stored_by, after_write_ends}
use Rattle.chip.specs.Levels.{lets_through, port_after_levels, after_levels}
use Rattle.chip.specs.Moves.{after_follow}
use Rattle.chip.specs.Held.{on_channel, latched, address_of}

pub read_there : (c : Chip) (g : Group) → read_of c (address_of g) ≡ read_port c.core.word g (port_of c.core g)
unfolding read_of
read_there c A = refl
read_there c B = refl

pub pins_there : (c : Chip) (g : Group) → pins_of c (address_of g) ≡ pins_of_port (port_of c.core g) (drives_port c.core g)
unfolding pins_of
pins_there c A = refl
pins_there c B = refl

module _ (c : Core) where
  pub read_begins_there : (g : Group) → after_read_begins c (address_of g) ≡ with_port c g (fetched_from (port_of c g) (strobed_input c.word g))
  unfolding after_read_begins
  read_begins_there A = refl
  read_begins_there B = refl

  pub read_ends_there : (g : Group) → after_read_ends c (address_of g) ≡ with_port c g (done_with (port_of c g) (strobed_input c.word g))
  unfolding after_read_ends
  read_ends_there A = refl
  read_ends_there B = refl

  pub write_ends_there : (g : Group) (d : ℕ) → after_write_ends c (address_of g) d ≡ with_port c g (stored_by (port_of c g) c.word g d)
  unfolding after_write_ends
  write_ends_there A d = refl
  write_ends_there B d = refl

  pub levels_there : (g : Group) (d : ℕ) → after_levels c (address_of g) d
      ≡ with_outside (cond (lets_through c g) (on_channel c g Input (latched d)) c) g d
  unfolding after_levels port_after_levels after_follow
  levels_there A d = go (lets_through c A)
    where
      go : (t : Bool) → with_port c A (record { input = cond t (after_follow c.a.input d) c.a.input; output = c.a.output; outside = d })
          ≡ with_outside (cond t (on_channel c A Input (latched d)) c) A d
      go true = refl
      go false = refl
  levels_there B d = go (lets_through c B)
    where
      go : (t : Bool) → with_port c B (record { input = cond t (after_follow c.b.input d) c.b.input; output = c.b.output; outside = d })
          ≡ with_outside (cond t (on_channel c B Input (latched d)) c) B d
      go true = refl
      go false = refl
