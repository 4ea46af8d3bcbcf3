-- What the discipline forbids, and the bytes that are lost by it, by plain numbers of ports and pins ("Discipline", "Handshake").
use Rattle.std.specs.Prelude.{◌≡◌, true, false, List, [], ◌∷◌, ◌++◌, ℕ, ◌+◌, ◌%◌}
use Rattle.bits.specs.Bit.{bit_of}
use Rattle.bus.specs.Event.{Event}
use Rattle.bus.specs.Histories.{levels, read_from, cycle_end}
use Rattle.control.specs.declared.Group.{Group}
use Rattle.control.specs.Mode.{strobed_input}
use Rattle.chip.specs.declared.channel.Side.TheVariants.{Input}
use Rattle.chip.specs.declared.channel.Fill.{Fill}
use Rattle.chip.specs.declared.Chip.{Chip}
use Rattle.chip.specs.State.{port_of, tally_of}
use Rattle.chip.specs.Pins.{pins_of}
use Rattle.fates.specs.Numbers.{own_port, own_line, own_flag}
use Rattle.fates.specs.Bytes.{overwritten, swallowed}
use Rattle.fates.specs.Examples.{◌at◌is◌at◌}
use Rattle.fates.specs.Promise.{tallies, surroundings_of, new_bytes, old_byte}
use Rattle.fates.specs.Discipline.{Disciplined}

-- The group's port takes bytes by STB, its input is in the condition f, and STB is high. The levels x lower it.
pub record StbFalls (g : Group) (c : Chip) (f : Fill) (x : ℕ) : Type 0 where
  pub takes : strobed_input c.core.word g ≡ true
  pub fill : (port_of c.core g).input.fill ≡ f
  pub high : bit_of c.core.c.outside (own_line g Input) ≡ true
  pub low : bit_of x (own_line g Input) ≡ false

-- STB falls while a byte waits, and so while IBF is high. The discipline forbids it. That byte is overwritten there, and is counted so, and not as
-- swallowed.
pub record Overwrites (g : Group) (c : Chip) (x : ℕ) : Type 0 where
  pub ibf_high : bit_of (pins_of c 2).levels (own_flag g Input) ≡ true
  pub forbidden : ¬ Disciplined g (surroundings_of c) c (levels 2 x)
  pub byte : old_byte g Input c (levels 2 x) ≡ ((port_of c.core g).input.latch at 0 is overwritten at 1) ∷ []
  pub counted : (tallies g Input c (levels 2 x)).overwritten ≡ ((tally_of c g Input).overwritten + 1) % 65536
  pub not_swallowed : (tallies g Input c (levels 2 x)).swallowed ≡ (tally_of c g Input).swallowed

-- STB falls, and the read that runs ends.
abbrev pub strobe_in_a_read : ℕ → List Event
strobe_in_a_read x = levels 2 x ++ cycle_end

-- So it is while that read fetches a byte, and so while IBF is high. The discipline forbids it. The byte that comes in is swallowed as the read ends,
-- and is counted so, and not as overwritten.
pub record SwallowsTheNext (g : Group) (c : Chip) (x : ℕ) : Type 0 where
  pub ibf_high : bit_of (pins_of c 2).levels (own_flag g Input) ≡ true
  pub forbidden : ¬ Disciplined g (surroundings_of c) c (strobe_in_a_read x)
  pub byte : new_bytes g Input c (strobe_in_a_read x) ≡ ((port_of c.core g).outside at 1 is swallowed at 2) ∷ []
  pub counted : (tallies g Input c (strobe_in_a_read x)).swallowed ≡ ((tally_of c g Input).swallowed + 1) % 65536
  pub not_overwritten : (tallies g Input c (strobe_in_a_read x)).overwritten ≡ (tally_of c g Input).overwritten

-- A read of the port begins, STB falls, and the read ends.
abbrev pub read_over_a_strobe : Group → ℕ → List Event
read_over_a_strobe g x = read_from (own_port g) ++ levels 2 x ++ cycle_end

-- All this comes to an empty channel, so that IBF is low as the read begins. The discipline forbids it. The byte that comes in is swallowed as the
-- read ends, and is counted so, and not as overwritten.
pub record Swallows (g : Group) (c : Chip) (x : ℕ) : Type 0 where
  pub ibf_low : bit_of (pins_of c 2).levels (own_flag g Input) ≡ false
  pub forbidden : ¬ Disciplined g (surroundings_of c) c (read_over_a_strobe g x)
  pub byte : new_bytes g Input c (read_over_a_strobe g x) ≡ ((port_of c.core g).outside at 2 is swallowed at 3) ∷ []
  pub counted : (tallies g Input c (read_over_a_strobe g x)).swallowed ≡ ((tally_of c g Input).swallowed + 1) % 65536
  pub not_overwritten : (tallies g Input c (read_over_a_strobe g x)).overwritten ≡ (tally_of c g Input).overwritten
