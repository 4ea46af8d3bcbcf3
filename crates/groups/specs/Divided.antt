-- How a chip is divided between the two groups: that nothing of it is forgotten ("Two groups").
use Rattle.std.specs.Prelude.{◌≡◌, not, ◌&&◌, ℕ, ◌<◌, eqb}
use Rattle.control.specs.declared.Group.{Group}
use Rattle.control.specs.declared.Group.TheVariants.{A, B}
use Rattle.chip.specs.declared.Chip.{Chip}
use Rattle.groups.specs.Belongings.{its_pin, belongings_of}
use Rattle.groups.specs.Doings.{acts_on}

-- A pin of port C belongs to one group and not to the other, and that one acts on it, unless it is pin 3.
pub record PinDivided (n : ℕ) : Type 0 where
  pub belongs : its_pin A n ≡ not (its_pin B n)
  pub acted : (g : Group) → acts_on g n ≡ (its_pin g n && not (eqb n 3))

-- Port C's latch and the levels on its lines are bytes, as their type makes them.
pub record LinesOfBytes (c : Chip) : Type 0 where
  pub latch : c.core.c.latch < 256
  pub outside : c.core.c.outside < 256

-- Two chips share what belongs to neither group, and what belongs to each is the same in both.
pub record SameInAll (c' c : Chip) : Type 0 where
  pub phase : c'.phase ≡ c.phase
  pub edition : c'.edition ≡ c.edition
  pub word : c'.core.word ≡ c.core.word
  pub belongings : (g : Group) → belongings_of g c' ≡ belongings_of g c
