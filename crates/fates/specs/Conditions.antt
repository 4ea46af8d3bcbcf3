-- The conditions under which more is promised of a history, and the order of a channel's bytes, by plain numbers of kinds, addresses, bits and pins
-- ("Discipline", "Forcing the flags", "Levels at power-up"). These stand apart from the definitions that they say again.
use Rattle.std.specs.Prelude.{◌≡◌, Bool, true, false, List, [], ◌∷◌, ◌++◌, ℕ, suc, ◌+◌, ◌*◌, ◌/◌, ◌%◌, ◌<◌, ◌≤◌, Some, slice_get}
use Rattle.bits.specs.Bit.{bit_of}
use Rattle.bus.specs.Event.{Event}
use Rattle.bus.specs.declared.Phase.TheVariants.{Idle, Reading, Writing}
use Rattle.control.specs.declared.Group.{Group}
use Rattle.chip.specs.declared.channel.Side.{Side}
use Rattle.chip.specs.declared.channel.Side.TheVariants.{Input}
use Rattle.chip.specs.declared.channel.Fill.{Fill}
use Rattle.chip.specs.declared.channel.Fill.TheVariants.{Empty, Waiting, Fetching}
use Rattle.chip.specs.declared.channel.Tally.{Tally}
use Rattle.chip.specs.declared.Chip.{Chip}
use Rattle.chip.specs.State.{port_of}
use Rattle.chip.specs.Pins.{pins_of}
use Rattle.laws.specs.PlainBits.{handshake_on}
use Rattle.fates.specs.Numbers.{own_port, own_line, own_flag}
use Rattle.fates.specs.Bytes.{Byte}
use Rattle.fates.specs.Promise.{run}

-- Wherever an event stands in a history, P holds of the events before it and of the event.
abbrev pub Wherever : (List Event → Event → Type 0) → List Event → Type 0
Wherever P es = (before later : List Event) (e : Event) → es ≡ before ++ e ∷ later → P before e

-- An event forces the flag of a channel: it ends a write to control of a word that has bit 7 clear and names the flag's pin in bits 3 to 1. The mode
-- word gives the channel a handshake. Bit 0 may have either level, there may be no room for a byte, and there may be none to strike.
pub record Forces (g : Group) (s : Side) (c : Chip) (e : Event) : Type 0 where
  pub ends : e.kind ≡ 2
  pub word : ℕ
  pub writes : c.phase ≡ Writing 3 word
  pub bit_7 : bit_of word 7 ≡ false
  pub pin : word / 2 % 8 ≡ own_flag g s
  pub strobed : handshake_on c.core.word g s ≡ true

-- No event of a history does, from the chip c on.
abbrev pub NoneForces : Group → Side → Chip → List Event → Type 0
NoneForces g s c = Wherever (λ before e. ¬ Forces g s (run c before) e)

-- STB falls at a port that takes bytes by it: levels on port C lower its pin, which was high.
pub record LowersStb (g : Group) (c : Chip) (e : Event) : Type 0 where
  pub takes : handshake_on c.core.word g Input ≡ true
  pub levels : e.kind ≡ 5
  pub lines : e.first ≡ 2
  pub high : bit_of c.core.c.outside (own_line g Input) ≡ true
  pub low : bit_of e.second (own_line g Input) ≡ false

-- A read of such a port begins, on an idle bus.
pub record BeginsRead (g : Group) (c : Chip) (e : Event) : Type 0 where
  pub takes : handshake_on c.core.word g Input ≡ true
  pub idle : c.phase ≡ Idle
  pub read : e.kind ≡ 1
  pub port : e.first ≡ own_port g

-- The level of IBF in the pin view.
abbrev pub ibf_level : Chip → Group → Bool
ibf_level c g = bit_of (pins_of c 2).levels (own_flag g Input)

-- The two rules: STB falls only while IBF is low, and such a read begins only while it is high.
pub record MindsIbf (g : Group) (c : Chip) (e : Event) : Type 0 where
  pub strobes : LowersStb g c e → ibf_level c g ≡ false
  pub reads : BeginsRead g c e → ibf_level c g ≡ true

-- Every event of a history keeps to them, from the chip c on.
abbrev pub EachMindsIbf : Group → Chip → List Event → Type 0
EachMindsIbf g c = Wherever (λ before e. MindsIbf g (run c before) e)

-- A read of such a port, if it runs, has found a byte.
abbrev pub ReadHasFound : Group → Chip → Type 0
ReadHasFound g c = handshake_on c.core.word g Input ≡ true → c.phase ≡ Reading (own_port g) → (port_of c.core g).input.fill ≡ Fetching

-- STB of the port falls as the levels x come onto port C, and its input is in the condition f.
pub record FallsOn (g : Group) (c : Chip) (f : Fill) (x : ℕ) : Type 0 where
  pub lowers : LowersStb g c (record { kind = 5; first = 2; second = x })
  pub fill : (port_of c.core g).input.fill ≡ f

-- A history tells what the latch of a channel holds after an event: that of an input always, that of an output with a handshake, and any after a
-- reset, and after a write to control of a word that has bit 7 set has ended.
pub data LatchIsTold (g : Group) (s : Side) (c : Chip) (e : Event) : Type 0 where
  of_an_input : s ≡ Input → LatchIsTold g s c e
  with_a_handshake : handshake_on c.core.word g s ≡ true → LatchIsTold g s c e
  by_a_reset : e.kind ≡ 0 → LatchIsTold g s c e
  by_a_mode_word : {w : ℕ} → e.kind ≡ 2 → c.phase ≡ Writing 3 w → bit_of w 7 ≡ true → LatchIsTold g s c e

-- Levels on port C, if the event is that, have pin n low.
abbrev pub RaisesNot : ℕ → Event → Type 0
RaisesNot n e = e.kind ≡ 5 → e.first ≡ 2 → bit_of e.second n ≡ false

-- The seven tallies.
abbrev pub seven : Tally → List ℕ
seven t = t.offered ∷ t.handed ∷ t.overwritten ∷ t.swallowed ∷ t.cleared ∷ t.planted ∷ t.struck ∷ []

-- One byte waits, or none.
abbrev pub waiting_in : Fill → ℕ
waiting_in Empty = 0
waiting_in Waiting = 1
waiting_in Fetching = 0

-- The bytes that came, and those that are gone or wait, are as many but for whole rounds of a tally.
pub record ComesOut (t : Tally) (f : Fill) : Type 0 where
  pub more : ℕ
  pub fewer : ℕ
  pub sums :
      t.offered + t.planted + 65536 * more
      ≡ t.handed + t.overwritten + t.swallowed + t.cleared + t.struck + waiting_in f + 65536 * fewer

-- Bytes in order, by their places in a list. The first is offered at place n of the history or behind it. Each is decided behind the place at which
-- it was offered, and no further behind than the place at which the next is.
pub record Placed (n : ℕ) (bs : List Byte) : Type 0 where
  pub first : (b : Byte) → slice_get bs 0 ≡ Some b → n ≤ b.offer.place
  pub decided : (i : ℕ) (b : Byte) → slice_get bs i ≡ Some b → b.offer.place < b.outcome.place
  pub next : (i : ℕ) (b b' : Byte) → slice_get bs i ≡ Some b → slice_get bs (suc i) ≡ Some b' → b.outcome.place ≤ b'.offer.place
