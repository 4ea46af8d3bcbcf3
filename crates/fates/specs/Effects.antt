-- What each event of a history is to a channel ("Handshake", "Forcing the flags"), from what surrounds the channel. The table of the four channels
-- stands here once more and apart from the chip's, so that a wrong pin or port on either side is seen.
use Rattle.std.specs.Prelude.{Bool, true, false, cond, not, ◌&&◌, ◌||◌, List, [], ◌∷◌, ℕ, ◌+◌, ◌*◌, eqb}
use Rattle.bits.specs.Bit.{bit_of, num}
use Rattle.bus.specs.Event.{Event}
use Rattle.bus.specs.declared.Phase.{Phase}
use Rattle.bus.specs.declared.Phase.TheVariants.{Idle, Reading, Writing}
use Rattle.control.specs.declared.Group.{Group}
use Rattle.control.specs.declared.Group.TheVariants.{A, B}
use Rattle.chip.specs.declared.channel.Side.{Side}
use Rattle.chip.specs.declared.channel.Side.TheVariants.{Input, Output}
use Rattle.fates.specs.Kinds.{Kind, reset, cycle_ended, unknown, read_begun, write_begun, new_levels, kind_of, accepts}
use Rattle.fates.specs.Surroundings.{Surroundings, of_mode_word, brought, surroundings_next}

-- What an event can be to a channel. `offered v`: the byte v comes in by STB, or is written. `followed v`: the levels v come onto the lines
-- of an input whose STB is low, whether or not a byte waits there to take that value. `taken`: a read of the port begins, or ACK falls,
-- whether or not a byte is there to be had. `ended`: that read is over. `cleared_away`: all channels are wiped. `forced_full`: the flag is forced so
-- that it says that a byte is there, whether or not there is room for one. `forced_empty`: it is forced so that it says that none is, whether or
-- not one waits. `nothing`: the event is for others.
pub data Effect : Type 0 where
  offered followed : ℕ → Effect
  taken ended cleared_away forced_full forced_empty nothing : Effect

-- A channel's port, on the bus and among the ports.
abbrev pub port_number : Group → ℕ
port_number A = 0
port_number B = 1

-- The levels outside on that port.
abbrev pub levels_on : Group → Surroundings → ℕ
levels_on A a = a.levels_a
levels_on B a = a.levels_b

-- The pin of its STB or ACK ("Port C roles").
abbrev pub strobe_pin : Group → Side → ℕ
strobe_pin A Input = 4
strobe_pin A Output = 6
strobe_pin B Input = 2
strobe_pin B Output = 2

-- The pin of its IBF or OBF ("Port C roles").
abbrev pub full_pin : Group → Side → ℕ
full_pin A Input = 5
full_pin A Output = 7
full_pin B Input = 1
full_pin B Output = 1

-- Group A is in mode 2 by bit 6 of the mode word; group B never is.
abbrev pub in_mode_two : ℕ → Group → Bool
in_mode_two w A = bit_of w 6
in_mode_two w B = false

-- Otherwise group A is in mode 1 by bit 5, and group B by bit 2 ("Mode words").
abbrev pub in_mode_one : ℕ → Group → Bool
in_mode_one w A = bit_of w 5
in_mode_one w B = bit_of w 2

-- The port's direction is that of the side: port A an input by bit 4, port B by bit 1.
abbrev pub facing : ℕ → Group → Side → Bool
facing w A Input = bit_of w 4
facing w A Output = not (bit_of w 4)
facing w B Input = bit_of w 1
facing w B Output = not (bit_of w 1)

-- The mode word strobes the channel: both channels of the port in mode 2, and in mode 1 the one that its direction asks for.
abbrev pub strobes : ℕ → Group → Side → Bool
strobes w g s = in_mode_two w g || (in_mode_one w g && facing w g s)

-- A read of the port runs.
abbrev pub read_runs : Group → Phase → Bool
read_runs g Idle = false
read_runs g (Reading p) = eqb p (port_number g)
read_runs g (Writing x d) = false

-- A write to it runs.
abbrev pub write_runs : Group → Phase → Bool
write_runs g Idle = false
write_runs g (Reading p) = false
write_runs g (Writing x d) = eqb x (port_number g)

-- Levels d on port x lower the channel's STB or ACK, which was high: only port C has such lines.
abbrev pub falls : Group → Side → Surroundings → ℕ → ℕ → Bool
falls g s a x d = eqb x 2 && (bit_of a.levels_c (strobe_pin g s) && not (bit_of d (strobe_pin g s)))

-- Levels on port x come onto the port's own lines while its STB is low.
abbrev pub under_low : Group → Surroundings → ℕ → Bool
under_low g a x = eqb x (port_number g) && not (bit_of a.levels_c (strobe_pin g Input))

-- The pin that a bit set/reset word names, in its bits 3 to 1 ("Writes and bit set/reset").
abbrev pub pin_named : ℕ → ℕ
pin_named d = num (bit_of d 1) + 2 * num (bit_of d 2) + 4 * num (bit_of d 3)

-- The write that runs is of such a word and names pin n: it is to control, and bit 7 is clear.
abbrev pub of_pin : Phase → ℕ → Bool
of_pin Idle n = false
of_pin (Reading p) n = false
of_pin (Writing x d) n = eqb x 3 && (not (bit_of d 7) && eqb (pin_named d) n)

-- The level of its flag says that a byte is there: IBF does so when it is set, and OBF when it is reset.
abbrev pub says_full : Side → Bool → Bool
says_full Input level = level
says_full Output level = not level

-- An effect under a condition.
abbrev pub when : Bool → Effect → Effect
when holds d = cond holds d nothing

-- What bit set/reset is to the channel, as its write ends: where it names the flag, the level is bit 0 ("Forcing the flags").
abbrev pub forced : Group → Side → Phase → Effect
forced g s ph = when (of_pin ph (full_pin g s)) (cond (says_full s (bit_of (brought ph) 0)) forced_full forced_empty)

-- What an accepted event is to a strobed channel ("Handshake"). The end of a cycle is what the phase makes of it: to an input it ends the
-- read of its port, where that runs; to an output it offers the byte written to its port, where that write runs; to either it forces the flag
-- where bit set/reset names it.
abbrev pub own_effect : Group → Side → Surroundings → Kind → Effect
own_effect g s a reset = nothing
own_effect g Input a (read_begun x) = when (eqb x (port_number g)) taken
own_effect g Output a (read_begun x) = nothing
own_effect g Input a cycle_ended = cond (read_runs g a.phase) ended (forced g Input a.phase)
own_effect g Output a cycle_ended = cond (write_runs g a.phase) (offered (brought a.phase)) (forced g Output a.phase)
own_effect g s a (write_begun x d) = nothing
own_effect g Input a (new_levels x d) = cond (falls g Input a x d) (offered (levels_on g a)) (when (under_low g a x) (followed d))
own_effect g Output a (new_levels x d) = when (falls g Output a x d) taken
own_effect g s a unknown = nothing

-- A reset wipes every channel, in whatever mode, and so does the end of a mode word's write ("State", "Mode words").
abbrev pub clears : Phase → Kind → Bool
clears ph reset = true
clears ph (read_begun x) = false
clears ph cycle_ended = of_mode_word ph
clears ph (write_begun x d) = false
clears ph (new_levels x d) = false
clears ph unknown = false

-- What an accepted event is to a channel. Without a handshake, lines and cycles are nothing to it ("Events and numbers").
abbrev pub effect_of : Group → Side → Surroundings → Kind → Effect
effect_of g s a e = cond (clears a.phase e) cleared_away (when (strobes a.word g s) (own_effect g s a e))

-- What an event is to a channel; a refused one is nothing.
abbrev pub effect : Group → Side → Surroundings → Event → Effect
effect g s a e = when (accepts a.edition a.phase (kind_of e)) (effect_of g s a (kind_of e))

-- What the events of a history are to a channel, one after the other.
abbrev pub effects : Group → Side → Surroundings → List Event → List Effect
effects g s a [] = []
effects g s a (e ∷ es) = effect g s a e ∷ effects g s (surroundings_next a e) es
