-- The account: what the sheet speaks of, worked out from the events alone. Port C goes pin by pin, and IBF, OBF and INTR as their waveforms:
-- each rises and falls with an event, and else stays ("Writes and bit set/reset", "Handshake", "Forcing the flags").
use Rattle.std.specs.Prelude.{Bool, true, false, cond, not, ◌&&◌, ◌||◌, ℕ, eqb}
use Rattle.bits.specs.Bit.{bit_of}
use Rattle.bus.specs.Event.{Event}
use Rattle.control.specs.declared.Group.{Group}
use Rattle.chip.specs.declared.channel.Side.{Side}
use Rattle.chip.specs.declared.channel.Side.TheVariants.{Input, Output}
use Rattle.chip.specs.declared.Edition.{Edition}
use Rattle.chip.specs.declared.Levels.{Levels}
use Rattle.fates.specs.Surroundings.{Surroundings, at_power_up, surroundings_next}
use Rattle.fates.specs.Effects.{port_number, levels_on, strobe_pin, full_pin, read_runs, write_runs, pin_named, falls, under_low}
use Rattle.account.specs.Summary.{column_of, takes, gives, keeps, signal_at, is_in, settable, reached}
use Rattle.account.specs.Acts.{Act, nothing, anew, read_begins, read_ends, write_begins, written, levels, act}

-- The bus, the edition, the mode word and the levels outside; for each pin of port C the one bit that a program can put there, the latch of a
-- free output or the INTE of STB or ACK; the latches of ports A and B; IBF and OBF; whether IBF is up for a byte that a read has been given; and
-- the two halves of each INTR.
pub record Account : Type 0 where
  pub surroundings : Surroundings
  pub bit : ℕ → Bool
  pub output : Group → ℕ
  pub input : Group → ℕ
  pub ibf : Group → Bool
  pub obf : Group → Bool
  pub given : Group → Bool
  pub asks : Group → Side → Bool

-- Bytes come in by STB, or go out by ACK.
abbrev pub strobed : Surroundings → Group → Side → Bool
strobed a g Input = takes (column_of a.word g)
strobed a g Output = gives (column_of a.word g)

-- The level of a channel's STB or ACK.
abbrev pub line : Surroundings → Group → Side → Bool
line a g s = bit_of a.levels_c (strobe_pin g s)

-- A write to control that is no mode word names pin n.
abbrev pub names : ℕ → ℕ → ℕ → Bool
names x d n = eqb x 3 && eqb n (pin_named d)

-- It names the pin of a channel's IBF or OBF.
abbrev pub forces : Surroundings → Group → Side → ℕ → ℕ → Bool
forces a g s x d = strobed a g s && names x d (full_pin g s)

-- The bit b at pin n: a control word puts the one that it names, and a write to port C those that it reaches.
abbrev pub bit_after : Surroundings → ℕ → Bool → Act → Bool
bit_after a n b nothing = b
bit_after a n b anew = false
bit_after a n b (read_begins x) = b
bit_after a n b (read_ends x) = b
bit_after a n b (write_begins x) = b
bit_after a n b (written x d) =
    cond (names x d n && settable (signal_at a.word n) (is_in a.word n)) (bit_of d 0)
    (cond (eqb x 2 && reached a.word n) (bit_of d n) b)
bit_after a n b (levels x d) = b

-- A port's output latch: what is written to it, where it keeps that.
abbrev pub output_after : Surroundings → Group → ℕ → Act → ℕ
output_after a g l nothing = l
output_after a g l anew = 0
output_after a g l (read_begins x) = l
output_after a g l (read_ends x) = l
output_after a g l (write_begins x) = l
output_after a g l (written x d) = cond (eqb x (port_number g) && keeps (column_of a.word g)) d l
output_after a g l (levels x d) = l

-- A port's input latch: what stands on its lines as STB falls, and what comes there while STB is low.
abbrev pub input_after : Surroundings → Group → ℕ → Act → ℕ
input_after a g l nothing = l
input_after a g l anew = 0
input_after a g l (read_begins x) = l
input_after a g l (read_ends x) = l
input_after a g l (write_begins x) = l
input_after a g l (written x d) = l
input_after a g l (levels x d) =
    cond (strobed a g Input) (cond (falls g Input a x d) (levels_on g a) (cond (under_low g a x) d l)) l

-- IBF: set as STB falls, and reset as RD rises at the port. Bit set/reset forces it, but does not take it down while a read has its byte.
abbrev pub ibf_after : Surroundings → Group → Bool → Bool → Act → Bool
ibf_after a g f given nothing = f
ibf_after a g f given anew = false
ibf_after a g f given (read_begins x) = f
ibf_after a g f given (read_ends x) = f && not (eqb x (port_number g) && strobed a g Input)
ibf_after a g f given (write_begins x) = f
ibf_after a g f given (written x d) = cond (forces a g Input x d) (bit_of d 0 || given) f
ibf_after a g f given (levels x d) = f || (strobed a g Input && falls g Input a x d)

-- A read that begins at the port while IBF is up is given the byte, and has it until RD rises. A byte that STB brings meanwhile it has not.
abbrev pub given_after : Surroundings → Group → Bool → Bool → Act → Bool
given_after a g f given nothing = given
given_after a g f given anew = false
given_after a g f given (read_begins x) = given || (f && (eqb x (port_number g) && strobed a g Input))
given_after a g f given (read_ends x) = given && not (eqb x (port_number g) && strobed a g Input)
given_after a g f given (write_begins x) = given
given_after a g f given (written x d) = given
given_after a g f given (levels x d) = given && not (strobed a g Input && falls g Input a x d)

-- OBF: reset as WR rises at the port, and set as ACK falls. Bit set/reset forces it.
abbrev pub obf_after : Surroundings → Group → Bool → Act → Bool
obf_after a g f nothing = f
obf_after a g f anew = true
obf_after a g f (read_begins x) = f
obf_after a g f (read_ends x) = f
obf_after a g f (write_begins x) = f
obf_after a g f (written x d) = cond (forces a g Output x d) (bit_of d 0) (f && not (eqb x (port_number g) && strobed a g Output))
obf_after a g f (levels x d) = f || (strobed a g Output && falls g Output a x d)

-- The flag of a channel.
abbrev pub flag : Account → Group → Side → Bool
flag a g Input = a.ibf g
flag a g Output = a.obf g

-- The cycle that serves a channel runs: a read of an input's port, a write to an output's.
abbrev pub served : Surroundings → Group → Side → Bool
served a g Input = read_runs g a.phase
served a g Output = write_runs g a.phase

-- A half of INTR as the line of its channel goes from a level to another: low, it takes the half down; as it rises it lets the half up, where
-- INTE and the flag are set and the port is not being served; where it stays high, so does the half.
abbrev pub with_line : Account → Group → Side → Bool → Bool
with_line a g s high =
    high
    && cond (line a.surroundings g s) (a.asks g s)
    (strobed a.surroundings g s && (a.bit (strobe_pin g s) && (flag a g s && not (served a.surroundings g s))))

-- As INTE is put: reset, it takes the half down; set, it lets it up, where the flag and the line are high.
abbrev pub with_enable : Account → Group → Side → Bool → Bool
with_enable a g s on = on && (strobed a.surroundings g s && (flag a g s && line a.surroundings g s))

-- As the flag is forced: a half is up where the flag is then high, and INTE and the line are.
abbrev pub with_flag : Account → Group → Side → Bool → Bool
with_flag a g s high = high && (strobed a.surroundings g s && (a.bit (strobe_pin g s) && line a.surroundings g s))

-- The level of the flag once it is forced to v: that level, but that IBF stays up while a read has its byte.
abbrev pub forced_level : Account → Group → Side → Bool → Bool
forced_level a g Input v = v || a.given g
forced_level a g Output v = v

-- A half of INTR. An input's falls as RD falls at the port, an output's as WR does. The end of a bit set/reset that names its INTE or its flag puts
-- it anew, and no other cycle moves it.
abbrev pub asks_after : Account → Group → Side → Act → Bool
asks_after a g s nothing = a.asks g s
asks_after a g s anew = false
asks_after a g Input (read_begins x) = a.asks g Input && not (eqb x (port_number g))
asks_after a g Output (read_begins x) = a.asks g Output
asks_after a g s (read_ends x) = a.asks g s
asks_after a g Input (write_begins x) = a.asks g Input
asks_after a g Output (write_begins x) = a.asks g Output && not (eqb x (port_number g))
asks_after a g s (written x d) =
    cond (names x d (strobe_pin g s)) (with_enable a g s (bit_of d 0))
    (cond (forces a.surroundings g s x d) (with_flag a g s (forced_level a g s (bit_of d 0)))
    (a.asks g s))
asks_after a g s (levels x d) = cond (eqb x 2) (with_line a g s (bit_of d (strobe_pin g s))) (a.asks g s)

-- All of it after an act, the surroundings being what they then are.
abbrev pub account_after : Account → Surroundings → Act → Account
account_after a later t = record {
  surroundings = later;
  bit = λ n. bit_after a.surroundings n (a.bit n) t;
  output = λ g. output_after a.surroundings g (a.output g) t;
  input = λ g. input_after a.surroundings g (a.input g) t;
  ibf = λ g. ibf_after a.surroundings g (a.ibf g) (a.given g) t;
  obf = λ g. obf_after a.surroundings g (a.obf g) t;
  given = λ g. given_after a.surroundings g (a.ibf g) (a.given g) t;
  asks = λ g s. asks_after a g s t;
}

-- After an event.
abbrev pub account_next : Account → Event → Account
account_next a e = account_after a (surroundings_next a.surroundings e) (act a.surroundings e)

-- At power-up nothing is put, latched or asked for, IBF is low, and OBF is high.
abbrev pub opened : Edition → Levels → Account
opened ed l = record {
  surroundings = at_power_up ed l;
  bit = λ n. false;
  output = λ g. 0;
  input = λ g. 0;
  ibf = λ g. false;
  obf = λ g. true;
  given = λ g. false;
  asks = λ g s. false;
}
