-- What is promised of the chip's numbers, bytes, pins, reads and interrupts, by the account of a history.
use Rattle.std.specs.Prelude.{◌≡◌, Bool, false, cond, not, ◌&&◌, List, [], ◌∷◌, ℕ, ◌+◌, ◌<◌, ◌≤◌}
use Rattle.bits.specs.Bit.{bit_of}
use Rattle.bus.specs.Event.{Event}
use Rattle.control.specs.declared.Group.{Group}
use Rattle.control.specs.Lookup.{lookup_of}
use Rattle.chip.specs.declared.channel.Side.{Side}
use Rattle.chip.specs.declared.channel.Side.TheVariants.{Input, Output}
use Rattle.chip.specs.Channel.{is_waiting, is_empty}
use Rattle.chip.specs.declared.Chip.{Chip}
use Rattle.chip.specs.declared.Core.{Core}
use Rattle.chip.specs.State.{channel_of}
use Rattle.chip.specs.Handshakes.{enable_of}
use Rattle.chip.specs.Status.{intr_of}
use Rattle.chip.specs.Reasons.{explained_of, numbers_of}
use Rattle.chip.specs.Reads.{read_of}
use Rattle.chip.specs.Pins.{pins_of}
use Rattle.chip.specs.Step.{stepped}
use Rattle.laws.specs.Forcing.{is_fetching}
use Rattle.fates.specs.Kinds.{kind_of}
use Rattle.fates.specs.Surroundings.{Surroundings}
use Rattle.fates.specs.Promise.{run}
use Rattle.account.specs.Summary.{Signal, io, INTR, IBF, OBF, STB, ACK, signal_at, is_in, role_number}
use Rattle.account.specs.Acts.{number_by}
use Rattle.account.specs.Account.{Account, strobed, line, served, account_next}
use Rattle.account.specs.Views.{intr, levels_shown, mask_shown, read_answer, byte_answered}
use Rattle.account.specs.Reasons.{explained}

-- The account after a history.
abbrev pub over : Account → List Event → Account
over a [] = a
over a (e ∷ es) = over (account_next a e) es

-- Where a history begins from a chip as it stands, reached by a history or not, bit 7 of its mode word counts as set ("Events and numbers").
abbrev pub with_bit7 : ℕ → ℕ
with_bit7 w = cond (bit_of w 7) w (w + 128)

abbrev pub surroundings_here : Chip → Surroundings
surroundings_here c = record {
  phase = c.phase;
  edition = c.edition;
  word = with_bit7 c.core.word;
  levels_a = c.core.a.outside;
  levels_b = c.core.b.outside;
  levels_c = c.core.c.outside;
}

-- The bit that it has at a pin, by what the pin is.
abbrev pub bit_here : Core → ℕ → Signal → Bool
bit_here c n io = bit_of c.c.latch n
bit_here c n (INTR g) = false
bit_here c n (IBF g) = false
bit_here c n (OBF g) = false
bit_here c n (STB g) = enable_of c.inte g Input
bit_here c n (ACK g) = enable_of c.inte g Output

-- Its flags; an output marked fetching counts as empty.
abbrev pub flag_here : Core → Group → Side → Bool
flag_here c g Input = not (is_empty (channel_of c g Input).fill)
flag_here c g Output = not (is_waiting (channel_of c g Output).fill)

-- A half of its INTR, by the sheet's equation: INTE, the flag and the line are high, and the port is not being served.
abbrev pub asks_here : Chip → Group → Side → Bool
asks_here c g s =
    strobed (surroundings_here c) g s
    && (enable_of c.core.inte g s && (flag_here c.core g s && (line (surroundings_here c) g s && not (served (surroundings_here c) g s))))

-- The account with which such a history begins.
abbrev pub account_of : Chip → Account
account_of c = record {
  surroundings = surroundings_here c;
  bit = λ n. bit_here c.core n (signal_at (with_bit7 c.core.word) n);
  output = λ g. (channel_of c.core g Output).latch;
  input = λ g. (channel_of c.core g Input).latch;
  ibf = λ g. flag_here c.core g Input;
  obf = λ g. flag_here c.core g Output;
  given = λ g. is_fetching (channel_of c.core g Input).fill;
  asks = asks_here c;
}

-- What is promised after the events es from the chip c, where a is the account of their beginning: the number and the byte of whatever event
-- comes next, and of each port the levels, the mask of the pins that the chip drives and the answer of a read, which control has too; both INTRs,
-- and why one is low.
pub record Accounted (c : Chip) (a : Account) (es : List Event) : Type 0 where
  pub number : (e : Event) → (stepped (run c es) e).number ≡ number_by (over a es).surroundings.edition (over a es).surroundings.phase (kind_of e)
  pub byte : (e : Event) → (stepped (run c es) e).byte ≡ byte_answered (over a es) e
  pub levels : (p : ℕ) → (pins_of (run c es) p).levels ≡ levels_shown (over a es) p
  pub driven : (p : ℕ) → (pins_of (run c es) p).driven ≡ mask_shown (over a es) p
  pub reads : (p : ℕ) → read_of (run c es) p ≡ read_answer (over a es) p
  pub interrupt : (g : Group) → intr_of (run c es) g ≡ intr (over a es) g
  pub explains : (n : ℕ) → numbers_of (explained_of (run c es) n) ≡ explained (over a es) n

-- What is promised of the lookup of a role: the number of the summary's cell, and 255 for a word below 128 and for a pin above 7.
pub record LooksUp (w n : ℕ) : Type 0 where
  pub cell : 128 ≤ w → n < 8 → lookup_of w n ≡ role_number (signal_at w n) (is_in w n)
  pub no_word : w < 128 → lookup_of w n ≡ 255
  pub no_pin : 7 < n → lookup_of w n ≡ 255
