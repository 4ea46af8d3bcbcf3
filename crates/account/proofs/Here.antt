-- What an account that agrees with a chip finds in its tables, and around it, under the chip's own word.
-- Rests on Agrees, Words and Ports.
use Rattle.std.proofs.Common.{◌≡◌, ◌∙◌, ap, true, ℕ, ◌<◌, lit<}
use Rattle.bits.specs.Bit.{bit_of}
use Rattle.control.specs.declared.Group.{Group}
use Rattle.control.specs.declared.Group.TheVariants.{A, B}
use Rattle.chip.specs.declared.channel.Side.{Side}
use Rattle.chip.specs.declared.channel.Side.TheVariants.{Input, Output}
use Rattle.chip.specs.declared.Chip.{Chip}
use Rattle.chip.specs.State.{port_of}
use Rattle.chip.specs.Handshakes.{strobed, enable_of}
use Rattle.fates.specs.Effects.{levels_on, strobe_pin}
use Rattle.account.specs.Summary.{column_of, signal_at, is_in}
use Rattle.account.specs.Account.{Account}
use Rattle.account.specs.Promise.{with_bit7}
use Rattle.account.proofs.Words.{column_alike, signal_alike, in_alike, with_bit_7_alike}
use Rattle.account.proofs.Ports.{outside_here}
use Rattle.account.proofs.Agrees.{Agrees, line_bit}

-- The pins of the lines.
pub pin_below : (g : Group) (s : Side) → strobe_pin g s < 8
pin_below A Input = lit< tt
pin_below A Output = lit< tt
pin_below B Input = lit< tt
pin_below B Output = lit< tt

module _ (c : Chip) (a : Account) (k : Agrees c a) where
  abbrev w : ℕ
  w = c.core.word

  -- The account's table is that of the chip's own word.
  pub column_here : (g : Group) → column_of a.surroundings.word g ≡ column_of w g
  column_here g = ap (λ r. column_of r.word g) k.surroundings ∙ column_alike (with_bit7 w) w (with_bit_7_alike w) g

  pub signal_here : (n : ℕ) → signal_at a.surroundings.word n ≡ signal_at w n
  signal_here n = ap (λ r. signal_at r.word n) k.surroundings ∙ signal_alike (with_bit7 w) w (with_bit_7_alike w) n

  pub in_here : (n : ℕ) → is_in a.surroundings.word n ≡ is_in w n
  in_here n = ap (λ r. is_in r.word n) k.surroundings ∙ in_alike (with_bit7 w) w (with_bit_7_alike w) n

  pub lines_here : (n : ℕ) → bit_of a.surroundings.levels_c n ≡ bit_of c.core.c.outside n
  lines_here n = ap (λ r. bit_of r.levels_c n) k.surroundings

  pub levels_here : (g : Group) → levels_on g a.surroundings ≡ (port_of c.core g).outside
  levels_here g = ap (levels_on g) k.surroundings ∙ outside_here c g

  -- The bit at the line of a strobed channel is its enable.
  pub line_same : (g : Group) (s : Side) → strobed w g s ≡ true → a.bit (strobe_pin g s) ≡ enable_of c.core.inte g s
  line_same g s on = k.bit (strobe_pin g s) (pin_below g s) ∙ line_bit c.core g s on
