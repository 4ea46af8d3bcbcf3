-- Of chips alike in what belongs to a group, the same is seen of it.
-- Rests on Alike, bits' BitLaws, fates' Tables, and on laws' OwnPort, ChannelPins and PortC.
use Rattle.std.proofs.Common.{◌≡◌, ◌∙◌, refl, ap, sym, Bool, true, false, ◌&&◌, ℕ, ◌<◌}
use Rattle.bits.specs.Bit.{bit_of}
use Rattle.bits.proofs.BitLaws.{assembled_same}
use Rattle.control.specs.declared.Group.{Group}
use Rattle.control.specs.declared.Group.TheVariants.{A, B}
use Rattle.control.specs.Role.{Role, input, output, INTR, IBF, OBF, STB, ACK, role_of}
use Rattle.chip.specs.declared.channel.Side.{Side}
use Rattle.chip.specs.declared.channel.Side.TheVariants.{Input, Output}
use Rattle.chip.specs.Channel.{flag_of}
use Rattle.chip.specs.declared.Core.{Core}
use Rattle.chip.specs.declared.Chip.{Chip}
use Rattle.chip.specs.State.{side_of}
use Rattle.chip.specs.Status.{flag_at, request_of, intr_of}
use Rattle.chip.specs.Reasons.{reason_of, explained_in}
use Rattle.chip.specs.Reads.{read_as, read_of}
use Rattle.chip.specs.Pins.{drives_port, is_driven, level_as, pins_of}
use Rattle.laws.specs.Seen.{pin, told, driven}
use Rattle.laws.proofs.OwnPort.{own_pins, own_read}
use Rattle.laws.proofs.ChannelPins.{pin_by_role, told_by_role}
use Rattle.laws.proofs.PortC.{driven_by_role}
use Rattle.fates.specs.Effects.{port_number}
use Rattle.fates.proofs.Tables.{own_port_lem}
use Rattle.groups.specs.Belongings.{its_pin, at_its_pins, belongings_of}
use Rattle.groups.proofs.Alike.{SameAt, Alike, AlikeOnBus, line_same, at_its_pin}

-- Bytes with the same bits at the group's pins.
pub same_bits : (g : Group) (x y : ℕ) → SameAt g x y → at_its_pins g x ≡ at_its_pins g y
same_bits g x y same = assembled_same _ _ (λ n small. go n small (its_pin g n) refl)
  where
    go : (n : ℕ) → n < 8 → (its : Bool) → its_pin g n ≡ its → (its && bit_of x n) ≡ (its && bit_of y n)
    go n small true its = same n small its
    go n small false its = refl

drives_same : (g : Group) (c' c : Core) → Alike g c' c → drives_port c' g ≡ drives_port c g
unfolding drives_port
drives_same A c' c k = rw (k.word, line_same A _ _ k.lines Output)
drives_same B c' c k = rw k.word

module _ (g : Group) (c' c : Chip) (alike : AlikeOnBus g c' c) where
  abbrev k : Alike g c'.core c.core
  k = alike.core

  flag_same : (s : Side) → flag_at c'.core g s ≡ flag_at c.core g s
  flag_same s = ap (λ p. flag_of s (side_of p s).fill) k.port

  asks_same : (s : Side) → request_of c' g s ≡ request_of c g s
  unfolding request_of
  asks_same s = rw (flag_same s, k.enables s, line_same g _ _ k.lines s, alike.cycle s, k.word)

  intr_same : intr_of c' g ≡ intr_of c g
  unfolding intr_of
  intr_same = rw (asks_same Input, asks_same Output)

  reason_same : (s : Side) → reason_of c' g s ≡ reason_of c g s
  unfolding reason_of
  reason_same s = rw (k.enables s, flag_same s, line_same g _ _ k.lines s, alike.cycle s)

  explained_same : explained_in c' g ≡ explained_in c g
  unfolding explained_in
  explained_same = cc (reason_same Input, reason_same Output, k.word)

  -- A pin of the group tells the same in every role, and shows the same.
  module _ (n : ℕ) (small : n < 8) (its : its_pin g n ≡ true) where
    tells_same : (r : Role) → read_as c' n r ≡ read_as c n r
    tells_same input = k.lines n small its
    tells_same output = k.latch n small its
    tells_same INTR = rw (at_its_pin g n its) (intr_same)
    tells_same IBF = rw (at_its_pin g n its) (flag_same Input)
    tells_same OBF = rw (at_its_pin g n its) (flag_same Output)
    tells_same STB = rw (at_its_pin g n its) (k.enables Input)
    tells_same ACK = rw (at_its_pin g n its) (k.enables Output)

    shows_same : (r : Role) → level_as c' n r ≡ level_as c n r
    shows_same input = k.lines n small its
    shows_same output = tells_same output
    shows_same INTR = tells_same INTR
    shows_same IBF = tells_same IBF
    shows_same OBF = tells_same OBF
    shows_same STB = k.lines n small its
    shows_same ACK = k.lines n small its

    role_same : role_of c'.core.word n ≡ role_of c.core.word n
    role_same = ap (λ w. role_of w n) k.word

    pin_same : pin c' n ≡ pin c n
    pin_same = pin_by_role c' n small ∙ ap (level_as c' n) role_same ∙ shows_same (role_of c.core.word n) ∙ sym (pin_by_role c n small)

    told_same : told c' n ≡ told c n
    told_same = told_by_role c' n small ∙ ap (read_as c' n) role_same ∙ tells_same (role_of c.core.word n) ∙ sym (told_by_role c n small)

    driven_same : driven c' n ≡ driven c n
    driven_same = driven_by_role c' n small ∙ ap is_driven role_same ∙ sym (driven_by_role c n small)

  shown_same : pins_of c' (port_number g) ≡ pins_of c (port_number g)
  shown_same =
      own_pins c' (port_number g) g (own_port_lem g)
      ∙ rw (k.port, drives_same g c'.core c.core k) (sym (own_pins c (port_number g) g (own_port_lem g)))

  read_same : read_of c' (port_number g) ≡ read_of c (port_number g)
  read_same = own_read c' (port_number g) g (own_port_lem g) ∙ rw (k.port, k.word) (sym (own_read c (port_number g) g (own_port_lem g)))

  -- So all that belongs to the group is the same.
  pub same_belongings : belongings_of g c' ≡ belongings_of g c
  same_belongings =
      cc (
        k.port,
        k.enables Input,
        k.enables Output,
        explained_same,
        shown_same,
        read_same,
        same_bits g _ _ pin_same,
        same_bits g _ _ driven_same,
        same_bits g _ _ told_same,
        same_bits g _ _ k.latch,
        same_bits g _ _ k.lines,
      )
