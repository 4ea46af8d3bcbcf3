-- Port C put together of the status word by masks is port C pin by pin ("Reads and pins").
-- Rests on bits' laws of bytes and blends, and on control's PinByMasks.
use Rattle.std.proofs.Common.{◌≡◌, ◌∙◌, refl, ap, ap₂, sym, Bool, true, false, cond, List, [], ◌∷◌, ℕ, ◌<◌, get_or}
use Rattle.bits.specs.Table.{table}
use Rattle.bits.specs.Bit.{bit_of, blend_of}
use Rattle.bits.proofs.Tabled.{table_at}
use Rattle.bits.proofs.Tested.{bits}
use Rattle.bits.proofs.BitLaws.{bit_of_value, assembled_same}
use Rattle.bits.proofs.MaskLaws.{blend_assembled, bit_of_blend}
use Rattle.control.specs.declared.Group.TheVariants.{A, B}
use Rattle.control.specs.Mode.{strobed_input}
use Rattle.control.specs.Role.{role_of}
use Rattle.control.specs.Pins.{handshake_pins, output_pins, handshake_role}
use Rattle.control.proofs.PinByMasks.{sorted, role_by_masks}
use Rattle.chip.specs.declared.channel.Side.TheVariants.{Input, Output}
use Rattle.chip.specs.declared.Chip.{Chip}
use Rattle.chip.specs.Status.{flag_at, intr_of, status_of}
use Rattle.chip.specs.Reads.{read_as, read_lines, read_of}
use Rattle.chip.specs.Pins.{is_driven, level_as, pins_of_lines, pins_of}
use Rattle.laws.specs.StatusWord.{read_by_status, signals, driven_by_status, pins_by_status}

-- The status word has on each pin what the pin reads in the one role that a handshake can give it.
told : (c : Chip) (taking : Bool)
    → (intr_of c B ∷ cond taking (flag_at c.core B Input) (flag_at c.core B Output) ∷ c.core.inte.b ∷ intr_of c A
    ∷ c.core.inte.input ∷ flag_at c.core A Input ∷ c.core.inte.output ∷ flag_at c.core A Output ∷ [])
    ≡ table (λ n. read_as c n (handshake_role taking n)) 8
told c true = refl
told c false = refl

bit_of_status : (c : Chip) (n : ℕ) → n < 8 → bit_of (status_of c) n ≡ read_as c n (handshake_role (strobed_input c.core.word B) n)
unfolding status_of
bit_of_status c n h =
    let taking = strobed_input c.core.word B in
    bit_of_value _ n ∙ ap (λ (bs : List Bool). get_or bs n false) (told c taking)
    ∙ table_at (λ n. read_as c n (handshake_role taking n)) false 8 n h

-- A pin of either kind, in what it reads and in whether it is driven.
read_sorted : (c : Chip) (n : ℕ) (used out taking : Bool)
    → read_as c n (sorted used out taking n)
    ≡ cond used (read_as c n (handshake_role taking n)) (cond out (bit_of c.core.c.latch n) (bit_of c.core.c.outside n))
read_sorted c n true out taking = refl
read_sorted c n false true taking = refl
read_sorted c n false false taking = refl

driven_sorted : (used out taking : Bool) (n : ℕ)
    → is_driven (sorted used out taking n) ≡ cond used (is_driven (handshake_role taking n)) out
driven_sorted true out taking n = refl
driven_sorted false true taking n = refl
driven_sorted false false taking n = refl

driven_in_handshake : (taking : Bool) (n : ℕ) → n < 8 → is_driven (handshake_role taking n) ≡ bit_of signals n
unfolding bit_of
driven_in_handshake true = bits 8 (λ n. is_driven (handshake_role true n)) (λ n. bit_of signals n) tt
driven_in_handshake false = bits 8 (λ n. is_driven (handshake_role false n)) (λ n. bit_of signals n) tt

module _ (c : Chip) (hw : c.core.word < 256) where
  abbrev used : ℕ → Bool
  used n = bit_of (handshake_pins c.core.word) n

  abbrev out : ℕ → Bool
  out n = bit_of (output_pins c.core.word) n

  abbrev latched : ℕ → Bool
  latched n = bit_of c.core.c.latch n

  abbrev outside : ℕ → Bool
  outside n = bit_of c.core.c.outside n

  abbrev taking : Bool
  taking = strobed_input c.core.word B

  reads_at : (n : ℕ) → n < 8
      → read_as c n (role_of c.core.word n) ≡ cond (used n) (bit_of (status_of c) n) (cond (out n) (latched n) (outside n))
  reads_at n hn =
      ap (read_as c n) (role_by_masks c.core.word n hw hn) ∙ read_sorted c n (used n) (out n) taking
      ∙ ap (λ (s : Bool). cond (used n) s (cond (out n) (latched n) (outside n))) (sym (bit_of_status c n hn))

  drives_at : (n : ℕ) → n < 8 → is_driven (role_of c.core.word n) ≡ cond (used n) (bit_of signals n) (out n)
  drives_at n hn =
      ap is_driven (role_by_masks c.core.word n hw hn) ∙ driven_sorted (used n) (out n) taking n
      ∙ ap (λ (d : Bool). cond (used n) d (out n)) (driven_in_handshake taking n hn)

  -- A driven pin shows what is inside, and another what is outside.
  shown : (u d o s l x : Bool) → cond (cond u d o) (cond u s l) x ≡ cond (cond u d o) (cond u s (cond o l x)) x
  shown true d o s l x = refl
  shown false d true s l x = refl
  shown false d false s l x = refl

  -- The three bytes of masks.
  pub lines_by_masks : read_by_status c ≡ read_of c 2
  unfolding read_of read_lines
  lines_by_masks =
      blend_assembled (handshake_pins c.core.word) (status_of c) (blend_of (output_pins c.core.word) c.core.c.latch c.core.c.outside)
      ∙ assembled_same
      (λ n. cond (used n) (bit_of (status_of c) n) (bit_of (blend_of (output_pins c.core.word) c.core.c.latch c.core.c.outside) n))
      (λ n. read_as c n (role_of c.core.word n))
      (λ n hn. rw (bit_of_blend (output_pins c.core.word) c.core.c.latch c.core.c.outside n hn) (sym (reads_at n hn)))

  driven_by_masks : driven_by_status c ≡ (pins_of_lines c).driven
  unfolding pins_of_lines
  driven_by_masks =
      blend_assembled (handshake_pins c.core.word) signals (output_pins c.core.word)
      ∙ assembled_same (λ n. cond (used n) (bit_of signals n) (out n)) (λ n. is_driven (role_of c.core.word n)) (λ n hn. sym (drives_at n hn))

  levels_by_masks : (pins_by_status c).levels ≡ (pins_of_lines c).levels
  unfolding pins_of_lines
  levels_by_masks =
      let inside = blend_of (handshake_pins c.core.word) (status_of c) c.core.c.latch in
      blend_assembled (driven_by_status c) inside c.core.c.outside
      ∙ assembled_same (λ n. cond (bit_of (driven_by_status c) n) (bit_of inside n) (outside n)) (λ n. level_as c n (role_of c.core.word n))
      (λ n hn. rw (
        bit_of_blend (handshake_pins c.core.word) signals (output_pins c.core.word) n hn,
        bit_of_blend (handshake_pins c.core.word) (status_of c) c.core.c.latch n hn,
        drives_at n hn,
        reads_at n hn,
      )
      (shown (used n) (bit_of signals n) (out n) (bit_of (status_of c) n) (latched n) (outside n)))

  pub pins_by_masks : pins_by_status c ≡ pins_of c 2
  unfolding pins_of
  pins_by_masks = ap₂ (λ (l d : ℕ). record { levels = l; driven = d }) levels_by_masks driven_by_masks
