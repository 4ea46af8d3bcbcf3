-- Every event that a frame can hold is read back from it, and so are good bases from the digits that write them.
-- Rests on bits' Logic and text's Written.
use Rattle.std.proofs.Common.{◌≡◌, refl, ap₂, Bool, true, cond, not, ◌&&◌, List, [], ◌∷◌, ◌++◌, ℕ, ◌+◌, ◌*◌, ◌/◌, ◌%◌, ◌<◌, arith, eqb, leb, ltb, lt-ltb, leb-true}
use Rattle.bits.proofs.Logic.{both}
use Rattle.bus.specs.Kinds as kinds
use Rattle.bus.specs.Kinds.{is_kind}
use Rattle.rack.specs.Bases.{card_width, last_base, is_base, is_among, are_bases}
use Rattle.text.specs.Digits.{no_byte, digit_code, pair_value, in_digits}
use Rattle.text.specs.Frames.{leading_byte}
use Rattle.text.proofs.Written.{pair_written}
use Rattle.script.specs.RackBases.{no_base, base_of, leading_base, bases_of_line}
use Rattle.script.specs.RackFrames.{Event, NoFrame, operand_bytes, is_rack_frame, event_of, rack_frame_of}

-- An address, or a base, in four digits.
abbrev pub in_four : ℕ → List ℕ
in_four a = in_digits (a / 256) ++ in_digits (a % 256)

-- The byte that two digits write.
abbrev byte_written : ℕ → ℕ
byte_written n = pair_value (digit_code (n / 16)) (digit_code n)

module _ (a : ℕ) (fits : a < 65536) where
  high_fits : a / 256 < no_byte
  high_fits = omega arith

  low_fits : a % 256 < no_byte
  low_fits = omega arith

  together : a % 256 + 256 * (a / 256) ≡ a
  together = omega arith

pub reset_written : rack_frame_of (in_digits kinds.reset) ≡ Event kinds.reset 0 0 0
unfolding rack_frame_of is_rack_frame event_of operand_bytes is_kind leading_byte
reset_written = rw (pair_written kinds.reset (omega arith))

pub end_written : rack_frame_of (in_digits kinds.end_cycle) ≡ Event kinds.end_cycle 0 0 0
unfolding rack_frame_of is_rack_frame event_of operand_bytes is_kind leading_byte
end_written = rw (pair_written kinds.end_cycle (omega arith))

module _ (a : ℕ) (fits : a < 65536) where
  -- Four digits write two bytes: each passes the test of a byte, and together they are the address, whatever is made of these three.
  in_four_read : {X : Type 0} (make : Bool → Bool → ℕ → X)
      → make (ltb (byte_written (a / 256)) no_byte) (ltb (byte_written (a % 256)) no_byte) (byte_written (a % 256) + 256 * byte_written (a / 256))
      ≡ make true true a
  in_four_read make =
      rw (
        pair_written (a / 256) (high_fits a fits),
        pair_written (a % 256) (low_fits a fits),
        lt-ltb (a / 256) no_byte (high_fits a fits),
        lt-ltb (a % 256) no_byte (low_fits a fits),
        together a fits,
      )

  pub read_written : rack_frame_of (in_digits kinds.begin_read ++ in_four a) ≡ Event kinds.begin_read a 0 0
  unfolding rack_frame_of is_rack_frame event_of operand_bytes is_kind leading_byte
  read_written =
      rw (pair_written kinds.begin_read (omega arith))
      (in_four_read (λ high low a. cond (high && low && true) (Event kinds.begin_read a 0 0) NoFrame))

  pub write_written : (d : ℕ) → d < no_byte → rack_frame_of (in_digits kinds.begin_write ++ in_four a ++ in_digits d) ≡ Event kinds.begin_write a d 0
  unfolding rack_frame_of is_rack_frame event_of operand_bytes is_kind leading_byte
  write_written d hd =
      rw (pair_written kinds.begin_write (omega arith), pair_written d hd, lt-ltb d no_byte hd)
      (in_four_read (λ high low a. cond (high && low && true) (Event kinds.begin_write a d 0) NoFrame))

  base_written : (later : List ℕ) → leading_base (in_four a ++ later) ≡ a
  unfolding leading_base base_of
  base_written later = in_four_read (λ high low a. cond (high && low) a no_base)

pub levels_written : (place port d : ℕ) → place < no_byte → port < no_byte → d < no_byte
    → rack_frame_of (in_digits kinds.outside_levels ++ in_digits place ++ in_digits port ++ in_digits d) ≡ Event kinds.outside_levels place port d
unfolding rack_frame_of is_rack_frame event_of operand_bytes is_kind leading_byte
levels_written place port d hi hp hd =
    rw (
      pair_written kinds.outside_levels (omega arith),
      pair_written place hi,
      pair_written port hp,
      pair_written d hd,
      lt-ltb place no_byte hi,
      lt-ltb port no_byte hp,
      lt-ltb d no_byte hd,
    )

-- Bases, one behind the other.
abbrev pub in_fours : List ℕ → List ℕ
in_fours [] = []
in_fours (b ∷ bs) = in_four b ++ in_fours bs

base_fits : (b : ℕ) → is_base b ≡ true → b < 65536
unfolding is_base
base_fits b e = omega (arith, leb-true b last_base (both (eqb (b % card_width) 0) (leb b last_base) e).1)

pub bases_written : (bs : List ℕ) → are_bases bs ≡ true → bases_of_line (in_fours bs) ≡ bs
unfolding are_bases bases_of_line
bases_written [] e = refl
bases_written (b ∷ bs) e =
    let each = both (is_base b) (not (is_among b bs) && are_bases bs) e in
    ap₂ (λ (b : ℕ) (bs : List ℕ). b ∷ bs) (base_written b (base_fits b each.0) (in_fours bs))
    (bases_written bs (both (not (is_among b bs)) (are_bases bs) each.1).1)
