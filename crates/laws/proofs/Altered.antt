-- What it would take: with the one cause altered, a half of which no later reason is seen is high ("Why the interrupt is quiet").
-- Rests on Interrupts, Quiet, bits' BitLaws, and chip's ByReason.
use Rattle.std.proofs.Common.{◌≡◌, ◌∙◌, refl, ap, sym, true, false, not, lit<}
use Rattle.bits.proofs.BitLaws.{bit_of_with}
use Rattle.control.specs.declared.Group.{Group}
use Rattle.control.specs.declared.Group.TheVariants.{A, B}
use Rattle.chip.specs.declared.channel.Side.{Side}
use Rattle.chip.specs.declared.channel.Side.TheVariants.{Input, Output}
use Rattle.chip.specs.Channel.{flag_of}
use Rattle.chip.specs.declared.Chip.{Chip}
use Rattle.chip.specs.Handshakes.{strobed}
use Rattle.chip.specs.declared.reasons.Reason.{Reason}
use Rattle.chip.specs.declared.reasons.Reason.TheVariants.{EnableOff, FlagWrong, LineLow, OwnCycle, High}
use Rattle.chip.specs.Reasons.{holds}
use Rattle.chip.proofs.ByReason.{NoneHolds, by_reason, none_named, none_asks}
use Rattle.laws.specs.Quiet.{later, NoneSeen}
use Rattle.laws.specs.Altered.{altered, HalfHigh, WouldBeHigh}
use Rattle.laws.proofs.Interrupts.{none_runs}
use Rattle.laws.proofs.Quiet.{wrong_seen, low_seen, asked_seen}

-- The cause altered no longer holds, and the others are as they were.
module _ (c : Chip) where
  word_altered : (g : Group) (s : Side) (r : Reason) → (altered c g s r).core.word ≡ c.core.word
  word_altered g s EnableOff = refl
  word_altered A Input FlagWrong = refl
  word_altered A Output FlagWrong = refl
  word_altered B Input FlagWrong = refl
  word_altered B Output FlagWrong = refl
  word_altered g s LineLow = refl
  word_altered g s OwnCycle = refl
  word_altered g s High = refl

  enable_set : (g : Group) (s : Side) → holds (altered c g s EnableOff) g s EnableOff ≡ false
  enable_set A Input = refl
  enable_set A Output = refl
  enable_set B s = refl

  flag_beside_enable : (g : Group) (s : Side) → holds (altered c g s EnableOff) g s FlagWrong ≡ holds c g s FlagWrong
  flag_beside_enable A s = refl
  flag_beside_enable B s = refl

  flag_right : (g : Group) (s : Side) → holds (altered c g s FlagWrong) g s FlagWrong ≡ false
  unfolding flag_of
  flag_right A Input = refl
  flag_right A Output = refl
  flag_right B Input = refl
  flag_right B Output = refl

  enable_beside_flag : (g : Group) (s : Side) → holds (altered c g s FlagWrong) g s EnableOff ≡ holds c g s EnableOff
  enable_beside_flag A Input = refl
  enable_beside_flag A Output = refl
  enable_beside_flag B Input = refl
  enable_beside_flag B Output = refl

  line_beside_flag : (g : Group) (s : Side) → holds (altered c g s FlagWrong) g s LineLow ≡ holds c g s LineLow
  line_beside_flag A Input = refl
  line_beside_flag A Output = refl
  line_beside_flag B Input = refl
  line_beside_flag B Output = refl

  line_raised_lem : (g : Group) (s : Side) → holds (altered c g s LineLow) g s LineLow ≡ false
  line_raised_lem A Input = ap not (bit_of_with c.core.c.outside 4 true 4 (lit< tt))
  line_raised_lem A Output = ap not (bit_of_with c.core.c.outside 6 true 6 (lit< tt))
  line_raised_lem B s = ap not (bit_of_with c.core.c.outside 2 true 2 (lit< tt))

  flag_beside_line : (g : Group) (s : Side) → holds (altered c g s LineLow) g s FlagWrong ≡ holds c g s FlagWrong
  flag_beside_line A s = refl
  flag_beside_line B s = refl

-- A half that is there, of which no reason holds, is high.
high_where : (c : Chip) (g : Group) (s : Side) → strobed c.core.word g s ≡ true → NoneHolds c g s → HalfHigh c g s
high_where c g s there none =
    let asks = none_asks c g s there none in
    record { asks = asks; named = none_named c g s none; shown = asked_seen c g s there asks }

-- Where no reason behind the one that is given is seen, the half is high in the state with that one cause altered.
pub would_be_high : (c : Chip) (g : Group) (s : Side) → strobed c.core.word g s ≡ true → WouldBeHigh c g s
would_be_high c g s there =
    by_reason c g s (λ r. NoneSeen c g s (later r) → HalfHigh (altered c g s r) g s)
    (λ off none. high_where _ g s (still EnableOff) (record {
      on = enable_set c g s;
      right = flag_beside_enable c g s ∙ sym (wrong_seen c g s there) ∙ none.0;
      up = sym (low_seen c g s there) ∙ none.1.0;
      idle = none.1.1.0;
    }))
    (λ on wrong none. high_where _ g s (still FlagWrong) (record {
      on = enable_beside_flag c g s ∙ on;
      right = flag_right c g s;
      up = line_beside_flag c g s ∙ sym (low_seen c g s there) ∙ none.0;
      idle = none.1.0;
    }))
    (λ on right low none. high_where _ g s (still LineLow) (record {
      on = on;
      right = flag_beside_line c g s ∙ right;
      up = line_raised_lem c g s;
      idle = none.0;
    }))
    (λ on right up runs none. high_where _ g s there (record { on = on; right = right; up = up; idle = none_runs g s }))
    (λ none later. high_where c g s there none)
  where
    still : (r : Reason) → strobed (altered c g s r).core.word g s ≡ true
    still r = rw (word_altered c g s r) there
