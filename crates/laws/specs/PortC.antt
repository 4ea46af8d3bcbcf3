-- Port C as a write leaves it, and as the pins show it beside a read ("Writes and bit set/reset", "Reads and pins").
use Rattle.std.specs.Prelude.{◌≡◌, Bool, true, false, cond, not, ◌&&◌, ◌||◌, ℕ, ◌<◌, ltb}
use Rattle.bits.specs.Bit.{bit_of}
use Rattle.bus.specs.declared.Phase.{Phase}
use Rattle.bus.specs.declared.Phase.TheVariants.{Writing}
use Rattle.chip.specs.declared.Core.{Core}
use Rattle.chip.specs.declared.Chip.{Chip}
use Rattle.chip.specs.Step.{step_of}
use Rattle.laws.specs.Seen.{pin, told, driven}
use Rattle.laws.specs.PlainBits.{free_input, free_output, listens}

-- A write reaches pin n: it is a free output, and one of 3 to 0, or bits 6 and 5 of the word are clear.
abbrev pub reached : ℕ → ℕ → Bool
reached w n = free_output w n && (ltb n 4 || not (bit_of w 6 || bit_of w 5))

-- After a write of d the latch has its bits where it reaches, and nothing else has changed.
pub record LinesWritten (before : Core) (d : ℕ) (after : Core) : Type 0 where
  pub bits : (n : ℕ) → n < 8 → bit_of after.c.latch n ≡ cond (reached before.word n) (bit_of d n) (bit_of before.c.latch n)
  pub word : after.word ≡ before.word
  pub a : after.a ≡ before.a
  pub b : after.b ≡ before.b
  pub levels : after.c.outside ≡ before.c.outside
  pub enables : after.inte ≡ before.inte

-- No write to port C or to control runs.
pub record NotWritten (ph : Phase) : Type 0 where
  pub to_c : (b : ℕ) → ¬ (ph ≡ Writing 2 b)
  pub to_control : (b : ℕ) → ¬ (ph ≡ Writing 3 b)

-- An event of kind k that is no reset leaves the latch unless it is 2, the end of a cycle; and if no write to port C or to control runs, so does
-- that. No levels change the latch, on port C or on any other.
pub record LinesHeld (c : Chip) (k x d : ℕ) : Type 0 where
  pub but_at_ends : ¬ (k ≡ 2) → (step_of c k x d).state.core.c.latch ≡ c.core.c.latch
  pub unwritten : NotWritten c.phase → (step_of c k x d).state.core.c.latch ≡ c.core.c.latch

-- The chip drives pin n unless it is a free input, or a line to which the chip listens.
abbrev pub driven_by : ℕ → ℕ → Bool
driven_by w n = not (free_input w n || listens w n)

-- A driven pin shows what a read tells of it, and another the level outside.
pub record LineShown (c : Chip) (n : ℕ) : Type 0 where
  pub inside : driven c n ≡ true → told c n ≡ pin c n
  pub outside : driven c n ≡ false → pin c n ≡ bit_of c.core.c.outside n
