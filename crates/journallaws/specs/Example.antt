-- A journal in which each reason to keep an event, but for a reset while a cycle runs, and each to drop one, is seen ("Trimming the
-- journal").
use Rattle.std.specs.Prelude.{List, [], ◌∷◌, ◌++◌, ℕ, replicate}
use Rattle.chip.specs.declared.Edition.{Edition}
use Rattle.chip.specs.State.{all_high}
use Rattle.journallaws.specs.Promise.{answer_of, left_of}

-- A word, with whether it is kept where every line was high at power-up.
pub data Judged : Type 0 where
  kept dropped : ℕ → Judged

-- The scale holds STB down while the mode word makes port A its input, so that levels which are there already load the latch, once.
abbrev pub a_store : List Judged
a_store =
    dropped 0x000000  -- a reset of a chip that is as at power-up
    ∷ dropped 0x0502ff  -- levels that are there already
    ∷ kept 0x050041  -- others
    ∷ dropped 0x050355  -- a port that there is not
    ∷ dropped 0x010900  -- an address that there is not
    ∷ dropped 0x020000  -- an end where no cycle runs
    ∷ kept 0x0502ef  -- STB falls, in mode 0
    ∷ kept 0x0303b0  -- the mode word is begun
    ∷ dropped 0x010000  -- a read is begun meanwhile
    ∷ kept 0x020000  -- the write ends
    ∷ kept 0x050041  -- levels that are there already go through to the latch
    ∷ dropped 0x050041  -- and find themselves there
    ∷ kept 0x0502ff  -- STB rises
    ∷ kept 0x0502ef  -- and falls: a byte is offered
    ∷ kept 0x010200  -- the status is read
    ∷ kept 0x020000
    ∷ kept 0x000000  -- a reset that clears the byte
    ∷ dropped 0x000000  -- and one that finds nothing to clear
    ∷ []

-- All words, those that are kept, and how many are not.
abbrev pub all_among : List Judged → List ℕ
all_among [] = []
all_among (kept w ∷ ws) = w ∷ all_among ws
all_among (dropped w ∷ ws) = w ∷ all_among ws

abbrev pub kept_among : List Judged → List ℕ
kept_among [] = []
kept_among (kept w ∷ ws) = w ∷ kept_among ws
kept_among (dropped w ∷ ws) = kept_among ws

-- The answer to it and the words that it leaves.
pub record Gives : Type 0 where
  pub answer : ℕ
  pub words : List ℕ

abbrev pub given : Edition → Gives
given ed = record { answer = answer_of ed all_high (all_among a_store); words = left_of ed all_high (all_among a_store) }

-- Ten words are kept, and eight zero words stand behind them.
abbrev pub said : Gives
said = record { answer = 2560; words = kept_among a_store ++ replicate 8 0 }
