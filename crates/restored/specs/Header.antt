-- What the header for C has as numbers ("A host in C", "Why the interrupt is quiet"): what stands where in an answer, the four channels and the
-- seven tallies. It is said here as sums and lists, and nothing of it is taken from the calls.
use Rattle.std.specs.Prelude.{◌≡◌, List, [], ◌∷◌, ℕ, ◌+◌, ◌*◌, ◌≤◌, get_or}
use Rattle.control.specs.declared.Group.{Group}
use Rattle.control.specs.declared.Group.TheVariants.{A, B}
use Rattle.chip.specs.declared.channel.Side.{Side}
use Rattle.chip.specs.declared.channel.Side.TheVariants.{Input, Output}
use Rattle.chip.specs.declared.channel.Tally.{Tally}
use Rattle.chip.specs.declared.Chip.{Chip}
use Rattle.chip.specs.State.{tally_of}
use Rattle.chip.specs.Reasons.{explained_of, numbers_of}
use Rattle.chip.specs.Pins.{pins_of}
use Rattle.chip.specs.Step.{step_of}
use Rattle.calls.specs.Calls.{step_answer, pins_answer, tally_answer, explain_answer}

-- An answer: its number in the lowest byte, and two bytes above it. Of the step the first of these is the byte of a read, and the second is 0; of
-- the pin view they are the levels and the mask of driven pins; of the explanation what is said of the input's half and of the output's.
abbrev pub answer_of : ℕ → ℕ → ℕ → ℕ
answer_of number first second = number + 256 * first + 65536 * second

-- A list for each channel, by the channel's number: 0 is A in, 1 A out, 2 B in, 3 B out.
abbrev pub by_channel : (Group → Side → List ℕ) → List (List ℕ)
by_channel f = f A Input ∷ f A Output ∷ f B Input ∷ f B Output ∷ []

-- The tallies of a channel, by their numbers: 0 is offered, 1 handed over, 2 overwritten, 3 swallowed, 4 cleared, 5 planted, 6 struck.
abbrev pub by_tally : Tally → List ℕ
by_tally t = t.offered ∷ t.handed ∷ t.overwritten ∷ t.swallowed ∷ t.cleared ∷ t.planted ∷ t.struck ∷ []

-- Entry n of the list of channel k.
abbrev pub entry : List (List ℕ) → ℕ → ℕ → ℕ
entry lists k n = get_or (get_or lists k []) n 0

-- What the calls answer of bytes that tell this chip: the step whatever is passed to it, the pin view of ports 0 to 2, the tallies of channels 0
-- to 3 by numbers 0 to 6, and the explanation of any group. An answer of a tally has the number 0, and both bytes of the tally above it.
pub record ByHeader (l : List ℕ) (c : Chip) : Type 0 where
  pub step : (k x d : ℕ) → step_answer l k x d ≡ answer_of (step_of c k x d).number (step_of c k x d).byte 0
  pub pins : (p : ℕ) → p ≤ 2 → pins_answer l p ≡ answer_of 0 (pins_of c p).levels (pins_of c p).driven
  pub tally : (k n : ℕ) → k ≤ 3 → n ≤ 6 → tally_answer l k n ≡ 256 * entry (by_channel (λ g s. by_tally (tally_of c g s))) k n
  pub explain : (g : ℕ)
      → let said = numbers_of (explained_of c g) in explain_answer l g ≡ answer_of said.number said.input said.output
