-- What the calls that ask for an image answer, of bytes that are none and of an image.
-- Rests on bits' Logic, chip's Outcome, and calls' HostStep and Converted.
use Rattle.std.proofs.Common.{◌≡◌, Bool, true, false, cond, ◌||◌, List, ℕ, ◌%◌, ◌≤◌, arith, ltb, length, ne_eqb, Option, Some, None}
use Rattle.bits.proofs.Logic.{by_test}
use Rattle.bus.specs.declared.Phase.{Phase}
use Rattle.bus.specs.declared.Limits.{Limits}
use Rattle.bus.specs.Refusals.{number_of}
use Rattle.chip.specs.declared.reasons.Explained.{Explained}
use Rattle.chip.specs.Reasons.{explained_of, numbers_of}
use Rattle.chip.specs.Step.{limits}
use Rattle.chip.proofs.Outcome.{step_number}
use Rattle.image.specs.Loaded.{state_of}
use Rattle.image.specs.Good.{is_image}
use Rattle.image.specs.OlderGood.{is_older}
use Rattle.calls.specs.Calls.{last_port, last_channel, last_tally, step_answer, pins_answer, tally_answer, reasons_given, explain_answer}
use Rattle.calls.proofs.HostStep.{bad_answer, bad_stays}
use Rattle.calls.proofs.Converted.{no_image}
use Rattle.restored.specs.Refusals.{RefusedBytes, NoImage, AcceptedBytes}

-- The table of refusals has no number above 5.
one_of_five : (a b c d e : Bool) → cond a 1 (cond b 2 (cond c 3 (cond d 4 (cond e 5 0)))) ≤ 5
one_of_five true b c d e = omega arith
one_of_five false true c d e = omega arith
one_of_five false false true d e = omega arith
one_of_five false false false true e = omega arith
one_of_five false false false false true = omega arith
one_of_five false false false false false = omega arith

few : (l : Limits) (ph : Phase) (k x : ℕ) → number_of l ph k x ≤ 5
unfolding number_of
few l ph k x = one_of_five _ _ _ _ _

-- The refusal of an answer is at most 5.
abbrev Few : ℕ → Type 0
Few answer = answer % 256 ≤ 5

-- What an explanation answers is 0 or 2.
explained_few : (o : Option Explained) → Few (reasons_given (numbers_of o))
explained_few None = omega arith
explained_few (Some e) = omega arith

module _ (l : List ℕ) where
  -- Bytes that are no image.
  pub refused_bytes : is_image l ≡ false → RefusedBytes l
  unfolding pins_answer tally_answer explain_answer
  refused_bytes bad = record {
    step = λ k x d. bad_answer l k x d bad;
    step_leaves = λ k x d. bad_stays l k x d bad;
    pins = λ p. rw (bad);
    tally = λ k n. rw (bad);
    explain = λ g. rw (bad);
  }

  -- More or fewer bytes than 96 are none, and so an older image is.
  pub other_length : ¬ (length l ≡ 96) → NoImage l
  unfolding is_image
  other_length other = let bad : is_image l ≡ false = rw (ne_eqb (length l) 96 other) in (bad, refused_bytes bad)

  pub older_image : is_older l ≡ true → NoImage l
  older_image good = let bad = no_image l good in (bad, refused_bytes bad)

  -- And an image.
  pub accepted_bytes : is_image l ≡ true → AcceptedBytes l
  unfolding step_answer pins_answer tally_answer explain_answer
  accepted_bytes good = record {
    step = λ k x d.
        let c = state_of l in
        rw (good) (omega (arith, step_number c k x d, few (limits c.edition) c.phase k x));
    pins = λ p. rw (good) (by_test Few (ltb last_port p) _ _ (λ above. omega arith) (λ below. omega arith));
    tally = λ k n. rw (good) (by_test Few (ltb last_channel k || ltb last_tally n) _ _ (λ above. omega arith) (λ below. omega arith));
    explain = λ g. rw (good) (explained_few (explained_of (state_of l) g));
  }
