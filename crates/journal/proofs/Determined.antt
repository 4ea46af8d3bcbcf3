-- The contract of each public function of journal leaves no choice: of the answer, and of every word of a slice that is written.
-- Rests on bits' Determined.
use Rattle.std.proofs.Common.{◌≡◌, ◌∙◌, refl, ap, sym, ℕ, arith, rules, Result, Ok, Err}
use Rattle.bits.proofs.Determined.{Determines, equation_determines, equations_determine}
use Rattle.bus.specs.Event.{Event, event}
use Rattle.journal.specs.declared.words.Logged.{Logged}
use Rattle.journal.specs.declared.TrimRefusal.{TrimRefusal}
use Rattle.journal.specs.declared.TrimRefusal.TheVariants.{NoFrame, TooLong, NoEdition}
use Rattle.journal.specs.Trim.{refusal_number, answer_told}
use Rattle.journal.specs.contracts as journal_says
use Rattle.journal.proofs as journal

pub read_determined : Determines journal_says.words.Logged.read.ended journal.words.Logged.read.Reads.Learnt
read_determined c x y = equation_determines

pub pack_determined : Determines journal_says.words.Logged.pack.ended journal.words.Logged.pack.Reads.Learnt
pack_determined c x y = equation_determines

-- A logged event is its three numbers.
logged : (l m : Logged) → event l.kind l.first l.second ≡ event m.kind m.first m.second → l ≡ m
logged l m same = ap (λ (e : Event). record { kind = e.kind; first = e.first; second = e.second }) same

pub from_determined : Determines journal_says.words.LoggedFromEvent.from.ended journal.words.LoggedFromEvent.from.Reads.Learnt
from_determined c x y p q = equation_determines (logged x.0 y.0 (p ∙ sym q)) refl

pub number_determined : Determines journal_says.TrimRefusalNumbered.number.ended journal.TrimRefusalNumbered.number.Reads.Learnt
number_determined c x y = equation_determines

-- An outcome is what its answer tells.
refusal : (r s : TrimRefusal) → refusal_number r ≡ refusal_number s → r ≡ s
refusal r s h = search rules

outcome : (r s : Result ℕ TrimRefusal) → answer_told r ≡ answer_told s → r ≡ s
outcome (Ok m) (Ok n) h = let same : m ≡ n = omega arith in ap Ok same
outcome (Ok m) (Err NoFrame) h = absurd (omega arith)
outcome (Ok m) (Err TooLong) h = absurd (omega arith)
outcome (Ok m) (Err NoEdition) h = absurd (omega arith)
outcome (Err NoFrame) (Ok n) h = absurd (omega arith)
outcome (Err TooLong) (Ok n) h = absurd (omega arith)
outcome (Err NoEdition) (Ok n) h = absurd (omega arith)
outcome (Err r) (Err s) h = ap Err (refusal r s h)

pub trim_determined : Determines journal_says.trim.ended journal.trim.Reads.Learnt
trim_determined c x y p q = equations_determine (outcome x.0 y.0 (p.0 ∙ sym q.0), p.1) (refl, q.1)

pub towanchor_trim_determined : Determines journal_says.towanchor_trim.ended journal.towanchor_trim.Reads.Learnt
towanchor_trim_determined c x y = equations_determine
