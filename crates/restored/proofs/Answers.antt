-- What the calls answer along a host's whole run, from every power-up and from every image.
-- Rests on Holds, Saved, Shown, SameDiscipline and Counts, on account's Account, and on fates' Discipline, Unforced and EveryByte.
use Rattle.std.proofs.Common.{◌≡◌, true, List, [], ◌∷◌, ◌++◌, ℕ, ◌/◌, length}
use Rattle.bus.specs.Event.{Event}
use Rattle.control.specs.declared.Group.{Group}
use Rattle.chip.specs.declared.channel.Side.{Side}
use Rattle.chip.specs.declared.channel.Tally.{Tally}
use Rattle.chip.specs.declared.Edition.{Edition}
use Rattle.chip.specs.declared.Chip.{Chip}
use Rattle.chip.specs.declared.Levels.{Levels}
use Rattle.chip.specs.State.{no_tally, power_up_as, tally_of}
use Rattle.fates.specs.Surroundings.{at_power_up}
use Rattle.fates.specs.Bytes.{handed_over, Byte, bytes_of}
use Rattle.fates.specs.Promise.{run, new_bytes, old_byte, Each, ShownAt, Fates}
use Rattle.fates.proofs.Unforced.{unforced}
use Rattle.fates.proofs.EveryByte.{fates, fates_from}
use Rattle.fates.proofs.Discipline.{disciplined}
use Rattle.account.specs.Account.{Account, opened}
use Rattle.account.specs.Promise.{over, account_of, Accounted}
use Rattle.account.proofs.Account.{account, account_from}
use Rattle.image.specs.Places as places
use Rattle.image.specs.Loaded.{state_of}
use Rattle.image.specs.Good.{is_image, Bytes}
use Rattle.calls.specs.Calls.{pins_answer, tally_answer, explain_answer}
use Rattle.restored.specs.Host.{host_run, power_up_in, Holds}
use Rattle.restored.specs.Answers.{answer_to, answer_by, pins_by, explained_by, AnsweredAt, Answers, HostKept, ImageKept}
use Rattle.restored.proofs.Holds.{holds_new, holds_image, holds_run, answer_held, pins_held, explain_held}
use Rattle.restored.proofs.Saved.{sixteen_bits}
use Rattle.restored.proofs.Shown.{answered_at}
use Rattle.restored.proofs.SameDiscipline.{same_discipline}
use Rattle.restored.proofs.Counts.{Numbered, numbered_none, numbered_held, tally_told}

module _ (l : List ℕ) (c : Chip) (a : Account) (es : List Event) (h : Holds l c) (t : Accounted c a es) where
  next_told : (e : Event) → answer_to (host_run l es) e ≡ answer_by (over a es) e
  next_told e = rw (answer_held (host_run l es) (run c es) (holds_run l c es h) e, t.number e, t.byte e)

  pins_told : (p : ℕ) → pins_answer (host_run l es) p ≡ pins_by (over a es) p
  pins_told p = rw (pins_held (host_run l es) (run c es) (holds_run l c es h) p, t.levels p, t.driven p)

  explained_told : (n : ℕ) → explain_answer (host_run l es) n ≡ explained_by (over a es) n
  explained_told n = rw (explain_held (host_run l es) (run c es) (holds_run l c es h) n, t.explains n)

  all_answered : (g : Group) (s : Side) (bs : List Byte)
      → Each (λ b. b.outcome.fate ≡ handed_over → ShownAt g s c es b.outcome.place b.offer.value) bs
      → Each (λ b. b.outcome.fate ≡ handed_over → AnsweredAt g s l es b.outcome.place b.offer.value) bs
  all_answered g s [] shown = tt
  all_answered g s (b ∷ bs) shown =
      (λ handed. answered_at g s l c es b.outcome.place b.offer.value h (shown.0 handed), all_answered g s bs shown.1)

  answers : (start : ℕ → ℕ → ℕ) (tallies : Group → Side → Tally) → Numbered start tallies → (new all : Group → Side → List Byte)
      → ((g : Group) (s : Side) → Fates g s c es (tallies g s) (new g s) (all g s)) → Answers l a es start new all
  answers start tallies starts new all f = record {
    next = next_told;
    pins = pins_told;
    explains = explained_told;
    tallies = tally_told l c es h start tallies starts new all f;
    as_offered = λ g s. all_answered g s (all g s) (f g s).as_offered;
  }

-- From every power-up, in as many bytes as an image has, that held anything.
pub host_kept : (l : List ℕ) (ed : Edition) (v : Levels) (es : List Event) → length l ≡ places.length → HostKept l ed v es
host_kept l ed v es long =
    let h = holds_new l ed v long in
    let bytes : Group → Side → List Byte = λ g s. bytes_of g s ed v es in
    record {
      answers =
          answers (power_up_in l ed v) (power_up_as ed v) (opened ed v) es h (account ed v es)
          (λ k n. 0) (λ g s. no_tally) numbered_none bytes bytes (λ g s. fates g s ed v es);
      none_lost = λ g kept. disciplined g ed v es (rw (← same_discipline g (at_power_up ed v) (power_up_in l ed v) (power_up_as ed v) es h) kept);
      none_forced = λ g s. unforced g s ed v es;
    }

-- From every image.
pub image_kept : (l : List ℕ) → Bytes l → is_image l ≡ true → (es : List Event) → ImageKept l es
image_kept l bytes good es =
    let c = state_of l in
    let h = holds_image l bytes good in
    answers l c (account_of c) es h (account_from c es)
    (λ k n. tally_answer l k n / 256) (tally_of c) (numbered_held l c h)
    (λ g s. new_bytes g s c es) (λ g s. old_byte g s c es ++ new_bytes g s c es) (λ g s. fates_from g s c (sixteen_bits l bytes g s) es)
