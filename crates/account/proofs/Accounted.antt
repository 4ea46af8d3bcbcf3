-- Over every history all that can be seen of a chip is what the account says, from one that agrees with it.
-- Rests on Agrees, Interrupts, Reasons, Views, Numbers, the bus's ByKind, chip's Outcome, and fates' Accepted.
use Rattle.std.proofs.Common.{◌≡◌, ◌∙◌, refl, ap, sym, true, cond, List, [], ◌∷◌, ℕ}
use Rattle.bus.proofs.ByKind.{by_kind}
use Rattle.bus.specs.Event.{Event, event}
use Rattle.bus.specs.Device.{byte_in}
use Rattle.chip.specs.declared.Chip.{Chip}
use Rattle.chip.specs.Step.{device, stepped}
use Rattle.chip.proofs.Outcome.{step_number}
use Rattle.fates.specs.Kinds.{kind_of, accepts}
use Rattle.fates.specs.Promise.{run}
use Rattle.fates.proofs.Accepted.{no_kind_accepted, by_result}
use Rattle.account.specs.Acts.{number_by}
use Rattle.account.specs.Account.{Account, account_next}
use Rattle.account.specs.Views.{byte_for, byte_answered}
use Rattle.account.specs.Promise.{over, Accounted}
use Rattle.account.proofs.Agrees.{Agrees, agrees_next}
use Rattle.account.proofs.Interrupts.{intr_same}
use Rattle.account.proofs.Reasons.{explained_same}
use Rattle.account.proofs.Views.{levels_shown_lem, mask_shown_lem, read_answered}
use Rattle.account.proofs.Numbers.{number_same}

module _ (c : Chip) (a : Account) (k : Agrees c a) where
  pub number_told_lem : (e : Event) → (stepped c e).number ≡ number_by a.surroundings.edition a.surroundings.phase (kind_of e)
  number_told_lem e =
      step_number c e.kind e.first e.second ∙ number_same c.edition c.phase e.kind e.first e.second
      ∙ sym (ap (λ r. number_by r.edition r.phase (kind_of e)) k.surroundings)

  -- The byte of an accepted event.
  abbrev Answers : Event → Type 0
  Answers e = accepts c.edition c.phase (kind_of e) ≡ true → byte_in device c e.kind e.first ≡ byte_for a (kind_of e)

  answers : (n x d : ℕ) → Answers (event n x d)
  answers n x d =
      by_kind (λ n. Answers (event n x d))
      (λ ok. refl)
      (λ ok. read_answered c a k x)
      (λ ok. refl)
      (λ ok. refl)
      (λ ok. refl)
      (λ n none ok. absurd (no_kind_accepted c.edition c.phase n x d none ok))
      n

  pub byte_told_lem : (e : Event) → (stepped c e).byte ≡ byte_answered a e
  byte_told_lem e =
      by_result (λ r ok. r.byte ≡ cond ok (byte_for a (kind_of e)) 0) c e (answers e.kind e.first e.second) (λ n. refl)
      ∙ sym (ap (λ r. cond (accepts r.edition r.phase (kind_of e)) (byte_for a (kind_of e)) 0) k.surroundings)

-- Over a history. The 8355 has an induction of its own: `run` and `over` are other functions there, and no fold that both share.
pub agrees_over : (es : List Event) (c : Chip) (a : Account) → Agrees c a → Agrees (run c es) (over a es)
agrees_over [] c a k = k
agrees_over (e ∷ es) c a k = agrees_over es (stepped c e).state (account_next a e) (agrees_next c a e k)

pub accounted : (c : Chip) (a : Account) (es : List Event) → Agrees c a → Accounted c a es
accounted c a es start =
    let k = agrees_over es c a start in
    record {
      number = number_told_lem (run c es) (over a es) k;
      byte = byte_told_lem (run c es) (over a es) k;
      levels = levels_shown_lem (run c es) (over a es) k;
      driven = mask_shown_lem (run c es) (over a es) k;
      reads = read_answered (run c es) (over a es) k;
      interrupt = intr_same (run c es) (over a es) k;
      explains = explained_same (run c es) (over a es) k;
    }
