-- What is kept of a history means what the history means.
-- Rests on SameFates, on image's OneImage, ComesBack and Long, on calls' HostStep, and on restored's Stays.
use Rattle.std.proofs.Common.{◌≡◌, ◌∙◌, refl, ap, sym, subst, true, List, [], ◌∷◌, ◌++◌, append-nil, ℕ, length}
use Rattle.bus.specs.Event.{Event}
use Rattle.control.specs.declared.Group.{Group}
use Rattle.control.specs.declared.Group.TheVariants.{A, B}
use Rattle.chip.specs.declared.channel.Side.{Side}
use Rattle.chip.specs.declared.channel.Side.TheVariants.{Input, Output}
use Rattle.chip.specs.declared.Edition.{Edition}
use Rattle.chip.specs.declared.Edition.TheVariants.{Older, Newer}
use Rattle.chip.specs.declared.Chip.{Chip}
use Rattle.chip.specs.declared.Levels.{Levels}
use Rattle.chip.specs.State.{power_up_as, tally_of}
use Rattle.chip.specs.Step.{stepped}
use Rattle.image.specs.Layout.{image_of}
use Rattle.image.specs.Good.{has_image}
use Rattle.image.proofs.ComesBack.{comes_back}
use Rattle.image.proofs.Long.{written_over}
use Rattle.image.proofs.OneImage.{has_image_lem}
use Rattle.fates.specs.Bytes.{offered_at, bytes_of, values_and_fates}
use Rattle.fates.specs.Promise.{run}
use Rattle.calls.specs.Calls.{power_up_as_image, step_image}
use Rattle.calls.proofs.HostStep.{by_number}
use Rattle.restored.specs.Host.{host_run, power_up_in}
use Rattle.restored.proofs.Stays.{image_stays, power_up_has}
use Rattle.journallaws.specs.Keeps.{Keeps, none, kept, dropped}
use Rattle.journallaws.specs.Promise.{SameMeaning}
use Rattle.journallaws.proofs.SameFates.{same_fates}

-- The same chip, with the same events behind.
same_state_lem : {c : Chip} {es ks : List Event} → Keeps c es ks → (new : List Event) → run c (ks ++ new) ≡ run c (es ++ new)
same_state_lem none new = refl
same_state_lem (kept changes rest) new = same_state_lem rest new
same_state_lem (dropped {c} {e} {es} {ks} stays rest) new = ap (λ (x : Chip). run x (ks ++ new)) (sym stays) ∙ same_state_lem rest new

-- Of a chip with an image, what the step of its image leaves is the image of the chip after the event.
passed : (c : Chip) → has_image c ≡ true → (e : Event) → step_image (image_of c) e.kind e.first e.second ≡ image_of (stepped c e).state
passed c has e =
    subst (λ (d : Chip). step_image (image_of c) e.kind e.first e.second ≡ image_of (stepped d e).state) (comes_back c has)
    (by_number (image_of c) e.kind e.first e.second (λ l d. l ≡ image_of d) (has_image_lem c has) refl (ap image_of (sym (comes_back c has))))

-- The bytes that a host holds are the image of the chip.
held : (c : Chip) (es : List Event) → has_image c ≡ true → host_run (image_of c) es ≡ image_of (run c es)
held c [] has = refl
held c (e ∷ es) has = ap (λ (l : List ℕ). host_run l es) (passed c has e) ∙ held (stepped c e).state es (image_stays c e has)

powered_up : (l : List ℕ) (ed : Edition) (v : Levels) → length l ≡ 96 → power_up_in l ed v ≡ image_of (power_up_as ed v)
unfolding power_up_as_image
powered_up l Older v long = written_over l (power_up_as Older v) long
powered_up l Newer v long = written_over l (power_up_as Newer v) long

module _ (ed : Edition) (v : Levels) where
  abbrev start : Chip
  start = power_up_as ed v

  held_from : (l : List ℕ) (es : List Event) → length l ≡ 96 → host_run (power_up_in l ed v) es ≡ image_of (run start es)
  held_from l es long = ap (λ (m : List ℕ). host_run m es) (powered_up l ed v long) ∙ held start es (power_up_has ed v)

  -- At power-up no byte waits, and all latches are 00.
  from_the_start : (g : Group) (s : Side) (es ks : List Event) → Keeps start es ks → (new : List Event)
      → values_and_fates (bytes_of g s ed v (ks ++ new)) ≡ values_and_fates (bytes_of g s ed v (es ++ new))
  from_the_start A Input es ks keeps new = sym (same_fates A Input keeps (power_up_has ed v) new (offered_at 0 0) (offered_at 0 0) 1 1 (λ a. refl) (λ a. refl) (λ w. refl))
  from_the_start A Output es ks keeps new = sym (same_fates A Output keeps (power_up_has ed v) new (offered_at 0 0) (offered_at 0 0) 1 1 (λ a. refl) (λ a. refl) (λ w. refl))
  from_the_start B Input es ks keeps new = sym (same_fates B Input keeps (power_up_has ed v) new (offered_at 0 0) (offered_at 0 0) 1 1 (λ a. refl) (λ a. refl) (λ w. refl))
  from_the_start B Output es ks keeps new = sym (same_fates B Output keeps (power_up_has ed v) new (offered_at 0 0) (offered_at 0 0) 1 1 (λ a. refl) (λ a. refl) (λ w. refl))

  pub same_meaning_lem : (es ks : List Event) → Keeps start es ks → (new : List Event) → SameMeaning ed v (es ++ new) (ks ++ new)
  same_meaning_lem es ks keeps new =
      let same = same_state_lem keeps new in
      record {
        state = same;
        counts = λ g s. ap (λ (c : Chip). tally_of c g s) same;
        fates = λ g s. from_the_start g s es ks keeps new;
        image = λ l long. held_from l (ks ++ new) long ∙ ap image_of same ∙ sym (held_from l (es ++ new) long);
      }

  pub alone : (es ks : List Event) → Keeps start es ks → SameMeaning ed v es ks
  alone es ks keeps = rw (append-nil es, append-nil ks) at (same_meaning_lem es ks keeps [])
