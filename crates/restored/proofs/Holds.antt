-- A host that holds the image of a chip: it holds that of the next chip after every event, and its calls answer what the chip does.
-- Rests on Stays, on image's Long, ComesBack and OneImage, on calls' HostStep, and on fates' Followed.
use Rattle.std.proofs.Common.{◌≡◌, refl, true, ◌||◌, List, [], ◌∷◌, ℕ, ◌*◌, ltb, length}
use Rattle.bus.specs.Event.{Event}
use Rattle.chip.specs.declared.Edition.{Edition}
use Rattle.chip.specs.declared.Edition.TheVariants.{Older, Newer}
use Rattle.chip.specs.declared.Chip.{Chip}
use Rattle.chip.specs.declared.Levels.{Levels}
use Rattle.chip.specs.State.{power_up_as, tally_of}
use Rattle.chip.specs.Reasons.{explained_of, numbers_of}
use Rattle.chip.specs.Pins.{pins_of}
use Rattle.chip.specs.Step.{stepped}
use Rattle.fates.specs.Promise.{run}
use Rattle.fates.proofs.Followed.{after}
use Rattle.image.specs.Places as places
use Rattle.image.specs.Loaded.{state_of}
use Rattle.image.specs.Good.{has_image, is_image, Bytes}
use Rattle.image.specs.Slices.{saved_in}
use Rattle.image.proofs.Long.{written_over}
use Rattle.image.proofs.ComesBack.{comes_back}
use Rattle.image.proofs.OneImage.{has_image_lem, tells_such}
use Rattle.calls.specs.Calls.{packed, power_up_as_image, or_none, last_port, last_channel, last_tally, pins_given, pins_answer, group_numbered, side_numbered, counter_numbered, tally_answer, reasons_given, explain_answer}
use Rattle.calls.proofs.HostStep.{host_answer, by_number}
use Rattle.restored.specs.Host.{passed, host_run, power_up_in, Holds}
use Rattle.restored.specs.Answers.{answer_to}
use Rattle.restored.proofs.Stays.{image_stays, power_up_has}

module _ (l : List ℕ) (c : Chip) (h : Holds l c) where
  pub holds_next : (e : Event) → Holds (passed l e) (after c e)
  holds_next e =
      let has : has_image (state_of l) ≡ true = rw h.state h.has in
      let has_next = image_stays (state_of l) e has in
      rw (← h.state)
      (by_number l e.kind e.first e.second Holds h.image
      (record { image = has_image_lem (after (state_of l) e) has_next; state = comes_back (after (state_of l) e) has_next; has = has_next })
      (record { image = h.image; state = refl; has = has }))

  pub answer_held : (e : Event) → answer_to l e ≡ packed (stepped c e).number (stepped c e).byte 0
  answer_held e = rw (← h.state) (host_answer l e.kind e.first e.second h.image)

  pub pins_held : (p : ℕ) → pins_answer l p ≡ or_none (ltb last_port p) (pins_given (pins_of c p))
  unfolding pins_answer
  pins_held p = rw (h.image, h.state)

  pub explain_held : (n : ℕ) → explain_answer l n ≡ reasons_given (numbers_of (explained_of c n))
  unfolding explain_answer
  explain_held n = rw (h.image, h.state)

  pub tally_held : (k n : ℕ)
      → tally_answer l k n
      ≡ or_none (ltb last_channel k || ltb last_tally n) (256 * counter_numbered (tally_of c (group_numbered k) (side_numbered k)) n)
  unfolding tally_answer
  tally_held k n = rw (h.image, h.state)

pub holds_run : (l : List ℕ) (c : Chip) (es : List Event) → Holds l c → Holds (host_run l es) (run c es)
holds_run l c [] h = h
holds_run l c (e ∷ es) h = holds_run (passed l e) (after c e) es (holds_next l c h e)

-- A power-up that names an edition that there is writes the image of its chip over the bytes.
new_image : (l : List ℕ) (ed : Edition) (v : Levels) → power_up_in l ed v ≡ saved_in l (power_up_as ed v)
unfolding power_up_as_image
new_image l Older v = refl
new_image l Newer v = refl

-- So it is from a power-up, in as many bytes as an image has, that held anything,
pub holds_new : (l : List ℕ) (ed : Edition) (v : Levels) → length l ≡ places.length → Holds (power_up_in l ed v) (power_up_as ed v)
holds_new l ed v long =
    let c = power_up_as ed v in
    let has = power_up_has ed v in
    rw (new_image l ed v, written_over l c long) (record { image = has_image_lem c has; state = comes_back c has; has = has })

-- and from an image.
pub holds_image : (l : List ℕ) → Bytes l → is_image l ≡ true → Holds l (state_of l)
holds_image l bytes good = record { image = good; state = refl; has = tells_such l bytes good }
