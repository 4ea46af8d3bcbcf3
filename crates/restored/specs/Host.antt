-- A host that keeps a chip as an image, and what is promised of a chip that it restores or powers up.
use Rattle.std.specs.Prelude.{◌≡◌, true, List, [], ◌∷◌, ◌++◌, ℕ}
use Rattle.bus.specs.Event.{Event, event}
use Rattle.bus.specs.declared.Phase.TheVariants.{Idle, Reading, Writing}
use Rattle.control.specs.declared.Group.{Group}
use Rattle.chip.specs.declared.channel.Side.{Side}
use Rattle.chip.specs.declared.channel.Side.TheVariants.{Input}
use Rattle.chip.specs.declared.Edition.{Edition}
use Rattle.chip.specs.declared.Chip.{Chip}
use Rattle.chip.specs.declared.Levels.{Levels}
use Rattle.chip.specs.State.{power_up_as, tally_of}
use Rattle.chip.specs.Step.{on_bus, stepped, step_of}
use Rattle.fates.specs.Surroundings.{at_power_up}
use Rattle.fates.specs.Promise.{run, surroundings_of, new_bytes, old_byte, HeldInTheLatch, Fates}
use Rattle.fates.specs.Discipline.{Disciplined, NoneLost, NeverForced, NoneForced}
use Rattle.image.specs.Layout.{edition_byte, image_of}
use Rattle.image.specs.Loaded.{state_of}
use Rattle.image.specs.Good.{has_image, is_image}
use Rattle.calls.specs.Calls.{power_up_answer, power_up_image, power_up_image_with, power_up_as_answer, power_up_as_image, step_image}
use Rattle.restored.specs.Header.{answer_of}

-- What the step of the chip that the bytes tell comes to: the image of the chip after the event,
abbrev pub image_after : List ℕ → ℕ → ℕ → ℕ → List ℕ
image_after l k x d = image_of (step_of (state_of l) k x d).state

-- and the number of the event, with the byte that it answers above it.
abbrev pub number_and_byte : List ℕ → ℕ → ℕ → ℕ → ℕ
number_and_byte l k x d = answer_of (step_of (state_of l) k x d).number (step_of (state_of l) k x d).byte 0

-- The bytes that a call of the step leaves, where an event is passed to it,
abbrev pub passed : List ℕ → Event → List ℕ
passed l e = step_image l e.kind e.first e.second

-- and those that the host holds after the events of a history.
abbrev pub host_run : List ℕ → List Event → List ℕ
host_run l [] = l
host_run l (e ∷ es) = host_run (passed l e) es

-- The bytes in which a chip of this edition was powered up under these levels.
abbrev pub power_up_in : List ℕ → Edition → Levels → List ℕ
power_up_in l ed v = power_up_as_image l (edition_byte ed) v.a v.b v.c

-- A host holds the image of a chip: its bytes are an image, the chip that is restored from them is this one, and it is one that has an image.
pub record Holds (l : List ℕ) (c : Chip) : Type 0 where
  pub image : is_image l ≡ true
  pub state : state_of l ≡ c
  pub has : has_image c ≡ true

-- The power-ups that name no edition, or nothing, are those of the older edition, and of lines that are all low ("The 82C55A").
pub record ByDefault (l : List ℕ) (a b c : ℕ) : Type 0 where
  pub levels_answer : power_up_answer l ≡ power_up_as_answer l 0
  pub levels_image : power_up_image_with l a b c ≡ power_up_as_image l 0 a b c
  pub plain_image : power_up_image l ≡ power_up_as_image l 0 0 0 0

-- What is promised of an image and any events after it: the host always holds an image, that of the chip after these events; on each
-- channel the counts go on from the image's tallies, a byte that waits in it counting as offered already, with the latch's value, which later
-- levels may change; a byte that still waits in the end, be it that one, is what the latch holds then; and where no flag of the channel is
-- forced, none is planted or struck.
pub record GoesOn (l : List ℕ) (es : List Event) : Type 0 where
  pub image : is_image (host_run l es) ≡ true
  pub state : state_of (host_run l es) ≡ run (state_of l) es
  pub fates : (g : Group) (s : Side)
      → Fates g s (state_of l) es (tally_of (state_of l) g s) (new_bytes g s (state_of l) es) (old_byte g s (state_of l) es ++ new_bytes g s (state_of l) es)
  pub held : (g : Group) (s : Side) → HeldInTheLatch g s (state_of l) es (old_byte g s (state_of l) es ++ new_bytes g s (state_of l) es)
  pub unforced : (g : Group) (s : Side) → NeverForced g s (surroundings_of (state_of l)) es
      → NoneForced (new_bytes g s (state_of l) es) (old_byte g s (state_of l) es ++ new_bytes g s (state_of l) es)

-- A chip with its cycle dropped, and all else as it is.
abbrev pub dropped : Chip → Chip
dropped c = on_bus Idle c.edition c.core

-- The cycle that an image holds is one that its chip begins: without it, the event that would begin it is accepted.
pub record CycleBegins (l : List ℕ) : Type 0 where
  pub read : (x : ℕ) → (state_of l).phase ≡ Reading x → (stepped (dropped (state_of l)) (event 1 x 0)).number ≡ 0
  pub write : (x d : ℕ) → (state_of l).phase ≡ Writing x d → (stepped (dropped (state_of l)) (event 3 x d)).number ≡ 0

-- A chip has an image, and comes back: the image that is saved of it is one, and the chip that is restored from that is the same.
pub record ComesBack (c : Chip) : Type 0 where
  pub has : has_image c ≡ true
  pub saved : is_image (image_of c) ≡ true
  pub restored : state_of (image_of c) ≡ c

-- What is promised of a host that powers its chip up, of either edition and under any levels, in 96 bytes that held anything, and passes it any
-- events: it always holds an image, that of the chip after these events, from that power-up.
pub record PoweredUp (l : List ℕ) (ed : Edition) (v : Levels) (es : List Event) : Type 0 where
  pub image : is_image (host_run (power_up_in l ed v) es) ≡ true
  pub state : state_of (host_run (power_up_in l ed v) es) ≡ run (power_up_as ed v) es

-- The sentence about lost bytes for an image that was saved from a run which kept to the discipline: where what follows keeps to it too, no
-- input byte is overwritten or swallowed, the one that waited in the image among them.
abbrev pub StillNoneLost : Group → Edition → Levels → List Event → List Event → Type 0
StillNoneLost g ed l before es =
    let c = state_of (image_of (run (power_up_as ed l) before)) in
    Disciplined g (at_power_up ed l) (power_up_as ed l) before → Disciplined g (surroundings_of c) c es
    → NoneLost (old_byte g Input c es ++ new_bytes g Input c es)
