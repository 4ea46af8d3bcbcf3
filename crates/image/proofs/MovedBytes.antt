-- An older image whose bytes are put to the places of an image: they are one, but for the bus, and are judged alike.
-- Rests on SameBytes.
use Rattle.std.proofs.Common.{◌≡◌, refl, subst, ◌&&◌, List, ℕ, ◌*◌, ◌-◌, length, set, take, drop, replicate}
use lib.Seq.{sets}
use Rattle.bus.specs.declared.Phase.TheVariants.{Idle}
use Rattle.image.specs.Places as now
use Rattle.image.specs.Layout.{image_of}
use Rattle.image.specs.Good.{core_fits, is_image}
use Rattle.image.proofs.SameBytes.{spelled}
use Rattle.image.specs.OlderPlaces as places
use Rattle.image.specs.OlderLayout.{older_of}
use Rattle.image.specs.OlderLoaded.{core_byte, older_state}
use Rattle.image.specs.OlderGood.{unused_zero}
use Rattle.image.specs.OlderSlices.{moved_of}

-- Those of a state that an older image tells are its image, but for the bus.
pub moved_image : (l : List ℕ) → moved_of (older_of (older_state l)) ≡ image_of (record { phase = Idle; edition = (older_state l).edition; core = (older_state l).core })
unfolding older_of older_state image_of
moved_image l = refl

pub moved_fits : (l : List ℕ) → is_image (moved_of l) ≡ (unused_zero l && core_fits (core_byte l))
unfolding is_image
moved_fits l = refl

-- One part of the bytes after the other is put to its place.
abbrev part : List ℕ → ℕ → ℕ → List ℕ
part l from end = take (end - from) (drop from l)

abbrev start : List ℕ
start = set (set (replicate now.length 0) now.bus now.idle) now.edition now.older

abbrev pub parts : List ℕ → List ℕ
parts l =
    let each = places.channel_tallies in
    let tallies =
    sets (sets (sets (sets start now.tallies (part l 0 each)) now.channel_tallies (part l each (2 * each)))
    (2 * now.channel_tallies) (part l (2 * each) (3 * each)))
    (3 * now.channel_tallies) (part l (3 * each) places.levels_a) in
    sets (sets tallies now.levels_a (part l places.levels_a places.bus)) now.unused (part l places.unused places.length)

pub all_parts : (l : List ℕ) → length l ≡ places.length → parts l ≡ moved_of l
all_parts l long = subst (λ (m : List ℕ). parts m ≡ moved_of m) (spelled l places.length long) refl
