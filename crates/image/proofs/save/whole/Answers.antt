-- `save::whole` meets its contract: the parts fill the slice.
use Rattle.std.proofs.Common.{rules, arith, ◌≡◌, ◌∙◌, List, [], ◌∷◌, append-nil, ℕ, ◌-◌, length, replicate, drop_of_length-le}
use lib.Seq.{sets, sets-eq}
use Rattle.chip.specs.declared.Chip.{Chip}
use Rattle.image.specs.Places as places
use Rattle.image.specs.Layout.{core_bytes, bus_bytes, edition_byte, image_of}
use Rattle.image.specs.Slices.{bus_saved_in}
use Rattle.image.proofs.save.whole.Goals as goal

filled : (l : List ℕ) (c : Chip) → length l ≡ places.length
    → sets (sets (sets (sets l places.tallies (core_bytes c.core)) places.bus (bus_bytes c.phase)) places.edition (edition_byte c.edition ∷ []))
    places.unused (replicate (places.length - places.unused) 0)
    ≡ image_of c
unfolding image_of
filled l c h =
    sets-eq (image_of c) l 0 (omega (arith, h))
    ∙ rw (drop_of_length-le l {i = places.length} (omega (arith, h))) (append-nil (image_of c))

pub returns : goal.returns
unfolding bus_saved_in
returns c =
    rw (c.put.ensures, c.edition_byte.ensures, c.bus.ensures, c.put_core.ensures)
    (filled c.args.image.now c.args.chip.now (search rules))
