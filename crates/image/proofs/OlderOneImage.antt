-- Older images are of the states of the older edition that have an image, and become those images.
-- Rests on Fitting, BusSaved, MovedBytes and OlderSameBytes.
use Rattle.std.proofs.Common.{◌≡◌, ◌∙◌, refl, ap, sym, true, ◌&&◌, List, ℕ, ltb}
use mathlib.Core.Bool.{and-true}
use Rattle.bus.specs.declared.Phase.{Phase}
use Rattle.bus.specs.declared.Phase.TheVariants.{Idle, Reading, Writing}
use Rattle.chip.specs.declared.Edition.{Edition}
use Rattle.chip.specs.declared.Edition.TheVariants.{Older}
use Rattle.chip.specs.declared.Chip.{Chip}
use Rattle.image.specs.Layout.{written_byte, image_of}
use Rattle.image.specs.Good.{names_its_place, has_image, Bytes}
use Rattle.image.specs.Slices.{bus_saved_in}
use Rattle.image.proofs.Fitting.{core_allowed, core_fits_lem, all_asked}
use Rattle.image.proofs.BusSaved.{over_bus}
use Rattle.image.specs.OlderLayout.{bus_byte, address_byte, older_of}
use Rattle.image.specs.OlderLoaded.{older_state}
use Rattle.image.specs.OlderGood.{cycle_fits, is_older}
use Rattle.image.specs.OlderSlices.{moved_of, converted_of}
use Rattle.image.proofs.MovedBytes.{moved_image}
use Rattle.image.proofs.OlderSameBytes.{same_bytes_lem}

cycle_fits_lem : (ph : Phase) → cycle_fits (bus_byte ph) (address_byte ph) (written_byte ph) ≡ names_its_place Older ph
cycle_fits_lem Idle = refl
cycle_fits_lem (Reading p) = and-true (ltb p 3)
cycle_fits_lem (Writing a d) = refl

-- The older layout's bytes of a state of the older edition are an older image exactly where the state has an image.
pub older_where : (c : Chip) → c.edition ≡ Older → is_older (older_of c) ≡ has_image c
unfolding is_older older_of
older_where c older =
    (λ i. cycle_fits_lem c.phase i && core_fits_lem c.core i)
    ∙ ap (λ (ed : Edition). names_its_place ed c.phase && core_allowed c.core) (sym older)
    ∙ all_asked c

of_older : (l : List ℕ) → (older_state l).edition ≡ Older
unfolding older_state
of_older l = refl

-- So what an older image tells is such a state.
pub tells_such : (l : List ℕ) → Bytes l → is_older l ≡ true → has_image (older_state l) ≡ true
tells_such l bytes good = sym (older_where (older_state l) (of_older l)) ∙ ap is_older (same_bytes_lem l bytes good) ∙ good

-- And what it becomes is that state's image.
pub converted : (l : List ℕ) → Bytes l → is_older l ≡ true → converted_of l ≡ image_of (older_state l)
converted l bytes good =
    ap (λ (m : List ℕ). bus_saved_in m (older_state l).phase) (ap moved_of (sym (same_bytes_lem l bytes good)) ∙ moved_image l)
    ∙ over_bus (record { phase = Idle; edition = (older_state l).edition; core = (older_state l).core }) (older_state l).phase
