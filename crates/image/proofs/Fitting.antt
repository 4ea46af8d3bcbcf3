-- The bytes of a state are an image exactly where the state has one.
-- Rests on ComesBack.
use Rattle.std.proofs.Common.{◌≡◌, ◌∙◌, refl, ap, sym, Bool, true, false, ◌&&◌, arith, eq-eqb}
use Rattle.std.proofs.lemmas.Bool.Decides.{nat_tests}
use mathlib.Core.Bool.{and-true}
use Rattle.bits.specs.Bit.{bit_of}
use Rattle.bus.specs.declared.Phase.{Phase}
use Rattle.bus.specs.declared.Phase.TheVariants.{Idle, Reading, Writing}
use Rattle.control.specs.declared.Group.TheVariants.{A, B}
use Rattle.chip.specs.declared.channel.Side.{Side}
use Rattle.chip.specs.declared.channel.Side.TheVariants.{Input, Output}
use Rattle.chip.specs.declared.channel.Fill.{Fill}
use Rattle.chip.specs.declared.channel.Fill.TheVariants.{Empty, Waiting, Fetching}
use Rattle.chip.specs.declared.Enables.{Enables}
use Rattle.chip.specs.declared.Edition.{Edition}
use Rattle.chip.specs.declared.Edition.TheVariants.{Older, Newer}
use Rattle.chip.specs.declared.Core.{Core}
use Rattle.chip.specs.declared.Chip.{Chip}
use Rattle.chip.specs.Handshakes.{strobed}
use Rattle.image.specs.Layout.{fill_byte, enables_byte, bus_byte, written_byte, core_bytes, edition_byte, image_of}
use Rattle.image.specs.Loaded.{byte_at}
use Rattle.image.specs.Good.{names_its_place, allowed, allowed_at, has_image, cycle_fits, edition_fits, enables_fit, fill_fits, core_fits, is_image}
use Rattle.std.proofs.Math.Bool.{and_assoc}
use Rattle.image.proofs.ComesBack.{enables_back}

cycle_fits_lem : (ed : Edition) (ph : Phase) → cycle_fits (edition_byte ed) (bus_byte ph) (written_byte ph) ≡ names_its_place ed ph
cycle_fits_lem Older Idle = refl
cycle_fits_lem Newer Idle = refl
cycle_fits_lem Older (Reading p) = grind (arith, nat_tests)
cycle_fits_lem Newer (Reading p) = grind (arith, nat_tests)
cycle_fits_lem Older (Writing a d) = grind (arith, nat_tests)
cycle_fits_lem Newer (Writing a d) = grind (arith, nat_tests)

edition_fits_lem : (ed : Edition) → edition_fits (edition_byte ed) ≡ true
edition_fits_lem Older = refl
edition_fits_lem Newer = refl

fill_fits_lem : (on : Bool) (s : Side) (f : Fill) → fill_fits on s (fill_byte f) ≡ allowed on s f
fill_fits_lem true Input Empty = refl
fill_fits_lem false Input Empty = refl
fill_fits_lem true Output Empty = refl
fill_fits_lem false Output Empty = refl
fill_fits_lem true Input Waiting = refl
fill_fits_lem false Input Waiting = refl
fill_fits_lem true Output Waiting = refl
fill_fits_lem false Output Waiting = refl
fill_fits_lem true Input Fetching = refl
fill_fits_lem false Input Fetching = refl
fill_fits_lem true Output Fetching = refl
fill_fits_lem false Output Fetching = refl

enables_fit_lem : (e : Enables) → enables_fit (enables_byte e) ≡ true
enables_fit_lem e = eq-eqb _ _ (ap enables_byte (enables_back e))

-- All but the bus, in whatever layout: what is asked of the bytes is what is asked of the state.
abbrev pub core_allowed : Core → Bool
core_allowed c = bit_of c.word 7 && (allowed_at c A Input && allowed_at c A Output && allowed_at c B Input && allowed_at c B Output)

pub core_fits_lem : (c : Core) → core_fits (byte_at (core_bytes c)) ≡ core_allowed c
core_fits_lem c =
    rw (enables_fit_lem c.inte)
    ((λ i.
    bit_of c.word 7
    && (fill_fits_lem (strobed c.word A Input) Input c.a.input.fill i
    && fill_fits_lem (strobed c.word A Output) Output c.a.output.fill i
    && fill_fits_lem (strobed c.word B Input) Input c.b.input.fill i
    && fill_fits_lem (strobed c.word B Output) Output c.b.output.fill i)
    && true)
    ∙ and-true (core_allowed c))

-- With the bus that is all.
pub all_asked : (c : Chip) → (names_its_place c.edition c.phase && core_allowed c.core) ≡ has_image c
unfolding has_image
all_asked c = sym (and_assoc (names_its_place c.edition c.phase) (bit_of c.core.word 7) _)

pub image_where : (c : Chip) → is_image (image_of c) ≡ has_image c
unfolding is_image image_of
image_where c =
    (λ i. cycle_fits_lem c.edition c.phase i && (edition_fits_lem c.edition i && true) && core_fits_lem c.core i)
    ∙ ap (λ (b : Bool). b && core_allowed c.core) (and-true (names_its_place c.edition c.phase))
    ∙ all_asked c
