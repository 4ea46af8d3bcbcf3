-- Bytes are an image exactly where they tell, place by place, a chip that has one.
-- Rests on Parts and Having, and on image's SameBytes, ComesBack and OneImage.
use Rattle.std.proofs.Common.{◌≡◌, ◌∙◌, refl, ap, sym, subst, true, List, [], ◌∷◌, ◌++◌, ℕ, ◌+◌, arith, get_or, lt-ltb, ◌↔◌}
use Rattle.bus.specs.declared.Phase.{Phase}
use Rattle.bus.specs.declared.Phase.TheVariants.{Idle, Reading, Writing}
use Rattle.chip.specs.declared.channel.Tally.{Tally}
use Rattle.chip.specs.declared.Edition.{Edition}
use Rattle.chip.specs.declared.Edition.TheVariants.{Older, Newer}
use Rattle.chip.specs.declared.Chip.{Chip}
use Rattle.image.specs.Layout.{tally_bytes, bus_byte, edition_byte, image_of}
use Rattle.image.specs.Loaded.{state_of}
use Rattle.image.specs.Good.{is_image, Bytes}
use Rattle.image.proofs.ComesBack.{comes_back}
use Rattle.image.proofs.SameBytes.{spelled, same_bytes_lem}
use Rattle.image.proofs.OneImage.{has_image_lem, tells_such}
use Rattle.restored.specs.Having.{NamesAPlace, HasImage}
use Rattle.restored.specs.Table.{byte, TellsTallies, bus_number, edition_number, Tells}
use Rattle.restored.proofs.Parts.{fill_told, enables_told, written_told, two_bytes, low_byte, high_byte, behind}
use Rattle.restored.proofs.Having.{an_address, has_so, has_by}

-- Part by part, the numbers of the layout are those of the table.
bus_told : (ed : Edition) (ph : Phase) → NamesAPlace ed ph → bus_number ph ≡ bus_byte ph
bus_told ed Idle few = refl
bus_told ed (Reading p) few = rw (lt-ltb p 4 (an_address ed p few))
bus_told ed (Writing x d) few = rw (lt-ltb x 4 (omega (arith, few)))

edition_told : (ed : Edition) → edition_number ed ≡ edition_byte ed
edition_told Older = refl
edition_told Newer = refl

-- The fourteen bytes of a channel's tallies.
abbrev fourteen : List ℕ → ℕ → List ℕ
fourteen l i =
    byte l i ∷ byte l (i + 1) ∷ byte l (i + 2) ∷ byte l (i + 2 + 1) ∷ byte l (i + 4) ∷ byte l (i + 4 + 1) ∷ byte l (i + 6) ∷ byte l (i + 6 + 1)
    ∷ byte l (i + 8) ∷ byte l (i + 8 + 1) ∷ byte l (i + 10) ∷ byte l (i + 10 + 1) ∷ byte l (i + 12) ∷ byte l (i + 12 + 1) ∷ []

module _ (l : List ℕ) (i : ℕ) (t : Tally) where
  counts_told : tally_bytes t ≡ fourteen l i → TellsTallies l i t
  counts_told same = record {
    offered = two_bytes t.offered (at 0) (at 1);
    handed = two_bytes t.handed (at 2) (at 3);
    overwritten = two_bytes t.overwritten (at 4) (at 5);
    swallowed = two_bytes t.swallowed (at 6) (at 7);
    cleared = two_bytes t.cleared (at 8) (at 9);
    planted = two_bytes t.planted (at 10) (at 11);
    struck = two_bytes t.struck (at 12) (at 13);
  }
    where
      at : (k : ℕ) → get_or (tally_bytes t) k 0 ≡ get_or (fourteen l i) k 0
      at k = ap (λ m. get_or m k 0) same

  counts_back : Bytes l → TellsTallies l i t → tally_bytes t ≡ fourteen l i
  counts_back bytes tells =
      λ j.
      low_byte l bytes i tells.offered j ∷ high_byte l bytes i tells.offered j
      ∷ low_byte l bytes (i + 2) tells.handed j ∷ high_byte l bytes (i + 2) tells.handed j
      ∷ low_byte l bytes (i + 4) tells.overwritten j ∷ high_byte l bytes (i + 4) tells.overwritten j
      ∷ low_byte l bytes (i + 6) tells.swallowed j ∷ high_byte l bytes (i + 6) tells.swallowed j
      ∷ low_byte l bytes (i + 8) tells.cleared j ∷ high_byte l bytes (i + 8) tells.cleared j
      ∷ low_byte l bytes (i + 10) tells.planted j ∷ high_byte l bytes (i + 10) tells.planted j
      ∷ low_byte l bytes (i + 12) tells.struck j ∷ high_byte l bytes (i + 12) tells.struck j ∷ []

-- The layout of a chip tells the chip.
pub layout_tells : (c : Chip) → HasImage c → Tells (image_of c) c
unfolding image_of
layout_tells c has =
    let a = c.core.a.input in
    let b = c.core.a.output in
    let d = c.core.b.input in
    let e = c.core.b.output in
    record {
      long = refl;
      a_in = record { counts = counts_told (image_of c) 0 a.tally refl; latch = refl; fill = fill_told a.fill };
      a_out = record { counts = counts_told (image_of c) 14 b.tally refl; latch = refl; fill = fill_told b.fill };
      b_in = record { counts = counts_told (image_of c) 28 d.tally refl; latch = refl; fill = fill_told d.fill };
      b_out = record { counts = counts_told (image_of c) 42 e.tally refl; latch = refl; fill = fill_told e.fill };
      levels_a = refl;
      levels_b = refl;
      levels_c = refl;
      latch_c = refl;
      mode_word = refl;
      enables = enables_told c.core.inte.input c.core.inte.output c.core.inte.b;
      bus = bus_told c.edition c.phase has.place;
      written = written_told c.phase;
      edition = edition_told c.edition;
      unused = refl;
    }

-- Bytes that tell a chip are its layout.
pub told_layout : (l : List ℕ) (c : Chip) → Bytes l → HasImage c → Tells l c → image_of c ≡ l
unfolding image_of
told_layout l c bytes has t =
    let a = c.core.a.input in
    let b = c.core.a.output in
    let d = c.core.b.input in
    let e = c.core.b.output in
    (λ j.
    counts_back l 0 a.tally bytes t.a_in.counts j
    ++ counts_back l 14 b.tally bytes t.a_out.counts j
    ++ counts_back l 28 d.tally bytes t.b_in.counts j
    ++ counts_back l 42 e.tally bytes t.b_out.counts j
    ++ (t.levels_a j ∷ t.levels_b j ∷ t.levels_c j ∷ t.latch_c j
    ∷ t.a_in.latch j ∷ t.a_out.latch j ∷ t.b_in.latch j ∷ t.b_out.latch j
    ∷ (sym (fill_told a.fill) ∙ t.a_in.fill) j ∷ (sym (fill_told b.fill) ∙ t.a_out.fill) j
    ∷ (sym (fill_told d.fill) ∙ t.b_in.fill) j ∷ (sym (fill_told e.fill) ∙ t.b_out.fill) j
    ∷ t.mode_word j ∷ (sym (enables_told c.core.inte.input c.core.inte.output c.core.inte.b) ∙ t.enables) j
    ∷ (sym (bus_told c.edition c.phase has.place) ∙ t.bus) j ∷ (sym (written_told c.phase) ∙ t.written) j
    ∷ (sym (edition_told c.edition) ∙ t.edition) j ∷ [])
    ++ (sym t.unused ∙ sym (behind l 73 23 t.long)) j)
    ∙ spelled l 96 t.long

pub told_is : (l : List ℕ) (c : Chip) → Bytes l → HasImage c → Tells l c → state_of l ≡ c
told_is l c bytes has t = ap state_of (sym (told_layout l c bytes has t)) ∙ comes_back c (has_by c has)

-- Exactly such bytes are an image.
pub image_where : (l : List ℕ) → Bytes l → (is_image l ≡ true) ↔ ((c : Chip) × HasImage c × Tells l c)
image_where l bytes = (tells, is)
  where
    tells : is_image l ≡ true → (c : Chip) × HasImage c × Tells l c
    tells good =
        let c = state_of l in
        let has = has_so c (tells_such l bytes good) in
        (c, has, subst (λ m. Tells m c) (same_bytes_lem l bytes good) (layout_tells c has))

    is : ((c : Chip) × HasImage c × Tells l c) → is_image l ≡ true
    is (c, has, t) = subst (λ m. is_image m ≡ true) (told_layout l c bytes has t) (has_image_lem c (has_by c has))
