-- There are bytes that are an image, and from which a chip is restored, exactly where it has one and is in range.
-- Rests on Having and Saved, and on image's ComesBack, SameBytes and OneImage.
use Rattle.std.proofs.Common.{◌≡◌, refl, subst, Bool, true, false, List, [], ◌∷◌, ◌++◌, ℕ, zero, suc, ◌/◌, ◌%◌, ◌<◌, arith, ltb, replicate, lt-ltb, ◌↔◌}
use Rattle.bits.specs.Bit.{value_of}
use Rattle.bus.specs.declared.Phase.{Phase}
use Rattle.bus.specs.declared.Phase.TheVariants.{Idle, Reading, Writing}
use Rattle.control.specs.declared.Group.{Group}
use Rattle.control.specs.declared.Group.TheVariants.{A, B}
use Rattle.chip.specs.declared.channel.Side.{Side}
use Rattle.chip.specs.declared.channel.Side.TheVariants.{Input, Output}
use Rattle.chip.specs.declared.channel.Fill.{Fill}
use Rattle.chip.specs.declared.channel.Fill.TheVariants.{Empty, Waiting, Fetching}
use Rattle.chip.specs.declared.channel.Tally.{Tally}
use Rattle.chip.specs.declared.Edition.{Edition}
use Rattle.chip.specs.declared.Edition.TheVariants.{Older, Newer}
use Rattle.chip.specs.declared.Chip.{Chip}
use Rattle.chip.specs.State.{channel_of}
use Rattle.fates.specs.Promise.{SixteenBits}
use Rattle.image.specs.Places as places
use Rattle.image.specs.Layout.{tally_bytes, fill_byte, enables_byte, bus_byte, written_byte, port_bytes, bus_bytes, edition_byte, image_of}
use Rattle.image.specs.Loaded.{byte_at, phase_as, state_of}
use Rattle.image.specs.Good.{Bytes}
use Rattle.image.proofs.ComesBack.{comes_back}
use Rattle.image.proofs.SameBytes.{small}
use Rattle.image.proofs.OneImage.{has_image_lem, tells_such}
use Rattle.restored.specs.Having.{NamesAPlace, HasImage, ByteWritten, InRange, ComesFromBytes}
use Rattle.restored.proofs.Saved.{sixteen_bits}
use Rattle.restored.proofs.Having.{an_address, has_so, has_by}

-- What bytes tell is in range.
written_small : (bus byte : ℕ) → byte < 256 → ByteWritten (phase_as bus byte)
written_small bus byte few = go (ltb bus places.writes) (ltb bus places.idle) refl refl
  where
    go : (read below : Bool) → ltb bus places.writes ≡ read → ltb bus places.idle ≡ below → ByteWritten (phase_as bus byte)
    go true below r b = rw (r) tt
    go false true r b = rw (r, b) few
    go false false r b = rw (r, b) tt

in_range : (l : List ℕ) → Bytes l → InRange (state_of l)
unfolding state_of
in_range l bytes =
    let at = small l bytes in
    record {
      written = written_small (byte_at l places.bus) (byte_at l places.written) (at places.written);
      word = at places.word;
      levels_a = at places.levels_a;
      levels_b = at places.levels_b;
      levels_c = at places.levels_c;
      latch_c = at places.latch_c;
      latch = latch;
      tallies = sixteen_bits l bytes;
    }
  where
    latch : (g : Group) (s : Side) → (channel_of (state_of l).core g s).latch < 256
    latch A Input = small l bytes 60
    latch A Output = small l bytes 61
    latch B Input = small l bytes 62
    latch B Output = small l bytes 63

-- And the layout of a chip in range is made of bytes.
bytes_both : (xs ys : List ℕ) → Bytes xs → Bytes ys → Bytes (xs ++ ys)
bytes_both [] ys bx by = by
bytes_both (x ∷ xs) ys bx by = (bx.0, bytes_both xs ys bx.1 by)

wide : (n : ℕ) → n < 65536 → (n % 256 < 256) × (n / 256 < 256)
wide n few = (omega arith, omega (arith, few))

tally_in_bytes : (t : Tally) → SixteenBits t → Bytes (tally_bytes t)
tally_in_bytes t k =
    let a = wide t.offered k.offered in
    let b = wide t.handed k.handed in
    let c = wide t.overwritten k.overwritten in
    let d = wide t.swallowed k.swallowed in
    let e = wide t.cleared k.cleared in
    let f = wide t.planted k.planted in
    let g = wide t.struck k.struck in
    (a.0, (a.1, (b.0, (b.1, (c.0, (c.1, (d.0, (d.1, (e.0, (e.1, (f.0, (f.1, (g.0, (g.1, tt))))))))))))))

fill_small : (f : Fill) → fill_byte f < 256
fill_small Empty = omega arith
fill_small Waiting = omega arith
fill_small Fetching = omega arith

enables_small : (i o b : Bool) → enables_byte (record { input = i; output = o; b = b }) < 256
unfolding value_of
enables_small true true true = omega arith
enables_small true true false = omega arith
enables_small true false true = omega arith
enables_small true false false = omega arith
enables_small false true true = omega arith
enables_small false true false = omega arith
enables_small false false true = omega arith
enables_small false false false = omega arith

edition_small : (ed : Edition) → edition_byte ed < 256
edition_small Older = omega arith
edition_small Newer = omega arith

cycle_small : (ed : Edition) (ph : Phase) → NamesAPlace ed ph → ByteWritten ph → (bus_byte ph < 256) × (written_byte ph < 256)
cycle_small ed Idle few is = (omega arith, omega arith)
cycle_small ed (Reading p) few is = let below = an_address ed p few in (rw (lt-ltb p 4 below) (omega (arith, below)), omega arith)
cycle_small ed (Writing x d) few is = (rw (lt-ltb x 4 (omega (arith, few))) (omega (arith, few)), is)

pub in_bytes : (c : Chip) → HasImage c → InRange c → Bytes (image_of c)
unfolding image_of
in_bytes c has k =
    let t : Group → Side → List ℕ = λ g s. tally_bytes (channel_of c.core g s).tally in
    let tally : (g : Group) (s : Side) → Bytes (t g s) = λ g s. tally_in_bytes (channel_of c.core g s).tally (k.tallies g s) in
    let fill : (g : Group) (s : Side) → fill_byte (channel_of c.core g s).fill < 256 = λ g s. fill_small (channel_of c.core g s).fill in
    let cycle = cycle_small c.edition c.phase has.place k.written in
    let core = port_bytes c.core ++ (c.core.word ∷ enables_byte c.core.inte ∷ []) in
    let behind = core ++ bus_bytes c.phase ++ (edition_byte c.edition ∷ []) ++ replicate 23 0 in
    let others : Bytes behind = (
      k.levels_a,
      (
        k.levels_b,
        (
          k.levels_c,
          (
            k.latch_c,
            (
              k.latch A Input,
              (
                k.latch A Output,
                (
                  k.latch B Input,
                  (
                    k.latch B Output,
                    (
                      fill A Input,
                      (
                        fill A Output,
                        (
                          fill B Input,
                          (
                            fill B Output,
                            (
                              k.word,
                              (
                                enables_small c.core.inte.input c.core.inte.output c.core.inte.b,
                                (cycle.0, (cycle.1, (edition_small c.edition, zeros 23))),
                              ),
                            ),
                          ),
                        ),
                      ),
                    ),
                  ),
                ),
              ),
            ),
          ),
        ),
      ),
    ) in
    bytes_both (t A Input) (t A Output ++ t B Input ++ t B Output ++ behind) (tally A Input)
    (bytes_both (t A Output) (t B Input ++ t B Output ++ behind) (tally A Output)
    (bytes_both (t B Input) (t B Output ++ behind) (tally B Input)
    (bytes_both (t B Output) behind (tally B Output) others)))
  where
    zeros : (n : ℕ) → Bytes (replicate n 0)
    zeros zero = tt
    zeros (suc n) = (omega arith, zeros n)

pub restored_where : (c : Chip) → ComesFromBytes c ↔ (HasImage c × InRange c)
restored_where c = (told, by_bytes)
  where
    told : ComesFromBytes c → HasImage c × InRange c
    told (l, bytes, good, is) = subst (λ c. HasImage c × InRange c) is (has_so (state_of l) (tells_such l bytes good), in_range l bytes)

    by_bytes : HasImage c × InRange c → ComesFromBytes c
    by_bytes (has, k) = let is = has_by c has in (image_of c, in_bytes c has k, has_image_lem c is, comes_back c is)
