-- The state that an older image tells, byte by byte. Nothing had been planted or struck when it was saved, and there was one edition.
use Rattle.std.specs.Prelude.{cond, List, ℕ, ◌+◌, ◌-◌, ◌*◌, eqb}
use Rattle.bus.specs.declared.Phase.{Phase}
use Rattle.bus.specs.declared.Phase.TheVariants.{Idle, Reading, Writing}
use Rattle.chip.specs.declared.channel.Tally.{Tally}
use Rattle.chip.specs.declared.Edition.TheVariants.{Older}
use Rattle.chip.specs.declared.Chip.{Chip}
use Rattle.image.specs.Loaded.{byte_at, wide_at, core_by}
use Rattle.image.specs.OlderPlaces as places

-- The tallies of channel k.
abbrev pub channel_tally : List ℕ → ℕ → Tally
channel_tally l k = record {
  offered = wide_at l (places.tallies + places.channel_tallies * k);
  handed = wide_at l (places.tallies + places.channel_tallies * k + 2);
  overwritten = wide_at l (places.tallies + places.channel_tallies * k + 4);
  swallowed = wide_at l (places.tallies + places.channel_tallies * k + 6);
  cleared = wide_at l (places.tallies + places.channel_tallies * k + 8);
  planted = 0;
  struck = 0;
}

-- The byte that stands in an image at place i, of those between its tallies and its bus.
abbrev pub core_byte : List ℕ → ℕ → ℕ
core_byte l i = byte_at l (i - places.ahead)

-- The bus: 0 idle, 1 a read runs, 2 a write.
abbrev pub phase_as : ℕ → ℕ → ℕ → Phase
phase_as bus address byte = cond (eqb bus 0) Idle (cond (eqb bus 1) (Reading address) (Writing address byte))

-- The whole state.
unfoldable pub older_state : List ℕ → Chip
older_state l = record {
  phase = phase_as (byte_at l places.bus) (byte_at l places.address) (byte_at l places.written);
  edition = Older;
  core = core_by (core_byte l) (channel_tally l);
}
