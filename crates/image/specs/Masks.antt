-- What the table of src/check.rt has: of the eight bytes from the conditions on, the bits that are judged together, by the mode word.
use Rattle.std.specs.Prelude.{cond, ℕ, ◌+◌, ◌*◌}
use Rattle.control.specs.declared.Group.TheVariants.{A, B}
use Rattle.chip.specs.declared.channel.Side.TheVariants.{Input, Output}
use Rattle.chip.specs.Handshakes.{strobed}

-- As one number, the lowest byte first: the conditions of A in, A out, B in and B out, by whether the word strobes that channel; bit 7 of the
-- word; the five bits of the enables that are not used; and the bus.
abbrev pub masks_of : ℕ → ℕ
masks_of word =
    cond (strobed word A Input) 252 254
    + 256 * (cond (strobed word A Output) 254 255
    + 256 * (cond (strobed word B Input) 252 254
    + 256 * (cond (strobed word B Output) 254 255
    + 256 * (128 + 256 * (171 + 256 * (255 + 256 * 255))))))
