-- Where the first line of a text is no rack, 09 is printed.
-- Rests on racklaws' NamesRack.
use Rattle.std.proofs.Common.{◌≡◌, ℕ, Bool, true, false, List, [], ◌∷◌, length, refl, le-ltb}
use Rattle.text.specs.Digits.{digit_code}
use Rattle.script.specs.RackRun.{names_rack}
use Rattle.racklaws.proofs.NamesRack.{names_rack_lem}
use Rattle.prints.specs.Printed.{printed_of_rack}
use Rattle.printlaws.specs.Refused.{LacksRack}

pub others_print_09 : (text : List ℕ) → LacksRack text → printed_of_rack text ≡ 0x30 ∷ 0x39 ∷ 0x0a ∷ []
unfolding printed_of_rack digit_code
others_print_09 text (short, none) = go (names_rack text) refl
  where
    go : (t : Bool) → names_rack text ≡ t → printed_of_rack text ≡ 0x30 ∷ 0x39 ∷ 0x0a ∷ []
    go true e = absurd (none (names_rack_lem text e))
    go false e = rw (le-ltb 4096 (length text) short, e) refl
