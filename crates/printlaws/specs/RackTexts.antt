-- Some scripts of racks and what is printed of them, as text ("A rack of cards", "Script and program").
use Rattle.std.specs.Prelude.{List, [], ◌∷◌}
use Rattle.text.specs.Quoted.{Text, ◌gives◌}

-- Two cards, which differ in each port: levels on four ports; a mode word and a byte on port B of the second card; a read of the first card, refused
-- while that byte's write runs, and then answered; an address that no card has; a blank line, and a rest without LF.
abbrev pub two_cards : Text
two_cards =
    "07780300\n050000A1\n050001B2\n050002C3\n050100D4\n03030390\n02\n030301E5\n010778\n02\n010778\n02\n010400\n\n00"
    gives "0000A10000000000\n0000A1B200000000\n0000A1B2C3000000\n0000A1B2C3D40000\n0000A1B2C3D40000\n0000A1B2C3D40000\n0000A1B2C3D40000\n0400A1B2C3D40000\n0000A1B2C3D4E500\n00A1A1B2C3D4E500\n0000A1B2C3D4E500\n0A00A1B2C3D4E500\n0100A1B2C3D4E500\n0100A1B2C3D4E500\n"

-- A reset and an end with an operand are no frames: the read that ran before them ends behind them. A blank line is a rack without a card, and the
-- last base is 07F8. A text that is empty has no rack, and a line without LF is none, nor is one with
-- three digits, a small letter, a base that is no multiple of 8, one behind the last, one that comes twice, or nine bases.
abbrev pub rack_texts : List Text
rack_texts =
    two_cards
    ∷ ("0778\n010778\n0000\n02FF\n02\n02\n" gives "0000000000\n0100000000\n0100000000\n0000000000\n0500000000\n")
    ∷ ("\n00\n" gives "0000\n")
    ∷ ("07F8\n00\n" gives "0000000000\n")
    ∷ ("0778\n" gives "")
    ∷ ("" gives "09\n")
    ∷ ("0778" gives "09\n")
    ∷ ("778\n00\n" gives "09\n")
    ∷ ("07f8\n00\n" gives "09\n")
    ∷ ("0779\n00\n" gives "09\n")
    ∷ ("0800\n00\n" gives "09\n")
    ∷ ("07780778\n00\n" gives "09\n")
    ∷ ("000000080010001800200028003000380040\n00\n" gives "09\n")
    ∷ []
