-- Some scripts and their answers, as text: the rules' whole case, and what a line must be to be a frame ("Script and program").
use Rattle.std.specs.Prelude.{List, [], ◌∷◌}
use Rattle.chip.specs.declared.Edition.{Edition}
use Rattle.chip.specs.declared.Edition.TheVariants.{Older, Newer}
use Rattle.text.specs.Quoted.{Text, ◌gives◌}

-- The whole case: group A in mode 1 as an input with its interrupt enabled; the byte 41 strobed in; a read begun, a second one refused, and
-- the end; a read of control and an event of no kind, both refused. The newer edition reads control, and has that one answer of its own.
abbrev pub whole_case : Edition → Text
whole_case Older =
    "0303B0\n02\n030309\n02\n050041\n0502EF\n0502FF\n0100\n0100\n02\n0103\n07\n"
    gives "0000FFFFFF\n0000FF0010\n0000FF0010\n0000FF0010\n0000410010\n0000410020\n0000410038\n0041410030\n0400410030\n0000410010\n0300410010\n0100410010\n"
whole_case Newer =
    "0303B0\n02\n030309\n02\n050041\n0502EF\n0502FF\n0100\n0100\n02\n0103\n07\n"
    gives "0000FFFFFF\n0000FF0010\n0000FF0010\n0000FF0010\n0000410010\n0000410020\n0000410038\n0041410030\n0400410030\n0000410010\n00B0410010\n0100410010\n"

-- No text, no lines. A blank line is no frame. A rest without LF is none, however well formed. Digits are capitals. A line is a kind and
-- exactly its operands, of two digits each. Nothing is trimmed. 04 and 06 are no kinds, with operands or without.
abbrev pub texts : Edition → List Text
texts ed =
    whole_case ed
    ∷ ("" gives "")
    ∷ ("\n" gives "0100FFFFFF\n")
    ∷ ("0500AB" gives "0100FFFFFF\n")
    ∷ ("0500AB\n" gives "0000ABFFFF\n")
    ∷ ("0500ab\n" gives "0100FFFFFF\n")
    ∷ ("00\n0000\n01\n010\n0500\n" gives "0000FFFFFF\n0100FFFFFF\n0100FFFFFF\n0100FFFFFF\n0100FFFFFF\n")
    ∷ ("00\r\n 00\n00 \n" gives "0100FFFFFF\n0100FFFFFF\n0100FFFFFF\n")
    ∷ ("04\n06\n060000\n" gives "0100FFFFFF\n0100FFFFFF\n0100FFFFFF\n")
    ∷ []
