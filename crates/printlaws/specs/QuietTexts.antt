-- Some scripts and what is said of their interrupts, as text ("Why the interrupt is quiet").
use Rattle.std.specs.Prelude.{List, [], ◌∷◌}
use Rattle.text.specs.Quoted.{Text, ◌gives◌}

-- Group A in mode 2, enabled both ways: a byte is strobed in, one is written out, and taken by ACK, which then stands low; the byte that came in is
-- read. Group B is in mode 0.
abbrev pub both_ways : Text
both_ways =
    "0303C0\n02\n03030D\n02\n030309\n02\n050041\n0502EF\n0502FF\n030055\n02\n0502BF\n0100\n02\n"
    gives "group A, input: low, no byte is waiting to be read\ngroup A, output: low, the acknowledge line is low\ngroup B: there is no INTR, the group is in mode 0\n"

-- A printer on group B that hangs: ACK stands low. Two lines are no frames, and one ends a cycle where none runs.
abbrev pub hanging_printer : Text
hanging_printer =
    "030384\n02\n030305\n02\n030148\n02\n0502FB\n\n02\n0148"
    gives "group A: there is no INTR, the group is in mode 0\ngroup B, output: low, the acknowledge line is low\nlines that were refused, and changed nothing: 3\n"

abbrev pub quiet_texts : List Text
quiet_texts = both_ways ∷ hanging_printer ∷ []
