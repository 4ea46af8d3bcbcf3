-- A captured script, what the program prints of it, and what it says of its lines ("Mending captured scripts").
use Rattle.std.specs.Prelude.{List, ℕ, codes}

-- Of its seven lines three are fit.
abbrev pub a_capture : List ℕ
a_capture = codes "0303b0\n02\n\n04\n05004\n0z\n02"

-- Its clean script, which is printed.
abbrev pub clean_script : List ℕ
clean_script = codes "0303B0\n02\n02\n"

-- Every line but the second, which is kept, is named.
abbrev pub said_of_its_lines : List ℕ
said_of_its_lines =
    codes "line 1: M\nline 3: B\nline 4: U, no such kind\nline 5: U, wrong count of digits\nline 6: U, odd digit\nline 7: M\n"

-- Another, of which no line is unfit.
abbrev pub a_fit_capture : List ℕ
a_fit_capture = codes "0303b0\n\n02"
