-- The rack that the first line of a text names ("A rack of cards").
use Rattle.std.specs.Prelude.{cond, ◌&&◌, List, [], ◌∷◌, ℕ, ◌+◌, ◌*◌, ltb, Result, Err}
use Rattle.rack.specs.declared.Rack.{Rack}
use Rattle.rack.specs.declared.refusals.BadRack.{BadRack}
use Rattle.rack.specs.State.{built_of}
use Rattle.text.specs.Digits.{no_byte, pair_value}
use Rattle.text.specs.Lines.{Line, ended, rest}

-- A base has four digits.
abbrev pub base_digits : ℕ
base_digits = 4

-- What stands where no four digits were written: it is no base, so that there is no rack with it.
abbrev pub no_base : ℕ
no_base = 0xffff

-- The number of four digits, by the bytes that two and two of them write; no base where either is none.
unfoldable pub base_of : ℕ → ℕ → ℕ
base_of high low = cond (ltb high no_byte && ltb low no_byte) (low + 256 * high) no_base

-- The base that a text begins with: of its first four codes; no base where there are fewer.
unfoldable pub leading_base : List ℕ → ℕ
leading_base [] = no_base
leading_base (a ∷ []) = no_base
leading_base (a ∷ b ∷ []) = no_base
leading_base (a ∷ b ∷ c ∷ []) = no_base
leading_base (a ∷ b ∷ c ∷ d ∷ later) = base_of (pair_value a b) (pair_value c d)

-- The bases that a line names, four digits each; a blank line names none.
unfoldable pub bases_of_line : List ℕ → List ℕ
bases_of_line [] = []
bases_of_line (a ∷ []) = no_base ∷ []
bases_of_line (a ∷ b ∷ []) = no_base ∷ []
bases_of_line (a ∷ b ∷ c ∷ []) = no_base ∷ []
bases_of_line (a ∷ b ∷ c ∷ d ∷ later) = leading_base (a ∷ b ∷ c ∷ d ∷ later) ∷ bases_of_line later

-- What is no rack.
abbrev pub no_rack : Result Rack BadRack
no_rack = Err (record {})

-- The rack that a line names. A rest without LF names none, however well it is formed.
unfoldable pub rack_of_line : Line → Result Rack BadRack
rack_of_line (ended bytes) = built_of (bases_of_line bytes)
rack_of_line (rest bytes) = no_rack

-- The rack that some lines are for, which the first of them names; and the lines behind it, which are to be answered.
unfoldable pub rack_for : List Line → Result Rack BadRack
rack_for [] = no_rack
rack_for (l ∷ ls) = rack_of_line l

unfoldable pub further_lines : List Line → List Line
further_lines [] = []
further_lines (l ∷ ls) = ls
