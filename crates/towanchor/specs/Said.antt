-- A text to which words are added ("Script and program").
use Rattle.std.specs.Prelude.{◌≡◌, List, ◌++◌, ℕ, String, string_bytes}

-- It ends with these bytes, behind those that it had.
abbrev pub Says : {Z : Type 0} → String Z → String Z → List ℕ → Type 0
Says old new bytes = string_bytes new ≡ string_bytes old ++ bytes
