-- Scripts and their answers, quoted as strings.
use Rattle.std.specs.Prelude.{List, [], ◌∷◌, ℕ}
use Prim.Native.String.{String}
use Prim.Native.Char.{code}

-- The codes of a text's characters.
abbrev pub codes : String → List ℕ
codes String.[] = []
codes (String.◌∷◌ c text) = code c ∷ codes text

-- A script, and the answers that are listed to it.
pub record Text : Type 0 where
  pub script : String
  pub answers : String

-- It, in one line.
infixl 60 ◌gives◌
abbrev pub ◌gives◌ : String → String → Text
script gives answers = record { script = script; answers = answers }

-- What a function from texts to answers gives for some scripts; and the answers that are listed beside them.
abbrev pub answered : (List ℕ → List ℕ) → List Text → List (List ℕ)
answered answers [] = []
answered answers (t ∷ ts) = answers (codes t.script) ∷ answered answers ts

abbrev pub listed : List Text → List (List ℕ)
listed [] = []
listed (t ∷ ts) = codes t.answers ∷ listed ts
