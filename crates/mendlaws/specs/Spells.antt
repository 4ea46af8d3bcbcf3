-- Which captured line spells which line of a script, code by code, and which is blank; nothing is mended here ("Mending captured scripts").
use Rattle.std.specs.Prelude.{◌≡◌, List, [], ◌∷◌, ℕ, ◌+◌, ◌≤◌}

-- A captured code stands for the code of a script: for itself, or, as one of the small letters a to f, for its capital.
pub data StandsFor (captured code : ℕ) : Type 0 where
  itself : captured ≡ code → StandsFor captured code
  small : 97 ≤ captured → captured ≤ 102 → captured ≡ code + 32 → StandsFor captured code

-- A captured line spells another where each of its codes stands for the other's; one CR may stand behind.
pub data Spells : List ℕ → List ℕ → Type 0 where
  done : Spells [] []
  cr : Spells (13 ∷ []) []
  next : {b c : ℕ} {bs cs : List ℕ} → StandsFor b c → Spells bs cs → Spells (b ∷ bs) (c ∷ cs)

-- A captured line is blank where nothing stands before its LF, or one CR alone.
pub data Blank : List ℕ → Type 0 where
  nothing : Blank []
  cr : Blank (13 ∷ [])
