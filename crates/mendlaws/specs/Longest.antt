-- A text that is short enough, and whose clean form is too long ("Mending captured scripts").
use Rattle.std.specs.Prelude.{List, [], ◌∷◌, ℕ, zero, suc}

-- A text with n lines 02 before it.
unfoldable pub ends_before : ℕ → List ℕ → List ℕ
ends_before zero text = text
ends_before (suc n) text = 48 ∷ 50 ∷ 10 ∷ ends_before n text

-- A rest that is fit: 0100.
abbrev pub fit_rest : List ℕ
fit_rest = 48 ∷ 49 ∷ 48 ∷ 48 ∷ []

-- As long as a script may be, and it lacks the last LF alone: 1,364 lines 02, of three bytes each, and this rest of four.
unfoldable pub lacks_one_lf : List ℕ
lacks_one_lf = ends_before 1364 fit_rest
