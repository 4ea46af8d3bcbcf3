-- A chip that is saved and restored ("A host in C"): which bytes give which chip, by the table.
use Rattle.std.specs.Prelude.{◌≡◌, ◌↔◌, true, List, ℕ, Some}
use Rattle.chip.specs.declared.Chip.{Chip}
use Rattle.image.specs.Layout.{image_of}
use Rattle.image.specs.Loaded.{state_of}
use Rattle.image.specs.Good.{is_image}
use Rattle.image.specs.Slices.{loaded_from}
use Rattle.restored.specs.Having.{HasImage}
use Rattle.restored.specs.Table.{Tells}

-- The bytes are an image, and the chip that is restored from them is this one.
abbrev pub IsImageOf : List ℕ → Chip → Type 0
IsImageOf l c = (is_image l ≡ true) × (state_of l ≡ c)

-- They are what is saved of no chip that has an image,
abbrev pub SavedOfNone : List ℕ → Type 0
SavedOfNone l = (c : Chip) → HasImage c → ¬ (image_of c ≡ l)

-- and they tell none, by the table.
abbrev pub TellsNone : List ℕ → Type 0
TellsNone l = (c : Chip) → HasImage c → ¬ Tells l c

-- This chip is loaded from them exactly where they tell it and it has an image.
abbrev pub LoadsAsTold : List ℕ → Chip → Type 0
LoadsAsTold l c = (loaded_from l ≡ Some c) ↔ (HasImage c × Tells l c)
