-- An equation of truth values holds where it holds in every row of its table, which antt computes.
-- Rests on bits' Tested.
use Rattle.std.proofs.Common.{◌≡◌, Bool, true, false, ◌&&◌, ℕ, zero, suc, T}
use Rattle.bits.proofs.Tested.{left, right, same, same_is}

-- A function of n truth values.
abbrev pub Function : ℕ → Type 0
Function zero = Bool
Function (suc n) = Bool → Function n

-- Two of them agree in every row,
abbrev pub rows : (n : ℕ) → Function n → Function n → Bool
rows zero f h = same f h
rows (suc n) f h = rows n (f true) (h true) && rows n (f false) (h false)

-- and so everywhere.
abbrev pub Everywhere : (n : ℕ) → Function n → Function n → Type 0
Everywhere zero f h = f ≡ h
Everywhere (suc n) f h = (b : Bool) → Everywhere n (f b) (h b)

pub truth : (n : ℕ) (f h : Function n) → T (rows n f h) → Everywhere n f h
truth zero f h t = same_is f h t
truth (suc n) f h t =
    elim [
      | true ↦ truth n (f true) (h true) (left (rows n (f true) (h true)) (rows n (f false) (h false)) t)
      | false ↦ truth n (f false) (h false) (right (rows n (f true) (h true)) (rows n (f false) (h false)) t)
    ]
