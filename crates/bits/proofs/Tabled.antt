-- A rule written out as a table has the rule's answer at each place. One law for every table: where antt finds a constant
-- array equal to the rule's table, each entry of the array is the rule's.
-- Rests on nothing.
use Rattle.std.proofs.Common.{◌≡◌, ◌∙◌, ap, ℕ, zero, suc, ◌+◌, ◌<◌, add-zero, zero-add, add-suc, suc-add, le_of_suc-le-suc, not-suc-le-zero, get_or}
use Rattle.bits.specs.Table.{from, table}

from_at : {A : Type 0} (f : ℕ → A) (d : A) (n i k : ℕ) → k < n → get_or (from f i n) k d ≡ f (i + k)
from_at f d zero i k h = absurd (not-suc-le-zero h)
from_at f d (suc n) i zero h = rw add-zero
from_at f d (suc n) i (suc k) h = from_at f d n (suc i) k (le_of_suc-le-suc h) ∙ rw (suc-add, add-suc)

pub table_at : {A : Type 0} (f : ℕ → A) (d : A) (n k : ℕ) → k < n → get_or (table f n) k d ≡ f k
table_at f d n k h = from_at f d n 0 k h ∙ ap f (zero-add k)
