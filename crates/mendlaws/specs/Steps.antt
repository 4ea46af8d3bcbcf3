-- A captured line, mended step by step in plain codes, and that it means the same frame as before ("Mending captured scripts").
use Rattle.std.specs.Prelude.{◌≡◌, List, [], ◌∷◌, ◌++◌, ℕ, ◌+◌, ◌<◌, ◌≤◌}
use Rattle.bus.specs.Event.{Event}
use Rattle.text.specs.Lines.{Line}
use Rattle.mendlaws.specs.Says.{Says}
use Rattle.mendlaws.specs.Becomes.{bytes_in, Becomes}

-- First a rest gets its LF: from here on each line is the bytes before its LF. Then one CR at their end is dropped. Bytes that do not end so stay.
pub data WithoutCr (bytes left : List ℕ) : Type 0 where
  dropped : bytes ≡ left ++ 13 ∷ [] → WithoutCr bytes left
  none : ((front : List ℕ) → ¬ (bytes ≡ front ++ 13 ∷ [])) → left ≡ bytes → WithoutCr bytes left

-- Then digits are raised: each of the small letters a to f becomes its capital, 32 codes below. Every other code stays.
pub data IsRaised (code raised : ℕ) : Type 0 where
  below : code < 97 → raised ≡ code → IsRaised code raised
  small : 97 ≤ code → code ≤ 102 → code ≡ raised + 32 → IsRaised code raised
  above : 102 < code → raised ≡ code → IsRaised code raised

pub data AllRaised : List ℕ → List ℕ → Type 0 where
  done : AllRaised [] []
  next : {code raised : ℕ} {codes later : List ℕ} → IsRaised code raised → AllRaised codes later → AllRaised (code ∷ codes) (raised ∷ later)

-- So a line is mended to these bytes, and an LF.
pub record MendsTo (l : Line) (bytes : List ℕ) : Type 0 where
  pub left : List ℕ
  pub without_cr : WithoutCr (bytes_in l) left
  pub raised : AllRaised left bytes

-- A line means the frame that it is when it is mended, and it is mended to these bytes alone. Where it is fit, K or M, they say its event, and
-- the clean script has them, with LF. Where it is not, they say no event.
pub record MeansTheSame (l : Line) : Type 0 where
  pub bytes : List ℕ
  pub mends : MendsTo l bytes
  pub alone : {others : List ℕ} → MendsTo l others → others ≡ bytes
  pub fit : {s : ℕ} {part : List ℕ} {e : Event} → Becomes l s part (e ∷ []) → Says bytes e × (part ≡ bytes ++ 10 ∷ [])
  pub unfit : {s : ℕ} {part : List ℕ} → Becomes l s part [] → (e : Event) → ¬ Says bytes e
