-- An older image is as long as older images are.
-- Rests on Long.
use Rattle.std.proofs.Common.{◌≡◌, true, List, ℕ, length}
use Rattle.image.proofs.Long.{long_and_more}
use Rattle.image.specs.OlderPlaces as places
use Rattle.image.specs.OlderGood.{bytes_fit, is_older}

pub is_long : (l : List ℕ) → is_older l ≡ true → length l ≡ places.length
unfolding is_older
is_long l good = long_and_more l places.length (bytes_fit l) good
