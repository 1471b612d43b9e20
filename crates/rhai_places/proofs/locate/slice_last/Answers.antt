use Rattle.std.proofs.Common.{◌≡◌, ℕ, ◌+◌, ℤ, pos, negsuc, true, min, refl}
use Rattle.std.specs.Prelude.{unsigned_abs}
use Rattle.std.specs.Int.{w64}
use Rattle.std.proofs.lemmas.Int.{to_z-of_z}
use lib.Signed.{le_z}
use Rattle.rhai_spots.specs.Indexing as spec
use Rattle.rhai_places.proofs.locate.slice_last.Goals as goal

from_start : (count : ℕ) (last : ℤ) → le_z (pos 0) last ≡ true → min (unsigned_abs last + 1) count ≡ spec.slice_last count last
from_start count (pos i) e = refl
from_start count (negsuc i) e = cc

pub returns-then-last-ge0 : goal.returns-then-last-ge0
returns-then-last-ge0 c =
    rw (c.min.ensures, c.distance.ensures, to_z-of_z w64 c.args.last c.ranges.last)
    (from_start _ _ (rw (to_z-of_z w64 c.args.last c.ranges.last) at c.if-last-ge0.true))
