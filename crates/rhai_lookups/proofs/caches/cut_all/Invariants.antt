use Rattle.std.specs.Prelude.{◌≤◌, ◌-◌, length}
use Rattle.std.specs.List.{All, AllWithin}
use Rattle.rhai_lookups.specs.Fits.{FitsLists}
use Rattle.rhai_lookups.specs.Lists.{Lists, first_of}
use Rattle.rhai_lookups.proofs.caches.cut_all.Given as goal

abbrev pub invariant-caches : goal.invariant-caches
invariant-caches g l =
    ((lists : Lists _) → All (FitsLists lists) l.fn.caches →
    AllWithin (FitsLists (first_of lists l.extent)) l.caches 0 l.at × AllWithin (FitsLists lists) l.caches l.at (length l.caches))
    × (l.at ≤ length l.caches)

abbrev pub decreases-caches : goal.decreases-caches
decreases-caches g l = length l.caches - l.at
