use Rattle.std.proofs.Common.{subst}
use Rattle.rhai_lookups.specs.Fits.{FitsLists}
use Rattle.rhai_lookups.specs.Levels.{AllFit}
use Rattle.rhai_lookups.specs.Lists.{with_import}
use Rattle.rhai_lookups.proofs.Fitting.{all_by, fits_import}
use Rattle.rhai_lookups.proofs.Stacks.{stack_fits}
use Rattle.rhai_lookups.proofs.caches.Caches.raise.Goals as goal

pub returns-in-Filled : goal.returns-in-Filled
returns-in-Filled g c = λ lists added from to none all.
    stack_fits (FitsLists lists) (FitsLists (with_import lists added)) c.in-Filled.stack
    (record { top = c.raise.new.self; below = c.in-Filled.stack.below }) (c.raise.ensures lists added from to none)
    (all_by (FitsLists lists) (FitsLists (with_import lists added)) (fits_import lists added) c.in-Filled.stack.below)
    (subst (AllFit lists) c.in-Filled.is all)
