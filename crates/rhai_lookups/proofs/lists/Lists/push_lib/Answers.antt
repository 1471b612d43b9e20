use Rattle.rhai_lookups.specs.Fits.{FitsLists}
use Rattle.rhai_lookups.specs.Levels.{caches_of}
use Rattle.rhai_lookups.specs.Lists.{with_library}
use Rattle.rhai_lookups.proofs.Fitting.{all_by, fits_library}
use Rattle.rhai_lookups.proofs.lists.Lists.push_lib.Goals as goal

pub invariant_of-self-2 : goal.invariant_of-self-2
invariant_of-self-2 g c =
    rw c.in_ok-push.ensures.ok (all_by (FitsLists (c.self.inside.lib, c.self.inside.imports))
    (FitsLists (with_library (c.self.inside.lib, c.self.inside.imports) c.args.library)) (fits_library
    (c.self.inside.lib, c.self.inside.imports) c.args.library)
    (caches_of c.self.inside.caches) c.self.invariant)
