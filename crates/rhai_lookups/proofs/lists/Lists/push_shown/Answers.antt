use Rattle.rhai_lookups.specs.Fits.{FitsLists}
use Rattle.rhai_lookups.specs.Levels.{caches_of}
use Rattle.rhai_lookups.specs.Lists.{with_import}
use Rattle.rhai_lookups.proofs.Fitting.{all_by, fits_import}
use Rattle.rhai_lookups.proofs.lists.Lists.push_shown.Goals as goal

pub invariant_of-self-2 : goal.invariant_of-self-2
invariant_of-self-2 g c =
    rw c.in_ok-push.ensures.ok (all_by (FitsLists (c.self.inside.lib, c.self.inside.imports))
    (FitsLists (with_import (c.self.inside.lib, c.self.inside.imports) c.args.import)) (fits_import
    (c.self.inside.lib, c.self.inside.imports) c.args.import)
    (caches_of c.self.inside.caches) c.self.invariant)
