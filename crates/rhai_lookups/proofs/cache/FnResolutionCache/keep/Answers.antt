use Rattle.std.proofs.Common.{◌∙◌}
use Rattle.rhai_lookups.specs.Lists.{kept_of}
use Rattle.rhai_lookups.proofs.cache.FnResolutionCache.keep.Goals as goal

pub returns : goal.returns
returns g c = λ lists extent is fits.
    let now = c.set_extent.ensures lists extent fits in
    (c.add.ensures.extent ∙ now.0, c.add.ensures.right (kept_of lists) is now.1)
