use Rattle.std.proofs.Common.{◌∙◌}
use Rattle.rhai_lookups.proofs.Fitting.{fits_import, raised_fits}
use Rattle.rhai_lookups.proofs.cache.FnResolutionCache.raise.Goals as goal

pub returns-then-is : goal.returns-then-is
returns-then-is g c = λ lists added from to none fits.
    raised_fits lists added c.args.self.now c.args.to none (c.is.ensures c.if-is.true ∙ from) to fits

pub returns-else-is : goal.returns-else-is
returns-else-is g c = λ lists added from to none fits. fits_import lists added c.args.self.now fits
