use Rattle.std.proofs.Common.{arith, subst, sym, ◌∙◌}
use Rattle.rhai_lookups.specs.Fits.{FitsLists}
use Rattle.rhai_lookups.specs.Lists.{first_of}
use Rattle.rhai_lookups.proofs.Fitting.{empty_fits, fits_cut}
use Rattle.rhai_lookups.proofs.cache.FnResolutionCache.cut.Goals as goal

pub returns-then-self-extent-2 : goal.returns-then-self-extent-2
returns-then-self-extent-2 g c = λ lists fits. fits_cut lists c.args.extent c.args.self.now (omega arith) (omega arith) fits

pub returns : goal.returns
returns g c = λ lists fits.
    subst (FitsLists (first_of lists c.args.extent)) (sym (c.replace.ensures.after ∙ c.new.ensures)) (empty_fits
    (first_of lists c.args.extent))
