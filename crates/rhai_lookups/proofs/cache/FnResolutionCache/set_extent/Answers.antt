use Rattle.std.proofs.Common.{subst, sym, ◌∙◌}
use Rattle.std.proofs.lemmas.List.Elements.{All-nil}
use Rattle.rhai_lookups.specs.Fits.{IsCurrent, IsRight}
use Rattle.rhai_lookups.specs.Lists.{kept_of}
use Rattle.rhai_lookups.proofs.cache.FnResolutionCache.set_extent.Goals as goal

pub returns-then-is : goal.returns-then-is
returns-then-is g c = λ lists extent fits. (c.is.ensures c.if-is.true ∙ extent, fits (c.is.ensures c.if-is.true ∙ extent))

pub returns : goal.returns
returns g c = λ lists extent fits.
    subst (IsCurrent lists) (sym c.replace.ensures.after) (extent, rw c.new.ensures (All-nil (IsRight (kept_of lists))))
