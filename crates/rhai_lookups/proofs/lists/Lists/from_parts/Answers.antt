use Rattle.std.proofs.Common.{ap, sym, ◌∙◌, subst}
use Rattle.rhai_lookups.specs.Levels.{CachesFit, NewestFits, below_in}
use Rattle.rhai_lookups.proofs.Stacks.{alone_fits, newest_alone}
use Rattle.rhai_lookups.proofs.lists.Lists.from_parts.Goals as goal

pub invariant_of-result : goal.invariant_of-result
unfolding CachesFit
invariant_of-result g c =
    alone_fits (c.args.lib, c.args.imports) c.args.caches.now.levels c.settle.new.self.levels
    (c.settle.ensures.below ∙ ap below_in c.lend-own.ensures.run)
    (c.settle.ensures.current (c.args.lib, c.args.imports) c.count-extent.ensures
    (subst (NewestFits (c.args.lib, c.args.imports)) (sym c.lend-own.ensures.run)
    (newest_alone (c.args.lib, c.args.imports) c.args.caches.now.levels c.requires.fit)))
