use Rattle.std.proofs.Common.{sym, subst}
use Rattle.rhai_lookups.specs.Levels.{CachesFit, NewestFits, EntriesRight}
use Rattle.rhai_lookups.proofs.Stacks.{given_fits, given_right, newest_fits, rewound_fit}
use Rattle.rhai_lookups.proofs.lists.Lists.into_parts.Goals as goal

pub returns-clause-fit : goal.returns-clause-fit
unfolding CachesFit
returns-clause-fit g c =
    rw (← c.self.view_is) (subst (λ caches. NewestFits (c.self.inside.lib, c.self.inside.imports) caches.levels) (sym c.give_back.ensures)
    (given_fits (c.self.inside.lib, c.self.inside.imports) c.args.caches.now.levels c.settle.new.self.levels
    (c.settle.ensures.current (c.self.inside.lib, c.self.inside.imports) c.count-extent.ensures (newest_fits
    (c.self.inside.lib, c.self.inside.imports) c.rewind.new.self.levels
    (rewound_fit (c.self.inside.lib, c.self.inside.imports)
    1 c.self.inside.caches c.rewind.new.self c.rewind.ensures.stays c.self.invariant)))))

pub returns-clause-right : goal.returns-clause-right
returns-clause-right g c =
    rw (← c.self.view_is) (subst (λ caches. EntriesRight (c.self.inside.lib, c.self.inside.imports) caches) (sym c.give_back.ensures)
    (given_right (c.self.inside.lib, c.self.inside.imports) c.args.caches.now.levels c.settle.new.self.levels
    (c.settle.ensures.current (c.self.inside.lib, c.self.inside.imports) c.count-extent.ensures (newest_fits
    (c.self.inside.lib, c.self.inside.imports) c.rewind.new.self.levels
    (rewound_fit (c.self.inside.lib, c.self.inside.imports)
    1 c.self.inside.caches c.rewind.new.self c.rewind.ensures.stays c.self.invariant)))))
