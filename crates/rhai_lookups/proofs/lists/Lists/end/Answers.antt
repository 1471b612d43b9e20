use Rattle.rhai_lookups.proofs.Stacks.{rewound_fit}
use Rattle.rhai_lookups.proofs.lists.Lists.end.Goals as goal

pub invariant_of-self : goal.invariant_of-self
invariant_of-self g c =
    rewound_fit (c.self.inside.lib, c.self.inside.imports)
    c.args.mark.depth c.self.inside.caches c.rewind.new.self c.rewind.ensures.stays c.self.invariant
