use Rattle.std.proofs.Common.{ap, ◌∙◌}
use Rattle.rhai_lookups.specs.Lists.{extent_of}
use Rattle.rhai_lookups.proofs.lists.Lists.push_hidden.Goals as goal

pub invariant_of-self-2 : goal.invariant_of-self-2
invariant_of-self-2 g c =
    rw c.in_ok-push.ensures.ok (c.raise.ensures (c.self.inside.lib, c.self.inside.imports) c.args.import c.count-from.ensures
    (c.count-to.ensures ∙ ap (λ imports. extent_of (c.self.inside.lib, imports)) c.in_ok-push.ensures.ok) c.requires c.self.invariant)
