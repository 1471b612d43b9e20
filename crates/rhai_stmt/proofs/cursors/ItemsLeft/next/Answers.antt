use Rattle.std.proofs.Common.{Some, ap, sym, ◌∙◌}
use Rattle.rhai_stmt.proofs.ItemLemmas.{taken}
use Rattle.rhai_stmt.proofs.cursors.ItemsLeft.next.Goals as goal

pub returns-clause-some : goal.returns-clause-some
returns-clause-some g c = taken c.args.self.now.items c.args.self.now.at c.replace.result c.replace.new.dest
    (c.at_mut-place.ensures.value ∙ ap Some (sym c.replace.ensures.value))

pub returns-in-Some-clause-some : goal.returns-in-Some-clause-some
returns-in-Some-clause-some g c = taken c.args.self.now.items c.args.self.now.at c.in-Some.number c.at_mut-place.result.now
    (c.at_mut-place.ensures.value ∙ ap Some (sym c.in-Some.ensures))
