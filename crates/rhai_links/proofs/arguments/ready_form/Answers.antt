use Rattle.std.proofs.Common.{sym, ◌∙◌}
use Rattle.rhai_tree.specs.declared.expr.Expr.{out-Expr}
use Rattle.rhai_machine.specs.language.Expressions.{literal_of}
use Rattle.rhai_links.proofs.ArgumentLemmas.{there}
use Rattle.rhai_links.proofs.arguments.ready_form.Goals as goal

pub returns-then-is_there : goal.returns-then-is_there
returns-then-is_there g c =
    let literal = literal_of {H = g.row.H.Denot} (out-Expr c.in-Index.index.now) in
    rw c.in-Index.is (there literal (sym c.is_literal-is_there.ensures ∙ c.if-is_there.true))
