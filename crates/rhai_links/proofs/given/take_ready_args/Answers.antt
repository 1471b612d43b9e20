use Rattle.std.proofs.Common.{arith}
use Rattle.rhai_tree.specs.declared.expr.Expr.{out-Expr}
use Rattle.rhai_machine.specs.language.Links.{link_of}
use Rattle.rhai_links.specs.Ready.{at_once}
use Rattle.rhai_links.proofs.GivenAtOnce.{given_same, is_given}
use Rattle.rhai_links.proofs.given.take_ready_args.Goals as goal

pub put_ready_args-requires : goal.put_ready_args-requires
put_ready_args-requires g c = (omega arith, (is_given c.in-Some.ready _ (rw c.in-Some.is at c.ready_at_once.ensures), c.requires))

pub returns-in-Ok-clause-given : goal.returns-in-Ok-clause-given
returns-in-Ok-clause-given g c = λ done.
    given_same c.in-Some.ready (at_once (link_of (out-Expr c.args.chain.now))) c.put_ready_args.new.made
    (rw c.in-Some.is at c.ready_at_once.ensures) c.in-Ok.ensures.given
