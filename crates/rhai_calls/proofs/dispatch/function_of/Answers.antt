use Rattle.std.proofs.Common.{length}
use Rattle.rhai_calls.proofs.Dispatching.{less_one, one_more}
use Rattle.rhai_calls.proofs.dispatch.function_of.Goals as goal

pub returns-then-seeks-2-clause-found : goal.returns-then-seeks-2-clause-found
returns-then-seeks-2-clause-found g c =
    rw (c.if-seeks.false, c.if-seeks-2.true, ← c.type_name-this_type.ensures, less_one (length c.args.rest.now))
    (c.method_by.ensures.found)

pub returns-clause-found : goal.returns-clause-found
returns-clause-found g c =
    rw (c.if-seeks.false, c.if-seeks-2.false, one_more (length c.args.rest.now)) (c.function_by.ensures.found)
