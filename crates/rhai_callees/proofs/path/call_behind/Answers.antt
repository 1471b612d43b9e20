use Rattle.std.proofs.Common.{arith}
use Rattle.std.specs.Option.{option_copied}
use Rattle.rhai_state.specs.Scope.{names_in}
use Rattle.rhai_steps.specs.Agreement.{root_is_good, sight_of}
use Rattle.rhai_steps.proofs.Agreeing.{one_agrees, other_agrees, root_agrees}
use Rattle.rhai_callees.specs.Behind.{last_is_good}
use Rattle.rhai_callees.proofs.path.call_behind.Goals as goal

pub prepend_last-requires : goal.prepend_last-requires
prepend_last-requires g c =
    (omega arith, one_agrees (last_is_good (option_copied c.args.last)) (root_is_good c.args.namespace.now) c.requires)

pub call_public-requires : goal.call_public-requires
call_public-requires g c = root_agrees (sight_of c.args.global.now) (names_in c.args.scope.now) c.args.namespace.now
    (other_agrees (last_is_good (option_copied c.args.last)) (root_is_good c.args.namespace.now) c.requires)
