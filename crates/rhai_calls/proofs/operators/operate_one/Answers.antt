use Rattle.std.proofs.Common.{◌∷◌, []}
use Rattle.rhai_machine.specs.language.Runs.{Goes}
use Rattle.rhai_steps.specs.Sessions.{under}
use Rattle.rhai_steps.proofs.Operating.{built}
use Rattle.rhai_calls.proofs.operators.operate_one.Goals as goal

pub returns-in-Some-clause-runs : goal.returns-in-Some-clause-runs
unfolding Goes
returns-in-Some-clause-runs g c scope held k =
    let rules = under g.H.Host.name_of c.args.session.now g.T.NativeTable.natives in
    built rules _ k _ _ _ _ _ c.builtin_unary.ensures.value c.in-Some.is c.applied.ensures

pub returns-in-None-clause-runs : goal.returns-in-None-clause-runs
unfolding Goes
returns-in-None-clause-runs g c scope held k =
    rw (← c.builtin_unary.ensures.value (rw c.in-None.is tt), c.in-None.is)
    ((rw (c.as_str-name.ensures, c.get.ensures) at
    (c.call_listed.ensures.runs scope held (c.args.out.now ∷ []) (rw c.replace.ensures.value at c.one-is_there.ensures))) k)
