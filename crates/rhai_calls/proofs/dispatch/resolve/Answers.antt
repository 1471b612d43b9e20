use Rattle.std.proofs.Common.{sym}
use Rattle.rhai_calls.proofs.Dispatching.{means_none, means_this}
use Rattle.rhai_calls.proofs.dispatch.resolve.Goals as goal

pub returns-in-Some-clause-resolves : goal.returns-in-Some-clause-resolves
returns-in-Some-clause-resolves g c memory =
    rw (← c.call_races.ensures, c.if-call_races.false) (means_this _ c.in-Some.result c.in-Some.ensures.means memory)

pub returns-in-Ok-Some-clause-resolves : goal.returns-in-Ok-Some-clause-resolves
returns-in-Ok-Some-clause-resolves g c =
    rw (← c.call_races.ensures, c.if-call_races.false) (
      means_none _ (rw c.in_default.is at c.meaning.ensures.means),
      rw (c.meaning.ensures.same, c.in-Ok-Some.field-0-is) at c.in-Ok-Some.ensures.found,
    )

pub returns-in-Ok-None-clause-resolves : goal.returns-in-Ok-None-clause-resolves
returns-in-Ok-None-clause-resolves g c =
    rw (← c.call_races.ensures, c.if-call_races.false) (
      means_none _ (rw c.in_default.is at c.meaning.ensures.means),
      rw (c.meaning.ensures.same, c.in-Ok-None.field-0-is) at c.in-Ok-None.ensures.found,
    )
