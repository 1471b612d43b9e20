use Rattle.rhai_state.specs.Deciding.{is_there}
use Rattle.rhai_state.specs.Reached.{entry_holds}
use Rattle.rhai_state.proofs.Lists.{given_more, given_not}
use Rattle.rhai_state.proofs.fitting.entries_fit.Goals as goal

pub returns-then-not-value_fits : goal.returns-then-not-value_fits
returns-then-not-value_fits g c =
    given_not (is_there c.args.global.now) entry_holds c.args.entries.now c.loop-entry.entry-index _ c.loop-entry-test.true c.entry-item.is
    c.if-not-value_fits.ensures

pub loop-entry-preserved : goal.loop-entry-preserved
loop-entry-preserved g c =
    given_more (is_there c.args.global.now) entry_holds c.args.entries.now c.loop-entry.entry-index _ c.loop-entry-test.true c.entry-item.is
    c.loop-entry.invariant c.if-not-value_fits.ensures
