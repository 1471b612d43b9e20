use Rattle.std.proofs.Common.{None, ap, ◌∙◌, arith}
use Rattle.rhai_values.specs.Cells.{cells_of}
use Rattle.rhai_state.specs.Deciding.{is_there, are_there}
use Rattle.rhai_state.specs.Reached.{cell_holds}
use Rattle.rhai_state.proofs.Lists.{given_more_at, given_not_at, there}
use Rattle.rhai_state.proofs.fitting.cells_fit.Goals as goal

pub returns-then-not-cell_fits : goal.returns-then-not-cell_fits
returns-then-not-cell_fits g c =
    given_not_at (is_there c.args.global.now) cell_holds (cells_of c.args.global.now.cells) c.loop-number.number None (omega arith)
    (c.if-not-cell_fits.ensures ∙ ap (λ cell. are_there c.args.global.now (cell_holds cell)) (c.get.ensures ∙ there _
    c.loop-number.number (omega arith)))

pub loop-number-preserved : goal.loop-number-preserved
loop-number-preserved g c =
    given_more_at (is_there c.args.global.now) cell_holds (cells_of c.args.global.now.cells) c.loop-number.number None (omega arith)
    c.loop-number.invariant (c.if-not-cell_fits.ensures ∙ ap (λ cell. are_there c.args.global.now (cell_holds cell)) (c.get.ensures ∙ there
    _ c.loop-number.number (omega arith)))
