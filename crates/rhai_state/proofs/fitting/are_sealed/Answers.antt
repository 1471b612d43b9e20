use Rattle.std.proofs.Common.{None, ap, ◌∙◌, arith}
use Rattle.rhai_values.specs.Cells.{cells_of}
use Rattle.rhai_state.specs.Deciding.{is_sealed}
use Rattle.rhai_state.proofs.Lists.{passed_more, passed_not, there}
use Rattle.rhai_state.proofs.fitting.are_sealed.Goals as goal

pub returns-then-not-is_sealed : goal.returns-then-not-is_sealed
returns-then-not-is_sealed g c =
    passed_not is_sealed (cells_of c.args.global.now.cells) c.loop-number.number None (omega arith)
    (c.if-not-is_sealed.ensures ∙ ap is_sealed (c.get.ensures ∙ there _ c.loop-number.number (omega arith)))

pub loop-number-preserved : goal.loop-number-preserved
loop-number-preserved g c =
    passed_more is_sealed (cells_of c.args.global.now.cells) c.loop-number.number None (omega arith) c.loop-number.invariant
    (c.if-not-is_sealed.ensures ∙ ap is_sealed (c.get.ensures ∙ there _ c.loop-number.number (omega arith)))
