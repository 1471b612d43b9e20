use Rattle.std.proofs.Common.{sym, ap, ◌∙◌, ◌||◌}
use Rattle.rhai_values.specs.Cells.{cells_of}
use Rattle.rhai_machine.specs.language.Places.{is_constant}
use Rattle.rhai_assign.proofs.Found.{in_own_cell}
use Rattle.rhai_assign.proofs.this.target_in_cell.Goals as goal

pub returns-else-is_constant : goal.returns-else-is_constant
returns-else-is_constant g c = in_own_cell c.args.id (cells_of c.args.cells.now) _ _ c.args.this.now.mode c.in-Some.inner.now
    (sym c.in-Some.ensures) (ap (λ mode. is_constant mode || is_constant c.in-Some.inner.now.mode) (sym c.access_mode-mode.ensures)
    ∙ ap (λ mode. is_constant c.access_mode-mode.result || is_constant mode) (sym c.access_mode.ensures)
    ∙ sym c.is_constant.ensures ∙ c.if-is_constant.false)
