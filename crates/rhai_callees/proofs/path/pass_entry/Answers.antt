use Rattle.std.proofs.Common.{Err, ap, sym, ◌∙◌}
use Rattle.rhai_values.specs.Cells.{cells_of}
use Rattle.rhai_names.specs.Passed.{copy_passed}
use Rattle.rhai_names.proofs.Passing.{looked_free, looked_held}
use Rattle.rhai_callees.proofs.path.pass_entry.Goals as goal

pub returns-then-is_held : goal.returns-then-is_held
returns-then-is_held g c m =
    let cells = cells_of c.args.cells.now in
    ap Err (c.data_race_of.ensures m)
    ∙ sym (ap (copy_passed cells c.args.pos)
    (looked_held cells c.args.pos c.args.name.now c.args.value.now.value c.args.value.now (sym c.is_held.ensures ∙ c.if-is_held.true)))

pub returns : goal.returns
returns g c m =
    let cells = cells_of c.args.cells.now in
    c.pass_value.ensures m
    ∙ sym (ap (copy_passed cells c.args.pos)
    (looked_free cells c.args.pos c.args.name.now c.args.value.now.value c.args.value.now (sym c.is_held.ensures ∙ c.if-is_held.false)))
