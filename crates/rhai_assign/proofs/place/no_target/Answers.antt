use Rattle.std.proofs.Common.{◌∙◌, Err, ap, sym}
use Rattle.rhai_values.specs.Cells.{cells_of}
use Rattle.rhai_machine.specs.language.Names.{temporary}
use Rattle.rhai_machine.specs.language.Places.{target_meant}
use Rattle.rhai_assign.proofs.place.no_target.Goals as goal

pub returns-in-Ok : goal.returns-in-Ok
returns-in-Ok g c memory =
    ap (λ r. target_meant (cells_of c.args.global.now.cells) c.args.name.now c.args.pos (temporary r)) (sym (c.in-Ok.ensures tt))
    ∙ ap Err (sym (c.assignment_to_constant.ensures memory))

pub returns-in-Err : goal.returns-in-Err
returns-in-Err g c memory =
    ap (λ r. target_meant (cells_of c.args.global.now.cells) c.args.name.now c.args.pos (temporary r)) (sym (c.in-Err.ensures memory))
