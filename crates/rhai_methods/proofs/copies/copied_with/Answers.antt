use Rattle.std.proofs.Common.{Ok, sym, ap, ◌∙◌}
use Rattle.rhai_values.specs.Cells.{cells_of}
use Rattle.rhai_machine.specs.language.Values.{through}
use Rattle.rhai_methods.proofs.CopyLemmas.{curried_some}
use Rattle.rhai_methods.proofs.copies.copied_with.Goals as goal

pub returns-in-Ok-Some : goal.returns-in-Ok-Some
returns-in-Ok-Some g c memory =
    c.with_curried.ensures memory
    ∙ curried_some g.H.Host.name_of (cells_of c.args.cells.now) c.args.more.now c.args.pos
    (through (cells_of c.args.cells.now) c.args.value.now c.args.pos) c.in-Ok-Some.pointer
    (ap Ok (sym c.in-Ok-Some.field-0-is) ∙ c.in-Ok-Some.ensures tt)
