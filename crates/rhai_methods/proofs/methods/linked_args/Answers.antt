use Rattle.std.proofs.Common.{List, ◌++◌, refl, ap, ◌∙◌}
use Rattle.rhai_tree.specs.declared.function.ScriptFuncDef.{ScriptFuncDef}
use Rattle.rhai_values.specs.Cells.{cells_of}
use Rattle.rhai_values.specs.declared.base.value.Dynamic.{Dynamic}
use Rattle.rhai_methods.specs.Parts.{all_of}
use Rattle.rhai_methods.proofs.Linked.{linked_enters, linked_races, linked_runs_out}
use Rattle.rhai_methods.proofs.methods.linked_args.Goals as goal

pub returns-in-Err : goal.returns-in-Err
returns-in-Err g c = linked_runs_out (cells_of c.args.cells.now) c.args.function.now (all_of c.args.pointer c.args.args.now)
    (all_of c.args.pointer c.args.args.now) refl c.args.pos c.in-Err.error c.in-Err.ensures.refused

pub returns-then-races : goal.returns-then-races
returns-then-races g c = linked_races (cells_of c.args.cells.now) c.args.function.now c.in-Ok.all (all_of c.args.pointer c.args.args.now)
    (c.in-Ok.ensures.joined ∙ ap (λ (vs : List (Dynamic _)). vs ++ c.args.args.now) c.parts_of-name.ensures.curried) c.args.pos
    c.as_str-called.result.now c.races.result c.data_race_by-error.result
    (c.as_str-called.ensures ∙ c.get-then-races.ensures ∙ ap (λ (d : ScriptFuncDef). d.name) (c.def.ensures.value ∙ c.get.ensures))
    (rw c.as_slice.ensures at c.races.ensures) c.if-races.true c.data_race_by-error.ensures

pub returns-else-races : goal.returns-else-races
returns-else-races g c = linked_enters (cells_of c.args.cells.now) c.args.function.now c.in-Ok.all (all_of c.args.pointer c.args.args.now)
    (c.in-Ok.ensures.joined ∙ ap (λ (vs : List (Dynamic _)). vs ++ c.args.args.now) c.parts_of-name.ensures.curried) c.args.pos
    c.races.result (rw c.as_slice.ensures at c.races.ensures) c.if-races.false
