use Rattle.std.proofs.Common.{◌≡◌, ◌+◌, ◌-◌, ◌∙◌, None, arith, sym}
use Rattle.rhai_values.specs.Cells.{cells_of}
use Rattle.rhai_state.specs.Scope.{entries_of}
use Rattle.rhai_machine.specs.language.Walks.{counters}
use Rattle.rhai_steps.specs.States.{holding, local_of}
use Rattle.rhai_stmt.specs.Loops.{loop_in}
use Rattle.rhai_stmt.specs.Variables.{seen_as}
use Rattle.rhai_stmt.proofs.Plain.{stays}
use Rattle.rhai_stmt.proofs.TurnLemmas.{item_not, item_written, names_kept}
use Rattle.rhai_stmt.proofs.entering.enter_item.Goals as goal

pub returns-clause-names : goal.returns-clause-names
returns-clause-names g c =
    let l = local_of c.args.global.now c.args.scope.now (holding None) in
    names_kept _ l _ _ c.write_variable.result c.write_variable.new.place _ (c.write_variable.ensures.wrote l)
    c.write_variable.ensures.scope

pub returns-clause-entered : goal.returns-clause-entered
returns-clause-entered g c rest turn k l =
    let before = seen_as (entries_of c.args.scope.now) (cells_of c.args.global.now.cells) l in
    let there : c.len-index.result - 1 ≡ c.args.base + counters c.args.parts.counter.now =
    omega (arith, c.len-index.ensures, c.requires) in
    item_written c.args.item before _ _ c.write_variable.result c.write_variable.new.place (loop_in c.args.parts) c.args.item rest
    turn c.args.base _ k
    (stays before.around.cells c.args.item _ (sym c.is_bare_handle.ensures ∙ c.if-is_bare_handle.false)) there
    (c.write_variable.ensures.wrote l)

pub returns-clause-refused : goal.returns-clause-refused
returns-clause-refused g c rest turn k l =
    let before = seen_as (entries_of c.args.scope.now) (cells_of c.args.global.now.cells) l in
    let there : c.len-index.result - 1 ≡ c.args.base + counters c.args.parts.counter.now =
    omega (arith, c.len-index.ensures, c.requires) in
    item_not c.args.item before _ _ c.write_variable.result c.write_variable.new.place (loop_in c.args.parts) c.args.item rest
    turn c.args.base _ k
    (stays before.around.cells c.args.item _ (sym c.is_bare_handle.ensures ∙ c.if-is_bare_handle.false)) there
    (c.write_variable.ensures.wrote l)
