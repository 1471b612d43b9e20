use Rattle.std.proofs.Common.{refl}
use Rattle.rhai_values.specs.Cells.{cells_of}
use Rattle.rhai_state.specs.Scope.{entries_of}
use Rattle.rhai_machine.specs.machine.Memory.{◌⨾◌}
use Rattle.rhai_machine.specs.language.Runs.{Goes}
use Rattle.rhai_steps.specs.Sessions.{under}
use Rattle.rhai_steps.specs.States.{local_of}
use Rattle.rhai_context.specs.Ends.{error_in}
use Rattle.rhai_stmt.specs.Loops.{loop_in}
use Rattle.rhai_stmt.specs.Variables.{seen_as}
use Rattle.rhai_stmt.proofs.TurnLemmas.{counts, counts_not, enters, same_seen}
use Rattle.rhai_stmt.proofs.entering.enter_turn.Goals as goal

pub returns-then-not-count_turn-clause-enters : goal.returns-then-not-count_turn-clause-enters
unfolding Goes
returns-then-not-count_turn-clause-enters g c held left rest is some k =
    let rules = under g.H.Host.name_of c.args.session.now g.T.NativeTable.natives in
    let l = local_of c.args.global.now c.args.scope.now held in
    rw (c.count_turn.ensures.rest, c.if-not-count_turn.ensures.same_scope refl, c.if-not-count_turn.ensures.same_cells refl)
    (counts_not rules (loop_in c.args.parts) c.args.item rest c.args.turn c.args.base k _ _ left l is some
    (error_in c.count_turn.new.place) (c.if-not-count_turn.ensures.refused c.args.item rest k l refl))

pub returns-clause-enters : goal.returns-clause-enters
unfolding Goes
returns-clause-enters g c held left rest is some k =
    let rules = under g.H.Host.name_of c.args.session.now g.T.NativeTable.natives in
    let l = local_of c.args.global.now c.args.scope.now held in
    let m = seen_as (entries_of c.count_turn.new.scope) (cells_of c.count_turn.new.global.cells) l in
    let n = seen_as (entries_of c.enter_item.new.scope) (cells_of c.enter_item.new.global.cells) m in
    rw (c.enter_item.ensures.rest, c.count_turn.ensures.rest) (counts rules (loop_in c.args.parts) c.args.item rest c.args.turn
    c.args.base k _ _ left l is some m (c.if-not-count_turn.ensures.counted c.args.item rest k l refl)
    ⨾ enters rules (loop_in c.args.parts) c.args.item rest c.args.turn c.args.base k _ _ c.enter_item.result c.enter_item.new.place m n
    (c.enter_item.ensures.entered rest c.args.turn k m) (c.enter_item.ensures.refused rest c.args.turn k m)
    (same_seen c.args.item m _ _ c.enter_item.result c.enter_item.ensures.same_scope c.enter_item.ensures.same_cells))
