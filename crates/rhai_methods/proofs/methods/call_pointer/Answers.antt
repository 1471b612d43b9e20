use Rattle.std.proofs.Common.{None, Some, refl, sym, ◌∙◌}
use Rattle.rhai_machine.specs.language.Setting.{Rules}
use Rattle.rhai_machine.specs.language.State.{State}
use Rattle.rhai_steps.specs.Sessions.{under}
use Rattle.rhai_steps.specs.States.{local_of, state_of}
use Rattle.rhai_methods.specs.Parts.{alone_with}
use Rattle.rhai_methods.proofs.Going.{runs_out_from}
use Rattle.rhai_methods.proofs.Levels.{alone_with_level}
use Rattle.rhai_methods.proofs.Pointed.{alone_found, linked_alone_goes}
use Rattle.rhai_methods.proofs.methods.call_pointer.Goals as goal

pub returns-in-Ok-Some-clause-runs : goal.returns-in-Ok-Some-clause-runs
returns-in-Ok-Some-clause-runs g c scope held =
    let rules : Rules _ _ = under g.H.Host.name_of c.args.session.now g.T.NativeTable.natives in
    let s : State _ _ = state_of (g.T.NativeTable.state c.args.table.now) c.args.global.now scope held in
    rw c.linked_with.ensures.same
    (alone_found rules c.args.pointer c.args.pos c.args.args.now s s c.enter_linked_alone.result (Some c.in-Ok-Some.function)
    (sym c.in-Ok-Some.field-0-is ∙ c.in-Ok-Some.ensures.found)
    (linked_alone_goes rules c.args.pointer c.args.pos c.args.args.now s c.enter_linked_alone.result c.in-Ok-Some.function
    c.enter_linked_alone.ensures))

pub returns-in-Ok-None-clause-runs : goal.returns-in-Ok-None-clause-runs
returns-in-Ok-None-clause-runs g c scope held =
    let rules : Rules _ _ = under g.H.Host.name_of c.args.session.now g.T.NativeTable.natives in
    let s : State _ _ = state_of (g.T.NativeTable.state c.args.table.now) c.args.global.now scope held in
    alone_found rules c.args.pointer c.args.pos c.args.args.now s
    (state_of (g.T.NativeTable.state c.unlinked_alone.new.table) c.unlinked_alone.new.global scope held)
    c.unlinked_alone.result None
    (sym c.in-Ok-None.field-0-is ∙ c.in-Ok-None.ensures.found)
    ((rw c.linked_with.ensures.same at c.unlinked_alone.ensures.runs) scope held)

pub returns-in-Err-clause-runs : goal.returns-in-Err-clause-runs
returns-in-Err-clause-runs g c scope held =
    let rules : Rules _ _ = under g.H.Host.name_of c.args.session.now g.T.NativeTable.natives in
    rw c.linked_with.ensures.same
    (runs_out_from rules c.args.pos (alone_with rules.setting c.args.pointer c.args.pos c.args.args.now)
    (state_of (g.T.NativeTable.state c.args.table.now) c.args.global.now scope held) _
    (λ k. alone_with_level k (local_of c.args.global.now scope held) rules.setting c.args.pointer c.args.pos c.args.args.now) refl)
