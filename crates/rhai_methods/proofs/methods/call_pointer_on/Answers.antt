use Rattle.std.proofs.Common.{List, None, Some, refl, sym, ◌∙◌}
use Rattle.std.specs.Prelude.{ℕ}
use Rattle.std.specs.Option.{option_copied}
use Rattle.rhai_machine.specs.language.Setting.{Rules}
use Rattle.rhai_machine.specs.language.State.{State}
use Rattle.rhai_steps.specs.Sessions.{under}
use Rattle.rhai_steps.specs.States.{local_of, state_of}
use Rattle.rhai_steps.specs.OnFocus.{lending}
use Rattle.rhai_methods.specs.Parts.{name_called, on_with}
use Rattle.rhai_methods.proofs.Going.{runs_out_from}
use Rattle.rhai_methods.proofs.Levels.{on_with_level}
use Rattle.rhai_methods.proofs.Pointed.{linked_on_goes, on_found}
use Rattle.rhai_methods.proofs.methods.call_pointer_on.Goals as goal

pub returns-in-Ok-Some-clause-runs : goal.returns-in-Ok-Some-clause-runs
returns-in-Ok-Some-clause-runs g c scope held =
    let rules : Rules _ _ = under g.H.Host.name_of c.args.session.now g.T.NativeTable.natives in
    let s : State _ _ = state_of (g.T.NativeTable.state c.args.table.now) c.args.global.now scope (lending held c.args.target.now) in
    let called : List ℕ = name_called c.args.pointer (option_copied c.args.called) in
    rw c.linked_with.ensures.same
    (on_found rules c.args.pointer c.args.pos c.args.args.now s s c.enter_linked_on.result (Some c.in-Ok-Some.function)
    (sym c.in-Ok-Some.field-0-is ∙ c.in-Ok-Some.ensures.found) called c.args.target.now
    (linked_on_goes rules c.args.pointer c.args.pos c.args.args.now s c.enter_linked_on.result c.in-Ok-Some.function
    c.enter_linked_on.ensures called c.args.target.now))

pub returns-in-Ok-None-clause-runs : goal.returns-in-Ok-None-clause-runs
returns-in-Ok-None-clause-runs g c scope held =
    let rules : Rules _ _ = under g.H.Host.name_of c.args.session.now g.T.NativeTable.natives in
    let s : State _ _ = state_of (g.T.NativeTable.state c.args.table.now) c.args.global.now scope (lending held c.args.target.now) in
    on_found rules c.args.pointer c.args.pos c.args.args.now s
    (state_of (g.T.NativeTable.state c.unlinked_on.new.table) c.unlinked_on.new.global scope (lending held c.unlinked_on.new.target))
    c.unlinked_on.result None
    (sym c.in-Ok-None.field-0-is ∙ c.in-Ok-None.ensures.found)
    (name_called c.args.pointer (option_copied c.args.called)) c.args.target.now
    ((rw c.linked_with.ensures.same at c.unlinked_on.ensures.runs) scope held)

pub returns-in-Err-clause-runs : goal.returns-in-Err-clause-runs
returns-in-Err-clause-runs g c scope held =
    let rules : Rules _ _ = under g.H.Host.name_of c.args.session.now g.T.NativeTable.natives in
    let called : List ℕ = name_called c.args.pointer (option_copied c.args.called) in
    rw c.linked_with.ensures.same
    (runs_out_from rules c.args.pos (on_with rules.setting c.args.pointer called c.args.pos c.args.args.now c.args.target.now)
    (state_of (g.T.NativeTable.state c.args.table.now) c.args.global.now scope (lending held c.args.target.now)) _
    (λ k. on_with_level k (local_of c.args.global.now scope (lending held c.args.target.now)) rules.setting c.args.pointer called
    c.args.pos c.args.args.now c.args.target.now) refl)
