use Rattle.std.proofs.Common.{◌∙◌}
use Rattle.rhai_machine.specs.language.Setting.{Rules}
use Rattle.rhai_steps.specs.Sessions.{under}
use Rattle.rhai_steps.specs.States.{state_of}
use Rattle.rhai_methods.proofs.Pointed.{by_parts_alone}
use Rattle.rhai_methods.proofs.methods.unlinked_alone.Goals as goal

pub returns-clause-runs : goal.returns-clause-runs
returns-clause-runs g c scope held =
    let rules : Rules _ _ = under g.H.Host.name_of c.args.session.now g.T.NativeTable.natives in
    by_parts_alone rules c.args.pointer c.args.pos c.args.args.now
    (state_of (g.T.NativeTable.state c.args.table.now) c.args.global.now scope held)
    (state_of (g.T.NativeTable.state c.call_alone-call.new.table) c.call_alone-call.new.global scope held)
    c.call_alone-call.result c.parts_of-name.result.2 c.as_str-text.result.now c.parts_of-name.result.1
    (c.as_str-text.ensures ∙ c.get.ensures ∙ c.parts_of-name.ensures.name) c.parts_of-name.ensures.curried c.parts_of-name.ensures.number
    (c.call_alone-call.ensures.runs scope held)
