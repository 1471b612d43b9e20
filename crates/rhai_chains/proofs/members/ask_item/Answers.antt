use Rattle.std.proofs.Common.{[], ◌∷◌, Some, refl, ap, ◌∙◌}
use Rattle.rhai_machine.specs.language.Frames.{FromFocus}
use Rattle.rhai_machine.specs.language.Members.{get_item}
use Rattle.rhai_machine.specs.language.Setting.{Rules}
use Rattle.rhai_steps.specs.Sessions.{under}
use Rattle.rhai_steps.specs.States.{state_of}
use Rattle.rhai_steps.specs.OnFocus.{lending}
use Rattle.rhai_chains.proofs.MemberLemmas.{member_runs_out_asking}
use Rattle.rhai_chains.proofs.members.ask_item.Goals as goal

pub returns-in-Ok-clause-runs : goal.returns-in-Ok-clause-runs
returns-in-Ok-clause-runs g c scope held =
    let lent = c.as_slice-rest.ensures ∙ c.in-Ok.ensures.ok ∙ ap (λ v. v ∷ []) c.replace.ensures.value in
    rw lent at (c.pass_native-result.ensures.runs scope (lending held c.args.focus.now) (Some FromFocus) refl)

pub returns-in-Err-clause-runs : goal.returns-in-Err-clause-runs
returns-in-Err-clause-runs g c scope held =
    let rules : Rules _ _ = under g.H.Host.name_of c.args.session.now g.T.NativeTable.natives in
    member_runs_out_asking rules (get_item c.args.at c.args.focus.now c.args.index.now)
    (state_of (g.T.NativeTable.state c.args.table.now) c.args.global.now scope (lending held c.args.focus.now)) c.args.at
