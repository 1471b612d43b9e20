use Rattle.std.proofs.Common.{sym, ap, ◌∙◌}
use Rattle.std.specs.Option.{option_copied}
use Rattle.std.specs.String.{string_bytes}
use Rattle.rhai_machine.specs.language.Runs.{Goes}
use Rattle.rhai_steps.specs.Sessions.{under}
use Rattle.rhai_data.proofs.TextSteps.{joined_leads, text_core, other_core}
use Rattle.rhai_data.proofs.text.join_flat.Goals as goal

pub returns-in-Some-clause-runs : goal.returns-in-Some-clause-runs
unfolding Goes
returns-in-Some-clause-runs g c scope held rest k =
    let rules = under g.H.Host.name_of c.args.session.now g.T.NativeTable.natives in
    rw (text_core rules.setting c.args.value.now.value c.args.value.now (string_bytes c.args.text.now) c.in-Some.part.now c.args.pos
    rest k _ (sym c.text_at.ensures ∙ ap option_copied c.in-Some.is))
    (joined_leads rules (string_bytes c.args.text.now) c.in-Some.part.now c.args.pos rest k _ c.join_text.result _
    c.join_text.ensures.joined c.join_text.ensures.refused)

pub returns-in-None-clause-runs : goal.returns-in-None-clause-runs
unfolding Goes
returns-in-None-clause-runs g c scope held rest k =
    let rules = under g.H.Host.name_of c.args.session.now g.T.NativeTable.natives in
    rw (other_core rules.setting c.args.value.now.value c.args.value.now (string_bytes c.args.text.now) c.args.pos rest k _
    (sym c.text_at.ensures ∙ ap option_copied c.in-None.is))
    (c.join_printed.ensures.runs scope held rest k)
