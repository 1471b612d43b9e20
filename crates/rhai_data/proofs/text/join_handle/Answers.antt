use Rattle.std.specs.Prelude.{⊤}
use Rattle.std.proofs.Common.{◌∙◌}
use Rattle.std.specs.String.{string_bytes}
use Rattle.rhai_steps.specs.Sessions.{under}
use Rattle.rhai_data.proofs.TextSteps.{joins_run_out}
use Rattle.rhai_data.proofs.text.join_handle.Goals as goal

pub join_typed-requires : goal.join_typed-requires
join_typed-requires g c = c.as_str-name.ensures ∙ c.get.ensures ∙ c.in-Ok.ensures ∙ c.type_name.ensures

pub returns-in-Err-clause-runs : goal.returns-in-Err-clause-runs
returns-in-Err-clause-runs g c scope held =
    let rules = under g.H.Host.name_of c.args.session.now g.T.NativeTable.natives in
    joins_run_out rules ⊤ (string_bytes c.args.text.now) c.args.value.now c.args.pos c.args.pos _ (string_bytes c.args.text.now)
