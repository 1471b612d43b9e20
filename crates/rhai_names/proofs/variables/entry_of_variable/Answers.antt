use Rattle.std.proofs.Common.{sym, ◌∙◌}
use Rattle.rhai_state.specs.Scope.{entries_of}
use Rattle.rhai_steps.specs.Agreement.{sight_of}
use Rattle.rhai_steps.proofs.Agreeing.{good_alone, place_fits}
use Rattle.rhai_names.proofs.variables.entry_of_variable.Goals as goal

pub index_of_variable-requires : goal.index_of_variable-requires
index_of_variable-requires g c =
    place_fits (sight_of c.args.global.now) c.args.offset c.args.name.now (entries_of c.args.scope.now)
    (good_alone c.args.offset c.args.name.now c.args.namespace.now.path (sym c.is_plain.ensures ∙ c.if-is_plain.true) c.requires)
