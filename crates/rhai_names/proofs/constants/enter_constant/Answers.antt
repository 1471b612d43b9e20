use Rattle.std.proofs.Common.{sym, ap, ◌∙◌}
use Rattle.rhai_machine.specs.language.Statements.{constant_core}
use Rattle.rhai_steps.specs.States.{local_of}
use Rattle.rhai_names.proofs.Tables.{enters_table}
use Rattle.rhai_names.proofs.constants.enter_constant.Goals as goal

pub returns-then-is_entered-clause-entered : goal.returns-then-is_entered-clause-entered
returns-then-is_entered-clause-entered g c scope held =
    enters_table c.args.global.now c.add_constant.new.global scope held c.args.name.now c.args.value.now c.add_constant.result _
    (sym (c.enters-is_entered.ensures scope held) ∙ c.if-is_entered.true) c.add_constant.ensures.entered

pub returns-clause-entered : goal.returns-clause-entered
returns-clause-entered g c scope held =
    sym (ap (λ enters. constant_core enters c.args.name.now c.args.value.now (local_of c.args.global.now scope held))
    (sym (c.enters-is_entered.ensures scope held) ∙ c.if-is_entered.false))
