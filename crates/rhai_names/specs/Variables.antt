-- A variable that an expression tells of, as the rules of the machine have it.
use Rattle.rhai_machine.specs.language.Variables.{Variable, variable_named}
use Rattle.rhai_steps.specs.Agreement.{Test, variable_leads}
use Rattle.rhai_names.specs.declared.variables.Variable.{Variable as CodeVariable}

-- a variable of the code
abbrev pub variable_told : CodeVariable → Variable
variable_told variable = variable_named variable.name.now variable.namespace.now variable.at

-- whether its offset leads to the newest variable of its name, and the index of its path to the newest import of its root's
abbrev pub offset_is_good : CodeVariable → Test
offset_is_good variable = variable_leads variable.offset variable.name.now variable.namespace.now
