-- A function of a script as a call has it.
use Rattle.rhai_values.specs.declared.base.value.ModuleFn.{ModuleFn, out-ModuleFn}
use Rattle.rhai_functions.specs.declared.function.Function.{Function}
use Rattle.rhai_functions.specs.Functions.{def_of}

-- a module's function as a call has it: its definition, and its environment, if it has one
abbrev pub function_of : {H : Type 0} → ModuleFn H → Function H
function_of {H} f = record { def = def_of f; environ = (out-ModuleFn H f).environ }
