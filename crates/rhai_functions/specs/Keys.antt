-- The key of a function in code as the definitions have it.
use Rattle.std.specs.Option.{option_copied}
use Rattle.rhai_functions.specs.declared.key.FnKey.{FnKey}
use Rattle.rhai_functions.specs.Functions.{FunctionKey}

-- the key that the code has, with its borrowed texts as lists
abbrev pub function_key_of : FnKey → FunctionKey
function_key_of key = record { name = key.name.now; arity = key.arity; this_type = option_copied key.this_type }
