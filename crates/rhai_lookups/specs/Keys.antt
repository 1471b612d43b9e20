-- The key of an entry as the definitions have it.
use Rattle.rhai_functions.specs.Functions.{FunctionKey}
use Rattle.rhai_lookups.specs.declared.key.KeptKey.{KeptKey}

-- the key that the entry has, with its texts as lists
abbrev pub key_kept : KeptKey → FunctionKey
key_kept key = record { name = key.name; arity = key.arity; this_type = key.this_type }
