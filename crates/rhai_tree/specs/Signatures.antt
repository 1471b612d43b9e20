-- How a function reads without its body.
use Rattle.std.specs.Prelude.{ℕ, List, [], ◌++◌, Option, Some, None, codes}
use Rattle.std.specs.List.{join_by}
use Rattle.std.specs.Fmt.{comma_space, debug_str, ◌++?◌}
use Rattle.rhai_tree.specs.declared.function.FnAccess.{FnAccess}
use Rattle.rhai_tree.specs.declared.function.FnAccess.TheVariants.{Private, Public}
use Rattle.rhai_tree.specs.declared.function.ScriptFuncPayload.{ScriptFuncPayload}
use Rattle.rhai_tree.specs.declared.function.ScriptFuncPayload.TheVariants.{Statements}
use Rattle.rhai_tree.specs.Position.{none}

-- who may call a function: only a private one says so
abbrev pub access_text : FnAccess → List ℕ
access_text Private = codes "private "
access_text Public = []

-- the type that `this` must have, in quotes as Rust's `{:?}` writes a text, and a dot; nothing is said of a type past ASCII
abbrev pub this_text : Option (List ℕ) → Option (List ℕ)
this_text (Some name) = debug_str name ++? Some (codes ".")
this_text None = Some []

-- the parameters with commas between them, in round brackets
abbrev pub params_text : List (List ℕ) → List ℕ
params_text params = codes "(" ++ (join_by (λ name. name) comma_space params ++ codes ")")

-- a function without its body
abbrev pub signature_text : FnAccess → (this_type : Option (List ℕ)) → (name : List ℕ) → (params : List (List ℕ)) → Option (List ℕ)
signature_text access this_type name params =
    Some (access_text access) ++? this_text this_type ++? Some (name ++ params_text params)

-- a body without statements, which stands nowhere
abbrev pub empty_body : ScriptFuncPayload
empty_body = Statements (record { statements = []; position = none; end_position = none })
