-- What a part of the tree is told by: names without a path, options of statements and chains, catch variables, aliases.
use Rattle.std.specs.Prelude.{ℕ, Bool, true, false, if◌then◌else◌, ◌&&◌, ◌||◌, ◌==◌, List, [], ◌∷◌, Option, Some, None, codes}
use Rattle.std.specs.Int.RustNames.{bit_and}
use Rattle.std.specs.Str.{bytes_eq}
use Rattle.rhai_tree.specs.declared.expr.Expr.{Expr, out-Expr}
use Rattle.rhai_tree.specs.declared.expr.Expr.TheOpen as layer
use Rattle.rhai_tree.specs.declared.expr.Namespace.{Namespace}
use Rattle.rhai_tree.specs.Types.{ASTFlags, Ident}
use Rattle.rhai_tree.specs.Names.{Name}

-- a name without a path
abbrev pub is_unqualified : List Name → Bool
is_unqualified [] = true
is_unqualified (root ∷ path) = false

-- a call of `eval` by its name, with one argument, operator or not
abbrev pub is_eval_call : Namespace → Name → ℕ → Bool
is_eval_call namespace name count = is_unqualified namespace.path && bytes_eq name (codes "eval") && count == 1

-- a variable that is exported
abbrev pub is_exported : ASTFlags → Bool
is_exported options = bit_and options.0 8 == 8

-- a `throw`, which is a `return` with the option `BREAK`
abbrev pub is_throw : ASTFlags → Bool
is_throw options = bit_and options.0 2 == 2

-- an operator of a chain that ends it: the chain stands in brackets of its own
abbrev pub ends_chain : ASTFlags → Bool
ends_chain options = bit_and options.0 2 == 2

-- the name that a catch variable declares: `()` none, and a name without a path itself; no other form is a catch variable
abbrev pub catch_name : {A B C D E F : Type 0} → layer.Expr-F A B C D E F → Option (Option Name)
catch_name (layer.Unit pos) = Some None
catch_name (layer.Variable offset name namespace pos) = if is_unqualified namespace.path then Some (Some name) else None
catch_name _ = None

-- the name that an expression declares as a catch variable, if it can be one
abbrev pub catch_of : Expr → Option (Option Name)
catch_of e = catch_name (out-Expr e)

-- the name that an import has: its alias, or the empty name where there is none
abbrev pub name_asked : Option Ident → Name
name_asked None = []
name_asked (Some alias) = alias.name

-- one of several truth values is true
abbrev pub any_of : List Bool → Bool
any_of [] = false
any_of (part ∷ parts) = part || any_of parts
