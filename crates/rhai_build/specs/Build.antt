-- The forms of the tree that a builder makes. Their positions are columns of the first line.
use Rattle.std.specs.Prelude.{◌≡◌, ℕ, Bool, List, [], ◌∷◌, Option, Some, None, false, true, MatchOption}
use Rattle.std.specs.declared.num.NonZeroUsize.{NonZeroUsize}
use Rattle.std.specs.Int.NonZero.{non_zero_usize_get}
use Rattle.rhai_build.specs.declared.Builder.{Builder}
use Rattle.rhai_tree.specs.Position.{at, none}
use Rattle.rhai_tree.specs.declared.flags.ASTFlags.{ASTFlags}
use Rattle.rhai_tree.specs.declared.token.Token.{Token}
use Rattle.rhai_tree.specs.declared.expr.ConditionalExpr.{ConditionalExpr}
use Rattle.rhai_tree.specs.declared.expr.Ident.{Ident}
use Rattle.rhai_tree.specs.declared.expr.MapEntry.{MapEntry}
use Rattle.rhai_tree.specs.declared.expr.Namespace.{Namespace}
use Rattle.rhai_tree.specs.declared.expr.OpAssignment.{OpAssignment}
use Rattle.rhai_tree.specs.declared.expr.SharedVariable.{SharedVariable}
use Rattle.rhai_tree.specs.declared.expr.StmtBlock.{StmtBlock}
use Rattle.rhai_tree.specs.declared.expr.SwitchCase.{SwitchCase}
use Rattle.rhai_tree.specs.declared.expr.Expr.{Expr}
use Rattle.rhai_tree.specs.declared.expr.Expr.TheVariants as expr
use Rattle.rhai_tree.specs.declared.expr.Stmt.{Stmt}
use Rattle.rhai_tree.specs.declared.literal.Literal.{Literal}
use Rattle.rhai_tree.specs.declared.literal.Literal.TheVariants as constant
use Rattle.rhai_tree.specs.declared.literal.LiteralFnPtrKind.TheVariants.{Arity}
use Rattle.rhai_tree.specs.declared.function.FnAccess.{FnAccess}
use Rattle.rhai_tree.specs.declared.function.ScriptFuncDef.{ScriptFuncDef}
use Rattle.rhai_tree.specs.declared.function.ScriptFuncPayload.TheVariants.{Statements}

-- what was made is so, unless memory has run out by then
abbrev pub Made : Builder → Builder → Type 0 → Type 0
Made before after fact = after.has_memory ≡ true → (before.has_memory ≡ true) × fact

-- a name at a column
abbrev pub ident_at : List ℕ → ℕ → Ident
ident_at name column = record { name = name; pos = at 1 column }

-- the namespace of a name without one
abbrev pub unqualified : Namespace
unqualified = record { path = []; index = None; position = none }

-- the offset of a number, where zero is none
abbrev pub IsOffset : ℕ → Option NonZeroUsize → Type 0
IsOffset n offset = MatchOption offset (n ≡ 0) (λ k. non_zero_usize_get k ≡ n)

-- a variable with an offset from the end of the scope, where zero is none
abbrev pub IsVariable : List ℕ → ℕ → ℕ → Expr → Type 0
IsVariable name n column e =
    (offset : Option NonZeroUsize) × IsOffset n offset × (e ≡ expr.Variable offset name unqualified (at 1 column))

-- a call that was written as an operator
abbrev pub operator_at : Token → List ℕ → ℕ → List Expr → Expr
operator_at token name column args =
    expr.FnCall
    (record { namespace = unqualified; name = name; args = args; op_token = Some token; capture_parent_scope = false })
    (at 1 column)

-- a call by name, which may run on the caller's variables
abbrev pub call_at : List ℕ → ℕ → (captures : Bool) → List Expr → Expr
call_at name column captures args =
    expr.FnCall
    (record { namespace = unqualified; name = name; args = args; op_token = None; capture_parent_scope = captures })
    (at 1 column)

-- the namespace of a name behind one module
abbrev pub module_of : List ℕ → Namespace
module_of name = record { path = name ∷ []; index = None; position = none }

-- a method, behind a dot
abbrev pub method_at : Namespace → List ℕ → ℕ → List Expr → Expr
method_at namespace name column args =
    expr.MethodCall
    (record { namespace = namespace; name = name; args = args; op_token = None; capture_parent_scope = false })
    (at 1 column)

-- an entry of a map
abbrev pub entry_at : List ℕ → Expr → MapEntry
entry_at key value = record { key = key; value = value }

-- statements between two braces
abbrev pub block_at : List Stmt → ℕ → ℕ → StmtBlock
block_at statements opening closing =
    record { statements = statements; position = at 1 opening; end_position = at 1 closing }

-- a block that the text does not have
abbrev pub absent_block : StmtBlock
absent_block = record { statements = []; position = none; end_position = none }

-- how a value is assigned, by an operator or as it is
abbrev pub assigned_by : Option Token → ℕ → OpAssignment
assigned_by op column = record { op = op; position = at 1 column }

-- a form without options
abbrev pub no_options : ASTFlags
no_options = record { 0 = 0 }

-- the option of an `until` after a body, and of a dot at which a chain ends where `()` stands in front of it
abbrev pub negated_option : ASTFlags
negated_option = record { 0 = 1 }

-- the option of a `break`, and of a `throw`
abbrev pub break_option : ASTFlags
break_option = record { 0 = 2 }

-- the option of an index where a chain ends
abbrev pub end_option : ASTFlags
end_option = record { 0 = 2 }

-- the option of a constant
abbrev pub constant_option : ASTFlags
constant_option = record { 0 = 4 }

-- a result of a `switch` under a condition
abbrev pub result_under : (condition : Expr) → Expr → ConditionalExpr
result_under condition value = record { condition = condition; expr = value }

-- a case of a `switch`: a value with the numbers of its results
abbrev pub case_of : Literal → List ℕ → SwitchCase
case_of value results = record { value = value; blocks = results }

-- a variable that closures share, with an offset from the end of the scope, where zero is none
abbrev pub IsSharedVariable : List ℕ → ℕ → ℕ → SharedVariable → Type 0
IsSharedVariable name n column v =
    (offset : Option NonZeroUsize) × IsOffset n offset × (v ≡ record { ident = ident_at name column; offset = offset })

-- a constant pointer to the library function of a name with so many parameters
abbrev pub pointer_at : List ℕ → (count : ℕ) → ℕ → Expr
pointer_at name count column =
    expr.DynamicConstant (constant.FnPtr (record { name = name; curry = []; kind = Arity count })) (at 1 column)

-- a function of statements, with the type that its `this` must have, if any
abbrev pub function_of : FnAccess → Option (List ℕ) → (name : List ℕ) → (params : List (List ℕ)) → StmtBlock → ScriptFuncDef
function_of access this_type name params body =
    record { body = Statements body; name = name; access = access; this_type = this_type; params = params }
