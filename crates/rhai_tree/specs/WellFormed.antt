-- Well-formed trees: the faults that stand in a tree, each with its position, in the order of the tree.
use Rattle.std.specs.Prelude.{◌≡◌, Bool, false, List, [], ◌∷◌, ◌++◌, map, Option, option_map}
use Rattle.std.specs.List.{Contains}
use Rattle.std.specs.declared.num.NonZeroUsize.{NonZeroUsize}
use Rattle.rhai_tree.specs.Types.{ASTFlags, CheckFault, ConditionalExpr, Expr, FnCallExpr, Ident, MapEntry, Namespace, Position}
use Rattle.rhai_tree.specs.Types.{ScriptFuncDef, ScriptFuncPayload, SharedVariable, Stmt, StmtBlock}
use Rattle.rhai_tree.specs.Positions.{position_of}
use Rattle.rhai_tree.specs.Forms.{catch_of}
use Rattle.rhai_tree.specs.Names.{Name}
use Rattle.rhai_tree.specs.declared.function.ScriptFuncPayload.TheVariants.{Statements}
use Rattle.rhai_tree.specs.Context.{top, body_with}
use Rattle.rhai_tree.specs.Reading as walk
use Rattle.rhai_tree.specs.Reading.{faulty}

-- what is seen of an expression for its faults
abbrev pub seen_expr : Expr → walk.Seen faulty
seen_expr = walk.seen_expr faulty

-- what is seen of a call for its faults
abbrev pub seen_call : FnCallExpr → walk.SeenCall faulty
seen_call = walk.seen_call faulty

-- what is seen of a block for its faults
abbrev pub seen_block : StmtBlock → walk.Seen faulty
seen_block = walk.seen_block faulty

-- the faults of a statement, and what surrounds the next one
abbrev pub seen_stmt : Stmt → walk.SeenStmt faulty
seen_stmt = walk.seen_stmt faulty

-- the faults of expressions in a row
abbrev pub faults_in_all : List (walk.Seen faulty) → walk.Finds faulty
faults_in_all = walk.found_in_all faulty

-- what is seen of an entry of a map for the faults of its value
abbrev pub seen_entry : MapEntry → walk.SeenEntry faulty
seen_entry = walk.seen_entry faulty

-- the faults of the values of a map's entries
abbrev pub faults_in_entries : List (walk.SeenEntry faulty) → walk.Finds faulty
faults_in_entries = walk.found_in_entries faulty

-- the faults of a map: that of its keys, and those of the values of its entries
abbrev pub faults_in_map : List (walk.SeenEntry faulty) → List Name → Position → walk.Finds faulty
faults_in_map = walk.found_in_map faulty

-- the faults of statements in a row, and what surrounds the next one
abbrev pub faults_in_list : List (walk.SeenStmt faulty) → walk.SeenStmt faulty
faults_in_list = walk.found_in_list faulty

-- the faults of an expression that may be left out
abbrev pub faults_in_option : Option (walk.Seen faulty) → walk.Finds faulty
faults_in_option = walk.found_in_option faulty

-- the faults of the left side of an assignment
abbrev pub target_faults : walk.Seen faulty → walk.Finds faulty
target_faults = walk.found_in_target faulty

-- the fault of a path: its index is not that of the newest import of its root's name
abbrev pub namespace_faults : Namespace → walk.Finds faulty
namespace_faults = walk.found_in_namespace faulty

-- the faults of a variable: those of its path and of its offset
abbrev pub variable_faults : Option NonZeroUsize → Name → Namespace → Position → walk.Finds faulty
variable_faults = walk.found_in_variable faulty

-- the fault of a `break` or a `continue`: it stands in no loop of its function
abbrev pub control_faults : Position → walk.Finds faulty
control_faults = walk.found_in_control faulty

-- the faults of the declaration of a variable: those of its export, of its offset and of its value
abbrev pub var_faults : Option NonZeroUsize → Ident → walk.Seen faulty → ASTFlags → Position → walk.Finds faulty
var_faults = walk.found_in_var faulty

-- the faults of a condition of a `switch` and of its result
abbrev pub seen_conditional : ConditionalExpr → walk.Finds faulty
seen_conditional = walk.seen_conditional faulty

-- the faults of the conditions of a `switch` and of their results
abbrev pub faults_in_conditionals : List (walk.SeenConditional faulty) → walk.Finds faulty
faults_in_conditionals = walk.found_in_conditionals faulty

-- the faults of the body of a `for`, behind its counter and its variable
abbrev pub turn_faults : (variable : Ident) → (counter : Option Ident) → StmtBlock → walk.Finds faulty
turn_faults variable counter body =
    walk.found_in_turns faulty variable.name (option_map (walk.name_in faulty) counter) (seen_block body).value

-- the fault of a catch variable: it is neither `()` nor a name
abbrev pub catch_variable_faults : (variable : Expr) → List CheckFault
catch_variable_faults variable = walk.found_in_catch_variable faulty (catch_of variable) (position_of variable)

-- the faults of a catch variable and of its branch behind it
abbrev pub catch_faults : (variable : Expr) → (branch : StmtBlock) → walk.Finds faulty
catch_faults variable branch = walk.found_in_catch faulty (catch_of variable) (position_of variable) (seen_block branch).value

-- the faults of the variables that closures share
abbrev pub shared_faults : List SharedVariable → List Name → List CheckFault
shared_faults = walk.found_in_shared faulty

-- the faults of what stands behind a dot
abbrev pub dot_faults : Bool → walk.Link faulty → Position → walk.Finds faulty
dot_faults = walk.found_behind_dot faulty

-- the faults of a property or a method that begins behind a dot
abbrev pub name_faults : walk.Link faulty → Position → walk.Finds faulty
name_faults link = walk.found_from_name faulty (walk.named_in faulty link) (walk.nothing faulty)

-- a chain that starts from this expression may be assigned to: it is a variable or `this`
abbrev pub seen_root : walk.Seen faulty → Bool
seen_root root = walk.is_root faulty root.is_place root.link

-- a chain that goes on behind an operator ends in a method
abbrev pub seen_end : walk.Link faulty → Bool
seen_end = walk.index_ends faulty false

-- the faults of the statements of a tree
abbrev pub faults_in_statements : List Stmt → List CheckFault
faults_in_statements statements = (faults_in_list (map seen_stmt statements) top).0

-- the faults of a function's body
abbrev pub faults_in_body : ScriptFuncPayload → walk.Finds faulty
faults_in_body (Statements block) = (seen_block block).value

-- the faults of a function: those of its body behind its parameters
abbrev pub faults_in_function : ScriptFuncDef → List CheckFault
faults_in_function def = faults_in_body def.body (body_with def.params)

-- the faults of functions in a row
abbrev pub faults_in_functions : List ScriptFuncDef → List CheckFault
faults_in_functions [] = []
faults_in_functions (def ∷ defs) = faults_in_function def ++ faults_in_functions defs

-- the faults of a tree and of the functions that stand beside it
abbrev pub faults_in_tree : List Stmt → List ScriptFuncDef → List CheckFault
faults_in_tree statements functions = faults_in_statements statements ++ faults_in_functions functions

-- a fault stands somewhere in a tree or its functions
abbrev pub Stands : CheckFault → List Stmt → List ScriptFuncDef → Type 0
Stands fault statements functions = Contains (faults_in_tree statements functions) fault

-- the statements of a tree are well formed: no fault stands in them
abbrev pub IsFormed : List Stmt → Type 0
IsFormed statements = faults_in_statements statements ≡ []

-- a function is well formed: no fault stands in it
abbrev pub IsFormedFunction : ScriptFuncDef → Type 0
IsFormedFunction def = faults_in_function def ≡ []

-- functions are well formed: no fault stands in one of them
abbrev pub AreFormed : List ScriptFuncDef → Type 0
AreFormed functions = faults_in_functions functions ≡ []

-- a tree is well formed with its functions: no fault stands in it or in them
abbrev pub IsFormedTree : List Stmt → List ScriptFuncDef → Type 0
IsFormedTree statements functions = faults_in_tree statements functions ≡ []
