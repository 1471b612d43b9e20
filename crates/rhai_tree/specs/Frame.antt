-- What a run may rely on in a part of a checked tree: a list counts the links of each chain, each offset is that of the newest variable of
-- its name in the scope, and each index of a path that of the newest import of its root's name.
use Rattle.std.specs.declared.num.NonZeroUsize.{NonZeroUsize}
use Rattle.std.specs.Prelude.{Bool, false, IsTrue, List, [], ◌∷◌, ◌++◌, map, Option, Some, None, option_map}
use Rattle.rhai_tree.specs.Types.{ASTFlags, ConditionalExpr, Expr, FnCallExpr, Ident, MapEntry, Namespace, Position, ScriptFuncDef}
use Rattle.rhai_tree.specs.Types.{ScriptFuncPayload, SharedVariable, Stmt, StmtBlock}
use Rattle.rhai_tree.specs.declared.function.ScriptFuncPayload.TheVariants.{Statements}
use Rattle.rhai_tree.specs.Positions.{position_of}
use Rattle.rhai_tree.specs.Forms.{catch_of}
use Rattle.rhai_tree.specs.Names.{Frame, Name, naming}
use Rattle.rhai_tree.specs.Reading as walk
use Rattle.rhai_tree.specs.Reading.{sound}

-- what is seen of an expression for whether it may run above a frame
abbrev pub tests_of : Expr → walk.Seen sound
tests_of = walk.seen_expr sound

-- an expression may run above a frame
abbrev pub resolves_expr : Expr → walk.Finds sound
resolves_expr e = (tests_of e).value

-- a call whose name or operator stands at a position may run above a frame
abbrev pub resolves_call : FnCallExpr → Position → walk.Finds sound
resolves_call call = (walk.seen_call sound call).value

-- a method whose name stands at a position may run above a frame
abbrev pub resolves_method : FnCallExpr → Position → walk.Finds sound
resolves_method call = (walk.seen_call sound call).method

-- a block may run above a frame
abbrev pub resolves_block : StmtBlock → walk.Finds sound
resolves_block block = (walk.seen_block sound block).value

-- a statement may run above a frame, and the frame that the next one stands above
abbrev pub resolves_stmt : Stmt → walk.SeenStmt sound
resolves_stmt = walk.seen_stmt sound

-- the offset of a variable and the index of its path are good above a frame
abbrev pub variable_resolves : Option NonZeroUsize → Name → Namespace → Position → walk.Finds sound
variable_resolves = walk.found_in_variable sound

-- the left side of an assignment may be assigned to, and may run above a frame
abbrev pub target_resolves : walk.Seen sound → walk.Finds sound
target_resolves = walk.found_in_target sound

-- an expression that may be left out may run above a frame
abbrev pub option_resolves : Option (walk.Seen sound) → walk.Finds sound
option_resolves = walk.found_in_option sound

-- each of some expressions may run above a frame
abbrev pub all_resolve_exprs : List (walk.Seen sound) → walk.Finds sound
all_resolve_exprs = walk.found_in_all sound

-- each of some statements may run above the frame that the one before it leaves, and the frame after the last
abbrev pub all_resolve : List (walk.SeenStmt sound) → walk.SeenStmt sound
all_resolve = walk.found_in_list sound

-- what is seen of an entry of a map for whether its value may run above a frame
abbrev pub tests_of_entry : MapEntry → walk.SeenEntry sound
tests_of_entry = walk.seen_entry sound

-- the values of a map's entries may run above a frame
abbrev pub entries_resolve : List (walk.SeenEntry sound) → walk.Finds sound
entries_resolve = walk.found_in_entries sound

-- a map has the keys of its template, each once, and the values of its entries may run above a frame
abbrev pub map_resolves : List (walk.SeenEntry sound) → List Name → Position → walk.Finds sound
map_resolves = walk.found_in_map sound

-- a condition of a `switch` and its result may run above a frame
abbrev pub resolves_conditional : ConditionalExpr → walk.Finds sound
resolves_conditional = walk.seen_conditional sound

-- the conditions of a `switch` and their results may run above a frame
abbrev pub conditionals_resolve : List (walk.SeenConditional sound) → walk.Finds sound
conditionals_resolve = walk.found_in_conditionals sound

-- some names, and behind them one that may be left out
abbrev pub with_name : Option Name → List Name → List Name
with_name None names = names
with_name (Some name) names = names ++ name ∷ []

-- the names in the body of a `for`: those before it, its counter if it has one, and its variable
abbrev pub turn_names : (variable : Ident) → (counter : Option Ident) → List Name → List Name
turn_names variable counter names = with_name (option_map (walk.name_in sound) counter) names ++ variable.name ∷ []

-- the body of a `for` may run above a frame with its counter and its variable
abbrev pub turns_resolve : (variable : Ident) → (counter : Option Ident) → StmtBlock → walk.Finds sound
turns_resolve variable counter body =
    walk.found_in_turns sound variable.name (option_map (walk.name_in sound) counter) (resolves_block body)

-- a catch variable is `()` or a name, and its branch may run above a frame with that name
abbrev pub catch_resolves : (variable : Expr) → (branch : StmtBlock) → walk.Finds sound
catch_resolves variable branch = walk.found_in_catch sound (catch_of variable) (position_of variable) (resolves_block branch)

-- the offset of each variable that closures share is good among some names
abbrev pub shared_among : List SharedVariable → List Name → Bool
shared_among = walk.found_in_shared sound

-- the offset of each variable that closures share is good among the names of a frame
abbrev pub shared_resolve : List SharedVariable → walk.Finds sound
shared_resolve variables frame = shared_among variables frame.names

-- what stands behind a dot may run above a frame: a property or a method, or a chain that goes on from one
abbrev pub dot_resolves : Bool → walk.Link sound → Position → walk.Finds sound
dot_resolves = walk.found_behind_dot sound

-- a property or a method that begins behind a dot may run above a frame
abbrev pub name_resolves : walk.Link sound → Position → walk.Finds sound
name_resolves link = walk.found_from_name sound (walk.named_in sound link) (walk.nothing sound)

-- what stands behind a bracket may run above a frame: an index, or a chain that goes on from one
abbrev pub bracket_resolves : Bool → walk.Seen sound → walk.Finds sound
bracket_resolves ends seen = walk.found_behind_bracket sound ends seen.link seen.value

-- the declaration of a variable may run above a frame: its value may, and its offset is good if it overwrites another
abbrev pub var_resolves : Option NonZeroUsize → Ident → walk.Seen sound → ASTFlags → Position → walk.Finds sound
var_resolves = walk.found_in_var sound

-- the names behind a variable's declaration: its own stands behind the others, unless it overwrites one of them
abbrev pub var_names : Option NonZeroUsize → Name → List Name → List Name
var_names None name names = names ++ name ∷ []
var_names (Some offset) name names = names

-- a chain that starts from this expression may be assigned to: it is a variable or `this`
abbrev pub tested_root : walk.Seen sound → Bool
tested_root root = walk.is_root sound root.is_place root.link

-- a chain that goes on behind an operator ends in a method
abbrev pub tested_end : walk.Link sound → Bool
tested_end = walk.index_ends sound false

-- a function's body may run above a frame
abbrev pub resolves_body : ScriptFuncPayload → walk.Finds sound
resolves_body (Statements block) = resolves_block block

-- a frame with the parameters of a function as its newest names
abbrev pub with_params : List Name → Frame → Frame
with_params params = naming (λ names. names ++ params)

-- the statements of a tree may run above any frame that the caller has
abbrev pub Resolves : List Stmt → Type 0
Resolves statements = (base : Frame) → IsTrue (all_resolve (map resolves_stmt statements) base).0

-- a function's body may run with its parameters above any frame
abbrev pub ResolvesFunction : ScriptFuncDef → Type 0
ResolvesFunction def = (base : Frame) → IsTrue (resolves_body def.body (with_params def.params base))
