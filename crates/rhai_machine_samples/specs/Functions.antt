-- Samples of functions of scripts: which one a call finds, and what its call leaves.
use Rattle.std.specs.Prelude.{◌≡◌, ℕ, Bool, true, false, List, [], ◌∷◌, map, Option, Some, None, Result, Ok, Err, codes}
use Rattle.rhai_tree.specs.declared.token.Token.TheVariants.{Plus}
use Rattle.rhai_tree.specs.declared.expr.Expr.TheVariants as expr
use Rattle.rhai_tree.specs.declared.function.FnAccess.TheVariants.{Public}
use Rattle.rhai_tree.specs.declared.function.ScriptFuncPayload.TheVariants.{Statements}
use Rattle.rhai_machine.specs.Types.{Dynamic, EvalAltResult, Expr, Module, ModuleFn, Position, ScopeEntry, ScriptFuncDef, Stmt}
use Rattle.rhai_values.specs.declared.base.value.Module.{roll-Module}
use Rattle.rhai_values.specs.declared.base.value.ModuleFn.{roll-ModuleFn}
use Rattle.rhai_errors.specs.declared.error.EvalAltResult.TheVariants.{ErrorStackOverflow, ErrorTooManyVariables, ErrorUnboundThis}
use Rattle.rhai_errors.specs.declared.error.EvalAltResult.TheVariants.{ErrorVariableNotFound, ErrorAssignmentToConstant}
use Rattle.rhai_machine.specs.language.Setting.{Setting}
use Rattle.rhai_machine.specs.language.State.{Local}
use Rattle.rhai_machine.specs.language.Activations.{ThisFrom, NoThis, TheFocus, Caller}
use Rattle.rhai_machine.specs.language.Functions.{Function}
use Rattle.rhai_machine.specs.language.Frames.{Call, Dispatch, Core, core, Ask, EnterFunction}
use Rattle.rhai_machine.specs.language.Bodies.{wrapped_error}
use Rattle.rhai_machine.specs.language.Calls.{call_of, dispatch_core, entry_of, plainly}
use Rattle.rhai_machine.specs.language.Arguments.{operation_named}
use Rattle.rhai_machine.specs.language.Methods.{as_method, on_focus}
use Rattle.rhai_machine_samples.specs.Trees.{column, int, bool, var, op, value, braces, assign, return_, if_, const_}
use Rattle.rhai_machine_samples.specs.Runs.{Table, Ends, usual, usual_limits, nothing_but, entry, integer, fixed, truth, unit}
use Rattle.rhai_machine_samples.specs.Data.{text}
use Rattle.rhai_machine_samples.specs.Calls.{call, named}
use Rattle.rhai_machine_samples.specs.Items.{array}
use Rattle.rhai_machine_samples.specs.Parts.{m_of, m_of_first}

-- a public function for a type of `this`, whose body stands further on in the line
abbrev pub typed_function : Option (List ℕ) → List ℕ → List (List ℕ) → List Stmt → ScriptFuncDef
typed_function type name params stmts = record {
  body = Statements (braces 40 60 stmts);
  name = name;
  access = Public;
  this_type = type;
  params = params;
}

-- a public function for no type of `this`
abbrev pub function : List ℕ → List (List ℕ) → List Stmt → ScriptFuncDef
function name params stmts = typed_function None name params stmts

-- `fn f(a) { a + 1 }`
abbrev pub increments : ScriptFuncDef
increments = function (codes "f") (codes "a" ∷ []) (value (op 44 Plus (var 42 (codes "a") ∷ int 46 1 ∷ [])) ∷ [])

-- `fn f(b) { 9 }`, which has the name and the number of parameters of `increments`
abbrev pub gives_nine : ScriptFuncDef
gives_nine = function (codes "f") (codes "b" ∷ []) (value (int 42 9) ∷ [])

-- `fn f() { return 5; 6 }`
abbrev pub returns : ScriptFuncDef
returns = function (codes "f") [] (return_ 42 (Some (int 49 5)) ∷ value (int 52 6) ∷ [])

-- `fn f() { y }`
abbrev pub fails : ScriptFuncDef
fails = function (codes "f") [] (value (var 42 (codes "y")) ∷ [])

-- `fn f() {}`
abbrev pub does_nothing : ScriptFuncDef
does_nothing = function (codes "f") [] []

-- `fn f() { x }`
abbrev pub reads_x : ScriptFuncDef
reads_x = function (codes "f") [] (value (var 42 (codes "x")) ∷ [])

-- `fn f(n) { f(n) }`
abbrev pub calls_itself : ScriptFuncDef
calls_itself = function (codes "f") (codes "n" ∷ []) (value (call 42 (codes "f") (var 44 (codes "n") ∷ [])) ∷ [])

-- `fn f(b) { if b { f(false) } else { 7 } }`
abbrev pub calls_once : ScriptFuncDef
calls_once = function (codes "f") (codes "b" ∷ [])
    (if_ 42 (var 45 (codes "b")) (braces 47 58 (value (call 49 (codes "f") (bool 51 false ∷ [])) ∷ []))
    (braces 60 65 (value (int 62 7) ∷ [])) ∷ [])

-- `fn m() { this += 1; y }`
abbrev pub changes_this : ScriptFuncDef
changes_this = function (codes "m") []
    (assign 47 (Some Plus) (expr.ThisPtr (column 42)) (int 50 1) ∷ value (var 53 (codes "y")) ∷ [])

-- `fn m() { 1 }`, for a `this` that is an integer
abbrev pub of_integers : ScriptFuncDef
of_integers = typed_function (Some (codes "i64")) (codes "m") [] (value (int 42 1) ∷ [])

-- `fn m() { 2 }`, for no type of `this`
abbrev pub of_any : ScriptFuncDef
of_any = function (codes "m") [] (value (int 42 2) ∷ [])

-- `f(2)`
abbrev pub f_of_two : List Stmt
f_of_two = value (call 1 (codes "f") (int 3 2 ∷ [])) ∷ []

-- `f(true)`
abbrev pub f_of_true : List Stmt
f_of_true = value (call 1 (codes "f") (bool 3 true ∷ [])) ∷ []

-- `f()`
abbrev pub f_of_nothing : List Stmt
f_of_nothing = value (call 1 (codes "f") []) ∷ []

-- `f!()`, which captures the scope
abbrev pub f_captured : List Stmt
f_captured = value (expr.FnCall (named true (codes "f") []) (column 1)) ∷ []

-- `call(f, 2)`
abbrev pub f_pointed : List Stmt
f_pointed = value (call 1 (codes "call") (var 6 (codes "f") ∷ int 9 2 ∷ [])) ∷ []

-- `is_def_fn("f", 1)`
abbrev pub f_known : List Stmt
f_known = value (call 1 (codes "is_def_fn") (text 11 (codes "f") ∷ int 16 1 ∷ [])) ∷ []

-- `f = 1`
abbrev pub f_assigned : List Stmt
f_assigned = assign 3 None (var 1 (codes "f")) (int 5 1) ∷ []

-- `this`
abbrev pub this_alone : List Stmt
this_alone = value (expr.ThisPtr (column 1)) ∷ []

-- `this = 1`
abbrev pub this_assigned : List Stmt
this_assigned = assign 6 None (expr.ThisPtr (column 1)) (int 8 1) ∷ []

-- `const C = 1;`
abbrev pub constant : List Stmt
constant = const_ 1 (codes "C") (int 11 1) ∷ []

module _ {H : Type 0} where
  -- a function of a module, marked global or not
  abbrev pub shown : (is_global : Bool) → ScriptFuncDef → ModuleFn H
  shown is_global def = roll-ModuleFn H (record { def = def; environ = None; is_global = is_global })

  -- a library of these functions
  abbrev pub library : List ScriptFuncDef → Module H
  library defs = roll-Module H (record {
    id = None;
    constants = ([], []);
    functions = map (shown false) defs;
    sub_modules = ([], []);
  })

  -- a local state with these libraries and these variables
  abbrev pub under_libraries : List (Module H) → List (ScopeEntry H) → Local H
  under_libraries libraries scope =
      let l = nothing_but scope in
      record l { around = record l.around { lib = libraries; constant_tables = ([], []) ∷ [] } }

  -- a local state with a library of this function alone, and these variables
  abbrev pub with_function : ScriptFuncDef → List (ScopeEntry H) → Local H
  with_function def scope = under_libraries (library (def ∷ []) ∷ []) scope

  -- a local state with this value as `this`
  abbrev pub with_this : Dynamic H → Local H → Local H
  with_this v l = record l { this = Some v }

  -- a call of `f` in function style
  abbrev pub f_call : List (Dynamic H) → Call H
  f_call args = call_of (operation_named (codes "f") (column 1)) args

  -- a call of `m` as a method of this focus
  abbrev pub m_call : Dynamic H → Call H
  m_call focus = on_focus (operation_named (codes "m") (column 3)) [] focus

  -- a function without an environment
  abbrev pub alone : ScriptFuncDef → Function H
  alone def = record { def = def; environ = None }

  -- an error as it is wrapped at the call of the function that it came out of
  abbrev pub wrapped : List ℕ → EvalAltResult H → Position → EvalAltResult H
  wrapped name e at = wrapped_error (record {
    variables = Caller [];
    this = None;
    object = NoThis;
    focus = None;
    lib_length = 0;
    imports_length = 0;
    constants = 0;
    level = 0;
    name = name;
    source = [];
    at = at;
  }) e

module _ {S H : Type 0} (table : Table S H) (host : H → List ℕ) where
  -- with this `this` the script comes to this result, and leaves it so
  abbrev pub WithThis : Dynamic H → List Stmt → Result (Dynamic H) (EvalAltResult H) → (count : ℕ) → Dynamic H → Type 0
  WithThis before script result count after =
      Ends table (usual host) (with_this before (nothing_but [])) script result count (with_this after (nothing_but []))

  -- `this`, read and assigned to, where it is bound and where it is not
  pub record ThisSamples : Type 0 where
    -- `this` is read and assigned to, where it is bound and may be changed
    pub read : WithThis (integer 5) this_alone (Ok (integer 5)) 2 (integer 5)
    pub assigned : WithThis (integer 5) this_assigned (Ok unit) 3 (integer 1)
    pub constant_this : WithThis (fixed 5) this_assigned (Err (ErrorAssignmentToConstant [] (column 1))) 3 (fixed 5)
    pub unbound : Ends table (usual host) (nothing_but []) this_alone (Err (ErrorUnboundThis (column 1))) 2 (nothing_but [])
    pub unassigned : Ends table (usual host) (nothing_but []) this_assigned (Err (ErrorUnboundThis (column 1))) 1 (nothing_but [])

  -- a local state with this table of constants alone
  abbrev pub with_table : List (List ℕ) × List (Dynamic H) → Local H → Local H
  with_table constants l = record l { around = record l.around { constant_tables = constants ∷ [] } }

  -- a constant at the top is entered into the table of constants where there is a library
  pub record Constants : Type 0 where
    pub entered : Ends table (usual host) (with_function does_nothing []) constant (Ok unit) 2
        (with_table (codes "C" ∷ [], integer 1 ∷ []) (with_function does_nothing (entry (codes "C") (fixed 1) ∷ [])))
    pub without_library : Ends table (usual host) (nothing_but []) constant (Ok unit) 2 (nothing_but (entry (codes "C") (fixed 1) ∷ []))
