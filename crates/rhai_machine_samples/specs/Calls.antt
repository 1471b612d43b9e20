-- Samples of calls by name: what is lent to a native and what it leaves, the names that are no function's, and pointers.
use Rattle.std.specs.Prelude.{ℕ, Bool, true, false, List, [], ◌∷◌, Some, None, Result, Ok, Err, codes}
use Rattle.rhai_machine.specs.Types.{Dynamic, EvalAltResult, Expr, Stmt}
use Rattle.rhai_tree.specs.declared.expr.FnCallExpr.{FnCallExpr}
use Rattle.rhai_tree.specs.declared.expr.Expr.TheVariants as expr
use Rattle.rhai_tree.specs.declared.expr.Stmt.TheVariants as stmt
use Rattle.rhai_tree.specs.Position.{none}
use Rattle.rhai_values.specs.declared.base.value.FnPtr.{roll-FnPtr}
use Rattle.rhai_values.specs.declared.base.value.FnPtrKind.TheVariants as leads
use Rattle.rhai_values.specs.declared.base.value.Union.TheVariants as kind
use Rattle.rhai_values.specs.Copy.{plain}
use Rattle.rhai_errors.specs.declared.error.EvalAltResult.TheVariants.{ErrorTooManyOperations, ErrorVariableNotFound, ErrorArithmetic}
use Rattle.rhai_errors.specs.declared.error.EvalAltResult.TheVariants.{ErrorFunctionNotFound, ErrorMismatchDataType}
use Rattle.rhai_errors.specs.declared.error.EvalAltResult.TheVariants.{ErrorDataRace}
use Rattle.rhai_errors.specs.Native.{Request, Missing, Gives, Faults, Named, Numbered, request}
use Rattle.rhai_machine_samples.specs.Trees.{column, unqualified, int, var, value}
use Rattle.rhai_machine_samples.specs.Runs.{Table, Replies, Answers, EndsScript, EndsFrom, Returns, Fails, usual, limited, nothing_but}
use Rattle.rhai_machine_samples.specs.Runs.{entry, integer, fixed, truth, unit}
use Rattle.rhai_machine_samples.specs.Data.{text, word}
use Rattle.rhai_machine_samples.specs.Operators.{forty_two}
use Rattle.rhai_machine_samples.specs.Assignments.{slow_operators}
use Rattle.rhai_machine_samples.specs.Handles.{one_cell, EndsOver}

-- a call by name, which may capture the scope
abbrev pub named : (captures : Bool) → List ℕ → List Expr → FnCallExpr
named captures name args =
    record { namespace = unqualified; name = name; args = args; op_token = None; capture_parent_scope = captures }

-- a call by name, at a column
abbrev pub call : (at : ℕ) → List ℕ → List Expr → Expr
call c name args = expr.FnCall (named false name args) (column c)

-- the argument of `inc(x)`
abbrev pub of_x : List Expr
of_x = var 5 (codes "x") ∷ []

-- `inc(x)`, as an expression
abbrev pub increment : List Stmt
increment = value (call 1 (codes "inc") of_x) ∷ []

-- `inc(x)`, as a statement
abbrev pub increments : List Stmt
increments = stmt.FnCall (named false (codes "inc") of_x) (column 1) ∷ []

-- `inc!(x)`, which captures the scope
abbrev pub captured : List Stmt
captured = value (expr.FnCall (named true (codes "inc") (var 6 (codes "x") ∷ [])) (column 1)) ∷ []

-- `f(y)`
abbrev pub of_unknown : List Stmt
of_unknown = value (call 1 (codes "f") (var 3 (codes "y") ∷ [])) ∷ []

-- `nope(1)`
abbrev pub nope : List Stmt
nope = value (call 1 (codes "nope") (int 6 1 ∷ [])) ∷ []

-- `f()`
abbrev pub of_nothing : List Stmt
of_nothing = value (call 1 (codes "f") []) ∷ []

-- `inc(h)`
abbrev pub of_handle : List Stmt
of_handle = value (call 1 (codes "inc") (var 5 (codes "h") ∷ [])) ∷ []

-- `type_of(1)`
abbrev pub typed : List Stmt
typed = value (call 1 (codes "type_of") (int 9 1 ∷ [])) ∷ []

-- `eval(1)`
abbrev pub evaluated : List Stmt
evaluated = value (call 1 (codes "eval") (int 6 1 ∷ [])) ∷ []

-- `is_def_fn("f", 0)`
abbrev pub known : List Stmt
known = value (call 1 (codes "is_def_fn") (text 11 (codes "f") ∷ int 16 0 ∷ [])) ∷ []

-- `is_shared(h)`
abbrev pub shared : List Stmt
shared = value (call 1 (codes "is_shared") (var 11 (codes "h") ∷ [])) ∷ []

-- `is_def_var("x")`
abbrev pub defined : List Stmt
defined = value (call 1 (codes "is_def_var") (text 12 (codes "x") ∷ [])) ∷ []

-- `Fn("1x")`
abbrev pub no_name : List Stmt
no_name = value (call 1 (codes "Fn") (text 4 (codes "1x") ∷ [])) ∷ []

-- `Fn(1)`
abbrev pub no_text : List Stmt
no_text = value (call 1 (codes "Fn") (int 4 1 ∷ [])) ∷ []

-- `call(Fn("f"), 4)`
abbrev pub pointed : List Stmt
pointed = value (call 1 (codes "call") (call 6 (codes "Fn") (text 9 (codes "f") ∷ []) ∷ int 15 4 ∷ [])) ∷ []

-- `call(1)`
abbrev pub no_pointer : List Stmt
no_pointer = value (call 1 (codes "call") (int 6 1 ∷ [])) ∷ []

-- `call(curry(Fn("f"), 5), 4)`
abbrev pub curried : List Stmt
curried = value (call 1 (codes "call")
    (call 6 (codes "curry") (call 12 (codes "Fn") (text 15 (codes "f") ∷ []) ∷ int 21 5 ∷ []) ∷ int 25 4 ∷ [])) ∷ []

-- `call(p, h)`
abbrev pub numbered : List Stmt
numbered = value (call 1 (codes "call") (var 6 (codes "p") ∷ var 9 (codes "h") ∷ [])) ∷ []

module _ {H : Type 0} where
  -- the call of `inc` with this value
  abbrev pub inc_called : Dynamic H → Request H
  inc_called v = request [] (Named (codes "inc")) (Some v) [] (column 1)

  -- the call of `inc` with a copy of the only cell's value, while the cell is free
  abbrev pub cell_called : Request H
  cell_called = request (Some (integer 5) ∷ []) (Named (codes "inc")) (Some (integer 5)) [] (column 1)

  -- the call of `f` with these arguments
  abbrev pub f_called : (first : Dynamic H) → List (Dynamic H) → Request H
  f_called first rest = request [] (Named (codes "f")) (Some first) rest (column 1)

  -- the call of the native of the number 3, while its first argument's cell is held
  abbrev pub number_called : Request H
  number_called = request (None ∷ []) (Numbered 3) (Some (integer 5)) [] (column 1)

  -- a pointer to the native of the number 3
  abbrev pub number_pointer : Dynamic H
  number_pointer = plain (kind.FnPtr {X1 = H} (roll-FnPtr H (record {
    name = codes "f";
    curry = [];
    kind = leads.Native (record { number = 3 });
  })))

module _ {S H : Type 0} (table : Table S H) (host : H → List ℕ) where
  -- where `x` has this value the script comes to this result, leaves `x` so, and makes these calls
  abbrev pub Leaves : Dynamic H → List Stmt → Result (Dynamic H) (EvalAltResult H) → (count : ℕ) → Dynamic H → List (Request H) → Type 0
  Leaves before script result count after calls =
      EndsScript table (usual host) false script 0 (nothing_but (entry (codes "x") before ∷ [])) result count
      (nothing_but (entry (codes "x") after ∷ [])) calls

  -- calls by name: a variable that is lent, what a native leaves of it, and the errors of a call
  pub record Calls : Type 0 where
    -- a variable that comes first is lent: what the native leaves is the variable's value, after its fault too
    pub lent : Answers table (inc_called (integer 1)) (Gives unit) (integer 2) →
        Leaves (integer 1) increment (Ok unit) 4 (integer 2) (inc_called (integer 1) ∷ [])
    pub as_statement : Answers table (inc_called (integer 1)) (Gives unit) (integer 2) →
        Leaves (integer 1) increments (Ok unit) 3 (integer 2) (inc_called (integer 1) ∷ [])
    pub faults : Answers table (inc_called (integer 1)) (Faults (ErrorArithmetic (codes "no") none)) (integer 2) →
        Leaves (integer 1) increment (Err (ErrorArithmetic (codes "no") (column 1))) 4 (integer 2) (inc_called (integer 1) ∷ [])
    -- a constant is passed as a copy, to natives that are not pure too, and so is anything where the call captures the scope
    pub constant : Answers table (inc_called (integer 1)) (Gives unit) (integer 2) →
        Leaves (fixed 1) increment (Ok unit) 4 (fixed 1) (inc_called (integer 1) ∷ [])
    pub by_value : Answers table (inc_called (integer 1)) (Gives unit) (integer 2) →
        Leaves (integer 1) captured (Ok unit) 4 (integer 1) (inc_called (integer 1) ∷ [])
    -- a handle's value is passed as a copy too, unless its cell is held
    pub by_copy : Answers table cell_called (Gives unit) (integer 2) →
        EndsScript table (usual host) false of_handle 0 (one_cell table host (Some (integer 5)) []) (Ok unit) 4
        (one_cell table host (Some (integer 5)) []) (cell_called ∷ [])
    pub held : EndsOver table host None of_handle (Err (ErrorDataRace (codes "h") (column 5))) 3 []
    -- the variable is charged where it stands
    pub unknown : Fails table (usual host) of_unknown (ErrorVariableNotFound (codes "y") (column 3)) 3 []
    pub cut : Fails table (limited host 2) of_unknown (ErrorTooManyOperations (column 3)) 2 []
    -- where there is no such native the error names the call with its arguments' types
    pub missing : Replies table Missing → EndsFrom table 0 (usual host) nope
        (Err (ErrorFunctionNotFound (codes "nope (i64)") (column 1))) 4 []
        (request [] (Named (codes "nope")) (Some (integer 1)) [] (column 1) ∷ [])
    pub no_arguments : Replies table (Gives (integer 7)) → EndsFrom table 0 (usual host) of_nothing (Ok (integer 7)) 3 []
        (request [] (Named (codes "f")) None [] (column 1) ∷ [])
    -- without fast operators an operator is a call by name, and its built-in comes after the native
    pub slow : Replies table Missing → EndsFrom table 0 (slow_operators table host) forty_two (Ok (integer 42)) 5 []
        (request [] (Named (codes "+")) (Some (integer 40)) (integer 2 ∷ []) (column 4) ∷ [])

  -- names that are no function's
  pub record Keywords : Type 0 where
    -- some names are no native's: a value's type is told, nothing is compiled, and no script has a function
    pub type : Returns table (usual host) typed (word (codes "i64")) 3 []
    pub no_compiler : Fails table (usual host) evaluated (ErrorFunctionNotFound (codes "eval (i64)") (column 1)) 3 []
    pub no_script_function : Returns table (usual host) known (truth false) 4 []
    -- a handle is shared, and a variable is defined, by its name
    pub shared_handle : EndsOver table host (Some (integer 5)) shared (Ok (truth true)) 3 []
    pub defined_variable : Leaves (integer 1) defined (Ok (truth true)) 3 (integer 1) []
    pub undefined_variable : Returns table (usual host) defined (truth false) 3 []
    -- a pointer is made of a name
    pub no_function : Fails table (usual host) no_name (ErrorFunctionNotFound (codes "1x ()") (column 4)) 3 []
    pub no_word : Fails table (usual host) no_text
        (ErrorMismatchDataType (record { wanted = codes "string"; found = codes "i64" }) (column 4)) 3 []

  -- pointers that are made and called
  pub record Pointers : Type 0 where
    -- a pointer is called by its name, after the values that it has already
    pub called : Replies table (Gives (integer 7)) →
        EndsFrom table 0 (usual host) pointed (Ok (integer 7)) 6 [] (f_called (integer 4) [] ∷ [])
    pub with_curried : Replies table (Gives (integer 7)) →
        EndsFrom table 0 (usual host) curried (Ok (integer 7)) 8 [] (f_called (integer 5) (integer 4 ∷ []) ∷ [])
    pub mismatch : Fails table (usual host) no_pointer
        (ErrorMismatchDataType (record { wanted = codes "Fn"; found = codes "i64" }) (column 6)) 3 []
    -- a native's number is called without a charge, and a handle's cell is held so long
    pub numbered_native : Answers table number_called (Gives unit) (integer 9) →
        EndsScript table (usual host) false numbered 0 (one_cell table host (Some (integer 5)) (entry (codes "p") number_pointer ∷ []))
        (Ok unit) 4 (one_cell table host (Some (integer 9)) (entry (codes "p") number_pointer ∷ [])) (number_called ∷ [])
