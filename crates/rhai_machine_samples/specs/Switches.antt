-- Samples of `switch`: which result a value leads to, and what is charged for it.
use Rattle.std.specs.Prelude.{ℕ, true, false, List, [], ◌∷◌, Some, None, Ok, Err, codes, pos}
use Rattle.rhai_machine.specs.Types.{Stmt}
use Rattle.rhai_tree.specs.declared.expr.RangeCase.TheVariants.{ExclusiveInt, InclusiveInt}
use Rattle.rhai_tree.specs.declared.literal.Literal.TheVariants as literal
use Rattle.rhai_tree.specs.declared.token.Token.TheVariants.{EqualsTo}
use Rattle.rhai_values.specs.declared.base.value.Union.TheVariants as kind
use Rattle.rhai_values.specs.Copy.{plain}
use Rattle.rhai_errors.specs.declared.error.EvalAltResult.TheVariants.{ErrorDataRace, ErrorMismatchDataType, ErrorTooManyOperations}
use Rattle.rhai_errors.specs.declared.error.EvalAltResult.TheVariants.{ErrorVariableNotFound}
use Rattle.rhai_machine_samples.specs.Trees.{column, int, bool, var, op, braces, inner, switch_, result_if, result_of, case_of, break_}
use Rattle.rhai_machine_samples.specs.Trees.{loop_}
use Rattle.rhai_machine_samples.specs.Runs.{Table, Ends, Fails, Returns, usual, limited, nothing_but, entry, integer, truth, unit}
use Rattle.rhai_machine_samples.specs.Handles.{handle, one_cell, EndsOver}
use Rattle.rhai_machine_samples.specs.Items.{array}

-- `switch 1 { 1 if 2 => 3, _ => 4 }`
abbrev pub no_truth : List Stmt
no_truth = switch_ 1 (int 8 1) (result_if (int 17 2) (int 22 3) ∷ result_of (int 30 4) ∷ []) (case_of (literal.Int (pos 1)) 0 ∷ []) []
    (Some 1)
    ∷ []

-- `switch 1 { 1 if 1 == 1 => 2 }`
abbrev pub tested : List Stmt
tested = switch_ 1 (int 8 1) (result_if (op 19 EqualsTo (int 17 1 ∷ int 22 1 ∷ [])) (int 27 2) ∷ [])
    (case_of (literal.Int (pos 1)) 0 ∷ []) [] None ∷ []

-- `switch 1 { _ if false => 7 }`
abbrev pub default_alone : List Stmt
default_alone = switch_ 1 (int 8 1) (result_if (bool 17 false) (int 26 7) ∷ []) [] [] (Some 0) ∷ []

-- `switch n { 5..8 => 20, 8..=10 => 30, _ => 99 }`, with this integer for `n`
abbrev pub ranges : ℕ → List Stmt
ranges n = switch_ 1 (int 8 n) (result_of (int 20 20) ∷ result_of (int 34 30) ∷ result_of (int 43 99) ∷ []) []
    (ExclusiveInt (pos 5) (pos 8) 0 ∷ InclusiveInt (pos 8) (pos 10) 1 ∷ []) (Some 2) ∷ []

-- `switch 7 { 7 if false => 1, 5..8 if false => 2, 7..=9 => 3 }`
abbrev pub both : List Stmt
both = switch_ 1 (int 8 7) (result_if (bool 17 false) (int 26 1) ∷ result_if (bool 37 false) (int 46 2) ∷ result_of (int 58 3) ∷ [])
    (case_of (literal.Int (pos 7)) 0 ∷ []) (ExclusiveInt (pos 5) (pos 8) 1 ∷ InclusiveInt (pos 7) (pos 9) 2 ∷ []) None ∷ []

-- `switch true { 1 => 1, true => 2, 0..5 => 3 }`
abbrev pub by_type : List Stmt
by_type = switch_ 1 (bool 8 true) (result_of (int 20 1) ∷ result_of (int 31 2) ∷ result_of (int 42 3) ∷ [])
    (case_of (literal.Int (pos 1)) 0 ∷ case_of (literal.Bool true) 1 ∷ []) (ExclusiveInt (pos 0) (pos 5) 2 ∷ []) None ∷ []

-- `switch 1 { 2 => 3 }`
abbrev pub no_case : List Stmt
no_case = switch_ 1 (int 8 1) (result_of (int 17 3) ∷ []) (case_of (literal.Int (pos 2)) 0 ∷ []) [] None ∷ []

-- `switch h { 5 => h }`
abbrev pub of_handle : List Stmt
of_handle = switch_ 1 (var 8 (codes "h")) (result_of (var 17 (codes "h")) ∷ []) (case_of (literal.Int (pos 5)) 0 ∷ []) [] None ∷ []

-- `switch 1 { 1 if h => 2 }`
abbrev pub test_of_handle : List Stmt
test_of_handle = switch_ 1 (int 8 1) (result_if (var 17 (codes "h")) (int 22 2) ∷ []) (case_of (literal.Int (pos 1)) 0 ∷ []) [] None ∷ []

-- `switch a { 1 => 2, _ => 3 }`
abbrev pub of_a : List Stmt
of_a = switch_ 1 (var 8 (codes "a")) (result_of (int 17 2) ∷ result_of (int 25 3) ∷ []) (case_of (literal.Int (pos 1)) 0 ∷ []) [] (Some 1)
    ∷ []

-- `switch nope {}`
abbrev pub unknown_value : List Stmt
unknown_value = switch_ 1 (var 8 (codes "nope")) [] [] [] None ∷ []

-- `switch 1 { 1 if nope => 2 }`
abbrev pub unknown_test : List Stmt
unknown_test = switch_ 1 (int 8 1) (result_if (var 17 (codes "nope")) (int 25 2) ∷ []) (case_of (literal.Int (pos 1)) 0 ∷ []) [] None ∷ []

-- `switch 1 { 1 => nope }`
abbrev pub unknown_result : List Stmt
unknown_result = switch_ 1 (int 8 1) (result_of (var 17 (codes "nope")) ∷ []) (case_of (literal.Int (pos 1)) 0 ∷ []) [] None ∷ []

-- `loop { switch 1 { 1 => { break 7; } } }`
abbrev pub broken : List Stmt
broken = loop_ 1 (braces 6 38 (switch_ 8 (int 15 1) (result_of (inner (braces 24 35 (break_ 26 (Some (int 32 7)) ∷ []))) ∷ [])
    (case_of (literal.Int (pos 1)) 0 ∷ []) [] None ∷ [])) ∷ []

module _ {S H : Type 0} (table : Table S H) (host : H → List ℕ) where
  -- which result a value leads to, and what is charged for it
  pub record Switches : Type 0 where
    -- a condition is a truth value, and any literal but one of those is charged
    pub mismatch : Fails table (usual host) no_truth
        (ErrorMismatchDataType (record { wanted = codes "bool"; found = codes "i64" }) (column 17)) 3 []
    pub holds : Returns table (usual host) tested (integer 2) 6 []
    -- the default's own condition does not count
    pub default : Returns table (usual host) default_alone (integer 7) 3 []
    -- the ranges that contain an integer
    pub exclusive : Returns table (usual host) (ranges 7) (integer 20) 3 []
    pub inclusive : Returns table (usual host) (ranges 10) (integer 30) 3 []
    pub outside : Returns table (usual host) (ranges 11) (integer 99) 3 []
    -- truth values are read without a charge; the ranges come after the case
    pub in_order : Returns table (usual host) both (integer 3) 3 []
    -- a case has the value's type, and no range has a value of another
    pub typed : Returns table (usual host) by_type (integer 2) 3 []
    -- without a case or a default it gives `()`
    pub none : Returns table (usual host) no_case unit 2 []
    -- the value is flattened, and its result comes as it is
    pub as_it_is : EndsOver table host (Some (integer 5)) of_handle (Ok handle) 3 []
    -- a condition is looked at through its handle
    pub through : EndsOver table host (Some (truth true)) test_of_handle (Ok (integer 2)) 4 []
    -- what can not be hashed goes to the default
    pub unhashable : Ends table (usual host) (nothing_but (entry (codes "a") (array (handle ∷ [])) ∷ [])) of_a (Ok (integer 3)) 3
        (nothing_but (entry (codes "a") (array (handle ∷ [])) ∷ []))

  -- what fails or is refused in a `switch`
  pub record SwitchErrors : Type 0 where
    pub value : Fails table (usual host) unknown_value (ErrorVariableNotFound (codes "nope") (column 8)) 2 []
    pub test : Fails table (usual host) unknown_test (ErrorVariableNotFound (codes "nope") (column 17)) 3 []
    pub result : Fails table (usual host) unknown_result (ErrorVariableNotFound (codes "nope") (column 17)) 3 []
    pub race : EndsOver table host None of_handle (Err (ErrorDataRace (codes "h") (column 8))) 2 []
    -- refused at the value, at the condition, and at the result
    pub value_refused : Fails table (limited host 1) tested (ErrorTooManyOperations (column 8)) 1 []
    pub test_refused : Fails table (limited host 2) tested (ErrorTooManyOperations (column 19)) 2 []
    pub result_refused : Fails table (limited host 5) tested (ErrorTooManyOperations (column 27)) 5 []
    -- a `break` passes
    pub breaks : Returns table (usual host) broken (integer 7) 6 []
