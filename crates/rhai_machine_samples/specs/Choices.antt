-- Samples of the operators that stop early.
use Rattle.std.specs.Prelude.{ℕ, true, false, List, [], ◌∷◌, Some, Ok, codes}
use Rattle.rhai_machine.specs.Types.{Stmt}
use Rattle.rhai_errors.specs.declared.error.EvalAltResult.TheVariants.{ErrorMismatchDataType}
use Rattle.rhai_machine_samples.specs.Trees.{column, int, bool, var, value, braces, unit_at, all_of, any_of, first_of, loop_, break_}
use Rattle.rhai_machine_samples.specs.Runs.{Table, Returns, Fails, Ends, usual, integer, truth, unit}
use Rattle.rhai_machine_samples.specs.Handles.{one_cell, handle}

-- `true || 1`
abbrev pub first_holds : List Stmt
first_holds = value (any_of 6 (bool 1 true ∷ int 9 1 ∷ [])) ∷ []

-- `false || true`
abbrev pub second_holds : List Stmt
second_holds = value (any_of 7 (bool 1 false ∷ bool 10 true ∷ [])) ∷ []

-- `1 && true`
abbrev pub no_truth_value : List Stmt
no_truth_value = value (all_of 3 (int 1 1 ∷ bool 6 true ∷ [])) ∷ []

-- `false && 1`
abbrev pub first_fails : List Stmt
first_fails = value (all_of 7 (bool 1 false ∷ int 10 1 ∷ [])) ∷ []

-- `() ?? 5 ?? y`
abbrev pub second_there : List Stmt
second_there = value (first_of 4 (unit_at 1 ∷ int 7 5 ∷ var 12 (codes "y") ∷ [])) ∷ []

-- `() ?? ()`
abbrev pub none_there : List Stmt
none_there = value (first_of 4 (unit_at 1 ∷ unit_at 7 ∷ [])) ∷ []

-- `loop { break h ?? 1; }`
abbrev pub handle_there : List Stmt
handle_there = loop_ 1 (braces 6 22 (break_ 8 (Some (first_of 16 (var 14 (codes "h") ∷ int 19 1 ∷ []))) ∷ [])) ∷ []

module _ {S H : Type 0} (table : Table S H) (host : H → List ℕ) where
  -- the operators that stop early: `&&`, `||` and `??`
  pub record Choices : Type 0 where
    -- nothing after the part that decides is evaluated
    pub or_stops : Returns table (usual host) first_holds (truth true) 3 []
    pub or_goes_on : Returns table (usual host) second_holds (truth true) 4 []
    pub and_stops : Returns table (usual host) first_fails (truth false) 3 []
    -- each part is a truth value
    pub mismatched : Fails table (usual host) no_truth_value
        (ErrorMismatchDataType (record { wanted = codes "bool"; found = codes "i64" }) (column 1)) 3 []
    -- an operator without parts
    pub all_of_none : Returns table (usual host) (value (all_of 1 []) ∷ []) (truth true) 2 []
    pub any_of_none : Returns table (usual host) (value (any_of 1 []) ∷ []) (truth false) 2 []
    -- the first value that is not `()`, or the last of all
    pub coalesces : Returns table (usual host) second_there (integer 5) 4 []
    pub all_unit : Returns table (usual host) none_there unit 4 []
    -- it comes as it is: a handle is looked through, and stays a handle
    pub as_it_is : Ends table (usual host) (one_cell table host (Some (integer 5)) []) handle_there (Ok handle) 4
        (one_cell table host (Some (integer 5)) [])
