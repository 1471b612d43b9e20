-- Samples of assignment.
use Rattle.std.specs.Prelude.{ℕ, true, false, List, [], ◌∷◌, Option, Some, None, Result, Ok, Err, codes}
use Rattle.rhai_machine.specs.Types.{Dynamic, EvalAltResult, Stmt}
use Rattle.rhai_tree.specs.declared.token.Token.TheVariants.{Plus}
use Rattle.rhai_tree.specs.Position.{none}
use Rattle.rhai_errors.specs.declared.error.EvalAltResult.TheVariants.{ErrorTooManyOperations, ErrorVariableNotFound}
use Rattle.rhai_errors.specs.declared.error.EvalAltResult.TheVariants.{ErrorAssignmentToConstant, ErrorArithmetic, ErrorDataRace}
use Rattle.rhai_errors.specs.declared.error.EvalAltResult.TheVariants.{ErrorDataTooLarge, ErrorFunctionNotFound}
use Rattle.rhai_errors.specs.declared.error.EvalAltResult.TheVariants.{ErrorNonPureMethodCallOnConstant}
use Rattle.rhai_errors.specs.Native.{Request, Missing, Gives, Faults, Named, OfName, request}
use Rattle.rhai_machine.specs.language.Setting.{Setting}
use Rattle.rhai_machine_samples.specs.Trees.{column, int, bool, var, value, braces, block, let_, const_, assign}
use Rattle.rhai_machine_samples.specs.Runs.{Table, Replies, Answers, EndsFrom, Returns, Fails, Ends, EndsScript, IsImpure, usual, limited}
use Rattle.rhai_machine_samples.specs.Runs.{integer, fixed, truth, unit, entry, nothing_but}
use Rattle.rhai_machine_samples.specs.Called.{abc, short_texts}
use Rattle.rhai_machine_samples.specs.Handles.{one_cell}

-- `let x = 1; x = 2; x`
abbrev pub assigned : List Stmt
assigned = let_ 1 (codes "x") (int 9 1) ∷ assign 14 None (var 12 (codes "x")) (int 16 2) ∷ value (var 19 (codes "x")) ∷ []

-- `let x = 1; { let x = 2; } x`
abbrev pub hidden : List Stmt
hidden = let_ 1 (codes "x") (int 9 1) ∷ block (braces 12 25 (let_ 14 (codes "x") (int 22 2) ∷ [])) ∷ value (var 27 (codes "x")) ∷ []

-- `let x = 1; { x = 2; } x`
abbrev pub reached : List Stmt
reached = let_ 1 (codes "x") (int 9 1) ∷ block (braces 12 21 (assign 16 None (var 14 (codes "x")) (int 18 2) ∷ [])) ∷ value
    (var 23 (codes "x")) ∷ []

-- `const C = 1; C = 2;`
abbrev pub to_constant : List Stmt
to_constant = const_ 1 (codes "C") (int 11 1) ∷ assign 16 None (var 14 (codes "C")) (int 18 2) ∷ []

-- `y = 1;`
abbrev pub to_unknown : List Stmt
to_unknown = assign 3 None (var 1 (codes "y")) (int 5 1) ∷ []

-- `y = z;`
abbrev pub of_unknown : List Stmt
of_unknown = assign 3 None (var 1 (codes "y")) (var 5 (codes "z")) ∷ []

-- `let x = 1; x += 9223372036854775807;`
abbrev pub overflows : List Stmt
overflows = let_ 1 (codes "x") (int 9 1) ∷ assign 14 (Some Plus) (var 12 (codes "x")) (int 17 9223372036854775807) ∷ []

-- `s += s;`
abbrev pub doubled : List Stmt
doubled = assign 3 (Some Plus) (var 1 (codes "s")) (var 6 (codes "s")) ∷ []

-- `h += 2;`
abbrev pub through_handle : List Stmt
through_handle = assign 3 (Some Plus) (var 1 (codes "h")) (int 6 2) ∷ []

-- `h += true;`
abbrev pub lends_cell : List Stmt
lends_cell = assign 3 (Some Plus) (var 1 (codes "h")) (bool 6 true) ∷ []

-- the call of a native by `lends_cell`, while the cell is held
abbrev pub lent_called : {H : Type 0} → Request H
lent_called = request (None ∷ []) (Named (codes "+=")) (Some (integer 5)) (truth true ∷ []) (column 3)

-- `let x = 1; x += true;`
abbrev pub mixed_update : List Stmt
mixed_update = let_ 1 (codes "x") (int 9 1) ∷ assign 14 (Some Plus) (var 12 (codes "x")) (bool 17 true) ∷ []

-- `let x = 1; x += 2;`
abbrev pub plain_update : List Stmt
plain_update = let_ 1 (codes "x") (int 9 1) ∷ assign 14 (Some Plus) (var 12 (codes "x")) (int 17 2) ∷ []

-- the call of a native of this name by `mixed_update` or `plain_update`
abbrev pub update_called : {H : Type 0} → List ℕ → Dynamic H → Request H
update_called name operand = request [] (Named name) (Some (integer 1)) (operand ∷ []) (column 14)

module _ {S H : Type 0} (table : Table S H) (host : H → List ℕ) where
  -- the usual setting without fast operators
  abbrev pub slow_operators : Setting H
  slow_operators = record (usual host) { offer = record (usual host).offer { fast_operators = false } }

  -- over a cell with this value the script comes to this result, and the cell has that value
  abbrev pub Changes : Option (Dynamic H) → List Stmt → Result (Dynamic H) (EvalAltResult H) → (count : ℕ) → Option (Dynamic H) → Type 0
  Changes before script result count after = Ends table (usual host) (one_cell table host before []) script result count
      (one_cell table host after [])

  -- assignments to a variable, and what refuses one
  pub record Assignments : Type 0 where
    -- the statement is charged, then its value, then the variable
    pub plain : Returns table (usual host) assigned (integer 2) 7 (entry (codes "x") (integer 2) ∷ [])
    pub cut : Fails table (limited host 4) assigned (ErrorTooManyOperations (column 12)) 4 (entry (codes "x") (integer 1) ∷ [])
    -- a variable of a block goes with it, and what the block assigns stays
    pub in_block : Returns table (usual host) hidden (integer 1) 7 (entry (codes "x") (integer 1) ∷ [])
    pub from_block : Returns table (usual host) reached (integer 2) 8 (entry (codes "x") (integer 2) ∷ [])
    -- a constant is refused, and stays
    pub constant : Fails table (usual host) to_constant (ErrorAssignmentToConstant (codes "C") (column 14)) 5
        (entry (codes "C") (fixed 1) ∷ [])
    -- the value comes before the variable
    pub unknown : Fails table (usual host) to_unknown (ErrorVariableNotFound (codes "y") (column 1)) 3 []
    pub value_first : Fails table (usual host) of_unknown (ErrorVariableNotFound (codes "z") (column 5)) 2 []
    -- an operator's error stands at the operator, and nothing is written
    pub too_great : Fails table (usual host) overflows (ErrorArithmetic (codes "integer overflow") (column 14)) 5
        (entry (codes "x") (integer 1) ∷ [])
    -- a result that is too large is not written
    pub too_long : Ends table (short_texts table host 5) (nothing_but (entry (codes "s") abc ∷ [])) doubled
        (Err (ErrorDataTooLarge (codes "Length of string") (column 3))) 3 (nothing_but (entry (codes "s") abc ∷ []))
    -- a handle is assigned through
    pub in_cell : Changes (Some (integer 5)) through_handle (Ok unit) 3 (Some (integer 7))
    pub locked : Changes (Some (fixed 5)) through_handle (Err (ErrorAssignmentToConstant (codes "h") (column 1))) 3 (Some (fixed 5))
    pub held : Changes None through_handle (Err (ErrorDataRace (codes "h") (column 1))) 3 None

  -- assignments by an operator that is a native's
  pub record Updates : Type 0 where
    -- where there is neither native, two calls are charged
    pub missing : Replies table Missing → EndsFrom table 0 (usual host) mixed_update
        (Err (ErrorFunctionNotFound (codes "+ (i64, bool)") (column 14))) 7 (entry (codes "x") (integer 1) ∷ [])
        (update_called (codes "+") (truth true) ∷ update_called (codes "+=") (truth true) ∷ [])
    -- the second charge is refused before its native is called
    pub refused : Replies table Missing → EndsFrom table 0 (limited host 6) mixed_update (Err (ErrorTooManyOperations (column 14))) 6
        (entry (codes "x") (integer 1) ∷ []) (update_called (codes "+=") (truth true) ∷ [])
    -- the native of `+=` changes the variable, and its answer is dropped
    pub in_place : Answers table (update_called (codes "+=") (truth true)) (Gives (integer 3)) (integer 9)
        → EndsFrom table 0 (usual host) mixed_update (Ok unit) 6 (entry (codes "x") (integer 9) ∷ []) (update_called (codes "+=")
        (truth true) ∷ [])
    -- what it changed stays after its fault
    pub faults : Answers table (update_called (codes "+=") (truth true)) (Faults (ErrorArithmetic (codes "no") none)) (integer 9)
        → EndsFrom table 0 (usual host) mixed_update (Err (ErrorArithmetic (codes "no") (column 14))) 6
        (entry (codes "x") (integer 9) ∷ []) (update_called (codes "+=") (truth true) ∷ [])
    -- the native of `+` gives the variable's value, also where the first one says that there is no such function
    pub by_value : Answers table (update_called (codes "+=") (truth true)) Missing (integer 1) →
        Answers table (update_called (codes "+") (truth true)) (Gives (integer 7)) (integer 9)
        → EndsFrom table 0 (usual host) mixed_update (Ok unit) 7 (entry (codes "x") (integer 7) ∷ [])
        (update_called (codes "+") (truth true) ∷ update_called (codes "+=") (truth true) ∷ [])
    pub by_fault : Answers table (update_called (codes "+=") (truth true)) (Faults (ErrorFunctionNotFound (codes "+= (a, b)") none))
        (integer 1) → Answers table (update_called (codes "+") (truth true)) (Gives (integer 7)) (integer 9)
        → EndsFrom table 0 (usual host) mixed_update (Ok unit) 7 (entry (codes "x") (integer 7) ∷ [])
        (update_called (codes "+") (truth true) ∷ update_called (codes "+=") (truth true) ∷ [])
    -- where the first one left a constant, the second is not called unless it is pure
    pub barred : Answers table (update_called (codes "+=") (truth true)) (Faults (ErrorFunctionNotFound (codes "+= (i64, bool)") none))
        (fixed 1) → IsImpure table (OfName (codes "+") (codes "i64") 2)
        → EndsFrom table 0 (usual host) mixed_update (Err (ErrorNonPureMethodCallOnConstant (codes "+") (column 14))) 7
        (entry (codes "x") (fixed 1) ∷ []) (update_called (codes "+=") (truth true) ∷ [])
    -- the answer is measured at the operator, and the variable where it stands
    pub answer_long : Answers table (update_called (codes "+=") (truth true)) (Gives abc) (integer 9)
        → EndsFrom table 0 (short_texts table host 2) mixed_update (Err (ErrorDataTooLarge (codes "Length of string") (column 14))) 6
        (entry (codes "x") (integer 9) ∷ []) (update_called (codes "+=") (truth true) ∷ [])
    pub target_long : Answers table (update_called (codes "+=") (truth true)) (Gives unit) abc
        → EndsFrom table 0 (short_texts table host 2) mixed_update (Err (ErrorDataTooLarge (codes "Length of string") (column 12))) 6
        (entry (codes "x") abc ∷ []) (update_called (codes "+=") (truth true) ∷ [])
    -- a cell is held while a native has its value
    pub lent : Answers table lent_called (Gives unit) (integer 9) →
        EndsScript table (usual host) false lends_cell 0 (one_cell table host (Some (integer 5)) []) (Ok unit) 4
        (one_cell table host (Some (integer 9)) []) (lent_called ∷ [])
    -- without fast operators the native comes before the built-in
    pub slow : Replies table Missing → EndsFrom table 0 slow_operators plain_update (Ok unit) 6 (entry (codes "x") (integer 3) ∷ [])
        (update_called (codes "+=") (integer 2) ∷ [])
