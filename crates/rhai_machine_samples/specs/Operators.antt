-- Samples of operators.
use Rattle.std.specs.Prelude.{ℕ, true, false, List, [], ◌∷◌, codes}
use Rattle.rhai_machine.specs.Types.{Stmt}
use Rattle.rhai_tree.specs.declared.token.Token.TheVariants.{Plus, Bang, EqualsTo, NotEqualsTo}
use Rattle.rhai_errors.specs.declared.error.EvalAltResult.TheVariants.{ErrorTooManyOperations, ErrorVariableNotFound, ErrorArithmetic}
use Rattle.rhai_machine_samples.specs.Trees.{column, int, bool, var, op, value}
use Rattle.rhai_machine_samples.specs.Runs.{Table, Returns, Fails, usual, limited, integer, truth}

-- `40 + 2`
abbrev pub forty_two : List Stmt
forty_two = value (op 4 Plus (int 1 40 ∷ int 6 2 ∷ [])) ∷ []

-- `y + z`
abbrev pub unknown_names : List Stmt
unknown_names = value (op 3 Plus (var 1 (codes "y") ∷ var 5 (codes "z") ∷ [])) ∷ []

-- `y + 1`
abbrev pub unknown_name : List Stmt
unknown_name = value (op 3 Plus (var 1 (codes "y") ∷ int 5 1 ∷ [])) ∷ []

-- `9223372036854775807 + 1`
abbrev pub overflow : List Stmt
overflow = value (op 21 Plus (int 1 9223372036854775807 ∷ int 23 1 ∷ [])) ∷ []

-- `!true`
abbrev pub negation : List Stmt
negation = value (op 1 Bang (bool 2 true ∷ [])) ∷ []

-- `1 == true`
abbrev pub equal_types : List Stmt
equal_types = value (op 3 EqualsTo (int 1 1 ∷ bool 6 true ∷ [])) ∷ []

-- `1 != true`
abbrev pub different_types : List Stmt
different_types = value (op 3 NotEqualsTo (int 1 1 ∷ bool 6 true ∷ [])) ∷ []

module _ {S H : Type 0} (table : Table S H) (host : H → List ℕ) where
  -- the statement is charged first, then the operator, then its operands from left to right
  pub record Sums : Type 0 where
    pub within : Returns table (limited host 4) forty_two (integer 42) 4 []
    pub no_right : Fails table (limited host 3) forty_two (ErrorTooManyOperations (column 6)) 3 []
    pub no_left : Fails table (limited host 2) forty_two (ErrorTooManyOperations (column 1)) 2 []
    pub no_operator : Fails table (limited host 1) forty_two (ErrorTooManyOperations (column 4)) 1 []
    pub unlimited : Returns table (usual host) forty_two (integer 42) 4 []

  -- operators and their operands: their order, their values, and their errors
  pub record Operands : Type 0 where
    -- the left operand comes first
    pub order : Fails table (usual host) unknown_names (ErrorVariableNotFound (codes "y") (column 1)) 3 []
    -- a name that is unknown is an error where it stands
    pub unknown : Fails table (usual host) unknown_name (ErrorVariableNotFound (codes "y") (column 1)) 3 []
    -- a built-in's error stands at the operator
    pub too_great : Fails table (usual host) overflow (ErrorArithmetic (codes "integer overflow") (column 21)) 4 []
    -- one operand
    pub negated : Returns table (usual host) negation (truth false) 3 []
    -- values of two types are different
    pub equal : Returns table (usual host) equal_types (truth false) 4 []
    pub different : Returns table (usual host) different_types (truth true) 4 []
