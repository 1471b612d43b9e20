-- Samples of variables, blocks and conditions.
use Rattle.std.specs.Prelude.{ℕ, false, List, [], ◌∷◌, codes, pos}
use Rattle.rhai_machine.specs.Types.{Stmt}
use Rattle.rhai_tree.specs.declared.token.Token.TheVariants.{Plus, EqualsTo}
use Rattle.rhai_values.specs.declared.base.value.AccessMode.TheVariants.{ReadOnly}
use Rattle.rhai_values.specs.declared.base.value.Union.TheVariants as value_of
use Rattle.rhai_errors.specs.declared.error.EvalAltResult.TheVariants.{ErrorTooManyOperations, ErrorTooManyVariables}
use Rattle.rhai_errors.specs.declared.error.EvalAltResult.TheVariants.{ErrorVariableExists, ErrorVariableNotFound}
use Rattle.rhai_errors.specs.declared.error.EvalAltResult.TheVariants.{ErrorMismatchDataType}
use Rattle.rhai_machine.specs.language.Setting.{Setting}
use Rattle.rhai_machine_samples.specs.Trees.{column, int, var, op, value, braces, block, inner, let_, const_, if_, no_else}
use Rattle.rhai_machine_samples.specs.Runs.{usual_limits, Table, Returns, Fails, usual, limited, integer, unit, entry}

-- `let x = 40; { let x = 1; } if x == 40 { x + 2 } else { 0 }`
abbrev pub scopes : List Stmt
scopes =
    let_ 1 (codes "x") (int 9 40)
    ∷ block (braces 13 26 (let_ 15 (codes "x") (int 23 1) ∷ []))
    ∷ if_ 28 (op 33 EqualsTo (var 31 (codes "x") ∷ int 36 40 ∷ []))
    (braces 39 47 (value (op 43 Plus (var 41 (codes "x") ∷ int 45 2 ∷ [])) ∷ []))
    (braces 54 58 (value (int 56 0) ∷ []))
    ∷ []

-- `{ let x = 1; y }`
abbrev pub fails_inside : List Stmt
fails_inside = block (braces 1 16 (let_ 3 (codes "x") (int 11 1) ∷ value (var 14 (codes "y")) ∷ [])) ∷ []

-- `let x = 1; y`
abbrev pub fails_outside : List Stmt
fails_outside = let_ 1 (codes "x") (int 9 1) ∷ value (var 12 (codes "y")) ∷ []

-- `let x = { 1 };`
abbrev pub inner_block : List Stmt
inner_block = let_ 1 (codes "x") (inner (braces 9 13 (value (int 11 1) ∷ []))) ∷ []

-- `{}`
abbrev pub empty_block : List Stmt
empty_block = block (braces 1 2 []) ∷ []

-- `let x = 1; let x = 2; x`
abbrev pub hides : List Stmt
hides = let_ 1 (codes "x") (int 9 1) ∷ let_ 12 (codes "x") (int 20 2) ∷ value (var 23 (codes "x")) ∷ []

-- `let x = 1; let x = y;`
abbrev pub declared_twice : List Stmt
declared_twice = let_ 1 (codes "x") (int 9 1) ∷ let_ 12 (codes "x") (var 20 (codes "y")) ∷ []

-- `let x = 1; let z = y;`
abbrev pub two_variables : List Stmt
two_variables = let_ 1 (codes "x") (int 9 1) ∷ let_ 12 (codes "z") (var 20 (codes "y")) ∷ []

-- `const x = 1; x`
abbrev pub constant : List Stmt
constant = const_ 1 (codes "x") (int 11 1) ∷ value (var 14 (codes "x")) ∷ []

-- `if 1 {}`
abbrev pub no_truth : List Stmt
no_truth = if_ 1 (int 4 1) (braces 6 7 []) no_else ∷ []

module _ {S H : Type 0} (table : Table S H) (host : H → List ℕ) where
  -- what a block takes back, and which list an `if` chooses
  pub record Blocks : Type 0 where
    -- a block takes back its variables, and an `if` goes on with the list that its condition chose
    pub restored : Returns table (limited host 13) scopes (integer 42) 13 (entry (codes "x") (integer 40) ∷ [])
    -- cut before its last operand; the variables of the script stay
    pub cut : Fails table (limited host 12) scopes (ErrorTooManyOperations (column 45)) 12 (entry (codes "x") (integer 40) ∷ [])
    -- a block takes back its variables after an error too
    pub inside : Fails table (usual host) fails_inside (ErrorVariableNotFound (codes "y") (column 14)) 5 []
    -- those of the script itself stay
    pub outside : Fails table (usual host) fails_outside (ErrorVariableNotFound (codes "y") (column 12)) 4
        (entry (codes "x") (integer 1) ∷ [])
    -- a block is an expression too
    pub as_value : Returns table (usual host) inner_block unit 4 (entry (codes "x") (integer 1) ∷ [])
    -- an empty one gives `()`
    pub empty : Returns table (usual host) empty_block unit 1 []

  -- the usual setting where a name is declared once
  abbrev pub no_shadowing : Setting H
  no_shadowing = record (usual host) { offer = record (usual host).offer { allow_shadowing = false } }

  -- the usual setting where a scope may have one variable
  abbrev pub one_variable : Setting H
  one_variable = record (usual host) { limits = record usual_limits { max_variables = 1 } }

  -- what a new variable hides, and what refuses one
  pub record Variables : Type 0 where
    -- a newer variable hides an older one, and both stay
    pub newest : Returns table (usual host) hides (integer 2) 6 (entry (codes "x") (integer 1) ∷ entry (codes "x") (integer 2) ∷ [])
    -- without shadowing it is refused, before its value is looked at
    pub once : Fails table no_shadowing declared_twice (ErrorVariableExists (codes "x") (column 12)) 3 (entry (codes "x") (integer 1) ∷ [])
    -- so is one variable too many
    pub full : Fails table one_variable two_variables (ErrorTooManyVariables (column 12)) 3 (entry (codes "x") (integer 1) ∷ [])
    -- a constant is kept as one, and its value is read as one that may be written
    pub kept : Returns table (usual host) constant (integer 1) 4
        (entry (codes "x") (record { value = value_of.Int (pos 1); mode = ReadOnly }) ∷ [])
    -- a condition is a truth value
    pub condition : Fails table (usual host) no_truth (ErrorMismatchDataType (record { wanted = codes "bool"; found = codes "i64" })
        (column 4)) 2 []
