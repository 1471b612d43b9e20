-- Samples of `export`, of a variable that is there and of a new one: which variable gets which alias.
use Rattle.std.specs.Prelude.{ℕ, ◌+◌, List, [], ◌∷◌, Option, Some, None, Result, Ok, Err, codes}
use Rattle.rhai_machine.specs.Types.{Ident, ScopeEntry, Stmt}
use Rattle.rhai_tree.specs.declared.expr.Stmt.TheVariants as stmt
use Rattle.rhai_errors.specs.declared.error.EvalAltResult.TheVariants.{ErrorTooManyOperations, ErrorVariableNotFound}
use Rattle.rhai_machine_samples.specs.Trees.{column, ident, int, export_let, export_const}
use Rattle.rhai_machine_samples.specs.Runs.{Table, Ends, Fails, usual, limited, nothing_but, entry, integer, fixed, unit}

-- `export` of a name that stands behind it, with or without an alias
abbrev pub export : (at : ℕ) → List ℕ → Option Ident → Stmt
export c name alias = stmt.Export (ident (c + 1) name) alias (column c)

-- a variable with aliases
abbrev pub known_as : {H : Type 0} → ScopeEntry H → (aliases : List (List ℕ)) → ScopeEntry H
known_as entry aliases = record entry { aliases = aliases }

module _ {S H : Type 0} (table : Table S H) (host : H → List ℕ) where
  -- which variable gets which alias
  pub record Exports : Type 0 where
    -- the newest variable of the name, under its own name
    pub newest : Ends table (usual host) (nothing_but (entry (codes "x") (integer 1) ∷ entry (codes "x") (integer 2) ∷ []))
        (export 1 (codes "x") None ∷ []) (Ok unit) 1
        (nothing_but (entry (codes "x") (integer 1) ∷ known_as (entry (codes "x") (integer 2)) (codes "x" ∷ []) ∷ []))
    -- an alias once, and behind it another one; an empty one is none
    pub once : Ends table (usual host) (nothing_but (entry (codes "x") (integer 1) ∷ []))
        (export 1 (codes "x") (Some (ident 3 (codes "y"))) ∷ export 5 (codes "x") (Some (ident 7 (codes "y")))
        ∷ export 9 (codes "x") (Some (ident 11 [])) ∷ []) (Ok unit) 3
        (nothing_but (known_as (entry (codes "x") (integer 1)) (codes "y" ∷ codes "x" ∷ []) ∷ []))
    -- a name that no variable has, even where it is another one's alias
    pub unknown : Ends table (usual host) (nothing_but (known_as (entry (codes "x") (integer 1)) (codes "y" ∷ []) ∷ []))
        (export 1 (codes "y") None ∷ []) (Err (ErrorVariableNotFound (codes "y") (column 2))) 1
        (nothing_but (known_as (entry (codes "x") (integer 1)) (codes "y" ∷ []) ∷ []))
    -- it is charged at the statement
    pub refused : Fails table (limited host 1) (stmt.Noop (column 1) ∷ export 3 (codes "x") None ∷ [])
        (ErrorTooManyOperations (column 3)) 1 []
    -- a new variable under its own name, and not the older one of the name
    pub declared : Ends table (usual host) (nothing_but (entry (codes "x") (integer 1) ∷ []))
        (export_let 1 None (codes "x") (int 16 2) ∷ []) (Ok unit) 2
        (nothing_but (entry (codes "x") (integer 1) ∷ known_as (entry (codes "x") (integer 2)) (codes "x" ∷ []) ∷ []))
    -- and so a constant
    pub constant : Ends table (usual host) (nothing_but []) (export_const 1 None (codes "C") (int 18 1) ∷ []) (Ok unit) 2
        (nothing_but (known_as (entry (codes "C") (fixed 1)) (codes "C" ∷ []) ∷ []))
