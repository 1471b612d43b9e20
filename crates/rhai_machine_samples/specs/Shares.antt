-- Samples of shared variables: which entries become handles, and which values their cells have.
use Rattle.std.specs.Prelude.{ℕ, List, [], ◌∷◌, Option, Some, None, Result, Ok, Err, codes}
use Rattle.rhai_machine.specs.Types.{AccessMode, Dynamic, ScopeEntry, SharedVariable, Stmt}
use Rattle.rhai_tree.specs.declared.expr.Stmt.TheVariants as stmt
use Rattle.rhai_tree.specs.Position.{none}
use Rattle.rhai_values.specs.declared.base.value.AccessMode.TheVariants.{ReadOnly, ReadWrite}
use Rattle.rhai_values.specs.declared.base.value.Union.TheVariants.{Cell}
use Rattle.rhai_errors.specs.declared.error.EvalAltResult.TheVariants.{ErrorTooManyOperations, ErrorVariableNotFound}
use Rattle.rhai_machine.specs.language.State.{Local}
use Rattle.rhai_machine_samples.specs.Trees.{column, shared}
use Rattle.rhai_machine_samples.specs.Runs.{Table, Ends, Fails, Returns, usual, limited, nothing_but, entry, integer, fixed, unit}
use Rattle.rhai_machine_samples.specs.Handles.{EndsOver}

-- the statement that shares these variables
abbrev pub share : List SharedVariable → List Stmt
share variables = stmt.Share variables ∷ []

-- the sharing of `x`, `x`, `q` and `x`
abbrev pub stops_at_q : List Stmt
stops_at_q = share (shared 1 (codes "x") ∷ shared 3 (codes "x") ∷ shared 5 (codes "q") ∷ shared 7 (codes "x") ∷ [])

-- the sharing of `x` alone
abbrev pub x_alone : List Stmt
x_alone = share (shared 1 (codes "x") ∷ [])

module _ {S H : Type 0} (table : Table S H) (host : H → List ℕ) where
  -- the handle of the cell of this number, in this mode
  abbrev pub cell_handle : ℕ → AccessMode → Dynamic H
  cell_handle number mode = record { value = Cell (record { number = number }); mode = mode }

  -- a local state with these cells and these variables
  abbrev pub over_cells : List (Option (Dynamic H)) → List (ScopeEntry H) → Local H
  over_cells cells scope =
      let l = nothing_but scope in
      record l { around = record l.around { cells = cells } }

  -- what becomes of variables that closures share
  pub record Shares : Type 0 where
    -- a constant's handle is one too, and its value keeps its mode; what came before an error stays
    pub one_by_one : Ends table (usual host) (nothing_but (entry (codes "x") (fixed 5) ∷ [])) stops_at_q
        (Err (ErrorVariableNotFound (codes "q") (column 5))) 1
        (over_cells (Some (fixed 5) ∷ []) (entry (codes "x") (cell_handle 0 ReadOnly) ∷ []))
    -- the innermost variable of the name, in the next cell
    pub innermost : Ends table (usual host) (over_cells (None ∷ []) (entry (codes "x") (integer 1) ∷ entry (codes "x") (integer 2) ∷ []))
        x_alone (Ok unit) 1
        (over_cells (None ∷ Some (integer 2) ∷ []) (entry (codes "x") (integer 1) ∷ entry (codes "x") (cell_handle 1 ReadWrite) ∷ []))
    -- a handle is left, of a held cell too
    pub handles : EndsOver table host None (share (shared 1 (codes "h") ∷ [])) (Ok unit) 1 []
    -- without names it is charged at no position
    pub nothing : Returns table (usual host) (share []) unit 1 []
    pub refused : Fails table (limited host 1) (stmt.Noop (column 1) ∷ share []) (ErrorTooManyOperations none) 1 []
