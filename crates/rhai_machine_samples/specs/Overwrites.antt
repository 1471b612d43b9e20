-- Samples of a `let` that overwrites the newest variable of its name. That is found by the name, whatever the index is.
use Rattle.std.specs.Prelude.{ℕ, List, [], ◌∷◌, Some, Ok, Err, codes}
use Rattle.std.specs.declared.num.NonZeroUsize.{NonZeroUsize}
use Rattle.rhai_machine.specs.Types.{Dynamic, ScopeEntry, Stmt}
use Rattle.rhai_tree.specs.declared.token.Token.TheVariants.{Plus}
use Rattle.rhai_errors.specs.declared.error.EvalAltResult.TheVariants.{ErrorVariableExists, ErrorVariableNotFound}
use Rattle.rhai_machine.specs.language.Setting.{Setting}
use Rattle.rhai_machine_samples.specs.Trees.{column, int, var, op, let_over, const_over, export_let}
use Rattle.rhai_machine_samples.specs.Runs.{Table, Ends, usual, nothing_but, entry, integer, fixed, unit}
use Rattle.rhai_machine_samples.specs.Variables.{no_shadowing, one_variable}
use Rattle.rhai_machine_samples.specs.Handles.{one_cell}
use Rattle.rhai_machine_samples.specs.Shares.{over_cells}
use Rattle.rhai_machine_samples.specs.Functions.{with_function, with_table, does_nothing}
use Rattle.rhai_machine_samples.specs.Exports.{known_as}

-- an older `x`, one with this value and these aliases, and a newer variable of another name
abbrev pub around_x : {H : Type 0} → Dynamic H → (aliases : List (List ℕ)) → List (ScopeEntry H)
around_x v aliases =
    entry (codes "x") (integer 7) ∷ known_as (entry (codes "x") v) aliases ∷ entry (codes "z") (integer 5) ∷ []

module _ {S H : Type 0} (table : Table S H) (host : H → List ℕ) (index : NonZeroUsize) where
  -- `let x = 2`
  abbrev pub another : List Stmt
  another = let_over index 1 (codes "x") (int 9 2) ∷ []

  -- `let x = q`
  abbrev pub unknown_value : List Stmt
  unknown_value = let_over index 1 (codes "x") (var 9 (codes "q")) ∷ []

  -- over these variables the script comes to `()`, and leaves these
  abbrev pub Leaves : Setting H → List (ScopeEntry H) → List Stmt → (count : ℕ) → List (ScopeEntry H) → Type 0
  Leaves s before script count after = Ends table s (nothing_but before) script (Ok unit) count (nothing_but after)

  -- what a `let` with an index overwrites
  pub record Overwrites : Type 0 where
    -- the value and the mode of the newest `x` alone, a constant's too, which keeps its aliases
    pub newest : Leaves (usual host) (around_x (fixed 1) (codes "y" ∷ [])) another 2 (around_x (integer 2) (codes "y" ∷ []))
    -- `const x = 2` makes a constant
    pub constant : Leaves (usual host) (around_x (integer 1) []) (const_over index 1 (codes "x") (int 11 2) ∷ []) 2 (around_x (fixed 2) [])
    -- `let x = x + 1`: the value that is there is read before
    pub before : Leaves (usual host) (around_x (fixed 1) [])
        (let_over index 1 (codes "x") (op 11 Plus (var 9 (codes "x") ∷ int 13 1 ∷ [])) ∷ []) 4 (around_x (integer 2) [])
    -- no variable is added, so it goes where the scope is full
    pub full : Leaves (one_variable table host) (entry (codes "x") (fixed 1) ∷ []) another 2 (entry (codes "x") (integer 2) ∷ [])
    -- `export let x = 2`: the variable that was written gets its own name as an alias, and not the last one
    pub exported : Leaves (usual host) (around_x (fixed 1) (codes "y" ∷ [])) (export_let 1 (Some index) (codes "x") (int 16 2) ∷ []) 2
        (around_x (integer 2) (codes "y" ∷ codes "x" ∷ []))
    -- without shadowing it is refused, before its value is looked at
    pub once : Ends table (no_shadowing table host) (nothing_but (around_x (fixed 1) [])) unknown_value
        (Err (ErrorVariableExists (codes "x") (column 1))) 1 (nothing_but (around_x (fixed 1) []))
    -- where the value fails the variable stays as it was
    pub fails : Ends table (usual host) (nothing_but (around_x (fixed 1) [])) unknown_value
        (Err (ErrorVariableNotFound (codes "q") (column 9))) 2 (nothing_but (around_x (fixed 1) []))
    -- `let h = 2` of a handle: the variable is none then, and the cell stays as it was
    pub handle : Ends table (usual host) (one_cell table host (Some (fixed 5)) []) (let_over index 1 (codes "h") (int 9 2) ∷ []) (Ok unit) 2
        (over_cells table host (Some (fixed 5) ∷ []) (entry (codes "h") (integer 2) ∷ []))
    -- `const C = 2` at the top, over a constant of the table there: it is entered there instead
    pub entered : Ends table (usual host)
        (with_table table host (codes "C" ∷ [], integer 1 ∷ []) (with_function does_nothing (entry (codes "C") (fixed 1) ∷ [])))
        (const_over index 1 (codes "C") (int 11 2) ∷ []) (Ok unit) 2
        (with_table table host (codes "C" ∷ [], integer 2 ∷ []) (with_function does_nothing (entry (codes "C") (fixed 2) ∷ [])))
    -- with no variable of its name it leaves all as it was
    pub missing : Leaves (usual host) (entry (codes "z") (integer 5) ∷ []) another 2 (entry (codes "z") (integer 5) ∷ [])
