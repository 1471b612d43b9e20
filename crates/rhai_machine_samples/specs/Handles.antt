-- Samples of variables that are handles of a cell.
use Rattle.std.specs.Prelude.{ℕ, true, List, [], ◌∷◌, Option, Some, None, Result, Ok, Err, codes}
use Rattle.rhai_machine.specs.Types.{Dynamic, EvalAltResult, ScopeEntry, Stmt}
use Rattle.rhai_tree.specs.declared.token.Token.TheVariants.{Plus}
use Rattle.rhai_values.specs.declared.base.value.AccessMode.TheVariants.{ReadWrite}
use Rattle.rhai_values.specs.declared.base.value.Union.TheVariants.{Cell}
use Rattle.rhai_errors.specs.declared.error.EvalAltResult.TheVariants.{ErrorDataRace}
use Rattle.rhai_machine.specs.language.State.{Local}
use Rattle.rhai_machine_samples.specs.Trees.{column, int, var, op, value, braces, let_, if_, no_else}
use Rattle.rhai_machine_samples.specs.Runs.{Table, Ends, nothing_but, usual, integer, truth, unit, entry}

-- `h`
abbrev pub handle_alone : List Stmt
handle_alone = value (var 1 (codes "h")) ∷ []

-- `h + 1`
abbrev pub handle_left : List Stmt
handle_left = value (op 3 Plus (var 1 (codes "h") ∷ int 5 1 ∷ [])) ∷ []

-- `1 + h`
abbrev pub handle_right : List Stmt
handle_right = value (op 3 Plus (int 1 1 ∷ var 5 (codes "h") ∷ [])) ∷ []

-- `let y = h;`
abbrev pub handle_kept : List Stmt
handle_kept = let_ 1 (codes "y") (var 9 (codes "h")) ∷ []

-- `if h { 1 }`
abbrev pub handle_tested : List Stmt
handle_tested = if_ 1 (var 4 (codes "h")) (braces 6 10 (value (int 8 1) ∷ [])) no_else ∷ []

-- the handle of the first cell
abbrev pub handle : {H : Type 0} → Dynamic H
handle = record { value = Cell (record { number = 0 }); mode = ReadWrite }

module _ {S H : Type 0} (table : Table S H) (host : H → List ℕ) where
  -- the variable `h` is the handle of the only cell, whose value is this, or which is held; then come other variables
  abbrev pub one_cell : Option (Dynamic H) → List (ScopeEntry H) → Local H
  one_cell cell others =
      let l = nothing_but (entry (codes "h") handle ∷ others) in
      record l { around = record l.around { cells = cell ∷ [] } }

  -- over the cell the script comes to this result, and leaves this count and these further variables
  abbrev pub EndsOver : Option (Dynamic H) → List Stmt → Result (Dynamic H) (EvalAltResult H) → (count : ℕ) → List (ScopeEntry H) → Type 0
  EndsOver cell script result count others = Ends table (usual host) (one_cell cell []) script result count (one_cell cell others)

  -- a variable that is the handle of a cell, free or held
  pub record Handles : Type 0 where
    -- the value of a statement, the operands of an operator and the value of a `let` are the cell's value
    pub statement : EndsOver (Some (integer 5)) handle_alone (Ok (integer 5)) 2 []
    pub left : EndsOver (Some (integer 5)) handle_left (Ok (integer 6)) 4 []
    pub right : EndsOver (Some (integer 5)) handle_right (Ok (integer 6)) 4 []
    pub kept : EndsOver (Some (integer 5)) handle_kept (Ok unit) 2 (entry (codes "y") (integer 5) ∷ [])
    -- a condition is looked at through its handle
    pub tested : EndsOver (Some (truth true)) handle_tested (Ok (integer 1)) 4 []
    -- a variable whose cell is held is a data race
    pub held : EndsOver None handle_left (Err (ErrorDataRace (codes "h") (column 1))) 3 []
