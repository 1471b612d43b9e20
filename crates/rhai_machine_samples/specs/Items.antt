-- Samples of chains: the items of arrays, read and assigned to.
use Rattle.std.specs.Prelude.{ℕ, List, [], ◌∷◌, Option, Some, None, Result, Ok, Err, codes, pos, negsuc}
use Rattle.rhai_machine.specs.Types.{Dynamic, EvalAltResult, Expr, Stmt}
use Rattle.rhai_tree.specs.declared.expr.Expr.TheVariants as expr
use Rattle.rhai_tree.specs.declared.token.Token.TheVariants.{Plus}
use Rattle.rhai_values.specs.declared.base.value.AccessMode.TheVariants.{ReadOnly}
use Rattle.rhai_values.specs.declared.base.value.Union.TheVariants as kind
use Rattle.rhai_values.specs.Copy.{plain}
use Rattle.rhai_errors.specs.declared.error.EvalAltResult.TheVariants.{ErrorArrayBounds, ErrorAssignmentToConstant, ErrorDataRace}
use Rattle.rhai_errors.specs.declared.error.EvalAltResult.TheVariants.{ErrorMismatchDataType}
use Rattle.rhai_errors.specs.declared.error.EvalAltResult.TheVariants.{ErrorDataTooLarge, ErrorTooManyOperations, ErrorVariableNotFound}
use Rattle.rhai_tree.specs.Position.{none}
use Rattle.rhai_machine.specs.language.Setting.{Setting}
use Rattle.rhai_machine_samples.specs.Trees.{column, int, var, value, assign}
use Rattle.rhai_machine_samples.specs.Runs.{Table, Ends, Fails, Returns, usual, limited, nothing_but, entry, integer, fixed}
use Rattle.rhai_machine_samples.specs.Runs.{unit}
use Rattle.rhai_machine_samples.specs.Data.{text, word, short_texts}
use Rattle.rhai_machine_samples.specs.Handles.{handle, one_cell, EndsOver}

-- an index at its own column
abbrev pub index : (at : ℕ) → (left right : Expr) → Expr
index c left right = expr.Index left right (record { 0 = 0 }) (column c)

-- a dot at its own column
abbrev pub dot : (at : ℕ) → (left right : Expr) → Expr
dot c left right = expr.Dot left right (record { 0 = 0 }) (column c)

-- a dot at its own column that stops at `()`
abbrev pub safe_dot : (at : ℕ) → (left right : Expr) → Expr
safe_dot c left right = expr.Dot left right (record { 0 = 1 }) (column c)

-- a property at a column
abbrev pub property : (at : ℕ) → List ℕ → Expr
property c name = expr.Property name (column c)

-- `a[..]`, with this index
abbrev pub item_by : Expr → Expr
item_by at = index 2 (var 1 (codes "a")) at

-- `a[1]`
abbrev pub second_item : List Stmt
second_item = value (item_by (int 3 1)) ∷ []

-- `a[0][1]`
abbrev pub item_of_item : Expr
item_of_item = item_by (index 5 (int 3 0) (int 6 1))

-- `a[-1]`
abbrev pub last_item : List Stmt
last_item = value (item_by (expr.IntegerConstant (negsuc 0) (column 3))) ∷ []

-- the index `a[0]` of `by_own_item`
abbrev pub own_item : Expr
own_item = index 4 (var 3 (codes "a")) (int 5 0)

-- `a[a[0]]`, whose inner chain is an index by itself
abbrev pub by_own_item : Expr
by_own_item = expr.Index (var 1 (codes "a")) own_item (record { 0 = 2 }) (column 2)

-- `a?[0]`
abbrev pub safe_item : Expr
safe_item = expr.Index (var 1 (codes "a")) (int 4 0) (record { 0 = 1 }) (column 2)

-- `a[3]`
abbrev pub no_item : List Stmt
no_item = value (item_by (int 3 3)) ∷ []

-- `a["x"]`
abbrev pub item_by_text : List Stmt
item_by_text = value (item_by (text 3 (codes "x"))) ∷ []

-- `a[0] = 5`
abbrev pub first_set : List Stmt
first_set = assign 6 None (item_by (int 3 0)) (int 8 5) ∷ []

-- `a[0][1] = 5`
abbrev pub inner_set : List Stmt
inner_set = assign 9 None item_of_item (int 11 5) ∷ []

-- `a[0] += 1`
abbrev pub first_raised : List Stmt
first_raised = assign 6 (Some Plus) (item_by (int 3 0)) (int 9 1) ∷ []

-- `a[0] = "abc"`
abbrev pub text_set : List Stmt
text_set = assign 6 None (item_by (int 3 0)) (text 8 (codes "abc")) ∷ []

-- `b[y] = 1`
abbrev pub unknown_set : List Stmt
unknown_set = assign 6 None (index 2 (var 1 (codes "b")) (var 3 (codes "y"))) (int 8 1) ∷ []

-- `h[0]`, as an expression
abbrev pub first_of_handle : Expr
first_of_handle = index 2 (var 1 (codes "h")) (int 3 0)

-- `h[0][1]`
abbrev pub item_in_handle : Expr
item_in_handle = index 2 (var 1 (codes "h")) (index 5 (int 3 0) (int 6 1))

-- `h[0]`
abbrev pub handle_read : List Stmt
handle_read = value first_of_handle ∷ []

-- `h[0] = 7`
abbrev pub handle_set : List Stmt
handle_set = assign 6 None first_of_handle (int 8 7) ∷ []

-- `[4, 2][1]`
abbrev pub of_literal : List Stmt
of_literal = value (index 7 (expr.Array (int 2 4 ∷ int 5 2 ∷ []) (column 1)) (int 8 1)) ∷ []

module _ {H : Type 0} where
  -- an array of these items, which may be written
  abbrev pub array : List (Dynamic H) → Dynamic H
  array items = plain (kind.Array items)

  -- `[1, 2, 3]`
  abbrev pub three : Dynamic H
  three = array (integer 1 ∷ integer 2 ∷ integer 3 ∷ [])

  -- `[[1, 2]]`
  abbrev pub nested : Dynamic H
  nested = array (array (integer 1 ∷ integer 2 ∷ []) ∷ [])

  -- `[1]`, of which neither the array nor its item may be written
  abbrev pub fixed_array : Dynamic H
  fixed_array = record { value = kind.Array (fixed 1 ∷ []); mode = ReadOnly }

module _ {S H : Type 0} (table : Table S H) (host : H → List ℕ) where
  -- over this variable the script comes to this result, and leaves this count and the variable so
  abbrev pub Over : Setting H → List ℕ → Dynamic H → List Stmt → Result (Dynamic H) (EvalAltResult H) → (count : ℕ) → Dynamic H → Type 0
  Over s name before script result count after =
      Ends table s (nothing_but (entry name before ∷ [])) script result count (nothing_but (entry name after ∷ []))

  -- over this variable the script returns this value, and leaves the variable as it was
  abbrev pub Reads : List ℕ → Dynamic H → List Stmt → Dynamic H → (count : ℕ) → Type 0
  Reads name before script v count = Over (usual host) name before script (Ok v) count before

  -- over this variable the script fails with this error, and leaves the variable as it was
  abbrev pub Refuses : List ℕ → Dynamic H → List Stmt → EvalAltResult H → (count : ℕ) → Type 0
  Refuses name before script e count = Over (usual host) name before script (Err e) count before

  -- over this variable the script gives `()`, and leaves this count and the variable so
  abbrev pub Sets : List ℕ → Dynamic H → List Stmt → (count : ℕ) → Dynamic H → Type 0
  Sets name before script count after = Over (usual host) name before script (Ok unit) count after

  -- items of arrays, read and assigned to
  pub record Items : Type 0 where
    -- the root and the link are charged, and a literal index is not; in a longer chain what stands behind each operator is charged, and
    -- the index too
    pub read : Reads (codes "a") three second_item (integer 2) 4
    pub inner : Reads (codes "a") nested (value item_of_item ∷ []) (integer 2) 9
    -- a chain in brackets is evaluated as an index
    pub by_chain : Reads (codes "a") (array (integer 1 ∷ integer 7 ∷ [])) (value by_own_item ∷ []) (integer 7) 8
    pub stops : Reads (codes "a") unit (value safe_item ∷ []) unit 3
    -- an index may count from the end
    pub last : Reads (codes "a") three last_item (integer 3) 4
    -- what leads to no item is refused where the index starts
    pub outside : Refuses (codes "a") three no_item (ErrorArrayBounds (record { length = 3; index = pos 3 }) (column 3)) 4
    pub mismatch : Refuses (codes "a") three item_by_text
        (ErrorMismatchDataType (record { wanted = codes "i64"; found = codes "string" }) (column 3)) 4
    -- an assignment gives `()`, and its right side is charged before the root
    pub set : Sets (codes "a") three first_set 4 (array (integer 5 ∷ integer 2 ∷ integer 3 ∷ []))
    pub inner_item : Sets (codes "a") nested inner_set 9 (array (array (integer 1 ∷ integer 5 ∷ []) ∷ []))
    pub raised : Sets (codes "a") three first_raised 4 (array (integer 2 ∷ integer 2 ∷ integer 3 ∷ []))
    -- a constant's item is refused by the name of the root, where the root starts
    pub constant : Refuses (codes "a") fixed_array first_set (ErrorAssignmentToConstant (codes "a") (column 1)) 4
    -- a charge that is refused on the way leaves all as it was
    pub cut : Over (limited host 8) (codes "a") nested inner_set (Err (ErrorTooManyOperations none)) 8 nested
    -- a root that is no variable is evaluated after the arguments
    pub of_value : Returns table (usual host) of_literal (integer 2) 6 []
    pub unknown : Fails table (usual host) second_item (ErrorVariableNotFound (codes "a") (column 1)) 3 []
    -- the index comes after the right side, and before the root
    pub index_first : Fails table (usual host) unknown_set (ErrorVariableNotFound (codes "y") (column 3)) 4 []
    -- what was assigned is measured at the operator, and stays
    pub too_long : Over (short_texts host 2) (codes "a") (array (integer 1 ∷ [])) text_set
        (Err (ErrorDataTooLarge (codes "Length of string") (column 6))) 4 (array (word (codes "abc") ∷ []))

  -- over the one cell, and the variable `a` beside its handle, the script comes to this result and leaves the cell so
  abbrev pub CellOver : Option (Dynamic H) → Dynamic H → List Stmt → Result (Dynamic H) (EvalAltResult H) → (count : ℕ) →
      Option (Dynamic H) → Type 0
  CellOver before a script result count after = Ends table (usual host) (one_cell table host before (entry (codes "a") a ∷ [])) script
      result count (one_cell table host after (entry (codes "a") a ∷ []))

  -- items and roots that are handles
  pub record SharedItems : Type 0 where
    -- an item that is a handle is read and written through it
    pub item_read : CellOver (Some (integer 5)) (array (integer 1 ∷ handle ∷ [])) second_item (Ok (integer 5)) 4 (Some (integer 5))
    pub item_set : CellOver (Some (integer 4)) (array (handle ∷ [])) first_set (Ok unit) 4 (Some (integer 5))
    pub item_raised : CellOver (Some (integer 4)) (array (handle ∷ [])) first_raised (Ok unit) 4 (Some (integer 5))
    -- a root that is a handle is entered, and its cell is free again after
    pub root_read : EndsOver table host (Some (array (integer 5 ∷ []))) handle_read (Ok (integer 5)) 4 []
    pub root_set : Ends table (usual host) (one_cell table host (Some (array (integer 5 ∷ []))) []) handle_set (Ok unit) 4
        (one_cell table host (Some (array (integer 7 ∷ []))) [])
    -- the cell of the root is held meanwhile, so an item that is its handle is not assigned to
    pub own_handle : Ends table (usual host) (one_cell table host (Some (array (handle ∷ []))) []) handle_set
        (Err (ErrorDataRace [] (column 1))) 4 (one_cell table host (Some (array (handle ∷ []))) [])
    -- a held cell is a data race
    pub held : EndsOver table host None handle_read (Err (ErrorDataRace (codes "h") (column 1))) 3 []
    pub item_held : CellOver None (array (integer 1 ∷ handle ∷ [])) second_item (Err (ErrorDataRace [] (column 2))) 4 None
    -- a chain goes on through an item's handle, and is refused at the operator behind it where the cell is held
    pub through_item : CellOver (Some (array (integer 1 ∷ integer 2 ∷ []))) (array (handle ∷ [])) inner_set (Ok unit) 9
        (Some (array (integer 1 ∷ integer 5 ∷ [])))
    pub held_inside : CellOver None (array (handle ∷ [])) inner_set (Err (ErrorDataRace [] (column 5))) 8 None
    -- a charge that is refused inside frees the cell
    pub cut : Ends table (limited host 8) (one_cell table host (Some nested) []) (value item_in_handle ∷ [])
        (Err (ErrorTooManyOperations none)) 8 (one_cell table host (Some nested) [])
