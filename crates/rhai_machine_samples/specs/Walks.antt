-- Samples of `for`: what is walked, the variables that are written, and the ways out.
use Rattle.std.specs.Prelude.{ℕ, ◌^◌, List, [], ◌∷◌, Option, Some, None, Result, Ok, Err, codes, pos}
use Rattle.rhai_machine.specs.Types.{Dynamic, EvalAltResult, Expr, Ident, ScopeEntry, Stmt, StmtBlock, Union}
use Rattle.rhai_tree.specs.declared.expr.Expr.TheVariants as expr
use Rattle.rhai_tree.specs.declared.expr.Stmt.TheVariants as stmt
use Rattle.rhai_tree.specs.declared.token.Token.TheVariants.{InclusiveRange, Plus}
use Rattle.rhai_values.specs.declared.base.value.AccessMode.TheVariants.{ReadWrite}
use Rattle.rhai_values.specs.declared.base.value.Union.TheVariants as kind
use Rattle.rhai_values.specs.Copy.{plain}
use Rattle.rhai_errors.specs.declared.error.EvalAltResult.TheVariants.{ErrorArithmetic, ErrorAssignmentToConstant, ErrorDataRace, ErrorFor}
use Rattle.rhai_errors.specs.declared.error.EvalAltResult.TheVariants.{ErrorRuntime, ErrorTooManyOperations, ErrorTooManyVariables}
use Rattle.rhai_errors.specs.declared.error.EvalAltResult.TheVariants.{ErrorVariableNotFound}
use Rattle.rhai_machine.specs.language.State.{Local}
use Rattle.rhai_machine.specs.language.Setting.{Setting}
use Rattle.rhai_machine.specs.language.Turns.{ForLoop, Turns, OfItems, OfIntegers}
use Rattle.rhai_machine.specs.language.Frames.{Frame, ForTurn, RestoreScope}
use Rattle.rhai_machine_samples.specs.Trees.{column, int, var, op, braces, inner, ident, for_, assign, break_, continue_, return_, throw_}
use Rattle.rhai_machine_samples.specs.Trees.{shared}
use Rattle.rhai_machine_samples.specs.Trees.{no_variable, result_of, switch_, try_}
use Rattle.rhai_machine_samples.specs.Runs.{Table, Ends, EndsFromFrames, Fails, Returns, usual, usual_limits, limited, nothing_but, entry}
use Rattle.rhai_machine_samples.specs.Runs.{integer, fixed, unit}
use Rattle.rhai_machine_samples.specs.Handles.{handle, one_cell}
use Rattle.rhai_machine_samples.specs.Items.{array}
use Rattle.rhai_machine_samples.specs.Data.{word}

-- `for x in a { .. }`, with this body
abbrev pub plain_for : List Stmt → List Stmt
plain_for body = for_ 1 (ident 5 (codes "x")) None (var 10 (codes "a")) (braces 12 30 body) ∷ []

-- `for (x, i) in a { .. }`, with this body
abbrev pub counting_for : List Stmt → List Stmt
counting_for body = for_ 1 (ident 6 (codes "x")) (Some (ident 9 (codes "i"))) (var 15 (codes "a")) (braces 17 40 body) ∷ []

-- the body `s = x;` of `keeps_item`
abbrev pub keeps_body : List Stmt
keeps_body = assign 16 None (var 14 (codes "s")) (var 18 (codes "x")) ∷ []

-- `for x in a { s = x; }`
abbrev pub keeps_item : List Stmt
keeps_item = plain_for keeps_body

-- the body `s = i;` of `keeps_counter`
abbrev pub counter_body : List Stmt
counter_body = assign 21 None (var 19 (codes "s")) (var 23 (codes "i")) ∷ []

-- `for (x, i) in a { s = i; }`
abbrev pub keeps_counter : List Stmt
keeps_counter = counting_for counter_body

-- `for x in 1..=2 {}`
abbrev pub empty_body : List Stmt
empty_body = for_ 1 (ident 5 (codes "x")) None (op 11 InclusiveRange (int 10 1 ∷ int 14 2 ∷ [])) (braces 16 17 []) ∷ []

-- `for x in 1 + 1 {}`
abbrev pub of_sum : List Stmt
of_sum = for_ 1 (ident 5 (codes "x")) None (op 12 Plus (int 10 1 ∷ int 14 1 ∷ [])) (braces 16 17 []) ∷ []

-- `for v in [1] { throw 0; }`
abbrev pub thrown : List Stmt
thrown = for_ 1 (ident 5 (codes "v")) None (expr.Array (int 11 1 ∷ []) (column 10)) (braces 14 24 (throw_ 16 (Some (int 22 0)) ∷ [])) ∷ []

-- `for x in nope {}`
abbrev pub of_nope : List Stmt
of_nope = for_ 1 (ident 5 (codes "x")) None (var 10 (codes "nope")) (braces 15 16 []) ∷ []

-- `for (x, i) in nope {}`
abbrev pub counts_nope : List Stmt
counts_nope = for_ 1 (ident 6 (codes "x")) (Some (ident 9 (codes "i"))) (var 15 (codes "nope")) (braces 20 21 []) ∷ []

-- the body `try { continue; } catch {}`
abbrev pub continuing_try : List Stmt
continuing_try = try_ 14 (braces 18 30 (continue_ 20 ∷ [])) no_variable (braces 38 39 []) ∷ []

-- the body `switch 1 { _ => { break x; } }`
abbrev pub breaking_switch : List Stmt
breaking_switch = switch_ 14 (int 21 1) (result_of (inner (braces 30 41 (break_ 32 (Some (var 38 (codes "x"))) ∷ []))) ∷ []) [] [] (Some 0)
    ∷ []

-- a body that shares `x` and `i`, and adds 10 to `x`
abbrev pub sharing_body : List Stmt
sharing_body = stmt.Share (shared 19 (codes "x") ∷ shared 19 (codes "i") ∷ []) ∷ assign 23 (Some Plus) (var 21 (codes "x")) (int 26 10) ∷ []

-- the `for` of `for (x, i) in a { x = 1; }` by itself
abbrev pub counting_loop : ForLoop
counting_loop = record {
  variable = ident 6 (codes "x");
  counter = Some (ident 9 (codes "i"));
  items = var 15 (codes "a");
  body = braces 17 27 (assign 21 None (var 19 (codes "x")) (int 23 1) ∷ []);
}

module _ {S H : Type 0} (table : Table S H) (host : H → List ℕ) where
  -- a local state with the variable `a`, and `s` with what was kept there
  abbrev pub a_and_s : Union H → Dynamic H → Local H
  a_and_s a s = nothing_but (entry (codes "a") (plain a) ∷ entry (codes "s") s ∷ [])

  -- over this value of `a` the script gives `()` after so many charges, and leaves this in `s`
  abbrev pub Keeps : Union H → List Stmt → (count : ℕ) → Dynamic H → Type 0
  Keeps a script count s = Ends table (usual host) (a_and_s a unit) script (Ok unit) count (a_and_s a s)

  -- an array of 7 and 8
  abbrev pub two_items : Union H
  two_items = kind.Array (integer 7 ∷ integer 8 ∷ [])

  -- over two items the script comes to this result after so many charges, and leaves `s` as it was
  abbrev pub OverTwo : List Stmt → Result (Dynamic H) (EvalAltResult H) → (count : ℕ) → Type 0
  OverTwo script result count = Ends table (usual host) (a_and_s two_items unit) script result count (a_and_s two_items unit)

  -- what a `for` walks, and the variables that it writes
  pub record Walks : Type 0 where
    -- items of an array, bytes as integers, characters, integers upward
    pub items : Keeps two_items keeps_item 8 (integer 8)
    pub bytes : Keeps (kind.Blob (1 ∷ 255 ∷ [])) keeps_item 8 (integer 255)
    pub letters : Keeps (kind.Str (codes "ab")) keeps_item 8 (plain (kind.Char 98))
    pub integers : Keeps (kind.ExclusiveRange (pos 5) (pos 7)) keeps_item 8 (integer 6)
    -- up to the greatest integer
    pub greatest : Keeps (kind.InclusiveRange (pos 9223372036854775807) (pos 9223372036854775807)) keeps_item 5
        (integer 9223372036854775807)
    pub no_integers : Keeps (kind.ExclusiveRange (pos 7) (pos 5)) keeps_item 2 unit
    -- the counter begins at 0
    pub counter : Keeps two_items keeps_counter 8 (integer 1)
    -- an empty body is charged for each item, at its brace
    pub empty : Returns table (usual host) empty_body unit 6 []
    pub empty_refused : Fails table (limited host 5) empty_body (ErrorTooManyOperations (column 16)) 5 []
    -- anything else can not be walked, and that is told where it starts
    pub no_walk : Fails table (usual host) of_sum (ErrorFor (column 10)) 4 []
    -- its variables leave the scope after an error too
    pub restored : Fails table (usual host) thrown (ErrorRuntime (integer 0) (column 16)) 5 []
    -- an item that is a handle is flattened
    pub flattened : Ends table (usual host) (one_cell table host (Some (integer 5)) (entry (codes "a") (array (handle ∷ [])) ∷ entry
        (codes "s") unit ∷ [])) keeps_item (Ok unit) 5
        (one_cell table host (Some (integer 5)) (entry (codes "a") (array (handle ∷ [])) ∷ entry (codes "s") (integer 5) ∷ []))
    pub race : Ends table (usual host) (one_cell table host None (entry (codes "a") (array (handle ∷ [])) ∷ [])) keeps_item
        (Err (ErrorDataRace [] (column 10))) 2 (one_cell table host None (entry (codes "a") (array (handle ∷ [])) ∷ []))

  -- the usual setting where a scope may have so many variables
  abbrev pub with_room : ℕ → Setting H
  with_room n = record (usual host) { limits = record usual_limits { max_variables = n } }

  -- what a body that shares its variables leaves: the variable `a`, and the cells of the item and of the counter
  abbrev pub two_shared : (a : Dynamic H) → (item counter : Dynamic H) → Local H
  two_shared a item counter =
      let l = nothing_but (entry (codes "a") a ∷ []) in
      record l { around = record l.around { cells = Some item ∷ Some counter ∷ [] } }

  -- a local state with two cells, of the item and of the counter, each free or held
  abbrev pub in_cells : (item counter : Option (Dynamic H)) → List (ScopeEntry H) → Local H
  in_cells item counter scope =
      let l = nothing_but scope in
      record l { around = record l.around { cells = item ∷ counter ∷ [] } }

  -- the handle of the cell of this number
  abbrev pub handle_at : ℕ → Dynamic H
  handle_at n = record { value = kind.Cell (record { number = n }); mode = ReadWrite }

  -- the counter `i` and the variable `x` as handles of two cells
  abbrev pub two_handles : List (ScopeEntry H)
  two_handles = entry (codes "i") (handle_at 1) ∷ entry (codes "x") (handle_at 0) ∷ []

  -- a turn of the counting loop by itself, over one item that is a constant, comes to this error
  abbrev pub EndsTurn : (turn : ℕ) → Local H → EvalAltResult H → (count : ℕ) → Local H → Type 0
  EndsTurn turn before e count after = EndsFromFrames table (usual host) before
      (ForTurn counting_loop (OfItems (fixed 5 ∷ [])) turn 0) (RestoreScope 0 ∷ []) (Err e) count after

  -- the ways out of a `for`, and a turn that can not be made
  pub record WalkEnds : Type 0 where
    -- `break` gives the loop its value, and `continue` goes on
    pub breaks : OverTwo (plain_for (break_ 14 (Some (var 20 (codes "x"))) ∷ [])) (Ok (integer 7)) 4
    pub continues : OverTwo (plain_for (continue_ 14 ∷ [])) (Ok unit) 4
    -- both pass through a `try` and a `switch`
    pub through_try : OverTwo (plain_for continuing_try) (Ok unit) 6
    pub through_switch : OverTwo (plain_for breaking_switch) (Ok (integer 7)) 7
    pub returns : OverTwo (plain_for (return_ 14 (Some (var 21 (codes "x"))) ∷ [])) (Ok (integer 7)) 4
    -- room for the variables is asked for before the value
    pub full : Fails table (with_room 0) of_nope (ErrorTooManyVariables (column 5)) 1 []
    pub room : Fails table (with_room 1) of_nope (ErrorVariableNotFound (codes "nope") (column 10)) 2 []
    pub full_of_two : Fails table (with_room 1) counts_nope (ErrorTooManyVariables (column 6)) 1 []
    -- refused at the value, and in the body
    pub value_refused : Fails table (limited host 1) of_nope (ErrorTooManyOperations (column 10)) 1 []
    pub body_refused : Ends table (limited host 3) (a_and_s two_items unit) keeps_item (Err (ErrorTooManyOperations (column 18))) 3
        (a_and_s two_items unit)
    -- what the body shares stays shared, and the next turn writes through it
    pub through_cells : Ends table (usual host) (nothing_but (entry (codes "a") (plain two_items) ∷ [])) (counting_for sharing_body)
        (Ok unit) 10
        (two_shared (plain two_items) (integer 18) (integer 1))
    -- a held cell, of the counter or of the item, is a data race
    pub counter_held : EndsTurn 1 (in_cells (Some unit) None two_handles) (ErrorDataRace (codes "i") (column 6)) 0
        (in_cells (Some unit) None [])
    pub item_held : EndsTurn 1 (in_cells None (Some unit) two_handles) (ErrorDataRace (codes "x") (column 6)) 0
        (in_cells None (Some (integer 1)) [])
    -- an item keeps its mode
    pub constant_item : EndsTurn 1 (nothing_but (entry (codes "i") unit ∷ entry (codes "x") unit ∷ []))
        (ErrorAssignmentToConstant (codes "x") (column 19)) 3 (nothing_but [])
    -- no counter has this number
    pub overflow : EndsTurn (2 ^ 63) (nothing_but (entry (codes "i") unit ∷ entry (codes "x") unit ∷ []))
        (ErrorArithmetic (codes "for-loop counter overflow: 9223372036854775807") (column 6)) 0 (nothing_but [])
