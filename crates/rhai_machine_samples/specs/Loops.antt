-- Samples of loops, and of the ways out of them.
use Rattle.std.specs.Prelude.{ℕ, false, List, [], ◌∷◌, Some, None, Ok, codes}
use Rattle.rhai_machine.specs.Types.{Expr, Stmt, StmtBlock}
use Rattle.rhai_tree.specs.declared.token.Token.TheVariants.{Plus, Bang, LessThan, GreaterThanEqualsTo}
use Rattle.rhai_errors.specs.declared.error.EvalAltResult.TheVariants.{ErrorTooManyOperations}
use Rattle.rhai_machine_samples.specs.Trees.{column, int, bool, var, op, value, braces, inner, let_, if_, no_else, assign, while_, loop_}
use Rattle.rhai_machine_samples.specs.Trees.{do_while, do_until, break_, continue_, return_}
use Rattle.rhai_machine_samples.specs.Runs.{Table, Returns, Fails, Ends, usual, limited, integer, unit, entry, nothing_but}
use Rattle.rhai_machine_samples.specs.Handles.{one_cell, handle}

-- the condition `n < 3` of `counted`
abbrev pub counted_test : Expr
counted_test = op 20 LessThan (var 18 (codes "n") ∷ int 22 3 ∷ [])

-- the body `{ n += 1; }` of `counted`
abbrev pub counted_body : StmtBlock
counted_body = braces 24 34 (assign 28 (Some Plus) (var 26 (codes "n")) (int 31 1) ∷ [])

-- `let n = 0; while n < 3 { n += 1; } n`
abbrev pub counted : List Stmt
counted = let_ 1 (codes "n") (int 9 0) ∷ while_ 12 counted_test counted_body ∷ value (var 36 (codes "n")) ∷ []

-- the body `{ n += 1; if n < 5 { continue; } }` of `continued`
abbrev pub continued_body : StmtBlock
continued_body =
    braces 15 48
    (assign 19 (Some Plus) (var 17 (codes "n")) (int 22 1)
    ∷ if_ 25 (op 30 LessThan (var 28 (codes "n") ∷ int 32 5 ∷ [])) (braces 34 46 (continue_ 36 ∷ [])) no_else
    ∷ [])

-- the condition `n >= 1` of `continued`
abbrev pub continued_test : Expr
continued_test = op 58 GreaterThanEqualsTo (var 56 (codes "n") ∷ int 61 1 ∷ [])

-- `let n = 0; do { n += 1; if n < 5 { continue; } } until n >= 1; n`
abbrev pub continued : List Stmt
continued = let_ 1 (codes "n") (int 9 0) ∷ do_until 12 continued_body continued_test ∷ value (var 64 (codes "n")) ∷ []

-- `loop {}`
abbrev pub endless : List Stmt
endless = loop_ 1 (braces 6 7 []) ∷ []

-- the condition `!false` of `waits`
abbrev pub waits_test : Expr
waits_test = op 7 Bang (bool 8 false ∷ [])

-- `while !false {}`
abbrev pub waits : List Stmt
waits = while_ 1 waits_test (braces 14 15 []) ∷ []

-- `do {} while false`
abbrev pub once : List Stmt
once = do_while 1 (braces 4 5 []) (bool 13 false) ∷ []

-- `loop { let a = 1; break; }`
abbrev pub left_early : List Stmt
left_early = loop_ 1 (braces 6 26 (let_ 8 (codes "a") (int 16 1) ∷ break_ 19 None ∷ [])) ∷ []

-- `let x = loop { break 7; }; x + 1`
abbrev pub broken : List Stmt
broken =
    let_ 1 (codes "x") (inner (braces 9 25 (loop_ 9 (braces 14 25 (break_ 16 (Some (int 22 7)) ∷ [])) ∷ [])))
    ∷ value (op 30 Plus (var 28 (codes "x") ∷ int 32 1 ∷ []))
    ∷ []

-- `loop { loop { break; } break 1; }`
abbrev pub innermost : List Stmt
innermost = loop_ 1 (braces 6 33 (loop_ 8 (braces 13 22 (break_ 15 None ∷ [])) ∷ break_ 24 (Some (int 30 1)) ∷ [])) ∷ []

-- `loop { break h; }`
abbrev pub broken_handle : List Stmt
broken_handle = loop_ 1 (braces 6 17 (break_ 8 (Some (var 14 (codes "h"))) ∷ [])) ∷ []

-- `return 5; 6`
abbrev pub returned : List Stmt
returned = return_ 1 (Some (int 8 5)) ∷ value (int 11 6) ∷ []

-- `loop { return h; }`
abbrev pub returned_handle : List Stmt
returned_handle = loop_ 1 (braces 6 18 (return_ 8 (Some (var 15 (codes "h"))) ∷ [])) ∷ []

module _ {S H : Type 0} (table : Table S H) (host : H → List ℕ) where
  -- turns of a `while` and of a `do`, and loops that never end
  pub record Loops : Type 0 where
    -- a `while` tests its condition before each turn
    pub counts : Returns table (limited host 26) counted (integer 3) 26 (entry (codes "n") (integer 3) ∷ [])
    pub cut : Fails table (limited host 25) counted (ErrorTooManyOperations (column 36)) 25 (entry (codes "n") (integer 3) ∷ [])
    -- `continue` in a `do` starts the next turn without testing its condition
    pub continues : Returns table (usual host) continued (integer 5) 47 (entry (codes "n") (integer 5) ∷ [])
    -- a `do .. while` goes on while its condition holds
    pub goes_once : Returns table (usual host) once unit 2 []
    -- an endless loop with an empty body is charged at its body, each turn
    pub empty : Fails table (limited host 10) endless (ErrorTooManyOperations (column 6)) 10 []
    -- a `while` with an empty body evaluates its condition, each turn
    pub waiting : Fails table (limited host 5) waits (ErrorTooManyOperations (column 7)) 5 []

  -- `break` and `return`
  pub record WaysOut : Type 0 where
    -- `break` gives the loop its value
    pub breaks : Returns table (usual host) broken (integer 8) 9 (entry (codes "x") (integer 7) ∷ [])
    -- the variables of the body go with it
    pub takes_back : Returns table (usual host) left_early unit 4 []
    -- it ends the innermost loop
    pub inner_loop : Returns table (usual host) innermost (integer 1) 5 []
    -- its value comes as it is, a handle too
    pub as_it_is : Ends table (usual host) (one_cell table host (Some (integer 5)) []) broken_handle (Ok handle) 3
        (one_cell table host (Some (integer 5)) [])
    -- `return` gives the script its value, and nothing after it is run
    pub returns : Ends table (usual host) (nothing_but []) returned (Ok (integer 5)) 2 (nothing_but [])
    -- it passes through a loop, and its value is flattened
    pub flattened : Ends table (usual host) (one_cell table host (Some (integer 5)) []) returned_handle (Ok (integer 5)) 3
        (one_cell table host (Some (integer 5)) [])
