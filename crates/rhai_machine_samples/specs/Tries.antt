-- Samples of `try` and `throw`: what is caught, what a branch finds, and what passes.
use Rattle.std.specs.Prelude.{ℕ, List, [], ◌∷◌, ◌++◌, Option, Some, None, Result, Ok, Err, codes, pos}
use Rattle.rhai_machine.specs.Types.{Dynamic, EvalAltResult, Expr, Stmt, StmtBlock}
use Rattle.rhai_values.specs.declared.base.value.Union.TheVariants as kind
use Rattle.rhai_values.specs.Copy.{plain}
use Rattle.rhai_errors.specs.declared.error.EvalAltResult.TheVariants.{ErrorRuntime, ErrorTooManyOperations, ErrorTooManyVariables}
use Rattle.rhai_errors.specs.declared.error.EvalAltResult.TheVariants.{ErrorUnboundThis, ErrorVariableNotFound}
use Rattle.rhai_machine.specs.language.State.{Local}
use Rattle.rhai_machine.specs.language.Frames.{Fail, CatchBranch, TryBody}
use Rattle.rhai_machine_samples.specs.Trees.{column, int, var, value, braces, assign, break_, loop_, return_, throw_, try_, no_variable}
use Rattle.rhai_machine_samples.specs.Runs.{Table, Ends, EndsFromFrames, Fails, Returns, usual, limited, nothing_but, entry, integer, unit}
use Rattle.rhai_machine_samples.specs.Handles.{handle, one_cell, EndsOver}
use Rattle.rhai_machine_samples.specs.Walks.{with_room}
use Rattle.rhai_machine_samples.specs.Data.{word}
use Rattle.rhai_machine_samples.specs.Functions.{wrapped}

-- `throw h`
abbrev pub throws_handle : List Stmt
throws_handle = throw_ 1 (Some (var 7 (codes "h"))) ∷ []

-- `throw`
abbrev pub throws_nothing : List Stmt
throws_nothing = throw_ 1 None ∷ []

-- `try { 5 } catch {}`
abbrev pub no_error : List Stmt
no_error = try_ 1 (braces 5 9 (value (int 7 5) ∷ [])) no_variable (braces 17 18 []) ∷ []

-- `try { throw 42; } catch (e) { e }`
abbrev pub caught : List Stmt
caught = try_ 1 (braces 5 17 (throw_ 7 (Some (int 13 42)) ∷ [])) (var 26 (codes "e")) (braces 29 33 (value (var 31 (codes "e")) ∷ [])) ∷ []

-- `try { throw 42; } catch (e) { r = e; }`
abbrev pub kept : List Stmt
kept = try_ 1 (braces 5 17 (throw_ 7 (Some (int 13 42)) ∷ [])) (var 26 (codes "e"))
    (braces 29 38 (assign 33 None (var 31 (codes "r")) (var 35 (codes "e")) ∷ [])) ∷ []

-- the branch `{ r = e; }` of `kept_map`
abbrev pub keeping : StmtBlock
keeping = braces 24 33 (assign 28 None (var 26 (codes "r")) (var 30 (codes "e")) ∷ [])

-- `try { nope } catch (e) { r = e; }`
abbrev pub kept_map : List Stmt
kept_map = try_ 1 (braces 5 12 (value (var 7 (codes "nope")) ∷ [])) (var 21 (codes "e")) keeping ∷ []

-- `try { throw 42; } catch { throw; }`
abbrev pub raised_again : List Stmt
raised_again = try_ 1 (braces 5 17 (throw_ 7 (Some (int 13 42)) ∷ [])) no_variable (braces 25 34 (throw_ 27 None ∷ [])) ∷ []

-- `try { throw 1; } catch { try { throw 2; } catch { throw; } }`
abbrev pub inner_again : List Stmt
inner_again = try_ 1 (braces 5 16 (throw_ 7 (Some (int 13 1)) ∷ [])) no_variable
    (braces 24 60 (try_ 26 (braces 30 41 (throw_ 32 (Some (int 38 2)) ∷ [])) no_variable (braces 49 58 (throw_ 51 None ∷ [])) ∷ [])) ∷ []

-- `try { throw 1; } catch (e) { nope }`
abbrev pub branch_fails : List Stmt
branch_fails = try_ 1 (braces 5 16 (throw_ 7 (Some (int 13 1)) ∷ [])) (var 25 (codes "e"))
    (braces 28 35 (value (var 30 (codes "nope")) ∷ [])) ∷ []

-- `try { throw 1; } catch (e) {}`
abbrev pub empty_branch : List Stmt
empty_branch = try_ 1 (braces 5 16 (throw_ 7 (Some (int 13 1)) ∷ [])) (var 25 (codes "e")) (braces 28 29 []) ∷ []

-- `try { try { throw 1; } catch (e) {} } catch { 2 }`
abbrev pub outer : List Stmt
outer = try_ 1 (braces 5 37 (try_ 7 (braces 11 22 (throw_ 13 (Some (int 19 1)) ∷ [])) (var 31 (codes "e")) (braces 34 35 []) ∷ []))
    no_variable (braces 45 49 (value (int 47 2) ∷ [])) ∷ []

-- `try { loop {} } catch {}`
abbrev pub endless_body : List Stmt
endless_body = try_ 1 (braces 5 15 (loop_ 7 (braces 12 13 []) ∷ [])) no_variable (braces 23 24 []) ∷ []

-- `try { throw 1; } catch { loop {} }`
abbrev pub endless_branch : List Stmt
endless_branch = try_ 1 (braces 5 16 (throw_ 7 (Some (int 13 1)) ∷ [])) no_variable (braces 24 34 (loop_ 26 (braces 31 32 []) ∷ [])) ∷ []

-- `loop { try { break 7; } catch { 1 } }`
abbrev pub broken_body : List Stmt
broken_body = loop_ 1 (braces 6 37 (try_ 8 (braces 12 23 (break_ 14 (Some (int 20 7)) ∷ [])) no_variable
    (braces 31 35 (value (int 33 1) ∷ [])) ∷ [])) ∷ []

-- `loop { try { throw 1; } catch { break 7; } }`
abbrev pub broken_branch : List Stmt
broken_branch = loop_ 1 (braces 6 45 (try_ 8 (braces 12 23 (throw_ 14 (Some (int 20 1)) ∷ [])) no_variable
    (braces 31 42 (break_ 33 (Some (int 39 7)) ∷ [])) ∷ [])) ∷ []

-- `try { return 5; } catch { 1 }`
abbrev pub returned : List Stmt
returned = try_ 1 (braces 5 17 (return_ 7 (Some (int 14 5)) ∷ [])) no_variable (braces 25 29 (value (int 27 1) ∷ [])) ∷ []

module _ {S H : Type 0} (table : Table S H) (host : H → List ℕ) where
  -- the map of the error of `kept_map`, with the source where there is one
  abbrev pub nope_map : (source_keys : List (List ℕ)) → (sources : List (Dynamic H)) → Dynamic H
  nope_map keys sources = plain (kind.Map {X1 = H} (
    codes "error" ∷ codes "line" ∷ codes "message" ∷ codes "position" ∷ keys,
    word (codes "ErrorVariableNotFound") ∷ integer 1 ∷ word (codes "ErrorVariableNotFound: nope") ∷ integer 7 ∷ sources,
  ))

  -- the map of an error that came out of the function `f`
  abbrev pub call_map : Dynamic H
  call_map = plain (kind.Map {X1 = H} (
    codes "error" ∷ codes "line" ∷ codes "message" ∷ codes "position" ∷ [],
    word (codes "ErrorInFunctionCall") ∷ integer 1 ∷ word (codes "ErrorInFunctionCall: f") ∷ integer 5 ∷ [],
  ))

  -- a local state with this source
  abbrev pub with_source : List ℕ → Local H → Local H
  with_source name l = record l { around = record l.around { source = Some name } }

  -- a local state with the variable `r` alone
  abbrev pub r_is : Dynamic H → Local H
  r_is v = nothing_but (entry (codes "r") v ∷ [])

  -- what `throw` raises, with a value and without
  pub record Throws : Type 0 where
    -- the value is flattened; without one it is `()`
    pub flattened : EndsOver table host (Some (integer 5)) throws_handle (Err (ErrorRuntime (integer 5) (column 1))) 2 []
    pub nothing : Fails table (usual host) throws_nothing (ErrorRuntime unit (column 1)) 1 []
    pub refused : Fails table (limited host 1) raised_again (ErrorTooManyOperations (column 7)) 1 []
    pub value_refused : Fails table (limited host 2) raised_again (ErrorTooManyOperations (column 13)) 2 []

  -- what a `try` catches, and what its branch finds
  pub record Tries : Type 0 where
    -- a value passes, and a branch that succeeds gives `()`
    pub passes : Returns table (usual host) no_error (integer 5) 3 []
    pub catches : Returns table (usual host) caught unit 5 []
    -- the catch variable has the value that was thrown, or a map of the error
    pub value : Ends table (usual host) (r_is unit) kept (Ok unit) 6 (r_is (integer 42))
    pub map_of_error : Ends table (usual host) (r_is unit) kept_map (Ok unit) 6 (r_is (nope_map [] []))
    pub with_a_source : Ends table (usual host) (with_source (codes "s") (r_is unit)) kept_map (Ok unit) 6
        (with_source (codes "s") (r_is (nope_map (codes "source" ∷ []) (word (codes "s") ∷ []))))
    -- `throw` without a value raises the caught error again, at its own position
    pub again : Fails table (usual host) raised_again (ErrorRuntime (integer 42) (column 27)) 4 []
    pub innermost : Fails table (usual host) inner_again (ErrorRuntime (integer 2) (column 51)) 7 []
    -- any other error of the branch passes, and the variable leaves the scope
    pub other : Fails table (usual host) branch_fails (ErrorVariableNotFound (codes "nope") (column 30)) 5 []
    -- the variable needs room, where its branch is empty too; that is no error that is caught
    pub taken_back : Returns table (with_room table host 1) empty_branch unit 3 []
    pub full : Fails table (with_room table host 0) empty_branch (ErrorTooManyVariables (column 25)) 3 []
    pub full_inside : Fails table (with_room table host 0) outer (ErrorTooManyVariables (column 31)) 4 []

  -- what passes through a `try`
  pub record TryEnds : Type 0 where
    -- a limit is not caught, in the body or in the branch
    pub body_cut : Fails table (limited host 4) endless_body (ErrorTooManyOperations (column 12)) 4 []
    pub branch_cut : Fails table (limited host 4) endless_branch (ErrorTooManyOperations (column 31)) 4 []
    pub branch_refused : Fails table (limited host 3) caught (ErrorTooManyOperations (column 31)) 3 []
    -- the ways out of loops and scripts pass
    pub breaks : Returns table (usual host) broken_body (integer 7) 4 []
    pub branch_breaks : Returns table (usual host) broken_branch (integer 7) 6 []
    pub returns : Ends table (usual host) (nothing_but []) returned (Ok (integer 5)) 3 (nothing_but [])
    -- a thrown `()` is seen through a handle, and behind a held cell it is none
    pub through : EndsFromFrames table (usual host) (one_cell table host (Some unit) []) (Fail (ErrorRuntime handle (column 9)))
        (CatchBranch (ErrorUnboundThis (column 2)) ∷ []) (Err (ErrorUnboundThis (column 9))) 0 (one_cell table host (Some unit) [])
    pub held : EndsFromFrames table (usual host) (one_cell table host None []) (Fail (ErrorRuntime handle (column 9)))
        (CatchBranch (ErrorUnboundThis (column 2)) ∷ []) (Err (ErrorRuntime handle (column 9))) 0 (one_cell table host None [])
    -- a value that was thrown is found inside of calls, and another error is told as that of the outermost call
    pub from_call : EndsFromFrames table (usual host) (r_is unit)
        (Fail (wrapped (codes "f") (wrapped (codes "g") (ErrorRuntime (integer 4) (column 9)) (column 7)) (column 5)))
        (TryBody (var 21 (codes "e")) keeping ∷ []) (Ok unit) 3 (r_is (integer 4))
    pub of_call : EndsFromFrames table (usual host) (r_is unit)
        (Fail (wrapped (codes "f") (ErrorUnboundThis (column 9)) (column 5)))
        (TryBody (var 21 (codes "e")) keeping ∷ []) (Ok unit) 3 (r_is call_map)
    -- a `()` that a called function throws comes wrapped, and raises nothing again
    pub in_call : EndsFromFrames table (usual host) (nothing_but []) (Fail (wrapped (codes "f") (ErrorRuntime unit (column 9)) (column 5)))
        (CatchBranch (ErrorUnboundThis (column 2)) ∷ []) (Err (wrapped (codes "f") (ErrorRuntime unit (column 9)) (column 5))) 0
        (nothing_but [])
