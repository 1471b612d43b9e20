-- Samples of natives: an operator that has no built-in for its operands is a call of the native of its name.
use Rattle.std.specs.Prelude.{ℕ, true, false, List, [], ◌∷◌, Some, Ok, Err, codes}
use Rattle.rhai_tree.specs.declared.expr.Expr.TheVariants as expr
use Rattle.rhai_machine.specs.Types.{Dynamic, Stmt}
use Rattle.rhai_tree.specs.declared.token.Token.TheVariants.{Plus}
use Rattle.rhai_tree.specs.Position.{none}
use Rattle.rhai_errors.specs.declared.error.EvalAltResult.TheVariants.{ErrorTooManyOperations, ErrorFunctionNotFound}
use Rattle.rhai_errors.specs.declared.error.EvalAltResult.TheVariants.{ErrorArithmetic, ErrorDataTooLarge, ErrorDotExpr}
use Rattle.rhai_errors.specs.declared.error.EvalAltResult.TheVariants.{ErrorIndexingType, Exit}
use Rattle.rhai_values.specs.declared.base.value.AccessMode.TheVariants.{ReadWrite}
use Rattle.rhai_values.specs.declared.base.value.Union.TheVariants.{Str}
use Rattle.rhai_machine.specs.language.Setting.{Setting}
use Rattle.rhai_errors.specs.Native.{Request, Missing, Gives, Faults, Named, request}
use Rattle.rhai_machine_samples.specs.Trees.{column, unqualified, int, bool, op, value}
use Rattle.rhai_machine_samples.specs.Runs.{usual_limits, Table, Replies, EndsScript, EndsFrom, Fails, usual, limited, integer, truth}
use Rattle.rhai_machine_samples.specs.Runs.{nothing_but}

-- `1 + true`
abbrev pub mixed_sum : List Stmt
mixed_sum = value (op 3 Plus (int 1 1 ∷ bool 5 true ∷ [])) ∷ []

-- `1 + true` made by hand, with another name under the operator
abbrev pub renamed_sum : List ℕ → List Stmt
renamed_sum name = value (expr.FnCall (record {
  namespace = unqualified;
  name = name;
  args = int 1 1 ∷ bool 5 true ∷ [];
  op_token = Some Plus;
  capture_parent_scope = false;
}) (column 3)) ∷ []

-- the one call of `renamed_sum`
abbrev pub sum_called : {H : Type 0} → List ℕ → List (Request H)
sum_called name = request [] (Named name) (Some (integer 1)) (truth true ∷ []) (column 3) ∷ []

-- the one call of `mixed_sum`
abbrev pub plus_called : {H : Type 0} → List (Request H)
plus_called = sum_called (codes "+")

-- a text of three bytes
abbrev pub abc : {H : Type 0} → Dynamic H
abc = record { value = Str (codes "abc"); mode = ReadWrite }

module _ {S H : Type 0} (table : Table S H) (host : H → List ℕ) where
  -- the usual setting under a limit on the bytes of texts
  abbrev pub short_texts : ℕ → Setting H
  short_texts limit = record (usual host) { limits = record usual_limits { max_string_size = limit } }

  -- what comes of each reply of a native
  pub record Called : Type 0 where
    -- where there is no such native the error names the operator and its operands' types
    pub missing : Replies table Missing → EndsFrom table 0 (usual host) mixed_sum
        (Err (ErrorFunctionNotFound (codes "+ (i64, bool)") (column 3))) 5 [] plus_called
    -- a getter's name is of a property that is not there, and an indexer's of values that do not go together
    pub no_property : Replies table Missing → EndsFrom table 0 (usual host) (renamed_sum (codes "get$a"))
        (Err (ErrorDotExpr (codes "a") (column 3))) 5 [] (sum_called (codes "get$a"))
    pub no_index : Replies table Missing → EndsFrom table 0 (usual host) (renamed_sum (codes "index$get$"))
        (Err (ErrorIndexingType (codes "i64 [bool]") (column 3))) 5 [] (sum_called (codes "index$get$"))
    -- what a native gives is the value
    pub gives : Replies table (Gives (integer 7)) → EndsFrom table 0 (usual host) mixed_sum (Ok (integer 7)) 5 [] plus_called
    -- a fault without a position stands at the operator, and one with a position where it says
    pub faults : Replies table (Faults (ErrorArithmetic (codes "no") none)) →
        EndsFrom table 0 (usual host) mixed_sum (Err (ErrorArithmetic (codes "no") (column 3))) 5 [] plus_called
    pub placed : Replies table (Faults (ErrorArithmetic (codes "no") (column 9))) →
        EndsFrom table 0 (usual host) mixed_sum (Err (ErrorArithmetic (codes "no") (column 9))) 5 [] plus_called
    -- a value is measured where the call stands
    pub fits : Replies table (Gives abc) → EndsFrom table 0 (short_texts 3) mixed_sum (Ok abc) 5 [] plus_called
    pub too_long : Replies table (Gives abc) → EndsFrom table 0 (short_texts 2) mixed_sum
        (Err (ErrorDataTooLarge (codes "Length of string") (column 3))) 5 [] plus_called
    -- an exit ends the script with its error, or with its value where that is asked
    pub exits : Replies table (Faults (Exit (integer 7) (column 9))) →
        EndsScript table (usual host) false mixed_sum 0 (nothing_but []) (Err (Exit (integer 7) (column 9))) 5 (nothing_but []) plus_called
    pub exits_with_value : Replies table (Faults (Exit (integer 7) (column 9))) →
        EndsScript table (usual host) true mixed_sum 0 (nothing_but []) (Ok (integer 7)) 5 (nothing_but []) plus_called
    -- the call is charged before the native, which is then not called
    pub refused : Fails table (limited host 4) mixed_sum (ErrorTooManyOperations (column 3)) 4 []
