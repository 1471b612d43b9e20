-- Samples of arrays, maps and interpolated texts.
use Rattle.std.specs.Prelude.{ℕ, List, [], ◌∷◌, Some, Ok, Err, codes}
use Rattle.rhai_machine.specs.Types.{Dynamic, Expr, Stmt}
use Rattle.rhai_tree.specs.declared.expr.Expr.TheVariants as expr
use Rattle.rhai_tree.specs.declared.literal.Literal.TheVariants.{Unit}
use Rattle.rhai_values.specs.declared.base.value.Union.TheVariants as kind
use Rattle.rhai_values.specs.Copy.{plain}
use Rattle.rhai_errors.specs.declared.error.EvalAltResult.TheVariants.{ErrorDataTooLarge, ErrorVariableNotFound}
use Rattle.rhai_errors.specs.declared.error.EvalAltResult.TheVariants.{ErrorArithmetic, ErrorTooManyOperations}
use Rattle.rhai_errors.specs.Native.{Request, Missing, Gives, Faults, Named, request}
use Rattle.rhai_tree.specs.Position.{none}
use Rattle.rhai_machine.specs.language.Setting.{Setting}
use Rattle.rhai_machine_samples.specs.Trees.{column, int, var, value}
use Rattle.rhai_machine_samples.specs.Runs.{usual_limits, Table, Replies, EndsFrom, Fails, Returns, usual, integer}

-- a text literal at a column
abbrev pub text : (at : ℕ) → List ℕ → Expr
text c bytes = expr.StringConstant bytes (column c)

-- `[1, 2, 3]`
abbrev pub three_items : List Stmt
three_items = value (expr.Array (int 2 1 ∷ int 5 2 ∷ int 8 3 ∷ []) (column 1)) ∷ []

-- `[1, y]`
abbrev pub unknown_item : List Stmt
unknown_item = value (expr.Array (int 2 1 ∷ var 5 (codes "y") ∷ []) (column 1)) ∷ []

-- `#{b: 2, a: 1}`
abbrev pub two_entries : List Stmt
two_entries = value (expr.Map
    (record { key = codes "b"; value = int 6 2 } ∷ record { key = codes "a"; value = int 12 1 } ∷ [])
    (codes "a" ∷ codes "b" ∷ [], Unit ∷ Unit ∷ []) (column 1)) ∷ []

-- a text of the parts `a` and `b`
abbrev pub joined : List Stmt
joined = value (expr.InterpolatedString (text 2 (codes "a") ∷ text 5 (codes "b") ∷ []) (column 1)) ∷ []

-- `` `ab` ``
abbrev pub one_part : List Stmt
one_part = value (expr.InterpolatedString (text 2 (codes "ab") ∷ []) (column 1)) ∷ []

-- `` `n${1}` ``
abbrev pub printed : List Stmt
printed = value (expr.InterpolatedString (text 2 (codes "n") ∷ int 5 1 ∷ []) (column 1)) ∷ []

module _ {H : Type 0} where
  -- a text, which may be written
  abbrev pub word : List ℕ → Dynamic H
  word bytes = plain (kind.Str bytes)

  -- the one call of `printed`
  abbrev pub one_printed : List (Request H)
  one_printed = request [] (Named (codes "to_string")) (Some (integer 1)) [] (column 5) ∷ []

  -- the usual setting under a limit on the bytes of texts
  abbrev pub short_texts : (H → List ℕ) → ℕ → Setting H
  short_texts host limit = record (usual host) { limits = record usual_limits { max_string_size = limit } }

module _ {S H : Type 0} (table : Table S H) (host : H → List ℕ) where
  -- an array of literals, and one with a name that is unknown
  pub record Arrays : Type 0 where
    pub made : Returns table (usual host) three_items (plain (kind.Array (integer 1 ∷ integer 2 ∷ integer 3 ∷ []))) 5 []
    pub unknown : Fails table (usual host) unknown_item (ErrorVariableNotFound (codes "y") (column 5)) 4 []

  -- a map whose keys are written in another order than they stand in
  pub record Maps : Type 0 where
    -- the entries are evaluated as they are written, and stand in the order of their keys
    pub made : Returns table (usual host) two_entries
        (plain (kind.Map (codes "a" ∷ codes "b" ∷ [], integer 1 ∷ integer 2 ∷ []))) 4 []

  -- texts of parts that are joined, and of one that is printed
  pub record Texts : Type 0 where
    -- texts are joined as they are
    pub joins : Returns table (usual host) joined (word (codes "ab")) 4 []
    -- a text that is too long with a part is refused where the part stands
    pub too_long : Fails table (short_texts host 1) one_part (ErrorDataTooLarge (codes "Length of string") (column 2)) 3 []
    -- anything else is printed by the native, and named by its type where that answers no text or an error
    pub prints : Replies table (Gives (word (codes "one"))) →
        EndsFrom table 0 (usual host) printed (Ok (word (codes "none"))) 5 [] one_printed
    pub names_missing : Replies table Missing → EndsFrom table 0 (usual host) printed (Ok (word (codes "ni64"))) 5 [] one_printed
    pub names_other : Replies table (Gives (integer 7)) → EndsFrom table 0 (usual host) printed (Ok (word (codes "ni64"))) 5 [] one_printed
    pub names_failed : Replies table (Faults (ErrorArithmetic (codes "no") none)) →
        EndsFrom table 0 (usual host) printed (Ok (word (codes "ni64"))) 5 [] one_printed
    -- an error of the system passes
    pub passes : Replies table (Faults (ErrorTooManyOperations none)) →
        EndsFrom table 0 (usual host) printed (Err (ErrorTooManyOperations (column 5))) 5 [] one_printed
