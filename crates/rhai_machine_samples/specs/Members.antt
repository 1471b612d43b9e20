-- Samples of chains: members that natives get and set.
use Rattle.std.specs.Prelude.{◌≡◌, ℕ, true, false, List, [], ◌∷◌, Some, None, Result, Ok, Err, codes}
use Rattle.rhai_machine.specs.Types.{Dynamic, EvalAltResult, Expr, Stmt}
use Rattle.rhai_tree.specs.declared.token.Token.TheVariants.{Plus}
use Rattle.rhai_errors.specs.declared.error.EvalAltResult.TheVariants.{ErrorArithmetic, ErrorAssignmentToConstant, ErrorDotExpr}
use Rattle.rhai_errors.specs.declared.error.EvalAltResult.TheVariants.{ErrorIndexingType}
use Rattle.rhai_errors.specs.declared.error.EvalAltResult.TheVariants.{ErrorNonPureMethodCallOnConstant}
use Rattle.rhai_errors.specs.declared.error.EvalAltResult.TheVariants.{ErrorTooManyOperations}
use Rattle.rhai_errors.specs.Native.{Request, Purity, Missing, Gives, Faults, Named, OfName, request}
use Rattle.rhai_tree.specs.Position.{none}
use Rattle.rhai_machine.specs.language.Setting.{Setting}
use Rattle.rhai_machine_samples.specs.Trees.{column, int, bool, var, value, assign}
use Rattle.rhai_machine_samples.specs.Runs.{Table, Answers, Replies, IsImpure, EndsScript, usual, limited, nothing_but, entry}
use Rattle.rhai_machine_samples.specs.Runs.{integer, fixed, truth, unit}
use Rattle.rhai_machine_samples.specs.Data.{text, word}
use Rattle.rhai_machine_samples.specs.Items.{array, dot, index, item_by, property}
use Rattle.rhai_machine_samples.specs.Entries.{k_map}

-- `x.p`, as an expression
abbrev pub p_of_x : Expr
p_of_x = dot 2 (var 1 (codes "x")) (property 3 (codes "p"))

-- `x.p.q`, as an expression
abbrev pub q_of_p : Expr
q_of_p = dot 2 (var 1 (codes "x")) (dot 4 (property 3 (codes "p")) (property 5 (codes "q")))

-- `x[1]`, as an expression
abbrev pub item_of_x : Expr
item_of_x = index 2 (var 1 (codes "x")) (int 3 1)

-- `x[1].q`, as an expression
abbrev pub q_of_item : Expr
q_of_item = index 2 (var 1 (codes "x")) (dot 5 (int 3 1) (property 6 (codes "q")))

-- `x.p`
abbrev pub p_read : List Stmt
p_read = value p_of_x ∷ []

-- `x.p = 5`
abbrev pub p_set : List Stmt
p_set = assign 5 None p_of_x (int 7 5) ∷ []

-- `x.p += 2`
abbrev pub p_raised : List Stmt
p_raised = assign 5 (Some Plus) p_of_x (int 8 2) ∷ []

-- `x.p.q = 5`
abbrev pub q_set : List Stmt
q_set = assign 7 None q_of_p (int 9 5) ∷ []

-- `x[1]`
abbrev pub item_read : List Stmt
item_read = value item_of_x ∷ []

-- `x[1] = 5`
abbrev pub item_set : List Stmt
item_set = assign 6 None item_of_x (int 8 5) ∷ []

-- `x[1] += 5`
abbrev pub item_raised : List Stmt
item_raised = assign 6 (Some Plus) item_of_x (int 9 5) ∷ []

-- `a[0] += true`
abbrev pub item_mixed : List Stmt
item_mixed = assign 6 (Some Plus) (item_by (int 3 0)) (bool 9 true) ∷ []

-- `m["j"].k`, as an expression
abbrev pub of_missing : Expr
of_missing = index 2 (var 1 (codes "m")) (dot 7 (text 3 (codes "j")) (property 8 (codes "k")))

-- `m["j"].k = 5`
abbrev pub of_missing_set : List Stmt
of_missing_set = assign 10 None of_missing (int 12 5) ∷ []

-- `x[1].q = 5`
abbrev pub q_of_item_set : List Stmt
q_of_item_set = assign 8 None q_of_item (int 10 5) ∷ []

module _ {H : Type 0} where
  -- the call of the getter of `x.p`, where `x` is 1
  abbrev pub get_p : Request H
  get_p = request [] (Named (codes "get$p")) (Some (integer 1)) [] (column 3)

  -- the call of the indexer that gets `x.p`, where `x` is 1
  abbrev pub index_get_p : Request H
  index_get_p = request [] (Named (codes "index$get$")) (Some (integer 1)) (word (codes "p") ∷ []) (column 2)

  -- the call of the setter of `x.p` with this value, where `x` is 1
  abbrev pub set_p : Dynamic H → Request H
  set_p v = request [] (Named (codes "set$p")) (Some (integer 1)) (v ∷ []) (column 3)

  -- the call of the indexer that sets `x.p` to this value, where `x` is 1
  abbrev pub index_set_p : Dynamic H → Request H
  index_set_p v = request [] (Named (codes "index$set$")) (Some (integer 1)) (word (codes "p") ∷ v ∷ []) (column 2)

  -- the call of the setter of `q` with 5, on this value
  abbrev pub set_q_of : (at : ℕ) → Dynamic H → Request H
  set_q_of c v = request [] (Named (codes "set$q")) (Some v) (integer 5 ∷ []) (column c)

  -- the call of the setter of `q` with 5, on 7
  abbrev pub set_q : (at : ℕ) → Request H
  set_q c = set_q_of c (integer 7)

  -- the call of `+=` by `item_mixed`, on the item 1
  abbrev pub plus_item : Request H
  plus_item = request [] (Named (codes "+=")) (Some (integer 1)) (truth true ∷ []) (column 6)

  -- the call of the setter of `k` with 5, on the `()` of a missing key
  abbrev pub set_k : Request H
  set_k = request [] (Named (codes "set$k")) (Some unit) (integer 5 ∷ []) (column 8)

  -- the call of the indexer that sets the missing key `j` of a map to 3
  abbrev pub set_j : Request H
  set_j = request [] (Named (codes "index$set$")) (Some (k_map (integer 1))) (word (codes "j") ∷ integer 3 ∷ []) (column 2)

  -- the call of the indexer that gets `x[1]`, where `x` is true
  abbrev pub get_first : Request H
  get_first = request [] (Named (codes "index$get$")) (Some (truth true)) (integer 1 ∷ []) (column 2)

  -- the call of the indexer that sets `x[1]` to this value, where `x` is true
  abbrev pub set_first : Dynamic H → Request H
  set_first v = request [] (Named (codes "index$set$")) (Some (truth true)) (integer 1 ∷ v ∷ []) (column 2)

-- the question whether the getter of `p` is pure, on an integer
abbrev pub p_getter : Purity
p_getter = OfName (codes "get$p") (codes "i64") 1

-- the question whether the setter of `p` is pure, on an integer
abbrev pub p_setter : Purity
p_setter = OfName (codes "set$p") (codes "i64") 2

-- the question whether the setter of `q` is pure, on an integer
abbrev pub q_setter : Purity
q_setter = OfName (codes "set$q") (codes "i64") 2

-- the question whether the indexer that sets is pure, on an integer
abbrev pub p_indexer : Purity
p_indexer = OfName (codes "index$set$") (codes "i64") 3

-- the question whether the indexer that sets is pure, on a truth value
abbrev pub item_setter : Purity
item_setter = OfName (codes "index$set$") (codes "bool") 3

module _ {S H : Type 0} (table : Table S H) (host : H → List ℕ) where
  -- over a variable of this name the script comes to this result, leaves this count and the variable so, and makes these calls, the last
  -- one first
  abbrev pub Calls : Setting H → List ℕ → Dynamic H → List Stmt → Result (Dynamic H) (EvalAltResult H) → (count : ℕ) → Dynamic H →
      List (Request H) → Type 0
  Calls s name before script result count after calls = EndsScript table s false script 0 (nothing_but (entry name before ∷ [])) result
      count (nothing_but (entry name after ∷ [])) calls

  -- the script comes so to its result over the variable `x`, in the usual setting
  abbrev pub OnX : Dynamic H → List Stmt → Result (Dynamic H) (EvalAltResult H) → (count : ℕ) → Dynamic H → List (Request H) → Type 0
  OnX before script result count after calls = Calls (usual host) (codes "x") before script result count after calls

  -- properties that natives get and set
  pub record Members : Type 0 where
    -- a property is got by its getter, and what that leaves goes back
    pub got : Answers table get_p (Gives (integer 7)) (integer 9) → OnX (integer 1) p_read (Ok (integer 7)) 4 (integer 9) (get_p ∷ [])
    -- by the indexer where there is no getter, at the operator; where that is missing too the getter's error stands
    pub by_indexer : Answers table get_p Missing (integer 1) → Answers table index_get_p (Gives (integer 7)) (integer 1) →
        OnX (integer 1) p_read (Ok (integer 7)) 5 (integer 1) (index_get_p ∷ get_p ∷ [])
    pub nowhere : Replies table Missing →
        OnX (integer 1) p_read (Err (ErrorDotExpr (codes "p") (column 3))) 5 (integer 1) (index_get_p ∷ get_p ∷ [])
    -- it is set likewise
    pub set : IsImpure table p_setter → Answers table (set_p (integer 5)) (Gives unit) (integer 9) →
        OnX (integer 1) p_set (Ok unit) 4 (integer 9) (set_p (integer 5) ∷ [])
    pub set_by_indexer : IsImpure table p_setter → IsImpure table p_indexer → Answers table (set_p (integer 5)) Missing (integer 1) →
        Answers table (index_set_p (integer 5)) (Gives unit) (integer 9) →
        OnX (integer 1) p_set (Ok unit) 5 (integer 9) (index_set_p (integer 5) ∷ set_p (integer 5) ∷ [])
    pub set_nowhere : IsImpure table p_setter → IsImpure table p_indexer → Replies table Missing →
        OnX (integer 1) p_set (Err (ErrorDotExpr (codes "p") (column 3))) 5 (integer 1)
        (index_set_p (integer 5) ∷ set_p (integer 5) ∷ [])
    -- an operator works on what was got, which is set then
    pub raised : IsImpure table p_setter → Answers table get_p (Gives (integer 7)) (integer 1) →
        Answers table (set_p (integer 9)) (Gives unit) (integer 3) →
        OnX (integer 1) p_raised (Ok unit) 5 (integer 3) (set_p (integer 9) ∷ get_p ∷ [])
    -- a constant is kept from a getter and a setter that are not pure
    pub barred : IsImpure table p_getter →
        OnX (fixed 1) p_read (Err (ErrorNonPureMethodCallOnConstant (codes "get$p") (column 3))) 4 (fixed 1) []
    pub set_barred : IsImpure table p_setter →
        OnX (fixed 1) p_set (Err (ErrorNonPureMethodCallOnConstant (codes "set$p") (column 3))) 4 (fixed 1) []

  -- what a chain changed of a property's value, and the setter
  pub record SetBack : Type 0 where
    -- what a chain may have changed of a property's value is set back
    pub back : Answers table get_p (Gives (integer 7)) (integer 1) → IsImpure table q_setter →
        Answers table (set_q 5) (Gives unit) (integer 8) → IsImpure table p_setter →
        Answers table (set_p (integer 8)) (Gives unit) (integer 9) →
        OnX (integer 1) q_set (Ok unit) 8 (integer 9) (set_p (integer 8) ∷ set_q 5 ∷ get_p ∷ [])
    -- not after a native that is pure, nor after an error
    pub after_pure : Answers table get_p (Gives (integer 7)) (integer 1) → table.natives.pure table.state q_setter ≡ true →
        Answers table (set_q 5) (Gives unit) (integer 8) → OnX (integer 1) q_set (Ok unit) 7 (integer 1) (set_q 5 ∷ get_p ∷ [])
    pub failed : Answers table get_p (Gives (integer 7)) (integer 1) → IsImpure table q_setter →
        Answers table (set_q 5) (Faults (ErrorArithmetic (codes "no") none)) (integer 8) →
        OnX (integer 1) q_set (Err (ErrorArithmetic (codes "no") (column 5))) 7 (integer 1) (set_q 5 ∷ get_p ∷ [])
    -- that there is no setter and no indexer is ignored then
    pub ignored : Answers table get_p (Gives (integer 7)) (integer 1) → IsImpure table q_setter →
        Answers table (set_q 5) (Gives unit) (integer 8) → IsImpure table p_setter → IsImpure table p_indexer →
        Answers table (set_p (integer 8)) Missing (integer 1) → Answers table (index_set_p (integer 8)) Missing (integer 1) →
        OnX (integer 1) q_set (Ok unit) 9 (integer 1) (index_set_p (integer 8) ∷ set_p (integer 8) ∷ set_q 5 ∷ get_p ∷ [])
    -- a charge that is refused in the midst leaves the variable as it was
    pub cut : Answers table get_p (Gives (integer 7)) (integer 1) → IsImpure table q_setter →
        Answers table (set_q 5) (Gives unit) (integer 8) →
        Calls (limited host 7) (codes "x") (integer 1) q_set (Err (ErrorTooManyOperations (column 3))) 7 (integer 1) (set_q 5 ∷ get_p ∷ [])

  -- what natives are kept from, and what goes back of what they left
  pub record Guards : Type 0 where
    -- a value that a getter gave is kept as a constant's is, and one that an indexer gave is not
    pub of_getter : Answers table get_p (Gives (fixed 7)) (integer 1) → IsImpure table q_setter →
        OnX (integer 1) q_set (Err (ErrorNonPureMethodCallOnConstant (codes "set$q") (column 5))) 7 (integer 1) (get_p ∷ [])
    pub of_indexer : Answers table get_first (Gives (fixed 7)) (truth true) → table.natives.pure table.state q_setter ≡ false →
        Answers table (set_q_of 6 (fixed 7)) (Gives unit) (integer 8) → IsImpure table item_setter →
        Answers table (set_first (integer 8)) (Gives unit) (integer 9) →
        OnX (truth true) q_of_item_set (Ok unit) 10 (integer 9) (set_first (integer 8) ∷ set_q_of 6 (fixed 7) ∷ get_first ∷ [])
    -- an operator does not work on it, by the name of the root
    pub of_operator : Answers table get_p (Gives (fixed 7)) (integer 1) →
        OnX (integer 1) p_raised (Err (ErrorAssignmentToConstant (codes "x") (column 1))) 4 (integer 1) (get_p ∷ [])
    -- what a native of an operator left of an item stays after its fault
    pub faults : Answers table plus_item (Faults (ErrorArithmetic (codes "no") none)) (integer 9) →
        Calls (usual host) (codes "a") (array (integer 1 ∷ [])) item_mixed (Err (ErrorArithmetic (codes "no") (column 6))) 5
        (array (integer 9 ∷ [])) (plus_item ∷ [])
    -- a key that is missing is set by the indexer of maps, whose absence is ignored, and is not inserted
    pub missing_key : IsImpure table (OfName (codes "set$k") (codes "()") 2) → Answers table set_k (Gives unit) (integer 3) →
        IsImpure table (OfName (codes "index$set$") (codes "map") 3) → Answers table set_j Missing (k_map (integer 1)) →
        Calls (usual host) (codes "m") (k_map (integer 1)) of_missing_set (Ok unit) 9 (k_map (integer 1)) (set_j ∷ set_k ∷ [])

  -- items that natives get and set
  pub record Indexers : Type 0 where
    -- an item of a value that has none of its own is got and set by the indexer, at the operator
    pub got : Answers table get_first (Gives (integer 7)) (truth true) →
        OnX (truth true) item_read (Ok (integer 7)) 5 (truth true) (get_first ∷ [])
    pub nowhere : Replies table Missing →
        OnX (truth true) item_read (Err (ErrorIndexingType (codes "bool [i64]") (column 2))) 5 (truth true) (get_first ∷ [])
    pub set : IsImpure table item_setter → Answers table (set_first (integer 5)) (Gives unit) (integer 9) →
        OnX (truth true) item_set (Ok unit) 5 (integer 9) (set_first (integer 5) ∷ [])
    -- where none gets it, an operator's right side is set as it is
    pub raised : IsImpure table item_setter → Answers table get_first Missing (truth true) →
        Answers table (set_first (integer 5)) (Gives unit) (integer 9) →
        OnX (truth true) item_raised (Ok unit) 6 (integer 9) (set_first (integer 5) ∷ get_first ∷ [])
    -- what a chain may have changed of an item is set back
    pub back : Answers table get_first (Gives (integer 7)) (truth true) → IsImpure table q_setter →
        Answers table (set_q 6) (Gives unit) (integer 8) → IsImpure table item_setter →
        Answers table (set_first (integer 8)) (Gives unit) (integer 9) →
        OnX (truth true) q_of_item_set (Ok unit) 10 (integer 9) (set_first (integer 8) ∷ set_q 6 ∷ get_first ∷ [])
