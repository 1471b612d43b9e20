-- Samples of chains: methods, and the parts of texts and integers.
use Rattle.std.specs.Prelude.{◌≡◌, ℕ, true, false, List, [], ◌∷◌, Some, None, Ok, Err, codes}
use Rattle.rhai_machine.specs.Types.{Dynamic, Expr, Stmt}
use Rattle.rhai_tree.specs.declared.expr.Expr.TheVariants as expr
use Rattle.rhai_values.specs.declared.base.value.AccessMode.TheVariants.{ReadOnly}
use Rattle.rhai_values.specs.declared.base.value.FnPtr.{roll-FnPtr}
use Rattle.rhai_values.specs.declared.base.value.FnPtrKind.TheVariants as leads
use Rattle.rhai_values.specs.declared.base.value.Union.TheVariants as kind
use Rattle.rhai_values.specs.Copy.{plain}
use Rattle.rhai_errors.specs.declared.error.EvalAltResult.TheVariants.{ErrorAssignmentToConstant, ErrorDataRace, ErrorMismatchDataType}
use Rattle.rhai_errors.specs.declared.error.EvalAltResult.TheVariants.{ErrorTooManyOperations}
use Rattle.rhai_errors.specs.Native.{Request, Purity, Gives, Named, OfName, request}
use Rattle.rhai_machine_samples.specs.Trees.{column, int, bool, var, value, assign}
use Rattle.rhai_machine_samples.specs.Runs.{Table, Answers, IsImpure, EndsScript, usual, limited, integer, truth}
use Rattle.rhai_machine_samples.specs.Data.{word}
use Rattle.rhai_machine_samples.specs.Calls.{named}
use Rattle.rhai_machine_samples.specs.Handles.{handle, one_cell, EndsOver}
use Rattle.rhai_machine_samples.specs.Items.{Reads, Refuses, Sets, array, dot, index, property}
use Rattle.rhai_machine_samples.specs.Members.{Calls, OnX}

-- ---- methods

-- a method as a link, at a column
abbrev pub method_call : (at : ℕ) → List ℕ → List Expr → Expr
method_call c name args = expr.MethodCall (named false name args) (column c)

-- `x.m(..)`, with this name for `x`
abbrev pub m_of : List ℕ → List Expr → Expr
m_of name args = dot 2 (var 1 name) (method_call 3 (codes "m") args)

-- `x.m().n()`
abbrev pub n_of_m : Expr
n_of_m = dot 2 (var 1 (codes "x")) (dot 6 (method_call 3 (codes "m") []) (method_call 7 (codes "n") []))

-- `a[0].m()`, with this name for `a`
abbrev pub m_of_first : List ℕ → Expr
m_of_first name = index 2 (var 1 name) (dot 5 (int 3 0) (method_call 6 (codes "m") []))

-- `h.is_shared()`
abbrev pub is_shared : List Stmt
is_shared = value (dot 2 (var 1 (codes "h")) (method_call 3 (codes "is_shared") [])) ∷ []

-- `h.call()`
abbrev pub call_of_handle : Expr
call_of_handle = dot 2 (var 1 (codes "h")) (method_call 3 (codes "call") [])

-- `h.f()`
abbrev pub f_of_handle : Expr
f_of_handle = dot 2 (var 1 (codes "h")) (method_call 3 (codes "f") [])

-- `h.p`
abbrev pub p_of_handle : Expr
p_of_handle = dot 2 (var 1 (codes "h")) (property 3 (codes "p"))

-- ---- parts

-- `s[..]`, with this index
abbrev pub part_by : Expr → Expr
part_by at = index 2 (var 1 (codes "s")) at

-- `s[..] = ..`, with this index and this value
abbrev pub part_set : (at : ℕ) → Expr → List Stmt
part_set at new = assign 6 None (part_by (int 3 at)) new ∷ []

-- `s[1]`
abbrev pub part_read : List Stmt
part_read = value (part_by (int 3 1)) ∷ []

-- `'x'`
abbrev pub x_char : Expr
x_char = expr.CharConstant 120 (column 8)

module _ {H : Type 0} where
  -- a character, which may be written
  abbrev pub char : ℕ → Dynamic H
  char c = plain (kind.Char c)

  -- a call of a method without arguments, on this value
  abbrev pub asked : List ℕ → Dynamic H → (at : ℕ) → Request H
  asked name v c = request [] (Named name) (Some v) [] (column c)

  -- the call of the method `m` on 1, with the argument 4
  abbrev pub m_with : Request H
  m_with = request [] (Named (codes "m")) (Some (integer 1)) (integer 4 ∷ []) (column 3)

  -- the call of the method `m` on the value of the only cell, while that is held
  abbrev pub m_in_cell : Request H
  m_in_cell = request (None ∷ []) (Named (codes "m")) (Some (integer 1)) [] (column 3)

  -- the call of the getter of `p` on the value of the only cell, while that is held
  abbrev pub p_in_cell : Request H
  p_in_cell = request (None ∷ []) (Named (codes "get$p")) (Some (integer 1)) [] (column 3)

  -- a pointer by the name `g` that has the handle of the only cell already
  abbrev pub handle_pointer : Dynamic H
  handle_pointer = plain (kind.FnPtr {X1 = H} (roll-FnPtr H (record { name = codes "g"; curry = handle ∷ []; kind = leads.Name })))

  -- a map with the handle of the only cell under `f`
  abbrev pub handle_map : Dynamic H
  handle_map = plain (kind.Map (codes "f" ∷ [], handle ∷ []))

  -- `"ab"`, which may not be written
  abbrev pub fixed_text : Dynamic H
  fixed_text = record { value = kind.Str (codes "ab"); mode = ReadOnly }

-- the question whether the native `m` is pure, on this type
abbrev pub m_on : (type : List ℕ) → (count : ℕ) → Purity
m_on type count = OfName (codes "m") type count

module _ {S H : Type 0} (table : Table S H) (host : H → List ℕ) where
  -- methods at the end of a chain, and on its way
  pub record MethodChains : Type 0 where
    -- a method may change the variable that it is called on
    pub called : IsImpure table (m_on (codes "i64") 1) → Answers table (asked (codes "m") (integer 1) 3) (Gives (integer 7)) (integer 2) →
        OnX table host (integer 1) (value (m_of (codes "x") []) ∷ []) (Ok (integer 7)) 4 (integer 2) (asked (codes "m") (integer 1) 3 ∷ [])
    -- where it has arguments what stands behind the operator is charged, and each of them
    pub with_argument : IsImpure table (m_on (codes "i64") 2) → Answers table m_with (Gives (integer 7)) (integer 2) →
        OnX table host (integer 1) (value (m_of (codes "x") (int 5 4 ∷ [])) ∷ []) (Ok (integer 7)) 6 (integer 2) (m_with ∷ [])
    -- the chain goes on from its value
    pub goes_on : IsImpure table (m_on (codes "i64") 1) → IsImpure table (OfName (codes "n") (codes "i64") 1) →
        Answers table (asked (codes "m") (integer 1) 3) (Gives (integer 7)) (integer 2) →
        Answers table (asked (codes "n") (integer 7) 7) (Gives (integer 8)) (integer 9) →
        OnX table host (integer 1) (value n_of_m ∷ []) (Ok (integer 8)) 7 (integer 2)
        (asked (codes "n") (integer 7) 7 ∷ asked (codes "m") (integer 1) 3 ∷ [])
    -- an item is changed where it stands
    pub of_item : IsImpure table (m_on (codes "i64") 1) → Answers table (asked (codes "m") (integer 1) 6) (Gives (integer 7)) (integer 2) →
        Calls table host (usual host) (codes "a") (array (integer 1 ∷ [])) (value (m_of_first (codes "a")) ∷ []) (Ok (integer 7)) 8
        (array (integer 2 ∷ [])) (asked (codes "m") (integer 1) 6 ∷ [])
    -- a charge that is refused on the way leaves all as it was
    pub cut : Calls table host (limited host 7) (codes "a") (array (integer 1 ∷ [])) (value (m_of_first (codes "a")) ∷ [])
        (Err (ErrorTooManyOperations (column 6))) 7 (array (integer 1 ∷ [])) []
    -- a handle is shared, and a method is called on its cell's value
    pub shared : EndsOver table host (Some (integer 1)) is_shared (Ok (truth true)) 3 []
    pub of_handle : IsImpure table (m_on (codes "i64") 1) → Answers table m_in_cell (Gives (integer 7)) (integer 2) →
        EndsScript table (usual host) false (value (m_of (codes "h") []) ∷ []) 0 (one_cell table host (Some (integer 1)) [])
        (Ok (integer 7)) 4 (one_cell table host (Some (integer 2)) []) (m_in_cell ∷ [])
    -- the cell is held while a method works on its value: so a pointer there that is called with the handle races, and so does a map there
    -- whose own entry is the handle
    pub own_argument : EndsOver table host (Some handle_pointer) (value call_of_handle ∷ [])
        (Err (ErrorDataRace (codes "g") (column 3))) 3 []
    pub own_entry : EndsOver table host (Some handle_map) (value f_of_handle ∷ []) (Err (ErrorDataRace [] (column 3))) 3 []
    -- so is its property got
    pub property_of_handle : Answers table p_in_cell (Gives (integer 7)) (integer 9) →
        EndsScript table (usual host) false (value p_of_handle ∷ []) 0 (one_cell table host (Some (integer 1)) [])
        (Ok (integer 7)) 4 (one_cell table host (Some (integer 9)) []) (p_in_cell ∷ [])

  -- characters of texts and bits of integers, read and put back
  pub record Parts : Type 0 where
    -- a character of a text is read and put back, where it is one
    pub char_read : Reads table host (codes "s") (word (codes "ab")) part_read (char 98) 4
    pub char_set : Sets table host (codes "s") (word (codes "ab")) (part_set 0 x_char) 4 (word (codes "xb"))
    pub no_char : Refuses table host (codes "s") (word (codes "ab")) (part_set 0 (int 8 5))
        (ErrorMismatchDataType (record { wanted = codes "char"; found = codes "i64" }) (column 6)) 4
    pub constant : Refuses table host (codes "s") fixed_text (part_set 0 x_char) (ErrorAssignmentToConstant (codes "s") (column 1)) 4
    -- and so is a bit of an integer
    pub bit_read : Reads table host (codes "s") (integer 2) part_read (truth true) 4
    pub bit_set : Sets table host (codes "s") (integer 0) (part_set 1 (bool 8 true)) 4 (integer 2)
    -- a method that may have changed a part puts it back, where it stands
    pub method : IsImpure table (m_on (codes "char") 1) → Answers table (asked (codes "m") (char 97) 6) (Gives (integer 7)) (char 120) →
        Calls table host (usual host) (codes "s") (word (codes "ab")) (value (m_of_first (codes "s")) ∷ []) (Ok (integer 7)) 8
        (word (codes "xb")) (asked (codes "m") (char 97) 6 ∷ [])
    pub pure_method : table.natives.pure table.state (m_on (codes "char") 1) ≡ true →
        Answers table (asked (codes "m") (char 97) 6) (Gives (integer 7)) (char 120) →
        Calls table host (usual host) (codes "s") (word (codes "ab")) (value (m_of_first (codes "s")) ∷ []) (Ok (integer 7)) 8
        (word (codes "ab")) (asked (codes "m") (char 97) 6 ∷ [])
    pub lost_char : IsImpure table (m_on (codes "char") 1) → Answers table (asked (codes "m") (char 97) 6) (Gives (integer 7)) (integer 2) →
        Calls table host (usual host) (codes "s") (word (codes "ab")) (value (m_of_first (codes "s")) ∷ [])
        (Err (ErrorMismatchDataType (record { wanted = codes "char"; found = codes "i64" }) (column 6))) 8 (word (codes "ab"))
        (asked (codes "m") (char 97) 6 ∷ [])
