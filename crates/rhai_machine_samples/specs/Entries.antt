-- Samples of chains: the entries of maps, read and assigned to, and where a chain stops.
use Rattle.std.specs.Prelude.{ℕ, true, List, [], ◌∷◌, Some, None, Err, codes}
use Rattle.rhai_machine.specs.Types.{Dynamic, Expr, Stmt}
use Rattle.rhai_tree.specs.declared.token.Token.TheVariants.{Plus}
use Rattle.rhai_values.specs.declared.base.value.AccessMode.TheVariants.{ReadOnly}
use Rattle.rhai_values.specs.declared.base.value.Union.TheVariants as kind
use Rattle.rhai_values.specs.Copy.{plain}
use Rattle.rhai_errors.specs.declared.error.EvalAltResult.TheVariants.{ErrorAssignmentToConstant}
use Rattle.rhai_errors.specs.declared.error.EvalAltResult.TheVariants.{ErrorPropertyNotFound}
use Rattle.rhai_errors.specs.declared.error.EvalAltResult.TheVariants.{ErrorDataTooLarge}
use Rattle.rhai_machine_samples.specs.Trees.{column, int, var, value, assign}
use Rattle.rhai_machine_samples.specs.Runs.{Table, usual, usual_limits, integer, fixed}
use Rattle.rhai_machine_samples.specs.Runs.{unit}
use Rattle.rhai_machine_samples.specs.Data.{text}
use Rattle.rhai_machine_samples.specs.Items.{dot, index, property, safe_dot, Over, Reads, Refuses, Sets}

-- `m.k`, as an expression, with this name for `k`
abbrev pub entry_named : List ℕ → Expr
entry_named name = dot 2 (var 1 (codes "m")) (property 3 name)

-- `m.k`, with this name for `k`
abbrev pub entry_read : List ℕ → List Stmt
entry_read name = value (entry_named name) ∷ []

-- `m["k"]`
abbrev pub entry_by_text : List Stmt
entry_by_text = value (index 2 (var 1 (codes "m")) (text 3 (codes "k"))) ∷ []

-- `m.k.j`, as an expression
abbrev pub inner_entry : Expr
inner_entry = dot 2 (var 1 (codes "m")) (dot 4 (property 3 (codes "k")) (property 5 (codes "j")))

-- `m.k.j`
abbrev pub entry_of_entry : List Stmt
entry_of_entry = value inner_entry ∷ []

-- `m.j?.k`
abbrev pub safe_inner : Expr
safe_inner = dot 2 (var 1 (codes "m")) (safe_dot 4 (property 3 (codes "j")) (property 6 (codes "k")))

-- `m.j = 5`
abbrev pub entry_set : List Stmt
entry_set = assign 5 None (entry_named (codes "j")) (int 7 5) ∷ []

-- `m.k += 1`
abbrev pub entry_raised : List Stmt
entry_raised = assign 5 (Some Plus) (entry_named (codes "k")) (int 8 1) ∷ []

-- `m?.k`, as an expression
abbrev pub safe_entry : Expr
safe_entry = safe_dot 2 (var 1 (codes "m")) (property 4 (codes "k"))

-- `m?.k`
abbrev pub safe_read : List Stmt
safe_read = value safe_entry ∷ []

-- `m?.k = 5`
abbrev pub safe_set : List Stmt
safe_set = assign 6 None safe_entry (int 8 5) ∷ []

module _ {H : Type 0} where
  -- a map that has this under `k`
  abbrev pub k_map : Dynamic H → Dynamic H
  k_map v = plain (kind.Map (codes "k" ∷ [], v ∷ []))

  -- `#{k: 1}`, of which neither the map nor its value may be written
  abbrev pub fixed_map : Dynamic H
  fixed_map = record { value = kind.Map (codes "k" ∷ [], fixed 1 ∷ []); mode = ReadOnly }

module _ {S H : Type 0} (table : Table S H) (host : H → List ℕ) where
  -- entries of maps, read and assigned to, and where a chain stops
  pub record Entries : Type 0 where
    pub read : Reads table host (codes "m") (k_map (integer 1)) (entry_read (codes "k")) (integer 1) 4
    pub by_text : Reads table host (codes "m") (k_map (integer 1)) entry_by_text (integer 1) 4
    pub inner : Reads table host (codes "m") (k_map (plain (kind.Map (codes "j" ∷ [], integer 2 ∷ [])))) entry_of_entry (integer 2) 7
    -- a key that is missing reads as `()`, unless the engine fails on it
    pub missing : Reads table host (codes "m") (k_map (integer 1)) (entry_read (codes "j")) unit 4
    pub fails : Over table host (record (usual host) { offer = record (usual host).offer { fail_on_invalid_map_property = true } })
        (codes "m")
        (k_map (integer 1)) (entry_read (codes "j")) (Err (ErrorPropertyNotFound (codes "j") (column 3))) 4 (k_map (integer 1))
    -- an assignment inserts it
    pub inserted : Sets table host (codes "m") (k_map (integer 1)) entry_set 4
        (plain (kind.Map (codes "j" ∷ codes "k" ∷ [], integer 5 ∷ integer 1 ∷ [])))
    pub raised : Sets table host (codes "m") (k_map (integer 1)) entry_raised 4 (k_map (integer 2))
    -- a constant gets no new key
    pub constant : Refuses table host (codes "m") fixed_map entry_set (ErrorAssignmentToConstant (codes "m") (column 1)) 4
    -- a null conditional stops at `()`, and what would be assigned is dropped
    pub safe : Reads table host (codes "m") (k_map (integer 1)) safe_read (integer 1) 4
    pub stops : Reads table host (codes "m") unit safe_read unit 3
    pub stops_inside : Reads table host (codes "m") (k_map (integer 1)) (value safe_inner ∷ []) unit 6
    pub drops : Sets table host (codes "m") unit safe_set 3 unit
    -- a map is measured with its new entry, which stays
    pub full : Over table host (record (usual host) { limits = record usual_limits { max_map_size = 1 } }) (codes "m") (k_map (integer 1))
        entry_set
        (Err (ErrorDataTooLarge (codes "Size of object map") (column 5))) 4
        (plain (kind.Map (codes "j" ∷ codes "k" ∷ [], integer 5 ∷ integer 1 ∷ [])))
