-- What stands in values: handles of cells, script functions, and the numbers of tables of constants.
use Rattle.std.specs.Prelude.{ℕ, List, [], ◌∷◌, ◌++◌, Option, Some, None, flat_map}
use Rattle.rhai_tree.specs.declared.function.ScriptFuncDef.{ScriptFuncDef}
use Rattle.rhai_values.specs.declared.base.value.Dynamic.{Dynamic}
use Rattle.rhai_values.specs.declared.base.value.FnPtrKind.TheOpen as layer
use Rattle.rhai_values.specs.declared.base.value.FnPtrKind.TheFolds.{fold-Dynamic}

-- what a value may lead to outside itself: a cell, a script function, a table of constants
pub data Reached : Type 0 where
  Cell : ℕ → Reached
  Function : ScriptFuncDef → Reached
  Constants : ℕ → Reached

-- what stands in a state of a table, and in a value of the host's own type, as their author says
pub record Holdings (S H : Type 0) : Type 0 where
  pub of_state : S → List Reached
  pub of_host : H → List Reached

-- what stands in several, one after the other
abbrev pub each : List (List Reached) → List Reached
each held = flat_map (λ h. h) held

-- what stands in one that may be missing
abbrev pub maybe : Option (List Reached) → List Reached
maybe None = []
maybe (Some held) = held

-- `own` says what stands in a value of the host's own type
module _ {H : Type 0} (own : H → List Reached) where
  -- what stands in a value, from what stands in its items and in its pointer
  abbrev pub in_union : layer.Union-F H (List Reached) (List Reached) (List Reached) (List Reached) (List Reached) (List Reached)
      (List Reached) (List Reached) → List Reached
  in_union (layer.Array items) = each items
  in_union (layer.Map entries) = each entries.1
  in_union (layer.FnPtr pointer) = pointer
  in_union (layer.Host value) = own value
  in_union (layer.Cell id) = Cell id.number ∷ []
  in_union _ = []

  -- what stands in what a pointer leads to: a script's function, and what stands in its environment
  abbrev pub in_kind : layer.FnPtrKind-F H (List Reached) (List Reached) (List Reached) (List Reached) (List Reached) (List Reached)
      (List Reached) (List Reached) → List Reached
  in_kind (layer.Script def environ) = Function def ∷ maybe environ
  in_kind _ = []

  -- what stands in a value; an environment has modules and a table of constants, a module has constants, functions and modules
  abbrev pub contents_of : Dynamic H → List Reached
  contents_of = fold-Dynamic H (List Reached) (List Reached) (List Reached) (List Reached) (List Reached) (List Reached) (List Reached)
      (List Reached) in_kind in_union (λ d. d.value)
      (λ e. Constants e.constants ∷ (each e.lib ++ each e.imports))
      (λ p. each p.curry ++ p.kind)
      (λ i. i.module)
      (λ m. each m.constants.1 ++ (each m.functions ++ each m.sub_modules.1))
      (λ f. Function f.def ∷ maybe f.environ)

  -- what stands in a first argument, if there is one
  abbrev pub first_contents : Option (Dynamic H) → List Reached
  first_contents None = []
  first_contents (Some v) = contents_of v
