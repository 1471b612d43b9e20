-- What a variable means: at an entry it is the newest of its name, with the value that stands there.
use Rattle.std.proofs.Common.{refl, ap}
use Rattle.std.specs.Prelude.{◌≡◌, ℕ, List, [], ◌∷◌, Option, Some, None, Result, Ok, Err}
use Rattle.rhai_tree.specs.declared.position.Position.{Position}
use Rattle.rhai_values.specs.Cells.{value_of_cell}
use Rattle.rhai_values.specs.declared.base.value.Dynamic.{Dynamic}
use Rattle.rhai_values.specs.declared.base.value.Union.{Union}
use Rattle.rhai_values.specs.declared.base.value.Union.TheVariants as value
use Rattle.rhai_errors.specs.declared.error.EvalAltResult.{EvalAltResult}
use Rattle.rhai_state.specs.declared.scope.ScopeEntry.{ScopeEntry}
use Rattle.rhai_state.specs.Scope.{found, index_of, value_in}
use Rattle.rhai_machine.specs.language.Setting.{Globals}
use Rattle.rhai_machine.specs.language.State.{Surroundings}
use Rattle.rhai_machine.specs.language.Values.{Cells}
use Rattle.rhai_machine.specs.language.Variables.{Variable}
use Rattle.rhai_machine.specs.language.Names.{Meaning, AtEntry, AsTemporary, entered, looked_up, of_entry, temporary, entry_or, meant}
use Rattle.rhai_machine.specs.language.Names.{entry_named, meant_behind, value_behind, value_beside}

module _ {H : Type 0} where
  -- a value that is looked up is the variable's
  entered_same : (name : List ℕ) (at : Position) (v : Dynamic H) (there : Option (Dynamic H)) (w : Dynamic H) →
      entered name at v there ≡ Ok w → v ≡ w
  entered_same name at v (Some inner) w is = cc
  entered_same name at v None w is = cc

  pub looked_same : (cells : Cells H) (name : List ℕ) (at : Position) (u : Union H) (v w : Dynamic H) →
      looked_up cells name at u v ≡ Ok w → v ≡ w
  looked_same cells name at (value.Cell id) v w is = entered_same name at v (value_of_cell cells id.number) w is
  looked_same cells name at _ v w is = cc

  -- a temporary stands at no entry
  pub temporary_nowhere : (r : Result (Dynamic H) (EvalAltResult H)) (i : ℕ) (v : Dynamic H) → temporary r ≡ Ok (AtEntry i v) → ⊥
  temporary_nowhere (Ok w) i v is = cc
  temporary_nowhere (Err e) i v is = cc

  at_entry : (r : Result (Dynamic H) (EvalAltResult H)) (index i : ℕ) (v : Dynamic H) → of_entry index r ≡ Ok (AtEntry i v) →
      (index ≡ i) × (r ≡ Ok v)
  at_entry (Ok w) index i v is = (cc, cc)
  at_entry (Err e) index i v is = cc

  entry_is : (cells : Cells H) (name : List ℕ) (at : Position) (index : Option ℕ) (there : Option (Dynamic H))
      (r : Result (Dynamic H) (EvalAltResult H)) (i : ℕ) (v : Dynamic H) →
      entry_or cells name at index there (temporary r) ≡ Ok (AtEntry i v) →
      (index ≡ Some i) × (there ≡ Some v)
  entry_is cells name at (Some index) (Some w) r i v is =
      let parts = at_entry (looked_up cells name at w.value w) index i v is in
      (ap (λ (n : ℕ). Some n) parts.0, ap (λ (w : Dynamic H). Some w) (looked_same cells name at w.value w v parts.1))
  entry_is cells name at (Some index) None r i v is = absurd (temporary_nowhere r i v is)
  entry_is cells name at None there r i v is = absurd (temporary_nowhere r i v is)

  module _ (globals : Globals H) (around : Surroundings H) (scope : List (ScopeEntry H)) (i : ℕ) (v : Dynamic H) where
    behind_entry : (path : List (List ℕ)) (variable : Variable) → meant_behind globals around scope path variable ≡ Ok (AtEntry i v) →
        (index_of variable.name scope ≡ Some i) × (found variable.name scope ≡ Some v)
    behind_entry [] variable is = entry_is around.cells variable.name variable.at (index_of variable.name scope) (found variable.name scope)
        _ i v is
    behind_entry (root ∷ path) variable is = absurd (temporary_nowhere _ i v is)

    -- an entry that a variable means is the newest of its name, and this is its value
    pub meant_entry : (variable : Variable) → meant globals around scope variable ≡ Ok (AtEntry i v) →
        (index_of variable.name scope ≡ Some i) × (found variable.name scope ≡ Some v)
    meant_entry variable is = behind_entry variable.path.names variable is

  -- a variable whose entry is known means it, and one without means a temporary
  module _ (globals : Globals H) (around : Surroundings H) (scope : List (ScopeEntry H)) where
    meant_at_behind : (path : List (List ℕ)) (variable : Variable) (i : ℕ) (v : Dynamic H) → entry_named path variable.name scope ≡ Some i →
        value_in scope (Some i) ≡ Some v →
        meant_behind globals around scope path variable ≡ of_entry i (looked_up around.cells variable.name variable.at v.value v)
    meant_at_behind [] variable i v is there = rw (is, there) refl
    meant_at_behind (root ∷ path) variable i v is there = absurd (cc is)

    pub meant_at : (variable : Variable) (i : ℕ) (v : Dynamic H) → entry_named variable.path.names variable.name scope ≡ Some i →
        value_in scope (Some i) ≡ Some v →
        meant globals around scope variable ≡ of_entry i (looked_up around.cells variable.name variable.at v.value v)
    meant_at variable i v is there = meant_at_behind variable.path.names variable i v is there

    meant_beside_behind : (path : List (List ℕ)) (variable : Variable) → entry_named path variable.name scope ≡ None →
        meant_behind globals around scope path variable ≡ temporary (value_behind globals around path variable)
    meant_beside_behind [] variable is = rw is refl
    meant_beside_behind (root ∷ path) variable is = refl

    pub meant_beside : (variable : Variable) → entry_named variable.path.names variable.name scope ≡ None →
        meant globals around scope variable ≡ temporary (value_beside globals around variable)
    meant_beside variable is = meant_beside_behind variable.path.names variable is
