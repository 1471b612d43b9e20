-- A variable that is the handle of a cell, which is written through it.
use Rattle.std.proofs.Common.{◌≡◌, ◌∙◌, ℕ, Bool, false, true, List, Option, Some, None, Result, refl, ap, subst, is_some}
use Rattle.std.specs.Option.{option_map}
use Rattle.std.specs.Prelude.{slice_get}
use Rattle.rhai_tree.specs.declared.position.Position.{Position}
use Rattle.rhai_values.specs.Cells.{value_of_cell, with_value}
use Rattle.rhai_values.specs.declared.base.value.CellId.{CellId}
use Rattle.rhai_values.specs.declared.base.value.Dynamic.{Dynamic}
use Rattle.rhai_values.specs.declared.base.value.Union.{Union}
use Rattle.rhai_values.specs.declared.base.value.Union.TheVariants as value
use Rattle.rhai_errors.specs.declared.error.EvalAltResult.{EvalAltResult}
use Rattle.rhai_errors.specs.declared.error.EvalAltResult.TheVariants as error
use Rattle.rhai_state.specs.declared.scope.ScopeEntry.{ScopeEntry}
use Rattle.rhai_errors.specs.Errors.{is_out_of_memory}
use Rattle.rhai_state.specs.Scope.{value_of}
use Rattle.rhai_machine.specs.language.State.{Local}
use Rattle.rhai_machine.specs.language.Walks.{place_by, place_of_entry, shared_place}
use Rattle.rhai_context.specs.Ends.{came, error_in}
use Rattle.rhai_stmt.specs.Variables.{Wrote, cell_in, seen_as}

module _ {H : Type 0} (entries : List (ScopeEntry H)) (cells later : List (Option (Dynamic H))) (v : Dynamic H) (l : Local H)
    (name : List ℕ) (at : Position) (index : ℕ) (done : Bool) (e : Option (EvalAltResult H)) where
  -- what the writing of a cell said of it
  pub record Told (number : ℕ) (there : Option (Dynamic H)) : Type 0 where
    pub known : done ≡ true → is_some there ≡ true
    pub wrote : done ≡ true → later ≡ with_value cells number v
    pub held : done ≡ false → there ≡ None
    pub told : done ≡ false → is_out_of_memory (error_in e) ≡ false → error_in e ≡ error.ErrorDataRace name at

module _ {H : Type 0} (entries : List (ScopeEntry H)) (cells later : List (Option (Dynamic H))) (v : Dynamic H) (l : Local H)
    (name : List ℕ) (at : Position) (index : ℕ) (e : Option (EvalAltResult H)) where
  wrote_through : (done : Bool) (number : ℕ) (there : Option (Dynamic H)) → Told entries cells later v l name at index done e number there →
      Wrote (came done tt e) (shared_place name at number there) v (seen_as entries cells l) entries later
  wrote_through true number (Some x) told = rw (told.wrote refl) refl
  wrote_through true number None told = let not : false ≡ true = told.known refl in cc
  wrote_through false number None told = told.told refl
  wrote_through false number (Some x) told = let not : Some x ≡ None = told.held refl in cc

  wrote_by : (done : Bool) (u : Union H) (id : CellId) → cell_in u ≡ Some id →
      Told entries cells later v l name at index done e id.number (value_of_cell cells id.number) →
      Wrote (came done tt e) (place_by cells name at index (Some u)) v (seen_as entries cells l) entries later
  wrote_by done (value.Cell other) id is told =
      let same : other ≡ id = cc in rw same (wrote_through done id.number (value_of_cell cells id.number) told)
  wrote_by done _ id is told = cc

  -- the variable of an entry that is a handle is written through its cell, or the cell is held
  pub wrote_in_cell : (done : Bool) (old : Dynamic H) (id : CellId) → option_map value_of (slice_get entries index) ≡ Some old →
      cell_in old.value ≡ Some id → Told entries cells later v l name at index done e id.number (value_of_cell cells id.number) →
      seen_as entries cells l ≡ l → Wrote (came done tt e) (place_of_entry name at index l) v l entries later
  wrote_in_cell done old id stands is told same =
      subst (λ m. Wrote (came done tt e) (place_of_entry name at index m) v m entries later) same
      (rw stands (wrote_by done old.value id is told))
