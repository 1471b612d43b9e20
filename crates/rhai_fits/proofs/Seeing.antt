-- Values as the rules look at them fit, and so do places that are written to.
use Rattle.std.proofs.Common.{ℕ, zero, suc, List, [], ◌∷◌}
use Rattle.std.specs.Prelude.{⊤, Bool, true, false, ◌||◌, Option, Some, None, Result, Ok, Err, slice_get}
use Rattle.std.specs.Option.{option_map}
use Rattle.rhai_machine.specs.Types.{Dynamic, EvalAltResult, Limits, Position, ScopeEntry, Union}
use Rattle.rhai_values.specs.declared.base.value.AccessMode.{AccessMode}
use Rattle.rhai_values.specs.declared.base.value.AccessMode.TheVariants.{ReadOnly, ReadWrite}
use Rattle.rhai_values.specs.declared.base.size.DataSizes.{DataSizes}
use Rattle.rhai_values.specs.declared.base.value.Union.TheVariants as value
use Rattle.rhai_values.specs.Cells.{IsNoHandle, value_of_cell}
use Rattle.rhai_values.specs.Copy.{copy_union}
use Rattle.rhai_values.specs.DataSize.{exceeded, fault_text}
use Rattle.rhai_values.specs.Modes.{union_with_mode}
use Rattle.rhai_errors.specs.Native.{HasNoHandle}
use Rattle.rhai_values.specs.ValueContents.{Reached}
use Rattle.rhai_state.specs.Scope.{found, index_of, revalued, value_in}
use Rattle.rhai_machine.specs.language.State.{Local}
use Rattle.rhai_machine.specs.language.Values.{Cells, flat_union, flat, through_union, through, used, copied, truth_union, truth_seen}
use Rattle.rhai_machine.specs.language.Values.{truth}
use Rattle.rhai_machine.specs.language.Names.{bound_this}
use Rattle.rhai_machine.specs.language.Places.{Place, InEntry, InCell, InThis, InFocus, Target, is_constant, unless_constant}
use Rattle.rhai_machine.specs.language.Places.{target_in_cell, target, target_at, focus_in_cell}
use Rattle.rhai_machine.specs.language.Places.{focus_at, focus_target, this_at, this_target, rebound, put}
use Rattle.rhai_machine.specs.language.Frames.{Frame}
use Rattle.rhai_machine.specs.language.Calls.{sized_by, within_sizes}
use Rattle.rhai_fits.specs.Contents.{of_maybe, of_result, of_scope, of_cells}
use Rattle.rhai_fits.specs.Sealed.{AreSealed, GoesBack}
use Rattle.rhai_fits.proofs.Values.{FitUnion, Fit}
use Rattle.rhai_fits.proofs.Copies.{fit_copy}
use Rattle.rhai_fits.proofs.Errors.{fit_error}
use Rattle.rhai_fits.proofs.Fitting.{AllFit, FitLocal, FitBelow, Gives, Flat, FlatMaybe, goes_back, cell_fits, scope_set, with_cell_set}
use Rattle.rhai_fits.proofs.Fitting.{with_scope, with_focus, with_this}

module _ {H : Type 0} where
  -- a copy is a handle where the value is one, and so is the value under another mode
  pub copy_no_handle : (u : Union H) → IsNoHandle u → IsNoHandle (copy_union u)
  copy_no_handle (value.Cell id) h = absurd h
  copy_no_handle _ h = tt

  pub mode_no_handle : (mode : AccessMode) (u : Union H) → IsNoHandle u → IsNoHandle (union_with_mode mode u)
  mode_no_handle mode (value.Cell id) h = absurd h
  mode_no_handle mode _ h = tt

module _ {H : Type 0} (own : H → List Reached) (P : Reached → Type 0) (least : ℕ) where
  -- a value that fits, as a result
  abbrev pub FitValue : Dynamic H → Type 0
  FitValue v = Fit own P v

  -- ---- through handles

  used_flat : (name : List ℕ) (at : Position) (there : Option (Dynamic H)) → FlatMaybe own P least there →
      Gives own P least (Flat own P least) (used name at there)
  used_flat name at (Some v) h = h
  used_flat name at None h = fit_error own P _ tt

  copied_flat : (r : Result (Dynamic H) (EvalAltResult H)) → Gives own P least (Flat own P least) r →
      Gives own P least (Flat own P least) (copied r)
  copied_flat (Ok v) h = (fit_copy own P v h.0, copy_no_handle v.value h.1)
  copied_flat (Err e) h = h

  pub copied_gives : (r : Result (Dynamic H) (EvalAltResult H)) → Gives own P least FitValue r → Gives own P least FitValue (copied r)
  copied_gives (Ok v) h = fit_copy own P v h
  copied_gives (Err e) h = h

  flat_by : (cells : Cells H) (u : Union H) (mode : AccessMode) (at : Position) → AllFit own P least (of_cells cells) → AreSealed cells →
      FitUnion own P u → Gives own P least (Flat own P least) (flat_union cells u (record { value = u; mode = mode }) at)
  flat_by cells (value.Cell id) mode at h s f =
      copied_flat (used [] at (value_of_cell cells id.number))
      (used_flat [] at (value_of_cell cells id.number) (cell_fits own P least cells id.number h s))
  flat_by cells _ mode at h s f = (f, tt)

  -- a value without its handle
  pub flat_gives : (l : Local H) (v : Dynamic H) (at : Position) → FitLocal own P least l → Fit own P v →
      Gives own P least (Flat own P least) (flat l.around.cells v at)
  flat_gives l v at h f = flat_by l.around.cells v.value v.mode at h.cells h.sealed f

  through_by : (cells : Cells H) (u : Union H) (mode : AccessMode) (at : Position) → AllFit own P least (of_cells cells) →
      AreSealed cells → FitUnion own P u → Gives own P least (Flat own P least) (through_union cells u (record {
        value = u;
        mode = mode;
      }) at)
  through_by cells (value.Cell id) mode at h s f =
      used_flat [] at (value_of_cell cells id.number) (cell_fits own P least cells id.number h s)
  through_by cells _ mode at h s f = (f, tt)

  -- a value looked at through a handle
  pub through_gives : (l : Local H) (v : Dynamic H) (at : Position) → FitLocal own P least l → Fit own P v →
      Gives own P least (Flat own P least) (through l.around.cells v at)
  through_gives l v at h f = through_by l.around.cells v.value v.mode at h.cells h.sealed f

  -- of a flat value only that it fits
  pub flat_fits : (r : Result (Dynamic H) (EvalAltResult H)) → Gives own P least (Flat own P least) r → AllFit own P least (of_result r)
  flat_fits (Ok v) h = h.0
  flat_fits (Err e) h = h

  pub flat_only : (r : Result (Dynamic H) (EvalAltResult H)) → Gives own P least (Flat own P least) r → Gives own P least FitValue r
  flat_only (Ok v) h = h.0
  flat_only (Err e) h = h

  pub given_fits : (r : Result (Dynamic H) (EvalAltResult H)) → Gives own P least FitValue r → AllFit own P least (of_result r)
  given_fits (Ok v) h = h
  given_fits (Err e) h = h

  -- ---- truth values, of which nothing is asked

  abbrev pub Any : (A : Type 0) → A → Type 0
  Any A a = ⊤

  truth_by : (host : H → List ℕ) (cells : Cells H) (u : Union H) (v : Dynamic H) (at : Position) →
      Gives own P least (Any Bool) (truth_union host cells u v at)
  truth_by host cells (value.Bool b) v at = tt
  truth_by host cells _ v at = fit_error own P _ tt

  truth_seen_gives : (host : H → List ℕ) (cells : Cells H) (at : Position) (r : Result (Dynamic H) (EvalAltResult H)) →
      Gives own P least (Flat own P least) r → Gives own P least (Any Bool) (truth_seen host cells at r)
  truth_seen_gives host cells at (Ok v) h = truth_by host cells v.value v at
  truth_seen_gives host cells at (Err e) h = h

  pub truth_gives : (host : H → List ℕ) (l : Local H) (v : Dynamic H) (at : Position) → FitLocal own P least l → Fit own P v →
      Gives own P least (Any Bool) (truth host l.around.cells v at)
  truth_gives host l v at h f =
      truth_seen_gives host l.around.cells at (through l.around.cells v at) (through_gives l v at h f)

  -- ---- sizes

  module _ {A : Type 0} (Q : A → Type 0) (limits : Limits) where
    sized_by_gives : (text : Option (List ℕ)) (x : A) (at : Position) → Q x → Gives own P least Q (sized_by limits text x at)
    sized_by_gives None x at h = h
    sized_by_gives (Some text) x at h = fit_error own P _ tt

    pub within_sizes_gives : (a : DataSizes) (x : A) (at : Position) → Q x → Gives own P least Q (within_sizes limits a x at)
    within_sizes_gives a x at h = sized_by_gives
        (option_map fault_text (exceeded limits.max_string_size limits.max_array_size limits.max_map_size a)) x at h

  -- ---- names

  found_fits : (es : List (ScopeEntry H)) (index : Option ℕ) → AllFit own P least (of_scope es) →
      AllFit own P least (of_maybe (value_in es index))
  found_fits es None h = tt
  found_fits [] (Some n) h = tt
  found_fits (e ∷ es) (Some zero) h = h.0
  found_fits (e ∷ es) (Some (suc n)) h = found_fits es (Some n) h.1

  -- the value of a variable
  pub found_gives : (name : List ℕ) (l : Local H) → FitLocal own P least l → AllFit own P least (of_maybe (found name l.scope))
  found_gives name l h = found_fits l.scope (index_of name l.scope) h.scope

  pub value_in_fits : (l : Local H) (index : Option ℕ) → FitLocal own P least l → AllFit own P least (of_maybe (value_in l.scope index))
  value_in_fits l index h = found_fits l.scope index h.scope

  pub bound_gives : (at : Position) (this : Option (Dynamic H)) → AllFit own P least (of_maybe this) →
      Gives own P least FitValue (bound_this at this)
  bound_gives at (Some v) h = h
  bound_gives at None h = fit_error own P _ tt

  -- ---- targets of assignments

  abbrev pub FitTarget : Target H → Type 0
  FitTarget t = Fit own P t.value

  constant_gives : (constant : Bool) (name : List ℕ) (at : Position) (t : Target H) → FitTarget t →
      Gives own P least FitTarget (unless_constant constant name at t)
  constant_gives true name at t h = fit_error own P _ tt
  constant_gives false name at t h = h

  target_in_gives : (name : List ℕ) (at : Position) (mode : AccessMode) (number : ℕ) (there : Option (Dynamic H)) →
      FlatMaybe own P least there → Gives own P least FitTarget (target_in_cell name at mode number there)
  target_in_gives name at mode number (Some v) h =
      constant_gives (is_constant mode || is_constant v.mode) name at (target (InCell number) v) h.0
  target_in_gives name at mode number None h = fit_error own P _ tt

  pub target_at_gives : (l : Local H) (name : List ℕ) (at : Position) (index : ℕ) (u : Union H) (v : Dynamic H) → FitLocal own P least l →
      Fit own P v → Gives own P least FitTarget (target_at l.around.cells name at index u v)
  target_at_gives l name at index (value.Cell id) v h f = target_in_gives name at v.mode id.number (value_of_cell l.around.cells id.number)
      (cell_fits own P least l.around.cells id.number h.cells h.sealed)
  target_at_gives l name at index _ v h f = constant_gives (is_constant v.mode) name at (target (InEntry index) v) f

  focus_in_gives : (name : List ℕ) (at : Position) (mode : AccessMode) (number : ℕ) (there : Option (Dynamic H)) →
      FlatMaybe own P least there → Gives own P least FitTarget (focus_in_cell name at mode number there)
  focus_in_gives name at mode number (Some v) h =
      constant_gives (is_constant mode || is_constant v.mode) name at (target (InCell number) v) h.0
  focus_in_gives name at ReadOnly number None h = fit_error own P _ tt
  focus_in_gives name at ReadWrite number None h = fit_error own P _ tt

  focus_at_gives : (l : Local H) (name : List ℕ) (at : Position) (u : Union H) (v : Dynamic H) → FitLocal own P least l → Fit own P v →
      Gives own P least FitTarget (focus_at l.around.cells name at u v)
  focus_at_gives l name at (value.Cell id) v h f = focus_in_gives name at v.mode id.number (value_of_cell l.around.cells id.number)
      (cell_fits own P least l.around.cells id.number h.cells h.sealed)
  focus_at_gives l name at _ v h f = constant_gives (is_constant v.mode) name at (target InFocus v) f

  pub focus_gives : (l : Local H) (name : List ℕ) (at : Position) (v : Dynamic H) → FitLocal own P least l → Fit own P v →
      Gives own P least FitTarget (focus_target l.around.cells name at v)
  focus_gives l name at v h f = focus_at_gives l name at v.value v h f

  this_at_gives : (l : Local H) (at : Position) (u : Union H) (v : Dynamic H) → FitLocal own P least l → Fit own P v →
      Gives own P least FitTarget (this_at l.around.cells at u v)
  this_at_gives l at (value.Cell id) v h f = focus_in_gives [] at v.mode id.number (value_of_cell l.around.cells id.number)
      (cell_fits own P least l.around.cells id.number h.cells h.sealed)
  this_at_gives l at _ v h f = constant_gives (is_constant v.mode) [] at (target InThis v) f

  pub this_gives : (l : Local H) (at : Position) (this : Option (Dynamic H)) → FitLocal own P least l → AllFit own P least (of_maybe this) →
      Gives own P least FitTarget (this_target l.around.cells at this)
  this_gives l at (Some v) h f = this_at_gives l at v.value v h f
  this_gives l at None h f = fit_error own P _ tt

  -- ---- a value is written to a place

  revalued_fits : (l : Local H) (index : ℕ) (there : Option (ScopeEntry H)) (v : Dynamic H) → FitLocal own P least l → Fit own P v →
      AllFit own P least (of_scope (revalued l.scope index there v))
  revalued_fits l index (Some entry) v h f = scope_set own P least l.scope index (record entry { value = v }) h.scope f
  revalued_fits l index None v h f = h.scope

  pub rebound_fits : (v : Dynamic H) (this : Option (Dynamic H)) → Fit own P v → AllFit own P least (of_maybe (rebound v this))
  rebound_fits v (Some this) f = f
  rebound_fits v None f = tt

  -- into an entry of the scope goes any value
  pub put_entry : (index : ℕ) (v : Dynamic H) (l : Local H) → FitLocal own P least l → Fit own P v →
      FitLocal own P least (put (InEntry index) v l)
  put_entry index v l h f =
      with_scope own P least l (revalued l.scope index (slice_get l.scope index) v) h (revalued_fits l index (slice_get l.scope index) v
      h f)

  put_fits : (place : Place) (v : Dynamic H) (l : Local H) → FitLocal own P least l → Flat own P least v →
      FitLocal own P least (put place v l)
  put_fits (InEntry index) v l h f = put_entry index v l h f.0
  put_fits (InCell number) v l h f = with_cell_set own P least l number (Some v) h f.0 f.1
  put_fits InThis v l h f = with_this own P least l (rebound v l.this) h (rebound_fits v l.this f.0)
  put_fits InFocus v l h f = with_focus own P least l (Some v) h f.0

  rebound_clean : (v : Dynamic H) (this : Option (Dynamic H)) → IsNoHandle v.value → HasNoHandle this → HasNoHandle (rebound v this)
  rebound_clean v (Some this) s h = s
  rebound_clean v None s h = tt

  put_back : (place : Place) (v : Dynamic H) (k : List (Frame H)) (l : Local H) → IsNoHandle v.value → GoesBack k l.focus l.this →
      GoesBack k (put place v l).focus (put place v l).this
  put_back (InEntry index) v k l s b = b
  put_back (InCell number) v k l s b = b
  put_back InThis v k l s b = goes_back k l.focus l.focus l.this (rebound v l.this) (λ h. h) (rebound_clean v l.this s) b
  put_back InFocus v k l s b = goes_back k l.focus (Some v) l.this l.this (λ h. s) (λ h. h) b

  -- a value that is no handle goes into any place
  pub put_below : (place : Place) (v : Dynamic H) (k : List (Frame H)) (l : Local H) → FitBelow own P least k l → Flat own P least v →
      FitBelow own P least k (put place v l)
  put_below place v k l h f = record {
    stack = h.stack;
    sealed = h.sealed;
    back = put_back place v k l f.1 h.back;
    local = put_fits place v l h.local f;
  }
