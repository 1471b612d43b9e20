-- Values that contain only what has a property, by their kinds.
use Rattle.std.proofs.Common.{◌≡◌, ℕ, ℤ, List, [], ◌∷◌, ◌++◌, map, refl, sym, subst}
use Rattle.std.specs.Prelude.{⊤, Bool}
use Rattle.rhai_values.specs.declared.base.value.CellId.{CellId}
use Rattle.rhai_values.specs.declared.base.value.Dynamic.{Dynamic}
use Rattle.rhai_values.specs.declared.base.value.FnPtr.{FnPtr, out-FnPtr, roll-FnPtr, out-roll-FnPtr}
use Rattle.rhai_values.specs.declared.base.value.FnPtrKind.{FnPtrKind}
use Rattle.rhai_values.specs.declared.base.value.FnPtrKind.TheOpen as layer
use Rattle.rhai_values.specs.declared.base.value.FnPtrKind.TheFolds.{fold-Union, fold-FnPtr, fold-FnPtrKind, fold_out-Union}
use Rattle.rhai_values.specs.declared.base.value.FnPtrKind.TheFolds.{fold_out-Dynamic, fold_out-FnPtr}
use Rattle.rhai_values.specs.declared.base.value.Union.{Union, out-Union}
use Rattle.rhai_values.specs.declared.base.value.Union.TheVariants as value
use Rattle.rhai_values.specs.declared.base.value.Union.TheVariants.{outs-Unit, outs-Bool, outs-Int, outs-Char, outs-Str}
use Rattle.rhai_values.specs.declared.base.value.Union.TheVariants.{outs-ExclusiveRange, outs-InclusiveRange, outs-Array, outs-Blob}
use Rattle.rhai_values.specs.declared.base.value.Union.TheVariants.{outs-Map, outs-FnPtr, outs-Cell}
use Rattle.rhai_values.specs.Layers.{UnionLayer}
use Rattle.rhai_values.specs.ValueContents.{Reached, Cell, Constants, Function, each, in_kind, in_union, maybe, contents_of}
use Rattle.rhai_fits.proofs.Properties.{AllHave, all_joined, all_left, all_right}

-- ---- what values contain, by one level

module _ {H : Type 0} (own : H → List Reached) where
  abbrev L : Type 0
  L = List Reached

  abbrev pub reached_union : Union H → L
  reached_union = fold-Union H L L L L L L L L (in_kind own) (in_union own) (λ d. d.value)
      (λ e. Constants e.constants ∷ (each e.lib ++ each e.imports))
      (λ p. each p.curry ++ p.kind) (λ i. i.module) (λ m. each m.constants.1 ++ (each m.functions ++ each m.sub_modules.1))
      (λ f. Function f.def ∷ maybe f.environ)

  abbrev reached_pointer : FnPtr H → L
  reached_pointer = fold-FnPtr H L L L L L L L L (in_kind own) (in_union own) (λ d. d.value)
      (λ e. Constants e.constants ∷ (each e.lib ++ each e.imports))
      (λ p. each p.curry ++ p.kind) (λ i. i.module) (λ m. each m.constants.1 ++ (each m.functions ++ each m.sub_modules.1))
      (λ f. Function f.def ∷ maybe f.environ)

  abbrev pub reached_kind : FnPtrKind H → L
  reached_kind = fold-FnPtrKind H L L L L L L L L (in_kind own) (in_union own) (λ d. d.value)
      (λ e. Constants e.constants ∷ (each e.lib ++ each e.imports))
      (λ p. each p.curry ++ p.kind) (λ i. i.module) (λ m. each m.constants.1 ++ (each m.functions ++ each m.sub_modules.1))
      (λ f. Function f.def ∷ maybe f.environ)

  pub reached_value : (d : Dynamic H) → contents_of own d ≡ reached_union d.value
  reached_value d = simp fold_out-Dynamic

  reached_pointer_out : (p : FnPtr H) →
      reached_pointer p ≡ each (map (contents_of own) (out-FnPtr H p).curry) ++ reached_kind (out-FnPtr H p).kind
  reached_pointer_out p = rw fold_out-FnPtr refl

  abbrev reached_layer : UnionLayer H → L
  reached_layer (layer.Array items) = each (map (contents_of own) items)
  reached_layer (layer.Map entries) = each (map (contents_of own) entries.1)
  reached_layer (layer.FnPtr pointer) = reached_pointer pointer
  reached_layer (layer.Host value) = own value
  reached_layer (layer.Cell id) = Cell id.number ∷ []
  reached_layer _ = []

  reached_at : (l : UnionLayer H) (u : Union H) → out-Union H u ≡ l → reached_union u ≡ reached_layer l
  reached_at (layer.Array items) u is = rw (fold_out-Union, is) refl
  reached_at _ u is = rw (fold_out-Union, is) refl

  module _ (P : Reached → Type 0) where
    -- ---- values that fit

    unfoldable pub FitUnion : Union H → Type 0
    FitUnion u = AllHave P (reached_union u)

    abbrev pub Fit : Dynamic H → Type 0
    Fit v = FitUnion v.value

    abbrev pub Fits : List (Dynamic H) → Type 0
    Fits [] = ⊤
    Fits (v ∷ vs) = Fit v × Fits vs

    unfoldable pub FitKind : FnPtrKind H → Type 0
    FitKind k = AllHave P (reached_kind k)

    -- a pointer, by its curried values and what it leads to
    pub record FitPointer (p : FnPtr H) : Type 0 where
      pub curry : Fits (out-FnPtr H p).curry
      pub kind : FitKind (out-FnPtr H p).kind

    abbrev pub FitLayer : UnionLayer H → Type 0
    FitLayer (layer.Array items) = Fits items
    FitLayer (layer.Map entries) = Fits entries.1
    FitLayer (layer.FnPtr pointer) = FitPointer pointer
    FitLayer (layer.Host v) = AllHave P (own v)
    FitLayer (layer.Cell id) = P (Cell id.number)
    FitLayer _ = ⊤

    pub fit_reached : (v : Dynamic H) → Fit v → AllHave P (contents_of own v)
    unfolding FitUnion
    fit_reached v h = rw reached_value h

    pub reached_is_fit : (v : Dynamic H) → AllHave P (contents_of own v) → Fit v
    unfolding FitUnion
    reached_is_fit v h = rw reached_value at h

    fits_reached : (vs : List (Dynamic H)) → Fits vs → AllHave P (each (map (contents_of own) vs))
    fits_reached [] h = tt
    fits_reached (v ∷ vs) h = all_joined P (contents_of own v) (each (map (contents_of own) vs)) (fit_reached v h.0) (fits_reached vs h.1)

    pub reached_are_fit : (vs : List (Dynamic H)) → AllHave P (each (map (contents_of own) vs)) → Fits vs
    reached_are_fit [] h = tt
    reached_are_fit (v ∷ vs) h = (
      reached_is_fit v (all_left P (contents_of own v) (each (map (contents_of own) vs)) h),
      reached_are_fit vs (all_right P (contents_of own v) (each (map (contents_of own) vs)) h),
    )

    layer_reached : (l : UnionLayer H) → FitLayer l → AllHave P (reached_layer l)
    unfolding FitKind
    layer_reached (layer.Array items) h = fits_reached items h
    layer_reached (layer.Map entries) h = fits_reached entries.1 h
    layer_reached (layer.FnPtr p) h = rw reached_pointer_out (all_joined P (each (map (contents_of own) (out-FnPtr H p).curry))
        (reached_kind (out-FnPtr H p).kind) (fits_reached (out-FnPtr H p).curry h.curry) h.kind)
    layer_reached (layer.Host v) h = h
    layer_reached (layer.Cell id) h = (h, tt)
    layer_reached _ h = tt

    reached_layer_fits : (l : UnionLayer H) → AllHave P (reached_layer l) → FitLayer l
    unfolding FitKind
    reached_layer_fits (layer.Array items) h = reached_are_fit items h
    reached_layer_fits (layer.Map entries) h = reached_are_fit entries.1 h
    reached_layer_fits (layer.FnPtr p) h =
        let both = rw reached_pointer_out at h in
        record {
          curry = reached_are_fit (out-FnPtr H p).curry (all_left P (each (map (contents_of own) (out-FnPtr H p).curry))
              (reached_kind (out-FnPtr H p).kind) both);
          kind = all_right P (each (map (contents_of own) (out-FnPtr H p).curry)) (reached_kind (out-FnPtr H p).kind) both;
        }
    reached_layer_fits (layer.Host v) h = h
    reached_layer_fits (layer.Cell id) h = h.0
    reached_layer_fits _ h = tt

    -- a value fits as one level of it does
    pub fit_out : (u : Union H) → FitUnion u → FitLayer (out-Union H u)
    unfolding FitUnion
    fit_out u h = reached_layer_fits (out-Union H u) (subst (AllHave P) (reached_at (out-Union H u) u refl) h)

    pub fit_in : (u : Union H) → FitLayer (out-Union H u) → FitUnion u
    unfolding FitUnion
    fit_in u h = subst (AllHave P) (sym (reached_at (out-Union H u) u refl)) (layer_reached (out-Union H u) h)

    -- ---- by their kinds

    fit_by : (u : Union H) (l : UnionLayer H) → out-Union H u ≡ l → FitLayer l → FitUnion u
    fit_by u l is h = fit_in u (subst FitLayer (sym is) h)

    pub fit_unit : FitUnion value.Unit
    fit_unit = fit_by value.Unit layer.Unit outs-Unit tt

    pub fit_bool : (b : Bool) → FitUnion (value.Bool b)
    fit_bool b = fit_by (value.Bool b) (layer.Bool b) (outs-Bool b) tt

    pub fit_int : (n : ℤ) → FitUnion (value.Int n)
    fit_int n = fit_by (value.Int n) (layer.Int n) (outs-Int n) tt

    pub fit_char : (c : ℕ) → FitUnion (value.Char c)
    fit_char c = fit_by (value.Char c) (layer.Char c) (outs-Char c) tt

    pub fit_text : (text : List ℕ) → FitUnion (value.Str text)
    fit_text text = fit_by (value.Str text) (layer.Str text) (outs-Str text) tt

    pub fit_range : (start last : ℤ) → FitUnion (value.ExclusiveRange start last)
    fit_range start last =
        fit_by (value.ExclusiveRange start last) (layer.ExclusiveRange start last) (outs-ExclusiveRange start last) tt

    pub fit_inclusive : (start last : ℤ) → FitUnion (value.InclusiveRange start last)
    fit_inclusive start last =
        fit_by (value.InclusiveRange start last) (layer.InclusiveRange start last) (outs-InclusiveRange start last) tt

    pub fit_blob : (bytes : List ℕ) → FitUnion (value.Blob bytes)
    fit_blob bytes = fit_by (value.Blob bytes) (layer.Blob bytes) (outs-Blob bytes) tt

    pub fit_array : (items : List (Dynamic H)) → Fits items → FitUnion (value.Array items)
    fit_array items h = fit_by (value.Array items) (layer.Array items) (outs-Array items) h

    pub fit_map : (entries : List (List ℕ) × List (Dynamic H)) → Fits entries.1 → FitUnion (value.Map entries)
    fit_map entries h = fit_by (value.Map entries) (layer.Map entries) (outs-Map entries) h

    pub fit_pointer : (p : FnPtr H) → FitPointer p → FitUnion (value.FnPtr p)
    fit_pointer p h = fit_by (value.FnPtr p) (layer.FnPtr p) (outs-FnPtr p) h

    pub pointer_fits : (p : FnPtr H) → FitUnion (value.FnPtr p) → FitPointer p
    pointer_fits p h = subst FitLayer (outs-FnPtr p) (fit_out (value.FnPtr p) h)

    pub fit_handle : (id : CellId) → P (Cell id.number) → FitUnion (value.Cell id)
    fit_handle id h = fit_by (value.Cell id) (layer.Cell id) (outs-Cell id) h

    pub fit_items : (items : List (Dynamic H)) → FitUnion (value.Array items) → Fits items
    fit_items items h = subst FitLayer (outs-Array items) (fit_out (value.Array items) h)

    pub fit_entries : (entries : List (List ℕ) × List (Dynamic H)) → FitUnion (value.Map entries) → Fits entries.1
    fit_entries entries h = subst FitLayer (outs-Map entries) (fit_out (value.Map entries) h)

    -- a pointer with other curried values
    pub fit_rolled : (name : List ℕ) (curry : List (Dynamic H)) (kind : FnPtrKind H) → Fits curry → FitKind kind →
        FitPointer (roll-FnPtr H (record { name = name; curry = curry; kind = kind }))
    fit_rolled name curry kind h k = record {
      curry = rw out-roll-FnPtr h;
      kind = rw out-roll-FnPtr k;
    }
