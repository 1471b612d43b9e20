-- A copy of a value has the contents of its source, and so has the value under another mode.
use Rattle.std.proofs.Common.{◌≡◌, ℕ, List, [], ◌∷◌, ◌++◌, map, refl, sym, ap, ◌∙◌, subst}
use Rattle.std.specs.Prelude.{⊤}
use Rattle.rhai_values.specs.declared.base.value.AccessMode.{AccessMode}
use Rattle.rhai_values.specs.declared.base.value.Dynamic.{Dynamic}
use Rattle.rhai_values.specs.declared.base.value.EncapsulatedEnviron.{EncapsulatedEnviron}
use Rattle.rhai_values.specs.declared.base.value.FnPtr.{FnPtr, roll-FnPtr, out-roll-FnPtr}
use Rattle.rhai_values.specs.declared.base.value.FnPtrKind.{FnPtrKind}
use Rattle.rhai_values.specs.declared.base.value.FnPtrKind.TheOpen as layer
use Rattle.rhai_values.specs.declared.base.value.FnPtrKind.TheFolds.{fold-Union, fold-FnPtr, fold-FnPtrKind, fold-roll-Union}
use Rattle.rhai_values.specs.declared.base.value.FnPtrKind.TheFolds.{fold_out-Dynamic, fold_out-FnPtr}
use Rattle.rhai_values.specs.declared.base.value.FnPtrKind.TheFolds.{ind-Union, map-Union, map-FnPtr}
use Rattle.rhai_values.specs.declared.base.value.Import.{Import}
use Rattle.rhai_values.specs.declared.base.value.Module.{Module}
use Rattle.rhai_values.specs.declared.base.value.ModuleFn.{ModuleFn}
use Rattle.rhai_values.specs.declared.base.value.Union.{Union, roll-Union}
use Rattle.rhai_values.specs.declared.base.value.Union.TheVariants as value
use Rattle.rhai_values.specs.declared.base.value.Union.TheVariants.{rolls-Array, rolls-Map, rolls-FnPtr, rolls-Unit, rolls-Bool, rolls-Int}
use Rattle.rhai_values.specs.declared.base.value.Union.TheVariants.{rolls-Char, rolls-Str, rolls-ExclusiveRange, rolls-InclusiveRange}
use Rattle.rhai_values.specs.declared.base.value.Union.TheVariants.{rolls-Blob, rolls-Host, rolls-Cell}
use Rattle.rhai_values.specs.Copy.{copy_union, copy_of, copy_pointer}
use Rattle.rhai_values.specs.Modes.{union_with_mode, with_mode}
use Rattle.rhai_values.specs.ValueContents.{Reached, Constants, Function, each, in_kind, in_union, maybe, contents_of}
use Rattle.rhai_values.proofs.CopyLemmas.{copy-Array, copy-Map, copy-FnPtr, copied_rolled}
use Rattle.rhai_values.proofs.ModeLemmas.{mode-Array, mode-Map}

module _ {H : Type 0} (own : H → List Reached) where
  abbrev L : Type 0
  L = List Reached

  abbrev union_contents : Union H → L
  union_contents = fold-Union H L L L L L L L L (in_kind own) (in_union own) (λ d. d.value)
      (λ e. Constants e.constants ∷ (each e.lib ++ each e.imports))
      (λ p. each p.curry ++ p.kind) (λ i. i.module) (λ m. each m.constants.1 ++ (each m.functions ++ each m.sub_modules.1))
      (λ f. Function f.def ∷ maybe f.environ)

  abbrev pointer_contents : FnPtr H → L
  pointer_contents = fold-FnPtr H L L L L L L L L (in_kind own) (in_union own) (λ d. d.value)
      (λ e. Constants e.constants ∷ (each e.lib ++ each e.imports))
      (λ p. each p.curry ++ p.kind) (λ i. i.module) (λ m. each m.constants.1 ++ (each m.functions ++ each m.sub_modules.1))
      (λ f. Function f.def ∷ maybe f.environ)

  abbrev kind_contents : FnPtrKind H → L
  kind_contents = fold-FnPtrKind H L L L L L L L L (in_kind own) (in_union own) (λ d. d.value)
      (λ e. Constants e.constants ∷ (each e.lib ++ each e.imports))
      (λ p. each p.curry ++ p.kind) (λ i. i.module) (λ m. each m.constants.1 ++ (each m.functions ++ each m.sub_modules.1))
      (λ f. Function f.def ∷ maybe f.environ)

  -- ---- what stands in a value, by its kinds that have parts

  contents-value : (d : Dynamic H) → contents_of own d ≡ union_contents d.value
  contents-value d = simp fold_out-Dynamic

  contents-array : (items : List (Dynamic H)) → union_contents (value.Array items) ≡ each (map (contents_of own) items)
  contents-array items = ap union_contents (sym (rolls-Array items)) ∙ rw fold-roll-Union refl

  contents-map : (entries : List (List ℕ) × List (Dynamic H)) →
      union_contents (value.Map entries) ≡ each (map (contents_of own) entries.1)
  contents-map entries = ap union_contents (sym (rolls-Map entries)) ∙ rw fold-roll-Union refl

  contents-pointer : (p : FnPtr H) → union_contents (value.FnPtr p) ≡ pointer_contents p
  contents-pointer p = ap union_contents (sym (rolls-FnPtr p)) ∙ rw fold-roll-Union refl

  contents-rolled : (name : List ℕ) (curry : List (Dynamic H)) (kind : FnPtrKind H) →
      pointer_contents (roll-FnPtr H (record { name = name; curry = curry; kind = kind }))
      ≡ each (map (contents_of own) curry) ++ kind_contents kind
  contents-rolled name curry kind = rw (fold_out-FnPtr, out-roll-FnPtr) refl

  -- ---- what is claimed of each

  abbrev Copies : Union H → Type 0
  Copies u = (union_contents (copy_union u) ≡ union_contents u) × ((mode : AccessMode) →
      union_contents (union_with_mode mode u) ≡ union_contents u)

  abbrev CopiesValue : Dynamic H → Type 0
  CopiesValue d = Copies d.value

  abbrev CopiesPointer : FnPtr H → Type 0
  CopiesPointer p = pointer_contents (copy_pointer p) ≡ pointer_contents p

  -- what is behind one level, each with its claim
  abbrev K : Type 0
  K = (k : FnPtrKind H) × ⊤

  abbrev U : Type 0
  U = (u : Union H) × Copies u

  abbrev D : Type 0
  D = (d : Dynamic H) × CopiesValue d

  abbrev E : Type 0
  E = (e : EncapsulatedEnviron H) × ⊤

  abbrev F : Type 0
  F = (p : FnPtr H) × CopiesPointer p

  abbrev I : Type 0
  I = (i : Import H) × ⊤

  abbrev M : Type 0
  M = (m : Module H) × ⊤

  abbrev G : Type 0
  G = (f : ModuleFn H) × ⊤

  value_copied : (d : Dynamic H) → CopiesValue d → contents_of own (copy_of d) ≡ contents_of own d
  value_copied d c = contents-value (copy_of d) ∙ c.0 ∙ sym (contents-value d)

  value_moded : (mode : AccessMode) (d : Dynamic H) → CopiesValue d → contents_of own (with_mode mode d) ≡ contents_of own d
  value_moded mode d c = contents-value (with_mode mode d) ∙ c.1 mode ∙ sym (contents-value d)

  -- items, each of which keeps its contents
  items_keep : (f : Dynamic H → Dynamic H) (es : List D) →
      ((d : Dynamic H) → CopiesValue d → contents_of own (f d) ≡ contents_of own d) →
      each (map (contents_of own) (map f (map (λ e. e.0) es))) ≡ each (map (contents_of own) (map (λ e. e.0) es))
  items_keep f [] keeps = refl
  items_keep f (e ∷ es) keeps =
      ap (λ held. held ++ each (map (contents_of own) (map f (map (λ e. e.0) es)))) (keeps e.0 e.1)
      ∙ ap (λ held. contents_of own e.0 ++ held) (items_keep f es keeps)

  abbrev bare : layer.Union-F H K U D E F I M G → layer.Union-F H (FnPtrKind H) (Union H) (Dynamic H) (EncapsulatedEnviron H) (FnPtr H)
      (Import H) (Module H) (ModuleFn H)
  bare = map-Union H K U D E F I M G (FnPtrKind H) (Union H) (Dynamic H) (EncapsulatedEnviron H) (FnPtr H) (Import H) (Module H)
      (ModuleFn H)
      (λ e. e.0) (λ e. e.0) (λ e. e.0) (λ e. e.0) (λ e. e.0) (λ e. e.0) (λ e. e.0) (λ e. e.0)

  abbrev bare_pointer : layer.FnPtr-F H K U D E F I M G → layer.FnPtr-F H (FnPtrKind H) (Union H) (Dynamic H) (EncapsulatedEnviron H)
      (FnPtr H) (Import H) (Module H) (ModuleFn H)
  bare_pointer = map-FnPtr H K U D E F I M G (FnPtrKind H) (Union H) (Dynamic H) (EncapsulatedEnviron H) (FnPtr H) (Import H) (Module H)
      (ModuleFn H) (λ e. e.0) (λ e. e.0) (λ e. e.0) (λ e. e.0) (λ e. e.0) (λ e. e.0) (λ e. e.0) (λ e. e.0)

  -- a value without items stays as it is
  stays : (u : Union H) → copy_union u ≡ u → ((mode : AccessMode) → union_with_mode mode u ≡ u) → Copies u
  stays u c m = (ap union_contents c, λ mode. ap union_contents (m mode))

  copied : (y : layer.Union-F H K U D E F I M G) → Copies (roll-Union H (bare y))
  copied layer.Unit = subst Copies (sym rolls-Unit) (stays value.Unit refl (λ mode. refl))
  copied (layer.Bool b) = subst Copies (sym (rolls-Bool b)) (stays (value.Bool b) refl (λ mode. refl))
  copied (layer.Int n) = subst Copies (sym (rolls-Int n)) (stays (value.Int n) refl (λ mode. refl))
  copied (layer.Char c) = subst Copies (sym (rolls-Char c)) (stays (value.Char c) refl (λ mode. refl))
  copied (layer.Str text) = subst Copies (sym (rolls-Str text)) (stays (value.Str text) refl (λ mode. refl))
  copied (layer.ExclusiveRange a b) =
      subst Copies (sym (rolls-ExclusiveRange a b)) (stays (value.ExclusiveRange a b) refl (λ mode. refl))
  copied (layer.InclusiveRange a b) =
      subst Copies (sym (rolls-InclusiveRange a b)) (stays (value.InclusiveRange a b) refl (λ mode. refl))
  copied (layer.Array es) =
      let items : List (Dynamic H) = map (λ e. e.0) es in
      subst Copies (sym (rolls-Array items)) (
        rw copy-Array (contents-array (map copy_of items) ∙ items_keep copy_of es value_copied ∙ sym (contents-array items)),
        (λ mode. rw mode-Array (contents-array (map (with_mode mode) items) ∙ items_keep (with_mode mode) es (value_moded mode)
            ∙ sym (contents-array items))),
      )
  copied (layer.Blob bytes) = subst Copies (sym (rolls-Blob bytes)) (stays (value.Blob bytes) refl (λ mode. refl))
  copied (layer.Map es) =
      let entries : List (List ℕ) × List (Dynamic H) = (es.0, map (λ e. e.0) es.1) in
      subst Copies (sym (rolls-Map entries)) (
        rw copy-Map (contents-map (es.0, map copy_of entries.1) ∙ items_keep copy_of es.1 value_copied ∙ sym (contents-map entries)),
        (λ mode. rw mode-Map (contents-map (es.0, map (with_mode mode) entries.1) ∙ items_keep (with_mode mode) es.1 (value_moded mode)
            ∙ sym (contents-map entries))),
      )
  copied (layer.FnPtr e) = subst Copies (sym (rolls-FnPtr e.0)) (
    rw copy-FnPtr (contents-pointer (copy_pointer e.0) ∙ e.1 ∙ sym (contents-pointer e.0)),
    (λ mode. refl),
  )
  copied (layer.Host v) = subst Copies (sym (rolls-Host v)) (stays (value.Host v) refl (λ mode. refl))
  copied (layer.Cell id) = subst Copies (sym (rolls-Cell id)) (stays (value.Cell id) refl (λ mode. refl))

  copied_pointer : (y : layer.FnPtr-F H K U D E F I M G) → CopiesPointer (roll-FnPtr H (bare_pointer y))
  copied_pointer y =
      let items : List (Dynamic H) = map (λ e. e.0) y.curry in
      ap pointer_contents (copied_rolled y.name items y.kind.0) ∙ contents-rolled y.name (map copy_of items) y.kind.0
      ∙ ap (λ held. held ++ kind_contents y.kind.0) (items_keep copy_of y.curry value_copied)
      ∙ sym (contents-rolled y.name items y.kind.0)

  copies : (u : Union H) → Copies u
  copies = ind-Union H (λ k. ⊤) Copies CopiesValue (λ e. ⊤) CopiesPointer (λ i. ⊤) (λ m. ⊤) (λ f. ⊤)
      (λ x y is. tt) (λ x y is. subst (λ z. Copies (roll-Union H z)) is (copied y))
      (λ x y is. subst (λ z. Copies z) (ap (λ z. z.value) is) y.value.1)
      (λ x y is. tt) (λ x y is. subst (λ z. CopiesPointer (roll-FnPtr H z)) is (copied_pointer y))
      (λ x y is. tt) (λ x y is. tt) (λ x y is. tt)

  -- in a copy stands what stands in its source
  pub contents-copy : (v : Dynamic H) → contents_of own (copy_of v) ≡ contents_of own v
  contents-copy v = value_copied v (copies v.value)

  -- and so it does in the value under another mode
  pub contents-with_mode : (mode : AccessMode) (v : Dynamic H) → contents_of own (with_mode mode v) ≡ contents_of own v
  contents-with_mode mode v = value_moded mode v (copies v.value)
