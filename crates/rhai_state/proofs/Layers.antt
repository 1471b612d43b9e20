-- What stands in values, pointers, environments and modules, one level of them.
use Rattle.std.proofs.Common.{◌≡◌, ℕ, List, [], ◌∷◌, ◌++◌, map, refl, sym, ap, ◌∙◌, flat_map, Some, None}
use Rattle.std.proofs.lemmas.List.Folds.{flat_map-map}
use Rattle.rhai_values.specs.declared.base.value.Dynamic.{Dynamic}
use Rattle.rhai_values.specs.declared.base.value.EncapsulatedEnviron.{EncapsulatedEnviron, out-EncapsulatedEnviron}
use Rattle.rhai_values.specs.declared.base.value.FnPtr.{FnPtr, out-FnPtr}
use Rattle.rhai_values.specs.declared.base.value.Import.{Import, out-Import}
use Rattle.rhai_values.specs.declared.base.value.Module.{Module, out-Module}
use Rattle.rhai_values.specs.declared.base.value.ModuleFn.{ModuleFn, out-ModuleFn}
use Rattle.rhai_values.specs.declared.base.value.Union.{Union}
use Rattle.rhai_values.specs.declared.base.value.Union.TheVariants as value
use Rattle.rhai_values.specs.declared.base.value.Union.TheVariants.{rolls-Array, rolls-Map, rolls-FnPtr}
use Rattle.rhai_values.specs.declared.base.value.FnPtrKind.TheFolds.{fold-Union, fold-roll-Union, fold_out-Dynamic}
use Rattle.rhai_values.specs.declared.base.value.FnPtrKind.TheFolds.{fold_out-EncapsulatedEnviron, fold_out-FnPtr}
use Rattle.rhai_values.specs.declared.base.value.FnPtrKind.TheFolds.{fold_out-Import, fold_out-Module, fold_out-ModuleFn}
use Rattle.rhai_values.specs.ValueContents.{Constants, Function, each, in_kind, in_union}
use Rattle.rhai_state.specs.Reached.{ReachedList, nothing, in_value, in_environ, in_pointer, in_import, in_module, in_function}
use Rattle.rhai_state.specs.Reached.{value_holds, pointer_holds, kind_holds, environ_holds, import_holds, module_holds, function_holds}

each-map : {A : Type 0} (f : A → ReachedList) (xs : List A) → each (map f xs) ≡ flat_map f xs
each-map f xs = flat_map-map (λ h. h) f xs

module _ {H : Type 0} where
  abbrev union_holds : Union H → ReachedList
  union_holds = fold-Union H ReachedList ReachedList ReachedList ReachedList ReachedList ReachedList ReachedList ReachedList
      (in_kind nothing) (in_union nothing) in_value in_environ in_pointer
      in_import in_module in_function

  value-union : (d : Dynamic H) → value_holds d ≡ union_holds d.value
  value-union d = simp fold_out-Dynamic

  union-Array : (items : List (Dynamic H)) → union_holds (value.Array items) ≡ flat_map value_holds items
  union-Array items = ap union_holds (sym (rolls-Array items)) ∙ rw fold-roll-Union (each-map value_holds items)

  union-Map : (entries : List (List ℕ) × List (Dynamic H)) → union_holds (value.Map entries) ≡ flat_map value_holds entries.1
  union-Map entries = ap union_holds (sym (rolls-Map entries)) ∙ rw fold-roll-Union (each-map value_holds entries.1)

  union-FnPtr : (pointer : FnPtr H) → union_holds (value.FnPtr pointer) ≡ pointer_holds pointer
  union-FnPtr pointer = ap union_holds (sym (rolls-FnPtr pointer)) ∙ rw fold-roll-Union refl

  pub value-Array : (d : Dynamic H) (items : List (Dynamic H)) → d.value ≡ value.Array items → value_holds d ≡ flat_map value_holds items
  value-Array d items is = value-union d ∙ ap union_holds is ∙ union-Array items

  pub value-Map : (d : Dynamic H) (entries : List (List ℕ) × List (Dynamic H)) → d.value ≡ value.Map entries →
      value_holds d ≡ flat_map value_holds entries.1
  value-Map d entries is = value-union d ∙ ap union_holds is ∙ union-Map entries

  pub value-FnPtr : (d : Dynamic H) (pointer : FnPtr H) → d.value ≡ value.FnPtr pointer → value_holds d ≡ pointer_holds pointer
  value-FnPtr d pointer is = value-union d ∙ ap union_holds is ∙ union-FnPtr pointer

  pub pointer-out : (p : FnPtr H) → pointer_holds p ≡ flat_map value_holds (out-FnPtr H p).curry ++ kind_holds (out-FnPtr H p).kind
  pointer-out p = rw fold_out-FnPtr (ap (λ curry. curry ++ kind_holds (out-FnPtr H p).kind) (each-map value_holds _))

  pub environ-out : (e : EncapsulatedEnviron H) →
      environ_holds e ≡ Constants (out-EncapsulatedEnviron H e).constants ∷ (flat_map module_holds (out-EncapsulatedEnviron H e).lib
      ++ flat_map import_holds (out-EncapsulatedEnviron H e).imports)
  environ-out e = rw fold_out-EncapsulatedEnviron
      (λ i. Constants (out-EncapsulatedEnviron H e).constants ∷ (each-map module_holds (out-EncapsulatedEnviron H e).lib i
      ++ each-map import_holds (out-EncapsulatedEnviron H e).imports i))

  pub import-out : (i : Import H) → import_holds i ≡ module_holds (out-Import H i).module
  import-out i = rw fold_out-Import refl

  pub module-out : (m : Module H) →
      module_holds m ≡ flat_map value_holds (out-Module H m).constants.1 ++ (flat_map function_holds (out-Module H m).functions
      ++ flat_map module_holds (out-Module H m).sub_modules.1)
  module-out m = rw fold_out-Module
      (λ i. each-map value_holds (out-Module H m).constants.1 i ++ (each-map function_holds (out-Module H m).functions i
      ++ each-map module_holds (out-Module H m).sub_modules.1 i))

  pub function-None : (f : ModuleFn H) → (out-ModuleFn H f).environ ≡ None → function_holds f ≡ Function (out-ModuleFn H f).def ∷ []
  function-None f is = rw (fold_out-ModuleFn, is) refl

  pub function-Some : (f : ModuleFn H) (e : EncapsulatedEnviron H) → (out-ModuleFn H f).environ ≡ Some e →
      function_holds f ≡ Function (out-ModuleFn H f).def ∷ environ_holds e
  function-Some f e is = rw (fold_out-ModuleFn, is) refl
