-- Whatever a host's values hold: what stands in values and modules has a property under one telling of that where it has it under another
-- that tells more.
use Rattle.std.proofs.Common.{List, [], ◌∷◌, ◌++◌, map, ap, subst, sym}
use Rattle.std.specs.Prelude.{Bool, Option, Some, None}
use Rattle.rhai_tree.specs.declared.function.ScriptFuncDef.{ScriptFuncDef}
use Rattle.rhai_values.specs.declared.base.value.Dynamic.{Dynamic}
use Rattle.rhai_values.specs.declared.base.value.EncapsulatedEnviron.{EncapsulatedEnviron, roll-EncapsulatedEnviron}
use Rattle.rhai_values.specs.declared.base.value.FnPtr.{FnPtr, roll-FnPtr}
use Rattle.rhai_values.specs.declared.base.value.FnPtrKind.{FnPtrKind, roll-FnPtrKind}
use Rattle.rhai_values.specs.declared.base.value.FnPtrKind.TheOpen as layer
use Rattle.rhai_values.specs.declared.base.value.FnPtrKind.TheFolds.{fold-FnPtrKind, fold-Union, fold-EncapsulatedEnviron, fold-FnPtr}
use Rattle.rhai_values.specs.declared.base.value.FnPtrKind.TheFolds.{fold-Import, fold-Module, fold-ModuleFn, fold-roll-FnPtrKind}
use Rattle.rhai_values.specs.declared.base.value.FnPtrKind.TheFolds.{fold-roll-Union, fold-roll-EncapsulatedEnviron, fold-roll-FnPtr}
use Rattle.rhai_values.specs.declared.base.value.FnPtrKind.TheFolds.{fold-roll-Import, fold-roll-Module, fold-roll-ModuleFn}
use Rattle.rhai_values.specs.declared.base.value.FnPtrKind.TheFolds.{map-FnPtrKind, map-Union, map-EncapsulatedEnviron, map-FnPtr}
use Rattle.rhai_values.specs.declared.base.value.FnPtrKind.TheFolds.{map-Import, map-Module, map-ModuleFn, ind-Union, ind-Module}
use Rattle.rhai_values.specs.declared.base.value.Import.{Import, roll-Import}
use Rattle.rhai_values.specs.declared.base.value.Module.{Module, roll-Module}
use Rattle.rhai_values.specs.declared.base.value.ModuleFn.{ModuleFn, roll-ModuleFn}
use Rattle.rhai_values.specs.declared.base.value.Union.{Union, roll-Union}
use Rattle.rhai_state.specs.Reached.{in_value, in_environ, in_pointer, in_import, in_module, in_function}
use Rattle.rhai_values.specs.ValueContents.{Reached, each, in_kind, in_union, contents_of}
use Rattle.rhai_fits.specs.Modules.{module_contents}
use Rattle.rhai_fits.proofs.Properties.{AllHave, all_joined, all_left, all_right}
use Rattle.rhai_fits.proofs.Values.{reached_value}

abbrev L : Type 0
L = List Reached

-- ---- what stands in each of them

module _ {H : Type 0} (own : H → L) where
  abbrev in_a_kind : FnPtrKind H → L
  in_a_kind = fold-FnPtrKind H L L L L L L L L (in_kind own) (in_union own) in_value in_environ in_pointer in_import in_module in_function

  abbrev in_a_union : Union H → L
  in_a_union = fold-Union H L L L L L L L L (in_kind own) (in_union own) in_value in_environ in_pointer in_import in_module in_function

  abbrev in_an_environ : EncapsulatedEnviron H → L
  in_an_environ = fold-EncapsulatedEnviron H L L L L L L L L (in_kind own) (in_union own) in_value in_environ in_pointer in_import in_module
      in_function

  abbrev in_a_pointer : FnPtr H → L
  in_a_pointer = fold-FnPtr H L L L L L L L L (in_kind own) (in_union own) in_value in_environ in_pointer in_import in_module in_function

  abbrev in_an_import : Import H → L
  in_an_import = fold-Import H L L L L L L L L (in_kind own) (in_union own) in_value in_environ in_pointer in_import in_module in_function

  abbrev in_a_module : Module H → L
  in_a_module = fold-Module H L L L L L L L L (in_kind own) (in_union own) in_value in_environ in_pointer in_import in_module in_function

  abbrev in_a_function : ModuleFn H → L
  in_a_function = fold-ModuleFn H L L L L L L L L (in_kind own) (in_union own) in_value in_environ in_pointer in_import in_module
      in_function

-- ---- from what stands in the parts

module _ {H : Type 0} (own other : H → L) (P : Reached → Type 0) (less : (v : H) → AllHave P (own v) → AllHave P (other v)) where
  abbrev LessKind : FnPtrKind H → Type 0
  LessKind k = AllHave P (in_a_kind own k) → AllHave P (in_a_kind other k)

  abbrev LessUnion : Union H → Type 0
  LessUnion u = AllHave P (in_a_union own u) → AllHave P (in_a_union other u)

  abbrev LessValue : Dynamic H → Type 0
  LessValue d = LessUnion d.value

  abbrev LessEnviron : EncapsulatedEnviron H → Type 0
  LessEnviron e = AllHave P (in_an_environ own e) → AllHave P (in_an_environ other e)

  abbrev LessPointer : FnPtr H → Type 0
  LessPointer p = AllHave P (in_a_pointer own p) → AllHave P (in_a_pointer other p)

  abbrev LessImport : Import H → Type 0
  LessImport i = AllHave P (in_an_import own i) → AllHave P (in_an_import other i)

  abbrev LessModule : Module H → Type 0
  LessModule m = AllHave P (in_a_module own m) → AllHave P (in_a_module other m)

  abbrev LessFunction : ModuleFn H → Type 0
  LessFunction f = AllHave P (in_a_function own f) → AllHave P (in_a_function other f)

  -- what is behind one level, each with its claim
  abbrev K : Type 0
  K = (k : FnPtrKind H) × LessKind k

  abbrev U : Type 0
  U = (u : Union H) × LessUnion u

  abbrev D : Type 0
  D = (d : Dynamic H) × LessValue d

  abbrev E : Type 0
  E = (e : EncapsulatedEnviron H) × LessEnviron e

  abbrev F : Type 0
  F = (p : FnPtr H) × LessPointer p

  abbrev I : Type 0
  I = (i : Import H) × LessImport i

  abbrev M : Type 0
  M = (m : Module H) × LessModule m

  abbrev G : Type 0
  G = (f : ModuleFn H) × LessFunction f

  value_by : (d : Dynamic H) → LessValue d → AllHave P (contents_of own d) → AllHave P (contents_of other d)
  value_by d f h = subst (AllHave P) (sym (reached_value other d)) (f (subst (AllHave P) (reached_value own d) h))

  -- lists, by what stands in each item
  module _ {A : Type 0} (f g : A → L) (Q : A → Type 0) (by : (a : A) → Q a → AllHave P (f a) → AllHave P (g a)) where
    each_by : (es : List ((a : A) × Q a)) → AllHave P (each (map f (map (λ e. e.0) es))) → AllHave P (each (map g (map (λ e. e.0) es)))
    each_by [] h = tt
    each_by (e ∷ es) h =
        let had : L = each (map f (map (λ e. e.0) es)) in
        let has : L = each (map g (map (λ e. e.0) es)) in
        all_joined P (g e.0) has (by e.0 e.1 (all_left P (f e.0) had h)) (each_by es (all_right P (f e.0) had h))

  values_by : (es : List D) → AllHave P (each (map (contents_of own) (map (λ e. e.0) es))) →
      AllHave P (each (map (contents_of other) (map (λ e. e.0) es)))
  values_by = each_by (contents_of own) (contents_of other) LessValue value_by

  imports_by : (es : List I) → AllHave P (each (map (in_an_import own) (map (λ e. e.0) es))) →
      AllHave P (each (map (in_an_import other) (map (λ e. e.0) es)))
  imports_by = each_by (in_an_import own) (in_an_import other) LessImport (λ a f. f)

  modules_by : (es : List M) → AllHave P (each (map (in_a_module own) (map (λ e. e.0) es))) →
      AllHave P (each (map (in_a_module other) (map (λ e. e.0) es)))
  modules_by = each_by (in_a_module own) (in_a_module other) LessModule (λ a f. f)

  functions_by : (es : List G) → AllHave P (each (map (in_a_function own) (map (λ e. e.0) es))) →
      AllHave P (each (map (in_a_function other) (map (λ e. e.0) es)))
  functions_by = each_by (in_a_function own) (in_a_function other) LessFunction (λ a f. f)

  both_by : (a b c d : L) → (AllHave P a → AllHave P b) → (AllHave P c → AllHave P d) → AllHave P (a ++ c) → AllHave P (b ++ d)
  both_by a b c d f g h = all_joined P b d (f (all_left P a c h)) (g (all_right P a c h))

  -- ---- level by level

  abbrev bare_kind : layer.FnPtrKind-F H K U D E F I M G → layer.FnPtrKind-F H (FnPtrKind H) (Union H) (Dynamic H) (EncapsulatedEnviron H)
      (FnPtr H) (Import H) (Module H) (ModuleFn H)
  bare_kind = map-FnPtrKind H K U D E F I M G (FnPtrKind H) (Union H) (Dynamic H) (EncapsulatedEnviron H) (FnPtr H) (Import H) (Module H)
      (ModuleFn H) (λ e. e.0) (λ e. e.0) (λ e. e.0) (λ e. e.0) (λ e. e.0) (λ e. e.0) (λ e. e.0) (λ e. e.0)

  abbrev bare_union : layer.Union-F H K U D E F I M G → layer.Union-F H (FnPtrKind H) (Union H) (Dynamic H) (EncapsulatedEnviron H)
      (FnPtr H) (Import H) (Module H) (ModuleFn H)
  bare_union = map-Union H K U D E F I M G (FnPtrKind H) (Union H) (Dynamic H) (EncapsulatedEnviron H) (FnPtr H) (Import H) (Module H)
      (ModuleFn H) (λ e. e.0) (λ e. e.0) (λ e. e.0) (λ e. e.0) (λ e. e.0) (λ e. e.0) (λ e. e.0) (λ e. e.0)

  abbrev bare_environ : layer.EncapsulatedEnviron-F H K U D E F I M G → layer.EncapsulatedEnviron-F H (FnPtrKind H) (Union H) (Dynamic H)
      (EncapsulatedEnviron H) (FnPtr H) (Import H) (Module H) (ModuleFn H)
  bare_environ = map-EncapsulatedEnviron H K U D E F I M G (FnPtrKind H) (Union H) (Dynamic H) (EncapsulatedEnviron H) (FnPtr H) (Import H)
      (Module H) (ModuleFn H) (λ e. e.0) (λ e. e.0) (λ e. e.0) (λ e. e.0) (λ e. e.0) (λ e. e.0) (λ e. e.0) (λ e. e.0)

  abbrev bare_pointer : layer.FnPtr-F H K U D E F I M G → layer.FnPtr-F H (FnPtrKind H) (Union H) (Dynamic H) (EncapsulatedEnviron H)
      (FnPtr H) (Import H) (Module H) (ModuleFn H)
  bare_pointer = map-FnPtr H K U D E F I M G (FnPtrKind H) (Union H) (Dynamic H) (EncapsulatedEnviron H) (FnPtr H) (Import H) (Module H)
      (ModuleFn H) (λ e. e.0) (λ e. e.0) (λ e. e.0) (λ e. e.0) (λ e. e.0) (λ e. e.0) (λ e. e.0) (λ e. e.0)

  abbrev bare_import : layer.Import-F H K U D E F I M G → layer.Import-F H (FnPtrKind H) (Union H) (Dynamic H) (EncapsulatedEnviron H)
      (FnPtr H) (Import H) (Module H) (ModuleFn H)
  bare_import = map-Import H K U D E F I M G (FnPtrKind H) (Union H) (Dynamic H) (EncapsulatedEnviron H) (FnPtr H) (Import H) (Module H)
      (ModuleFn H) (λ e. e.0) (λ e. e.0) (λ e. e.0) (λ e. e.0) (λ e. e.0) (λ e. e.0) (λ e. e.0) (λ e. e.0)

  abbrev bare_module : layer.Module-F H K U D E F I M G → layer.Module-F H (FnPtrKind H) (Union H) (Dynamic H) (EncapsulatedEnviron H)
      (FnPtr H) (Import H) (Module H) (ModuleFn H)
  bare_module = map-Module H K U D E F I M G (FnPtrKind H) (Union H) (Dynamic H) (EncapsulatedEnviron H) (FnPtr H) (Import H) (Module H)
      (ModuleFn H) (λ e. e.0) (λ e. e.0) (λ e. e.0) (λ e. e.0) (λ e. e.0) (λ e. e.0) (λ e. e.0) (λ e. e.0)

  abbrev bare_function : layer.ModuleFn-F H K U D E F I M G → layer.ModuleFn-F H (FnPtrKind H) (Union H) (Dynamic H) (EncapsulatedEnviron H)
      (FnPtr H) (Import H) (Module H) (ModuleFn H)
  bare_function = map-ModuleFn H K U D E F I M G (FnPtrKind H) (Union H) (Dynamic H) (EncapsulatedEnviron H) (FnPtr H) (Import H) (Module H)
      (ModuleFn H) (λ e. e.0) (λ e. e.0) (λ e. e.0) (λ e. e.0) (λ e. e.0) (λ e. e.0) (λ e. e.0) (λ e. e.0)

  kind_step : (y : layer.FnPtrKind-F H K U D E F I M G) → LessKind (roll-FnPtrKind H (bare_kind y))
  kind_step (layer.Script def (Some e)) h =
      let had = rw fold-roll-FnPtrKind at h in
      rw fold-roll-FnPtrKind (had.0, e.1 had.1)
  kind_step (layer.Script def None) h = rw fold-roll-FnPtrKind (rw fold-roll-FnPtrKind at h)
  kind_step _ h = rw fold-roll-FnPtrKind tt

  union_step : (y : layer.Union-F H K U D E F I M G) → LessUnion (roll-Union H (bare_union y))
  union_step (layer.Array es) h = rw fold-roll-Union (values_by es (rw fold-roll-Union at h))
  union_step (layer.Map es) h = rw fold-roll-Union (values_by es.1 (rw fold-roll-Union at h))
  union_step (layer.FnPtr e) h = rw fold-roll-Union (e.1 (rw fold-roll-Union at h))
  union_step (layer.Host v) h = rw fold-roll-Union (less v (rw fold-roll-Union at h))
  union_step (layer.Cell id) h = rw fold-roll-Union (rw fold-roll-Union at h)
  union_step _ h = rw fold-roll-Union tt

  environ_step : (y : layer.EncapsulatedEnviron-F H K U D E F I M G) → LessEnviron (roll-EncapsulatedEnviron H (bare_environ y))
  environ_step y h =
      let had = rw fold-roll-EncapsulatedEnviron at h in
      rw fold-roll-EncapsulatedEnviron (had.0, both_by _ _ _ _ (modules_by y.lib) (imports_by y.imports) had.1)

  pointer_step : (y : layer.FnPtr-F H K U D E F I M G) → LessPointer (roll-FnPtr H (bare_pointer y))
  pointer_step y h = rw fold-roll-FnPtr (both_by _ _ _ _ (values_by y.curry) y.kind.1 (rw fold-roll-FnPtr at h))

  import_step : (y : layer.Import-F H K U D E F I M G) → LessImport (roll-Import H (bare_import y))
  import_step y h = rw fold-roll-Import (y.module.1 (rw fold-roll-Import at h))

  module_step : (y : layer.Module-F H K U D E F I M G) → LessModule (roll-Module H (bare_module y))
  module_step y h = rw fold-roll-Module (both_by _ _ _ _ (values_by y.constants.1)
      (both_by _ _ _ _ (functions_by y.functions) (modules_by y.sub_modules.1)) (rw fold-roll-Module at h))

  function_by : (def : ScriptFuncDef) (environ : Option E) (is_global : Bool) →
      LessFunction (roll-ModuleFn H (bare_function (record { def = def; environ = environ; is_global = is_global })))
  function_by def None is_global h = rw fold-roll-ModuleFn (rw fold-roll-ModuleFn at h)
  function_by def (Some e) is_global h =
      let had = rw fold-roll-ModuleFn at h in
      rw fold-roll-ModuleFn (had.0, e.1 had.1)

  function_step : (y : layer.ModuleFn-F H K U D E F I M G) → LessFunction (roll-ModuleFn H (bare_function y))
  function_step y = function_by y.def y.environ y.is_global

  unions : (u : Union H) → LessUnion u
  unions = ind-Union H LessKind LessUnion LessValue LessEnviron LessPointer LessImport LessModule LessFunction
      (λ x y is. subst (λ z. LessKind (roll-FnPtrKind H z)) is (kind_step y))
      (λ x y is. subst (λ z. LessUnion (roll-Union H z)) is (union_step y))
      (λ x y is. subst (λ z. LessUnion z) (ap (λ z. z.value) is) y.value.1)
      (λ x y is. subst (λ z. LessEnviron (roll-EncapsulatedEnviron H z)) is (environ_step y))
      (λ x y is. subst (λ z. LessPointer (roll-FnPtr H z)) is (pointer_step y))
      (λ x y is. subst (λ z. LessImport (roll-Import H z)) is (import_step y))
      (λ x y is. subst (λ z. LessModule (roll-Module H z)) is (module_step y))
      (λ x y is. subst (λ z. LessFunction (roll-ModuleFn H z)) is (function_step y))

  pub value_less : (v : Dynamic H) → AllHave P (contents_of own v) → AllHave P (contents_of other v)
  value_less v = value_by v (unions v.value)

  pub module_less : (m : Module H) → AllHave P (module_contents own m) → AllHave P (module_contents other m)
  module_less = ind-Module H LessKind LessUnion LessValue LessEnviron LessPointer LessImport LessModule LessFunction
      (λ x y is. subst (λ z. LessKind (roll-FnPtrKind H z)) is (kind_step y))
      (λ x y is. subst (λ z. LessUnion (roll-Union H z)) is (union_step y))
      (λ x y is. subst (λ z. LessUnion z) (ap (λ z. z.value) is) y.value.1)
      (λ x y is. subst (λ z. LessEnviron (roll-EncapsulatedEnviron H z)) is (environ_step y))
      (λ x y is. subst (λ z. LessPointer (roll-FnPtr H z)) is (pointer_step y))
      (λ x y is. subst (λ z. LessImport (roll-Import H z)) is (import_step y))
      (λ x y is. subst (λ z. LessModule (roll-Module H z)) is (module_step y))
      (λ x y is. subst (λ z. LessFunction (roll-ModuleFn H z)) is (function_step y))
