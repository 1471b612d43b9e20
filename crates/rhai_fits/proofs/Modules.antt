-- Modules that contain only what has a property, and their parts: constants, functions with their environments, and modules.
use Rattle.std.proofs.Common.{◌≡◌, List, [], ◌∷◌, ◌++◌, map, refl, subst}
use Rattle.std.specs.Prelude.{⊤, Option, Some, None}
use Rattle.rhai_values.specs.declared.base.value.EncapsulatedEnviron.{EncapsulatedEnviron, out-EncapsulatedEnviron}
use Rattle.rhai_values.specs.declared.base.value.FnPtrKind.{FnPtrKind, out-FnPtrKind}
use Rattle.rhai_values.specs.declared.base.value.FnPtrKind.TheOpen as layer
use Rattle.rhai_values.specs.declared.base.value.FnPtrKind.TheFolds.{fold-EncapsulatedEnviron, fold-Import, fold-ModuleFn}
use Rattle.rhai_values.specs.declared.base.value.FnPtrKind.TheFolds.{fold_out-EncapsulatedEnviron, fold_out-FnPtrKind, fold_out-Import}
use Rattle.rhai_values.specs.declared.base.value.FnPtrKind.TheFolds.{fold_out-Module, fold_out-ModuleFn}
use Rattle.rhai_values.specs.declared.base.value.Import.{Import, out-Import}
use Rattle.rhai_values.specs.declared.base.value.Module.{Module, out-Module}
use Rattle.rhai_values.specs.declared.base.value.ModuleFn.{ModuleFn, out-ModuleFn}
use Rattle.rhai_tree.specs.declared.function.ScriptFuncDef.{ScriptFuncDef}
use Rattle.rhai_values.specs.ValueContents.{Reached, Constants, Function, each, in_kind, in_union, maybe, contents_of}
use Rattle.rhai_machine.specs.language.Arguments.{KindLayer}
use Rattle.rhai_fits.specs.Modules.{module_contents}
use Rattle.rhai_fits.proofs.Properties.{AllHave, all_left, all_right}
use Rattle.rhai_fits.proofs.Values.{Fits, FitKind, reached_kind, reached_are_fit}

-- ---- what modules contain, by one level

module _ {H : Type 0} (own : H → List Reached) where
  abbrev L : Type 0
  L = List Reached

  abbrev reached_environ : EncapsulatedEnviron H → L
  reached_environ = fold-EncapsulatedEnviron H L L L L L L L L (in_kind own) (in_union own) (λ d. d.value)
      (λ e. Constants e.constants ∷ (each e.lib ++ each e.imports))
      (λ p. each p.curry ++ p.kind) (λ i. i.module) (λ m. each m.constants.1 ++ (each m.functions ++ each m.sub_modules.1))
      (λ f. Function f.def ∷ maybe f.environ)

  abbrev reached_import : Import H → L
  reached_import = fold-Import H L L L L L L L L (in_kind own) (in_union own) (λ d. d.value)
      (λ e. Constants e.constants ∷ (each e.lib ++ each e.imports))
      (λ p. each p.curry ++ p.kind) (λ i. i.module) (λ m. each m.constants.1 ++ (each m.functions ++ each m.sub_modules.1))
      (λ f. Function f.def ∷ maybe f.environ)

  abbrev reached_function : ModuleFn H → L
  reached_function = fold-ModuleFn H L L L L L L L L (in_kind own) (in_union own) (λ d. d.value)
      (λ e. Constants e.constants ∷ (each e.lib ++ each e.imports))
      (λ p. each p.curry ++ p.kind) (λ i. i.module) (λ m. each m.constants.1 ++ (each m.functions ++ each m.sub_modules.1))
      (λ f. Function f.def ∷ maybe f.environ)

  environ_out : (e : EncapsulatedEnviron H) →
      reached_environ e ≡ Constants (out-EncapsulatedEnviron H e).constants
      ∷ (each (map (module_contents own) (out-EncapsulatedEnviron H e).lib)
      ++ each (map reached_import (out-EncapsulatedEnviron H e).imports))
  environ_out e = rw fold_out-EncapsulatedEnviron refl

  import_out : (i : Import H) → reached_import i ≡ module_contents own (out-Import H i).module
  import_out i = rw fold_out-Import refl

  module_out : (m : Module H) →
      module_contents own m ≡ each (map (contents_of own) (out-Module H m).constants.1) ++
      (each (map reached_function (out-Module H m).functions)
      ++ each (map (module_contents own) (out-Module H m).sub_modules.1))
  module_out m = rw fold_out-Module refl

  function_out : (f : ModuleFn H) (e : EncapsulatedEnviron H) → (out-ModuleFn H f).environ ≡ Some e →
      reached_function f ≡ Function (out-ModuleFn H f).def ∷ reached_environ e
  function_out f e is = rw (fold_out-ModuleFn, is) refl

  script_out : (kind : FnPtrKind H) (def : ScriptFuncDef) (e : EncapsulatedEnviron H) → out-FnPtrKind H kind ≡ layer.Script def (Some e) →
      reached_kind own kind ≡ Function def ∷ reached_environ e
  script_out kind def e is = rw (fold_out-FnPtrKind, is) refl

  module _ (P : Reached → Type 0) where
    -- ---- modules that fit

    unfoldable pub FitModule : Module H → Type 0
    FitModule m = AllHave P (module_contents own m)

    pub module_reached : (m : Module H) → FitModule m → AllHave P (module_contents own m)
    unfolding FitModule
    module_reached m h = h

    pub reached_module : (m : Module H) → AllHave P (module_contents own m) → FitModule m
    unfolding FitModule
    reached_module m h = h

    abbrev pub FitModules : List (Module H) → Type 0
    FitModules [] = ⊤
    FitModules (m ∷ ms) = FitModule m × FitModules ms

    abbrev pub FitImports : List (Import H) → Type 0
    FitImports [] = ⊤
    FitImports (i ∷ imports) = FitModule (out-Import H i).module × FitImports imports

    -- the environment that a function may have
    abbrev pub FitEnviron : Option (EncapsulatedEnviron H) → Type 0
    FitEnviron None = ⊤
    FitEnviron (Some e) = FitModules (out-EncapsulatedEnviron H e).lib × FitImports (out-EncapsulatedEnviron H e).imports

    abbrev pub FitFunction : ModuleFn H → Type 0
    FitFunction f = FitEnviron (out-ModuleFn H f).environ

    abbrev pub FitFunctions : List (ModuleFn H) → Type 0
    FitFunctions [] = ⊤
    FitFunctions (f ∷ fs) = FitFunction f × FitFunctions fs

    -- ---- their parts

    modules_reached : (ms : List (Module H)) → AllHave P (each (map (module_contents own) ms)) → FitModules ms
    modules_reached [] h = tt
    modules_reached (m ∷ ms) h = (
      reached_module m (all_left P (module_contents own m) (each (map (module_contents own) ms)) h),
      modules_reached ms (all_right P (module_contents own m) (each (map (module_contents own) ms)) h),
    )

    imports_reached : (imports : List (Import H)) → AllHave P (each (map reached_import imports)) → FitImports imports
    imports_reached [] h = tt
    imports_reached (i ∷ imports) h = (
      reached_module (out-Import H i).module
          (subst (AllHave P) (import_out i) (all_left P (reached_import i) (each (map reached_import imports)) h)),
      imports_reached imports (all_right P (reached_import i) (each (map reached_import imports)) h),
    )

    environ_reached : (e : EncapsulatedEnviron H) → AllHave P (reached_environ e) → FitEnviron (Some e)
    environ_reached e h =
        let parts = subst (AllHave P) (environ_out e) h in
        let libraries : L = each (map (module_contents own) (out-EncapsulatedEnviron H e).lib) in
        let imports : L = each (map reached_import (out-EncapsulatedEnviron H e).imports) in (
          modules_reached (out-EncapsulatedEnviron H e).lib (all_left P libraries imports parts.1),
          imports_reached (out-EncapsulatedEnviron H e).imports (all_right P libraries imports parts.1),
        )

    function_by : (f : ModuleFn H) (environ : Option (EncapsulatedEnviron H)) → (out-ModuleFn H f).environ ≡ environ →
        AllHave P (reached_function f) → FitEnviron environ
    function_by f None is h = tt
    function_by f (Some e) is h = environ_reached e (subst (AllHave P) (function_out f e is) h).1

    functions_reached : (fs : List (ModuleFn H)) → AllHave P (each (map reached_function fs)) → FitFunctions fs
    functions_reached [] h = tt
    functions_reached (f ∷ fs) h = (
      function_by f (out-ModuleFn H f).environ refl (all_left P (reached_function f) (each (map reached_function fs)) h),
      functions_reached fs (all_right P (reached_function f) (each (map reached_function fs)) h),
    )

    -- the constants, the functions and the modules of a module
    pub record FitParts (m : Module H) : Type 0 where
      pub constants : Fits own P (out-Module H m).constants.1
      pub functions : FitFunctions (out-Module H m).functions
      pub modules : FitModules (out-Module H m).sub_modules.1

    pub module_parts : (m : Module H) → FitModule m → FitParts m
    module_parts m h =
        let constants : L = each (map (contents_of own) (out-Module H m).constants.1) in
        let functions : L = each (map reached_function (out-Module H m).functions) in
        let modules : L = each (map (module_contents own) (out-Module H m).sub_modules.1) in
        let parts = subst (AllHave P) (module_out m) (module_reached m h) in
        let others = all_right P constants (functions ++ modules) parts in
        record {
          constants = reached_are_fit own P (out-Module H m).constants.1 (all_left P constants (functions ++ modules) parts);
          functions = functions_reached (out-Module H m).functions (all_left P functions modules others);
          modules = modules_reached (out-Module H m).sub_modules.1 (all_right P functions modules others);
        }

    -- ---- what a pointer leads to

    abbrev pub FitKindLayer : KindLayer H → Type 0
    FitKindLayer (layer.Script def environ) = FitEnviron environ
    FitKindLayer _ = ⊤

    kind_by : (kind : FnPtrKind H) (l : KindLayer H) → out-FnPtrKind H kind ≡ l → FitKind own P kind → FitKindLayer l
    unfolding FitKind
    kind_by kind (layer.Script def (Some e)) is h = environ_reached e (subst (AllHave P) (script_out kind def e is) h).1
    kind_by kind _ is h = tt

    -- a function that a pointer leads to has an environment that fits
    pub kind_fits : (kind : FnPtrKind H) → FitKind own P kind → FitKindLayer (out-FnPtrKind H kind)
    kind_fits kind h = kind_by kind (out-FnPtrKind H kind) refl h
