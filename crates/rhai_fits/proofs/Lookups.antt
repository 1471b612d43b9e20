-- What names and paths lead to in modules fits: constants, functions with their environments, and modules.
use Rattle.std.proofs.Common.{ℕ, zero, suc, List, [], ◌∷◌, ◌++◌}
use Rattle.std.specs.Prelude.{⊤, Bool, true, false, Option, Some, None, if◌then◌else◌, option_and_then, option_map, slice_get}
use Rattle.std.specs.Option.{option_or}
use Rattle.std.specs.Str.{bytes_eq}
use Rattle.rhai_tree.specs.Lookup.{place_of, value_of}
use Rattle.rhai_values.specs.declared.base.value.AccessMode.TheVariants.{ReadOnly}
use Rattle.rhai_values.specs.declared.base.value.FnPtr.{out-FnPtr}
use Rattle.rhai_values.specs.declared.base.value.FnPtrKind.{FnPtrKind, out-FnPtrKind}
use Rattle.rhai_values.specs.declared.base.value.FnPtrKind.TheOpen as union
use Rattle.rhai_values.specs.declared.base.value.FnPtrKind.TheVariants as kind
use Rattle.rhai_values.specs.Copy.{copy_of}
use Rattle.rhai_values.specs.ValueContents.{Reached}
use Rattle.rhai_functions.specs.Called.{function_of}
use Rattle.rhai_functions.specs.Functions.{FunctionKey, def_of, first_given, found_in, functions_of, has_key, if_shown, in_imports}
use Rattle.rhai_functions.specs.Functions.{in_module, in_modules, in_named, is_public, is_shown, last_given, last_of, later_of, shown_in}
use Rattle.rhai_functions.specs.Namespaces.{constant_among, constant_in, down, if_public, imported, module_in, module_if_named, public_in}
use Rattle.rhai_functions.specs.Namespaces.{root_in}
use Rattle.rhai_machine.specs.Qualified.{text_behind, found_or_missing, from_root, is_global, path_text, qualified, without_root}
use Rattle.rhai_machine.specs.Types.{Dynamic, FnPtr, Import, out-Import, Module, out-Module, ModuleFn, out-ModuleFn, Position}
use Rattle.rhai_machine.specs.language.Arguments.{KindLayer, linked, linked_to, own_function}
use Rattle.rhai_machine.specs.language.Functions.{Function, found_function, in_libraries, key_by}
use Rattle.rhai_machine.specs.language.Setting.{Offer}
use Rattle.rhai_machine.specs.language.State.{Surroundings}
use Rattle.rhai_fits.specs.Contents.{of_values, of_maybe, of_modules, of_imports, of_environ, of_around}
use Rattle.rhai_fits.proofs.Values.{FitKind, FitPointer}
use Rattle.rhai_fits.proofs.Copies.{fit_copy, fit_mode}
use Rattle.rhai_fits.proofs.Errors.{fit_error}
use Rattle.rhai_fits.proofs.Modules.{FitModule, FitFunction, FitFunctions, FitKindLayer, kind_fits, module_parts}
use Rattle.rhai_fits.proofs.Fitting.{AllFit, FitOffer, Gives, all_fit, values_at, modules_fit, environ_fits}
use Rattle.rhai_fits.proofs.Seeing.{FitValue}

module _ {H : Type 0} (own : H → List Reached) (P : Reached → Type 0) (least : ℕ) where
  -- ---- what may be there

  -- what is there has a property
  abbrev pub There : {A : Type 0} → (A → Type 0) → Option A → Type 0
  There Q None = ⊤
  There Q (Some x) = Q x

  pub or_there : {A : Type 0} (Q : A → Type 0) (a b : Option A) → There Q a → There Q b → There Q (option_or a b)
  or_there Q None b h g = g
  or_there Q (Some x) b h g = h

  if_there : {A : Type 0} (Q : A → Type 0) (c : Bool) (x : A) → Q x → There Q (if c then Some x else None)
  if_there Q true x h = h
  if_there Q false x h = tt

  maybe_there : (v : Option (Dynamic H)) → AllFit own P least (of_maybe v) → There (FitValue own P least) v
  maybe_there None h = tt
  maybe_there (Some v) h = h

  there_maybe : (v : Option (Dynamic H)) → There (FitValue own P least) v → AllFit own P least (of_maybe v)
  there_maybe None h = tt
  there_maybe (Some v) h = h

  -- what the first of some modules gives, and the last of some imports
  module _ {A : Type 0} (Q : A → Type 0) where
    first_fits : (gives : Module H → Option A) → ((m : Module H) → FitModule own P m → There Q (gives m)) → (ms : List (Module H)) →
        AllFit own P least (of_modules ms) → There Q (first_given gives ms)
    first_fits gives f [] h = tt
    first_fits gives f (m ∷ ms) h = or_there Q (gives m) (first_given gives ms) (f m h.0) (first_fits gives f ms h.1)

    last_fits : (gives : Import H → Option A) → ((i : Import H) → FitModule own P (out-Import H i).module → There Q (gives i)) →
        (imports : List (Import H)) → AllFit own P least (of_imports imports) → There Q (last_given gives imports)
    last_fits gives f [] h = tt
    last_fits gives f (i ∷ imports) h =
        or_there Q (last_given gives imports) (gives i) (last_fits gives f imports h.1) (f i h.0)

  -- ---- values and modules under names

  at_fits : (at : Option ℕ) (vs : List (Dynamic H)) → AllFit own P least (of_values vs) →
      AllFit own P least (of_maybe (option_and_then (λ at. slice_get vs at) at))
  at_fits None vs h = tt
  at_fits (Some at) vs h = values_at own P least vs at h

  pub value_of_fits : (key : List ℕ) (entries : List (List ℕ) × List (Dynamic H)) → AllFit own P least (of_values entries.1) →
      AllFit own P least (of_maybe (value_of key entries))
  value_of_fits key entries h = at_fits (place_of key entries.0) entries.1 h

  modules_at : (ms : List (Module H)) (n : ℕ) → AllFit own P least (of_modules ms) → There (FitModule own P) (slice_get ms n)
  modules_at [] n h = tt
  modules_at (m ∷ ms) zero h = h.0
  modules_at (m ∷ ms) (suc n) h = modules_at ms n h.1

  module_at_fits : (at : Option ℕ) (ms : List (Module H)) → AllFit own P least (of_modules ms) →
      There (FitModule own P) (option_and_then (λ at. slice_get ms at) at)
  module_at_fits None ms h = tt
  module_at_fits (Some at) ms h = modules_at ms at h

  pub module_of_fits : (name : List ℕ) (named : List (List ℕ) × List (Module H)) → AllFit own P least (of_modules named.1) →
      There (FitModule own P) (value_of name named)
  module_of_fits name named h = module_at_fits (place_of name named.0) named.1 h

  -- ---- constants

  constant_fits : (name : List ℕ) (m : Module H) → FitModule own P m → AllFit own P least (of_maybe (constant_in name m))
  constant_fits name m h = value_of_fits name (out-Module H m).constants
      (all_fit own P least (out-Module H m).constants.1 (module_parts own P m h).constants)

  pub among_fits : (name : List ℕ) (ms : List (Module H)) → AllFit own P least (of_modules ms) →
      AllFit own P least (of_maybe (constant_among name ms))
  among_fits name ms h = there_maybe (constant_among name ms) (first_fits (FitValue own P least) (constant_in name)
      (λ m f. maybe_there (constant_in name m) (constant_fits name m f)) ms h)

  -- ---- paths

  within_fits : (name : List ℕ) (from : Option (Module H)) → There (FitModule own P) from →
      There (FitModule own P) (option_and_then (module_in name) from)
  within_fits name None h = tt
  within_fits name (Some m) h = module_of_fits name (out-Module H m).sub_modules
      (modules_fit own P least (out-Module H m).sub_modules.1 (module_parts own P m h).modules)

  down_fits : (path : List (List ℕ)) (from : Option (Module H)) → There (FitModule own P) from → There (FitModule own P) (down path from)
  down_fits [] from h = h
  down_fits (name ∷ path) from h = down_fits path (option_and_then (module_in name) from) (within_fits name from h)

  named_so_fits : (name : List ℕ) (i : Import H) → FitModule own P (out-Import H i).module →
      There (FitModule own P) (module_if_named name i)
  named_so_fits name i h = if_there (FitModule own P) (bytes_eq (out-Import H i).name name) (out-Import H i).module h

  root_fits : (name : List ℕ) (imports : List (Import H)) (named : List (List ℕ) × List (Module H)) →
      AllFit own P least (of_imports imports) → AllFit own P least (of_modules named.1) →
      There (FitModule own P) (root_in name imports named)
  root_fits name imports named h g = or_there (FitModule own P) (imported name imports) (value_of name named)
      (last_fits (FitModule own P) (module_if_named name) (named_so_fits name) imports h) (module_of_fits name named g)

  -- a constant behind a path, or why there is none
  constant_down : (name : List ℕ) (within : Option (Module H)) → There (FitModule own P) within →
      AllFit own P least (of_maybe (option_and_then (constant_in name) within))
  constant_down name None h = tt
  constant_down name (Some m) h = constant_fits name m h

  missing_gives : (there : Option (Dynamic H)) (text : List ℕ) (at : Position) → AllFit own P least (of_maybe there) →
      Gives own P least (FitValue own P least) (found_or_missing there text at)
  missing_gives (Some v) text at h = fit_mode own P ReadOnly (copy_of v) (fit_copy own P v h)
  missing_gives None text at h = fit_error own P _ tt

  rootless_gives : (global : Bool) (there : Option (Dynamic H)) (path : List (List ℕ)) (text : List ℕ) (at : Position) →
      AllFit own P least (of_maybe there) → Gives own P least (FitValue own P least) (without_root global there path text at)
  rootless_gives true there path text at h = missing_gives there text at h
  rootless_gives false there path text at h = fit_error own P _ tt

  from_root_gives : (root : Option (Module H)) (there : Option (Dynamic H)) (path rest : List (List ℕ)) (name : List ℕ) (at : Position) →
      There (FitModule own P) root → AllFit own P least (of_maybe there) →
      Gives own P least (FitValue own P least) (from_root root there path rest name at)
  from_root_gives (Some root) there path rest name at h g = missing_gives (option_and_then (constant_in name) (down rest (Some root)))
      (path_text path ++ text_behind (name ∷ [])) at (constant_down name (down rest (Some root)) (down_fits rest (Some root) h))
  from_root_gives None there path rest name at h g =
      rootless_gives (is_global path) there path (path_text path ++ text_behind (name ∷ [])) at g

  pub qualified_gives : (imports : List (Import H)) (named : List (List ℕ) × List (Module H))
      (constants : List (List ℕ) × List (Dynamic H)) (path : List (List ℕ)) (name : List ℕ) (at : Position) →
      AllFit own P least (of_imports imports) → AllFit own P least (of_modules named.1) → AllFit own P least (of_values constants.1) →
      Gives own P least (FitValue own P least) (qualified imports named constants path name at)
  qualified_gives imports named constants [] name at h g c = fit_error own P _ tt
  qualified_gives imports named constants (root ∷ rest) name at h g c =
      from_root_gives (root_in root imports named) (value_of name constants) (root ∷ rest) rest name at (root_fits root imports named h g)
      (value_of_fits name constants c)

  -- ---- functions of modules

  later_fits : (later : Option (ModuleFn H)) (found : Bool) (f : ModuleFn H) → There (FitFunction own P) later → FitFunction own P f →
      There (FitFunction own P) (later_of later found f)
  later_fits (Some g) found f h p = h
  later_fits None true f h p = p
  later_fits None false f h p = tt

  last_of_fits : (key : FunctionKey) (fs : List (ModuleFn H)) → FitFunctions own P fs → There (FitFunction own P) (last_of key fs)
  last_of_fits key [] h = tt
  last_of_fits key (f ∷ fs) h = later_fits (last_of key fs) (has_key key (def_of f)) f (last_of_fits key fs h.1) h.0

  in_module_fits : (key : FunctionKey) (m : Module H) → FitModule own P m → There (FitFunction own P) (in_module key m)
  in_module_fits key m h = last_of_fits key (functions_of m) (module_parts own P m h).functions

  in_modules_fits : (key : FunctionKey) (ms : List (Module H)) → AllFit own P least (of_modules ms) →
      There (FitFunction own P) (in_modules key ms)
  in_modules_fits key ms h = first_fits (FitFunction own P) (in_module key) (in_module_fits key) ms h

  if_shown_fits : (found : Option (ModuleFn H)) → There (FitFunction own P) found → There (FitFunction own P) (if_shown found)
  if_shown_fits None h = tt
  if_shown_fits (Some f) h = if_there (FitFunction own P) (is_shown f) f h

  shown_fits : (key : FunctionKey) (m : Module H) → FitModule own P m → There (FitFunction own P) (shown_in key m)
  shown_fits key m h = if_shown_fits (in_module key m) (in_module_fits key m h)

  found_in_fits : (key : FunctionKey) (lib global : List (Module H)) (imports : List (Import H)) (named : List (Module H)) →
      AllFit own P least (of_modules lib) → AllFit own P least (of_modules global) → AllFit own P least (of_imports imports) →
      AllFit own P least (of_modules named) → There (FitFunction own P) (found_in key lib global imports named)
  found_in_fits key lib global imports named l g i n =
      let Q = FitFunction own P in
      or_there Q (in_modules key lib) _ (in_modules_fits key lib l)
      (or_there Q (in_modules key global) _ (in_modules_fits key global g)
      (or_there Q (in_imports key imports) (in_named key named)
      (last_fits Q (λ i. shown_in key (out-Import H i).module) (λ i h. shown_fits key (out-Import H i).module h) imports i)
      (first_fits Q (shown_in key) (shown_fits key) named n)))

  if_public_fits : (found : Option (ModuleFn H)) → There (FitFunction own P) found → There (FitFunction own P) (if_public found)
  if_public_fits None h = tt
  if_public_fits (Some f) h = if_there (FitFunction own P) (is_public (def_of f).access) f h

  public_down : (key : FunctionKey) (within : Option (Module H)) → There (FitModule own P) within →
      There (FitFunction own P) (option_and_then (public_in key) within)
  public_down key None h = tt
  public_down key (Some m) h = if_public_fits (in_module key m) (in_module_fits key m h)

  -- a public function behind a path
  pub public_fits : (root : Module H) (path : List (List ℕ)) (key : FunctionKey) → FitModule own P root →
      There (FitFunction own P) (option_and_then (public_in key) (down path (Some root)))
  public_fits root path key h = public_down key (down path (Some root)) (down_fits path (Some root) h)

  -- ---- functions as a run finds them

  -- the environment of a function fits
  abbrev pub FitFound : Function H → Type 0
  FitFound function = AllFit own P least (of_environ function.environ)

  pub found_fits : (f : ModuleFn H) → FitFunction own P f → FitFound (function_of f)
  found_fits f h = environ_fits own P least (out-ModuleFn H f).environ h

  founds_fit : (found : Option (ModuleFn H)) → There (FitFunction own P) found → There FitFound (option_map function_of found)
  founds_fit None h = tt
  founds_fit (Some f) h = found_fits f h

  pub function_found : (key : FunctionKey) (offer : Offer H) (around : Surroundings H) → FitOffer own P least offer →
      AllFit own P least (of_around around) → There FitFound (found_function key offer around)
  function_found key offer around o h =
      founds_fit (found_in key around.lib offer.global_modules around.imports offer.global_sub_modules.1)
      (found_in_fits key around.lib offer.global_modules around.imports offer.global_sub_modules.1 h.0 o.0 h.1.0 o.1.0)

  in_libraries_fits : (key : FunctionKey) (lib : List (Module H)) → AllFit own P least (of_modules lib) →
      There FitFound (in_libraries key lib)
  in_libraries_fits key lib h = founds_fit (in_modules key lib) (in_modules_fits key lib h)

  -- ---- functions that pointers lead to

  own_fits : (own_kind : KindLayer H) (count : ℕ) → FitKindLayer own P own_kind → There FitFound (own_function own_kind count)
  own_fits (union.Script def environ) count h = if_there FitFound _ _ (environ_fits own P least environ h)
  own_fits _ count h = tt

  arity_fits : (same : Bool) (key : FunctionKey) (lib : List (Module H)) → AllFit own P least (of_modules lib) →
      There FitFound (if same then in_libraries key lib else None)
  arity_fits true key lib h = in_libraries_fits key lib h
  arity_fits false key lib h = tt

  linked_fits : (leads : FnPtrKind H) (name : List ℕ) (count : ℕ) (lib : List (Module H)) → FitKind own P leads →
      AllFit own P least (of_modules lib) → There FitFound (linked leads name count lib)
  linked_fits kind.Name name count lib h l = tt
  linked_fits (kind.Arity arity) name count lib h l = arity_fits _ (key_by name arity None) lib l
  linked_fits (kind.Native id) name count lib h l = tt
  linked_fits leads name count lib h l = own_fits (out-FnPtrKind H leads) count (kind_fits own P leads h)

  pub linked_to_fits : (pointer : FnPtr H) (count : ℕ) (lib : List (Module H)) → FitPointer own P pointer →
      AllFit own P least (of_modules lib) → There FitFound (linked_to pointer count lib)
  linked_to_fits pointer count lib h l =
      linked_fits (out-FnPtr H pointer).kind (out-FnPtr H pointer).name count lib h.kind l

  -- the root of a path, where a function is looked for
  pub root_found : (name : List ℕ) (offer : Offer H) (around : Surroundings H) → FitOffer own P least offer →
      AllFit own P least (of_around around) → There (FitModule own P) (root_in name around.imports offer.global_sub_modules)
  root_found name offer around o h = root_fits name around.imports offer.global_sub_modules h.1.0 o.1.0
