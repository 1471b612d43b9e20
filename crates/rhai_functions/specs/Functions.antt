-- Functions of scripts, and where one is found. Of two functions of one key in a module the later stands, and who may see a function
-- is asked of that one alone.
use Rattle.std.specs.Prelude.{ℕ, Bool, true, false, ◌&&◌, List, [], ◌∷◌, Option, Some, None, length, nat_eq, if◌then◌else◌}
use Rattle.std.specs.Option.{option_or}
use Rattle.std.specs.Str.{bytes_eq}
use Rattle.rhai_tree.specs.declared.function.FnAccess.{FnAccess}
use Rattle.rhai_tree.specs.declared.function.FnAccess.TheVariants.{Private, Public}
use Rattle.rhai_tree.specs.declared.function.ScriptFuncDef.{ScriptFuncDef}
use Rattle.rhai_values.specs.declared.base.value.Import.{Import, out-Import}
use Rattle.rhai_values.specs.declared.base.value.Module.{Module, out-Module}
use Rattle.rhai_values.specs.declared.base.value.ModuleFn.{ModuleFn, out-ModuleFn}

-- what a function is looked for by: its name, how many parameters it has, and the type that its `this` must have, if any
pub record FunctionKey : Type 0 where
  pub name : List ℕ
  pub arity : ℕ
  pub this_type : Option (List ℕ)

-- a type of `this` is the one that is looked for, or both are missing
abbrev pub is_type : (own wanted : Option (List ℕ)) → Bool
is_type None None = true
is_type (Some own) (Some wanted) = bytes_eq own wanted
is_type _ _ = false

-- a function has a key
abbrev pub has_key : FunctionKey → ScriptFuncDef → Bool
has_key key def =
    nat_eq (length def.params) key.arity && (bytes_eq def.name key.name && is_type def.this_type key.this_type)

-- anybody may call the function
abbrev pub is_public : FnAccess → Bool
is_public Public = true
is_public Private = false

-- the later of two that may be there, the second where it is what is looked for
abbrev pub later_of : {A : Type 0} → (later : Option A) → (fits : Bool) → A → Option A
later_of (Some x) fits y = Some x
later_of None true y = Some y
later_of None false y = None

-- the last of a list that fits
abbrev pub last_that : {A : Type 0} → (fits : A → Bool) → List A → Option A
last_that fits [] = None
last_that fits (x ∷ xs) = later_of (last_that fits xs) (fits x) x

-- the first that is there of what the items of a list give
abbrev pub first_given : {A B : Type 0} → (gives : A → Option B) → List A → Option B
first_given gives [] = None
first_given gives (x ∷ xs) = option_or (gives x) (first_given gives xs)

-- the last that is there of what the items of a list give
abbrev pub last_given : {A B : Type 0} → (gives : A → Option B) → List A → Option B
last_given gives [] = None
last_given gives (x ∷ xs) = option_or (last_given gives xs) (gives x)

module _ {H : Type 0} where
  -- the definition of a module's function
  abbrev pub def_of : ModuleFn H → ScriptFuncDef
  def_of f = (out-ModuleFn H f).def

  -- the functions of a module
  abbrev pub functions_of : Module H → List (ModuleFn H)
  functions_of m = (out-Module H m).functions

  -- the last function of a key
  abbrev pub last_of : FunctionKey → List (ModuleFn H) → Option (ModuleFn H)
  last_of key functions = last_that (λ f. has_key key (def_of f)) functions

  -- the function of a key in a module
  abbrev pub in_module : FunctionKey → Module H → Option (ModuleFn H)
  in_module key m = last_of key (functions_of m)

  -- the function of a key in the first of some modules that has one
  abbrev pub in_modules : FunctionKey → List (Module H) → Option (ModuleFn H)
  in_modules key modules = first_given (in_module key) modules

  -- a function that is found without its module's name: public, and global
  abbrev pub is_shown : ModuleFn H → Bool
  is_shown f = is_public (def_of f).access && (out-ModuleFn H f).is_global

  -- a function that is found without its module's name, None for any other
  abbrev pub if_shown : Option (ModuleFn H) → Option (ModuleFn H)
  if_shown (Some f) = if is_shown f then Some f else None
  if_shown None = None

  -- the function of a key in a module, where it is found without the module's name
  abbrev pub shown_in : FunctionKey → Module H → Option (ModuleFn H)
  shown_in key m = if_shown (in_module key m)

  -- the function of a key in the newest of some imports that shows one
  abbrev pub in_imports : FunctionKey → List (Import H) → Option (ModuleFn H)
  in_imports key imports = last_given (λ i. shown_in key (out-Import H i).«module») imports

  -- the function of a key in the first of some modules under names that shows one
  abbrev pub in_named : FunctionKey → List (Module H) → Option (ModuleFn H)
  in_named key modules = first_given (shown_in key) modules

  -- the function of a key: in the libraries, in the engine's global modules, in the imports, and in its global modules under names
  abbrev pub found_in : FunctionKey → (lib global : List (Module H)) → (imports : List (Import H)) → (named : List (Module H)) →
      Option (ModuleFn H)
  found_in key lib global imports named =
      option_or (in_modules key lib) (option_or (in_modules key global) (option_or (in_imports key imports) (in_named key named)))

  -- ---- a name that means a function

  -- how many parameters a function has, where it is of the name
  abbrev pub arity_by : List ℕ → ModuleFn H → Option ℕ
  arity_by name f = if bytes_eq (def_of f).name name then Some (length (def_of f).params) else None

  -- how many parameters the first function of a name in a list has, whatever its key
  abbrev pub first_named : List ℕ → List (ModuleFn H) → Option ℕ
  first_named name functions = first_given (arity_by name) functions

  -- how many parameters the first function of a name has in the first of some modules that have one
  abbrev pub arity_in_modules : List ℕ → List (Module H) → Option ℕ
  arity_in_modules name modules = first_given (λ m. first_named name (functions_of m)) modules
