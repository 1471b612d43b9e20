-- Functions of scripts as a run finds them, with the environments that they run in; and the pointers that their names mean.
use Rattle.std.specs.Prelude.{ℕ, List, [], Option}
use Rattle.std.specs.Option.{option_map}
use Rattle.rhai_machine.specs.Types.{Dynamic, Module}
use Rattle.rhai_values.specs.declared.base.value.FnPtr.{roll-FnPtr}
use Rattle.rhai_values.specs.declared.base.value.FnPtrKind.TheVariants as kind
use Rattle.rhai_values.specs.declared.base.value.Union.TheVariants as value
use Rattle.rhai_values.specs.Copy.{plain}
pub use Rattle.rhai_functions.specs.declared.function.Function.{Function}
use Rattle.rhai_functions.specs.Called.{function_of}
use Rattle.rhai_functions.specs.Functions.{FunctionKey, found_in, in_modules, arity_in_modules}
use Rattle.rhai_machine.specs.language.Setting.{Offer}
use Rattle.rhai_machine.specs.language.State.{Surroundings}

-- a function's key: its name, how many parameters it has, and the type that its `this` must have, if any
abbrev pub key_by : List ℕ → (arity : ℕ) → (this_type : Option (List ℕ)) → FunctionKey
key_by name arity this_type = record { name = name; arity = arity; this_type = this_type }

module _ {H : Type 0} where
  -- the function of a key: in the libraries, then the global modules, then the imports, then the engine's modules that have names
  abbrev pub found_function : FunctionKey → Offer H → Surroundings H → Option (Function H)
  found_function key offer around = option_map function_of
      (found_in key around.lib offer.global_modules around.imports offer.global_sub_modules.1)

  -- the function of a key in the libraries alone
  abbrev pub in_libraries : FunctionKey → List (Module H) → Option (Function H)
  in_libraries key lib = option_map function_of (in_modules key lib)

  -- ---- a name that means a function

  -- a pointer to the library function of a name with so many parameters
  abbrev pub pointer_to : List ℕ → (arity : ℕ) → Dynamic H
  pointer_to name arity = plain (value.FnPtr {X1 = H} (roll-FnPtr H (record { name = name; curry = []; kind = kind.Arity arity })))

  -- the pointer that a name means by itself: to the first function of the name in the libraries
  abbrev pub meant_function : List (Module H) → List ℕ → Option (Dynamic H)
  meant_function lib name = option_map (pointer_to name) (arity_in_modules name lib)
