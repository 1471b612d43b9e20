-- A call by name whose arguments are there: what its name means, and what it comes to.
use Rattle.std.specs.Prelude.{◌≡◌, ⊤, ℕ, ◌-◌, ℤ, pos, Bool, true, false, List, [], ◌∷◌, length, Option, Some, None, Result, Ok, Err}
use Rattle.std.specs.Prelude.{codes, is_some, if◌then◌else◌}
use Rattle.std.specs.Option.{option_map, option_or}
use Rattle.std.specs.Str.{bytes_eq}
use Rattle.rhai_values.specs.declared.base.value.Dynamic.{Dynamic}
use Rattle.rhai_values.specs.declared.base.value.Import.{Import}
use Rattle.rhai_values.specs.declared.base.value.Module.{Module}
use Rattle.rhai_values.specs.declared.base.value.Union.{Union}
use Rattle.rhai_values.specs.declared.base.value.Union.TheVariants as value
use Rattle.rhai_errors.specs.declared.error.EvalAltResult.{EvalAltResult}
use Rattle.rhai_errors.specs.declared.error.EvalAltResult.TheVariants as error
use Rattle.rhai_values.specs.Copy.{plain}
use Rattle.rhai_values.specs.TypeNames.{type_name_of}
use Rattle.rhai_functions.specs.declared.function.Function.{Function}
use Rattle.rhai_functions.specs.Called.{function_of}
use Rattle.rhai_functions.specs.Functions.{FunctionKey, found_in}
use Rattle.rhai_machine.specs.language.Setting.{Offer}
use Rattle.rhai_machine.specs.language.State.{Local, Surroundings, Answers, HasMemory}
use Rattle.rhai_machine.specs.language.Values.{Cells, bool_value, through}
use Rattle.rhai_machine.specs.language.Functions.{found_function, key_by}
use Rattle.rhai_machine.specs.language.Variables.{no_path}
use Rattle.rhai_machine.specs.language.Frames.{Operation, Dispatch, Call, Frame, Core, core, ended_or_changed}
use Rattle.rhai_machine.specs.language.Calls.{enter_core, first_type, races, signature, types_of}
use Rattle.rhai_calls.specs.declared.dispatch.Called.{Called}
use Rattle.rhai_calls.specs.declared.dispatch.Called.TheVariants.{Ended, Enters}
use Rattle.rhai_calls.specs.declared.dispatch.Seeks.{Seeks}

-- a call that looks for these functions of scripts is dispatched so
abbrev pub how_of : Seeks → (on_scope : Bool) → Dispatch
how_of seeks on_scope = record { of_method = seeks.of_method; natives_alone = seeks.natives_alone; on_scope = on_scope; path = no_path }

module _ {H : Type 0} where
  -- ---- what a name means

  -- the text that a value is, None for any other
  abbrev pub text_of : Union H → Option (List ℕ)
  text_of (value.Str text) = Some text
  text_of _ = None

  -- the integer that a value is, None for any other
  abbrev pub number_of : Union H → Option ℤ
  number_of (value.Int number) = Some number
  number_of _ = None

  -- the text that a value which was looked up is, None for any other and for an error
  abbrev pub seen_text : Result (Dynamic H) (EvalAltResult H) → Option (List ℕ)
  seen_text (Ok v) = text_of v.value
  seen_text (Err e) = None

  -- the integer that a value which was looked up is, None for any other and for an error
  abbrev pub seen_number : Result (Dynamic H) (EvalAltResult H) → Option ℤ
  seen_number (Ok v) = number_of v.value
  seen_number (Err e) = None

  -- what a name means with one argument: its type, or a compiler, which is not there
  abbrev pub meant_of : Cells H → Operation → (H → List ℕ) → Dynamic H → Option (Result (Dynamic H) (EvalAltResult H))
  meant_of cells operation host v =
      if bytes_eq operation.name (codes "type_of") then Some (Ok (plain (value.Str (type_name_of host cells v))))
      else if bytes_eq operation.name (codes "eval")
      then Some (Err (error.ErrorFunctionNotFound (signature operation.name (types_of host cells (v ∷ []))) operation.at))
      else None

  module _ (offer : Offer H) (lib : List (Module H)) (imports : List (Import H)) where
    -- the function of a key, in these libraries and imports
    abbrev pub found_among : FunctionKey → Option (Function H)
    found_among key = option_map function_of (found_in key lib offer.global_modules imports offer.global_sub_modules.1)

    -- that of a method: for the type of the focus, and else for any type
    abbrev pub method_among : List ℕ → (type : List ℕ) → (arity : ℕ) → Option (Function H)
    method_among name type arity = option_or (found_among (key_by name arity (Some type))) (found_among (key_by name arity None))

    -- whether there is a function of a name with so many parameters
    abbrev pub knows_among : List ℕ → ℤ → Bool
    knows_among name (pos count) = is_some (found_among (key_by name count None))
    knows_among name _ = false

  module _ (offer : Offer H) (around : Surroundings H) where
    -- the function of a script with a name and so many parameters
    abbrev pub plain_found : List ℕ → (arity : ℕ) → Option (Function H)
    plain_found name arity = found_function (key_by name arity None) offer around

    -- and that of a method: for the type of the focus, and else for any type
    abbrev pub method_found : List ℕ → (type : List ℕ) → (arity : ℕ) → Option (Function H)
    method_found name type arity = option_or (found_function (key_by name arity (Some type)) offer around) (plain_found name arity)

    -- whether there is a function of a name with so many parameters
    abbrev pub knows : List ℕ → ℤ → Bool
    knows name count = knows_among offer around.lib around.imports name count

    -- whether there is a function of this name with so many parameters, None where the name or the number is missing
    abbrev pub told_of : Option (List ℕ) → Option ℤ → Option (Result (Dynamic H) (EvalAltResult H))
    told_of (Some name) (Some count) = Some (Ok (bool_value (knows name count)))
    told_of _ _ = None

    module _ (operation : Operation) where
      -- what a name means with two arguments: whether a function is there
      abbrev pub meant_of_two : Dynamic H → Dynamic H → Option (Result (Dynamic H) (EvalAltResult H))
      meant_of_two v w =
          if bytes_eq operation.name (codes "is_def_fn")
          then told_of (seen_text (through around.cells v operation.at)) (seen_number (through around.cells w operation.at))
          else None

      module _ (host : H → List ℕ) where
        -- what a name means with these arguments, None where that is a function of the name
        abbrev pub meant : List (Dynamic H) → Option (Result (Dynamic H) (EvalAltResult H))
        meant (v ∷ []) = meant_of around.cells operation host v
        meant (v ∷ w ∷ []) = meant_of_two v w
        meant _ = None

    module _ (host : H → List ℕ) where
      -- the function of a script for these arguments: of a method, whose focus is the first one, or of a plain call
      abbrev pub found_as : (of_method : Bool) → List ℕ → List (Dynamic H) → Option (Function H)
      found_as true name args = method_found name (first_type host around.cells args) (length args - 1)
      found_as false name args = plain_found name (length args)

      -- the function of a script that a call means
      abbrev pub script_function : Seeks → List ℕ → List (Dynamic H) → Option (Function H)
      script_function seeks name args = if seeks.natives_alone then None else found_as seeks.of_method name args

  -- a result where one is wanted, and it is that one, unless memory ran out
  abbrev pub Means : Option (Result (Dynamic H) (EvalAltResult H)) → Option (Result (Dynamic H) (EvalAltResult H)) → Type 0
  Means None None = ⊤
  Means (Some result) (Some wanted) = Answers result wanted
  Means _ _ = ⊥

  -- how a call ends for which no function is looked for: in a race, where an argument is in a held cell, and else with what its name
  -- means
  abbrev pub ended_early : (raced : Bool) → (meant : Option (Result (Dynamic H) (EvalAltResult H))) → Operation →
      Option (Result (Dynamic H) (EvalAltResult H))
  ended_early true meaning operation = Some (Err (error.ErrorDataRace operation.name operation.at))
  ended_early false meaning operation = meaning

  -- what a call means before anything is done for it: it has ended, unless memory ran out; it is of a function of a script; or, where
  -- that is None, of a native
  abbrev pub Resolves : (early : Option (Result (Dynamic H) (EvalAltResult H))) → (found : Option (Function H)) →
      Option (Called (Dynamic H) (Function H) H) → Type 0
  Resolves early found (Some (Ended r)) = HasMemory r → Some r ≡ early
  Resolves early found (Some (Enters function)) = (early ≡ None) × (Some function ≡ found)
  Resolves early found None = (early ≡ None) × (None ≡ found)

  -- what a call with these arguments means, given the functions that are offered and what surrounds it
  abbrev pub ResolvesCall : Offer H → Surroundings H → (H → List ℕ) → Seeks → Operation → List (Dynamic H) →
      Option (Called (Dynamic H) (Function H) H) → Type 0
  ResolvesCall offer around host seeks operation args resolved =
      Resolves (ended_early (races around.cells args) (meant offer around operation host args) operation)
      (script_function offer around host seeks operation.name args) resolved

  -- ---- what a call comes to

  -- what holds of the answer of a call that has ended
  abbrev pub IfEnded : Called (Dynamic H × Bool) (Function H) H → (Dynamic H × Bool → Type 0) → Type 0
  IfEnded (Ended (Ok answer)) P = P answer
  IfEnded _ P = ⊤

  -- what holds of a call that enters a function of a script
  abbrev pub IfEnters : Called (Dynamic H × Bool) (Function H) H → Type 0 → Type 0
  IfEnters (Enters function) P = P
  IfEnters _ P = ⊤

  -- a call that ended comes back with whether it changed its first argument, and a function is entered
  abbrev pub came_to : Dispatch → Call H → Called (Dynamic H × Bool) (Function H) H → List (Frame H) → Local H → Core H
  came_to how call (Ended r) k l = core (ended_or_changed r) k l
  came_to how call (Enters function) k l = enter_core how.of_method function how call k l
