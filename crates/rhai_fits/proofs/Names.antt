-- What variables mean fits: entries of the scope, and constants of modules and pointers to functions as temporaries.
use Rattle.std.proofs.Common.{ℕ, List, [], ◌∷◌}
use Rattle.std.specs.Prelude.{Option, Some, None, Result, Ok, Err, slice_get}
use Rattle.std.specs.Option.{option_map, option_or, unwrap_or}
use Rattle.rhai_machine.specs.Types.{Dynamic, EvalAltResult, Module, Position, Union}
use Rattle.rhai_values.specs.declared.base.value.Union.TheVariants as value
use Rattle.rhai_values.specs.Cells.{value_of_cell}
use Rattle.rhai_values.specs.Copy.{copy_of}
use Rattle.rhai_values.specs.ValueContents.{Reached}
use Rattle.rhai_state.specs.Scope.{found, index_of}
use Rattle.rhai_functions.specs.Functions.{arity_in_modules}
use Rattle.rhai_functions.specs.Namespaces.{constant_among}
use Rattle.rhai_machine.specs.language.Setting.{Globals}
use Rattle.rhai_machine.specs.language.State.{Local, Surroundings}
use Rattle.rhai_machine.specs.language.Values.{Cells}
use Rattle.rhai_machine.specs.language.Functions.{meant_function, pointer_to}
use Rattle.rhai_machine.specs.language.Variables.{Variable}
use Rattle.rhai_machine.specs.language.Names.{Meaning, AtEntry, AsTemporary, entered, looked_up, of_entry, temporary, there_or_unknown}
use Rattle.rhai_machine.specs.language.Names.{without_entry, entry_or, own_constants, value_behind, meant_behind, meant, read_of, read}
use Rattle.rhai_machine.specs.language.Places.{target_meant, target_of}
use Rattle.rhai_fits.specs.Contents.{of_values, of_maybe, of_result, of_modules, of_tables}
use Rattle.rhai_fits.proofs.Values.{Fit, fit_pointer, fit_rolled}
use Rattle.rhai_fits.proofs.Copies.{fit_copy}
use Rattle.rhai_fits.proofs.Literals.{kind_arity}
use Rattle.rhai_fits.proofs.Errors.{fit_error}
use Rattle.rhai_fits.proofs.Fitting.{AllFit, FitLocal, FitTable, Gives, table_at}
use Rattle.rhai_fits.proofs.Seeing.{FitValue, FitTarget, found_gives, target_at_gives}
use Rattle.rhai_fits.proofs.Lookups.{among_fits, qualified_gives}

module _ {H : Type 0} (own : H → List Reached) (P : Reached → Type 0) (least : ℕ) where
  -- an entry's value fits, and so does a temporary
  abbrev pub FitMeaning : Meaning H → Type 0
  FitMeaning (AtEntry index v) = Fit own P v
  FitMeaning (AsTemporary v) = Fit own P v

  -- the modules that names lead to
  abbrev pub FitGlobals : Globals H → Type 0
  FitGlobals globals = AllFit own P least (of_modules globals.modules) × AllFit own P least (of_modules globals.named.1)

  -- ---- entries

  entered_gives : (name : List ℕ) (at : Position) (v : Dynamic H) (inner : Option (Dynamic H)) → Fit own P v →
      Gives own P least (FitValue own P least) (entered name at v inner)
  entered_gives name at v (Some inner) h = h
  entered_gives name at v None h = fit_error own P _ tt

  looked_up_gives : (cells : Cells H) (name : List ℕ) (at : Position) (u : Union H) (v : Dynamic H) → Fit own P v →
      Gives own P least (FitValue own P least) (looked_up cells name at u v)
  looked_up_gives cells name at (value.Cell id) v h = entered_gives name at v (value_of_cell cells id.number) h
  looked_up_gives cells name at _ v h = h

  of_entry_gives : (index : ℕ) (r : Result (Dynamic H) (EvalAltResult H)) → Gives own P least (FitValue own P least) r →
      Gives own P least FitMeaning (of_entry index r)
  of_entry_gives index (Ok v) h = h
  of_entry_gives index (Err e) h = h

  temporary_gives : (r : Result (Dynamic H) (EvalAltResult H)) → Gives own P least (FitValue own P least) r →
      Gives own P least FitMeaning (temporary r)
  temporary_gives (Ok v) h = h
  temporary_gives (Err e) h = h

  entry_or_gives : (cells : Cells H) (name : List ℕ) (at : Position) (index : Option ℕ) (there : Option (Dynamic H))
      (otherwise : Result (Meaning H) (EvalAltResult H)) → AllFit own P least (of_maybe there) → Gives own P least FitMeaning otherwise →
      Gives own P least FitMeaning (entry_or cells name at index there otherwise)
  entry_or_gives cells name at (Some index) (Some v) otherwise h g =
      of_entry_gives index (looked_up cells name at v.value v) (looked_up_gives cells name at v.value v h)
  entry_or_gives cells name at (Some index) None otherwise h g = g
  entry_or_gives cells name at None there otherwise h g = g

  -- ---- temporaries

  function_fits : (name : List ℕ) (arity : Option ℕ) → AllFit own P least (of_maybe (option_map (pointer_to {H = H} name) arity))
  function_fits name None = tt
  function_fits name (Some n) = fit_pointer own P _ (fit_rolled own P _ _ _ tt (kind_arity own P n))

  or_fits : (a b : Option (Dynamic H)) → AllFit own P least (of_maybe a) → AllFit own P least (of_maybe b) →
      AllFit own P least (of_maybe (option_or a b))
  or_fits None b h g = g
  or_fits (Some v) b h g = h

  copy_fits : (there : Option (Dynamic H)) → AllFit own P least (of_maybe there) → AllFit own P least (of_maybe (option_map copy_of there))
  copy_fits None h = tt
  copy_fits (Some v) h = fit_copy own P v h

  without_fits : (globals : Globals H) (lib : List (Module H)) (name : List ℕ) → FitGlobals globals →
      AllFit own P least (of_maybe (without_entry globals lib name))
  without_fits globals lib name g = or_fits (option_map copy_of (constant_among name globals.modules)) (meant_function lib name)
      (copy_fits (constant_among name globals.modules) (among_fits own P least name globals.modules g.0))
      (function_fits name (arity_in_modules name lib))

  there_gives : (there : Option (Dynamic H)) (name : List ℕ) (at : Position) → AllFit own P least (of_maybe there) →
      Gives own P least (FitValue own P least) (there_or_unknown there name at)
  there_gives (Some v) name at h = h
  there_gives None name at h = fit_error own P _ tt

  -- the run's own table of constants
  table_fits : (table : Option (List (List ℕ) × List (Dynamic H))) → FitTable own P least table →
      AllFit own P least (of_values (unwrap_or table ([], [])).1)
  table_fits None h = tt
  table_fits (Some table) h = h

  own_fits : (around : Surroundings H) → AllFit own P least (of_tables around.constant_tables) →
      AllFit own P least (of_values (own_constants around).1)
  own_fits around h = table_fits (slice_get around.constant_tables around.constants)
      (table_at own P least around.constant_tables around.constants h)

  module _ (globals : Globals H) (g : FitGlobals globals) where
    behind_gives : (path : List (List ℕ)) (variable : Variable) (l : Local H) → FitLocal own P least l →
        Gives own P least (FitValue own P least) (value_behind globals l.around path variable)
    behind_gives [] variable l h =
        there_gives (without_entry globals l.around.lib variable.name) variable.name variable.at
        (without_fits globals l.around.lib variable.name g)
    behind_gives (root ∷ path) variable l h = qualified_gives own P least l.around.imports globals.named (own_constants l.around)
        (root ∷ path) variable.name variable.path.at h.around.1.0 g.1 (own_fits l.around h.around.1.1)

    -- ---- what a variable means

    meant_behind_gives : (path : List (List ℕ)) (variable : Variable) (l : Local H) → FitLocal own P least l →
        Gives own P least FitMeaning (meant_behind globals l.around l.scope path variable)
    meant_behind_gives [] variable l h = entry_or_gives l.around.cells variable.name variable.at (index_of variable.name l.scope)
        (found variable.name l.scope) (temporary (value_behind globals l.around [] variable)) (found_gives own P least variable.name l h)
        (temporary_gives (value_behind globals l.around [] variable) (behind_gives [] variable l h))
    meant_behind_gives (root ∷ path) variable l h =
        temporary_gives (value_behind globals l.around (root ∷ path) variable) (behind_gives (root ∷ path) variable l h)

    pub meant_gives : (variable : Variable) (l : Local H) → FitLocal own P least l →
        Gives own P least FitMeaning (meant globals l.around l.scope variable)
    meant_gives variable l h = meant_behind_gives variable.path.names variable l h

    read_of_fits : (r : Result (Meaning H) (EvalAltResult H)) → Gives own P least FitMeaning r → AllFit own P least (of_result (read_of r))
    read_of_fits (Ok (AtEntry index v)) h = fit_copy own P v h
    read_of_fits (Ok (AsTemporary v)) h = h
    read_of_fits (Err e) h = h

    pub read_fits : (variable : Variable) (l : Local H) → FitLocal own P least l →
        AllFit own P least (of_result (read globals l.around l.scope variable))
    read_fits variable l h = read_of_fits (meant globals l.around l.scope variable) (meant_gives variable l h)

    -- ---- as it is assigned to

    target_meant_gives : (l : Local H) (name : List ℕ) (at : Position) (r : Result (Meaning H) (EvalAltResult H)) →
        FitLocal own P least l → Gives own P least FitMeaning r →
        Gives own P least (FitTarget own P least) (target_meant l.around.cells name at r)
    target_meant_gives l name at (Ok (AtEntry index v)) h f = target_at_gives own P least l name at index v.value v h f
    target_meant_gives l name at (Ok (AsTemporary v)) h f = fit_error own P _ tt
    target_meant_gives l name at (Err e) h f = f

    pub target_gives : (variable : Variable) (l : Local H) → FitLocal own P least l →
        Gives own P least (FitTarget own P least) (target_of globals l.around l.scope variable)
    target_gives variable l h = target_meant_gives l variable.name variable.at (meant globals l.around l.scope variable) h
        (meant_gives variable l h)
