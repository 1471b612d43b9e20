-- Caches that fit libraries and imports, as these come and go.
use Rattle.std.proofs.Common.{◌≡◌, ◌≤◌, ◌<◌, ◌+◌, ℕ, Bool, true, false, ◌||◌, ◌&&◌, List, [], ◌∷◌, ◌++◌, length, take, get_or}
use Rattle.std.proofs.Common.{refl, sym, ap, subst, ◌∙◌, arith, length-append, Option, Some, None, is_some}
use Rattle.std.specs.Prelude.{IfSome}
use Rattle.std.specs.List.{All, Contains}
use Rattle.std.specs.Option.{option_map, option_or}
use Rattle.std.proofs.lemmas.Bool.{false≢true}
use Rattle.std.proofs.lemmas.List.{length-take, take_all, take-append-le, take-take}
use Rattle.std.proofs.lemmas.List.Elements.{All-contains, All-nil}
use Rattle.rhai_values.specs.declared.base.value.Import.{Import, out-Import}
use Rattle.rhai_values.specs.declared.base.value.Module.{Module}
use Rattle.rhai_values.specs.declared.base.value.ModuleFn.{ModuleFn, out-ModuleFn}
use Rattle.rhai_functions.specs.declared.function.Function.{Function}
use Rattle.rhai_functions.specs.Called.{function_of}
use Rattle.rhai_functions.specs.Functions.{FunctionKey, def_of, functions_of, has_key, if_shown, in_modules, in_imports}
use Rattle.rhai_functions.specs.Functions.{is_public, is_shown}
use Rattle.rhai_functions.specs.Functions.{last_given, last_of, later_of, shown_in}
use Rattle.rhai_functions.specs.Words.{has_own_meaning}
use Rattle.rhai_lookups.specs.declared.cache.Extent.{Extent}
use Rattle.rhai_lookups.specs.declared.cache.FnResolutionCache.{FnResolutionCache}
use Rattle.rhai_lookups.specs.declared.cache.FnResolutionCacheEntry.{FnResolutionCacheEntry}
use Rattle.rhai_lookups.specs.declared.cache.Kept.{Kept}
use Rattle.rhai_lookups.specs.Fits.{AllRight, FitsLists, FitsNow, IsCurrent, IsRight}
use Rattle.rhai_lookups.specs.Keys.{key_kept}
use Rattle.rhai_lookups.specs.Levels.{empty_cache}
use Rattle.rhai_lookups.specs.Lists.{Lists, any_global, extent_of, first_of, has_global, kept_of, with_import, with_library}
use Rattle.rhai_lookups.proofs.Choices.{of_library}

-- what holds of all items holds of them by what follows from it
pub all_by : {A : Type 0} (P Q : A → Type 0) → ((x : A) → P x → Q x) → (xs : List A) → All P xs → All Q xs
all_by P Q follows xs all k d within = follows (get_or xs k d) (all k d within)

-- what holds of an item, if there is one, by what follows from two others
pub some_by : {A : Type 0} (P Q R : A → Type 0) → ((x : A) → P x → Q x → R x) → (o : Option A) → IfSome o P → IfSome o Q → IfSome o R
some_by P Q R follows None p q = tt
some_by P Q R follows (Some x) p q = follows x p q

first_false : (x y : Bool) → (x || y) ≡ false → x ≡ false
first_false false y none = refl
first_false true y none = none

second_false : (x y : Bool) → (x || y) ≡ false → y ≡ false
second_false false y none = none
second_false true y none = absurd (false≢true (sym none))

hidden : (x y : Bool) → y ≡ false → (x && y) ≡ false
hidden false y none = refl
hidden true y none = none

last_none : {A B : Type 0} (gives : A → Option B) (xs : List A) (x : A) → gives x ≡ None →
    last_given gives (xs ++ x ∷ []) ≡ last_given gives xs
last_none gives [] x none = none
last_none gives (y ∷ xs) x none = ap (λ found. option_or found (gives y)) (last_none gives xs x none)

module _ {H : Type 0} where
  -- what an entry of a key says
  pub right_of : (finds : FunctionKey → Kept H) (cache : FnResolutionCache H) (e : FnResolutionCacheEntry H) (key : FunctionKey) →
      AllRight finds cache → Contains cache.entries e → key_kept e.key ≡ key → e.kept ≡ finds key
  right_of finds cache e key right here is =
      All-contains (IsRight finds) cache.entries e right here ∙ ap finds is

  -- what a library has, by what is kept
  pub plain_of : (lists : Lists H) (key : FunctionKey) (kept : Kept H) (r : Function H) → kept ≡ kept_of lists key →
      kept.in_libraries ≡ true → kept.found ≡ Some r → option_map function_of (in_modules key lists.0) ≡ Some r
  plain_of lists key kept r is library found =
      sym (of_library function_of (in_modules key lists.0) (in_imports key lists.1) (sym (ap (λ k. k.in_libraries) is) ∙ library))
      ∙ sym (ap (λ k. k.found) is) ∙ found

  libs_of : (lists : Lists H) (extent : Extent) → extent ≡ extent_of lists → extent.libs ≡ length lists.0
  libs_of lists extent is = ap (λ e. e.libs) is

  imports_of : (lists : Lists H) (extent : Extent) → extent ≡ extent_of lists → extent.imports ≡ length lists.1
  imports_of lists extent is = ap (λ e. e.imports) is

  -- the first so many, where that is all
  pub first_of_all : (lists : Lists H) (extent : Extent) → extent ≡ extent_of lists → first_of lists extent ≡ lists
  first_of_all lists extent is =
      let libs = libs_of lists extent is in
      let imports = imports_of lists extent is in
      rw (take_all extent.libs lists.0 (omega arith), take_all extent.imports lists.1 (omega arith)) refl

  pub current_fits : (lists : Lists H) (cache : FnResolutionCache H) → IsCurrent lists cache → FitsLists lists cache
  current_fits lists cache current =
      let libs = libs_of lists cache.extent current.0 in
      let imports = imports_of lists cache.extent current.0 in (
        (omega arith, omega arith),
        subst (λ ls. AllRight (kept_of ls) cache) (sym (first_of_all lists cache.extent current.0)) current.1,
      )

  pub fits_now : (lists : Lists H) (cache : FnResolutionCache H) → FitsLists lists cache → FitsNow lists cache
  fits_now lists cache fits is = subst (λ ls. AllRight (kept_of ls) cache) (first_of_all lists cache.extent is) fits.1

  pub empty_fits : (lists : Lists H) → FitsLists lists empty_cache
  empty_fits lists = ((omega arith, omega arith), All-nil (IsRight (kept_of (first_of lists (record { libs = 0; imports = 0 })))))

  -- ---- lists that grow

  pub fits_library : (lists : Lists H) (library : Module H) (cache : FnResolutionCache H) → FitsLists lists cache →
      FitsLists (with_library lists library) cache
  fits_library lists library cache fits = (
    (omega (arith, length-append lists.0 (library ∷ []), fits.0.0), fits.0.1),
    rw (take-append-le cache.extent.libs lists.0 (library ∷ []) fits.0.0) fits.1,
  )

  pub fits_import : (lists : Lists H) (i : Import H) (cache : FnResolutionCache H) → FitsLists lists cache →
      FitsLists (with_import lists i) cache
  fits_import lists i cache fits = (
    (fits.0.0, omega (arith, length-append lists.1 (i ∷ []), fits.0.1)),
    rw (take-append-le cache.extent.imports lists.1 (i ∷ []) fits.0.1) fits.1,
  )

  -- ---- lists that are cut

  pub fits_cut : (lists : Lists H) (extent : Extent) (cache : FnResolutionCache H) → cache.extent.libs ≤ extent.libs →
      cache.extent.imports ≤ extent.imports → FitsLists lists cache → FitsLists (first_of lists extent) cache
  fits_cut lists extent cache few fewer fits = (
    (
      omega (arith, length-take extent.libs lists.0, fits.0.0, few),
      omega (arith, length-take extent.imports lists.1, fits.0.1, fewer),
    ),
    rw (take-take cache.extent.libs extent.libs lists.0 few, take-take cache.extent.imports extent.imports lists.1 fewer) fits.1,
  )

  -- ---- an import in which no function is found without its name

  if_hidden : (f : ModuleFn H) (later : Option (ModuleFn H)) (fits : Bool) → is_shown f ≡ false → if_shown later ≡ None →
      if_shown (later_of later fits f) ≡ None
  if_hidden f (Some g) fits hides none = none
  if_hidden f None true hides none = rw hides refl
  if_hidden f None false hides none = refl

  none_shown : (key : FunctionKey) (functions : List (ModuleFn H)) → any_global functions ≡ false →
      if_shown (last_of key functions) ≡ None
  none_shown key [] none = refl
  none_shown key (f ∷ functions) none =
      if_hidden f (last_of key functions) (has_key key (def_of f))
      (hidden (is_public (def_of f).access) (out-ModuleFn H f).is_global (first_false _ _ none))
      (none_shown key functions (second_false (out-ModuleFn H f).is_global _ none))

  -- what is kept, by what the imports have
  abbrev kept_with : Lists H → FunctionKey → Option (ModuleFn H) → Kept H
  kept_with lists key imported = record {
    found = option_map function_of (option_or (in_modules key lists.0) imported);
    in_libraries = is_some (in_modules key lists.0);
    is_word = has_own_meaning key.name;
  }

  kept_same : (lists : Lists H) (i : Import H) → has_global i ≡ false → (key : FunctionKey) →
      kept_of lists key ≡ kept_of (with_import lists i) key
  kept_same lists i none key =
      ap (kept_with lists key)
      (sym (last_none (λ j. shown_in key (out-Import H j).«module») lists.1 i (none_shown key (functions_of (out-Import H i).«module»)
      none)))

  pub raised_fits : (lists : Lists H) (i : Import H) (cache : FnResolutionCache H) (to : Extent) → has_global i ≡ false →
      cache.extent ≡ extent_of lists → to ≡ extent_of (with_import lists i) → FitsLists lists cache →
      FitsLists (with_import lists i) (record cache { extent = to })
  raised_fits lists i cache to none from is fits =
      current_fits (with_import lists i) (record cache { extent = to }) (
        is,
        all_by (IsRight (kept_of lists)) (IsRight (kept_of (with_import lists i)))
            (λ e right. right ∙ kept_same lists i none (key_kept e.key)) cache.entries (fits_now lists cache fits from),
      )
