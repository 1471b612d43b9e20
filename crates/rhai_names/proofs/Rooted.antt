-- Where the index of a path leads: to the newest import of its root's name, where it is good.
use Rattle.std.proofs.Common.{◌≡◌, ◌≤◌, ◌-◌, ℕ, zero, suc, Bool, true, false, IsTrue, List, [], ◌∷◌, length, map, Option, Some, None}
use Rattle.std.proofs.Common.{refl, sym, ap, ◌∙◌, arith}
use Rattle.std.proofs.lemmas.Bool.{eqb-true}
use Rattle.std.proofs.lemmas.List.{length-map}
use Rattle.std.specs.Int.NonZero.{non_zero_usize_get}
use Rattle.std.specs.Option.{option_map}
use Rattle.std.specs.Prelude.{slice_get}
use Rattle.std.specs.Str.{bytes_eq}
use Rattle.std.specs.declared.num.NonZeroUsize.{NonZeroUsize}
use Rattle.rhai_tree.specs.Forms.{is_unqualified}
use Rattle.rhai_tree.specs.Lookup.{value_of}
use Rattle.rhai_tree.specs.Names.{Name, further, is_good_root, offset_of, stands}
use Rattle.rhai_values.specs.declared.base.value.Import.{Import}
use Rattle.rhai_values.specs.declared.base.value.Module.{Module}
use Rattle.rhai_state.specs.Scope.{Fits}
use Rattle.rhai_state.specs.State.{import_name}
use Rattle.rhai_functions.specs.Namespaces.{imported, root_in}
use Rattle.rhai_machine.specs.Qualified.{from_root, qualified}
use Rattle.rhai_machine.specs.language.Names.{own_constants, value_behind}
use Rattle.rhai_machine.specs.language.Setting.{Globals}
use Rattle.rhai_machine.specs.language.State.{Surroundings}
use Rattle.rhai_machine.specs.language.Variables.{Variable}
use Rattle.rhai_steps.specs.Agreement.{imports_in}
use Rattle.rhai_names.specs.Roots.{import_at, module_of, path_searched, root_searched}

none_further : (offset at : ℕ) (test : Bool) → further offset test (suc at) ≡ zero → (offset ≡ zero) × (test ≡ false)
none_further (suc k) at test e = absurd (omega arith)
none_further zero at true e = absurd (omega arith)
none_further zero at false e = (refl, refl)

module _ {H : Type 0} (name : Name) where
  abbrev from_end : List (Import H) → ℕ
  from_end imports = offset_of name (imports_in imports)

  -- where no import has the name, nothing was imported under it
  not_imported : (imports : List (Import H)) → from_end imports ≡ zero → imported name imports ≡ None
  not_imported [] e = refl
  not_imported (i ∷ imports) e =
      let none = none_further (from_end imports) (length (imports_in imports)) (bytes_eq (import_name i) name) e in
      rw (not_imported imports none.0, none.1) refl

  -- the import so far from the newest is what the name was last imported for
  abbrev IsThere : List (Import H) → ℕ → Type 0
  IsThere imports k = (m : Module H) × (imported name imports ≡ Some m) × (import_at imports (suc k) ≡ Some m) × (suc k ≤ length imports)

  there_with : (i : Import H) (imports : List (Import H)) (k offset : ℕ) (test : Bool) → from_end imports ≡ offset →
      bytes_eq (import_name i) name ≡ test → further offset test (suc (length (imports_in imports))) ≡ suc k →
      ((j : ℕ) → from_end imports ≡ suc j → IsThere imports j) → IsThere (i ∷ imports) k
  there_with i imports k (suc j) test at same e rest =
      let (m, found, there, within) = rest j at in
      let place : length (i ∷ imports) - suc k ≡ suc (length imports - suc j) = omega arith in
      (m, rw found refl, ap (λ (n : ℕ). option_map module_of (slice_get (i ∷ imports) n)) place ∙ there, omega arith)
  there_with i imports k zero true at same e rest =
      let count : length (imports_in imports) ≡ length imports = length-map imports import_name in
      let place : length (i ∷ imports) - suc k ≡ zero = omega arith in (
        module_of i,
        rw (not_imported imports at, same) refl,
        ap (λ (n : ℕ). option_map module_of (slice_get (i ∷ imports) n)) place,
        omega arith,
      )
  there_with i imports k zero false at same e rest = absurd (omega arith)

  is_there : (imports : List (Import H)) (k : ℕ) → from_end imports ≡ suc k → IsThere imports k
  is_there [] k e = absurd (omega arith)
  is_there (i ∷ imports) k e =
      there_with i imports k (from_end imports) (bytes_eq (import_name i) name) refl refl e (is_there imports)

  -- so an offset where the newest of the name stands leads to the root that the name means, and is at most their number
  root_there : (imports : List (Import H)) (named : List (List ℕ) × List (Module H)) (n : ℕ) →
      IsTrue (stands name n (imports_in imports)) → (import_at imports n ≡ root_in name imports named) × (n ≤ length imports)
  root_there imports named zero h = cc
  root_there imports named (suc k) h =
      let (m, found, there, within) = is_there imports k (eqb-true _ _ h) in
      let root : root_in name imports named ≡ Some m = rw found refl in
      (there ∙ sym root, within)

module _ {H : Type 0} (imports : List (Import H)) where
  -- a good index leads to the root that a path's first name means
  pub root_is_newest : (index : Option NonZeroUsize) (root : Name) (path : List Name) (named : List (List ℕ) × List (Module H)) →
      IsTrue (is_good_root index (root ∷ path) (imports_in imports)) →
      root_searched index (root ∷ path) imports named ≡ root_in root imports named
  root_is_newest (Some index) root path named h = (root_there root imports named (non_zero_usize_get index) h).0
  root_is_newest None root path named h = refl

  -- and is at most the number of imports
  pub root_fits : (index : Option NonZeroUsize) (path : List Name) → is_unqualified path ≡ false →
      IsTrue (is_good_root index path (imports_in imports)) → Fits index (length imports)
  root_fits index [] behind h = absurd cc
  root_fits (Some index) (root ∷ path) behind h = (root_there root imports ([], []) (non_zero_usize_get index) h).1
  root_fits None (root ∷ path) behind h = tt

-- what a name means behind a path whose index is good
module _ {H : Type 0} (globals : Globals H) (around : Surroundings H) (index : Option NonZeroUsize) where
  pub path_is_named : (path : List Name) (variable : Variable) → is_unqualified path ≡ false →
      IsTrue (is_good_root index path (imports_in around.imports)) →
      path_searched globals around index path variable.name variable.path.at ≡ value_behind globals around path variable
  path_is_named [] variable behind h = absurd cc
  path_is_named (root ∷ rest) variable behind h =
      ap (λ (r : Option (Module H)). from_root r (value_of variable.name (own_constants around)) (root ∷ rest) rest variable.name
      variable.path.at)
      (root_is_newest around.imports index root rest globals.named h)
