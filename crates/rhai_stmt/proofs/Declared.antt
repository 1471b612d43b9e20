-- A variable that is declared stands in the scope as it was given, and is entered so.
use Rattle.std.proofs.Common.{◌≡◌, ℕ, zero, suc, Bool, true, false, List, [], ◌∷◌, ◌++◌, Option, Some, None, Result, Ok, Err, length, map}
use Rattle.std.proofs.Common.{take}
use Rattle.std.proofs.Common.{slice_get, slice_set, if◌then◌else◌, refl, sym, ap, subst, ◌∙◌}
use Rattle.std.proofs.lemmas.List.{length-set, set-set}
use Rattle.std.proofs.lemmas.Option.{get_or_from_slice_get}
use Rattle.std.proofs.lemmas.Slice.Eq.{bytes_eq-Decides}
use Rattle.std.proofs.Math.Seq.{map-set_same, take-append_seam, take-length}
use Rattle.std.specs.List.{list_any}
use Rattle.std.specs.Option.{option_map}
use Rattle.std.specs.Result.{OnOk}
use Rattle.std.specs.Prelude.{IfErr}
use Rattle.std.specs.Str.{bytes_eq}
use Rattle.std.specs.declared.num.NonZeroUsize.{NonZeroUsize}
use Rattle.rhai_tree.specs.Forms.{is_exported}
use Rattle.rhai_tree.specs.declared.flags.ASTFlags.{ASTFlags}
use Rattle.rhai_values.specs.Copy.{copy_of, copy_union, copy_array, copy_map, copy_row}
use Rattle.rhai_values.specs.Modes.{with_mode, union_with_mode, array_with_mode, map_with_mode, row_with_mode}
use Rattle.rhai_values.specs.declared.base.value.AccessMode.{AccessMode}
use Rattle.rhai_values.specs.declared.base.value.AccessMode.TheVariants.{ReadWrite}
use Rattle.rhai_values.specs.declared.base.value.Dynamic.{Dynamic}
use Rattle.rhai_values.specs.declared.base.value.FnPtrKind.TheBlock.{Row_of-Dynamic as Row, end_of-Dynamic as end, more_of-Dynamic as more}
use Rattle.rhai_values.specs.declared.base.value.FnPtrKind.TheBlock.{Row_of-Union-Array-0-1 as Array_row}
use Rattle.rhai_values.specs.declared.base.value.FnPtrKind.TheBlock.{end_of-Union-Array-0-1 as array_end}
use Rattle.rhai_values.specs.declared.base.value.FnPtrKind.TheBlock.{more_of-Union-Array-0-1 as array_more}
use Rattle.rhai_values.specs.declared.base.value.FnPtrKind.TheBlock.{Row_of-Union-Map-0-1 as Map_row, end_of-Union-Map-0-1 as map_end}
use Rattle.rhai_values.specs.declared.base.value.FnPtrKind.TheBlock.{more_of-Union-Map-0-1 as map_more}
use Rattle.rhai_values.specs.declared.base.value.Union.{Union, Array', Map'}
use Rattle.rhai_errors.specs.declared.error.EvalAltResult.TheVariants as error
use Rattle.rhai_state.specs.declared.scope.ScopeEntry.{ScopeEntry}
use Rattle.rhai_machine.specs.language.State.{Local}
use Rattle.rhai_machine.specs.language.Frames.{Frame, Back, Fail, core}
use Rattle.rhai_machine.specs.language.Statements.{constant_core, declared_core, defined_core, enters, with_entry_at}
use Rattle.rhai_machine.specs.language.Values.{unit_value}
use Rattle.rhai_tree.specs.declared.expr.Ident.{Ident}
use Rattle.rhai_state.specs.Scope.{aliased, first_aliases, index_of, name_of, new_entry, revalued, value_of, with_alias}
use Rattle.rhai_stmt.specs.Declares.{own_alias}
use Rattle.rhai_stmt.proofs.ExportSteps.{aliased_names}

-- what holds where a part went well holds where it did
pub of_ok : {A E P : Type 0} (r : Result A E) {v : A} → r ≡ Ok v → OnOk r P → P
of_ok (Ok v) is h = h
of_ok (Err e) is h = cc

-- what follows of it where it did, and of an error where it did not
pub then_ok : {A E P Q : Type 0} (r : Result A E) → (P → Q) → OnOk r P → OnOk r Q
then_ok (Ok v) f h = f h
then_ok (Err e) f h = tt

pub then_err : {A E : Type 0} {P Q : E → Type 0} (r : Result A E) → ((e : E) → P e → Q e) → IfErr r P → IfErr r Q
then_err (Ok v) f h = tt
then_err (Err e) f h = f e h

pub of_err : {A E : Type 0} (P : E → Type 0) (r : Result A E) (e : E) → r ≡ Err e → IfErr r P → P e
of_err P (Ok v) e is h = cc
of_err P (Err x) e is h = let same : x ≡ e = cc in subst P same h

last_there : {A : Type 0} (xs : List A) (x : A) → slice_get (xs ++ x ∷ []) (length xs) ≡ Some x
last_there [] x = refl
last_there (y ∷ xs) x = last_there xs x

module _ {H : Type 0} (mode : AccessMode) where
  -- a copy does not keep a mode
  mutual
    copied_union : (u : Union H) → copy_union (union_with_mode mode u) ≡ copy_union u
    copied_union (Array' shape items) = ap (λ row. Array' shape row) (copied_array items)
    copied_union (Map' shape entries) = ap (λ row. Map' shape row) (copied_map entries)
    copied_union _ = refl

    copied_array : {n : _} (row : Array_row H n) → copy_array (array_with_mode mode row) ≡ copy_array row
    copied_array array_end = refl
    copied_array (array_more shape items rest) = λ i. array_more shape (copied_row items i) (copied_array rest i)

    copied_map : {n : _} (row : Map_row H n) → copy_map (map_with_mode mode row) ≡ copy_map row
    copied_map map_end = refl
    copied_map (map_more shape values rest) = λ i. map_more shape (copied_row values i) (copied_map rest i)

    copied_row : {n : _} (row : Row H n) → copy_row (row_with_mode mode row) ≡ copy_row row
    copied_row end = refl
    copied_row (more value own rest) = λ i. more (copied_union value i) ReadWrite (copied_row rest i)

  copied_value : (v : Dynamic H) → copy_of (with_mode mode v) ≡ copy_of v
  copied_value v = ap (λ (u : Union H). record { value = u; mode = ReadWrite }) (copied_union v.value)

  -- so a value is entered as it was given
  pub entered_as_given : (enters : Bool) (name : List ℕ) (v : Dynamic H) (l : Local H) →
      constant_core enters name (with_mode mode v) l ≡ constant_core enters name v l
  entered_as_given true name v l = ap (λ (x : Dynamic H). record l {
    around = record l.around {
      constant_tables = with_entry_at name x l.around.constant_tables l.around.constants
          (slice_get l.around.constant_tables l.around.constants);
    };
  }) (copied_value v)
  entered_as_given false name v l = refl

  -- a new variable stands behind those that were there
  pub added_there : (old : List (ScopeEntry H)) (name : List ℕ) (v : Dynamic H) →
      option_map value_of (slice_get (old ++ new_entry name mode v ∷ []) (length old)) ≡ Some (with_mode mode v)
  added_there old name v = ap (option_map value_of) (last_there old (new_entry name mode v))

-- ---- where the entries of a name stand

-- the names alone decide where the newest of one stands
pub same_place : {H : Type 0} (name : List ℕ) (xs ys : List (ScopeEntry H)) → map name_of xs ≡ map name_of ys →
    index_of name xs ≡ index_of name ys
same_place name [] [] same = refl
same_place name [] (y ∷ ys) same = cc
same_place name (x ∷ xs) [] same = cc
same_place name (x ∷ xs) (y ∷ ys) same =
    let first : x.name ≡ y.name = cc in
    let later : map name_of xs ≡ map name_of ys = cc in
    rw (first, same_place name xs ys later) refl

-- a new variable is the newest of its name
pub newest_added : {H : Type 0} (name : List ℕ) (mode : AccessMode) (v : Dynamic H) (entries : List (ScopeEntry H)) →
    index_of name (entries ++ new_entry name mode v ∷ []) ≡ Some (length entries)
newest_added name mode v [] = rw ((bytes_eq-Decides name name).1 refl) refl
newest_added name mode v (x ∷ xs) = rw (newest_added name mode v xs) refl

get_set : {A : Type 0} (xs : List A) (i : ℕ) (x y : A) → slice_get xs i ≡ Some x → slice_get (slice_set xs i y) i ≡ Some y
get_set [] i x y is = cc
get_set (z ∷ xs) zero x y is = refl
get_set (z ∷ xs) (suc i) x y is = get_set xs i x y is

set_there : {A : Type 0} (xs : List A) (i : ℕ) (x : A) → slice_get xs i ≡ Some x → slice_set xs i x ≡ xs
set_there [] i x is = cc
set_there (z ∷ xs) zero x is = let same : x ≡ z = cc in ap (λ y. y ∷ xs) same
set_there (z ∷ xs) (suc i) x is = ap (λ ys. z ∷ ys) (set_there xs i x is)

-- the aliases that an entry had are its oldest
oldest : (known : Bool) (alias : List ℕ) (others : List (List ℕ)) →
    take (length others) (if known then others else others ++ alias ∷ []) ≡ others
oldest true alias others = take-length others
oldest false alias others = take-append_seam others (alias ∷ [])

module _ {H : Type 0} where
  -- ---- an entry with its name as an alias

  pub own_names : (exported : Bool) (entries : List (ScopeEntry H)) (at : ℕ) (name : List ℕ) →
      map name_of (own_alias exported entries at name) ≡ map name_of entries
  own_names true entries at name = aliased_names entries at (slice_get entries at) name refl
  own_names false entries at name = refl

  aliased_length : (entries : List (ScopeEntry H)) (at : ℕ) (there : Option (ScopeEntry H)) (alias : List ℕ) →
      length (aliased entries at there alias) ≡ length entries
  aliased_length entries at None alias = refl
  aliased_length entries at (Some entry) alias = length-set entries at _

  pub own_length : (exported : Bool) (entries : List (ScopeEntry H)) (at : ℕ) (name : List ℕ) →
      length (own_alias exported entries at name) ≡ length entries
  own_length true entries at name = aliased_length entries at (slice_get entries at) name
  own_length false entries at name = refl

  aliased_value : (entries : List (ScopeEntry H)) (at : ℕ) (there : Option (ScopeEntry H)) (alias : List ℕ) →
      slice_get entries at ≡ there →
      option_map value_of (slice_get (aliased entries at there alias) at) ≡ option_map value_of there
  aliased_value entries at None alias is = rw is refl
  aliased_value entries at (Some entry) alias is =
      ap (option_map value_of) (get_set entries at entry (record entry { aliases = with_alias alias entry.aliases }) is)

  pub own_value : (exported : Bool) (entries : List (ScopeEntry H)) (at : ℕ) (name : List ℕ) →
      option_map value_of (slice_get (own_alias exported entries at name) at) ≡ option_map value_of (slice_get entries at)
  own_value true entries at name = aliased_value entries at (slice_get entries at) name refl
  own_value false entries at name = refl

  -- ---- what is taken back where there is no memory

  first_aliased : (entries : List (ScopeEntry H)) (at : ℕ) (entry : ScopeEntry H) (name : List ℕ) → slice_get entries at ≡ Some entry →
      first_aliases (aliased entries at (Some entry) name) at (slice_get (aliased entries at (Some entry) name) at) (length entry.aliases)
      ≡ entries
  first_aliased entries at entry name is =
      rw (get_set entries at entry (record entry { aliases = with_alias name entry.aliases }) is)
      (set-set entries at (record entry { aliases = with_alias name entry.aliases })
      (record entry { aliases = take (length entry.aliases) (with_alias name entry.aliases) })
      ∙ ap (λ (names : List (List ℕ)). slice_set entries at (record entry { aliases = names }))
      (oldest (list_any (λ other. bytes_eq other name) entry.aliases) name entry.aliases)
      ∙ set_there entries at entry is)

  pub first_own : (exported : Bool) (entries : List (ScopeEntry H)) (at : ℕ) (entry : ScopeEntry H) (name : List ℕ) (count : ℕ) →
      slice_get entries at ≡ Some entry → count ≡ length entry.aliases →
      first_aliases (own_alias exported entries at name) at (slice_get (own_alias exported entries at name) at) count ≡ entries
  first_own true entries at entry name count is counted = rw (counted, is) (first_aliased entries at entry name is)
  first_own false entries at entry name count is counted = rw (counted, is)
      (ap (λ (names : List (List ℕ)). slice_set entries at (record entry { aliases = names })) (take-length entry.aliases)
      ∙ set_there entries at entry is)

  -- the value that an entry had
  put_back_by : (entries : List (ScopeEntry H)) (at : ℕ) (there : Option (ScopeEntry H)) (v old : Dynamic H) →
      slice_get entries at ≡ there →
      option_map value_of there ≡ Some old →
      revalued (revalued entries at there v) at (slice_get (revalued entries at there v) at) old ≡ entries
  put_back_by entries at None v old is stands = cc
  put_back_by entries at (Some entry) v old is stands =
      let here : entry.value ≡ old = cc in
      rw (get_set entries at entry (record entry { value = v }) is, ← here)
      (set-set entries at (record entry { value = v }) entry ∙ set_there entries at entry is)

  pub put_back : (entries : List (ScopeEntry H)) (at : ℕ) (v old : Dynamic H) → option_map value_of (slice_get entries at) ≡ Some old →
      revalued (revalued entries at (slice_get entries at) v) at (slice_get (revalued entries at (slice_get entries at) v) at) old ≡ entries
  put_back entries at v old stands = put_back_by entries at (slice_get entries at) v old refl stands

  -- ---- an entry with another value

  rewritten_names : (entries : List (ScopeEntry H)) (at : ℕ) (there : Option (ScopeEntry H)) (v : Dynamic H) →
      slice_get entries at ≡ there →
      map name_of (revalued entries at there v) ≡ map name_of entries
  rewritten_names entries at None v is = refl
  rewritten_names entries at (Some entry) v is = map-set_same name_of entries at (record entry { value = v }) entry
      (sym (ap name_of (get_or_from_slice_get entries at entry entry is)))

  pub revalued_names : (entries : List (ScopeEntry H)) (at : ℕ) (v : Dynamic H) →
      map name_of (revalued entries at (slice_get entries at) v) ≡ map name_of entries
  revalued_names entries at v = rewritten_names entries at (slice_get entries at) v refl

  rewritten_value : (entries : List (ScopeEntry H)) (at : ℕ) (there : Option (ScopeEntry H)) (v old : Dynamic H) →
      slice_get entries at ≡ there → option_map value_of there ≡ Some old →
      option_map value_of (slice_get (revalued entries at there v) at) ≡ Some v
  rewritten_value entries at None v old is stands = cc
  rewritten_value entries at (Some entry) v old is stands =
      ap (option_map value_of) (get_set entries at entry (record entry { value = v }) is)

  pub revalued_value : (entries : List (ScopeEntry H)) (at : ℕ) (v old : Dynamic H) →
      option_map value_of (slice_get entries at) ≡ Some old →
      option_map value_of (slice_get (revalued entries at (slice_get entries at) v) at) ≡ Some v
  revalued_value entries at v old stands = rewritten_value entries at (slice_get entries at) v old refl stands

  rewritten_length : (entries : List (ScopeEntry H)) (at : ℕ) (there : Option (ScopeEntry H)) (v : Dynamic H) →
      length (revalued entries at there v) ≡ length entries
  rewritten_length entries at None v = refl
  rewritten_length entries at (Some entry) v = length-set entries at _

  pub revalued_length : (entries : List (ScopeEntry H)) (at : ℕ) (v : Dynamic H) →
      length (revalued entries at (slice_get entries at) v) ≡ length entries
  revalued_length entries at v = rewritten_length entries at (slice_get entries at) v

  -- ---- what the machine's rule makes of it

  pub declares_at : (exported : Bool) (ident : Ident) (k : List (Frame H)) (l : Local H) (at : ℕ) → index_of ident.name l.scope ≡ Some at →
      declared_core exported ident k l ≡ core (Back unit_value) k (record l { scope = own_alias exported l.scope at ident.name })
  declares_at false ident k l at is = refl
  declares_at true ident k l at is = rw is refl

-- where no variable has the name of one that is to overwrite another, its value is entered, and an export finds nothing
module _ {H : Type 0} (v : Dynamic H) (ident : Ident) (offset : NonZeroUsize) (options : ASTFlags) (restoring : Bool) (old new : Local H)
    (entered : new ≡ constant_core (enters options restoring old) ident.name v old) (none : index_of ident.name new.scope ≡ None)
    (k : List (Frame H)) where
  pub overwrites_none : is_exported options ≡ false →
      defined_core v ident (Some offset) options restoring k old ≡ core (Back unit_value) k new
  overwrites_none plain = rw (plain, ← entered, none) refl

  pub exports_none : is_exported options ≡ true →
      defined_core v ident (Some offset) options restoring k old ≡ core (Fail (error.ErrorVariableNotFound ident.name ident.pos)) k new
  exports_none exported = rw (exported, ← entered, none, none) refl
