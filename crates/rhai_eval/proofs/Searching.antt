-- What a variable's name finds: a variable of the scope, or what the name means beside those.
use Rattle.std.proofs.Common.{◌≡◌, ℕ, Bool, true, false, List, [], ◌∷◌, Option, Some, None, Result, Ok, Err, refl, sym, ap, ◌∙◌}
use Rattle.std.proofs.Common.{is_some, subst}
use Rattle.std.specs.Borrow.{Bor}
use Rattle.std.specs.Prelude.{IfErr, if◌then◌else◌}
use Rattle.std.specs.Option.{option_copied}
use Rattle.std.specs.declared.num.NonZeroUsize.{NonZeroUsize}
use Rattle.rhai_tree.specs.declared.expr.Expr.TheOpen as layer
use Rattle.rhai_tree.specs.declared.expr.Namespace.{Namespace}
use Rattle.rhai_tree.specs.declared.position.Position.{Position}
use Rattle.rhai_tree.specs.Forms.{is_unqualified}
use Rattle.rhai_tree.specs.Layers.{ExprLayer}
use Rattle.rhai_values.specs.declared.base.value.Dynamic.{Dynamic}
use Rattle.rhai_state.specs.declared.scope.ScopeEntry.{ScopeEntry}
use Rattle.rhai_errors.specs.declared.error.EvalAltResult.{EvalAltResult}
use Rattle.rhai_errors.specs.Errors.{is_out_of_memory}
use Rattle.rhai_state.specs.Scope.{variable_value, in_use, Fits}
use Rattle.rhai_spots.specs.declared.part.Part.TheVariants as part
use Rattle.rhai_machine.specs.language.Setting.{Globals}
use Rattle.rhai_machine.specs.language.State.{Answers, Surroundings}
use Rattle.rhai_machine.specs.language.Values.{unit_value}
use Rattle.rhai_machine.specs.language.Variables.{Variable, variable_named}
use Rattle.rhai_machine.specs.language.Names.{there_or_unknown, value_behind, variable_of, without_entry}
use Rattle.rhai_steps.specs.Offsets.{index_in}
use Rattle.rhai_names.specs.Roots.{path_searched}
use Rattle.rhai_eval.specs.Search.{beside, found_behind, in_place, is_variable, named, searched, value_there, variable_searched}
use Rattle.rhai_eval.specs.Search.{found_by_path, IsBehind, IsBeside}

module _ {H : Type 0} (searches : Bool) (globals : Globals H) (around : Surroundings H) (entries : List (ScopeEntry H)) where
  named_there : (variable : Variable) (there : Option (Dynamic H)) → is_some there ≡ true →
      named globals around variable there ≡ in_place (variable_of around.cells variable.name variable.at there)
  named_there variable (Some v) is = refl
  named_there variable None is = cc

  some_in_place : (o : Option (Result (Dynamic H) (EvalAltResult H))) (r q : Result (Dynamic H) (EvalAltResult H)) → o ≡ Some r →
      o ≡ Some q → in_place r ≡ in_place q
  some_in_place o r q one other = let same : r ≡ q = cc in ap in_place same

  -- a variable that is there is found in its place
  pub found_there : (form : ExprLayer) (r : Result (Dynamic H) (EvalAltResult H)) → is_some (value_there searches form entries) ≡ true →
      variable_searched searches form around.cells entries ≡ Some r → searched searches form globals around entries ≡ Some (in_place r)
  found_there (layer.Variable offset name namespace pos) r there is =
      ap Some (named_there (variable_named name namespace pos) (variable_value (in_use searches offset) name entries) there
      ∙ some_in_place _ (variable_of around.cells name pos (variable_value (in_use searches offset) name entries)) r refl is)
  found_there _ r there is = cc

  -- or refused there
  pub missed_there : {A : Type 0} (form : ExprLayer) (r : Result A (EvalAltResult H)) (e : EvalAltResult H) →
      is_some (value_there searches form entries) ≡ true → r ≡ Err e →
      (is_out_of_memory e ≡ false → variable_searched searches form around.cells entries ≡ Some (Err e)) →
      IfErr r (λ e. is_out_of_memory e ≡ false → searched searches form globals around entries ≡ Some (Err e))
  missed_there form (Ok v) e there is missed = tt
  missed_there form (Err f) e there is missed = λ told.
      let same : f ≡ e = cc in rw same (found_there form (Err e) there (missed (rw same at told)))

  named_beside : (variable : Variable) (there : Option (Dynamic H)) → is_some there ≡ false →
      named globals around variable there ≡ named globals around variable None
  named_beside variable None is = refl
  named_beside variable (Some v) is = cc

  -- where it is not, what its name means is found beside the variables
  pub found_beside : (form : ExprLayer) (v : Dynamic H) → is_some (value_there searches form entries) ≡ false →
      IsBeside globals around form (Ok v) → searched searches form globals around entries ≡ Some (Ok (unit_value, part.Temporary v))
  found_beside (layer.Variable offset name namespace pos) v none is =
      ap Some (named_beside (variable_named name namespace pos) (variable_value (in_use searches offset) name entries) none ∙ ap
      beside (sym (is tt)))
  found_beside _ v none is = absurd is

  -- or none
  none_beside : (form : ExprLayer) (e : EvalAltResult H) → is_some (value_there searches form entries) ≡ false →
      IsBeside globals around form (Err e) → is_out_of_memory e ≡ false → searched searches form globals around entries ≡ Some (Err e)
  none_beside (layer.Variable offset name namespace pos) e none is told =
      ap Some (named_beside (variable_named name namespace pos) (variable_value (in_use searches offset) name entries) none ∙ ap beside
      (sym (is told)))
  none_beside _ e none is told = absurd is

  pub missed_beside : {A : Type 0} (form : ExprLayer) (r : Result A (EvalAltResult H)) (e : EvalAltResult H) →
      is_some (value_there searches form entries) ≡ false → r ≡ Err e → IsBeside globals around form (Err e) →
      IfErr r (λ e. is_out_of_memory e ≡ false → searched searches form globals around entries ≡ Some (Err e))
  missed_beside form (Ok v) e none is by = tt
  missed_beside form (Err f) e none is by = λ told.
      let same : f ≡ e = cc in rw same (none_beside form e none by (rw same at told))

-- ---- a variable behind a path, or not

module _ {H : Type 0} (searches : Bool) (globals : Globals H) (around : Surroundings H) (entries : List (ScopeEntry H)) where
  in_scope : (path : List (List ℕ)) (variable : Variable) (index : Option NonZeroUsize) (there : Option (Dynamic H)) →
      is_unqualified path ≡ true → found_by_path path globals around variable index there ≡ named globals around variable there
  in_scope [] variable index there is = refl
  in_scope (root ∷ path) variable index there is = cc

  -- without a path it is searched for in the scope
  pub found_in_scope : (form : ExprLayer) → is_variable form ≡ true →
      found_behind searches form globals around entries ≡ searched searches form globals around entries
  found_in_scope (layer.Variable offset name namespace pos) is =
      ap Some (in_scope namespace.path (variable_named name namespace pos) (in_use searches namespace.index)
      (variable_value (in_use searches offset) name entries) is)
  found_in_scope _ is = cc

  in_module : (path : List (List ℕ)) (variable : Variable) (index : Option NonZeroUsize) (there : Option (Dynamic H)) →
      is_unqualified path ≡ false → found_by_path path globals around variable index there
      ≡ beside (path_searched globals around index path variable.name variable.path.at)
  in_module [] variable index there is = cc
  in_module (root ∷ path) variable index there is = refl

  -- and behind one it is a constant of a module
  pub found_in_module : (form : ExprLayer) (v : Dynamic H) → is_variable form ≡ false → IsBehind searches globals around form (Ok v) →
      found_behind searches form globals around entries ≡ Some (Ok (unit_value, part.Temporary v))
  found_in_module (layer.Variable offset name namespace pos) v behind is =
      ap Some (in_module namespace.path (variable_named name namespace pos) (in_use searches namespace.index)
      (variable_value (in_use searches offset) name entries) behind
      ∙ ap beside (sym (is tt)))
  found_in_module _ v behind is = absurd is

  none_in_module : (form : ExprLayer) (e : EvalAltResult H) → is_variable form ≡ false → IsBehind searches globals around form (Err e) →
      is_out_of_memory e ≡ false → found_behind searches form globals around entries ≡ Some (Err e)
  none_in_module (layer.Variable offset name namespace pos) e behind is told =
      ap Some (in_module namespace.path (variable_named name namespace pos) (in_use searches namespace.index)
      (variable_value (in_use searches offset) name entries) behind
      ∙ ap beside (sym (is told)))
  none_in_module _ e behind is told = absurd is

  pub missed_in_module : {A : Type 0} (form : ExprLayer) (r : Result A (EvalAltResult H)) (e : EvalAltResult H) →
      is_variable form ≡ false → r ≡ Err e → IsBehind searches globals around form (Err e) →
      IfErr r (λ e. is_out_of_memory e ≡ false → found_behind searches form globals around entries ≡ Some (Err e))
  missed_in_module form (Ok v) e behind is by = tt
  missed_in_module form (Err f) e behind is by = λ told.
      let same : f ≡ e = cc in rw same (none_in_module form e behind by (rw same at told))

-- what a name without a path means beside the variables, it means by itself
module _ {H : Type 0} (globals : Globals H) (around : Surroundings H) where
  named_alone : (path : List (List ℕ)) (variable : Variable) → is_unqualified path ≡ true → value_behind globals around path variable
      ≡ there_or_unknown (without_entry globals around.lib variable.name) variable.name variable.at
  named_alone [] variable is = refl
  named_alone (root ∷ path) variable is = cc

  pub alone_beside : (form : ExprLayer) (offset : Option NonZeroUsize) (name : List ℕ) (namespace : Namespace) (pos : Position)
      (result : Result (Dynamic H) (EvalAltResult H)) → form ≡ layer.Variable offset name namespace pos → is_variable form ≡ true →
      Answers result (there_or_unknown (without_entry globals around.lib name) name pos) → IsBeside globals around form result
  alone_beside form offset name namespace pos result is alone told =
      subst (λ f. IsBeside globals around f result) (sym is) (λ memory. told memory
      ∙ sym (named_alone namespace.path (variable_named name namespace pos) (rw is at alone)))

by_path : (is_unqualified : Bool) (index : Option NonZeroUsize) (count : ℕ) → is_unqualified ≡ false →
    Fits (if is_unqualified then None else index) count → Fits index count
by_path true index count behind fits = cc
by_path false index count behind fits = fits

-- the index of a path that is there fits
pub index_fits : (searches : Bool) (form : ExprLayer) (offset : Option NonZeroUsize) (name : List ℕ) (namespace : Namespace)
    (pos : Position) (count : ℕ) → form ≡ layer.Variable offset name namespace pos → is_variable form ≡ false →
    Fits (index_in searches form) count → Fits (in_use searches namespace.index) count
index_fits searches form offset name namespace pos count is behind fits =
    by_path (is_unqualified namespace.path) (in_use searches namespace.index) count (rw is at behind) (rw is at fits)

-- a value is there, seen or copied
pub seen_there : {H : Type 0} (seen : Option (Bor (Dynamic H))) (there : Option (Dynamic H)) (b : Bool) → option_copied seen ≡ there →
    b ≡ is_some seen → is_some there ≡ b
seen_there None there b is told = ap is_some (sym is) ∙ sym told
seen_there (Some v) there b is told = ap is_some (sym is) ∙ sym told
