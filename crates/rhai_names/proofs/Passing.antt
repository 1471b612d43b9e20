-- A variable that comes first: what is passed of it.
use Rattle.std.proofs.Common.{◌≡◌, ℕ, Bool, true, false, not, ◌&&◌, List, ◌∷◌, Option, Some, None, Result, Ok, Err, is_some, refl, sym, ap}
use Rattle.std.proofs.Common.{◌∙◌}
use Rattle.rhai_tree.specs.declared.position.Position.{Position}
use Rattle.rhai_values.specs.declared.base.value.AccessMode.{AccessMode}
use Rattle.rhai_values.specs.declared.base.value.Dynamic.{Dynamic}
use Rattle.rhai_values.specs.declared.base.value.Union.{Union}
use Rattle.rhai_values.specs.declared.base.value.Union.TheVariants as value
use Rattle.rhai_values.specs.Cells.{value_of_cell}
use Rattle.rhai_values.specs.Copy.{copy_of}
use Rattle.rhai_state.specs.declared.scope.ScopeEntry.{ScopeEntry}
use Rattle.rhai_errors.specs.declared.error.EvalAltResult.{EvalAltResult}
use Rattle.rhai_errors.specs.declared.error.EvalAltResult.TheVariants as error
use Rattle.rhai_state.specs.Scope.{value_in}
use Rattle.rhai_state.specs.declared.session.Offered.{Offered}
use Rattle.rhai_machine.specs.language.Setting.{Globals, Offer, globals_of}
use Rattle.rhai_machine.specs.language.State.{Surroundings}
use Rattle.rhai_machine.specs.language.Variables.{Variable}
use Rattle.rhai_machine.specs.language.Values.{Cells, flat, is_handle}
use Rattle.rhai_machine.specs.language.Names.{entered, entry_named, looked_up, meant, of_entry, temporary, value_beside}
use Rattle.rhai_machine.specs.language.Places.{is_constant}
use Rattle.rhai_machine.specs.language.Frames.{Operation, FromEntry}
use Rattle.rhai_machine.specs.language.Calls.{is_held}
use Rattle.rhai_machine.specs.language.Arguments.{call_on, passed, passed_as, passed_flat, passed_seen}
use Rattle.rhai_machine.proofs.MeantLaws.{meant_at, meant_beside}
use Rattle.rhai_steps.specs.Offers.{Offers, globals_in}
use Rattle.rhai_names.proofs.Offering.{globals_same}
use Rattle.rhai_steps.specs.Lending.{lent_call}
use Rattle.rhai_names.specs.Passed.{copy_passed, is_lendable, meaning_passed}

not_constant : (constant handle : Bool) → (not constant && not handle) ≡ true → constant ≡ false
not_constant true handle is = cc
not_constant false handle is = refl

not_handle : (constant handle : Bool) → (not constant && not handle) ≡ true → handle ≡ false
not_handle true handle is = cc
not_handle false true is = cc
not_handle false false is = refl

constant_then : (constant : Bool) → (not constant && true) ≡ false → constant ≡ true
constant_then true is = refl
constant_then false is = cc

module _ {H : Type 0} (cells : Cells H) (at : Position) where
  entered_held : (name : List ℕ) (v : Dynamic H) (o : Option (Dynamic H)) → not (is_some o) ≡ true →
      entered name at v o ≡ Err (error.ErrorDataRace name at)
  entered_held name v None is = refl
  entered_held name v (Some x) is = cc

  entered_free : (name : List ℕ) (v : Dynamic H) (o : Option (Dynamic H)) → not (is_some o) ≡ false → entered name at v o ≡ Ok v
  entered_free name v None is = cc
  entered_free name v (Some x) is = refl

  pub looked_held : (name : List ℕ) (u : Union H) (v : Dynamic H) → is_held cells u ≡ true →
      looked_up cells name at u v ≡ Err (error.ErrorDataRace name at)
  looked_held name (value.Cell id) v is = entered_held name v (value_of_cell cells id.number) is
  looked_held name _ v is = cc

  pub looked_free : (name : List ℕ) (u : Union H) (v : Dynamic H) → is_held cells u ≡ false → looked_up cells name at u v ≡ Ok v
  looked_free name (value.Cell id) v is = entered_free name v (value_of_cell cells id.number) is
  looked_free name _ v is = refl

  module _ (operation : Operation) (args : List (Dynamic H)) (entry : ℕ) where
    -- what may be lent is lent from its entry
    passed_lent : (u : Union H) (v : Dynamic H) → (not (is_constant v.mode) && not (is_handle u)) ≡ true →
        passed cells at operation args entry u v ≡ Ok (lent_call operation (Some (FromEntry entry)) true (v ∷ args))
    passed_lent (value.Cell id) v is = let no : true ≡ false = not_handle (is_constant v.mode) true is in cc
    passed_lent _ v is =
        ap (λ (b : Bool). Ok (passed_as b operation args entry v)) (not_constant (is_constant v.mode) false is)

    -- and of anything else a copy is passed
    passed_copied : (u : Union H) (mode : AccessMode) → (not (is_constant mode) && not (is_handle u)) ≡ false →
        passed cells at operation args entry u (record { value = u; mode = mode })
        ≡ passed_flat operation args (flat cells (copy_of (record { value = u; mode = mode })) at)
    passed_copied (value.Cell id) mode is = refl
    passed_copied u mode is =
        ap (λ (b : Bool). Ok (passed_as b operation args entry (record { value = u; mode = mode })))
        (constant_then (is_constant mode) is)

  -- a temporary is passed as a copy
  temporary_passed : (operation : Operation) (args : List (Dynamic H)) (r : Result (Dynamic H) (EvalAltResult H)) →
      passed_seen cells at operation args (temporary r) ≡ passed_flat operation args (copy_passed cells at r)
  temporary_passed operation args (Ok v) = refl
  temporary_passed operation args (Err e) = refl

  -- what a variable means, as a copy is passed of it
  entry_copied : (index : ℕ) (r : Result (Dynamic H) (EvalAltResult H)) →
      meaning_passed cells at (of_entry index r) ≡ copy_passed cells at r
  entry_copied index (Ok v) = refl
  entry_copied index (Err e) = refl

  temporary_copied : (r : Result (Dynamic H) (EvalAltResult H)) → meaning_passed cells at (temporary r) ≡ copy_passed cells at r
  temporary_copied (Ok v) = refl
  temporary_copied (Err e) = refl

-- a temporary over the modules as the code has them
pub beside_offered : {H : Type 0} (offer : Offer H) (offered : Offered H) → Offers offer offered → (around : Surroundings H)
    (variable : Variable) (r : Result (Dynamic H) (EvalAltResult H)) →
    r ≡ copy_passed around.cells variable.at (value_beside (globals_in offered) around variable) →
    r ≡ copy_passed around.cells variable.at (value_beside (globals_of offer) around variable)
beside_offered offer offered offers around variable r is =
    is ∙ ap (λ (globals : Globals _). copy_passed around.cells variable.at (value_beside globals around variable))
    (sym (globals_same offer offered offers))

module _ {H : Type 0} (globals : Globals H) (around : Surroundings H) (entries : List (ScopeEntry H)) (variable : Variable) where
  -- a variable that no entry has is a temporary
  pub beside_copied : entry_named variable.path.names variable.name entries ≡ None →
      meaning_passed around.cells variable.at (meant globals around entries variable)
      ≡ copy_passed around.cells variable.at (value_beside globals around variable)
  beside_copied none = ap (meaning_passed around.cells variable.at) (meant_beside globals around entries variable none)
      ∙ temporary_copied around.cells variable.at (value_beside globals around variable)

  module _ (index : ℕ) (v : Dynamic H) (there : entry_named variable.path.names variable.name entries ≡ Some index)
      (stands : value_in entries (Some index) ≡ Some v) where
    -- and one that an entry has is what is looked up there
    pub entry_looked : meaning_passed around.cells variable.at (meant globals around entries variable)
        ≡ copy_passed around.cells variable.at (looked_up around.cells variable.name variable.at v.value v)
    entry_looked = ap (meaning_passed around.cells variable.at) (meant_at globals around entries variable index v there stands)
        ∙ entry_copied around.cells variable.at index (looked_up around.cells variable.name variable.at v.value v)

  module _ (operation : Operation) (args : List (Dynamic H)) where
    -- no entry has the variable, and a copy of the temporary is passed
    pub on_beside : entry_named variable.path.names variable.name entries ≡ None → (r : Result (Dynamic H) (EvalAltResult H)) →
        r ≡ copy_passed around.cells variable.at (value_beside globals around variable) →
        call_on globals around entries operation variable args ≡ passed_flat operation args r
    on_beside none r same =
        ap (passed_seen around.cells variable.at operation args) (meant_beside globals around entries variable none)
        ∙ temporary_passed around.cells variable.at operation args (value_beside globals around variable)
        ∙ ap (passed_flat operation args) (sym same)

    module _ (index : ℕ) (v : Dynamic H) (there : entry_named variable.path.names variable.name entries ≡ Some index)
        (stands : value_in entries (Some index) ≡ Some v) where
      seen : call_on globals around entries operation variable args
          ≡ passed_seen around.cells variable.at operation args
          (of_entry index (looked_up around.cells variable.name variable.at v.value v))
      seen = ap (passed_seen around.cells variable.at operation args)
          (meant_at globals around entries variable index v there stands)

      -- its cell is held
      pub on_held : is_held around.cells v.value ≡ true →
          call_on globals around entries operation variable args ≡ Err (error.ErrorDataRace variable.name variable.at)
      on_held is = seen
          ∙ ap (λ (r : Result (Dynamic H) (EvalAltResult H)). passed_seen around.cells variable.at operation args (of_entry index r))
          (looked_held around.cells variable.at variable.name v.value v is)

      free : is_held around.cells v.value ≡ false →
          call_on globals around entries operation variable args
          ≡ passed around.cells variable.at operation args index v.value v
      free is = seen
          ∙ ap (λ (r : Result (Dynamic H) (EvalAltResult H)). passed_seen around.cells variable.at operation args (of_entry index r))
          (looked_free around.cells variable.at variable.name v.value v is)

      -- its value is lent
      pub on_lent : is_held around.cells v.value ≡ false → is_lendable v ≡ true →
          call_on globals around entries operation variable args ≡ Ok (lent_call operation (Some (FromEntry index)) true (v ∷ args))
      on_lent is lends = free is ∙ passed_lent around.cells variable.at operation args index v.value v lends

      -- a copy of it is passed
      pub on_passed : is_held around.cells v.value ≡ false → is_lendable v ≡ false → (r : Result (Dynamic H) (EvalAltResult H)) →
          r ≡ flat around.cells (copy_of v) variable.at →
          call_on globals around entries operation variable args ≡ passed_flat operation args r
      on_passed is lends r same =
          free is ∙ passed_copied around.cells variable.at operation args index v.value v.mode lends
          ∙ ap (passed_flat operation args) (sym same)
