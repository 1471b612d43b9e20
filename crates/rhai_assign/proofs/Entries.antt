-- The target of a variable that an entry has: it is what the machine finds, whatever modules there are.
use Rattle.std.proofs.Common.{◌≡◌, false, is_ok, ℕ, List, Option, Some, None, Result, Ok, Err, refl, ap, subst, sym, ◌∙◌}
use Rattle.rhai_tree.specs.declared.position.Position.{Position}
use Rattle.rhai_values.specs.declared.base.value.CellId.{CellId}
use Rattle.rhai_values.specs.declared.base.value.Dynamic.{Dynamic}
use Rattle.rhai_values.specs.declared.base.value.Union.{Union}
use Rattle.rhai_values.specs.declared.base.value.Union.TheVariants as value
use Rattle.rhai_values.specs.Cells.{value_of_cell}
use Rattle.rhai_errors.specs.declared.error.EvalAltResult.{EvalAltResult}
use Rattle.rhai_state.specs.declared.scope.ScopeEntry.{ScopeEntry}
use Rattle.rhai_state.specs.Scope.{value_in}
use Rattle.rhai_state.specs.declared.session.Offered.{Offered}
use Rattle.rhai_machine.specs.language.Setting.{Globals, Offer, globals_of}
use Rattle.rhai_machine.specs.language.State.{Surroundings}
use Rattle.rhai_machine.specs.language.Values.{Cells}
use Rattle.rhai_machine.specs.language.Variables.{Variable}
use Rattle.rhai_machine.specs.language.Names.{entered, entry_named, looked_up, of_entry, temporary}
use Rattle.rhai_machine.specs.language.Places.{Target, target_at, target_in_cell, target_meant, target_of}
use Rattle.rhai_machine.proofs.MeantLaws.{meant_at}
use Rattle.rhai_steps.specs.Offers.{Offers, globals_in}
use Rattle.rhai_names.proofs.Offering.{globals_same}
use Rattle.rhai_assign.specs.Targets.{if_found, named_target, target_there}

module _ {H : Type 0} where
  -- the target of a variable whose entry is known
  pub target_is : (cells : Cells H) (path : List (List ℕ)) (name : List ℕ) (at : Position) (entries : List (ScopeEntry H)) (i : ℕ)
      (v : Dynamic H) → entry_named path name entries ≡ Some i → value_in entries (Some i) ≡ Some v →
      named_target cells path name at entries ≡ if_found (target_at cells name at i v.value v)
  target_is cells path name at entries i v is stands = rw (is, stands) refl

  pub found_none : (r : Result (Target H) (EvalAltResult H)) → is_ok r ≡ false → if_found r ≡ None
  found_none (Ok t) is = cc
  found_none (Err e) is = refl

  found_some : (r : Result (Target H) (EvalAltResult H)) (t : Target H) → if_found r ≡ Some t → r ≡ Ok t
  found_some (Ok s) t is = let same : s ≡ t = cc in ap (λ (s : Target H). Ok s) same
  found_some (Err e) t is = cc

  -- a held cell refuses its handle as a target as it does when the variable is read
  seen_in_cell : (cells : Cells H) (name : List ℕ) (at : Position) (index : ℕ) (id : CellId) (v : Dynamic H) (inner : Option (Dynamic H)) →
      v.value ≡ value.Cell id → value_of_cell cells id.number ≡ inner →
      target_meant cells name at (of_entry index (entered name at v inner)) ≡ target_in_cell name at v.mode id.number inner
  seen_in_cell cells name at index id v (Some w) is there = rw (is, there) refl
  seen_in_cell cells name at index id v None is there = refl

  seen_at : (cells : Cells H) (name : List ℕ) (at : Position) (index : ℕ) (u : Union H) (v : Dynamic H) → v.value ≡ u →
      target_meant cells name at (of_entry index (looked_up cells name at u v)) ≡ target_at cells name at index u v
  seen_at cells name at index (value.Cell id) v is = seen_in_cell cells name at index id v (value_of_cell cells id.number) is refl
  seen_at cells name at index _ v is = rw is refl

  -- a temporary is no target
  pub none_temporary : (cells : Cells H) (name : List ℕ) (at : Position) (r : Result (Dynamic H) (EvalAltResult H)) →
      is_ok (target_meant cells name at (temporary r)) ≡ false
  none_temporary cells name at (Ok v) = refl
  none_temporary cells name at (Err e) = refl

  module _ (globals : Globals H) (around : Surroundings H) (scope : List (ScopeEntry H)) (variable : Variable) where
    -- the target at an entry
    pub entry_meant : (i : ℕ) (v : Dynamic H) → entry_named variable.path.names variable.name scope ≡ Some i →
        value_in scope (Some i) ≡ Some v →
        target_of globals around scope variable ≡ target_at around.cells variable.name variable.at i v.value v
    entry_meant i v is stands =
        ap (target_meant around.cells variable.name variable.at) (meant_at globals around scope variable i v is stands)
        ∙ seen_at around.cells variable.name variable.at i v.value v refl

    there_meant : (entry : Option ℕ) (there : Option (Dynamic H)) (t : Target H) →
        entry_named variable.path.names variable.name scope ≡ entry → value_in scope entry ≡ there →
        target_there around.cells variable.name variable.at entry there ≡ Some t → target_of globals around scope variable ≡ Ok t
    there_meant None there t is stands found = cc
    there_meant (Some i) None t is stands found = cc
    there_meant (Some i) (Some v) t is stands found =
        entry_meant i v is stands ∙ found_some (target_at around.cells variable.name variable.at i v.value v) t found

    pub named_meant : (t : Target H) → named_target around.cells variable.path.names variable.name variable.at scope ≡ Some t →
        target_of globals around scope variable ≡ Ok t
    named_meant t found = there_meant (entry_named variable.path.names variable.name scope)
        (value_in scope (entry_named variable.path.names variable.name scope)) t refl refl found

  -- what is found among the modules in the code is found among those of the rules
  pub target_seen : (offer : Offer H) (offered : Offered H) → Offers offer offered → (around : Surroundings H)
      (scope : List (ScopeEntry H)) (variable : Variable) (r : Result (Target H) (EvalAltResult H)) →
      target_of (globals_in offered) around scope variable ≡ r → target_of (globals_of offer) around scope variable ≡ r
  target_seen offer offered offers around scope variable r found =
      subst (λ (globals : Globals H). target_of globals around scope variable ≡ r) (sym (globals_same offer offered offers)) found
