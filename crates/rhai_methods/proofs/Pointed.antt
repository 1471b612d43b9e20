-- A pointer that is called: by its parts, or the function that it is linked to.
use Rattle.std.proofs.Common.{◌≡◌, length, List, ◌++◌, Bor, Option, Some, None, refl, sym, ap, subst}
use Rattle.std.specs.Prelude.{ℕ, unwrap_or}
use Rattle.std.specs.Option.{option_copied}
use Rattle.rhai_tree.specs.declared.literal.NativeId.{NativeId}
use Rattle.rhai_tree.specs.declared.position.Position.{Position}
use Rattle.rhai_values.specs.declared.base.value.Dynamic.{Dynamic}
use Rattle.rhai_values.specs.declared.base.value.FnPtr.{FnPtr, out-FnPtr}
use Rattle.rhai_functions.specs.declared.function.Function.{Function}
use Rattle.rhai_machine.specs.language.Setting.{Rules}
use Rattle.rhai_machine.specs.language.State.{State}
use Rattle.rhai_machine.specs.language.Activations.{NoThis, TheFocus}
use Rattle.rhai_machine.specs.language.Arguments.{linked_to}
use Rattle.rhai_machine.specs.language.Runs.{Goes}
use Rattle.rhai_call_forms.specs.Pointers.{native_number_of}
use Rattle.rhai_methods.specs.Calls.{alone_by, on_by}
use Rattle.rhai_methods.specs.Methods.{MethodCall, came_from}
use Rattle.rhai_methods.specs.Parts.{all_of, alone_as, alone_with, name_called, on_as, on_with, IsLinked}
use Rattle.rhai_methods.specs.declared.calls.MethodEntry.TheVariants.{Alone, OnTarget}
use Rattle.rhai_methods.proofs.Going.{begins_alike, linked_goes}

-- the name that is given, or else the pointer's own
pub called_is : {H : Type 0} (p : FnPtr H) (given : Option (Bor (List ℕ))) (own : Bor (List ℕ)) → own.now ≡ (out-FnPtr H p).name →
    (unwrap_or given own).now ≡ name_called p (option_copied given)
called_is p (Some name) own is = refl
called_is p None own is = is

module _ {S H : Type 0} (rules : Rules S H) (p : FnPtr H) (at : Position) (args : List (Dynamic H)) (old new : State S H)
    (call : MethodCall H) where
  module _ (number : Option NativeId) (name : List ℕ) (curried : List (Dynamic H)) (named : name ≡ (out-FnPtr H p).name)
      (has : curried ≡ (out-FnPtr H p).curry) (leads : number ≡ native_number_of (out-FnPtr H p).kind) where
    -- what is linked to no function
    pub by_parts_alone : Goes rules (alone_by rules.setting number name at (curried ++ args)) old (came_from at call) new →
        Goes rules (alone_as rules.setting None p at args) old (came_from at call) new
    by_parts_alone runs =
        subst (λ (n : Option NativeId).
        Goes rules (alone_by rules.setting n (out-FnPtr H p).name at ((out-FnPtr H p).curry ++ args)) old (came_from at call) new) leads
        (subst (λ (vs : List (Dynamic H)).
        Goes rules (alone_by rules.setting number (out-FnPtr H p).name at (vs ++ args)) old (came_from at call) new) has
        (subst (λ (text : List ℕ). Goes rules (alone_by rules.setting number text at (curried ++ args)) old (came_from at call) new) named
        runs))

    pub by_parts_on : (called : List ℕ) (focus : Dynamic H) →
        Goes rules (on_by rules.setting number called name at (curried ++ args) focus) old (came_from at call) new →
        Goes rules (on_as rules.setting None p called at args focus) old (came_from at call) new
    by_parts_on called focus runs =
        subst (λ (n : Option NativeId).
        Goes rules (on_by rules.setting n called (out-FnPtr H p).name at ((out-FnPtr H p).curry ++ args) focus) old
        (came_from at call) new) leads
        (subst (λ (vs : List (Dynamic H)).
        Goes rules (on_by rules.setting number called (out-FnPtr H p).name at (vs ++ args) focus) old (came_from at call) new) has
        (subst (λ (text : List ℕ).
        Goes rules (on_by rules.setting number called text at (curried ++ args) focus) old (came_from at call) new) named runs))

  -- ---- the function that a pointer is linked to

  module _ (found : Option (Function H)) (is : found ≡ linked_to p (length (all_of p args)) old.local.around.lib) where
    pub alone_found : Goes rules (alone_as rules.setting found p at args) old (came_from at call) new →
        Goes rules (alone_with rules.setting p at args) old (came_from at call) new
    alone_found = begins_alike rules at (alone_as rules.setting found p at args) (alone_with rules.setting p at args) old new call
        (λ k. ap (λ (f : Option (Function H)). alone_as rules.setting f p at args k old.local) (sym is))

    pub on_found : (called : List ℕ) (focus : Dynamic H) →
        Goes rules (on_as rules.setting found p called at args focus) old (came_from at call) new →
        Goes rules (on_with rules.setting p called at args focus) old (came_from at call) new
    on_found called focus = begins_alike rules at (on_as rules.setting found p called at args focus)
        (on_with rules.setting p called at args focus) old new call
        (λ k. ap (λ (f : Option (Function H)). on_as rules.setting f p called at args focus k old.local) (sym is))

module _ {S H : Type 0} (rules : Rules S H) (p : FnPtr H) (at : Position) (args : List (Dynamic H)) (s : State S H)
    (call : MethodCall H) (f : Function H) where
  -- it is entered by itself
  pub linked_alone_goes : IsLinked s.local.around.cells f (all_of p args) at (Alone f (all_of p args)) call →
      Goes rules (alone_as rules.setting (Some f) p at args) s (came_from at call) s
  linked_alone_goes is = linked_goes rules at f NoThis (all_of p args) (Alone f (all_of p args)) (λ k l. refl) s call is

  -- or on the focus
  pub linked_on_goes : IsLinked s.local.around.cells f (all_of p args) at (OnTarget f (all_of p args)) call → (called : List ℕ)
      (focus : Dynamic H) → Goes rules (on_as rules.setting (Some f) p called at args focus) s (came_from at call) s
  linked_on_goes is called focus =
      linked_goes rules at f TheFocus (all_of p args) (OnTarget f (all_of p args)) (λ k l. refl) s call is
