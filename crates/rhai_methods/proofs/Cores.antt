-- What a pointer is called by, and what its copy is.
use Rattle.std.proofs.Common.{◌≡◌, List, ◌++◌, map, length, Option, Some, None, Result, Ok, Err, refl, sym, ap, ◌∙◌}
use Rattle.std.specs.Prelude.{ℕ, false, codes}
use Rattle.std.specs.Option.{option_map}
use Rattle.rhai_tree.specs.declared.position.Position.{Position}
use Rattle.rhai_values.specs.declared.base.value.Dynamic.{Dynamic}
use Rattle.rhai_values.specs.declared.base.value.FnPtr.{FnPtr, out-FnPtr, out-roll-FnPtr}
use Rattle.rhai_values.specs.declared.base.value.FnPtrKind.{FnPtrKind}
use Rattle.rhai_values.specs.declared.base.value.FnPtrKind.TheOpen as union
use Rattle.rhai_values.specs.declared.base.value.FnPtrKind.TheVariants as kind
use Rattle.rhai_values.specs.Copy.{copy_of, copy_pointer}
use Rattle.rhai_values.specs.Layers.{UnionLayer, layer_of}
use Rattle.rhai_values.proofs.CopyLemmas.{copy-pointer}
use Rattle.rhai_errors.specs.declared.error.EvalAltResult.{EvalAltResult}
use Rattle.rhai_functions.specs.declared.function.Function.{Function}
use Rattle.rhai_machine.specs.language.Setting.{Setting}
use Rattle.rhai_machine.specs.language.State.{Local}
use Rattle.rhai_machine.specs.language.Activations.{NoThis, TheFocus}
use Rattle.rhai_machine.specs.language.Frames.{Frame, Core, core, on_value, ended, Fail}
use Rattle.rhai_machine.specs.language.Arguments.{linked, linked_core, linked_to}
use Rattle.rhai_machine.specs.language.Methods.{Method, call_argument, call_core, copied_before, curry_core, entry_core, own_seen}
use Rattle.rhai_machine.specs.language.Methods.{pointer_alone, pointer_on, pointer_there, unlinked_alone, unlinked_on}
use Rattle.rhai_call_forms.specs.Pointers.{native_number_of}
use Rattle.rhai_methods.specs.Calls.{alone_by, named_on, on_by}
use Rattle.rhai_methods.specs.Copies.{curried_in, curried_seen, found_copy}
use Rattle.rhai_methods.specs.Parts.{all_of, alone_as, alone_with, name_called, on_as, on_with}

module _ {H : Type 0} where
  -- a copy has copies of the values, and all else
  pub copied_out : (p : FnPtr H) →
      out-FnPtr H (copy_pointer p)
      ≡ record { name = (out-FnPtr H p).name; curry = map copy_of (out-FnPtr H p).curry; kind = (out-FnPtr H p).kind }
  copied_out p = ap (λ (q : FnPtr H). out-FnPtr H q) (copy-pointer p) ∙ out-roll-FnPtr H _

  module _ (s : Setting H) (k : List (Frame H)) (l : Local H) where
    -- what is linked to no function
    unlinked_on_is : (of : FnPtrKind H) (pointer : FnPtr H) (method : Method) (called : List ℕ) (args : List (Dynamic H))
        (focus : Dynamic H) →
        unlinked_on s of pointer method called args focus k l
        ≡ on_by s (native_number_of of) called (out-FnPtr H pointer).name method.at args focus k l
    unlinked_on_is (kind.Native id) pointer method called args focus = refl
    unlinked_on_is _ pointer method called args focus = refl

    unlinked_alone_is : (of : FnPtrKind H) (pointer : FnPtr H) (at : Position) (args : List (Dynamic H)) →
        unlinked_alone s of pointer at args k l ≡ alone_by s (native_number_of of) (out-FnPtr H pointer).name at args k l
    unlinked_alone_is (kind.Native id) pointer at args = refl
    unlinked_alone_is _ pointer at args = refl

    -- a pointer on the focus that is an argument
    pointer_on_is : (found : Option (Function H)) (q : FnPtr H) (method : Method) (called : List ℕ) (args : List (Dynamic H))
        (focus : Dynamic H) →
        pointer_on s found q method called (all_of q args) focus k l ≡ on_as s found q called method.at args focus k l
    pointer_on_is (Some f) q method called args focus = refl
    pointer_on_is None q method called args focus = unlinked_on_is (out-FnPtr H q).kind q method called (all_of q args) focus

    -- and one that is found in a value, as its copy is
    copied_on_is : (found : Option (Function H)) (q : FnPtr H) (method : Method) (called : List ℕ) (args : List (Dynamic H))
        (focus : Dynamic H) →
        pointer_on s found q method called (copied_before q args) focus k l ≡ on_as s found (copy_pointer q) called method.at args focus k l
    copied_on_is (Some f) q method called args focus =
        sym (ap (λ o. linked_core f TheFocus method.at (o.curry ++ args) k l) (copied_out q))
    copied_on_is None q method called args focus =
        unlinked_on_is (out-FnPtr H q).kind q method called (copied_before q args) focus
        ∙ sym (ap (λ o. on_by s (native_number_of o.kind) called o.name method.at (o.curry ++ args) focus k l) (copied_out q))

    -- a pointer by itself likewise
    copied_alone_is : (found : Option (Function H)) (q : FnPtr H) (at : Position) (args : List (Dynamic H)) →
        pointer_alone s found q at (copied_before q args) k l ≡ alone_as s found (copy_pointer q) at args k l
    copied_alone_is (Some f) q at args = sym (ap (λ o. linked_core f NoThis at (o.curry ++ args) k l) (copied_out q))
    copied_alone_is None q at args =
        unlinked_alone_is (out-FnPtr H q).kind q at (copied_before q args)
        ∙ sym (ap (λ o. alone_by s (native_number_of o.kind) o.name at (o.curry ++ args) k l) (copied_out q))

    -- a copy is linked to the same function
    copied_linked : (q : FnPtr H) (args : List (Dynamic H)) →
        linked_to q (length (copied_before q args)) l.around.lib
        ≡ linked_to (copy_pointer q) (length (all_of (copy_pointer q) args)) l.around.lib
    copied_linked q args = sym (ap (λ o. linked o.kind o.name (length (o.curry ++ args)) l.around.lib) (copied_out q))

    -- a pointer by itself, as its copy is
    alone_copied : (q : FnPtr H) (at : Position) (args : List (Dynamic H)) →
        pointer_alone s (linked_to q (length (copied_before q args)) l.around.lib) q at (copied_before q args) k l
        ≡ alone_with s (copy_pointer q) at args k l
    alone_copied q at args =
        copied_alone_is (linked_to q (length (copied_before q args)) l.around.lib) q at args
        ∙ ap (λ (found : Option (Function H)). alone_as s found (copy_pointer q) at args k l) (copied_linked q args)

    -- a map's own pointer, as its copy is
    own_copied : (q : FnPtr H) (method : Method) (args : List (Dynamic H)) (focus : Dynamic H) →
        pointer_on s (linked_to q (length (copied_before q args)) l.around.lib) q method (out-FnPtr H q).name
        (copied_before q args) focus k l
        ≡ on_with s (copy_pointer q) (name_called (copy_pointer q) None) method.at args focus k l
    own_copied q method args focus =
        copied_on_is (linked_to q (length (copied_before q args)) l.around.lib) q method (out-FnPtr H q).name args focus
        ∙ ap (λ (found : Option (Function H)). on_as s found (copy_pointer q) (out-FnPtr H q).name method.at args focus k l)
        (copied_linked q args)
        ∙ sym (ap (λ o. on_with s (copy_pointer q) o.name method.at args focus k l) (copied_out q))

    -- ---- `call`

    alone_in : (u : UnionLayer H) (p : FnPtr H) (method : Method) (args : List (Dynamic H)) (seen focus : Dynamic H) →
        Some p ≡ option_map copy_pointer (pointer_there u) →
        call_core s u method args seen focus k l ≡ alone_with s p method.at args k l
    alone_in (union.FnPtr q) p method args seen focus is =
        let same : copy_pointer q ≡ p = cc in
        alone_copied q method.at args ∙ ap (λ (x : FnPtr H). alone_with s x method.at args k l) same
    alone_in _ p method args seen focus is = cc

    argument_in : (u : UnionLayer H) (method : Method) (args : List (Dynamic H)) (seen focus : Dynamic H) →
        None ≡ option_map copy_pointer (pointer_there u) →
        call_core s u method args seen focus k l ≡ call_argument s method args seen focus k l
    argument_in (union.FnPtr q) method args seen focus is = cc
    argument_in _ method args seen focus is = refl

    -- what is seen is a pointer, or none
    pub call_alone_is : (r : Result (Dynamic H) (EvalAltResult H)) (p : FnPtr H) (method : Method) (args : List (Dynamic H))
        (focus : Dynamic H) → Ok (Some p) ≡ found_copy (own_seen r) →
        on_value r (λ seen. call_core s (layer_of seen) method args seen focus k l) k l ≡ alone_with s p method.at args k l
    call_alone_is (Ok v) p method args focus is =
        let some : Some p ≡ option_map copy_pointer (pointer_there (layer_of v)) = cc in
        alone_in (layer_of v) p method args v focus some
    call_alone_is (Err e) p method args focus is = cc

    pub call_argument_is : (v : Dynamic H) (method : Method) (args : List (Dynamic H)) (focus : Dynamic H) →
        Ok None ≡ found_copy (own_seen (Ok v)) →
        call_core s (layer_of v) method args v focus k l ≡ call_argument s method args v focus k l
    call_argument_is v method args focus is =
        let none : None ≡ option_map copy_pointer (pointer_there (layer_of v)) = cc in
        argument_in (layer_of v) method args v focus none

    -- ---- a map's own pointer

    pub own_is : (r : Result (Option (FnPtr H)) (EvalAltResult H)) (p : FnPtr H) (method : Method) (args : List (Dynamic H))
        (focus : Dynamic H) → Ok (Some p) ≡ found_copy r →
        on_value r (λ own. entry_core s own method args focus k l) k l ≡ on_with s p (name_called p None) method.at args focus k l
    own_is (Ok (Some q)) p method args focus is =
        let same : copy_pointer q ≡ p = cc in
        own_copied q method args focus ∙ ap (λ (x : FnPtr H). on_with s x (name_called x None) method.at args focus k l) same
    own_is (Ok None) p method args focus is = cc
    own_is (Err e) p method args focus is = cc

    pub named_is : (r : Result (Option (FnPtr H)) (EvalAltResult H)) (method : Method) (args : List (Dynamic H))
        (focus : Dynamic H) → Ok None ≡ found_copy r →
        on_value r (λ own. entry_core s own method args focus k l) k l ≡ named_on s false method.name method.at args focus k l
    named_is (Ok (Some q)) method args focus is = cc
    named_is (Ok None) method args focus is = refl
    named_is (Err e) method args focus is = cc

    -- ---- `curry`

    curry_in : (u : UnionLayer H) (at : Position) (args : List (Dynamic H)) (seen : Dynamic H) →
        curry_core s u at args seen k l ≡ core (ended (curried_in s.host_type l.around.cells args at u seen)) k l
    curry_in (union.FnPtr q) at args seen = refl
    curry_in _ at args seen = refl

    pub curry_is : (r : Result (Dynamic H) (EvalAltResult H)) (at : Position) (args : List (Dynamic H)) →
        on_value r (λ seen. curry_core s (layer_of seen) at args seen k l) k l
        ≡ core (ended (curried_seen s.host_type l.around.cells args at r)) k l
    curry_is (Ok v) at args = curry_in (layer_of v) at args v
    curry_is (Err e) at args = refl

    -- ---- an error

    pub seen_fails : (r : Result (Dynamic H) (EvalAltResult H)) (e : EvalAltResult H) → Err e ≡ found_copy (own_seen r) →
        (go : Dynamic H → Core H) → on_value r go k l ≡ core (Fail e) k l
    seen_fails (Ok v) e is go = cc
    seen_fails (Err x) e is go = let same : x ≡ e = cc in ap (λ (y : EvalAltResult H). core (Fail y) k l) same

    pub own_fails : (r : Result (Option (FnPtr H)) (EvalAltResult H)) (e : EvalAltResult H) → Err e ≡ found_copy r →
        (go : Option (FnPtr H) → Core H) → on_value r go k l ≡ core (Fail e) k l
    own_fails (Ok o) e is go = cc
    own_fails (Err x) e is go = let same : x ≡ e = cc in ap (λ (y : EvalAltResult H). core (Fail y) k l) same

    -- ---- an argument that is called

    pub argument_is : (r : Result (FnPtr H) (EvalAltResult H)) (p : FnPtr H) (method : Method) (rest : List (Dynamic H))
        (focus : Dynamic H) → Ok p ≡ r →
        on_value r (λ pointer. pointer_on s (linked_to pointer (length (all_of pointer rest)) l.around.lib) pointer method (codes "call")
        (all_of pointer rest) focus k l) k l ≡ on_with s p (codes "call") method.at rest focus k l
    argument_is (Ok q) p method rest focus is =
        let same : q ≡ p = cc in
        pointer_on_is (linked_to q (length (all_of q rest)) l.around.lib) q method (codes "call") rest focus
        ∙ ap (λ (x : FnPtr H). on_with s x (codes "call") method.at rest focus k l) same
    argument_is (Err e) p method rest focus is = cc

    pub argument_fails : (r : Result (FnPtr H) (EvalAltResult H)) (e : EvalAltResult H) → Err e ≡ r →
        (go : FnPtr H → Core H) → on_value r go k l ≡ core (Fail e) k l
    argument_fails (Ok p) e is go = cc
    argument_fails (Err x) e is go = let same : x ≡ e = cc in ap (λ (y : EvalAltResult H). core (Fail y) k l) same
