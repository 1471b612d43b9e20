-- Where a method's call goes on, the stack and the state stay: so memory may as well run out there.
use Rattle.std.proofs.Common.{List, [], ◌∷◌, ◌++◌, length, Option, Some, None, refl}
use Rattle.std.specs.Prelude.{ℕ, codes, true, false}
use Rattle.rhai_tree.specs.declared.literal.NativeId.{NativeId}
use Rattle.rhai_tree.specs.declared.position.Position.{Position}
use Rattle.rhai_values.specs.declared.base.value.Dynamic.{Dynamic}
use Rattle.rhai_values.specs.declared.base.value.FnPtr.{FnPtr, out-FnPtr}
use Rattle.rhai_values.specs.declared.base.value.FnPtrKind.{FnPtrKind}
use Rattle.rhai_values.specs.declared.base.value.FnPtrKind.TheOpen as union
use Rattle.rhai_values.specs.declared.base.value.FnPtrKind.TheVariants as kind
use Rattle.rhai_values.specs.Layers.{UnionLayer, layer_of}
use Rattle.rhai_functions.specs.declared.function.Function.{Function}
use Rattle.rhai_machine.specs.language.Setting.{Setting}
use Rattle.rhai_machine.specs.language.State.{Local}
use Rattle.rhai_machine.specs.language.Values.{through}
use Rattle.rhai_machine.specs.language.Activations.{NoThis, TheFocus}
use Rattle.rhai_machine.specs.language.Frames.{Operation, Frame}
use Rattle.rhai_machine.specs.language.Calls.{call_of, plainly}
use Rattle.rhai_machine.specs.language.Arguments.{linked_to, natives_alone, operation_named, pointer_wanted}
use Rattle.rhai_machine.specs.language.Methods.{Method, CallWord, argument_at, as_method, call_argument, call_core, copied_before}
use Rattle.rhai_machine.specs.language.Methods.{entry_core, number_on_focus, numbered_on, on_focus, own_core, own_entry}
use Rattle.rhai_machine.specs.language.Methods.{pointer_alone, pointer_on, unlinked_alone, unlinked_on, word_core}
use Rattle.rhai_call_forms.specs.Pointers.{native_number_of}
use Rattle.rhai_call_forms.proofs.Levels.{IsLevel, dispatch_level, linked_level, number_level, on_level}
use Rattle.rhai_methods.specs.Calls.{alone_by, on_by}
use Rattle.rhai_methods.specs.Methods.{came_from, MethodCall}
use Rattle.rhai_methods.specs.Parts.{all_of, alone_as, alone_with, on_as, on_with}
use Rattle.rhai_calls.specs.declared.dispatch.Called.TheVariants.{Ended, Enters}
use Rattle.rhai_methods.specs.declared.calls.MethodEntry.TheVariants.{OnTarget, Alone}

module _ {H : Type 0} (k : List (Frame H)) (l : Local H) where
  -- what came of a method's call
  pub came_level : (at : Position) (call : MethodCall H) → IsLevel k l (came_from at call k l)
  came_level at (Ended r) = record { stack = refl; local = refl }
  came_level at (Enters (OnTarget f args)) = record { stack = refl; local = refl }
  came_level at (Enters (Alone f args)) = record { stack = refl; local = refl }

  module _ (s : Setting H) where
    numbered_level : (number : ℕ) (operation : Operation) (args : List (Dynamic H)) (focus : Dynamic H) →
        IsLevel k l (numbered_on number operation args focus k l)
    numbered_level number operation args focus = number_level k l s (number_on_focus number operation args focus)

    -- ---- a call by a number or a name

    pub on_by_level : (number : Option NativeId) (called name : List ℕ) (at : Position) (args : List (Dynamic H)) (focus : Dynamic H) →
        IsLevel k l (on_by s number called name at args focus k l)
    on_by_level (Some id) called name at args focus = numbered_level id.number (operation_named called at) args focus
    on_by_level None called name at args focus =
        dispatch_level k l s (as_method (natives_alone name)) (on_focus (operation_named name at) args focus)

    pub alone_by_level : (number : Option NativeId) (name : List ℕ) (at : Position) (args : List (Dynamic H)) →
        IsLevel k l (alone_by s number name at args k l)
    alone_by_level (Some id) name at args =
        number_level k l s (record (call_of (operation_named (codes "call") at) args) { number = Some id.number })
    alone_by_level None name at args = dispatch_level k l s (plainly (natives_alone name) false)
        (record (call_of (operation_named name at) args) { marks = true })

    -- ---- a pointer

    on_as_level : (found : Option (Function H)) (p : FnPtr H) (called : List ℕ) (at : Position) (args : List (Dynamic H))
        (focus : Dynamic H) → IsLevel k l (on_as s found p called at args focus k l)
    on_as_level (Some f) p called at args focus = linked_level k l s f TheFocus at (all_of p args)
    on_as_level None p called at args focus =
        on_by_level (native_number_of (out-FnPtr H p).kind) called (out-FnPtr H p).name at (all_of p args) focus

    pub on_with_level : (p : FnPtr H) (called : List ℕ) (at : Position) (args : List (Dynamic H)) (focus : Dynamic H) →
        IsLevel k l (on_with s p called at args focus k l)
    on_with_level p called at args focus =
        on_as_level (linked_to p (length (all_of p args)) l.around.lib) p called at args focus

    alone_as_level : (found : Option (Function H)) (p : FnPtr H) (at : Position) (args : List (Dynamic H)) →
        IsLevel k l (alone_as s found p at args k l)
    alone_as_level (Some f) p at args = linked_level k l s f NoThis at (all_of p args)
    alone_as_level None p at args = alone_by_level (native_number_of (out-FnPtr H p).kind) (out-FnPtr H p).name at (all_of p args)

    pub alone_with_level : (p : FnPtr H) (at : Position) (args : List (Dynamic H)) → IsLevel k l (alone_with s p at args k l)
    alone_with_level p at args = alone_as_level (linked_to p (length (all_of p args)) l.around.lib) p at args

    -- ---- a pointer of the machine

    unlinked_on_level : (of : FnPtrKind H) (pointer : FnPtr H) (method : Method) (called : List ℕ) (args : List (Dynamic H))
        (focus : Dynamic H) → IsLevel k l (unlinked_on s of pointer method called args focus k l)
    unlinked_on_level (kind.Native id) pointer method called args focus =
        numbered_level id.number (operation_named called method.at) args focus
    unlinked_on_level _ pointer method called args focus = dispatch_level k l s (as_method (natives_alone (out-FnPtr H pointer).name))
        (on_focus (operation_named (out-FnPtr H pointer).name method.at) args focus)

    pointer_level : (found : Option (Function H)) (pointer : FnPtr H) (method : Method) (called : List ℕ) (args : List (Dynamic H))
        (focus : Dynamic H) → IsLevel k l (pointer_on s found pointer method called args focus k l)
    pointer_level (Some f) pointer method called args focus = linked_level k l s f TheFocus method.at args
    pointer_level None pointer method called args focus = unlinked_on_level (out-FnPtr H pointer).kind pointer method called args focus

    unlinked_alone_level : (of : FnPtrKind H) (pointer : FnPtr H) (at : Position) (args : List (Dynamic H)) →
        IsLevel k l (unlinked_alone s of pointer at args k l)
    unlinked_alone_level (kind.Native id) pointer at args =
        number_level k l s (record (call_of (operation_named (codes "call") at) args) { number = Some id.number })
    unlinked_alone_level _ pointer at args = dispatch_level k l s (plainly (natives_alone (out-FnPtr H pointer).name) false)
        (record (call_of (operation_named (out-FnPtr H pointer).name at) args) { marks = true })

    alone_level : (found : Option (Function H)) (pointer : FnPtr H) (at : Position) (args : List (Dynamic H)) →
        IsLevel k l (pointer_alone s found pointer at args k l)
    alone_level (Some f) pointer at args = linked_level k l s f NoThis at args
    alone_level None pointer at args = unlinked_alone_level (out-FnPtr H pointer).kind pointer at args

    -- ---- the words

    pub argument_level : (method : Method) (args : List (Dynamic H)) (seen focus : Dynamic H) →
        IsLevel k l (call_argument s method args seen focus k l)
    argument_level method [] seen focus = record { stack = refl; local = refl }
    argument_level method (first ∷ rest) seen focus =
        on_level k l (pointer_wanted s.host_type l.around.cells first (argument_at method)) _ (λ pointer. pointer_level
        (linked_to pointer (length ((out-FnPtr H pointer).curry ++ rest)) l.around.lib) pointer method (codes "call")
        ((out-FnPtr H pointer).curry ++ rest) focus)

    call_level : (form : UnionLayer H) (method : Method) (args : List (Dynamic H)) (seen focus : Dynamic H) →
        IsLevel k l (call_core s form method args seen focus k l)
    call_level (union.FnPtr pointer) method args seen focus = alone_level
        (linked_to pointer (length (copied_before pointer args)) l.around.lib) pointer method.at (copied_before pointer args)
    call_level _ method args seen focus = argument_level method args seen focus

    pub call_word_level : (method : Method) (args : List (Dynamic H)) (focus : Dynamic H) →
        IsLevel k l (word_core s CallWord method args focus k l)
    call_word_level method args focus =
        on_level k l (through l.around.cells focus method.at) _ (λ seen. call_level (layer_of seen) method args seen focus)

    entry_level : (own : Option (FnPtr H)) (method : Method) (args : List (Dynamic H)) (focus : Dynamic H) →
        IsLevel k l (entry_core s own method args focus k l)
    entry_level (Some pointer) method args focus = pointer_level
        (linked_to pointer (length (copied_before pointer args)) l.around.lib) pointer method (out-FnPtr H pointer).name
        (copied_before pointer args) focus
    entry_level None method args focus =
        dispatch_level k l s (as_method false) (on_focus (operation_named method.name method.at) args focus)

    pub own_level : (method : Method) (args : List (Dynamic H)) (focus : Dynamic H) →
        IsLevel k l (own_core s method args focus k l)
    own_level method args focus =
        on_level k l (own_entry l.around.cells method focus) _ (λ own. entry_level own method args focus)
