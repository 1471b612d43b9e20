-- What the rules of methods keep: the focus is lent to natives alone that are kept from a constant, and a part of a constant is no pointer.
use Rattle.std.proofs.Common.{refl, ap, subst, inl, inr}
use Rattle.std.specs.Option.{unwrap_or}
use Rattle.std.specs.Prelude.{◌≡◌, ◌⊎◌, ⊤, ℕ, Bool, true, false, List, [], ◌∷◌, ◌++◌, length, Option, Some, None, Ok, codes}
use Rattle.rhai_machine.specs.Types.{Dynamic, Position, Union}
use Rattle.rhai_values.specs.declared.base.value.FnPtr.{FnPtr, out-FnPtr}
use Rattle.rhai_values.specs.declared.base.value.FnPtrKind.{FnPtrKind}
use Rattle.rhai_values.specs.declared.base.value.FnPtrKind.TheOpen as union
use Rattle.rhai_values.specs.declared.base.value.FnPtrKind.TheVariants as kind
use Rattle.rhai_values.specs.declared.base.value.Union.TheVariants as value
use Rattle.rhai_values.specs.Cells.{IsNoHandle, with_held}
use Rattle.rhai_values.specs.Layers.{UnionLayer, layer_of}
use Rattle.rhai_spots.specs.Paths.{ToCell}
use Rattle.rhai_machine.specs.language.Setting.{Setting}
use Rattle.rhai_machine.specs.language.State.{Local}
use Rattle.rhai_machine.specs.language.Values.{Cells, through as seen_through, through_union, unit_value}
use Rattle.rhai_machine.specs.language.Functions.{Function}
use Rattle.rhai_machine.specs.language.Activations.{NoThis, TheFocus}
use Rattle.rhai_machine.specs.language.Handles.{focus_of}
use Rattle.rhai_machine.specs.language.Places.{is_constant}
use Rattle.rhai_machine.specs.language.Frames.{Operation, Frame, StepDown}
use Rattle.rhai_machine.specs.language.Calls.{call_of, dispatch_core, plainly}
use Rattle.rhai_machine.specs.language.Arguments.{operation_named, pointer_wanted, linked_to, natives_alone}
use Rattle.rhai_machine.specs.language.Methods.{Method, MethodWord, CallWord, CurryWord, SharedWord, PlainWord, word_of, argument_at}
use Rattle.rhai_machine.specs.language.Methods.{as_method, on_focus, copied_before, own_entry, number_on_focus}
use Rattle.rhai_machine.specs.language.Methods.{unlinked_on, pointer_on, unlinked_alone, pointer_alone, call_argument, call_core}
use Rattle.rhai_machine.specs.language.Methods.{curry_core, entry_core}
use Rattle.rhai_machine.specs.language.Methods.{word_core, method_core}
use Rattle.rhai_constants.proofs.Keeping.{Told, IsDue, IsShielded, Loan, Where, calm, due, Open, Keeps}
use Rattle.rhai_constants.proofs.Settling.{Below, same}
use Rattle.rhai_constants.proofs.Calls.{on_keeps, known_keeps, dispatch_keeps, linked_keeps, numbered_keeps}

module _ {H : Type 0} where
  abbrev pub IsNoPointer : UnionLayer H → Type 0
  IsNoPointer (union.FnPtr pointer) = ⊥
  IsNoPointer _ = ⊤

  -- a constant that is neither a handle nor a pointer
  abbrev pub IsLeaf : Dynamic H → Type 0
  IsLeaf v = (is_constant v.mode ≡ true) × (IsNoHandle v.value × IsNoPointer (layer_of v))

  through_itself : (cells : Cells H) (u : Union H) (v w : Dynamic H) (at : Position) → IsNoHandle u →
      through_union cells u v at ≡ Ok w → v ≡ w
  through_itself cells (value.Cell id) v w at no_handle is = absurd no_handle
  through_itself cells _ v w at no_handle is = cc

  -- the focus is lent under guard, where something is wanted of it
  pub focus_loan : (wanted : Option (Dynamic H)) (guarded : Bool) (focus : Option (Dynamic H)) (args : List (Dynamic H)) →
      Where wanted guarded → IsDue wanted focus → Loan wanted guarded (unwrap_or focus unit_value ∷ args)
  focus_loan None guarded focus args w d = tt
  focus_loan (Some v) guarded focus args w d = (w, ap (λ o. unwrap_or o unit_value) d)

  pub where_true : (wanted : Option (Dynamic H)) → Where wanted true
  where_true None = tt
  where_true (Some w) = refl

  -- what is wanted of the focus is the value that is worked on
  pub focus_due : (wanted focus : Option (Dynamic H)) → IsDue wanted focus → IsDue wanted (Some (unwrap_or focus unit_value))
  focus_due None focus d = tt
  focus_due (Some w) focus d = rw d refl

  -- the frames and the state in a cell that the focus leads to
  abbrev pub frames_inside : ℕ → List (Frame H) → Local H → List (Frame H)
  frames_inside n k l = StepDown (focus_of l) (ToCell n) ∷ k

  abbrev pub inside : ℕ → (inner : Dynamic H) → Local H → Local H
  inside n inner l = record l { focus = Some inner; around = record l.around { cells = with_held l.around.cells n } }

module _ {H : Type 0} (a : Told H) where
  -- the cell of a focus that is a handle is entered
  pub entered_below : (n : ℕ) (inner : Dynamic H) (k : List (Frame H)) (l : Local H) → Below a k l →
      Below a (frames_inside n k l) (inside n inner l)
  entered_below n inner k l h = ((focus_due (due a.of k).focus l.focus h.1.1.0, h.0), (h.1.0, (tt, h.1.1.1)))

module _ {H : Type 0} (a : Told H) (s : Setting H) (focus : Dynamic H) (k : List (Frame H)) (l : Local H)
    (lent : (args : List (Dynamic H)) → Loan (due a.of k).focus true (focus ∷ args)) (open_or_leaf : Open a.of k ⊎ IsLeaf focus) where
  shielded : (operation : Operation) (args : List (Dynamic H)) → Open a.of k ⊎ IsLeaf focus →
      Open a.of k ⊎ IsShielded (on_focus operation args focus)
  shielded operation args (inl free) = inl free
  shielded operation args (inr leaf) = inr (refl, (leaf.0, leaf.1.0))

  -- a call by name on the focus
  named_on : (alone : Bool) (operation : Operation) (args : List (Dynamic H)) →
      Keeps a (calm k l) (dispatch_core s (as_method alone) (on_focus operation args focus) k l)
  named_on alone operation args =
      dispatch_keeps a s (as_method alone) (on_focus operation args focus) k l (lent args, shielded operation args open_or_leaf)

  unlinked_on_keeps : (of : FnPtrKind H) (pointer : FnPtr H) (method : Method) (called : List ℕ) (args : List (Dynamic H)) →
      Keeps a (calm k l) (unlinked_on s of pointer method called args focus k l)
  unlinked_on_keeps (kind.Native id) pointer method called args =
      numbered_keeps a s (number_on_focus id.number (operation_named called method.at) args focus) k l (lent args, tt)
  unlinked_on_keeps _ pointer method called args =
      named_on (natives_alone (out-FnPtr H pointer).name) (operation_named (out-FnPtr H pointer).name method.at) args

  pointer_on_keeps : (function : Option (Function H)) (pointer : FnPtr H) (method : Method) (called : List ℕ) (args : List (Dynamic H)) →
      Keeps a (calm k l) (pointer_on s function pointer method called args focus k l)
  pointer_on_keeps (Some f) pointer method called args = linked_keeps a s f TheFocus method.at args k l
  pointer_on_keeps None pointer method called args = unlinked_on_keeps (out-FnPtr H pointer).kind pointer method called args

  -- the focus is a pointer that is called
  unlinked_alone_keeps : (of : FnPtrKind H) (pointer : FnPtr H) (at : Position) (args : List (Dynamic H)) → Open a.of k →
      Keeps a (calm k l) (unlinked_alone s of pointer at args k l)
  unlinked_alone_keeps (kind.Native id) pointer at args free =
      numbered_keeps a s (record (call_of (operation_named (codes "call") at) args) { number = Some id.number }) k l (tt, tt)
  unlinked_alone_keeps _ pointer at args free = dispatch_keeps a s (plainly (natives_alone (out-FnPtr H pointer).name) false)
      (record (call_of (operation_named (out-FnPtr H pointer).name at) args) { marks = true }) k l (tt, inl free)

  pointer_alone_keeps : (function : Option (Function H)) (pointer : FnPtr H) (at : Position) (args : List (Dynamic H)) → Open a.of k →
      Keeps a (calm k l) (pointer_alone s function pointer at args k l)
  pointer_alone_keeps (Some f) pointer at args free = linked_keeps a s f NoThis at args k l
  pointer_alone_keeps None pointer at args free = unlinked_alone_keeps (out-FnPtr H pointer).kind pointer at args free

  -- words
  call_argument_keeps : (method : Method) (args : List (Dynamic H)) (seen : Dynamic H) →
      Keeps a (calm k l) (call_argument s method args seen focus k l)
  call_argument_keeps method [] seen = same a tt (λ h. h.1)
  call_argument_keeps method (first ∷ rest) seen =
      on_keeps a (pointer_wanted s.host_type l.around.cells first (argument_at method)) _ k l (λ pointer. pointer_on_keeps
      (linked_to pointer (length ((out-FnPtr H pointer).curry ++ rest)) l.around.lib) pointer method (codes "call")
      ((out-FnPtr H pointer).curry ++ rest))

  call_keeps : (form : UnionLayer H) (method : Method) (args : List (Dynamic H)) (seen : Dynamic H) → Open a.of k ⊎ IsNoPointer form →
      Keeps a (calm k l) (call_core s form method args seen focus k l)
  call_keeps (union.FnPtr pointer) method args seen (inl free) = pointer_alone_keeps
      (linked_to pointer (length (copied_before pointer args)) l.around.lib) pointer method.at (copied_before pointer args) free
  call_keeps (union.FnPtr pointer) method args seen (inr never) = absurd never
  call_keeps _ method args seen m = call_argument_keeps method args seen

  curry_keeps : (form : UnionLayer H) (at : Position) (args : List (Dynamic H)) (seen : Dynamic H) →
      Keeps a (calm k l) (curry_core s form at args seen k l)
  curry_keeps (union.FnPtr pointer) at args seen = same a tt (λ h. h.1)
  curry_keeps _ at args seen = same a tt (λ h. h.1)

  entry_keeps : (own : Option (FnPtr H)) (method : Method) (args : List (Dynamic H)) →
      Keeps a (calm k l) (entry_core s own method args focus k l)
  entry_keeps (Some pointer) method args = pointer_on_keeps
      (linked_to pointer (length (copied_before pointer args)) l.around.lib) pointer method (out-FnPtr H pointer).name
      (copied_before pointer args)
  entry_keeps None method args = named_on false (operation_named method.name method.at) args

  seen_changed : (seen : Dynamic H) (at : Position) → seen_through l.around.cells focus at ≡ Ok seen → Open a.of k ⊎ IsLeaf focus →
      Open a.of k ⊎ IsNoPointer (layer_of seen)
  seen_changed seen at is (inl free) = inl free
  seen_changed seen at is (inr leaf) = inr (subst (λ (v : Dynamic H). IsNoPointer (layer_of v))
      (through_itself l.around.cells focus.value focus seen at leaf.1.0 is) leaf.1.1)

  word_keeps : (word : MethodWord) (method : Method) (args : List (Dynamic H)) → Keeps a (calm k l) (word_core s word method args focus k l)
  word_keeps CallWord method args = known_keeps a (seen_through l.around.cells focus method.at) _ k l
      (λ h seen is. call_keeps (layer_of seen) method args seen (seen_changed seen method.at is open_or_leaf))
  word_keeps CurryWord method args = on_keeps a (seen_through l.around.cells focus method.at) _ k l
      (λ seen. curry_keeps (layer_of seen) method.at args seen)
  word_keeps SharedWord method args = same a tt (λ h. h.1)
  word_keeps PlainWord method args = on_keeps a (own_entry l.around.cells method focus) _ k l (λ own. entry_keeps own method args)

  pub method_keeps : (method : Method) (args : List (Dynamic H)) → Keeps a (calm k l) (method_core s method args focus k l)
  method_keeps method args = word_keeps (word_of method.name (length args)) method args
