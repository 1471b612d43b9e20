-- A call by name ends in one move: it fails, a value comes back, a native is charged for, or a function of a script is entered. A method
-- may ask about a native besides. So what holds of these holds of each call and of each method.
use Rattle.std.specs.Prelude.{ℕ, ◌&&◌, Bool, true, false, not, drop, length, List, [], ◌∷◌, ◌++◌, Option, Some, None}
use Rattle.std.specs.Prelude.{Result, Ok, Err, codes, if◌then◌else◌}
use Rattle.std.specs.Str.{bytes_eq}
use Rattle.rhai_tree.specs.declared.position.Position.{Position}
use Rattle.rhai_values.specs.declared.base.value.Dynamic.{Dynamic}
use Rattle.rhai_values.specs.declared.base.value.FnPtr.{FnPtr, out-FnPtr}
use Rattle.rhai_values.specs.declared.base.value.FnPtrKind.{FnPtrKind}
use Rattle.rhai_values.specs.declared.base.value.FnPtrKind.TheOpen as union
use Rattle.rhai_values.specs.declared.base.value.FnPtrKind.TheVariants as kind
use Rattle.rhai_values.specs.Layers.{UnionLayer, layer_of}
use Rattle.rhai_errors.specs.declared.error.EvalAltResult.{EvalAltResult}
use Rattle.rhai_machine.specs.language.Setting.{Setting}
use Rattle.rhai_machine.specs.language.State.{Local}
use Rattle.rhai_machine.specs.language.Values.{through}
use Rattle.rhai_machine.specs.language.Functions.{Function}
use Rattle.rhai_machine.specs.language.Activations.{ThisFrom, NoThis, TheFocus}
use Rattle.rhai_machine.specs.language.Frames.{Dispatch, Call, Frame, Core, core, on_value, Ask, EnterFunction}
use Rattle.rhai_machine.specs.language.Frames.{Question, Back, Fail}
use Rattle.rhai_machine.specs.language.Calls.{args_given, asks_function, call_of, entry_of, enter_core, plainly, races}
use Rattle.rhai_machine.specs.language.Calls.{called_function, found_core, named_core, dispatch_behind, dispatch_core, function_behind}
use Rattle.rhai_machine.specs.language.Arguments.{operation_named, pointer_wanted, numbered_core, linked_core, linked_to, natives_alone}
use Rattle.rhai_machine.specs.language.Methods.{Method, MethodWord, CallWord, CurryWord, SharedWord, PlainWord, word_of, argument_at}
use Rattle.rhai_machine.specs.language.Methods.{as_method, number_on_focus, on_focus, copied_before, own_entry}
use Rattle.rhai_machine.specs.language.Methods.{unlinked_on, pointer_on, unlinked_alone, pointer_alone, call_argument, call_core}
use Rattle.rhai_machine.specs.language.Methods.{curry_core, entry_core}
use Rattle.rhai_machine.specs.language.Methods.{word_core, method_core}

-- what holds of an error, of a value, of a charged call, and of a function that is entered
pub record Dispatched {H : Type 0} (k : List (Frame H)) (l : Local H) (R : Core H → Type 0) : Type 0 where
  pub fails : (e : EvalAltResult H) → R (core (Fail e) k l)
  pub backs : (v : Dynamic H) → R (core (Back v) k l)
  pub asks : (call : Call H) → R (core (Ask call) k l)
  pub enters : (f : Function H) (object : ThisFrom) (is_fresh : Bool) (args : List (Dynamic H)) (at : Position) →
      R (core (EnterFunction (entry_of f object is_fresh args at l)) k l)

-- and besides of a question
pub record Ends {H : Type 0} (k : List (Frame H)) (l : Local H) (R : Core H → Type 0) : Type 0 where
  pub dispatched : Dispatched k l R
  pub questions : (call : Call H) → R (core (Question call) k l)

module _ {H : Type 0} (k : List (Frame H)) (l : Local H) (R : Core H → Type 0) where
  if_ends : (holds : Bool) (c d : Core H) → R c → R d → R (if holds then c else d)
  if_ends true c d first second = first
  if_ends false c d first second = second

  on_ends : {A : Type 0} (r : Result A (EvalAltResult H)) (go : A → Core H) → ((e : EvalAltResult H) → R (core (Fail e) k l)) →
      ((x : A) → R (go x)) → R (on_value r go k l)
  on_ends (Ok x) go fails h = h x
  on_ends (Err e) go fails h = fails e

module _ {H : Type 0} (k : List (Frame H)) (l : Local H) (R : Core H → Type 0) (b : Dispatched k l R) where
  -- functions of scripts
  enter_ends : (of_method : Bool) (f : Function H) (how : Dispatch) (call : Call H) → R (enter_core of_method f how call k l)
  enter_ends true f how call = b.enters f TheFocus (not how.on_scope) (drop 1 call.args) call.operation.at
  enter_ends false f how call = b.enters f NoThis (not how.on_scope) (args_given call.lender call.args) call.operation.at

  pub linked_ends : (f : Function H) (object : ThisFrom) (at : Position) (args : List (Dynamic H)) → R (linked_core f object at args k l)
  linked_ends f object at args = if_ends k l R (races l.around.cells args) _ _ (b.fails _) (b.enters f object true args at)

  module _ (s : Setting H) (how : Dispatch) where
    found_ends : (found : Option (Function H)) (call : Call H) → R (found_core s found how call k l)
    found_ends (Some f) call = enter_ends how.of_method f how call
    found_ends None call = b.asks call

    -- a call by name
    named_ends : (args : List (Dynamic H)) (call : Call H) → R (named_core s how args call k l)
    named_ends [] call = found_ends (called_function s how call l) call
    named_ends (v ∷ []) call = if_ends k l R (bytes_eq call.operation.name (codes "type_of")) _ _ (b.backs _)
        (if_ends k l R (bytes_eq call.operation.name (codes "eval")) _ _ (b.fails _)
        (found_ends (called_function s how call l) call))
    named_ends (v ∷ w ∷ []) call = if_ends k l R (bytes_eq call.operation.name (codes "is_def_fn")
        && asks_function (through l.around.cells v call.operation.at) (through l.around.cells w call.operation.at)) _ _ (b.backs _)
        (found_ends (called_function s how call l) call)
    named_ends (v ∷ w ∷ x ∷ args) call = found_ends (called_function s how call l) call

    -- and one behind a path
    behind_ends : (path : List (List ℕ)) (call : Call H) → R (dispatch_behind s path how call k l)
    behind_ends [] call = if_ends k l R (races l.around.cells call.args) _ _ (b.fails _) (named_ends call.args call)
    behind_ends (root ∷ path) call = on_ends k l R (function_behind s root path how call l) _ b.fails
        (λ f. b.enters f NoThis (not how.on_scope) (args_given call.lender call.args) call.operation.at)

    pub dispatch_ends : (call : Call H) → R (dispatch_core s how call k l)
    dispatch_ends call = behind_ends how.path.names call

module _ {H : Type 0} (s : Setting H) (k : List (Frame H)) (l : Local H) (R : Core H → Type 0) (b : Ends k l R) where
  fails : (e : EvalAltResult H) → R (core (Fail e) k l)
  fails e = b.dispatched.fails e

  -- a call by name
  by_name : (how : Dispatch) (call : Call H) → R (dispatch_core s how call k l)
  by_name how call = dispatch_ends k l R b.dispatched s how call

  -- a native by its number
  numbered_ends : (call : Call H) → R (numbered_core call k l)
  numbered_ends call = if_ends k l R (races l.around.cells call.args) _ _ (fails _) (b.questions call)

  -- pointers
  unlinked_on_ends : (of : FnPtrKind H) (pointer : FnPtr H) (method : Method) (called : List ℕ) (args : List (Dynamic H))
      (focus : Dynamic H) → R (unlinked_on s of pointer method called args focus k l)
  unlinked_on_ends (kind.Native id) pointer method called args focus =
      numbered_ends (number_on_focus id.number (operation_named called method.at) args focus)
  unlinked_on_ends _ pointer method called args focus = by_name (as_method (natives_alone (out-FnPtr H pointer).name))
      (on_focus (operation_named (out-FnPtr H pointer).name method.at) args focus)

  pointer_on_ends : (function : Option (Function H)) (pointer : FnPtr H) (method : Method) (called : List ℕ) (args : List (Dynamic H))
      (focus : Dynamic H) → R (pointer_on s function pointer method called args focus k l)
  pointer_on_ends (Some f) pointer method called args focus = linked_ends k l R b.dispatched f TheFocus method.at args
  pointer_on_ends None pointer method called args focus = unlinked_on_ends (out-FnPtr H pointer).kind pointer method called args focus

  unlinked_alone_ends : (of : FnPtrKind H) (pointer : FnPtr H) (at : Position) (args : List (Dynamic H)) →
      R (unlinked_alone s of pointer at args k l)
  unlinked_alone_ends (kind.Native id) pointer at args =
      numbered_ends (record (call_of (operation_named (codes "call") at) args) { number = Some id.number })
  unlinked_alone_ends _ pointer at args = by_name (plainly (natives_alone (out-FnPtr H pointer).name) false)
      (record (call_of (operation_named (out-FnPtr H pointer).name at) args) { marks = true })

  pointer_alone_ends : (function : Option (Function H)) (pointer : FnPtr H) (at : Position) (args : List (Dynamic H)) →
      R (pointer_alone s function pointer at args k l)
  pointer_alone_ends (Some f) pointer at args = linked_ends k l R b.dispatched f NoThis at args
  pointer_alone_ends None pointer at args = unlinked_alone_ends (out-FnPtr H pointer).kind pointer at args

  -- words
  call_argument_ends : (method : Method) (args : List (Dynamic H)) (seen focus : Dynamic H) →
      R (call_argument s method args seen focus k l)
  call_argument_ends method [] seen focus = fails _
  call_argument_ends method (first ∷ rest) seen focus =
      on_ends k l R (pointer_wanted s.host_type l.around.cells first (argument_at method)) _ fails (λ pointer. pointer_on_ends
      (linked_to pointer (length ((out-FnPtr H pointer).curry ++ rest)) l.around.lib) pointer method (codes "call")
      ((out-FnPtr H pointer).curry ++ rest) focus)

  call_ends : (form : UnionLayer H) (method : Method) (args : List (Dynamic H)) (seen focus : Dynamic H) →
      R (call_core s form method args seen focus k l)
  call_ends (union.FnPtr pointer) method args seen focus = pointer_alone_ends
      (linked_to pointer (length (copied_before pointer args)) l.around.lib) pointer method.at (copied_before pointer args)
  call_ends _ method args seen focus = call_argument_ends method args seen focus

  curry_ends : (form : UnionLayer H) (at : Position) (args : List (Dynamic H)) (seen : Dynamic H) → R (curry_core s form at args seen k l)
  curry_ends (union.FnPtr pointer) at args seen = b.dispatched.backs _
  curry_ends _ at args seen = fails _

  entry_ends : (own : Option (FnPtr H)) (method : Method) (args : List (Dynamic H)) (focus : Dynamic H) →
      R (entry_core s own method args focus k l)
  entry_ends (Some pointer) method args focus = pointer_on_ends
      (linked_to pointer (length (copied_before pointer args)) l.around.lib) pointer method (out-FnPtr H pointer).name
      (copied_before pointer args) focus
  entry_ends None method args focus = by_name (as_method false) (on_focus (operation_named method.name method.at) args focus)

  word_ends : (word : MethodWord) (method : Method) (args : List (Dynamic H)) (focus : Dynamic H) →
      R (word_core s word method args focus k l)
  word_ends CallWord method args focus = on_ends k l R (through l.around.cells focus method.at) _ fails
      (λ seen. call_ends (layer_of seen) method args seen focus)
  word_ends CurryWord method args focus = on_ends k l R (through l.around.cells focus method.at) _ fails
      (λ seen. curry_ends (layer_of seen) method.at args seen)
  word_ends SharedWord method args focus = b.dispatched.backs _
  word_ends PlainWord method args focus = on_ends k l R (own_entry l.around.cells method focus) _ fails
      (λ own. entry_ends own method args focus)

  -- what holds of these holds of a method
  pub method_ends : (method : Method) (args : List (Dynamic H)) (focus : Dynamic H) → R (method_core s method args focus k l)
  method_ends method args focus = word_ends (word_of method.name (length args)) method args focus
