-- The rules of methods and of members lead to cores that fit.
use Rattle.std.proofs.Common.{ℕ, List, [], ◌∷◌, ◌++◌, length, map}
use Rattle.std.specs.Prelude.{⊤, Bool, true, false, Option, Some, None, Result, Ok, Err, codes}
use Rattle.rhai_machine.specs.Types.{Dynamic, EvalAltResult, FnPtr, Position}
use Rattle.rhai_values.specs.declared.base.value.FnPtr.{out-FnPtr}
use Rattle.rhai_values.specs.declared.base.value.FnPtrKind.{FnPtrKind}
use Rattle.rhai_values.specs.declared.base.value.FnPtrKind.TheOpen as union
use Rattle.rhai_values.specs.declared.base.value.FnPtrKind.TheVariants as kind
use Rattle.rhai_values.specs.Copy.{copy_of}
use Rattle.rhai_values.specs.Layers.{UnionLayer, layer_of}
use Rattle.rhai_values.specs.ValueContents.{Reached}
use Rattle.rhai_machine.specs.language.Setting.{Setting}
use Rattle.rhai_machine.specs.language.State.{Local}
use Rattle.rhai_machine.specs.language.Values.{through}
use Rattle.rhai_machine.specs.language.Functions.{Function}
use Rattle.rhai_machine.specs.language.Activations.{NoThis, TheFocus}
use Rattle.rhai_machine.specs.language.Frames.{Member, Property, Item, MemberAccess, Frame, Core}
use Rattle.rhai_machine.specs.language.Calls.{call_of, plainly}
use Rattle.rhai_machine.specs.language.Arguments.{linked_to, natives_alone, operation_named, pointer_wanted}
use Rattle.rhai_machine.specs.language.Methods.{Method, MethodWord, CallWord, CurryWord, SharedWord, PlainWord, word_of, as_method}
use Rattle.rhai_machine.specs.language.Methods.{argument_at, on_focus, copied_before, pointer_with, entry_in, entry_seen, pointer_there}
use Rattle.rhai_machine.specs.language.Methods.{own_seen, own_in, own_entry, number_on_focus, unlinked_on, pointer_on, unlinked_alone}
use Rattle.rhai_machine.specs.language.Methods.{pointer_alone, call_argument, call_core, curry_core, entry_core, own_core, word_core}
use Rattle.rhai_machine.specs.language.Methods.{method_core}
use Rattle.rhai_machine.specs.language.Members.{got_by, get_core, unless_ignored, set_by, set_core, getter_missing, after_setter}
use Rattle.rhai_machine.specs.language.Members.{setter_missing, indexer_missing}
use Rattle.rhai_fits.specs.Contents.{of_values, of_maybe, of_member, of_result}
use Rattle.rhai_fits.proofs.Values.{Fit, FitLayer, FitPointer, fit_out, fit_pointer, fit_rolled, fit_bool, fit_text, fit_unit}
use Rattle.rhai_fits.proofs.Copies.{fits_copy}
use Rattle.rhai_fits.proofs.Errors.{FitError, fit_error}
use Rattle.rhai_fits.proofs.Fitting.{AllFit, FitBelow, FitCore, FitLocal, FitOffer, Gives, Flat, to, back, fail, push, on, ended_fits}
use Rattle.rhai_fits.proofs.Fitting.{all_fit, fit_all, values_joined, focus_of_fits}
use Rattle.rhai_fits.proofs.Seeing.{through_gives}
use Rattle.rhai_fits.proofs.Lookups.{There, FitFound, linked_to_fits, value_of_fits}
use Rattle.rhai_fits.proofs.Calls.{dispatch_good}
use Rattle.rhai_fits.proofs.Arguments.{pointer_gives, linked_good, numbered_good}

module _ {H : Type 0} (own : H → List Reached) (P : Reached → Type 0) (least : ℕ) where
  abbrev Good : Core H → Type 0
  Good c = FitCore own P least c

  abbrev Below : List (Frame H) → Local H → Type 0
  Below k l = FitBelow own P least k l

  abbrev All : List (Dynamic H) → Type 0
  All vs = AllFit own P least (of_values vs)

  -- ---- pointers

  copied_fits : (pointer : FnPtr H) (args : List (Dynamic H)) → FitPointer own P pointer → All args → All (copied_before pointer args)
  copied_fits pointer args h g = values_joined own P least (map copy_of (out-FnPtr H pointer).curry) args
      (all_fit own P least (map copy_of (out-FnPtr H pointer).curry) (fits_copy own P (out-FnPtr H pointer).curry h.curry)) g

  more_fits : (pointer : FnPtr H) (args : List (Dynamic H)) → FitPointer own P pointer → All args → Fit own P (pointer_with pointer args)
  more_fits pointer args h g = fit_pointer own P _ (fit_rolled own P (out-FnPtr H pointer).name (copied_before pointer args)
      (out-FnPtr H pointer).kind (fit_all own P least (copied_before pointer args) (copied_fits pointer args h g)) h.kind)

  -- ---- a map's own pointer

  abbrev MaybePointer : Option (FnPtr H) → Type 0
  MaybePointer None = ⊤
  MaybePointer (Some pointer) = FitPointer own P pointer

  entry_in_fits : (name : List ℕ) (u : UnionLayer H) → FitLayer own P u → AllFit own P least (of_maybe (entry_in name u))
  entry_in_fits name (union.Map entries) h = value_of_fits own P least name entries (all_fit own P least entries.1 h)
  entry_in_fits name _ h = tt

  entry_seen_fits : (name : List ℕ) (r : Result (Dynamic H) (EvalAltResult H)) → Gives own P least (Flat own P least) r →
      AllFit own P least (of_maybe (entry_seen name r))
  entry_seen_fits name (Ok v) h = entry_in_fits name (layer_of v) (fit_out own P v.value h.0)
  entry_seen_fits name (Err e) h = tt

  there_fits : (u : UnionLayer H) → FitLayer own P u → MaybePointer (pointer_there u)
  there_fits (union.FnPtr pointer) h = h
  there_fits _ h = tt

  own_seen_gives : (r : Result (Dynamic H) (EvalAltResult H)) → Gives own P least (Flat own P least) r →
      Gives own P least MaybePointer (own_seen r)
  own_seen_gives (Ok v) h = there_fits (layer_of v) (fit_out own P v.value h.0)
  own_seen_gives (Err e) h = h

  own_in_gives : (l : Local H) (there : Option (Dynamic H)) (at : Position) → FitLocal own P least l → AllFit own P least (of_maybe there) →
      Gives own P least MaybePointer (own_in l.around.cells there at)
  own_in_gives l (Some v) at h f = own_seen_gives (through l.around.cells v at) (through_gives own P least l v at h f)
  own_in_gives l None at h f = tt

  own_gives : (l : Local H) (method : Method) (focus : Dynamic H) → FitLocal own P least l → Fit own P focus →
      Gives own P least MaybePointer (own_entry l.around.cells method focus)
  own_gives l method focus h f = own_in_gives l (entry_seen method.name (through l.around.cells focus method.at)) method.at h
      (entry_seen_fits method.name (through l.around.cells focus method.at) (through_gives own P least l focus method.at h f))

  module _ (s : Setting H) (o : FitOffer own P least s.offer) where
    -- ---- pointers that are called

    unlinked_on_good : (k' : FnPtrKind H) (pointer : FnPtr H) (method : Method) (called : List ℕ) (args : List (Dynamic H))
        (focus : Dynamic H) (k : List (Frame H)) (l : Local H) → All args → Fit own P focus → Below k l →
        Good (unlinked_on s k' pointer method called args focus k l)
    unlinked_on_good (kind.Native id) pointer method called args focus k l h f b =
        numbered_good own P least (number_on_focus id.number (operation_named called method.at) args focus) k l (f, h) b
    unlinked_on_good _ pointer method called args focus k l h f b =
        dispatch_good own P least s o (as_method (natives_alone (out-FnPtr H pointer).name))
        (on_focus (operation_named (out-FnPtr H pointer).name method.at) args focus) k l (f, h) b

    pointer_on_good : (function : Option (Function H)) (pointer : FnPtr H) (method : Method) (called : List ℕ) (args : List (Dynamic H))
        (focus : Dynamic H) (k : List (Frame H)) (l : Local H) → There own P least (FitFound own P least) function → All args →
        Fit own P focus → Below k l → Good (pointer_on s function pointer method called args focus k l)
    pointer_on_good (Some function) pointer method called args focus k l e h f b =
        linked_good own P least function TheFocus method.at args k l e h b
    pointer_on_good None pointer method called args focus k l e h f b =
        unlinked_on_good (out-FnPtr H pointer).kind pointer method called args focus k l h f b

    unlinked_alone_good : (k' : FnPtrKind H) (pointer : FnPtr H) (at : Position) (args : List (Dynamic H)) (k : List (Frame H))
        (l : Local H) → All args → Below k l → Good (unlinked_alone s k' pointer at args k l)
    unlinked_alone_good (kind.Native id) pointer at args k l h b = numbered_good own P least _ k l h b
    unlinked_alone_good _ pointer at args k l h b =
        dispatch_good own P least s o (plainly (natives_alone (out-FnPtr H pointer).name) false)
        (record (call_of (operation_named (out-FnPtr H pointer).name at) args) { marks = true }) k l h b

    pointer_alone_good : (function : Option (Function H)) (pointer : FnPtr H) (at : Position) (args : List (Dynamic H)) (k : List (Frame H))
        (l : Local H) → There own P least (FitFound own P least) function → All args → Below k l →
        Good (pointer_alone s function pointer at args k l)
    pointer_alone_good (Some function) pointer at args k l e h b = linked_good own P least function NoThis at args k l e h b
    pointer_alone_good None pointer at args k l e h b = unlinked_alone_good (out-FnPtr H pointer).kind pointer at args k l h b

    -- ---- words

    argument_good : (method : Method) (args : List (Dynamic H)) (seen focus : Dynamic H) (k : List (Frame H)) (l : Local H) → All args →
        Fit own P focus → Below k l → Good (call_argument s method args seen focus k l)
    argument_good method [] seen focus k l h f b = fail own P least _ k l (fit_error own P _ tt) b
    argument_good method (first ∷ rest) seen focus k l h f b = on own P least (FitPointer own P)
        (pointer_wanted s.host_type l.around.cells first (argument_at method)) _ k l
        (pointer_gives own P least s.host_type l first (argument_at method) b.local h.0) b
        (λ pointer p. pointer_on_good (linked_to pointer (length ((out-FnPtr H pointer).curry ++ rest)) l.around.lib) pointer method
        (codes "call") ((out-FnPtr H pointer).curry ++ rest) focus k l
        (linked_to_fits own P least pointer (length ((out-FnPtr H pointer).curry ++ rest)) l.around.lib p b.local.around.0)
        (values_joined own P least (out-FnPtr H pointer).curry rest
        (all_fit own P least (out-FnPtr H pointer).curry p.curry) h.1) f b)

    call_word_good : (u : UnionLayer H) (method : Method) (args : List (Dynamic H)) (seen focus : Dynamic H) (k : List (Frame H))
        (l : Local H) → FitLayer own P u → All args → Fit own P focus → Below k l → Good (call_core s u method args seen focus k l)
    call_word_good (union.FnPtr pointer) method args seen focus k l p h f b = pointer_alone_good
        (linked_to pointer (length (copied_before pointer args)) l.around.lib) pointer method.at (copied_before pointer args) k l
        (linked_to_fits own P least pointer (length (copied_before pointer args)) l.around.lib p b.local.around.0)
        (copied_fits pointer args p h) b
    call_word_good _ method args seen focus k l p h f b = argument_good method args seen focus k l h f b

    curry_good : (u : UnionLayer H) (at : Position) (args : List (Dynamic H)) (seen : Dynamic H) (k : List (Frame H)) (l : Local H) →
        FitLayer own P u → All args → Below k l → Good (curry_core s u at args seen k l)
    curry_good (union.FnPtr pointer) at args seen k l p h b = back own P least _ k l (more_fits pointer args p h) b
    curry_good _ at args seen k l p h b = fail own P least _ k l (fit_error own P _ tt) b

    entry_good : (pointer : Option (FnPtr H)) (method : Method) (args : List (Dynamic H)) (focus : Dynamic H) (k : List (Frame H))
        (l : Local H) → MaybePointer pointer → All args → Fit own P focus → Below k l → Good (entry_core s pointer method args focus k l)
    entry_good (Some pointer) method args focus k l p h f b = pointer_on_good
        (linked_to pointer (length (copied_before pointer args)) l.around.lib) pointer method (out-FnPtr H pointer).name
        (copied_before pointer args) focus k l
        (linked_to_fits own P least pointer (length (copied_before pointer args)) l.around.lib p b.local.around.0)
        (copied_fits pointer args p h) f b
    entry_good None method args focus k l p h f b =
        dispatch_good own P least s o (as_method false) (on_focus (operation_named method.name method.at) args focus) k l (f, h) b

    own_good : (method : Method) (args : List (Dynamic H)) (focus : Dynamic H) (k : List (Frame H)) (l : Local H) → All args →
        Fit own P focus → Below k l → Good (own_core s method args focus k l)
    own_good method args focus k l h f b = on own P least MaybePointer (own_entry l.around.cells method focus) _ k l
        (own_gives l method focus b.local f) b (λ pointer p. entry_good pointer method args focus k l p h f b)

    word_good : (word : MethodWord) (method : Method) (args : List (Dynamic H)) (focus : Dynamic H) (k : List (Frame H)) (l : Local H) →
        All args → Fit own P focus → Below k l → Good (word_core s word method args focus k l)
    word_good CallWord method args focus k l h f b = on own P least (Flat own P least) (through l.around.cells focus method.at) _ k l
        (through_gives own P least l focus method.at b.local f) b
        (λ seen g. call_word_good (layer_of seen) method args seen focus k l (fit_out own P seen.value g.0) h f b)
    word_good CurryWord method args focus k l h f b = on own P least (Flat own P least) (through l.around.cells focus method.at) _ k l
        (through_gives own P least l focus method.at b.local f) b
        (λ seen g. curry_good (layer_of seen) method.at args seen k l (fit_out own P seen.value g.0) h b)
    word_good SharedWord method args focus k l h f b = back own P least _ k l (fit_bool own P _) b
    word_good PlainWord method args focus k l h f b = own_good method args focus k l h f b

    pub method_good : (method : Method) (args : List (Dynamic H)) (focus : Dynamic H) (k : List (Frame H)) (l : Local H) → All args →
        Fit own P focus → Below k l → Good (method_core s method args focus k l)
    method_good method args focus k l h f b = word_good (word_of method.name (length args)) method args focus k l h f b

  -- ---- members

  abbrev FitMember : Member H → Type 0
  FitMember member = AllFit own P least (of_member member)

  got_good : (member : Member H) (access : MemberAccess H) (k : List (Frame H)) (l : Local H) → FitMember member →
      FitMember access.member → Below k l → Good (got_by member access k l)
  got_good (Property name at) access k l m a b = to own P least _ _ l (focus_of_fits own P least l b.local, tt) tt
      (push own P least _ k l a tt b.back b)
  got_good (Item index) access k l m a b = to own P least _ k l (focus_of_fits own P least l b.local, (m, tt)) tt b

  pub get_good : (access : MemberAccess H) (k : List (Frame H)) (l : Local H) → FitMember access.member → Below k l →
      Good (get_core access k l)
  get_good access k l a b = got_good access.member access k l a a b

  ignored_below : (ignores : Bool) (k : List (Frame H)) (l : Local H) → Below k l → Below (unless_ignored ignores k) l
  ignored_below true k l b = push own P least _ k l (fit_unit own P) tt b.back b
  ignored_below false k l b = b

  set_by_good : (member : Member H) (ignores : Bool) (access : MemberAccess H) (v : Dynamic H) (k : List (Frame H)) (l : Local H) →
      FitMember member → FitMember access.member → Fit own P v → Below k l → Good (set_by member ignores access v k l)
  set_by_good (Property name at) ignores access v k l m a f b = to own P least _ _ l (focus_of_fits own P least l b.local, (f, tt)) tt
      (push own P least _ k l (a, f) tt b.back b)
  set_by_good (Item index) ignores access v k l m a f b = to own P least _ _ l (focus_of_fits own P least l b.local, (m, (f, tt))) tt
      (ignored_below ignores k l b)

  pub set_good : (ignores : Bool) (access : MemberAccess H) (v : Dynamic H) (k : List (Frame H)) (l : Local H) → FitMember access.member →
      Fit own P v → Below k l → Good (set_core ignores access v k l)
  set_good ignores access v k l a f b = set_by_good access.member ignores access v k l a a f b

  pub getter_good : (lacks : Bool) (e : EvalAltResult H) (access : MemberAccess H) (name : List ℕ) (k : List (Frame H)) (l : Local H) →
      FitError own P e → Below k l → Good (getter_missing lacks e access name k l)
  getter_good true e access name k l h b = to own P least _ _ l (focus_of_fits own P least l b.local, (fit_text own P name, tt)) tt
      (push own P least _ k l h tt b.back b)
  getter_good false e access name k l h b = fail own P least e k l h b

  after_fits : (ignores : Bool) (e : EvalAltResult H) → FitError own P e → AllFit own P least (of_result (after_setter ignores e))
  after_fits true e h = fit_unit own P
  after_fits false e h = h

  pub setter_good : (lacks : Bool) (e : EvalAltResult H) (access : MemberAccess H) (name : List ℕ) (v : Dynamic H) (ignores : Bool)
      (k : List (Frame H)) (l : Local H) → FitError own P e → Fit own P v → Below k l →
      Good (setter_missing lacks e access name v ignores k l)
  setter_good true e access name v ignores k l h f b = to own P least _ _ l
      (focus_of_fits own P least l b.local, (fit_text own P name, (f, tt))) tt
      (push own P least _ k l (after_fits ignores e h) tt b.back b)
  setter_good false e access name v ignores k l h f b = fail own P least e k l h b

  pub indexer_good : (lacks : Bool) (e : EvalAltResult H) (otherwise : Result (Dynamic H) (EvalAltResult H)) (k : List (Frame H))
      (l : Local H) → FitError own P e → AllFit own P least (of_result otherwise) → Below k l →
      Good (indexer_missing lacks e otherwise k l)
  indexer_good true e otherwise k l h o b = ended_fits own P least otherwise k l o b
  indexer_good false e otherwise k l h o b = fail own P least e k l h b
