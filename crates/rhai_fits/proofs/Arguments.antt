-- The rules of arguments and of keywords lead to cores that fit.
use Rattle.std.proofs.Common.{◌+◌, ℕ, List, [], ◌∷◌, ◌++◌, length}
use Rattle.std.specs.Prelude.{Bool, true, false, if◌then◌else◌, Option, Some, None, Result, Ok, Err, codes}
use Rattle.rhai_machine.specs.Types.{Dynamic, EvalAltResult, Expr, out-Expr, FnPtr, Position, Union}
use Rattle.rhai_tree.specs.declared.expr.FnCallExpr.{FnCallExpr}
use Rattle.rhai_values.specs.declared.base.value.FnPtr.{out-FnPtr}
use Rattle.rhai_values.specs.declared.base.value.FnPtrKind.{FnPtrKind}
use Rattle.rhai_values.specs.declared.base.value.FnPtrKind.TheOpen as union
use Rattle.rhai_values.specs.declared.base.value.FnPtrKind.TheVariants as kind
use Rattle.rhai_values.specs.declared.base.value.Union.TheVariants as value
use Rattle.rhai_values.specs.Copy.{copy_of}
use Rattle.rhai_values.specs.Layers.{UnionLayer, layer_of}
use Rattle.rhai_values.specs.ValueContents.{Reached}
use Rattle.rhai_machine.specs.language.Setting.{Globals, Setting, globals_of}
use Rattle.rhai_machine.specs.language.State.{Local}
use Rattle.rhai_machine.specs.language.Values.{Cells, flat, through}
use Rattle.rhai_machine.specs.language.Activations.{ThisFrom, NoThis}
use Rattle.rhai_machine.specs.language.Functions.{Function}
use Rattle.rhai_machine.specs.language.Variables.{Path, Variable, path_of, variable_in}
use Rattle.rhai_machine.specs.language.Names.{Meaning, AtEntry, AsTemporary, bound_this, meant}
use Rattle.rhai_machine.specs.language.Places.{is_constant}
use Rattle.rhai_machine.specs.language.Frames.{Operation, Dispatch, Call, Keyword, CallPointer, MakePointer, Curry, IsShared}
use Rattle.rhai_machine.specs.language.Frames.{IsDefinedVariable, Purpose, ToCall, ToCallOn, ToCallOnThis, ToCallNumber, ToCallFunction}
use Rattle.rhai_machine.specs.language.Frames.{ToCurry, ToChain, Frame, Core}
use Rattle.rhai_machine.specs.language.Calls.{behind_path, plainly, races}
use Rattle.rhai_machine.specs.language.Arguments.{operation_named, is_pointer_name, text_in, text_seen, text_wanted}
use Rattle.rhai_machine.specs.language.Arguments.{pointer_in, pointer_seen, pointer_wanted, pointer_of, with_curried, passed_flat}
use Rattle.rhai_machine.specs.language.Arguments.{passed_as, passed, passed_seen, call_on, lent_this, is_captured, this_in, taken}
use Rattle.rhai_machine.specs.language.Arguments.{linked_to, linked_core, numbered_core, arguments_there, arguments_core, on_variable}
use Rattle.rhai_machine.specs.language.Arguments.{on_this, captured_move, named_move, unlinked_core, pointer_core, keyword_core, keyword_of}
use Rattle.rhai_machine.specs.language.Arguments.{function_core, operation_in, behind_move, function_move}
use Rattle.rhai_fits.specs.Contents.{of_values, of_result, of_purpose}
use Rattle.rhai_fits.specs.Sealed.{PurposeSealed}
use Rattle.rhai_fits.proofs.Values.{Fit, FitLayer, FitPointer, fit_out, fit_pointer, pointer_fits, fit_rolled, fit_bool}
use Rattle.rhai_fits.proofs.Copies.{fit_copy}
use Rattle.rhai_fits.proofs.Literals.{kind_name}
use Rattle.rhai_fits.proofs.Errors.{fit_error}
use Rattle.rhai_fits.proofs.Fitting.{AllFit, FitBelow, FitCore, FitLocal, FitOffer, Gives, Flat, to, back, fail, push, on, ended_fits}
use Rattle.rhai_fits.proofs.Fitting.{all_fit, fit_all, values_joined}
use Rattle.rhai_fits.proofs.Seeing.{FitValue, Any, flat_gives, flat_only, through_gives, bound_gives}
use Rattle.rhai_fits.proofs.Lookups.{There, FitFound, linked_to_fits}
use Rattle.rhai_fits.proofs.Names.{FitGlobals, FitMeaning, meant_gives}
use Rattle.rhai_fits.proofs.Natives.{Moves}
use Rattle.rhai_fits.proofs.Calls.{if_good, dispatch_good}

module _ {H : Type 0} (own : H → List Reached) (P : Reached → Type 0) (least : ℕ) where
  abbrev Good : Core H → Type 0
  Good c = FitCore own P least c

  abbrev Below : List (Frame H) → Local H → Type 0
  Below k l = FitBelow own P least k l

  abbrev All : List (Dynamic H) → Type 0
  All vs = AllFit own P least (of_values vs)

  -- ---- texts and pointers that are wanted

  text_in_gives : (host : H → List ℕ) (cells : Cells H) (u : Union H) (v : Dynamic H) (at : Position) →
      Gives own P least (Any own P least (List ℕ)) (text_in host cells u v at)
  text_in_gives host cells (value.Str text) v at = tt
  text_in_gives host cells _ v at = fit_error own P _ tt

  text_seen_gives : (host : H → List ℕ) (cells : Cells H) (r : Result (Dynamic H) (EvalAltResult H)) (at : Position) →
      Gives own P least (Flat own P least) r → Gives own P least (Any own P least (List ℕ)) (text_seen host cells r at)
  text_seen_gives host cells (Ok v) at h = text_in_gives host cells v.value v at
  text_seen_gives host cells (Err e) at h = h

  pub text_gives : (host : H → List ℕ) (l : Local H) (v : Dynamic H) (at : Position) → FitLocal own P least l → Fit own P v →
      Gives own P least (Any own P least (List ℕ)) (text_wanted host l.around.cells v at)
  text_gives host l v at h f = text_seen_gives host l.around.cells (through l.around.cells v at) at (through_gives own P least l v at h f)

  pointer_in_gives : (host : H → List ℕ) (cells : Cells H) (u : UnionLayer H) (v : Dynamic H) (at : Position) → FitLayer own P u →
      Gives own P least (FitPointer own P) (pointer_in host cells u v at)
  pointer_in_gives host cells (union.FnPtr pointer) v at h = h
  pointer_in_gives host cells _ v at h = fit_error own P _ tt

  pointer_seen_gives : (host : H → List ℕ) (cells : Cells H) (r : Result (Dynamic H) (EvalAltResult H)) (at : Position) →
      Gives own P least (Flat own P least) r → Gives own P least (FitPointer own P) (pointer_seen host cells r at)
  pointer_seen_gives host cells (Ok v) at h = pointer_in_gives host cells (layer_of v) v at (fit_out own P v.value h.0)
  pointer_seen_gives host cells (Err e) at h = h

  pub pointer_gives : (host : H → List ℕ) (l : Local H) (v : Dynamic H) (at : Position) → FitLocal own P least l → Fit own P v →
      Gives own P least (FitPointer own P) (pointer_wanted host l.around.cells v at)
  pointer_gives host l v at h f = pointer_seen_gives host l.around.cells (flat l.around.cells v at) at (flat_gives own P least l v at h f)

  if_result : (b : Bool) (r t : Result (Dynamic H) (EvalAltResult H)) → AllFit own P least (of_result r) →
      AllFit own P least (of_result t) →
      AllFit own P least (of_result (if b then r else t))
  if_result true r t h g = h
  if_result false r t h g = g

  made_fits : (name : List ℕ) (at : Position) → AllFit own P least (of_result (pointer_of {H = H} name at))
  made_fits name at = if_result (is_pointer_name name) _ _
      (fit_pointer own P _ (fit_rolled own P name [] kind.Name tt (kind_name own P))) (fit_error own P _ tt)

  curried_fits : (pointer : FnPtr H) (args : List (Dynamic H)) → FitPointer own P pointer → All args → Fit own P (with_curried pointer args)
  curried_fits pointer args h g = fit_pointer own P _ (fit_rolled own P (out-FnPtr H pointer).name ((out-FnPtr H pointer).curry ++ args)
      (out-FnPtr H pointer).kind (fit_all own P least ((out-FnPtr H pointer).curry ++ args)
      (values_joined own P least (out-FnPtr H pointer).curry args
      (all_fit own P least (out-FnPtr H pointer).curry h.curry) g)) h.kind)

  -- ---- the variable that is read last

  abbrev FitCall : Call H → Type 0
  FitCall call = All call.args

  passed_flat_gives : (operation : Operation) (args : List (Dynamic H)) (r : Result (Dynamic H) (EvalAltResult H)) → All args →
      Gives own P least (Flat own P least) r → Gives own P least FitCall (passed_flat operation args r)
  passed_flat_gives operation args (Ok v) h g = (g.0, h)
  passed_flat_gives operation args (Err e) h g = g

  passed_as_fits : (constant : Bool) (operation : Operation) (args : List (Dynamic H)) (entry : ℕ) (v : Dynamic H) → All args →
      Fit own P v → FitCall (passed_as constant operation args entry v)
  passed_as_fits true operation args entry v h f = (fit_copy own P v f, h)
  passed_as_fits false operation args entry v h f = (f, h)

  passed_gives : (l : Local H) (at : Position) (operation : Operation) (args : List (Dynamic H)) (entry : ℕ) (u : Union H)
      (v : Dynamic H) → FitLocal own P least l → All args → Fit own P v →
      Gives own P least FitCall (passed l.around.cells at operation args entry u v)
  passed_gives l at operation args entry (value.Cell id) v b h f =
      passed_flat_gives operation args (flat l.around.cells v at) h (flat_gives own P least l v at b f)
  passed_gives l at operation args entry _ v b h f = passed_as_fits (is_constant v.mode) operation args entry v h f

  passed_seen_gives : (l : Local H) (at : Position) (operation : Operation) (args : List (Dynamic H))
      (r : Result (Meaning H) (EvalAltResult H)) → FitLocal own P least l → All args → Gives own P least (FitMeaning own P least) r →
      Gives own P least FitCall (passed_seen l.around.cells at operation args r)
  passed_seen_gives l at operation args (Ok (AtEntry index v)) b h f = passed_gives l at operation args index v.value v b h f
  passed_seen_gives l at operation args (Ok (AsTemporary v)) b h f = passed_flat_gives operation args
      (flat l.around.cells (copy_of v) at) h (flat_gives own P least l (copy_of v) at b (fit_copy own P v f))
  passed_seen_gives l at operation args (Err e) b h f = f

  call_on_gives : (globals : Globals H) (l : Local H) (operation : Operation) (variable : Variable) (args : List (Dynamic H)) →
      FitGlobals own P least globals → FitLocal own P least l → All args →
      Gives own P least FitCall (call_on globals l.around l.scope operation variable args)
  call_on_gives globals l operation variable args g b h = passed_seen_gives l variable.at operation args
      (meant globals l.around l.scope variable) b h (meant_gives own P least globals g variable l b)

  pub taken_gives : (flattened : Bool) (l : Local H) (v : Dynamic H) (at : Position) → FitLocal own P least l → Fit own P v →
      Gives own P least (FitValue own P least) (taken flattened l.around.cells v at)
  taken_gives true l v at h f = flat_only own P least (flat l.around.cells v at) (flat_gives own P least l v at h f)
  taken_gives false l v at h f = f

  -- ---- calls at once

  pub linked_good : (function : Function H) (object : ThisFrom) (at : Position) (args : List (Dynamic H)) (k : List (Frame H))
      (l : Local H) → FitFound own P least function → All args → Below k l → Good (linked_core function object at args k l)
  linked_good function object at args k l f h b = if_good own P least (races l.around.cells args) _ _
      (fail own P least _ k l (fit_error own P _ tt) b) (to own P least _ k l (h, f) tt b)

  pub numbered_good : (call : Call H) (k : List (Frame H)) (l : Local H) → All call.args → Below k l → Good (numbered_core call k l)
  numbered_good call k l h b = if_good own P least (races l.around.cells call.args) _ _
      (fail own P least _ k l (fit_error own P _ tt) b) (to own P least _ k l h tt b)

  module _ (s : Setting H) (o : FitOffer own P least s.offer) where
    there_good : (purpose : Purpose H) (args : List (Dynamic H)) (k : List (Frame H)) (l : Local H) →
        AllFit own P least (of_purpose purpose) → PurposeSealed purpose → All args → Below k l →
        Good (arguments_there s purpose args k l)
    there_good (ToCall operation curried how) args k l p e h b =
        dispatch_good own P least s o how _ k l (values_joined own P least curried args p h) b
    there_good (ToCallOn operation variable how) args k l p e h b = on own P least FitCall
        (call_on (globals_of s.offer) l.around l.scope operation variable args) _ k l
        (call_on_gives (globals_of s.offer) l operation variable args (o.0, o.1.0) b.local h) b
        (λ call c. dispatch_good own P least s o how call k l c b)
    there_good (ToCallOnThis operation this_at how) args k l p e h b = on own P least (FitValue own P least) (bound_this this_at l.this)
        _ k l
        (bound_gives own P least this_at l.this b.local.this) b
        (λ v f. dispatch_good own P least s o how (lent_this operation args v) k l (f, h) b)
    there_good (ToCallFunction function at curried) args k l p e h b =
        linked_good function NoThis at (curried ++ args) k l p.1 (values_joined own P least curried args p.0 h) b
    there_good (ToCallNumber number operation curried) args k l p e h b =
        numbered_good _ k l (values_joined own P least curried args p h) b
    there_good (ToCurry pointer) args k l p e h b = back own P least _ k l (curried_fits pointer args (pointer_fits own P pointer p) h) b
    there_good (ToChain chain (Some rest)) args k l p e h b = to own P least _ k l (p, h) e b
    there_good (ToChain chain None) args k l p e h b = to own P least _ k l (p.0, h) e b

    pub arguments_good : (purpose : Purpose H) (made : List (Dynamic H)) (args : List Expr) (k : List (Frame H)) (l : Local H) →
        AllFit own P least (of_purpose purpose) → PurposeSealed purpose → All made → Below k l →
        Good (arguments_core s purpose made args k l)
    arguments_good purpose made [] k l p e h b = there_good purpose made k l p e h b
    arguments_good purpose made (arg ∷ args) k l p e h b =
        to own P least _ _ l tt tt (push own P least _ k l (p, h) e b.back b)

    -- ---- calls by name

    variable_good : (variable : Option Variable) (operation : Operation) (how : Dispatch) (arg : Expr) (args : List Expr)
        (k : List (Frame H)) (l : Local H) → Below k l → Moves own P least (on_variable s variable operation how arg args k l)
    variable_good (Some variable) operation how arg args k l b =
        arguments_good (ToCallOn operation variable how) [] args k l tt tt tt b
    variable_good None operation how arg args k l b =
        arguments_good (ToCall operation [] how) [] (arg ∷ args) k l tt tt tt b

    this_good : (this_at : Option Position) (operation : Operation) (how : Dispatch) (arg : Expr) (args : List Expr) (k : List (Frame H))
        (l : Local H) → Below k l → Moves own P least (on_this s this_at operation how arg args k l)
    this_good (Some at) operation how arg args k l b = arguments_good (ToCallOnThis operation at how) [] args k l tt tt tt b
    this_good None operation how arg args k l b = variable_good (variable_in (out-Expr arg)) operation how arg args k l b

    captured_good : (captured alone : Bool) (operation : Operation) (arg : Expr) (args : List Expr) (k : List (Frame H)) (l : Local H) →
        Below k l → Moves own P least (captured_move s captured alone operation arg args k l)
    captured_good true alone operation arg args k l b =
        arguments_good (ToCall operation [] (plainly alone true)) [] (arg ∷ args) k l tt tt tt b
    captured_good false alone operation arg args k l b =
        this_good (this_in (out-Expr arg) l.this) operation (plainly alone false) arg args k l b

    pub named_call_good : (operation : Operation) (curried : List (Dynamic H)) (args : List Expr) (captures alone : Bool)
        (k : List (Frame H)) (l : Local H) → All curried → Below k l →
        Moves own P least (named_move s operation curried args captures alone k l)
    named_call_good operation [] [] captures alone k l h b =
        arguments_good (ToCall operation [] (plainly alone (is_captured captures l.scope))) [] [] k l tt tt tt b
    named_call_good operation [] (arg ∷ args) captures alone k l h b =
        captured_good (is_captured captures l.scope) alone operation arg args k l b
    named_call_good operation (v ∷ curried) args captures alone k l h b =
        arguments_good (ToCall operation (v ∷ curried) (plainly alone (is_captured captures l.scope))) [] args k l h tt tt b

    -- ---- keywords

    unlinked_good : (k' : FnPtrKind H) (pointer : FnPtr H) (at : Position) (args : List Expr) (captures : Bool) (k : List (Frame H))
        (l : Local H) → FitPointer own P pointer → Below k l → Good (unlinked_core s k' pointer at args captures k l)
    unlinked_good (kind.Native id) pointer at args captures k l h b =
        arguments_good (ToCallNumber id.number (operation_named (codes "call") at) (out-FnPtr H pointer).curry) [] args k l
        (all_fit own P least (out-FnPtr H pointer).curry h.curry) tt tt b
    unlinked_good _ pointer at args captures k l h b = to own P least _ k l (all_fit own P least (out-FnPtr H pointer).curry h.curry) tt b

    pointer_good : (function : Option (Function H)) (pointer : FnPtr H) (at : Position) (args : List Expr) (captures : Bool)
        (k : List (Frame H)) (l : Local H) → There own P least (FitFound own P least) function → FitPointer own P pointer → Below k l →
        Good (pointer_core s function pointer at args captures k l)
    pointer_good (Some function) pointer at args captures k l f h b =
        arguments_good (ToCallFunction function at (out-FnPtr H pointer).curry) [] args k l
        (all_fit own P least (out-FnPtr H pointer).curry h.curry, f) tt tt b
    pointer_good None pointer at args captures k l f h b = unlinked_good (out-FnPtr H pointer).kind pointer at args captures k l h b

    pub keyword_good : (keyword : Keyword) (at start : Position) (args : List Expr) (captures : Bool) (v : Dynamic H) (k : List (Frame H))
        (l : Local H) → Fit own P v → Below k l → Good (keyword_core s keyword at start args captures v k l)
    keyword_good CallPointer at start args captures v k l f b = on own P least (FitPointer own P)
        (pointer_wanted s.host_type l.around.cells v start) _ k l (pointer_gives s.host_type l v start b.local f) b
        (λ pointer h. pointer_good (linked_to pointer (length (out-FnPtr H pointer).curry + length args) l.around.lib) pointer at args
        captures k l
        (linked_to_fits own P least pointer (length (out-FnPtr H pointer).curry + length args) l.around.lib h b.local.around.0) h b)
    keyword_good MakePointer at start args captures v k l f b = on own P least (Any own P least (List ℕ))
        (text_wanted s.host_type l.around.cells v start) _ k l (text_gives s.host_type l v start b.local f) b
        (λ name h. ended_fits own P least (pointer_of name start) k l (made_fits name start) b)
    keyword_good Curry at start args captures v k l f b = on own P least (FitPointer own P)
        (pointer_wanted s.host_type l.around.cells v start) _ k l (pointer_gives s.host_type l v start b.local f) b
        (λ pointer h. arguments_good (ToCurry pointer) [] args k l (fit_pointer own P pointer h) tt tt b)
    keyword_good IsShared at start args captures v k l f b = back own P least _ k l (fit_bool own P _) b
    keyword_good IsDefinedVariable at start args captures v k l f b = on own P least (Any own P least (List ℕ))
        (text_wanted s.host_type l.around.cells v start) _ k l (text_gives s.host_type l v start b.local f) b
        (λ name h. back own P least _ k l (fit_bool own P _) b)

  -- ---- the call

  keyword_call_good : (keyword : Option Keyword) (operation : Operation) (args : List Expr) (captures : Bool) (k : List (Frame H))
      (l : Local H) → Below k l → Good (function_core keyword operation args captures k l)
  keyword_call_good (Some keyword) operation [] captures k l b = to own P least _ k l tt tt b
  keyword_call_good (Some keyword) operation (arg ∷ args) captures k l b =
      to own P least _ _ l tt tt (push own P least _ k l tt tt b.back b)
  keyword_call_good None operation args captures k l b = to own P least _ k l tt tt b

  module _ (s : Setting H) (o : FitOffer own P least s.offer) where
    behind_good : (path : Path) (operation : Operation) (args : List Expr) (k : List (Frame H)) (l : Local H) → Below k l →
        Moves own P least (behind_move s path operation args k l)
    behind_good path operation [] k l b = arguments_good s o (ToCall operation [] (behind_path path)) [] [] k l tt tt tt b
    behind_good path operation (arg ∷ args) k l b =
        this_good s o (this_in (out-Expr arg) l.this) operation (behind_path path) arg args k l b

    pub call_good : (is_unqualified : Bool) (call : FnCallExpr) (at : Position) (k : List (Frame H)) (l : Local H) → Below k l →
        Moves own P least (function_move s is_unqualified call at k l)
    call_good true call at k l b = keyword_call_good (keyword_of call.op_token call.name (length call.args)) (operation_in call at)
        call.args call.capture_parent_scope k l b
    call_good false call at k l b = behind_good (path_of call.namespace) (operation_in call at) call.args k l b
