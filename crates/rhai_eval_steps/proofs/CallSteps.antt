-- Steps of calls.
use Rattle.std.proofs.Common.{◌≡◌, ◌<◌, ◌≤◌, ◌+◌, ℕ, Bool, true, false, List, [], ◌∷◌, ◌++◌, Option, Some, None, Result, Ok, Err}
use Rattle.std.proofs.Common.{refl, sym, ap, ◌∙◌, arith, codes, is_some, length, suc}
use Rattle.std.proofs.lemmas.Bool.{lt-ltb, le-ltb}
use Rattle.std.proofs.lemmas.List.{length-append}
use Rattle.rhai_tree.specs.declared.position.Position.{Position}
use Rattle.rhai_tree.specs.declared.token.Token.{Token}
use Rattle.rhai_tree.specs.declared.literal.NativeId.{NativeId}
use Rattle.rhai_tree.specs.declared.expr.Expr.{Expr}
use Rattle.rhai_tree.specs.declared.expr.FnCallExpr.{FnCallExpr}
use Rattle.rhai_tree.specs.declared.expr.Expr.TheOpen as layer
use Rattle.rhai_tree.specs.Positions.{start_of}
use Rattle.rhai_tree.specs.Forms.{is_unqualified}
use Rattle.rhai_values.specs.declared.base.value.Dynamic.{Dynamic}
use Rattle.rhai_values.specs.declared.base.value.FnPtr.{FnPtr, out-FnPtr}
use Rattle.rhai_values.specs.declared.base.value.FnPtrKind.{FnPtrKind}
use Rattle.rhai_values.specs.declared.base.value.FnPtrKind.TheVariants as kind
use Rattle.rhai_state.specs.declared.scope.Scope.{Scope}
use Rattle.rhai_lookups.specs.declared.run.RunState.{RunState}
use Rattle.rhai_errors.specs.declared.error.EvalAltResult.{EvalAltResult}
use Rattle.rhai_errors.specs.declared.error.EvalAltResult.TheVariants as error
use Rattle.rhai_errors.specs.Errors.{is_out_of_memory}
use Rattle.rhai_machine.specs.machine.Machine.{Go, Charge}
use Rattle.rhai_machine.specs.machine.Memory.{here, Leads}
use Rattle.rhai_machine.specs.machine.Point.{Point}
use Rattle.rhai_machine.specs.language.Setting.{Rules, limit_under, cut}
use Rattle.rhai_machine.specs.language.State.{Held, Local, State}
use Rattle.rhai_machine.specs.language.Frames.{Operation, Control, Frame, Core, core, on_value, Argument, Back, CallNamed}
use Rattle.rhai_machine.specs.language.Frames.{Fail, OpenExpr}
use Rattle.rhai_machine.specs.language.Frames.{CallArgument, KeywordArgument, Keyword, CallPointer, Curry, IsDefinedVariable, MakePointer}
use Rattle.rhai_machine.specs.language.Frames.{Purpose, ToCallFunction, ToCallNumber, ToCurry, ended}
use Rattle.rhai_machine.specs.language.Arguments.{arguments_core, flattens, function_core, keyword_of, natives_alone}
use Rattle.rhai_machine.specs.language.Arguments.{operation_named}
use Rattle.rhai_machine.specs.language.Arguments.{pointer_core, taken, pointer_wanted, text_wanted, unlinked_core}
use Rattle.rhai_machine.specs.language.Functions.{Function}
use Rattle.rhai_machine.specs.language.Values.{bool_value}
use Rattle.rhai_state.specs.Scope.{index_of}
use Rattle.rhai_machine.specs.language.Language.{move, machine}
use Rattle.rhai_machine.specs.language.Runs.{at, with_core}
use Rattle.rhai_steps.specs.States.{local_of, state_of}
use Rattle.rhai_steps.proofs.Pieces.{step_by}
use Rattle.rhai_call_forms.specs.Forms.{is_operator_form}
use Rattle.rhai_call_forms.proofs.FormLemmas.{function_goes}
use Rattle.rhai_callees.specs.Kept.{HasKept}
use Rattle.rhai_call_forms.specs.Pointers.{native_number_of}
use Rattle.rhai_callees.specs.declared.pointers.PointerUse.{PointerUse}
use Rattle.rhai_callees.specs.declared.pointers.PointerUse.TheVariants as code
use Rattle.rhai_callees.specs.Pointers.{purpose_of}
use Rattle.rhai_eval_steps.specs.Calls.{called, pointer_called}
use Rattle.rhai_eval_steps.proofs.Chain.{fails_on}
use Rattle.rhai_machine.specs.language.Arguments.{pointer_of as pointer_named_by}

-- a first argument is one more than the others
one_more : (n : ℕ) → suc n ≡ 1 + n
one_more n = omega arith

pub counted : (token : Option Token) (name : List ℕ) (rest : List Expr) →
    keyword_of token name (suc (length rest)) ≡ keyword_of token name (1 + length rest)
counted token name rest = ap (keyword_of token name) (one_more (length rest))

-- a pointer's arguments are not flattened
pub kept_as_they_are : {H : Type 0} (pointer : PointerUse H) (pos : Position) → flattens (purpose_of pointer pos) ≡ false
kept_as_they_are (code.Curry pointer) pos = refl
kept_as_they_are (code.Linked function curried) pos = refl
kept_as_they_are (code.Number id curried) pos = refl

-- an argument that was kept is one more
pub kept_longer : {H : Type 0} (r : Result (Dynamic H) (EvalAltResult H)) (before after : List (Dynamic H)) → HasKept r before after →
    length after ≡ length before + 1
kept_longer (Ok w) before after kept = rw kept (length-append before (w ∷ []))
kept_longer (Err e) before after kept = elim kept [ ]

module _ {S H : Type 0} (rules : Rules S H) where
  module _ (call : FnCallExpr) (pos : Position) (k : List (Frame H)) (s : State S H)
      (plain : is_unqualified call.namespace.path ≡ true)
      (form : is_operator_form rules.setting.offer.fast_operators call.op_token call.args ≡ false) where
    -- a call that is no operator on its operands begins as a keyword does, or as a call by name
    pub begins_call : Leads (machine rules) (cut rules) (at (OpenExpr (layer.Expr::FnCall call pos)) k s)
        (with_core (called (record { name = call.name; token = call.op_token; at = pos }) call.args call.capture_parent_scope k s.local) s)
    begins_call =
        step_by rules _ _ (Go (called (record { name = call.name; token = call.op_token; at = pos }) call.args call.capture_parent_scope k
        s.local))
        (function_goes rules.setting rules.setting.offer.fast_operators call.op_token call call.args pos k s.local form ∙ rw
        plain refl) here

  -- without arguments there is no keyword
  module _ (operation : Operation) (captures : Bool) (k : List (Frame H)) (l : Local H) where
    pub named_alone : (word : Option Keyword) →
        function_core word operation [] captures k l ≡ core (CallNamed operation [] [] captures false) k l
    named_alone None = refl
    named_alone (Some word) = refl

    -- with arguments it is a keyword, or a call by name
    pub named_so : (word : Option Keyword) (args : List Expr) → word ≡ None →
        function_core word operation args captures k l ≡ core (CallNamed operation [] args captures false) k l
    named_so word args is = rw is refl

    pub worded : (word : Option Keyword) (found : Keyword) (arg : Expr) (args : List Expr) → word ≡ Some found →
        function_core word operation (arg ∷ args) captures k l
        ≡ core (Argument arg) (KeywordArgument found operation.at (start_of arg) args captures ∷ k) l
    worded word found arg args is = rw is refl

  module _ (t : S) (old new : RunState H) (scope : Scope H) (held : Held H) (c : Control H) (pos : Position)
      (k : List (Frame H)) (d : Local H → Core H)
      (charges : move rules.setting (core c k (local_of old scope held)) ≡ Charge pos (d (local_of old scope held))) where
    -- a charge that leads to another stack
    pub charged_on : old.num_operations < limit_under rules → new ≡ record old { num_operations = old.num_operations + 1 } →
        Leads (machine rules) (cut rules) (at c k (state_of t old scope held))
        (with_core (d (local_of new scope held)) (state_of t new scope held))
    charged_on room is = step_by rules _ _ _ charges (rw (lt-ltb _ _ room, is) here)

    pub refused_on : (x : EvalAltResult H) → limit_under rules ≤ old.num_operations → x ≡ error.ErrorTooManyOperations pos → new ≡ old →
        Leads (machine rules) (cut rules) (at c k (state_of t old scope held)) (at (Fail x) k (state_of t new scope held))
    refused_on x full is same = step_by rules _ _ _ charges (rw (le-ltb _ _ full, is, same) here)

  -- an argument is taken behind those before it, or refused
  module _ (purpose : Purpose H) (made : List (Dynamic H)) (v : Dynamic H) (pos : Position) (rest : List Expr) (k : List (Frame H))
      (l : State S H) where
    takes : (r : Result (Dynamic H) (EvalAltResult H)) (more : List (Dynamic H)) → HasKept r made more →
        on_value r (λ x. arguments_core rules.setting purpose (made ++ x ∷ []) rest k l.local) k l.local
        ≡ arguments_core rules.setting purpose more rest k l.local
    takes (Ok x) more is = rw is refl
    takes (Err e) more is = elim is [ ]

    pub taken_on : (flattened : Bool) (more : List (Dynamic H)) → flattens purpose ≡ flattened →
        HasKept (taken flattened l.local.around.cells v pos) made more →
        Leads (machine rules) (cut rules) (at (Back v) (CallArgument purpose made pos rest ∷ k) l)
        (with_core (arguments_core rules.setting purpose more rest k l.local) l)
    taken_on flattened more is kept = step_by rules _ _ _ (ap Go (rw is (takes (taken flattened l.local.around.cells v pos) more kept)))
        here

    pub taken_fails : (flattened : Bool) (e : EvalAltResult H) → flattens purpose ≡ flattened →
        (is_out_of_memory e ≡ false → taken flattened l.local.around.cells v pos ≡ Err e) →
        Leads (machine rules) (cut rules) (at (Back v) (CallArgument purpose made pos rest ∷ k) l) (at (Fail e) k l)
    taken_fails flattened e is refused = fails_on rules v (CallArgument purpose made pos rest) k l e (λ x. refl)
        (λ m. rw (is, refused m) refl)

  -- a pointer is called as the function that it is linked to; and else by its number, or by its name
  module _ (pointer : FnPtr H) (pos : Position) (args : List Expr) (captures : Bool) (k : List (Frame H)) (l : Local H) where
    pub by_number : (lead : FnPtrKind H) (id : NativeId) → native_number_of lead ≡ Some id →
        unlinked_core rules.setting lead pointer pos args captures k l
        ≡ arguments_core rules.setting (ToCallNumber id.number (operation_named (codes "call") pos) (out-FnPtr H pointer).curry) [] args k l
    by_number (kind.Native found) id is = let same : found ≡ id = cc in rw same refl
    by_number _ id is = cc

    pub by_name : (lead : FnPtrKind H) → native_number_of lead ≡ None →
        unlinked_core rules.setting lead pointer pos args captures k l
        ≡ core (CallNamed (operation_named (out-FnPtr H pointer).name pos) (out-FnPtr H pointer).curry args captures
        (natives_alone (out-FnPtr H pointer).name)) k l
    by_name (kind.Native found) is = cc
    by_name _ is = refl

  module _ (pointer : FnPtr H) (pos : Position) (args : List Expr) (captures : Bool) (k : List (Frame H)) (s : State S H) where
    -- it is called as the function that it is linked to
    pub calls_linked : {q : Point S (Core H)} (found : Option (Function H)) (function : Function H) → found ≡ Some function →
        Leads (machine rules) (cut rules)
        (with_core (arguments_core rules.setting (ToCallFunction function pos (out-FnPtr H pointer).curry) [] args
        k s.local) s) q →
        Leads (machine rules) (cut rules) (with_core (pointer_core rules.setting found pointer pos args captures k s.local) s) q
    calls_linked found function is goes = rw is goes

    -- or by itself
    pub calls_itself : {q : Point S (Core H)} (found : Option (Function H)) → found ≡ None →
        Leads (machine rules) (cut rules)
        (with_core (unlinked_core rules.setting (out-FnPtr H pointer).kind pointer pos args captures k s.local) s) q →
        Leads (machine rules) (cut rules) (with_core (pointer_core rules.setting found pointer pos args captures k s.local) s) q
    calls_itself found is goes = rw is goes

  -- a keyword's first argument is what is wanted, and the keyword goes on with that; or it is not, and fails
  module _ (v : Dynamic H) (pos start : Position) (rest : List Expr) (captures : Bool) (k : List (Frame H)) (l : State S H) where
    abbrev Awaits : Keyword → Point S (Core H)
    Awaits word = at (Back v) (KeywordArgument word pos start rest captures ∷ k) l

    abbrev a_text : Result (List ℕ) (EvalAltResult H)
    a_text = text_wanted rules.setting.host_type l.local.around.cells v start

    abbrev a_pointer : Result (FnPtr H) (EvalAltResult H)
    a_pointer = pointer_wanted rules.setting.host_type l.local.around.cells v start

    -- what a result leads to
    leads_on : {A : Type 0} (f : A → Core H) (r x : Result A (EvalAltResult H)) → x ≡ r → on_value r f k l.local ≡ on_value x f k l.local
    leads_on f r x is = ap (λ y. on_value y f k l.local) (sym is)

    abbrev defined : List ℕ → Core H
    defined name = core (Back (bool_value (is_some (index_of name l.local.scope)))) k l.local

    abbrev made : List ℕ → Core H
    made name = core (ended (pointer_named_by name start)) k l.local

    abbrev curries : FnPtr H → Core H
    curries pointer = arguments_core rules.setting (ToCurry pointer) [] rest k l.local

    abbrev calls : FnPtr H → Core H
    calls pointer = pointer_called rules pointer pos rest captures k l.local

    pub defined_goes : {q : Point S (Core H)} (text : List ℕ) → Ok text ≡ a_text →
        Leads (machine rules) (cut rules) (with_core (defined text) l) q →
        Leads (machine rules) (cut rules) (Awaits IsDefinedVariable) q
    defined_goes text is goes = step_by rules _ _ (Go (defined text)) (ap Go (leads_on defined a_text (Ok text) is)) goes

    pub made_goes : {q : Point S (Core H)} (text : List ℕ) → Ok text ≡ a_text →
        Leads (machine rules) (cut rules) (with_core (made text) l) q →
        Leads (machine rules) (cut rules) (Awaits MakePointer) q
    made_goes text is goes = step_by rules _ _ (Go (made text)) (ap Go (leads_on made a_text (Ok text) is)) goes

    pub curries_goes : {q : Point S (Core H)} (pointer : FnPtr H) → Ok pointer ≡ a_pointer →
        Leads (machine rules) (cut rules) (with_core (curries pointer) l) q →
        Leads (machine rules) (cut rules) (Awaits Curry) q
    curries_goes pointer is goes = step_by rules _ _ (Go (curries pointer)) (ap Go (leads_on curries a_pointer (Ok pointer) is)) goes

    pub calls_goes : {q : Point S (Core H)} (pointer : FnPtr H) → Ok pointer ≡ a_pointer →
        Leads (machine rules) (cut rules) (with_core (calls pointer) l) q →
        Leads (machine rules) (cut rules) (Awaits CallPointer) q
    calls_goes pointer is goes = step_by rules _ _ (Go (calls pointer)) (ap Go (leads_on calls a_pointer (Ok pointer) is)) goes

    module _ (e : EvalAltResult H) where
      pub defined_fails : (is_out_of_memory e ≡ false → Err e ≡ a_text) →
          Leads (machine rules) (cut rules) (Awaits IsDefinedVariable) (at (Fail e) k l)
      defined_fails told = fails_on rules v (KeywordArgument IsDefinedVariable pos start rest captures) k l e (λ x. refl)
          (λ m. leads_on defined a_text (Err e) (told m))

      pub made_fails : (is_out_of_memory e ≡ false → Err e ≡ a_text) →
          Leads (machine rules) (cut rules) (Awaits MakePointer) (at (Fail e) k l)
      made_fails told = fails_on rules v (KeywordArgument MakePointer pos start rest captures) k l e (λ x. refl)
          (λ m. leads_on made a_text (Err e) (told m))

      pub curries_fails : (is_out_of_memory e ≡ false → Err e ≡ a_pointer) →
          Leads (machine rules) (cut rules) (Awaits Curry) (at (Fail e) k l)
      curries_fails told = fails_on rules v (KeywordArgument Curry pos start rest captures) k l e (λ x. refl)
          (λ m. leads_on curries a_pointer (Err e) (told m))

      pub calls_fails : (is_out_of_memory e ≡ false → Err e ≡ a_pointer) →
          Leads (machine rules) (cut rules) (Awaits CallPointer) (at (Fail e) k l)
      calls_fails told = fails_on rules v (KeywordArgument CallPointer pos start rest captures) k l e (λ x. refl)
          (λ m. leads_on calls a_pointer (Err e) (told m))
