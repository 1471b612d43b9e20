-- A limit that a step meets is told by that step: its error becomes the control. The tests of limits that the rules make, one by one.
use Rattle.std.specs.Prelude.{◌≡◌, ◌<◌, ◌≤◌, ◌+◌, ℕ, Bool, true, false, not, ◌&&◌, List, [], ◌∷◌, length, Option, Some, None, Result, Ok}
use Rattle.std.specs.Prelude.{Err}
use Rattle.std.specs.Prelude.{is_some}
use Rattle.rhai_machine.specs.Types.{Dynamic, EvalAltResult, Expr, out-Expr, Ident, Position, StmtBlock, Token, ASTFlags}
use Rattle.rhai_tree.specs.declared.expr.MapEntry.{MapEntry}
use Rattle.rhai_tree.specs.declared.expr.Expr.TheOpen as layer
use Rattle.rhai_values.specs.declared.base.value.Union.TheVariants as value
use Rattle.rhai_errors.specs.declared.error.EvalAltResult.TheVariants as error
use Rattle.rhai_errors.specs.Errors.{is_catchable, is_system}
use Rattle.rhai_errors.specs.Native.{Reply, Missing, Gives}
use Rattle.rhai_state.specs.Scope.{index_of}
use Rattle.rhai_operators.specs.Answers.{op_assign_of}
use Rattle.rhai_spots.specs.declared.spot.Spot.{Spot}
use Rattle.rhai_spots.specs.PutBack.{put_back}
use Rattle.rhai_machine.specs.machine.Machine.{Move, Go, Charge, Native}
use Rattle.rhai_machine.specs.language.Setting.{Setting}
use Rattle.rhai_machine.specs.language.State.{Local}
use Rattle.rhai_machine.specs.language.Values.{flat}
use Rattle.rhai_machine.specs.language.Places.{Place, Target, put}
use Rattle.rhai_machine.specs.language.Activations.{Entered}
use Rattle.rhai_machine.specs.language.Frames.{Operation, Call, Item, MemberAccess, InPlace, AsValue, Assignment, Update, Control, Frame}
use Rattle.rhai_machine.specs.language.Frames.{Core}
use Rattle.rhai_machine.specs.language.Frames.{EnterFunction, OpenStmt, Back, Fail, UnaryOperand, RightOperand, ArrayItem, EntryValue}
use Rattle.rhai_machine.specs.language.Frames.{TextPart, PrintedPart, TryBody, PartAssigned, Measured, MemberOperated}
use Rattle.rhai_machine.specs.language.Bodies.{variables_before}
use Rattle.rhai_machine.specs.language.Calls.{applied, builtin_of, call_native, put_left, replied, sized}
use Rattle.rhai_machine.specs.language.Data.{printed, with_item, with_part, with_value}
use Rattle.rhai_machine.specs.language.Assignment.{assign_core, call_update, if_fast, operation_of, target_left}
use Rattle.rhai_machine.specs.language.Members.{focus_of}
use Rattle.rhai_machine.specs.language.Statements.{loop_of}
use Rattle.rhai_machine.specs.language.Tries.{catch_variable}
use Rattle.rhai_machine.specs.language.Unwinding.{as_measured}
use Rattle.rhai_machine.specs.language.Walks.{has_no_room}
use Rattle.rhai_machine.specs.language.Language.{move_at, refuse}

-- `reply` and `left` are what a native answers and leaves of its first argument, where a step calls one
module _ {H : Type 0} (reply : Reply H) (left : Option (Dynamic H)) where
  -- a step fails with an error: at once, once its charge is let through, or once its native has answered
  abbrev pub FailsWith : EvalAltResult H → Move H (Core H) → Type 0
  FailsWith e (Go d) = d.control ≡ Fail e
  FailsWith e (Charge at d) = d.control ≡ Fail e
  FailsWith e (Native q f) = (f reply left).control ≡ Fail e
  FailsWith e _ = ⊥

module _ {H : Type 0} (s : Setting H) (reply : Reply H) (left : Option (Dynamic H)) where
  -- what comes of the answer of an update's native `op`, once its target is written back as the native left it
  abbrev pub answer_of : Update H → Local H → Result (Dynamic H) (EvalAltResult H)
  answer_of u l = replied s.limits s.host_type reply (Some (target_left u left)) (u.operand ∷ []) (operation_of u) false
      (put u.place (target_left u left) l).around.cells

  -- A step, from a control over a stack, meets a limit, and this is the error of the test: each test of the rules, as they make it.
  pub data Meets : Control H → List (Frame H) → Local H → EvalAltResult H → Type 0 where
    -- ---- call levels, variables and modules

    -- a function's level is too deep
    level : {e : Entered H} {k : List (Frame H)} {l : Local H} → s.limits.max_call_levels < e.level →
        Meets (EnterFunction e) k l (error.ErrorStackOverflow e.at)
    -- its parameters have no room
    parameters : {e : Entered H} {k : List (Frame H)} {l : Local H} → e.level ≤ s.limits.max_call_levels →
        s.limits.max_variables < length (variables_before e.is_fresh l.scope) + length e.def.params →
        Meets (EnterFunction e) k l (error.ErrorTooManyVariables e.at)
    -- the new variable of a `let` or a `const` has none
    variable : {ident : Ident} {v : Expr} {options : ASTFlags} {at : Position} {restoring : Bool} {k : List (Frame H)} {l : Local H} →
        (not s.offer.allow_shadowing && is_some (index_of ident.name l.scope)) ≡ false → s.limits.max_variables ≤ length l.scope →
        Meets (OpenStmt (layer.Var ident v None options at) restoring) k l (error.ErrorTooManyVariables at)
    -- the variables of a `for` have none
    loop_variables : {name : Ident} {counter : Option Ident} {items : Expr} {body : StmtBlock} {at : Position} {restoring : Bool}
        {k : List (Frame H)} {l : Local H} → has_no_room s.limits (loop_of name counter items body) l ≡ true →
        Meets (OpenStmt (layer.For name counter items body at) restoring) k l (error.ErrorTooManyVariables name.pos)
    -- the variable of a `catch` has none
    catch_name : {f : EvalAltResult H} {name : Expr} {ident : Ident} {branch : StmtBlock} {k : List (Frame H)} {l : Local H} →
        is_catchable f ≡ true → catch_variable (out-Expr name) ≡ Some ident → s.limits.max_variables ≤ length l.scope →
        Meets (Fail f) (TryBody name branch ∷ k) l (error.ErrorTooManyVariables ident.pos)
    -- as many modules are loaded as may be
    modules : {path : Expr} {alias : Option Ident} {at : Position} {restoring : Bool} {k : List (Frame H)} {l : Local H} →
        s.limits.max_modules ≤ l.around.num_modules_loaded →
        Meets (OpenStmt (layer.Import path alias at) restoring) k l (error.ErrorTooManyModules at)
    -- ---- sizes, of what is made of parts

    array : {v : Dynamic H} {made : List (Dynamic H)} {at : Position} {rest : List Expr} {k : List (Frame H)} {l : Local H}
        {e : EvalAltResult H} → with_item s.limits made (flat l.around.cells v at) at ≡ Err e →
        Meets (Back v) (ArrayItem made at rest ∷ k) l e
    map : {v : Dynamic H} {keys : List (List ℕ)} {made : List (Dynamic H)} {at : Position} {rest : List MapEntry} {k : List (Frame H)}
        {l : Local H} {e : EvalAltResult H} → with_value s.limits made (flat l.around.cells v at) at ≡ Err e →
        Meets (Back v) (EntryValue keys made at rest ∷ k) l e
    text : {v x : Dynamic H} {text part : List ℕ} {at : Position} {rest : List Expr} {k : List (Frame H)} {l : Local H}
        {e : EvalAltResult H} → flat l.around.cells v at ≡ Ok x → x.value ≡ value.Str part → with_part s.limits text part at ≡ Err e →
        Meets (Back v) (TextPart text at rest ∷ k) l e
    -- a part that a native printed, and one that it failed to print
    printed_text : {v : Dynamic H} {text type : List ℕ} {at : Position} {rest : List Expr} {k : List (Frame H)} {l : Local H}
        {e : EvalAltResult H} → with_part s.limits text (printed v.value type) at ≡ Err e →
        Meets (Back v) (PrintedPart text type at rest ∷ k) l e
    unprinted_text : {f : EvalAltResult H} {text type : List ℕ} {at : Position} {rest : List Expr} {k : List (Frame H)} {l : Local H}
        {e : EvalAltResult H} → is_system f ≡ false → with_part s.limits text type at ≡ Err e →
        Meets (Fail f) (PrintedPart text type at rest ∷ k) l e
    -- ---- sizes, of what operators and natives give

    -- a built-in, of one operand and of two
    unary : {v x : Dynamic H} {operation : Operation} {at : Position} {k : List (Frame H)} {l : Local H}
        {r : Result (Dynamic H) (EvalAltResult H)} {e : EvalAltResult H} → flat l.around.cells v at ≡ Ok x →
        builtin_of operation.token (x ∷ []) ≡ Some r → applied s.limits r operation.at ≡ Err e →
        Meets (Back v) (UnaryOperand operation at ∷ k) l e
    binary : {v x y : Dynamic H} {operation : Operation} {at : Position} {k : List (Frame H)} {l : Local H}
        {r : Result (Dynamic H) (EvalAltResult H)} {e : EvalAltResult H} → flat l.around.cells v at ≡ Ok y →
        builtin_of operation.token (x ∷ y ∷ []) ≡ Some r → applied s.limits r operation.at ≡ Err e →
        Meets (Back v) (RightOperand operation x at ∷ k) l e
    -- a native, or the built-in where it is missing
    native : {c : Control H} {k : List (Frame H)} {l : Local H} {e : EvalAltResult H} (call : Call H) (from : Option Place)
        (first : Option (Dynamic H)) (rest : List (Dynamic H)) (j : List (Frame H)) (m : Local H) →
        move_at s c k l ≡ call_native s call from first rest j m →
        replied s.limits s.host_type reply left rest call.operation (is_some call.number) (put_left from left m).around.cells ≡ Err e →
        Meets c k l e
    -- ---- sizes, of what is assigned by an operator

    -- a built-in's answer, wherever a step comes to such an assignment
    assigned : {c : Control H} {k : List (Frame H)} {l : Local H} {e : EvalAltResult H} (token : Token) (assignment : Assignment)
        (target : Target H) (v : Dynamic H) (r : Result (Dynamic H) (EvalAltResult H)) (j : List (Frame H)) (m : Local H) →
        move_at s c k l ≡ Go (assign_core s (Some token) assignment target v j m) →
        if_fast s.offer.fast_operators (op_assign_of token target.value v) ≡ Some r →
        applied s.limits r assignment.op.position ≡ Err e → Meets c k l e
    -- what the native `op=` gives, and its target then
    update_answer : {c : Control H} {k : List (Frame H)} {l : Local H} {e : EvalAltResult H} (u : Update H) (v : Dynamic H)
        (j : List (Frame H)) (m : Local H) →
        move_at s c k l ≡ call_update s u j m → u.attempt ≡ InPlace → reply ≡ Gives v → sized s.limits v u.at ≡ Err e → Meets c k l e
    update_target : {c : Control H} {k : List (Frame H)} {l : Local H} {e : EvalAltResult H} (u : Update H) (v w : Dynamic H)
        (j : List (Frame H)) (m : Local H) →
        move_at s c k l ≡ call_update s u j m → u.attempt ≡ InPlace → reply ≡ Gives v → sized s.limits v u.at ≡ Ok w →
        sized s.limits (target_left u left) u.target_at ≡ Err e → Meets c k l e
    -- the built-in where that native is missing
    update_builtin : {c : Control H} {k : List (Frame H)} {l : Local H} {e : EvalAltResult H} (u : Update H)
        (r : Result (Dynamic H) (EvalAltResult H)) (j : List (Frame H)) (m : Local H) → move_at s c k l ≡ call_update s u j m →
        u.attempt ≡ InPlace → reply ≡ Missing →
        op_assign_of u.operator (target_left u left) u.operand ≡ Some r → applied s.limits r u.at ≡ Err e → Meets c k l e
    -- what the native `op` gives, and the target's new value then
    value_answer : {c : Control H} {k : List (Frame H)} {l : Local H} {e : EvalAltResult H} (u : Update H)
        (j : List (Frame H)) (m : Local H) →
        move_at s c k l ≡ call_update s u j m → u.attempt ≡ AsValue → answer_of u m ≡ Err e → Meets c k l e
    value_target : {c : Control H} {k : List (Frame H)} {l : Local H} {e : EvalAltResult H} (u : Update H) (v : Dynamic H)
        (j : List (Frame H)) (m : Local H) →
        move_at s c k l ≡ call_update s u j m → u.attempt ≡ AsValue → answer_of u m ≡ Ok v → sized s.limits v u.target_at ≡ Err e →
        Meets c k l e
    -- a part that is put back, an item or a map's property as it goes back, and an item that natives set
    part : {v above whole : Dynamic H} {at : Spot} {op_at : Position} {k : List (Frame H)} {l : Local H} {e : EvalAltResult H} →
        put_back above at (focus_of l) ≡ Some whole → sized s.limits (focus_of l) op_at ≡ Err e →
        Meets (Back v) (PartAssigned above at op_at ∷ k) l e
    place : {v : Dynamic H} {op_at : Position} {k : List (Frame H)} {l : Local H} {e : EvalAltResult H} →
        sized s.limits (as_measured l.around.cells (focus_of l)) op_at ≡ Err e → Meets (Back v) (Measured op_at ∷ k) l e
    item : {v index : Dynamic H} {above : Option (Dynamic H)} {access : MemberAccess H} {op_at : Position}
        {k : List (Frame H)} {l : Local H} {e : EvalAltResult H} → access.member ≡ Item index → sized s.limits (focus_of l) op_at ≡ Err e →
        Meets (Back v) (MemberOperated access above op_at ∷ k) l e

-- Each step in which a limit is met makes the control the error of that limit. So it is where a charge is refused, by the limit of
-- operations, and at every test that a rule makes; whatever a native answers.
pub record MetLimitsFail {H : Type 0} (s : Setting H) : Type 0 where
  pub operations : (at : Position) (c : Core H) → (refuse at c).control ≡ Fail (error.ErrorTooManyOperations at)
  pub others : (reply : Reply H) (left : Option (Dynamic H)) (c : Control H) (k : List (Frame H)) (l : Local H) (e : EvalAltResult H) →
      Meets s reply left c k l e → FailsWith reply left e (move_at s c k l)
