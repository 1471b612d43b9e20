-- Each move of the language without a charge makes a core smaller.
use Rattle.std.proofs.Common.{arith, refl}
use Rattle.std.specs.Prelude.{◌≡◌, ◌*◌, ◌<◌, ◌≤◌, ℕ, ◌+◌, nat_le, length, map, not, ◌&&◌, Bool, true, false, List, [], ◌∷◌, ◌++◌, Option}
use Rattle.std.specs.Prelude.{Some, None, Result, Ok, Err, is_some, is_none}
use Rattle.std.specs.declared.num.NonZeroUsize.{NonZeroUsize}
use Rattle.rhai_tree.specs.declared.position.Position.{Position}
use Rattle.rhai_tree.specs.declared.token.Token.{Token}
use Rattle.rhai_tree.specs.declared.flags.ASTFlags.{ASTFlags}
use Rattle.rhai_tree.specs.declared.expr.Ident.{Ident}
use Rattle.rhai_tree.specs.declared.expr.Expr.{Expr, out-Expr}
use Rattle.rhai_tree.specs.declared.expr.Stmt.{Stmt}
use Rattle.rhai_tree.specs.declared.expr.FnCallExpr.{FnCallExpr}
use Rattle.rhai_tree.specs.declared.expr.StmtBlock.{StmtBlock}
use Rattle.rhai_tree.specs.declared.expr.MapEntry.{MapEntry}
use Rattle.rhai_tree.specs.declared.expr.OpAssignment.{OpAssignment}
use Rattle.rhai_tree.specs.declared.expr.Expr.TheOpen as layer
use Rattle.rhai_tree.specs.Layers.{ExprLayer, StmtLayer}
use Rattle.rhai_tree.specs.Positions.{position_of}
use Rattle.rhai_tree.specs.Forms.{is_unqualified, is_exported}
use Rattle.rhai_tree.specs.Keys.{key_of}
use Rattle.rhai_values.specs.declared.base.value.Dynamic.{Dynamic}
use Rattle.rhai_values.specs.declared.base.value.Union.{Union}
use Rattle.rhai_values.specs.declared.base.value.Union.TheVariants as value
use Rattle.rhai_errors.specs.declared.error.EvalAltResult.{EvalAltResult}
use Rattle.rhai_errors.specs.declared.error.EvalAltResult.TheVariants as error
use Rattle.rhai_values.specs.Layers.{layer_of}
use Rattle.rhai_errors.specs.Errors.{is_catchable, is_system}
use Rattle.rhai_state.specs.Scope.{index_of}
use Rattle.rhai_spots.specs.PutBack.{put_back}
use Rattle.rhai_machine.specs.machine.Settling.{Falls}
use Rattle.rhai_machine.specs.language.Setting.{Setting, globals_of}
use Rattle.rhai_machine.specs.language.State.{Local}
use Rattle.rhai_machine.specs.language.Values.{unit_value, copied, flat, through, truth}
use Rattle.rhai_machine.specs.language.Frames.{Operation, Control, Frame, Core, core, ended, Eval, Exec, Ask, Assign, AskUpdate, Argument}
use Rattle.rhai_machine.specs.language.Frames.{CallNamed, Question, Fire, QuestionUpdate, FireUpdate, OpenExpr, OpenStmt, Enter, Run, Store}
use Rattle.rhai_machine.specs.language.Frames.{StoreThis}
use Rattle.rhai_machine.specs.language.Frames.{WhileTurn, DoTurn, Back, Changed, Fail, StatementValue, DefineValue, IfCondition, RestOfList}
use Rattle.rhai_machine.specs.language.Frames.{RestoreList, Top, UnaryOperand, LeftOperand, RightOperand, AndPart, OrPart, CoalescePart}
use Rattle.rhai_machine.specs.language.Frames.{AssignValue, WhileCondition, WhileBody, DoCondition, DoBody, BreakValue, ReturnValue}
use Rattle.rhai_machine.specs.language.Frames.{ArrayItem, EntryValue, TextPart, PrintedPart, CallArgument, KeywordArgument, Keyword}
use Rattle.rhai_machine.specs.language.Frames.{OpenChain, ChainArguments, ChainRoot, ReadRoot, Walk, Locate, AssignChain, AssignedChain}
use Rattle.rhai_machine.specs.language.Frames.{RootValue, ChainEnd, StepDown, Temporary, PartMethod, PartAssigned, Measured, MethodLink}
use Rattle.rhai_machine.specs.language.Frames.{MemberLink, MemberGot, MemberOperated, GetterTried, SetterTried, IndexerTried, MemberSet}
use Rattle.rhai_machine.specs.language.Frames.{EnterFunction, AssignThis, AssignThisValue, CallEnd, Choose, ForTurn, ForItem}
use Rattle.rhai_machine.specs.language.Frames.{Share}
use Rattle.rhai_machine.specs.language.Frames.{SwitchValue, SwitchCondition, ForItems, ForBody, ImportPath, RestoreScope, TryBody}
use Rattle.rhai_machine.specs.language.Frames.{CatchBranch, ThrowValue}
use Rattle.rhai_machine.specs.language.Data.{with_item, with_value, with_part, items_core, entries_core, parts_core, part_core, joined_core}
use Rattle.rhai_machine.specs.language.Data.{printed, unprinted_core}
use Rattle.rhai_machine.specs.language.Places.{is_barred, target_of, this_target}
use Rattle.rhai_machine.specs.language.Cases.{candidates, default_of}
use Rattle.rhai_machine.specs.language.Turns.{next_turn, turns_of}
use Rattle.rhai_machine.specs.language.Choices.{met_core}
use Rattle.rhai_machine.specs.language.Walks.{has_no_room, started_core}
use Rattle.rhai_machine.specs.language.Tries.{catch_variable}
use Rattle.rhai_machine.specs.language.Assignment.{assignment_move, variable_of_assignment}
use Rattle.rhai_machine.specs.language.Loops.{is_endless, while_move, while_core, if_goes_on, goes_on, do_control, caught}
use Rattle.rhai_machine.specs.language.Variables.{no_path, path_of, variable_named}
use Rattle.rhai_machine.specs.language.Names.{bound_this, read}
use Rattle.rhai_machine.specs.language.Expressions.{literal_of, argument_move, call_move, and_core, and_next, or_core, or_next}
use Rattle.rhai_machine.specs.language.Expressions.{coalesce_core, coalesce_seen, coalesce_next, expr_move}
use Rattle.rhai_machine.specs.language.Calls.{builtin_of, call_of, sized}
use Rattle.rhai_machine.specs.language.Arguments.{flattens, taken, arguments_core, keyword_of, function_core, function_move, function_of}
use Rattle.rhai_machine.specs.language.Arguments.{operation_in}
use Rattle.rhai_machine.specs.language.Statements.{enter_core, run_core, chosen_core, defined_core, define_core, break_core, return_move}
use Rattle.rhai_machine.specs.language.Exports.{export_at}
use Rattle.rhai_machine.specs.language.Imports.{import_core, importing, module_meant, name_asked}
use Rattle.rhai_machine.specs.language.Statements.{has_option, loop_of, stmt_move, enters, constant_core, written, declared_core}
use Rattle.rhai_machine.specs.language.Bodies.{returned}
use Rattle.rhai_machine.specs.language.Unwinding.{up_core, down_core, script_ended, operands_there, as_measured, changed_up_core}
use Rattle.rhai_machine.specs.language.Language.{move_at, move}
use Rattle.rhai_machine.specs.language.Members.{focus_of, focused_on, lacks_property, lacks_indexer}
use Rattle.rhai_machine.specs.language.Links.{link_of}
use Rattle.rhai_machine.proofs.ChainLinks.{links, within}
use Rattle.rhai_machine.proofs.Sizes.{all_numbers, parts_in, purpose_size, control_size, stack_size, size, enter_size, run_size}
use Rattle.rhai_machine.proofs.Sizes.{result_falls}
use Rattle.rhai_machine.proofs.Sizes.{on_falls, on_below, there_falls}
use Rattle.rhai_machine.proofs.CallFalls.{named_call_falls, question_falls, fire_falls, keyword_falls, arguments_fall}
use Rattle.rhai_machine.proofs.CallFalls.{behind_falls}
use Rattle.rhai_machine.proofs.CallFalls.{operator_falls}
use Rattle.rhai_machine.proofs.FormFalls.{candidates_size, choose_falls, met_falls, for_falls, started_falls, for_turn_falls, item_falls}
use Rattle.rhai_machine.proofs.FormFalls.{tried_falls, share_falls}
use Rattle.rhai_machine.proofs.AssignmentFalls.{store_falls, barred_falls, fire_update_falls}
use Rattle.rhai_machine.proofs.ChainFalls.{asked_falls, open_falls, root_falls, read_root_falls, walk_falls, locate_falls}
use Rattle.rhai_machine.proofs.ChainFalls.{assign_focus_falls, part_assigned_falls, part_changed_falls, member_operated_falls}
use Rattle.rhai_machine.proofs.ChainFalls.{got_none_falls, temporary_falls, getter_falls, setter_falls, indexer_falls}

module _ {H : Type 0} where
  module _ (s : Setting H) where
    enter_falls : (stmts : List Stmt) (restoring : Bool) (k : List (Frame H)) (l : Local H) →
        size (enter_core stmts restoring k l) < control_size {H = H} (Enter stmts restoring) + stack_size k
    enter_falls [] restoring k l = omega arith
    enter_falls (stmt ∷ stmts) true k l = omega arith
    enter_falls (stmt ∷ stmts) false k l = omega arith

    run_falls : (stmts : List Stmt) (restoring : Bool) (last : Dynamic H) (k : List (Frame H)) (l : Local H) →
        size (run_core stmts restoring last k l) < control_size (Run stmts restoring last) + stack_size k
    run_falls [] restoring last k l = omega arith
    run_falls (stmt ∷ stmts) restoring last k l = omega arith

    argument_falls : (literal : Option (Dynamic H)) (e : Expr) (k : List (Frame H)) (l : Local H) →
        Falls size (core (Argument e) k l) (argument_move literal e k l)
    argument_falls (Some v) e k l = tt
    argument_falls None e k l = omega arith

    and_falls : (parts : List Expr) (k : List (Frame H)) (l : Local H) → size (and_core parts k l) < 9 + stack_size k
    and_falls [] k l = omega arith
    and_falls (part ∷ parts) k l = omega arith

    or_falls : (parts : List Expr) (k : List (Frame H)) (l : Local H) → size (or_core parts k l) < 9 + stack_size k
    or_falls [] k l = omega arith
    or_falls (part ∷ parts) k l = omega arith

    coalesce_falls : (last : Dynamic H) (parts : List Expr) (k : List (Frame H)) (l : Local H) →
        size (coalesce_core last parts k l) < 9 + stack_size k
    coalesce_falls last [] k l = omega arith
    coalesce_falls last (part ∷ parts) k l = omega arith

    items_fall : (made : List (Dynamic H)) (items : List Expr) (k : List (Frame H)) (l : Local H) →
        size (items_core made items k l) < 9 + stack_size k
    items_fall made [] k l = omega arith
    items_fall made (item ∷ items) k l = omega arith

    entries_fall : (keys : List (List ℕ)) (made : List (Dynamic H)) (entries : List MapEntry) (k : List (Frame H)) (l : Local H) →
        size (entries_core keys made entries k l) < 9 + stack_size k
    entries_fall keys made [] k l = omega arith
    entries_fall keys made (entry ∷ entries) k l = omega arith

    parts_fall : (text : List ℕ) (parts : List Expr) (k : List (Frame H)) (l : Local H) →
        size (parts_core text parts k l) < 9 + stack_size k
    parts_fall text [] k l = omega arith
    parts_fall text (part ∷ parts) k l = omega arith

    -- a call that was not written as an operator
    function_falls : (keyword : Option Keyword) (operation : Operation) (args : List Expr) (captures : Bool) (k : List (Frame H))
        (l : Local H) →
        size (function_core keyword operation args captures k l) < 40 + stack_size k
    function_falls (Some keyword) operation (arg ∷ args) captures k l = omega arith
    function_falls _ operation args captures k l = omega arith

    function_of_falls : (call : FnCallExpr) (pos : Position) (k : List (Frame H)) (l : Local H) →
        size (function_of call pos k l) < 40 + stack_size k
    function_of_falls call pos k l = function_falls (keyword_of call.op_token call.name (length call.args))
        (operation_in call pos) call.args call.capture_parent_scope k l

    function_move_falls : (unqualified : Bool) (call : FnCallExpr) (pos : Position) (form : ExprLayer) (k : List (Frame H)) (l : Local H) →
        Falls size (core (OpenExpr form) k l) (function_move s unqualified call pos k l)
    function_move_falls true call pos form k l = omega (arith, function_of_falls call pos k l)
    function_move_falls false call pos form k l =
        behind_falls s (path_of call.namespace) (operation_in call pos) call.args (core (OpenExpr form) k l) k l (omega arith)

    call_falls : (fast : Bool) (token : Option Token) (call : FnCallExpr) (args : List Expr) (pos : Position) (form : ExprLayer)
        (k : List (Frame H)) (l : Local H) →
        Falls size (core (OpenExpr form) k l) (call_move s fast token call args pos k l)
    call_falls true (Some token) call (operand ∷ []) pos form k l = omega arith
    call_falls true (Some token) call (left ∷ right ∷ []) pos form k l = omega arith
    call_falls _ _ call args pos form k l = function_move_falls (is_unqualified call.namespace.path) call pos form k l

    expr_falls : (fast : Bool) (form : ExprLayer) (k : List (Frame H)) (l : Local H) →
        Falls size (core (OpenExpr form) k l) (expr_move s fast form k l)
    expr_falls fast (layer.DynamicConstant literal pos) k l = omega arith
    expr_falls fast (layer.BoolConstant b pos) k l = omega arith
    expr_falls fast (layer.IntegerConstant n pos) k l = omega arith
    expr_falls fast (layer.CharConstant letter pos) k l = omega arith
    expr_falls fast (layer.StringConstant text pos) k l = omega arith
    expr_falls fast (layer.Unit pos) k l = omega arith
    expr_falls fast (layer.Variable offset name namespace pos) k l =
        result_falls (read (globals_of s.offer) l.around l.scope (variable_named name namespace pos)) (40 + stack_size k) (stack_size k)
        (omega arith)
    expr_falls fast (layer.ThisPtr pos) k l =
        result_falls (copied (bound_this pos l.this)) (40 + stack_size k) (stack_size k) (omega arith)
    expr_falls fast (layer.Expr::FnCall call pos) k l = call_falls fast call.op_token call call.args pos (layer.Expr::FnCall call pos) k l
    expr_falls fast (layer.Stmt block) k l = omega (arith, enter_size block.statements true k)
    expr_falls fast (layer.InterpolatedString parts pos) k l = grind (arith, parts_fall [] parts k l)
    expr_falls fast (layer.Array items pos) k l = grind (arith, items_fall [] items k l)
    expr_falls fast (layer.Map entries template pos) k l = grind (arith, entries_fall (map key_of entries) [] entries k l)
    expr_falls fast (layer.Index lhs rhs options pos) k l = omega arith
    expr_falls fast (layer.Dot lhs rhs options pos) k l = omega arith
    expr_falls fast (layer.And parts pos) k l = grind (arith, and_falls parts k l)
    expr_falls fast (layer.Or parts pos) k l = grind (arith, or_falls parts k l)
    expr_falls fast (layer.Coalesce parts pos) k l = grind (arith, coalesce_falls unit_value parts k l)
    expr_falls fast _ k l = tt

    define_falls : (shadows full : Bool) (ident : Ident) (value : Expr) (index : Option NonZeroUsize) (options : ASTFlags)
        (restoring : Bool) (pos : Position) (k : List (Frame H)) (l : Local H) →
        size (define_core s shadows full ident value index options restoring pos k l) < 50 + stack_size k
    define_falls true full ident value index options restoring pos k l = omega arith
    define_falls false true ident value index options restoring pos k l = omega arith
    define_falls false false ident value index options restoring pos k l = omega arith

    assignment_falls : (target : ExprLayer) (op : OpAssignment) (rhs : Expr) (form : StmtLayer) (restoring : Bool) (k : List (Frame H))
        (l : Local H) → parts_in form ≡ links target →
        Falls size (core (OpenStmt form restoring) k l) (assignment_move target op rhs k l)
    assignment_falls (layer.Variable offset name namespace pos) op rhs form restoring k l same = omega arith
    assignment_falls (layer.ThisPtr pos) op rhs form restoring k l same =
        on_below (bound_this pos l.this) (λ this. core (Eval rhs) (AssignThisValue op pos (position_of rhs) ∷ k) l) k l
        (20 * parts_in form + 50 + stack_size k) (omega arith) (λ this. omega arith)
    assignment_falls (layer.Index lhs rest options pos) op rhs form restoring k l same = omega (arith, same)
    assignment_falls (layer.Dot lhs rest options pos) op rhs form restoring k l same = omega (arith, same)
    assignment_falls _ op rhs form restoring k l same = tt

    break_falls : (value : Option Expr) (is_break : Bool) (pos : Position) (k : List (Frame H)) (l : Local H) →
        size (break_core value is_break pos k l) < 50 + stack_size k
    break_falls None is_break pos k l = omega arith
    break_falls (Some value) is_break pos k l = omega arith

    return_falls : (throws : Bool) (value : Option Expr) (pos : Position) (form : StmtLayer) (restoring : Bool) (k : List (Frame H))
        (l : Local H) →
        Falls size (core (OpenStmt form restoring) k l) (return_move throws value pos k l)
    return_falls true None pos form restoring k l = omega arith
    return_falls true (Some value) pos form restoring k l = omega arith
    return_falls false None pos form restoring k l = omega arith
    return_falls false (Some value) pos form restoring k l = omega arith

    export_falls : (place : Option ℕ) (ident : Ident) (alias : Option Ident) (k : List (Frame H)) (l : Local H) →
        size (export_at place ident alias k l) < 12 + stack_size k
    export_falls (Some at) ident alias k l = omega arith
    export_falls None ident alias k l = omega arith

    import_falls : (full : Bool) (path : Expr) (alias : Option Ident) (pos : Position) (k : List (Frame H)) (l : Local H) →
        size (import_core full path alias pos k l) < 50 + stack_size k
    import_falls true path alias pos k l = omega arith
    import_falls false path alias pos k l = omega arith

    -- a variable that is exported goes on as an `export` does
    declared_falls : (exported : Bool) (ident : Ident) (k : List (Frame H)) (l : Local H) →
        size (declared_core exported ident k l) < 12 + stack_size k
    declared_falls true ident k l = export_falls (index_of ident.name l.scope) ident None k l
    declared_falls false ident k l = omega arith

    defined_falls : (v : Dynamic H) (ident : Ident) (index : Option NonZeroUsize) (options : ASTFlags) (restoring : Bool)
        (k : List (Frame H)) (l : Local H) → size (defined_core v ident index options restoring k l) < 12 + stack_size k
    defined_falls v ident index options restoring k l = declared_falls (is_exported options) ident k
        (written index v ident options (constant_core (enters options restoring l) ident.name v l))

    stmt_falls : (form : StmtLayer) (restoring : Bool) (k : List (Frame H)) (l : Local H) →
        Falls size (core (OpenStmt form restoring) k l) (stmt_move s form restoring k l)
    stmt_falls (layer.Noop pos) restoring k l = omega arith
    stmt_falls (layer.Expr value) restoring k l = omega arith
    stmt_falls (layer.Stmt::FnCall call pos) restoring k l = omega arith
    stmt_falls (layer.Block block) restoring k l = omega (arith, enter_size block.statements true k)
    stmt_falls (layer.Assignment op lhs rhs) restoring k l =
        assignment_falls (out-Expr lhs) op rhs (layer.Assignment op lhs rhs) restoring k l refl
    stmt_falls (layer.Var ident value index options pos) restoring k l =
        define_falls (not s.offer.allow_shadowing && is_some (index_of ident.name l.scope))
        (is_none index && nat_le s.limits.max_variables (length l.scope)) ident value index options restoring pos k l
    stmt_falls (layer.If test body branch pos) restoring k l = omega arith
    stmt_falls (layer.Switch value results cases ranges default pos) restoring k l = omega arith
    stmt_falls (layer.While test body pos) restoring k l = omega arith
    stmt_falls (layer.Do test body options pos) restoring k l = omega arith
    stmt_falls (layer.For variable counter items body pos) restoring k l =
        omega (arith, for_falls (has_no_room s.limits (loop_of variable counter items body) l) (loop_of variable counter items body) k l)
    stmt_falls (layer.TryCatch body variable branch pos) restoring k l = omega (arith, enter_size body.statements true k)
    stmt_falls (layer.Export ident alias pos) restoring k l =
        omega (arith, export_falls (index_of ident.name l.scope) ident alias k l)
    stmt_falls (layer.Import path alias pos) restoring k l =
        omega (arith, import_falls (nat_le s.limits.max_modules l.around.num_modules_loaded) path alias pos k l)
    stmt_falls (layer.Share variables) restoring k l = omega arith
    stmt_falls (layer.BreakLoop value options pos) restoring k l = break_falls value (has_option 2 options) pos k l
    stmt_falls (layer.Return value options pos) restoring k l =
        return_falls (has_option 2 options) value pos (layer.Return value options pos) restoring k l

    part_falls : (text part : List ℕ) (at : Position) (rest : List Expr) (k : List (Frame H)) (l : Local H) →
        size (part_core s text part at rest k l) < 12 + stack_size k
    part_falls text part at rest k l = on_falls (with_part s.limits text part at) (λ more. parts_core more rest k l) k l
        (λ more. grind (arith, parts_fall more rest k l))

    joined_falls : (u : Union H) (v : Dynamic H) (text : List ℕ) (at : Position) (rest : List Expr) (k : List (Frame H)) (l : Local H) →
        size (joined_core s u v text at rest k l) < 12 + stack_size k
    joined_falls (value.Str part) v text at rest k l = part_falls text part at rest k l
    joined_falls _ v text at rest k l = omega arith

    unprinted_falls : (passes : Bool) (e : EvalAltResult H) (text type : List ℕ) (at : Position) (rest : List Expr) (k : List (Frame H))
        (l : Local H) →
        size (unprinted_core s passes e text type at rest k l) < 12 + stack_size k
    unprinted_falls true e text type at rest k l = omega arith
    unprinted_falls false e text type at rest k l = part_falls text type at rest k l

    chosen_falls : (holds : Bool) (body branch : StmtBlock) (k : List (Frame H)) (l : Local H) →
        size (chosen_core holds body branch k l) < 12 + stack_size k
    chosen_falls true body branch k l = omega (arith, enter_size body.statements true k)
    chosen_falls false body branch k l = omega (arith, enter_size branch.statements true k)

    operated_falls : (operation : Operation) (args : List (Dynamic H)) (k : List (Frame H)) (l : Local H) →
        size (operands_there s operation args k l) < 12 + stack_size k
    operated_falls operation args k l = operator_falls s (builtin_of operation.token args) (call_of operation args) k l

    and_next_falls : (holds : Bool) (parts : List Expr) (k : List (Frame H)) (l : Local H) →
        size (and_next holds parts k l) < 12 + stack_size k
    and_next_falls true parts k l = grind (arith, and_falls parts k l)
    and_next_falls false parts k l = omega arith

    or_next_falls : (holds : Bool) (parts : List Expr) (k : List (Frame H)) (l : Local H) →
        size (or_next holds parts k l) < 12 + stack_size k
    or_next_falls true parts k l = omega arith
    or_next_falls false parts k l = grind (arith, or_falls parts k l)

    coalesce_seen_falls : (u : Union H) (v : Dynamic H) (parts : List Expr) (k : List (Frame H)) (l : Local H) →
        size (coalesce_seen u v parts k l) < 12 + stack_size k
    coalesce_seen_falls value.Unit v parts k l = grind (arith, coalesce_falls v parts k l)
    coalesce_seen_falls _ v parts k l = omega arith

    coalesce_next_falls : (r : Result (Dynamic H) (EvalAltResult H)) (v : Dynamic H) (parts : List Expr) (k : List (Frame H))
        (l : Local H) → size (coalesce_next r v parts k l) < 12 + stack_size k
    coalesce_next_falls (Ok seen) v parts k l = coalesce_seen_falls seen.value v parts k l
    coalesce_next_falls (Err e) v parts k l = omega arith

    while_falls : (holds : Bool) (test : Expr) (body : StmtBlock) (k : List (Frame H)) (l : Local H) →
        size (while_core holds test body k l) < 12 + stack_size k
    while_falls true test body k l = omega (arith, enter_size body.statements true k)
    while_falls false test body k l = omega arith

    goes_on_size : (b : Bool) (turn : Control H) → control_size turn ≤ 11 → control_size (if_goes_on b turn) ≤ 11
    goes_on_size true turn small = small
    goes_on_size false turn small = omega arith

    do_control_size : (r : Result Bool (EvalAltResult H)) (until : Bool) (turn : Control H) → control_size turn ≤ 11 →
        control_size (do_control r until turn) ≤ 11
    do_control_size (Ok holds) until turn small = goes_on_size (goes_on until holds) turn small
    do_control_size (Err e) until turn small = omega arith

    caught_size : (n : ℕ) (turn : Control H) → 11 ≤ n → control_size turn ≤ n → (e : EvalAltResult H) → control_size (caught turn e) ≤ n
    caught_size n turn most small (error.LoopBreak v false at) = small
    caught_size n turn most small (error.LoopBreak v true at) = omega (arith, most)
    caught_size n turn most small _ = omega (arith, most)

    -- a turn of a `while` charges, or comes to a charge
    while_turn_falls : (endless : Bool) (stmts : List Stmt) (test : Expr) (body : StmtBlock) (k : List (Frame H)) (l : Local H) →
        Falls size (core (WhileTurn test body) k l) (while_move endless stmts test body k l)
    while_turn_falls false stmts test body k l = omega arith
    while_turn_falls true [] test body k l = tt
    while_turn_falls true (stmt ∷ stmts) test body k l = omega arith

    up_falls : (frame : Frame H) (v : Dynamic H) (k : List (Frame H)) (l : Local H) →
        size (up_core s frame v k l) < 8 + stack_size (frame ∷ k)
    up_falls (StatementValue at) v k l = result_falls (flat l.around.cells v at) (8 + (4 + stack_size k)) (stack_size k) (omega arith)
    up_falls (DefineValue ident index options restoring value_at) v k l = grind (
      arith,
      on_falls (flat l.around.cells v value_at) (λ x. defined_core x ident index options restoring k l) k l
          (λ x. defined_falls x ident index options restoring k l),
    )
    up_falls (ImportPath alias path_at starts_at) v k l = grind (
      arith,
      on_falls (module_meant s.host_type l.around.cells s.offer.modules v path_at starts_at)
          (λ m. core (Back unit_value) k (importing (name_asked alias) m l)) k l (λ m. omega arith),
    )
    up_falls (IfCondition test_at body branch) v k l = grind (
      arith,
      on_falls (truth s.host_type l.around.cells v test_at) (λ holds. chosen_core holds body branch k l) k l
          (λ holds. chosen_falls holds body branch k l),
    )
    up_falls (RestOfList rest restoring) v k l = omega (arith, run_size rest restoring v)
    up_falls (RestoreList saved) v k l = omega arith
    up_falls (Top map_exit) v k l = omega arith
    up_falls (UnaryOperand operation operand_at) v k l = grind (
      arith,
      on_falls (flat l.around.cells v operand_at) (λ x. operands_there s operation (x ∷ []) k l) k l
          (λ x. operated_falls operation (x ∷ []) k l),
    )
    up_falls (LeftOperand operation left_at right) v k l = grind (
      arith,
      on_falls (flat l.around.cells v left_at)
          (λ x. core (Argument right) (RightOperand operation x (position_of right) ∷ k) l) k l (λ x. omega arith),
    )
    up_falls (RightOperand operation left right_at) v k l = grind (
      arith,
      on_falls (flat l.around.cells v right_at) (λ y. operands_there s operation (left ∷ y ∷ []) k l) k l
          (λ y. operated_falls operation (left ∷ y ∷ []) k l),
    )
    up_falls (CallArgument purpose made argument_at rest) v k l = on_below (taken (flattens purpose) l.around.cells v argument_at)
        (λ x. arguments_core s purpose (made ++ x ∷ []) rest k l) k l (8 + (purpose_size purpose + 8 + stack_size k)) (omega arith)
        (λ x. omega (arith, arguments_fall s purpose (made ++ x ∷ []) rest k l))
    up_falls (KeywordArgument keyword call_at start rest captures) v k l =
        omega (arith, keyword_falls s keyword call_at start rest captures v k l)
    up_falls (AndPart part_at rest) v k l = grind (
      arith,
      on_falls (truth s.host_type l.around.cells v part_at) (λ holds. and_next holds rest k l) k l
          (λ holds. and_next_falls holds rest k l),
    )
    up_falls (OrPart part_at rest) v k l = grind (
      arith,
      on_falls (truth s.host_type l.around.cells v part_at) (λ holds. or_next holds rest k l) k l
          (λ holds. or_next_falls holds rest k l),
    )
    up_falls (CoalescePart part_at rest) v k l = grind (arith, coalesce_next_falls (through l.around.cells v part_at) v rest k l)
    up_falls (ArrayItem made item_at rest) v k l = grind (
      arith,
      on_falls (with_item s.limits made (flat l.around.cells v item_at) item_at) (λ items. items_core items rest k l) k l
          (λ items. grind (arith, items_fall items rest k l)),
    )
    up_falls (EntryValue keys made value_at rest) v k l = grind (
      arith,
      on_falls (with_value s.limits made (flat l.around.cells v value_at) value_at) (λ values. entries_core keys values rest k l) k l
          (λ values. grind (arith, entries_fall keys values rest k l)),
    )
    up_falls (TextPart text part_at rest) v k l = grind (
      arith,
      on_falls (flat l.around.cells v part_at) (λ x. joined_core s x.value x text part_at rest k l) k l
          (λ x. joined_falls x.value x text part_at rest k l),
    )
    up_falls (PrintedPart text type part_at rest) v k l = grind (arith, part_falls text (printed v.value type) part_at rest k l)
    up_falls (AssignValue assignment value_at) v k l = grind
        (arith, on_falls (flat l.around.cells v value_at) (λ x. core (Assign assignment x) k l) k l (λ x. omega arith))
    up_falls (AssignThisValue op at value_at) v k l = grind
        (arith, on_falls (flat l.around.cells v value_at) (λ x. core (AssignThis op at x) k l) k l (λ x. omega arith))
    up_falls (CallEnd exit) v k l = omega arith
    up_falls (WhileCondition test body) v k l = grind (
      arith,
      on_falls (truth s.host_type l.around.cells v (position_of test)) (λ holds. while_core holds test body k l) k l
          (λ holds. while_falls holds test body k l),
    )
    up_falls (WhileBody test body) v k l = omega arith
    up_falls (DoCondition test body options) v k l =
        omega (
          arith,
          do_control_size (truth s.host_type l.around.cells v (position_of test)) (has_option 1 options)
              (DoTurn test body options) (omega arith),
        )
    up_falls (DoBody test body options) v k l = omega arith
    up_falls (SwitchValue value_at choice) v k l = on_below (flat l.around.cells v value_at)
        (λ x. core (Choose (candidates choice x) (default_of choice)) k l) k l (8 +
        (all_numbers choice.cases choice.ranges + 4 + stack_size k))
        (omega arith) (λ x. omega (arith, candidates_size choice x))
    up_falls (SwitchCondition candidate rest default) v k l = on_below
        (truth s.host_type l.around.cells v (position_of candidate.condition)) (λ holds. met_core holds candidate rest default k l) k l
        (8 + (length rest + 4 + stack_size k)) (omega arith) (λ holds. omega (arith, met_falls holds candidate rest default k l))
    up_falls (ForItems loop) v k l = on_below (flat l.around.cells v (position_of loop.items))
        (λ x. started_core (turns_of (layer_of x)) loop k l) k l (8 + (8 + stack_size k)) (omega arith)
        (λ x. omega (arith, started_falls (turns_of (layer_of x)) loop k l))
    up_falls (ForBody loop rest turn base) v k l = omega arith
    up_falls (RestoreScope n) v k l = omega arith
    up_falls (TryBody variable branch) v k l = omega arith
    up_falls (CatchBranch caught) v k l = omega arith
    up_falls (ThrowValue value_at at) v k l = grind
        (arith, on_falls (flat l.around.cells v value_at) (λ x. core (Fail (error.ErrorRuntime x at)) k l) k l (λ x. omega arith))
    up_falls (BreakValue is_break at) v k l = omega arith
    up_falls (ReturnValue value_at at) v k l = grind
        (arith, on_falls (flat l.around.cells v value_at) (λ x. core (Fail (error.Return x at)) k l) k l (λ x. omega arith))
    up_falls (AssignChain root chain op value_at) v k l = on_below (flat l.around.cells v value_at) _ k l
        (8 + (20 * links chain + 30 + stack_size k)) (omega arith) (λ x. omega arith)
    up_falls AssignedChain v k l = omega arith
    up_falls (RootValue chain) v k l = on_below (flat l.around.cells v (position_of chain.root)) _ k l
        (8 + (20 * links chain.rest + 20 + stack_size k)) (omega arith) (λ x. omega arith)
    up_falls (ChainEnd lender outer) v k l = omega arith
    up_falls (StepDown above step) v k l = omega arith
    up_falls (Temporary above back) v k l = omega arith
    up_falls (PartMethod above spot at) v k l = omega arith
    up_falls (PartAssigned above spot at) v k l =
        omega (arith, part_assigned_falls s (put_back above spot (focus_of l)) above spot at k l)
    up_falls (Measured at) v k l = on_below (sized s.limits (as_measured l.around.cells (focus_of l)) at) _ k l (8 + (4 + stack_size k))
        (omega arith) (λ x. omega arith)
    up_falls (MethodLink chain) v k l = omega arith
    up_falls (MemberLink access chain) v k l = omega arith
    up_falls (MemberGot access root new) v k l = omega (
      arith,
      assign_focus_falls s root new (MemberOperated access l.focus new.op.position ∷ k) (focused_on (Some v) l),
    )
    up_falls (MemberOperated access above at) v k l =
        omega (arith, member_operated_falls s access.member access (focus_of l) at k (focused_on above l))
    up_falls (GetterTried access name) v k l = omega arith
    up_falls (SetterTried access name value ignores) v k l = omega arith
    up_falls (IndexerTried otherwise) v k l = omega arith
    up_falls (MemberSet value) v k l = omega arith

    down_falls : (frame : Frame H) (e : EvalAltResult H) (k : List (Frame H)) (l : Local H) →
        size (down_core s frame e k l) < 11 + stack_size (frame ∷ k)
    down_falls (StatementValue at) e k l = omega arith
    down_falls (DefineValue ident index options restoring value_at) e k l = omega arith
    down_falls (ImportPath alias path_at starts_at) e k l = omega arith
    down_falls (IfCondition test_at body branch) e k l = omega arith
    down_falls (RestOfList rest restoring) e k l = omega arith
    down_falls (RestoreList saved) e k l = omega arith
    down_falls (Top map_exit) e k l = result_falls (script_ended map_exit e) (11 + (4 + stack_size k)) (stack_size k) (omega arith)
    down_falls (UnaryOperand operation operand_at) e k l = omega arith
    down_falls (LeftOperand operation left_at right) e k l = omega arith
    down_falls (RightOperand operation left right_at) e k l = omega arith
    down_falls (CallArgument purpose made argument_at rest) e k l = omega arith
    down_falls (KeywordArgument keyword call_at start rest captures) e k l = omega arith
    down_falls (AndPart part_at rest) e k l = omega arith
    down_falls (OrPart part_at rest) e k l = omega arith
    down_falls (CoalescePart part_at rest) e k l = omega arith
    down_falls (ArrayItem made item_at rest) e k l = omega arith
    down_falls (EntryValue keys made value_at rest) e k l = omega arith
    down_falls (TextPart text part_at rest) e k l = omega arith
    down_falls (PrintedPart text type part_at rest) e k l = grind (arith, unprinted_falls (is_system e) e text type part_at rest k l)
    down_falls (AssignValue assignment value_at) e k l = omega arith
    down_falls (AssignThisValue op at value_at) e k l = omega arith
    down_falls (CallEnd exit) e k l = result_falls (returned exit e) (11 + (1 + stack_size k)) (stack_size k) (omega arith)
    down_falls (WhileCondition test body) e k l = omega arith
    down_falls (WhileBody test body) e k l = omega (arith, caught_size 11 (WhileTurn test body) (omega arith) (omega arith) e)
    down_falls (DoCondition test body options) e k l = omega arith
    down_falls (DoBody test body options) e k l = omega (arith, caught_size 11 (DoTurn test body options) (omega arith) (omega arith) e)
    down_falls (SwitchValue value_at choice) e k l = omega arith
    down_falls (SwitchCondition candidate rest default) e k l = omega arith
    down_falls (ForItems loop) e k l = omega arith
    down_falls (ForBody loop rest turn base) e k l =
        omega (arith, caught_size 13 (ForTurn loop rest (turn + 1) base) (omega arith) (omega arith) e)
    down_falls (RestoreScope n) e k l = omega arith
    down_falls (TryBody variable branch) e k l =
        omega (arith, tried_falls s (is_catchable e) (catch_variable (out-Expr variable)) e branch k l)
    down_falls (CatchBranch caught) e k l = omega arith
    down_falls (ThrowValue value_at at) e k l = omega arith
    down_falls (BreakValue is_break at) e k l = omega arith
    down_falls (ReturnValue value_at at) e k l = omega arith
    down_falls (MemberGot access root new) e k l = omega (arith, got_none_falls s (lacks_indexer e) access.member e access new k l)
    down_falls (GetterTried access name) e k l = omega (arith, getter_falls (lacks_property e) e access name k l)
    down_falls (SetterTried access name value ignores) e k l =
        omega (arith, setter_falls (lacks_property e) e access name value ignores k l)
    down_falls (IndexerTried otherwise) e k l = omega (arith, indexer_falls (lacks_indexer e) e otherwise k l)
    down_falls (AssignChain root chain op value_at) e k l = omega arith
    down_falls AssignedChain e k l = omega arith
    down_falls (RootValue chain) e k l = omega arith
    down_falls (ChainEnd lender outer) e k l = omega arith
    down_falls (StepDown above step) e k l = omega arith
    down_falls (Temporary above back) e k l = omega arith
    down_falls (PartMethod above spot at) e k l = omega arith
    down_falls (PartAssigned above spot at) e k l = omega arith
    down_falls (Measured at) e k l = omega arith
    down_falls (MethodLink chain) e k l = omega arith
    down_falls (MemberLink access chain) e k l = omega arith
    down_falls (MemberOperated access above at) e k l = omega arith
    down_falls (MemberSet value) e k l = omega arith

    -- a change goes on below a frame, or is forgotten
    changed_up_falls : (frame : Frame H) (v : Dynamic H) (k : List (Frame H)) (l : Local H) →
        size (changed_up_core s frame v k l) < 9 + stack_size (frame ∷ k)
    changed_up_falls (StepDown above step) v k l = omega arith
    changed_up_falls (Temporary above back) v k l =
        omega (arith, temporary_falls s back (focus_of l) v k (focused_on above l))
    changed_up_falls (PartMethod above spot at) v k l =
        omega (arith, part_changed_falls s (put_back above spot (focus_of l)) above spot at v k l)
    changed_up_falls (GetterTried access name) v k l = omega arith
    changed_up_falls (SetterTried access name value ignores) v k l = omega arith
    changed_up_falls (IndexerTried otherwise) v k l = omega arith
    changed_up_falls frame v k l = omega arith

    control_falls : (c : Control H) (k : List (Frame H)) (l : Local H) → Falls size (core c k l) (move_at s c k l)
    control_falls (Eval e) k l = tt
    control_falls (Exec stmt restoring) k l = tt
    control_falls (Ask call) k l = tt
    control_falls (Assign assignment v) k l = tt
    control_falls (AskUpdate u) k l = tt
    control_falls (Argument e) k l = argument_falls (literal_of (out-Expr e)) e k l
    control_falls (EnterFunction e) k l = tt
    control_falls (AssignThis op at v) k l = tt
    control_falls (CallNamed operation curried args captures alone) k l = named_call_falls s operation curried args captures alone k l
    control_falls (Question call) k l = question_falls s call call.args k l
    control_falls (Fire call) k l = fire_falls s call call.args k l
    control_falls (QuestionUpdate u) k l = λ pure. barred_falls s (is_barred pure u.target) u k l
    control_falls (FireUpdate u) k l = fire_update_falls s u.target.value u k l
    control_falls (OpenExpr form) k l = expr_falls s.offer.fast_operators form k l
    control_falls (OpenStmt form restoring) k l = stmt_falls form restoring k l
    control_falls (Enter stmts restoring) k l = enter_falls stmts restoring k l
    control_falls (Run stmts restoring last) k l = run_falls stmts restoring last k l
    control_falls (Store assignment v) k l =
        store_falls s (target_of (globals_of s.offer) l.around l.scope (variable_of_assignment assignment)) assignment v k l
    control_falls (StoreThis op at v) k l =
        store_falls s (this_target l.around.cells at l.this) (record { path = no_path; name = []; at = at; op = op }) v k l
    control_falls (WhileTurn test body) k l = while_turn_falls (is_endless (out-Expr test)) body.statements test body k l
    control_falls (DoTurn test body options) k l = omega (arith, enter_size body.statements true k)
    control_falls (Choose candidates default) k l = omega (arith, choose_falls candidates default k l)
    control_falls (ForTurn loop left turn base) k l = for_turn_falls (next_turn left) loop.body.statements loop left turn base k l refl
    control_falls (ForItem loop item rest turn base) k l = omega (arith, item_falls loop item rest turn base k l)
    control_falls (Share variables) k l = omega (arith, share_falls variables k l)
    control_falls (OpenChain chain) k l = open_falls (link_of chain.rest) chain k l
    control_falls (ChainArguments chain rest made) k l = asked_falls s (link_of rest) chain rest made k l
    control_falls (ChainRoot chain) k l = root_falls (out-Expr chain.root) chain k l
    control_falls (ReadRoot variable chain) k l = omega (arith, read_root_falls (globals_of s.offer) variable chain k l)
    control_falls (Walk chain) k l = walk_falls s (link_of chain.rest) chain k l (within chain.rest)
    control_falls (Locate link chain) k l = omega (arith, locate_falls s link chain k l)
    control_falls (Changed v) [] l = omega arith
    control_falls (Changed v) (frame ∷ k) l = changed_up_falls frame v k l
    control_falls (Back v) [] l = tt
    control_falls (Back v) (frame ∷ k) l = up_falls frame v k l
    control_falls (Fail e) [] l = tt
    control_falls (Fail e) (frame ∷ k) l = down_falls frame e k l

    pub falls : (c : Core H) → Falls size c (move s c)
    falls c = control_falls c.control c.stack c.local
