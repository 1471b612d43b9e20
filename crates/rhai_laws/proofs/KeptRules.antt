-- What each rule keeps.
use Rattle.std.proofs.Common.{refl, ap, arith}
use Rattle.std.proofs.lemmas.Bool.Decides.{nat_tests}
use Rattle.std.proofs.lemmas.List.{length-map, map-append}
use Rattle.std.specs.Prelude.{◌≡◌, ◌≤◌, ◌+◌, ℕ, nat_le, nat_lt, length, not, ◌&&◌, Bool, true, false, List, [], ◌∷◌, ◌++◌, map}
use Rattle.std.specs.Prelude.{Option, Some, None, Result, Ok, Err, is_some}
use Rattle.std.specs.declared.num.NonZeroUsize.{NonZeroUsize}
use Rattle.rhai_tree.specs.declared.position.Position.{Position}
use Rattle.rhai_tree.specs.declared.flags.ASTFlags.{ASTFlags}
use Rattle.rhai_tree.specs.declared.expr.Ident.{Ident}
use Rattle.rhai_tree.specs.declared.expr.Expr.{Expr, out-Expr}
use Rattle.rhai_tree.specs.declared.expr.Stmt.{Stmt, out-Stmt}
use Rattle.rhai_tree.specs.declared.expr.StmtBlock.{StmtBlock}
use Rattle.rhai_tree.specs.declared.expr.MapEntry.{MapEntry}
use Rattle.rhai_tree.specs.declared.expr.Expr.TheOpen as layer
use Rattle.rhai_tree.specs.Layers.{ExprLayer, StmtLayer}
use Rattle.rhai_tree.specs.Positions.{position_of}
use Rattle.rhai_values.specs.declared.base.value.AccessMode.{AccessMode}
use Rattle.rhai_values.specs.Modes.{with_mode}
use Rattle.rhai_tree.specs.Forms.{is_exported}
use Rattle.rhai_tree.specs.Keys.{key_of}
use Rattle.rhai_values.specs.declared.base.value.Dynamic.{Dynamic}
use Rattle.rhai_values.specs.declared.base.value.Union.{Union}
use Rattle.rhai_values.specs.declared.base.value.Union.TheVariants as value
use Rattle.rhai_errors.specs.declared.error.EvalAltResult.{EvalAltResult}
use Rattle.rhai_errors.specs.declared.error.EvalAltResult.TheVariants as error
use Rattle.rhai_errors.specs.Errors.{is_catchable, is_system}
use Rattle.rhai_state.specs.Scope.{name_of, index_of, new_entry}
use Rattle.rhai_spots.specs.PutBack.{put_back}
use Rattle.rhai_machine.specs.language.Setting.{Setting, globals_of}
use Rattle.rhai_machine.specs.language.State.{Local}
use Rattle.rhai_machine.specs.language.Values.{copied, flat, through as seen_through, truth, unit_value}
use Rattle.rhai_machine.specs.language.Variables.{variable_named}
use Rattle.rhai_machine.specs.language.Names.{bound_this, read}
use Rattle.rhai_machine.specs.language.Activations.{Entered}
use Rattle.rhai_machine.specs.language.Frames.{on_value}
use Rattle.rhai_machine.specs.language.Frames.{Operation, Control, Frame, Core, core, Eval, Exec, Ask, Assign, AskUpdate, Argument}
use Rattle.rhai_machine.specs.language.Frames.{Question, Fire, QuestionUpdate, FireUpdate, OpenExpr, OpenStmt, Enter, Run, Store, StoreThis}
use Rattle.rhai_machine.specs.language.Frames.{WhileTurn}
use Rattle.rhai_machine.specs.language.Frames.{DoTurn, Back, Changed, Fail, StatementValue, DefineValue, IfCondition, RestOfList}
use Rattle.rhai_machine.specs.language.Frames.{RestoreList, Top, UnaryOperand, LeftOperand, RightOperand, AndPart, OrPart, CoalescePart}
use Rattle.rhai_machine.specs.language.Frames.{AssignValue}
use Rattle.rhai_machine.specs.language.Frames.{WhileCondition, WhileBody, DoCondition, DoBody, BreakValue, ReturnValue}
use Rattle.rhai_machine.specs.language.Frames.{ArrayItem, EntryValue, TextPart, PrintedPart, CallNamed, CallArgument, KeywordArgument}
use Rattle.rhai_machine.specs.language.Frames.{EnterFunction, AssignThis, AssignThisValue, CallEnd, Choose, ForTurn, ForItem}
use Rattle.rhai_machine.specs.language.Frames.{Share}
use Rattle.rhai_machine.specs.language.Frames.{SwitchValue, SwitchCondition, ForItems, ForBody, ImportPath, RestoreScope, TryBody}
use Rattle.rhai_machine.specs.language.Frames.{ThrowValue}
use Rattle.rhai_machine.specs.language.Bodies.{statements_of, variables_before, body_core, unless_deep, called_back, returned}
use Rattle.rhai_machine.specs.language.Data.{with_item, with_value, with_part, items_core, entries_core, parts_core, part_core}
use Rattle.rhai_machine.specs.language.Data.{joined_core, printed, unprinted_core}
use Rattle.rhai_machine.specs.language.Places.{InEntry, is_barred, target_of}
use Rattle.rhai_machine.specs.language.Assignment.{variable_of_assignment}
use Rattle.rhai_machine.specs.language.Loops.{is_endless, goes_on, while_move, while_core, if_goes_on, do_control, caught}
use Rattle.rhai_machine.specs.language.Expressions.{literal_of, argument_move, expr_move, and_core, and_next, or_core}
use Rattle.rhai_machine.specs.language.Expressions.{or_next, coalesce_core, coalesce_seen, coalesce_next}
use Rattle.rhai_machine.specs.language.Calls.{builtin_of, call_of, sized}
use Rattle.rhai_machine.specs.language.Arguments.{flattens, taken}
use Rattle.rhai_machine.specs.language.Statements.{has_option, mode_of, enter_core, run_core, chosen_core, defined_core, define_core}
use Rattle.rhai_machine.specs.language.Statements.{overwritten, written, declared_core, constant_core, enters}
use Rattle.rhai_machine.specs.language.Statements.{loop_of, stmt_move, break_core, return_move}
use Rattle.rhai_machine.specs.language.Imports.{module_meant}
use Rattle.rhai_machine.specs.language.Turns.{next_turn}
use Rattle.rhai_machine.specs.language.Walks.{has_no_room}
use Rattle.rhai_machine.specs.language.Tries.{catch_variable}
use Rattle.rhai_machine.specs.language.Links.{link_of}
use Rattle.rhai_machine.specs.language.Frames.{AssignChain, AssignedChain, OpenChain, ChainArguments, ChainRoot, ReadRoot, Walk, Locate}
use Rattle.rhai_machine.specs.language.Frames.{RootValue, ChainEnd, StepDown, Temporary, PartMethod, PartAssigned, Measured, MethodLink}
use Rattle.rhai_machine.specs.language.Frames.{MemberLink, MemberGot, MemberOperated, GetterTried, SetterTried, IndexerTried, MemberSet}
use Rattle.rhai_machine.specs.language.Members.{focus_of, focused_on, lacks_property, lacks_indexer}
use Rattle.rhai_machine.specs.language.Unwinding.{up_core, down_core, changed_up_core, script_ended, operands_there, as_measured}
use Rattle.rhai_machine.specs.language.Language.{move_at}
use Rattle.rhai_laws.specs.Kept.{declares, is_import, Sound, names_of, adds_names}
use Rattle.rhai_laws.specs.Steady.{Moves}
use Rattle.rhai_laws.proofs.Keeping.{Asked, Grows, Free, Imports, MeetsAsked, begins_self, begins_through, unwound, Keeps, quiet, through}
use Rattle.rhai_laws.proofs.Keeping.{after}
use Rattle.rhai_laws.proofs.Keeping.{calm}
use Rattle.rhai_laws.proofs.Keeping.{any_by, calm_meets}
use Rattle.rhai_laws.proofs.Keeping.{ended_keeps, step_left, call_left, constant_outline, function_entered, started_by, stopped_by}
use Rattle.rhai_laws.proofs.Keeping.{entered_around, entered_names, left_names, scope_left, put_keeps}
use Rattle.rhai_laws.proofs.KeptAssignments.{assignment_keeps, store_keeps, store_this_keeps, barred_keeps}
use Rattle.rhai_laws.proofs.KeptAssignments.{fire_update_keeps}
use Rattle.rhai_laws.proofs.KeptCalls.{on_keeps, call_keeps, fire_keeps, question_keeps, operator_keeps, arguments_keep, named_keeps}
use Rattle.rhai_laws.proofs.KeptCalls.{keyword_keeps}
use Rattle.rhai_laws.proofs.KeptForms.{choose_keeps, met_keeps, walked_keeps, for_keeps, for_turn_keeps, item_keeps, tried_keeps}
use Rattle.rhai_laws.proofs.KeptForms.{export_keeps, share_keeps}
use Rattle.rhai_laws.proofs.KeptForms.{imported_keeps, import_keeps, not_imported, room}
use Rattle.rhai_laws.proofs.KeptChains.{open_keeps, asked_keeps, root_keeps, read_root_keeps, walk_keeps, locate_keeps, chain_left}
use Rattle.rhai_laws.proofs.KeptChains.{assign_focus_keeps, operated_on_keeps, part_assigned_keeps, part_changed_keeps, temporary_keeps}
use Rattle.rhai_laws.proofs.KeptChains.{got_none_keeps, getter_missing_keeps, setter_missing_keeps, indexer_missing_keeps}

module _ {H : Type 0} (a : Asked) where
  -- lists
  enter_keeps : (stmts : List Stmt) (restoring : Bool) (k : List (Frame H)) (l : Local H) →
      Keeps a (core (Enter stmts restoring) k l) (enter_core stmts restoring k l)
  enter_keeps [] true k l = quiet a tt refl (λ t. t)
  enter_keeps [] false k l = quiet a tt refl (calm_meets a k l)
  enter_keeps (stmt ∷ stmts) true k l = quiet a tt (ap (unwound k) (entered_around l)) (entered_names a k l)
  enter_keeps (stmt ∷ stmts) false k l = quiet a tt refl (λ t. t)

  run_keeps : (stmts : List Stmt) (restoring : Bool) (last : Dynamic H) (k : List (Frame H)) (l : Local H) →
      Keeps a (core (Run stmts restoring last) k l) (run_core stmts restoring last k l)
  run_keeps [] restoring last k l = quiet a tt refl (calm_meets a k l)
  run_keeps (stmt ∷ stmts) restoring last k l =
      quiet a tt refl (λ t. (
        t.0,
        started_by a (declares (out-Stmt stmt)) (RestOfList stmts restoring ∷ k) (names_of l) t.1
            (λ m b q n c r. t.1 n (begins_through (names_of l) m n b c) r),
        any_by a (is_import (out-Stmt stmt)) (RestOfList stmts restoring ∷ k) (length l.around.imports)
            (λ m le n more. t.2 n (omega (arith, le, more))),
      ))

  -- expressions
  argument_keeps : (literal : Option (Dynamic H)) (e : Expr) (k : List (Frame H)) (l : Local H) →
      Moves (Keeps a) (core (Argument e) k l) (argument_move literal e k l)
  argument_keeps (Some v) e k l = quiet a tt refl (λ t. t)
  argument_keeps None e k l = quiet a tt refl (λ t. t)

  and_keeps : (parts : List Expr) (k : List (Frame H)) (l : Local H) → Keeps a (calm k l) (and_core parts k l)
  and_keeps [] k l = quiet a tt refl (λ t. t)
  and_keeps (part ∷ parts) k l = quiet a tt refl (λ t. t)

  and_next_keeps : (holds : Bool) (parts : List Expr) (k : List (Frame H)) (l : Local H) → Keeps a (calm k l) (and_next holds parts k l)
  and_next_keeps true parts k l = and_keeps parts k l
  and_next_keeps false parts k l = quiet a tt refl (λ t. t)

  or_keeps : (parts : List Expr) (k : List (Frame H)) (l : Local H) → Keeps a (calm k l) (or_core parts k l)
  or_keeps [] k l = quiet a tt refl (λ t. t)
  or_keeps (part ∷ parts) k l = quiet a tt refl (λ t. t)

  or_next_keeps : (holds : Bool) (parts : List Expr) (k : List (Frame H)) (l : Local H) → Keeps a (calm k l) (or_next holds parts k l)
  or_next_keeps true parts k l = quiet a tt refl (λ t. t)
  or_next_keeps false parts k l = or_keeps parts k l

  coalesce_keeps : (last : Dynamic H) (parts : List Expr) (k : List (Frame H)) (l : Local H) →
      Keeps a (calm k l) (coalesce_core last parts k l)
  coalesce_keeps last [] k l = quiet a tt refl (λ t. t)
  coalesce_keeps last (part ∷ parts) k l = quiet a tt refl (λ t. t)

  coalesce_seen_keeps : (u : Union H) (v : Dynamic H) (parts : List Expr) (k : List (Frame H)) (l : Local H) →
      Keeps a (calm k l) (coalesce_seen u v parts k l)
  coalesce_seen_keeps value.Unit v parts k l = coalesce_keeps v parts k l
  coalesce_seen_keeps _ v parts k l = quiet a tt refl (λ t. t)

  coalesce_next_keeps : (r : Result (Dynamic H) (EvalAltResult H)) (v : Dynamic H) (parts : List Expr) (k : List (Frame H)) (l : Local H) →
      Keeps a (calm k l) (coalesce_next r v parts k l)
  coalesce_next_keeps (Ok seen) v parts k l = coalesce_seen_keeps seen.value v parts k l
  coalesce_next_keeps (Err e) v parts k l = quiet a tt refl (λ t. t)

  items_keep : (made : List (Dynamic H)) (items : List Expr) (k : List (Frame H)) (l : Local H) →
      Keeps a (calm k l) (items_core made items k l)
  items_keep made [] k l = quiet a tt refl (λ t. t)
  items_keep made (item ∷ items) k l = quiet a tt refl (λ t. t)

  entries_keep : (keys : List (List ℕ)) (made : List (Dynamic H)) (entries : List MapEntry) (k : List (Frame H)) (l : Local H) →
      Keeps a (calm k l) (entries_core keys made entries k l)
  entries_keep keys made [] k l = quiet a tt refl (λ t. t)
  entries_keep keys made (entry ∷ entries) k l = quiet a tt refl (λ t. t)

  parts_keep : (text : List ℕ) (parts : List Expr) (k : List (Frame H)) (l : Local H) → Keeps a (calm k l) (parts_core text parts k l)
  parts_keep text [] k l = quiet a tt refl (λ t. t)
  parts_keep text (part ∷ parts) k l = quiet a tt refl (λ t. t)

  expr_keeps : (s : Setting H) (fast : Bool) (form : ExprLayer) (k : List (Frame H)) (l : Local H) →
      Moves (Keeps a) (core (OpenExpr form) k l) (expr_move s fast form k l)
  expr_keeps s fast (layer.DynamicConstant literal pos) k l = quiet a tt refl (λ t. t)
  expr_keeps s fast (layer.BoolConstant b pos) k l = quiet a tt refl (λ t. t)
  expr_keeps s fast (layer.IntegerConstant n pos) k l = quiet a tt refl (λ t. t)
  expr_keeps s fast (layer.CharConstant letter pos) k l = quiet a tt refl (λ t. t)
  expr_keeps s fast (layer.StringConstant text pos) k l = quiet a tt refl (λ t. t)
  expr_keeps s fast (layer.Unit pos) k l = quiet a tt refl (λ t. t)
  expr_keeps s fast (layer.Variable offset name namespace pos) k l =
      after a (calm k l) refl (λ t. t)
      (ended_keeps a (read (globals_of s.offer) l.around l.scope (variable_named name namespace pos)) k l)
  expr_keeps s fast (layer.ThisPtr pos) k l = after a (calm k l) refl (λ t. t) (ended_keeps a (copied (bound_this pos l.this)) k l)
  expr_keeps s fast (layer.Expr::FnCall call pos) k l =
      call_keeps a s fast call.op_token call call.args pos (layer.Expr::FnCall call pos) k l
  expr_keeps s fast (layer.Stmt block) k l = quiet a tt refl (λ t. t)
  expr_keeps s fast (layer.InterpolatedString parts pos) k l = after a (calm k l) refl (λ t. t) (parts_keep [] parts k l)
  expr_keeps s fast (layer.Array items pos) k l = after a (calm k l) refl (λ t. t) (items_keep [] items k l)
  expr_keeps s fast (layer.Map entries template pos) k l =
      after a (calm k l) refl (λ t. t) (entries_keep (map key_of entries) [] entries k l)
  expr_keeps s fast (layer.And parts pos) k l = after a (calm k l) refl (λ t. t) (and_keeps parts k l)
  expr_keeps s fast (layer.Or parts pos) k l = after a (calm k l) refl (λ t. t) (or_keeps parts k l)
  expr_keeps s fast (layer.Coalesce parts pos) k l = after a (calm k l) refl (λ t. t) (coalesce_keeps unit_value parts k l)
  expr_keeps s fast (layer.Index lhs rhs options pos) k l = quiet a tt refl (λ t. t)
  expr_keeps s fast (layer.Dot lhs rhs options pos) k l = quiet a tt refl (λ t. t)
  expr_keeps s fast _ k l = tt

  -- loops, and the ways out of them
  while_keeps : (endless : Bool) (stmts : List Stmt) (test : Expr) (body : StmtBlock) (k : List (Frame H)) (l : Local H) →
      Moves (Keeps a) (core (WhileTurn test body) k l) (while_move endless stmts test body k l)
  while_keeps false stmts test body k l = quiet a tt refl (λ t. t)
  while_keeps true [] test body k l = quiet a tt refl (λ t. t)
  while_keeps true (stmt ∷ stmts) test body k l = quiet a tt refl (λ t. t)

  while_core_keeps : (holds : Bool) (test : Expr) (body : StmtBlock) (k : List (Frame H)) (l : Local H) →
      Keeps a (calm k l) (while_core holds test body k l)
  while_core_keeps true test body k l = quiet a tt refl (λ t. t)
  while_core_keeps false test body k l = quiet a tt refl (λ t. t)

  goes_on_keeps : (b : Bool) (turn : Control H) (k : List (Frame H)) (l : Local H) → Keeps a (calm k l) (core turn k l) →
      Keeps a (calm k l) (core (if_goes_on b turn) k l)
  goes_on_keeps true turn k l h = h
  goes_on_keeps false turn k l h = quiet a tt refl (λ t. t)

  do_keeps : (r : Result Bool (EvalAltResult H)) (until : Bool) (turn : Control H) (k : List (Frame H)) (l : Local H) →
      Keeps a (calm k l) (core turn k l) →
      Keeps a (calm k l) (core (do_control r until turn) k l)
  do_keeps (Ok holds) until turn k l h = goes_on_keeps (goes_on until holds) turn k l h
  do_keeps (Err e) until turn k l h = quiet a tt refl (λ t. t)

  caught_keeps : (turn : Control H) (e : EvalAltResult H) (k : List (Frame H)) (l : Local H) → Keeps a (calm k l) (core turn k l) →
      Keeps a (calm k l) (core (caught turn e) k l)
  caught_keeps turn (error.LoopBreak v false pos) k l h = h
  caught_keeps turn (error.LoopBreak v true pos) k l h = quiet a tt refl (λ t. t)
  caught_keeps turn _ k l h = quiet a tt refl (λ t. t)

  break_keeps : (value : Option Expr) (is_break : Bool) (pos : Position) (k : List (Frame H)) (l : Local H) →
      Keeps a (calm k l) (break_core value is_break pos k l)
  break_keeps None is_break pos k l = quiet a tt refl (λ t. t)
  break_keeps (Some value) is_break pos k l = quiet a tt refl (λ t. t)

  return_keeps : (throws : Bool) (value : Option Expr) (pos : Position) (c : Core H) (k : List (Frame H)) (l : Local H) →
      Keeps a c (calm k l) →
      Moves (Keeps a) c (return_move throws value pos k l)
  return_keeps true None pos c k l h = through a h (quiet a tt refl (λ t. t))
  return_keeps true (Some value) pos c k l h = through a h (quiet a tt refl (λ t. t))
  return_keeps false None pos c k l h = through a h (quiet a tt refl (λ t. t))
  return_keeps false (Some value) pos c k l h = through a h (quiet a tt refl (λ t. t))

  -- statements
  chosen_keeps : (holds : Bool) (body branch : StmtBlock) (k : List (Frame H)) (l : Local H) →
      Keeps a (calm k l) (chosen_core holds body branch k l)
  chosen_keeps true body branch k l = quiet a tt refl (λ t. t)
  chosen_keeps false body branch k l = quiet a tt refl (λ t. t)

  -- a new variable adds its name
  added_names : (ident : Ident) (mode : AccessMode) (w : Dynamic H) (k : List (Frame H)) (l : Local H) →
      a.along (names_of l) × (a.along (names_of l ++ ident.name ∷ []) × Free a k (names_of l))
      × Imports a k (length l.around.imports) →
      MeetsAsked a (calm k (record l { scope = l.scope ++ new_entry ident.name mode w ∷ [] }))
  added_names ident mode w k l t =
      rw (map-append name_of l.scope (new_entry ident.name mode w ∷ []))
      (t.1.0, t.1.1 (names_of l ++ ident.name ∷ []) (ident.name ∷ [], refl) t.1.0, t.2)

  -- a constant is entered beside the variables
  constant_keeps : (enters : Bool) (name : List ℕ) (v w : Dynamic H) (k : List (Frame H)) (l : Local H) →
      Keeps a (core (Back v) k l) (core (Back v) k (constant_core enters name w l))
  constant_keeps true name v w k l = quiet a tt (ap (unwound k) (constant_outline name w l)) (λ t. t)
  constant_keeps false name v w k l = quiet a tt refl (λ t. t)

  -- a value that is overwritten changes no name
  overwritten_keeps : (place : Option ℕ) (w : Dynamic H) (options : ASTFlags) (k : List (Frame H)) (l : Local H) →
      Keeps a (calm k l) (calm k (overwritten place w options l))
  overwritten_keeps (Some at) w options k l = put_keeps a (InEntry at) (with_mode (mode_of options) w) k l tt
  overwritten_keeps None w options k l = quiet a tt refl (λ t. t)

  written_keeps : (index : Option NonZeroUsize) (ident : Ident) (options : ASTFlags) (restoring : Bool) (value_at : Position)
      (v w : Dynamic H) (k : List (Frame H)) (l : Local H) →
      Keeps a (core (Back v) (DefineValue ident index options restoring value_at ∷ k) l) (calm k (written index w ident options l))
  written_keeps None ident options restoring value_at v w k l = quiet a tt refl (added_names ident (mode_of options) w k l)
  written_keeps (Some offset) ident options restoring value_at v w k l =
      after a (calm k l) refl (λ t. t) (overwritten_keeps (index_of ident.name l.scope) w options k l)

  -- an alias is no name either
  declared_keeps : (exported : Bool) (ident : Ident) (k : List (Frame H)) (l : Local H) →
      Keeps a (calm k l) (declared_core exported ident k l)
  declared_keeps true ident k l = export_keeps a (index_of ident.name l.scope) ident None k l
  declared_keeps false ident k l = quiet a tt refl (λ t. t)

  -- a value that did not come adds none
  undefined_names : (index : Option NonZeroUsize) (ident : Ident) (options : ASTFlags) (restoring : Bool) (value_at : Position)
      (k : List (Frame H)) (l : Local H) → MeetsAsked a (calm (DefineValue ident index options restoring value_at ∷ k) l) →
      MeetsAsked a (calm k l)
  undefined_names None ident options restoring value_at k l t =
      (t.0, t.1.1 (names_of l) (begins_self (names_of l)) t.0, t.2)
  undefined_names (Some offset) ident options restoring value_at k l t = t

  defined_keeps : (r : Result (Dynamic H) (EvalAltResult H)) (ident : Ident) (index : Option NonZeroUsize) (options : ASTFlags)
      (restoring : Bool) (value_at : Position) (v : Dynamic H) (k : List (Frame H)) (l : Local H) →
      Keeps a (core (Back v) (DefineValue ident index options restoring value_at ∷ k) l)
      (on_value r (λ x. defined_core x ident index options restoring k l) k l)
  defined_keeps (Ok w) ident index options restoring value_at v k l =
      let entered = constant_core (enters options restoring l) ident.name w l in
      through a (constant_keeps (enters options restoring l) ident.name v w (DefineValue ident index options restoring value_at ∷ k) l)
      (through a (written_keeps index ident options restoring value_at v w k entered)
      (declared_keeps (is_exported options) ident k (written index w ident options entered)))
  defined_keeps (Err e) ident index options restoring value_at v k l =
      quiet a tt refl (undefined_names index ident options restoring value_at k l)

  module _ (s : Setting H) where
    -- the operands of an operator
    operated_keeps : (operation : Operation) (args : List (Dynamic H)) (k : List (Frame H)) (l : Local H) →
        Keeps a (calm k l) (operands_there s operation args k l)
    operated_keeps operation args k l = operator_keeps a s (builtin_of operation.token args) (call_of operation args) k l

    -- arrays and texts
    part_keeps : (text part : List ℕ) (at : Position) (rest : List Expr) (k : List (Frame H)) (l : Local H) →
        Keeps a (calm k l) (part_core s text part at rest k l)
    part_keeps text part at rest k l = on_keeps a (with_part s.limits text part at) _ k l (λ more. parts_keep more rest k l)

    joined_keeps : (u : Union H) (v : Dynamic H) (text : List ℕ) (at : Position) (rest : List Expr) (k : List (Frame H)) (l : Local H) →
        Keeps a (calm k l) (joined_core s u v text at rest k l)
    joined_keeps (value.Str part) v text at rest k l = part_keeps text part at rest k l
    joined_keeps _ v text at rest k l = quiet a tt refl (λ t. t)

    unprinted_keeps : (passes : Bool) (e : EvalAltResult H) (text type : List ℕ) (at : Position) (rest : List Expr) (k : List (Frame H))
        (l : Local H) →
        Keeps a (calm k l) (unprinted_core s passes e text type at rest k l)
    unprinted_keeps true e text type at rest k l = quiet a tt refl (λ t. t)
    unprinted_keeps false e text type at rest k l = part_keeps text type at rest k l

    -- a value comes up
    up_keeps : (frame : Frame H) (v : Dynamic H) (k : List (Frame H)) (l : Local H) →
        Keeps a (core (Back v) (frame ∷ k) l) (up_core s frame v k l)
    up_keeps (StatementValue pos) v k l = after a (calm k l) refl (λ t. t) (ended_keeps a (flat l.around.cells v pos) k l)
    up_keeps (DefineValue ident index options restoring value_at) v k l =
        defined_keeps (flat l.around.cells v value_at) ident index options restoring value_at v k l
    up_keeps (ImportPath alias path_at starts_at) v k l =
        imported_keeps a (module_meant s.host_type l.around.cells s.offer.modules v path_at starts_at) alias path_at starts_at v k l
    up_keeps (IfCondition test_at body branch) v k l =
        after a (calm k l) refl (λ t. t) (on_keeps a (truth s.host_type l.around.cells v test_at) _ k l
        (λ holds. chosen_keeps holds body branch k l))
    up_keeps (RestOfList rest restoring) v k l = quiet a tt refl (λ t. t)
    up_keeps (RestoreList saved) v k l = quiet a tt refl (left_names a saved k l)
    up_keeps (Top map_exit) v k l = quiet a tt refl (λ t. t)
    up_keeps (UnaryOperand operation operand_at) v k l =
        after a (calm k l) refl (λ t. t) (on_keeps a (flat l.around.cells v operand_at) _ k l
        (λ x. operated_keeps operation (x ∷ []) k l))
    up_keeps (LeftOperand operation left_at right) v k l =
        after a (calm k l) refl (λ t. t) (on_keeps a (flat l.around.cells v left_at) _ k l (λ x. quiet a tt refl (λ t. t)))
    up_keeps (RightOperand operation left right_at) v k l =
        after a (calm k l) refl (λ t. t) (on_keeps a (flat l.around.cells v right_at) _ k l
        (λ y. operated_keeps operation (left ∷ y ∷ []) k l))
    up_keeps (CallArgument purpose made argument_at rest) v k l =
        after a (calm k l) refl (λ t. t) (on_keeps a (taken (flattens purpose) l.around.cells v argument_at) _ k l
        (λ x. arguments_keep a s purpose (made ++ x ∷ []) rest k l))
    up_keeps (KeywordArgument keyword call_at start rest captures) v k l =
        after a (calm k l) refl (λ t. t) (keyword_keeps a s keyword call_at start rest captures v k l)
    up_keeps (AndPart part_at rest) v k l =
        after a (calm k l) refl (λ t. t) (on_keeps a (truth s.host_type l.around.cells v part_at) _ k l
        (λ holds. and_next_keeps holds rest k l))
    up_keeps (OrPart part_at rest) v k l =
        after a (calm k l) refl (λ t. t) (on_keeps a (truth s.host_type l.around.cells v part_at) _ k l
        (λ holds. or_next_keeps holds rest k l))
    up_keeps (CoalescePart part_at rest) v k l =
        after a (calm k l) refl (λ t. t) (coalesce_next_keeps (seen_through l.around.cells v part_at) v rest k l)
    up_keeps (ArrayItem made item_at rest) v k l =
        after a (calm k l) refl (λ t. t) (on_keeps a (with_item s.limits made (flat l.around.cells v item_at) item_at) _ k l
        (λ items. items_keep items rest k l))
    up_keeps (EntryValue keys made value_at rest) v k l =
        after a (calm k l) refl (λ t. t) (on_keeps a (with_value s.limits made (flat l.around.cells v value_at) value_at) _ k l
        (λ values. entries_keep keys values rest k l))
    up_keeps (TextPart text part_at rest) v k l =
        after a (calm k l) refl (λ t. t) (on_keeps a (flat l.around.cells v part_at) _ k l
        (λ x. joined_keeps x.value x text part_at rest k l))
    up_keeps (PrintedPart text type part_at rest) v k l =
        after a (calm k l) refl (λ t. t) (part_keeps text (printed v.value type) part_at rest k l)
    up_keeps (AssignValue assignment value_at) v k l =
        after a (calm k l) refl (λ t. t) (on_keeps a (flat l.around.cells v value_at) _ k l (λ x. quiet a tt refl (λ t. t)))
    up_keeps (AssignThisValue op pos value_at) v k l =
        after a (calm k l) refl (λ t. t) (on_keeps a (flat l.around.cells v value_at) _ k l (λ x. quiet a tt refl (λ t. t)))
    up_keeps (CallEnd exit) v k l = after a (calm (CallEnd exit ∷ k) l) refl (λ t. t)
        (through a (call_left a exit k l) (quiet a tt refl (λ t. t)))
    up_keeps (WhileCondition test body) v k l =
        after a (calm k l) refl (λ t. t) (on_keeps a (truth s.host_type l.around.cells v (position_of test)) _ k l
        (λ holds. while_core_keeps holds test body k l))
    up_keeps (WhileBody test body) v k l = quiet a tt refl (λ t. t)
    up_keeps (DoCondition test body options) v k l =
        after a (calm k l) refl (λ t. t)
        (do_keeps (truth s.host_type l.around.cells v (position_of test)) (has_option 1 options) (DoTurn test body options) k l
        (quiet a tt refl (λ t. t)))
    up_keeps (DoBody test body options) v k l = quiet a tt refl (λ t. t)
    up_keeps (SwitchValue value_at choice) v k l =
        after a (calm k l) refl (λ t. t) (on_keeps a (flat l.around.cells v value_at) _ k l (λ x. quiet a tt refl (λ t. t)))
    up_keeps (SwitchCondition candidate rest default) v k l =
        after a (calm k l) refl (λ t. t) (on_keeps a (truth s.host_type l.around.cells v (position_of candidate.condition)) _ k l
        (λ holds. met_keeps a holds candidate rest default k l))
    up_keeps (ForItems loop) v k l = walked_keeps a (flat l.around.cells v (position_of loop.items)) loop v k l
    up_keeps (RestoreScope length) v k l = quiet a tt refl (scope_left a length k l)
    up_keeps (ThrowValue value_at pos) v k l =
        after a (calm k l) refl (λ t. t) (on_keeps a (flat l.around.cells v value_at) _ k l (λ x. quiet a tt refl (λ t. t)))
    up_keeps (BreakValue is_break pos) v k l = quiet a tt refl (λ t. t)
    up_keeps (ReturnValue value_at pos) v k l =
        after a (calm k l) refl (λ t. t) (on_keeps a (flat l.around.cells v value_at) _ k l (λ x. quiet a tt refl (λ t. t)))
    up_keeps (AssignChain root chain op value_at) v k l =
        after a (calm k l) refl (λ t. t) (on_keeps a (flat l.around.cells v value_at) _ k l (λ x. quiet a tt refl (λ t. t)))
    up_keeps AssignedChain v k l = quiet a tt refl (λ t. t)
    up_keeps (RootValue chain) v k l = after a (calm k l) refl (λ t. t)
        (on_keeps a (flat l.around.cells v (position_of chain.root)) _ k l (λ x. quiet a tt refl (λ t. t)))
    up_keeps (ChainEnd lender outer) v k l = after a (calm (ChainEnd lender outer ∷ k) l) refl (λ t. t)
        (through a (chain_left a lender outer k l) (quiet a tt refl (λ t. t)))
    up_keeps (StepDown above step) v k l = after a (calm (StepDown above step ∷ k) l) refl (λ t. t)
        (through a (step_left a above step k l) (quiet a tt refl (λ t. t)))
    up_keeps (PartAssigned above at op_at) v k l =
        after a (calm k l) refl (λ t. t) (part_assigned_keeps a s (put_back above at (focus_of l)) above at op_at k l)
    up_keeps (Measured op_at) v k l = after a (calm k l) refl (λ t. t)
        (on_keeps a (sized s.limits (as_measured l.around.cells (focus_of l)) op_at) _ k l (λ x. quiet a tt refl (λ t. t)))
    up_keeps (MethodLink chain) v k l = quiet a tt refl (λ t. t)
    up_keeps (MemberLink access chain) v k l = quiet a tt refl (λ t. t)
    up_keeps (MemberGot access root new) v k l =
        after a (calm (MemberOperated access l.focus new.op.position ∷ k) (focused_on (Some v) l)) refl (λ t. t)
        (assign_focus_keeps a s root new _ (focused_on (Some v) l))
    up_keeps (MemberOperated access above op_at) v k l = after a (calm k (focused_on above l)) refl (λ t. t)
        (operated_on_keeps a s access.member access (focus_of l) op_at k (focused_on above l))
    up_keeps (MemberSet value) v k l = quiet a tt refl (λ t. t)
    up_keeps _ v k l = quiet a tt refl (λ t. t)

    -- a value comes up as `Changed`
    comes_changed_keeps : (frame : Frame H) (v : Dynamic H) (k : List (Frame H)) (l : Local H) →
        Keeps a (core (Changed v) (frame ∷ k) l) (changed_up_core s frame v k l)
    comes_changed_keeps (StepDown above step) v k l = after a (calm (StepDown above step ∷ k) l) refl (λ t. t)
        (through a (step_left a above step k l) (quiet a tt refl (λ t. t)))
    comes_changed_keeps (Temporary above back) v k l = after a (calm k (focused_on above l)) refl (λ t. t)
        (temporary_keeps a s back (focus_of l) v k (focused_on above l))
    comes_changed_keeps (PartMethod above at pos) v k l =
        after a (calm k l) refl (λ t. t) (part_changed_keeps a s (put_back above at (focus_of l)) above at pos v k l)
    comes_changed_keeps (GetterTried access name) v k l = quiet a tt refl (λ t. t)
    comes_changed_keeps (SetterTried access name value ignores) v k l = quiet a tt refl (λ t. t)
    comes_changed_keeps (IndexerTried otherwise) v k l = quiet a tt refl (λ t. t)
    comes_changed_keeps _ v k l = quiet a tt refl (λ t. t)

    module _ (grows : Grows a s.limits.max_variables) where
      -- an error comes down; only where there is room a `catch` gets its variable
      down_keeps : (frame : Frame H) (e : EvalAltResult H) (k : List (Frame H)) (l : Local H) →
          Keeps a (core (Fail e) (frame ∷ k) l) (down_core s frame e k l)
      down_keeps (Top map_exit) e k l = after a (calm k l) refl (λ t. t) (ended_keeps a (script_ended map_exit e) k l)
      down_keeps (WhileBody test body) e k l =
          after a (calm k l) refl (λ t. t) (caught_keeps (WhileTurn test body) e k l (quiet a tt refl (λ t. t)))
      down_keeps (DoBody test body options) e k l =
          after a (calm k l) refl (λ t. t) (caught_keeps (DoTurn test body options) e k l (quiet a tt refl (λ t. t)))
      down_keeps (ForBody loop rest turn base) e k l =
          after a (calm k l) refl (λ t. t) (caught_keeps (ForTurn loop rest (turn + 1) base) e k l (quiet a tt refl (λ t. t)))
      down_keeps (ForItems loop) e k l = quiet a tt refl (λ t. (t.0, t.1.1, t.2))
      down_keeps (RestoreScope length) e k l = quiet a tt refl (scope_left a length k l)
      down_keeps (TryBody variable branch) e k l =
          after a (calm k l) refl (λ t. t) (tried_keeps a s grows (is_catchable e) (catch_variable (out-Expr variable)) e branch k l)
      down_keeps (PrintedPart text type part_at rest) e k l =
          after a (calm k l) refl (λ t. t) (unprinted_keeps (is_system e) e text type part_at rest k l)
      down_keeps (RestOfList rest restoring) e k l = quiet a tt refl (calm_meets a k l)
      down_keeps (CallEnd exit) e k l = after a (calm (CallEnd exit ∷ k) l) refl (λ t. t)
          (through a (call_left a exit k l) (ended_keeps a (returned exit e) k (called_back exit l)))
      down_keeps (DefineValue ident index options restoring value_at) e k l =
          quiet a tt refl (undefined_names index ident options restoring value_at k l)
      down_keeps (ImportPath alias path_at starts_at) e k l = quiet a tt refl (not_imported a k l)
      down_keeps (RestoreList saved) e k l = quiet a tt refl (left_names a saved k l)
      down_keeps (ChainEnd lender outer) e k l = after a (calm (ChainEnd lender outer ∷ k) l) refl (λ t. t)
          (through a (chain_left a lender outer k l) (quiet a tt refl (λ t. t)))
      down_keeps (StepDown above step) e k l = after a (calm (StepDown above step ∷ k) l) refl (λ t. t)
          (through a (step_left a above step k l) (quiet a tt refl (λ t. t)))
      down_keeps (MemberGot access root new) e k l =
          after a (calm k l) refl (λ t. t) (got_none_keeps a s (lacks_indexer e) access.member e access new k l)
      down_keeps (GetterTried access name) e k l =
          after a (calm k l) refl (λ t. t) (getter_missing_keeps a (lacks_property e) e access name k l)
      down_keeps (SetterTried access name v ignores) e k l =
          after a (calm k l) refl (λ t. t) (setter_missing_keeps a (lacks_property e) e access name v ignores k l)
      down_keeps (IndexerTried otherwise) e k l =
          after a (calm k l) refl (λ t. t) (indexer_missing_keeps a (lacks_indexer e) e otherwise k l)
      down_keeps _ e k l = quiet a tt refl (λ t. t)

      -- a `let` that is refused adds no name
      no_name : (k : List (Frame H)) (l : Local H) →
          a.along (names_of l) × Free a k (names_of l) × Imports a k (length l.around.imports) → MeetsAsked a (calm k l)
      no_name k l t = (t.0, t.1 (names_of l) (begins_self (names_of l)) t.0, t.2)

      -- a `let` that overwrites none is tried only where there is room for one more variable
      define_keeps : (shadows full : Bool) (ident : Ident) (value : Expr) (options : ASTFlags) (restoring : Bool) (pos : Position)
          (k : List (Frame H)) (l : Local H) →
          nat_le s.limits.max_variables (length l.scope) ≡ full →
          Keeps a (core (OpenStmt (layer.Var ident value None options pos) restoring) k l)
          (define_core s shadows full ident value None options restoring pos k l)
      define_keeps true full ident value options restoring pos k l is = quiet a tt refl (no_name k l)
      define_keeps false true ident value options restoring pos k l is = quiet a tt refl (no_name k l)
      define_keeps false false ident value options restoring pos k l is = quiet a tt refl (λ t. (
        t.0,
        (
          grows.fits _
              (room s.limits.max_variables (length l.scope) (names_of l) ident.name (length-map l.scope name_of) is),
          t.1,
        ),
        t.2,
      ))

      -- and one that does needs none
      redefine_keeps : (shadows : Bool) (ident : Ident) (value : Expr) (offset : NonZeroUsize) (options : ASTFlags) (restoring : Bool)
          (pos : Position) (k : List (Frame H)) (l : Local H) →
          Keeps a (calm k l) (define_core s shadows false ident value (Some offset) options restoring pos k l)
      redefine_keeps true ident value offset options restoring pos k l = quiet a tt refl (λ t. t)
      redefine_keeps false ident value offset options restoring pos k l = quiet a tt refl (λ t. t)

      -- a function is entered where it fits
      body_keeps : (stmts : List Stmt) (e : Entered H) (k : List (Frame H)) (l : Local H) →
          length (variables_before e.is_fresh l.scope) + length e.def.params ≤ s.limits.max_variables →
          Keeps a (core (EnterFunction e) k l) (body_core stmts e k l)
      body_keeps [] e k l le = quiet a tt refl (λ t. (t.0, stopped_by a (adds_names e) k (names_of l) t.0 t.1, t.2))
      body_keeps (stmt ∷ stmts) e k l le = function_entered a s.limits.max_variables grows e stmt stmts k l le

      full_keeps : (deep full : Bool) (e : Entered H) (k : List (Frame H)) (l : Local H) →
          nat_lt s.limits.max_variables (length (variables_before e.is_fresh l.scope) + length e.def.params) ≡ full →
          Keeps a (core (EnterFunction e) k l) (unless_deep deep full e k l)
      full_keeps true full e k l is = quiet a tt refl (λ t. (t.0, stopped_by a (adds_names e) k (names_of l) t.0 t.1, t.2))
      full_keeps false true e k l is = quiet a tt refl (λ t. (t.0, stopped_by a (adds_names e) k (names_of l) t.0 t.1, t.2))
      full_keeps false false e k l is = body_keeps (statements_of e.def.body) e k l (grind (arith, nat_tests))

      stmt_keeps : (form : StmtLayer) (restoring : Bool) (k : List (Frame H)) (l : Local H) →
          Moves (Keeps a) (core (OpenStmt form restoring) k l) (stmt_move s form restoring k l)
      stmt_keeps (layer.Noop pos) restoring k l = quiet a tt refl (λ t. t)
      stmt_keeps (layer.Expr value) restoring k l = quiet a tt refl (λ t. t)
      stmt_keeps (layer.Stmt::FnCall call pos) restoring k l = quiet a tt refl (λ t. t)
      stmt_keeps (layer.Block block) restoring k l = quiet a tt refl (λ t. t)
      stmt_keeps (layer.Assignment op lhs rhs) restoring k l =
          assignment_keeps a (out-Expr lhs) op rhs (core (OpenStmt (layer.Assignment op lhs rhs) restoring) k l) k l
          (quiet a tt refl (λ t. t))
      stmt_keeps (layer.Var ident value None options pos) restoring k l =
          define_keeps (not s.offer.allow_shadowing && is_some (index_of ident.name l.scope))
          (nat_le s.limits.max_variables (length l.scope)) ident value options restoring pos k l refl
      stmt_keeps (layer.Var ident value (Some offset) options pos) restoring k l = after a (calm k l) refl (λ t. t)
          (redefine_keeps (not s.offer.allow_shadowing && is_some (index_of ident.name l.scope)) ident value offset options restoring pos
          k l)
      stmt_keeps (layer.If test body branch pos) restoring k l = quiet a tt refl (λ t. t)
      stmt_keeps (layer.Switch value results cases ranges default pos) restoring k l = quiet a tt refl (λ t. t)
      stmt_keeps (layer.For variable counter items body pos) restoring k l = after a (calm k l) refl (λ t. t)
          (for_keeps a s grows (has_no_room s.limits (loop_of variable counter items body) l) (loop_of variable counter
          items body) k l refl)
      stmt_keeps (layer.TryCatch body variable branch pos) restoring k l = quiet a tt refl (λ t. t)
      stmt_keeps (layer.Export ident alias pos) restoring k l = after a (calm k l) refl (λ t. t)
          (export_keeps a (index_of ident.name l.scope) ident alias k l)
      stmt_keeps (layer.Import path alias pos) restoring k l =
          import_keeps a (nat_le s.limits.max_modules l.around.num_modules_loaded) path alias pos restoring k l
      stmt_keeps (layer.Share variables) restoring k l = quiet a tt refl (λ t. t)
      stmt_keeps (layer.While test body pos) restoring k l = quiet a tt refl (λ t. t)
      stmt_keeps (layer.Do test body options pos) restoring k l = quiet a tt refl (λ t. t)
      stmt_keeps (layer.BreakLoop value options pos) restoring k l =
          after a (calm k l) refl (λ t. t) (break_keeps value (has_option 2 options) pos k l)
      stmt_keeps (layer.Return value options pos) restoring k l =
          return_keeps (has_option 2 options) value pos (core (OpenStmt (layer.Return value options pos) restoring) k l) k l
          (quiet a tt refl (λ t. t))

      -- each move from a sound core
      pub move_keeps : (c : Control H) (k : List (Frame H)) (l : Local H) → Sound c l → Moves (Keeps a) (core c k l) (move_at s c k l)
      move_keeps (Eval e) k l h = quiet a tt refl (λ t. t)
      move_keeps (Exec stmt restoring) k l h = quiet a tt refl (λ t. t)
      move_keeps (Ask call) k l h = quiet a tt refl (λ t. t)
      move_keeps (Assign assignment v) k l h = quiet a tt refl (λ t. t)
      move_keeps (AskUpdate u) k l h = quiet a h refl (λ t. t)
      move_keeps (Argument e) k l h = argument_keeps (literal_of (out-Expr e)) e k l
      move_keeps (CallNamed operation curried args captures alone) k l h =
          named_keeps a s operation curried args captures alone k l
      move_keeps (EnterFunction e) k l h = full_keeps (nat_lt s.limits.max_call_levels e.level)
          (nat_lt s.limits.max_variables (length (variables_before e.is_fresh l.scope) + length e.def.params)) e k l refl
      move_keeps (AssignThis op pos v) k l h = quiet a tt refl (λ t. t)
      move_keeps (Question call) k l h = question_keeps a s call call.args k l
      move_keeps (Fire call) k l h = fire_keeps a s call call.args k l
      move_keeps (QuestionUpdate u) k l h = λ pure. barred_keeps a s (is_barred pure u.target) u k l h
      move_keeps (FireUpdate u) k l h = fire_update_keeps a s u.target.value u k l h
      move_keeps (OpenExpr form) k l h = expr_keeps s s.offer.fast_operators form k l
      move_keeps (OpenStmt form restoring) k l h = stmt_keeps form restoring k l
      move_keeps (Enter stmts restoring) k l h = enter_keeps stmts restoring k l
      move_keeps (Run stmts restoring last) k l h = run_keeps stmts restoring last k l
      move_keeps (Store assignment v) k l h =
          after a (calm k l) refl (λ t. t)
          (store_keeps a s (target_of (globals_of s.offer) l.around l.scope (variable_of_assignment assignment)) assignment v k l refl)
      move_keeps (StoreThis op pos v) k l h = after a (calm k l) refl (λ t. t) (store_this_keeps a s op pos v k l)
      move_keeps (WhileTurn test body) k l h = while_keeps (is_endless (out-Expr test)) body.statements test body k l
      move_keeps (DoTurn test body options) k l h = quiet a tt refl (λ t. t)
      move_keeps (Choose candidates default) k l h = after a (calm k l) refl (λ t. t) (choose_keeps a candidates default k l)
      move_keeps (ForTurn loop left turn base) k l h = for_turn_keeps a (next_turn left) loop.body.statements loop left turn base k l
      move_keeps (ForItem loop item rest turn base) k l h = after a (calm k l) refl (λ t. t) (item_keeps a loop item rest turn base k l)
      move_keeps (Share variables) k l h = after a (calm k l) refl (λ t. t) (share_keeps a variables k l)
      move_keeps (OpenChain chain) k l h = open_keeps a (link_of chain.rest) chain k l
      move_keeps (ChainArguments chain rest made) k l h = asked_keeps a s (link_of rest) chain rest made k l
      move_keeps (ChainRoot chain) k l h = root_keeps a (out-Expr chain.root) chain k l
      move_keeps (ReadRoot variable chain) k l h = read_root_keeps a (globals_of s.offer) variable chain k l
      move_keeps (Walk chain) k l h = walk_keeps a s (link_of chain.rest) chain k l
      move_keeps (Locate link chain) k l h = locate_keeps a s link chain k l
      move_keeps (Changed v) [] l h = quiet a tt refl (λ t. t)
      move_keeps (Changed v) (frame ∷ k) l h = comes_changed_keeps frame v k l
      move_keeps (Back v) [] l h = tt
      move_keeps (Back v) (frame ∷ k) l h = up_keeps frame v k l
      move_keeps (Fail e) [] l h = tt
      move_keeps (Fail e) (frame ∷ k) l h = down_keeps frame e k l
