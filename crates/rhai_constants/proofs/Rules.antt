-- What each rule keeps, where it neither shares the constant nor overwrites it.
use Rattle.std.proofs.Common.{refl, arith}
use Rattle.std.proofs.lemmas.Bool.Decides.{nat_tests}
use Rattle.std.specs.Prelude.{◌≡◌, ◌+◌, ℕ, nat_le, nat_lt, length, not, ◌&&◌, Bool, true, false, List, [], ◌∷◌, ◌++◌, map}
use Rattle.std.specs.Prelude.{Option, Some, None, Result, Ok, Err, is_some}
use Rattle.std.specs.declared.num.NonZeroUsize.{NonZeroUsize}
use Rattle.rhai_tree.specs.declared.position.Position.{Position}
use Rattle.rhai_tree.specs.declared.flags.ASTFlags.{ASTFlags}
use Rattle.rhai_tree.specs.declared.expr.Ident.{Ident}
use Rattle.rhai_tree.specs.declared.expr.Expr.{Expr, out-Expr}
use Rattle.rhai_tree.specs.declared.expr.Stmt.{Stmt}
use Rattle.rhai_tree.specs.declared.expr.StmtBlock.{StmtBlock}
use Rattle.rhai_tree.specs.declared.expr.MapEntry.{MapEntry}
use Rattle.rhai_tree.specs.declared.expr.Expr.TheOpen as layer
use Rattle.rhai_tree.specs.Layers.{ExprLayer, StmtLayer}
use Rattle.rhai_tree.specs.Positions.{position_of}
use Rattle.rhai_values.specs.Modes.{with_mode}
use Rattle.rhai_tree.specs.Forms.{is_exported}
use Rattle.rhai_tree.specs.Keys.{key_of}
use Rattle.rhai_values.specs.declared.base.value.Dynamic.{Dynamic}
use Rattle.rhai_values.specs.declared.base.value.Union.{Union}
use Rattle.rhai_values.specs.declared.base.value.Union.TheVariants as value
use Rattle.rhai_errors.specs.declared.error.EvalAltResult.{EvalAltResult}
use Rattle.rhai_errors.specs.declared.error.EvalAltResult.TheVariants as error
use Rattle.rhai_errors.specs.Errors.{is_catchable, is_system}
use Rattle.rhai_state.specs.Scope.{index_of, new_entry}
use Rattle.rhai_spots.specs.PutBack.{put_back}
use Rattle.rhai_machine.specs.language.Setting.{Setting, globals_of}
use Rattle.rhai_machine.specs.language.State.{Local}
use Rattle.rhai_machine.specs.language.Values.{copied, flat, through as seen_through, truth, unit_value}
use Rattle.rhai_machine.specs.language.Variables.{variable_named}
use Rattle.rhai_machine.specs.language.Names.{bound_this, read}
use Rattle.rhai_machine.specs.language.Assignment.{variable_of_assignment}
use Rattle.rhai_machine.specs.language.Activations.{Entered}
use Rattle.rhai_machine.specs.language.Frames.{on_value}
use Rattle.rhai_machine.specs.language.Frames.{Operation, Control, Frame, Core, core, Eval, Exec, Ask, Assign, AskUpdate, Argument}
use Rattle.rhai_machine.specs.language.Frames.{Question, Fire, QuestionUpdate, FireUpdate, OpenExpr, OpenStmt, Enter, Run, Store, StoreThis}
use Rattle.rhai_machine.specs.language.Frames.{WhileTurn}
use Rattle.rhai_machine.specs.language.Frames.{DoTurn, Back, Changed, Fail, StatementValue, DefineValue, IfCondition, RestOfList}
use Rattle.rhai_machine.specs.language.Frames.{RestoreList, Top, UnaryOperand, LeftOperand, RightOperand, AndPart, OrPart, CoalescePart}
use Rattle.rhai_machine.specs.language.Frames.{AssignValue}
use Rattle.rhai_machine.specs.language.Frames.{WhileCondition, WhileBody, DoCondition, DoBody, BreakValue, ReturnValue}
use Rattle.rhai_machine.specs.language.Frames.{ArrayItem, EntryValue, TextPart, PrintedPart, CallNamed, CallArgument, KeywordArgument}
use Rattle.rhai_machine.specs.language.Frames.{EnterFunction, AssignThis, AssignThisValue, CallEnd, Choose, ForTurn, ForItem}
use Rattle.rhai_machine.specs.language.Frames.{Share}
use Rattle.rhai_machine.specs.language.Frames.{SwitchValue, SwitchCondition, ForItems, ForBody, ImportPath, RestoreScope, TryBody}
use Rattle.rhai_machine.specs.language.Frames.{ThrowValue}
use Rattle.rhai_machine.specs.language.Bodies.{statements_of, variables_before, body_core, unless_deep, called_back, returned}
use Rattle.rhai_machine.specs.language.Data.{with_item, with_value, with_part, items_core, entries_core, parts_core, part_core}
use Rattle.rhai_machine.specs.language.Data.{joined_core, printed, unprinted_core}
use Rattle.rhai_machine.specs.language.Places.{InEntry, is_barred, target_of}
use Rattle.rhai_machine.specs.language.Loops.{is_endless, goes_on, while_move, while_core, if_goes_on, do_control, caught}
use Rattle.rhai_machine.specs.language.Expressions.{literal_of, argument_move, expr_move, and_core, and_next, or_core}
use Rattle.rhai_machine.specs.language.Expressions.{or_next, coalesce_core, coalesce_seen, coalesce_next}
use Rattle.rhai_machine.specs.language.Calls.{builtin_of, call_of, sized}
use Rattle.rhai_machine.specs.language.Arguments.{flattens, taken}
use Rattle.rhai_machine.specs.language.Statements.{has_option, mode_of, enter_core, run_core, chosen_core, defined_core, define_core}
use Rattle.rhai_machine.specs.language.Statements.{overwritten, written, declared_core, constant_core, enters}
use Rattle.rhai_machine.specs.language.Statements.{loop_of, stmt_move, break_core, return_move}
use Rattle.rhai_machine.specs.language.Imports.{module_meant, name_asked}
use Rattle.rhai_machine.specs.language.Turns.{next_turn}
use Rattle.rhai_machine.specs.language.Walks.{has_no_room}
use Rattle.rhai_machine.specs.language.Tries.{catch_variable}
use Rattle.rhai_machine.specs.language.Links.{link_of}
use Rattle.rhai_machine.specs.language.Frames.{AssignChain, AssignedChain, OpenChain, ChainArguments, ChainRoot, ReadRoot, Walk, Locate}
use Rattle.rhai_machine.specs.language.Frames.{RootValue, ChainEnd, StepDown, Temporary, PartMethod, PartAssigned, Measured, MethodLink}
use Rattle.rhai_machine.specs.language.Frames.{MemberLink, MemberGot, MemberOperated, GetterTried, SetterTried, IndexerTried, MemberSet}
use Rattle.rhai_machine.specs.language.Members.{focus_of, focused_on, lacks_property, lacks_indexer}
use Rattle.rhai_machine.specs.language.Unwinding.{up_core, down_core, changed_up_core, script_ended, operands_there, as_measured}
use Rattle.rhai_machine.specs.language.Language.{move_at}
use Rattle.std.proofs.Common.{sym, subst, zero, suc}
use Rattle.std.specs.Prelude.{⊤, is_none, nat_eq}
use Rattle.rhai_machine.specs.Types.{ScopeEntry}
use Rattle.rhai_values.specs.Cells.{IsNoHandle, value_of_cell}
use Rattle.rhai_values.specs.Copy.{copy_of}
use Rattle.rhai_machine.specs.machine.Machine.{Move, Halt, Go, Charge, Native, AskPure}
use Rattle.rhai_machine.specs.language.Values.{Cells, flat_union, used}
use Rattle.rhai_machine.specs.language.Frames.{Purpose, ToChain}
use Rattle.rhai_fits.specs.Sealed.{AreSealed}
use Rattle.rhai_fits.proofs.Seeing.{copy_no_handle}
use Rattle.rhai_constants.specs.Constants.{is_bottom, overwrites, replaces_at, AreFlat}
use Rattle.rhai_constants.proofs.Keeping.{Told, PurposeFlat, calm, Inv, Keeps, through, after, knowing, Moves}
use Rattle.rhai_constants.proofs.Settling.{same, given, ended_keeps, step_left, chain_left, call_left, function_entered, list_entered}
use Rattle.rhai_constants.proofs.Settling.{scope_left}
use Rattle.rhai_constants.proofs.Settling.{newer, put_keeps}
use Rattle.rhai_constants.proofs.Assignments.{assignment_keeps, store_keeps, store_this_keeps, barred_keeps, fire_update_keeps}
use Rattle.rhai_constants.proofs.Calls.{on_keeps, known_keeps, call_keeps, operator_keeps, arguments_keep, named_keeps, keyword_keeps}
use Rattle.rhai_constants.proofs.Firing.{question_keeps, fire_keeps}
use Rattle.rhai_constants.proofs.Forms.{choose_keeps, met_keeps, walked_keeps, for_keeps, for_turn_keeps, item_keeps, tried_keeps}
use Rattle.rhai_constants.proofs.Forms.{export_keeps}
use Rattle.rhai_constants.proofs.Forms.{imported_keeps, import_keeps, share_keeps}
use Rattle.rhai_constants.proofs.Chains.{open_keeps, asked_keeps, root_keeps, read_root_keeps, temporary_root, walk_keeps, locate_keeps}
use Rattle.rhai_constants.proofs.Chains.{assign_focus_keeps, operated_on_keeps, part_assigned_keeps, part_changed_keeps, temporary_keeps}
use Rattle.rhai_constants.proofs.Chains.{got_none_keeps, getter_missing_keeps, setter_missing_keeps, indexer_missing_keeps}

module _ {H : Type 0} where
  -- what is seen of a value is no handle, where no cell has one
  cell_flat : (cells : Cells H) (n : ℕ) (v : Dynamic H) → AreSealed cells → value_of_cell cells n ≡ Some v → IsNoHandle v.value
  cell_flat [] n v sealed is = let never : None ≡ Some v = is in absurd (cc never)
  cell_flat (Some w ∷ cells) zero v sealed is =
      let same_value : w ≡ v = cc in subst (λ (x : Dynamic H). IsNoHandle x.value) same_value sealed.0
  cell_flat (None ∷ cells) zero v sealed is = let never : None ≡ Some v = is in absurd (cc never)
  cell_flat (cell ∷ cells) (suc n) v sealed is = cell_flat cells n v sealed.1 is

  copied_flat : (there : Option (Dynamic H)) (pos : Position) (x : Dynamic H) → ((v : Dynamic H) → there ≡ Some v → IsNoHandle v.value) →
      copied (used [] pos there) ≡ Ok x → IsNoHandle x.value
  copied_flat (Some v) pos x h is =
      let same_value : copy_of v ≡ x = cc in
      subst (λ (y : Dynamic H). IsNoHandle y.value) same_value (copy_no_handle v.value (h v refl))
  copied_flat None pos x h is = cc

  flat_no_handle : (cells : Cells H) (u : Union H) (v x : Dynamic H) (pos : Position) → v.value ≡ u → AreSealed cells →
      flat_union cells u v pos ≡ Ok x → IsNoHandle x.value
  flat_no_handle cells (value.Cell id) v x pos known sealed is =
      copied_flat (value_of_cell cells id.number) pos x (λ w there. cell_flat cells id.number w sealed there) is
  flat_no_handle cells _ v x pos known sealed is =
      let same_value : v ≡ x = cc in
      subst (λ (y : Dynamic H). IsNoHandle y.value) same_value (subst (λ (w : Union H). IsNoHandle w) (sym known) tt)

  one_more_flat : (made : List (Dynamic H)) (x : Dynamic H) → AreFlat made → IsNoHandle x.value → AreFlat (made ++ x ∷ [])
  one_more_flat [] x f n = (n, tt)
  one_more_flat (v ∷ made) x f n = (f.0, one_more_flat made x f.1 n)

  -- the values that the links of a chain ask for are no handles
  purpose_flat : (purpose : Purpose H) (made : List (Dynamic H)) (cells : Cells H) (v x : Dynamic H) (pos : Position) →
      PurposeFlat purpose made → AreSealed cells → taken (flattens purpose) cells v pos ≡ Ok x → PurposeFlat purpose (made ++ x ∷ [])
  purpose_flat (ToChain chain behind) made cells v x pos f sealed is =
      one_more_flat made x f (flat_no_handle cells v.value v x pos refl sealed is)
  purpose_flat _ made cells v x pos f sealed is = tt

module _ {H : Type 0} (a : Told H) where
  -- lists
  enter_keeps : (stmts : List Stmt) (restoring : Bool) (k : List (Frame H)) (l : Local H) →
      Keeps a (core (Enter stmts restoring) k l) (enter_core stmts restoring k l)
  enter_keeps [] restoring k l = same a tt (λ h. h.1)
  enter_keeps (stmt ∷ stmts) true k l = same a tt (λ h. list_entered a k l h.1)
  enter_keeps (stmt ∷ stmts) false k l = same a tt (λ h. h.1)

  run_keeps : (stmts : List Stmt) (restoring : Bool) (last : Dynamic H) (k : List (Frame H)) (l : Local H) →
      Keeps a (core (Run stmts restoring last) k l) (run_core stmts restoring last k l)
  run_keeps [] restoring last k l = same a tt (λ h. h.1)
  run_keeps (stmt ∷ stmts) restoring last k l = same a tt (λ h. h.1)

  -- expressions
  argument_keeps : (literal : Option (Dynamic H)) (e : Expr) (k : List (Frame H)) (l : Local H) →
      Moves a (core (Argument e) k l) (argument_move literal e k l)
  argument_keeps (Some v) e k l = same a tt (λ h. h.1)
  argument_keeps None e k l = same a tt (λ h. h.1)

  and_keeps : (parts : List Expr) (k : List (Frame H)) (l : Local H) → Keeps a (calm k l) (and_core parts k l)
  and_keeps [] k l = same a tt (λ h. h.1)
  and_keeps (part ∷ parts) k l = same a tt (λ h. h.1)

  and_next_keeps : (holds : Bool) (parts : List Expr) (k : List (Frame H)) (l : Local H) → Keeps a (calm k l) (and_next holds parts k l)
  and_next_keeps true parts k l = and_keeps parts k l
  and_next_keeps false parts k l = same a tt (λ h. h.1)

  or_keeps : (parts : List Expr) (k : List (Frame H)) (l : Local H) → Keeps a (calm k l) (or_core parts k l)
  or_keeps [] k l = same a tt (λ h. h.1)
  or_keeps (part ∷ parts) k l = same a tt (λ h. h.1)

  or_next_keeps : (holds : Bool) (parts : List Expr) (k : List (Frame H)) (l : Local H) → Keeps a (calm k l) (or_next holds parts k l)
  or_next_keeps true parts k l = same a tt (λ h. h.1)
  or_next_keeps false parts k l = or_keeps parts k l

  coalesce_keeps : (last : Dynamic H) (parts : List Expr) (k : List (Frame H)) (l : Local H) →
      Keeps a (calm k l) (coalesce_core last parts k l)
  coalesce_keeps last [] k l = same a tt (λ h. h.1)
  coalesce_keeps last (part ∷ parts) k l = same a tt (λ h. h.1)

  coalesce_seen_keeps : (u : Union H) (v : Dynamic H) (parts : List Expr) (k : List (Frame H)) (l : Local H) →
      Keeps a (calm k l) (coalesce_seen u v parts k l)
  coalesce_seen_keeps value.Unit v parts k l = coalesce_keeps v parts k l
  coalesce_seen_keeps _ v parts k l = same a tt (λ h. h.1)

  coalesce_next_keeps : (r : Result (Dynamic H) (EvalAltResult H)) (v : Dynamic H) (parts : List Expr) (k : List (Frame H)) (l : Local H) →
      Keeps a (calm k l) (coalesce_next r v parts k l)
  coalesce_next_keeps (Ok seen) v parts k l = coalesce_seen_keeps seen.value v parts k l
  coalesce_next_keeps (Err e) v parts k l = same a tt (λ h. h.1)

  items_keep : (made : List (Dynamic H)) (items : List Expr) (k : List (Frame H)) (l : Local H) →
      Keeps a (calm k l) (items_core made items k l)
  items_keep made [] k l = same a tt (λ h. h.1)
  items_keep made (item ∷ items) k l = same a tt (λ h. h.1)

  entries_keep : (keys : List (List ℕ)) (made : List (Dynamic H)) (entries : List MapEntry) (k : List (Frame H)) (l : Local H) →
      Keeps a (calm k l) (entries_core keys made entries k l)
  entries_keep keys made [] k l = same a tt (λ h. h.1)
  entries_keep keys made (entry ∷ entries) k l = same a tt (λ h. h.1)

  parts_keep : (text : List ℕ) (parts : List Expr) (k : List (Frame H)) (l : Local H) → Keeps a (calm k l) (parts_core text parts k l)
  parts_keep text [] k l = same a tt (λ h. h.1)
  parts_keep text (part ∷ parts) k l = same a tt (λ h. h.1)

  -- loops, and the ways out of them
  while_keeps : (endless : Bool) (stmts : List Stmt) (test : Expr) (body : StmtBlock) (k : List (Frame H)) (l : Local H) →
      Moves a (core (WhileTurn test body) k l) (while_move endless stmts test body k l)
  while_keeps false stmts test body k l = same a tt (λ h. h.1)
  while_keeps true [] test body k l = same a tt (λ h. h.1)
  while_keeps true (stmt ∷ stmts) test body k l = same a tt (λ h. h.1)

  while_core_keeps : (holds : Bool) (test : Expr) (body : StmtBlock) (k : List (Frame H)) (l : Local H) →
      Keeps a (calm k l) (while_core holds test body k l)
  while_core_keeps true test body k l = same a tt (λ h. h.1)
  while_core_keeps false test body k l = same a tt (λ h. h.1)

  goes_on_keeps : (b : Bool) (turn : Control H) (k : List (Frame H)) (l : Local H) → Keeps a (calm k l) (core turn k l) →
      Keeps a (calm k l) (core (if_goes_on b turn) k l)
  goes_on_keeps true turn k l h = h
  goes_on_keeps false turn k l h = same a tt (λ h. h.1)

  do_keeps : (r : Result Bool (EvalAltResult H)) (until : Bool) (turn : Control H) (k : List (Frame H)) (l : Local H) →
      Keeps a (calm k l) (core turn k l) →
      Keeps a (calm k l) (core (do_control r until turn) k l)
  do_keeps (Ok holds) until turn k l h = goes_on_keeps (goes_on until holds) turn k l h
  do_keeps (Err e) until turn k l h = same a tt (λ h. h.1)

  caught_keeps : (turn : Control H) (e : EvalAltResult H) (k : List (Frame H)) (l : Local H) → Keeps a (calm k l) (core turn k l) →
      Keeps a (calm k l) (core (caught turn e) k l)
  caught_keeps turn (error.LoopBreak v false pos) k l h = h
  caught_keeps turn (error.LoopBreak v true pos) k l h = same a tt (λ h. h.1)
  caught_keeps turn _ k l h = same a tt (λ h. h.1)

  break_keeps : (value : Option Expr) (is_break : Bool) (pos : Position) (k : List (Frame H)) (l : Local H) →
      Keeps a (calm k l) (break_core value is_break pos k l)
  break_keeps None is_break pos k l = same a tt (λ h. h.1)
  break_keeps (Some value) is_break pos k l = same a tt (λ h. h.1)

  return_keeps : (throws : Bool) (value : Option Expr) (pos : Position) (c : Core H) (k : List (Frame H)) (l : Local H) →
      Keeps a c (calm k l) →
      Moves a c (return_move throws value pos k l)
  return_keeps true None pos c k l h = through a h (same a tt (λ h. h.1))
  return_keeps true (Some value) pos c k l h = through a h (same a tt (λ h. h.1))
  return_keeps false None pos c k l h = through a h (same a tt (λ h. h.1))
  return_keeps false (Some value) pos c k l h = through a h (same a tt (λ h. h.1))

  -- statements
  chosen_keeps : (holds : Bool) (body branch : StmtBlock) (k : List (Frame H)) (l : Local H) →
      Keeps a (calm k l) (chosen_core holds body branch k l)
  chosen_keeps true body branch k l = same a tt (λ h. h.1)
  chosen_keeps false body branch k l = same a tt (λ h. h.1)

  -- a constant is entered beside the variables
  constant_keeps : (enters : Bool) (name : List ℕ) (v w : Dynamic H) (k : List (Frame H)) (l : Local H) →
      Keeps a (core (Back v) k l) (core (Back v) k (constant_core enters name w l))
  constant_keeps true name v w k l = same a tt (λ h. h.1)
  constant_keeps false name v w k l = same a tt (λ h. h.1)

  same_scope : (enters : Bool) (name : List ℕ) (w : Dynamic H) (l : Local H) → (constant_core enters name w l).scope ≡ l.scope
  same_scope true name w l = refl
  same_scope false name w l = refl

  -- a value is written over another than the constant
  other_entry : (index at : ℕ) (bottom : Bool) → bottom && nat_eq index at ≡ false → bottom ≡ true → index ≡ at → ⊥
  other_entry index at true is b e = grind (arith, nat_tests, is, e)
  other_entry index at false is b e = cc

  overwritten_keeps : (place : Option ℕ) (w : Dynamic H) (options : ASTFlags) (k : List (Frame H)) (l : Local H) →
      is_bottom k && overwrites a.of.index place (Ok w) ≡ false → Keeps a (calm k l) (calm k (overwritten place w options l))
  overwritten_keeps (Some at) w options k l fine =
      put_keeps a (InEntry at) (with_mode (mode_of options) w) k l (other_entry a.of.index at (is_bottom k) fine)
  overwritten_keeps None w options k l fine = same a tt (λ h. h.1)

  abbrev NotWritten : (index : Option NonZeroUsize) → Option ℕ → Result (Dynamic H) (EvalAltResult H) → List (Frame H) → Type 0
  NotWritten None place r k = ⊤
  NotWritten (Some offset) place r k = is_bottom k && overwrites a.of.index place r ≡ false

  written_keeps : (index : Option NonZeroUsize) (ident : Ident) (options : ASTFlags) (w : Dynamic H) (k : List (Frame H)) (l : Local H) →
      NotWritten index (index_of ident.name l.scope) (Ok w) k → Keeps a (calm k l) (calm k (written index w ident options l))
  written_keeps None ident options w k l fine =
      same a tt (λ h. (h.1.0, newer a (new_entry ident.name (mode_of options) w ∷ []) k l h.1.1))
  written_keeps (Some offset) ident options w k l fine = overwritten_keeps (index_of ident.name l.scope) w options k l fine

  -- an alias is no name either
  declared_keeps : (exported : Bool) (ident : Ident) (k : List (Frame H)) (l : Local H) →
      Keeps a (calm k l) (declared_core exported ident k l)
  declared_keeps true ident k l = export_keeps a (index_of ident.name l.scope) ident None k l
  declared_keeps false ident k l = same a tt (λ h. h.1)

  defined_keeps : (r : Result (Dynamic H) (EvalAltResult H)) (ident : Ident) (index : Option NonZeroUsize) (options : ASTFlags)
      (restoring : Bool) (v : Dynamic H) (k : List (Frame H)) (l : Local H) → NotWritten index (index_of ident.name l.scope) r k →
      Keeps a (core (Back v) k l) (on_value r (λ x. defined_core x ident index options restoring k l) k l)
  defined_keeps (Ok w) ident index options restoring v k l fine =
      let entered = constant_core (enters options restoring l) ident.name w l in
      let still : NotWritten index (index_of ident.name entered.scope) (Ok w) k =
      subst (λ (scope : List (ScopeEntry H)). NotWritten index (index_of ident.name scope) (Ok w) k)
      (sym (same_scope (enters options restoring l) ident.name w l)) fine in
      through a (constant_keeps (enters options restoring l) ident.name v w k l)
      (after a (calm k entered) (λ h. (tt, h.1)) (through a (written_keeps index ident options w k entered still)
      (declared_keeps (is_exported options) ident k (written index w ident options entered))))
  defined_keeps (Err e) ident index options restoring v k l fine = same a tt (λ h. h.1)

  module _ (s : Setting H) where
    -- an expression
    expr_keeps : (fast : Bool) (form : ExprLayer) (k : List (Frame H)) (l : Local H) →
        Moves a (core (OpenExpr form) k l) (expr_move s fast form k l)
    expr_keeps fast (layer.DynamicConstant literal pos) k l = same a tt (λ h. h.1)
    expr_keeps fast (layer.BoolConstant b pos) k l = same a tt (λ h. h.1)
    expr_keeps fast (layer.IntegerConstant n pos) k l = same a tt (λ h. h.1)
    expr_keeps fast (layer.CharConstant letter pos) k l = same a tt (λ h. h.1)
    expr_keeps fast (layer.StringConstant text pos) k l = same a tt (λ h. h.1)
    expr_keeps fast (layer.Unit pos) k l = same a tt (λ h. h.1)
    expr_keeps fast (layer.Variable offset name namespace pos) k l = after a (calm k l) (λ h. (tt, h.1))
        (ended_keeps a (read (globals_of s.offer) l.around l.scope (variable_named name namespace pos)) k l)
    expr_keeps fast (layer.ThisPtr pos) k l = after a (calm k l) (λ h. (tt, h.1)) (ended_keeps a (copied (bound_this pos l.this)) k l)
    expr_keeps fast (layer.Expr::FnCall call pos) k l =
        call_keeps a s fast call.op_token call call.args pos (layer.Expr::FnCall call pos) k l
    expr_keeps fast (layer.Stmt block) k l = same a tt (λ h. h.1)
    expr_keeps fast (layer.InterpolatedString parts pos) k l = after a (calm k l) (λ h. (tt, h.1)) (parts_keep [] parts k l)
    expr_keeps fast (layer.Array items pos) k l = after a (calm k l) (λ h. (tt, h.1)) (items_keep [] items k l)
    expr_keeps fast (layer.Map entries template pos) k l =
        after a (calm k l) (λ h. (tt, h.1)) (entries_keep (map key_of entries) [] entries k l)
    expr_keeps fast (layer.And parts pos) k l = after a (calm k l) (λ h. (tt, h.1)) (and_keeps parts k l)
    expr_keeps fast (layer.Or parts pos) k l = after a (calm k l) (λ h. (tt, h.1)) (or_keeps parts k l)
    expr_keeps fast (layer.Coalesce parts pos) k l = after a (calm k l) (λ h. (tt, h.1)) (coalesce_keeps unit_value parts k l)
    expr_keeps fast (layer.Index lhs rhs options pos) k l = same a tt (λ h. h.1)
    expr_keeps fast (layer.Dot lhs rhs options pos) k l = same a tt (λ h. h.1)
    expr_keeps fast _ k l = tt

    -- the operands of an operator
    operated_keeps : (operation : Operation) (args : List (Dynamic H)) (k : List (Frame H)) (l : Local H) →
        Keeps a (calm k l) (operands_there s operation args k l)
    operated_keeps operation args k l = operator_keeps a s (builtin_of operation.token args) (call_of operation args) k l (tt, tt)

    -- arrays and texts
    part_keeps : (text part : List ℕ) (at : Position) (rest : List Expr) (k : List (Frame H)) (l : Local H) →
        Keeps a (calm k l) (part_core s text part at rest k l)
    part_keeps text part at rest k l = on_keeps a (with_part s.limits text part at) _ k l (λ more. parts_keep more rest k l)

    joined_keeps : (u : Union H) (v : Dynamic H) (text : List ℕ) (at : Position) (rest : List Expr) (k : List (Frame H)) (l : Local H) →
        Keeps a (calm k l) (joined_core s u v text at rest k l)
    joined_keeps (value.Str part) v text at rest k l = part_keeps text part at rest k l
    joined_keeps _ v text at rest k l = same a (tt, tt) (λ h. h.1)

    unprinted_keeps : (passes : Bool) (e : EvalAltResult H) (text type : List ℕ) (at : Position) (rest : List Expr) (k : List (Frame H))
        (l : Local H) →
        Keeps a (calm k l) (unprinted_core s passes e text type at rest k l)
    unprinted_keeps true e text type at rest k l = same a tt (λ h. h.1)
    unprinted_keeps false e text type at rest k l = part_keeps text type at rest k l

    -- a value comes up
    up_keeps : (frame : Frame H) (v : Dynamic H) (k : List (Frame H)) (l : Local H) →
        replaces_at a.of.index (Back v) (frame ∷ k) l ≡ false → AreSealed l.around.cells →
        Keeps a (core (Back v) (frame ∷ k) l) (up_core s frame v k l)
    up_keeps (StatementValue pos) v k l fine sealed = after a (calm k l) (λ h. (tt, h.1)) (ended_keeps a (flat l.around.cells v pos) k l)
    up_keeps (DefineValue ident None options restoring value_at) v k l fine sealed = after a (core (Back v) k l) (λ h. (tt, h.1))
        (defined_keeps (flat l.around.cells v value_at) ident None options restoring v k l tt)
    up_keeps (DefineValue ident (Some offset) options restoring value_at) v k l fine sealed = after a (core (Back v) k l) (λ h. (tt, h.1))
        (defined_keeps (flat l.around.cells v value_at) ident (Some offset) options restoring v k l fine)
    up_keeps (ImportPath alias path_at starts_at) v k l fine sealed = after a (calm k l) (λ h. (tt, h.1))
        (imported_keeps a (module_meant s.host_type l.around.cells s.offer.modules v path_at starts_at) (name_asked alias) k l)
    up_keeps (IfCondition test_at body branch) v k l fine sealed =
        after a (calm k l) (λ h. (tt, h.1)) (on_keeps a (truth s.host_type l.around.cells v test_at) _ k l
        (λ holds. chosen_keeps holds body branch k l))
    up_keeps (RestOfList rest restoring) v k l fine sealed = same a tt (λ h. h.1)
    up_keeps (RestoreList saved) v k l fine sealed = same a tt (λ h. scope_left a saved.scope_length k l h.1)
    up_keeps (Top map_exit) v k l fine sealed = same a tt (λ h. h.1)
    up_keeps (UnaryOperand operation operand_at) v k l fine sealed =
        after a (calm k l) (λ h. (tt, h.1)) (on_keeps a (flat l.around.cells v operand_at) _ k l
        (λ x. operated_keeps operation (x ∷ []) k l))
    up_keeps (LeftOperand operation left_at right) v k l fine sealed =
        after a (calm k l) (λ h. (tt, h.1)) (on_keeps a (flat l.around.cells v left_at) _ k l (λ x. same a tt (λ h. h.1)))
    up_keeps (RightOperand operation left right_at) v k l fine sealed =
        after a (calm k l) (λ h. (tt, h.1)) (on_keeps a (flat l.around.cells v right_at) _ k l
        (λ y. operated_keeps operation (left ∷ y ∷ []) k l))
    up_keeps (CallArgument purpose made argument_at rest) v k l fine sealed = knowing a (λ i.
        after a (calm k l) (λ h. (tt, (h.1.0.1, h.1.1)))
        (known_keeps a (taken (flattens purpose) l.around.cells v argument_at) _ k l
        (λ h x is. arguments_keep a s purpose (made ++ x ∷ []) rest k l
        (purpose_flat purpose made l.around.cells v x argument_at i.1.0.0 sealed is))))
    up_keeps (KeywordArgument keyword call_at start rest captures) v k l fine sealed =
        after a (calm k l) (λ h. (tt, h.1)) (keyword_keeps a s keyword call_at start rest captures v k l)
    up_keeps (AndPart part_at rest) v k l fine sealed =
        after a (calm k l) (λ h. (tt, h.1)) (on_keeps a (truth s.host_type l.around.cells v part_at) _ k l
        (λ holds. and_next_keeps holds rest k l))
    up_keeps (OrPart part_at rest) v k l fine sealed =
        after a (calm k l) (λ h. (tt, h.1)) (on_keeps a (truth s.host_type l.around.cells v part_at) _ k l
        (λ holds. or_next_keeps holds rest k l))
    up_keeps (CoalescePart part_at rest) v k l fine sealed =
        after a (calm k l) (λ h. (tt, h.1)) (coalesce_next_keeps (seen_through l.around.cells v part_at) v rest k l)
    up_keeps (ArrayItem made item_at rest) v k l fine sealed =
        after a (calm k l) (λ h. (tt, h.1)) (on_keeps a (with_item s.limits made (flat l.around.cells v item_at) item_at) _ k l
        (λ items. items_keep items rest k l))
    up_keeps (EntryValue keys made value_at rest) v k l fine sealed =
        after a (calm k l) (λ h. (tt, h.1)) (on_keeps a (with_value s.limits made (flat l.around.cells v value_at) value_at) _ k l
        (λ values. entries_keep keys values rest k l))
    up_keeps (TextPart text part_at rest) v k l fine sealed =
        after a (calm k l) (λ h. (tt, h.1)) (on_keeps a (flat l.around.cells v part_at) _ k l
        (λ x. joined_keeps x.value x text part_at rest k l))
    up_keeps (PrintedPart text type part_at rest) v k l fine sealed =
        after a (calm k l) (λ h. (tt, h.1)) (part_keeps text (printed v.value type) part_at rest k l)
    up_keeps (AssignValue assignment value_at) v k l fine sealed =
        after a (calm k l) (λ h. (tt, h.1)) (on_keeps a (flat l.around.cells v value_at) _ k l (λ x. same a tt (λ h. h.1)))
    up_keeps (AssignThisValue op pos value_at) v k l fine sealed =
        after a (calm k l) (λ h. (tt, h.1)) (on_keeps a (flat l.around.cells v value_at) _ k l (λ x. same a tt (λ h. h.1)))
    up_keeps (CallEnd exit) v k l fine sealed = after a (calm (CallEnd exit ∷ k) l) (λ h. (tt, h.1))
        (through a (call_left a exit k l) (same a tt (λ h. h.1)))
    up_keeps (WhileCondition test body) v k l fine sealed =
        after a (calm k l) (λ h. (tt, h.1)) (on_keeps a (truth s.host_type l.around.cells v (position_of test)) _ k l
        (λ holds. while_core_keeps holds test body k l))
    up_keeps (WhileBody test body) v k l fine sealed = same a tt (λ h. h.1)
    up_keeps (DoCondition test body options) v k l fine sealed =
        after a (calm k l) (λ h. (tt, h.1))
        (do_keeps (truth s.host_type l.around.cells v (position_of test)) (has_option 1 options) (DoTurn test body options) k l
        (same a tt (λ h. h.1)))
    up_keeps (DoBody test body options) v k l fine sealed = same a tt (λ h. h.1)
    up_keeps (SwitchValue value_at choice) v k l fine sealed =
        after a (calm k l) (λ h. (tt, h.1)) (on_keeps a (flat l.around.cells v value_at) _ k l (λ x. same a tt (λ h. h.1)))
    up_keeps (SwitchCondition candidate rest default) v k l fine sealed =
        after a (calm k l) (λ h. (tt, h.1)) (on_keeps a (truth s.host_type l.around.cells v (position_of candidate.condition)) _ k l
        (λ holds. met_keeps a holds candidate rest default k l))
    up_keeps (ForItems loop) v k l fine sealed =
        after a (calm k l) (λ h. (tt, h.1)) (walked_keeps a (flat l.around.cells v (position_of loop.items)) loop k l)
    up_keeps (RestoreScope length) v k l fine sealed = same a tt (λ h. scope_left a length k l h.1)
    up_keeps (ThrowValue value_at pos) v k l fine sealed =
        after a (calm k l) (λ h. (tt, h.1)) (on_keeps a (flat l.around.cells v value_at) _ k l (λ x. same a tt (λ h. h.1)))
    up_keeps (BreakValue is_break pos) v k l fine sealed = same a tt (λ h. h.1)
    up_keeps (ReturnValue value_at pos) v k l fine sealed =
        after a (calm k l) (λ h. (tt, h.1)) (on_keeps a (flat l.around.cells v value_at) _ k l (λ x. same a tt (λ h. h.1)))
    up_keeps (AssignChain root chain op value_at) v k l fine sealed =
        after a (calm k l) (λ h. (tt, h.1)) (on_keeps a (flat l.around.cells v value_at) _ k l (λ x. same a tt (λ h. h.1)))
    up_keeps AssignedChain v k l fine sealed = same a tt (λ h. h.1)
    up_keeps (RootValue chain) v k l fine sealed = knowing a (λ i. after a (calm k l) (λ h. (tt, (h.1.0.1, h.1.1)))
        (on_keeps a (flat l.around.cells v (position_of chain.root)) _ k l (λ x. temporary_root a x chain k l i.1.0.0)))
    up_keeps (ChainEnd lender outer) v k l fine sealed = after a (calm (ChainEnd lender outer ∷ k) l) (λ h. (tt, h.1))
        (through a (chain_left a lender outer k l) (same a tt (λ h. h.1)))
    up_keeps (StepDown above step) v k l fine sealed = after a (calm (StepDown above step ∷ k) l) (λ h. (tt, h.1))
        (through a (step_left a above step k l) (same a tt (λ h. h.1)))
    up_keeps (PartAssigned above at op_at) v k l fine sealed = after a (calm (PartAssigned above at op_at ∷ k) l) (λ h. (tt, h.1))
        (part_assigned_keeps a s (put_back above at (focus_of l)) above at op_at k l)
    up_keeps (Measured op_at) v k l fine sealed = knowing a (λ i. after a (calm k l) (λ h. (tt, (h.1.0.1, h.1.1)))
        (on_keeps a (sized s.limits (as_measured l.around.cells (focus_of l)) op_at) _ k l (λ x. same a i.1.0.0 (λ h. h.1))))
    up_keeps (MethodLink chain) v k l fine sealed = given a (λ h. (tt, (h.1.0.1.0, h.1.0.0)))
        (λ h. ((h.1.1.1.0, (tt, h.1.0.1.1)), (h.1.1.0, (tt, h.1.1.1.1))))
    up_keeps (MemberLink access chain) v k l fine sealed = given a (λ h. (tt, (h.1.0.1.1.0, h.1.0.0)))
        (λ h. ((h.1.1.1.0, (h.1.0.1.0, h.1.0.1.1.1)), (h.1.1.0, (tt, h.1.1.1.1))))
    up_keeps (MemberGot access root new) v k l fine sealed =
        after a (calm (MemberOperated access l.focus new.op.position ∷ k) (focused_on (Some v) l))
        (λ h. (tt, ((h.1.1.1.0, (h.1.0.0, (h.1.0.1.0, h.1.0.1.1))), (h.1.1.0, (tt, h.1.1.1.1)))))
        (assign_focus_keeps a s root new _ (focused_on (Some v) l))
    up_keeps (MemberOperated access above op_at) v k l fine sealed = knowing a (λ i. after a (calm k (focused_on above l))
        (λ h. (tt, (h.1.0.1.1.1, (h.1.1.0, (h.1.0.0, h.1.1.1.1)))))
        (operated_on_keeps a s access.member access (focus_of l) op_at k (focused_on above l) i.1.0.1.0 i.1.0.1.1.0))
    up_keeps (MemberSet value) v k l fine sealed = given a (λ h. h.1.0.0) (λ h. (h.1.0.1, h.1.1))
    up_keeps (SetterTried access name value ignores) v k l fine sealed = same a tt (λ h. (h.1.0.1.1, h.1.1))
    up_keeps (Temporary above back) v k l fine sealed = same a tt (λ h. (h.1.0.1.1, (h.1.1.0, (h.1.0.0, h.1.1.1.1))))
    up_keeps (PartMethod above at pos) v k l fine sealed = same a tt (λ h. (h.1.0.1, (h.1.1.0, (h.1.0.0, h.1.1.1.1))))
    up_keeps (ForBody loop rest turn base) v k l fine sealed = given a (λ h. h.1.0.0) (λ h. (h.1.0.1, h.1.1))
    up_keeps _ v k l fine sealed = same a tt (λ h. h.1)

    -- a value comes up as `Changed`
    comes_changed_keeps : (frame : Frame H) (v : Dynamic H) (k : List (Frame H)) (l : Local H) →
        Keeps a (core (Changed v) (frame ∷ k) l) (changed_up_core s frame v k l)
    comes_changed_keeps (StepDown above step) v k l = knowing a (λ i. after a (calm (StepDown above step ∷ k) l) (λ h. (tt, h.1))
        (through a (step_left a above step k l) (same a i.0 (λ h. h.1))))
    comes_changed_keeps (Temporary above back) v k l = knowing a (λ i. after a (calm k (focused_on above l))
        (λ h. (tt, (h.1.0.1.1, (h.1.1.0, (h.1.0.0, h.1.1.1.1)))))
        (temporary_keeps a s back (focus_of l) v k (focused_on above l) i.1.0.1.0 i.0))
    comes_changed_keeps (PartMethod above at pos) v k l = part_changed_keeps a s (put_back above at (focus_of l)) above at pos v k l
    comes_changed_keeps (GetterTried access name) v k l = given a (λ h. h.0) (λ h. h.1)
    comes_changed_keeps (SetterTried access name value ignores) v k l = given a (λ h. h.0) (λ h. (h.1.0.1.1, h.1.1))
    comes_changed_keeps (IndexerTried otherwise) v k l = given a (λ h. h.0) (λ h. h.1)
    comes_changed_keeps _ v k l = same a tt (λ h. h.1)

    -- an error comes down
    down_keeps : (frame : Frame H) (e : EvalAltResult H) (k : List (Frame H)) (l : Local H) →
        Keeps a (core (Fail e) (frame ∷ k) l) (down_core s frame e k l)
    down_keeps (Top map_exit) e k l = after a (calm k l) (λ h. (tt, h.1)) (ended_keeps a (script_ended map_exit e) k l)
    down_keeps (WhileBody test body) e k l =
        after a (calm k l) (λ h. (tt, h.1)) (caught_keeps (WhileTurn test body) e k l (same a tt (λ h. h.1)))
    down_keeps (DoBody test body options) e k l =
        after a (calm k l) (λ h. (tt, h.1)) (caught_keeps (DoTurn test body options) e k l (same a tt (λ h. h.1)))
    down_keeps (ForBody loop rest turn base) e k l = knowing a (λ i. after a (calm k l) (λ h. (tt, (h.1.0.1, h.1.1)))
        (caught_keeps (ForTurn loop rest (turn + 1) base) e k l (same a i.1.0.0 (λ h. h.1))))
    down_keeps (RestoreList saved) e k l = same a tt (λ h. scope_left a saved.scope_length k l h.1)
    down_keeps (RestoreScope length) e k l = same a tt (λ h. scope_left a length k l h.1)
    down_keeps (TryBody variable branch) e k l =
        after a (calm k l) (λ h. (tt, h.1)) (tried_keeps a s (is_catchable e) (catch_variable (out-Expr variable)) e branch k l)
    down_keeps (PrintedPart text type part_at rest) e k l =
        after a (calm k l) (λ h. (tt, h.1)) (unprinted_keeps (is_system e) e text type part_at rest k l)
    down_keeps (CallEnd exit) e k l = after a (calm (CallEnd exit ∷ k) l) (λ h. (tt, h.1))
        (through a (call_left a exit k l) (ended_keeps a (returned exit e) k (called_back exit l)))
    down_keeps (ChainEnd lender outer) e k l = after a (calm (ChainEnd lender outer ∷ k) l) (λ h. (tt, h.1))
        (through a (chain_left a lender outer k l) (same a tt (λ h. h.1)))
    down_keeps (StepDown above step) e k l = after a (calm (StepDown above step ∷ k) l) (λ h. (tt, h.1))
        (through a (step_left a above step k l) (same a tt (λ h. h.1)))
    down_keeps (Temporary above back) e k l = same a tt (λ h. (h.1.0.1.1, (h.1.1.0, (h.1.0.0, h.1.1.1.1))))
    down_keeps (PartMethod above at pos) e k l = same a tt (λ h. (h.1.0.1, (h.1.1.0, (h.1.0.0, h.1.1.1.1))))
    down_keeps (PartAssigned above at op_at) e k l = same a tt (λ h. (h.1.0.1, (h.1.1.0, (h.1.0.0, h.1.1.1.1))))
    down_keeps (MemberOperated access above op_at) e k l = same a tt (λ h. (h.1.0.1.1.1, (h.1.1.0, (h.1.0.0, h.1.1.1.1))))
    down_keeps (CallArgument purpose made argument_at rest) e k l = same a tt (λ h. (h.1.0.1, h.1.1))
    down_keeps (RootValue chain) e k l = same a tt (λ h. (h.1.0.1, h.1.1))
    down_keeps (MethodLink chain) e k l = same a tt (λ h. (h.1.0.1.1, h.1.1))
    down_keeps (MemberLink access chain) e k l = same a tt (λ h. (h.1.0.1.1.1, h.1.1))
    down_keeps (MemberSet value) e k l = same a tt (λ h. (h.1.0.1, h.1.1))
    down_keeps (Measured op_at) e k l = same a tt (λ h. (h.1.0.1, h.1.1))
    down_keeps (MemberGot access root new) e k l = knowing a (λ i. after a (calm k l) (λ h. (tt, (h.1.0.1.1, h.1.1)))
        (got_none_keeps a s (lacks_indexer e) access.member e access new k l i.1.0.0 i.1.0.1.0))
    down_keeps (GetterTried access name) e k l =
        after a (calm k l) (λ h. (tt, h.1)) (getter_missing_keeps a (lacks_property e) e access name k l)
    down_keeps (SetterTried access name v ignores) e k l = knowing a (λ i. after a (calm k l) (λ h. (tt, (h.1.0.1.1, h.1.1)))
        (setter_missing_keeps a (lacks_property e) e access name v ignores k l i.1.0.0 i.1.0.1.0))
    down_keeps (IndexerTried otherwise) e k l =
        after a (calm k l) (λ h. (tt, h.1)) (indexer_missing_keeps a (lacks_indexer e) e otherwise k l)
    down_keeps _ e k l = same a tt (λ h. h.1)

    define_keeps : (shadows full : Bool) (ident : Ident) (value : Expr) (index : Option NonZeroUsize) (options : ASTFlags)
        (restoring : Bool)
        (pos : Position) (k : List (Frame H)) (l : Local H) →
        Keeps a (calm k l) (define_core s shadows full ident value index options restoring pos k l)
    define_keeps true full ident value index options restoring pos k l = same a tt (λ h. h.1)
    define_keeps false true ident value index options restoring pos k l = same a tt (λ h. h.1)
    define_keeps false false ident value index options restoring pos k l = same a tt (λ h. h.1)

    -- a function is entered
    body_keeps : (stmts : List Stmt) (e : Entered H) (k : List (Frame H)) (l : Local H) →
        Keeps a (core (EnterFunction e) k l) (body_core stmts e k l)
    body_keeps [] e k l = same a tt (λ h. h.1)
    body_keeps (stmt ∷ stmts) e k l = function_entered a e stmt stmts k l

    full_keeps : (deep full : Bool) (e : Entered H) (k : List (Frame H)) (l : Local H) →
        Keeps a (core (EnterFunction e) k l) (unless_deep deep full e k l)
    full_keeps true full e k l = same a tt (λ h. h.1)
    full_keeps false true e k l = same a tt (λ h. h.1)
    full_keeps false false e k l = body_keeps (statements_of e.def.body) e k l

    stmt_keeps : (form : StmtLayer) (restoring : Bool) (k : List (Frame H)) (l : Local H) →
        Moves a (core (OpenStmt form restoring) k l) (stmt_move s form restoring k l)
    stmt_keeps (layer.Noop pos) restoring k l = same a tt (λ h. h.1)
    stmt_keeps (layer.Expr value) restoring k l = same a tt (λ h. h.1)
    stmt_keeps (layer.Stmt::FnCall call pos) restoring k l = same a tt (λ h. h.1)
    stmt_keeps (layer.Block block) restoring k l = same a tt (λ h. h.1)
    stmt_keeps (layer.Assignment op lhs rhs) restoring k l =
        assignment_keeps a (out-Expr lhs) op rhs (core (OpenStmt (layer.Assignment op lhs rhs) restoring) k l) k l
        (same a tt (λ h. h.1))
    stmt_keeps (layer.Var ident value index options pos) restoring k l = after a (calm k l) (λ h. (tt, h.1))
        (define_keeps (not s.offer.allow_shadowing && is_some (index_of ident.name l.scope))
        (is_none index && nat_le s.limits.max_variables (length l.scope)) ident value index options restoring pos k l)
    stmt_keeps (layer.If test body branch pos) restoring k l = same a tt (λ h. h.1)
    stmt_keeps (layer.Switch value results cases ranges default pos) restoring k l = same a tt (λ h. h.1)
    stmt_keeps (layer.For variable counter items body pos) restoring k l = after a (calm k l) (λ h. (tt, h.1))
        (for_keeps a s (has_no_room s.limits (loop_of variable counter items body) l) (loop_of variable counter items body) k l)
    stmt_keeps (layer.TryCatch body variable branch pos) restoring k l = same a tt (λ h. h.1)
    stmt_keeps (layer.Export ident alias pos) restoring k l = after a (calm k l) (λ h. (tt, h.1))
        (export_keeps a (index_of ident.name l.scope) ident alias k l)
    stmt_keeps (layer.Import path alias pos) restoring k l = after a (calm k l) (λ h. (tt, h.1))
        (import_keeps a (nat_le s.limits.max_modules l.around.num_modules_loaded) path alias pos k l)
    stmt_keeps (layer.Share variables) restoring k l = same a tt (λ h. h.1)
    stmt_keeps (layer.While test body pos) restoring k l = same a tt (λ h. h.1)
    stmt_keeps (layer.Do test body options pos) restoring k l = same a tt (λ h. h.1)
    stmt_keeps (layer.BreakLoop value options pos) restoring k l =
        after a (calm k l) (λ h. (tt, h.1)) (break_keeps value (has_option 2 options) pos k l)
    stmt_keeps (layer.Return value options pos) restoring k l =
        return_keeps (has_option 2 options) value pos (core (OpenStmt (layer.Return value options pos) restoring) k l) k l
        (same a tt (λ h. h.1))

    -- what is known of a move's core is known of the move
    moves_knowing : (c : Core H) (v : Move H (Core H)) → (Inv a c → Moves a c v) → Moves a c v
    moves_knowing c Halt f = tt
    moves_knowing c (Go d) f = knowing a f
    moves_knowing c (Charge at d) f = knowing a f
    moves_knowing c (Native q g) f = λ h. f h h
    moves_knowing c (AskPure q g) f = knowing a f

    -- each move that does not replace the constant
    pub move_keeps : (named : s.host_type ≡ a.of.host) (c : Control H) (k : List (Frame H)) (l : Local H) →
        replaces_at a.of.index c k l ≡ false → AreSealed l.around.cells → Moves a (core c k l) (move_at s c k l)
    move_keeps named (Eval e) k l fine sealed = same a tt (λ h. h.1)
    move_keeps named (Exec stmt restoring) k l fine sealed = same a tt (λ h. h.1)
    move_keeps named (Ask call) k l fine sealed = given a (λ h. h.0) (λ h. h.1)
    move_keeps named (Assign assignment v) k l fine sealed = same a tt (λ h. h.1)
    move_keeps named (AskUpdate u) k l fine sealed = given a (λ h. h.0) (λ h. h.1)
    move_keeps named (Argument e) k l fine sealed = argument_keeps (literal_of (out-Expr e)) e k l
    move_keeps named (CallNamed operation curried args captures alone) k l fine sealed =
        named_keeps a s operation curried args captures alone k l
    move_keeps named (EnterFunction e) k l fine sealed = full_keeps (nat_lt s.limits.max_call_levels e.level)
        (nat_lt s.limits.max_variables (length (variables_before e.is_fresh l.scope) + length e.def.params)) e k l
    move_keeps named (AssignThis op pos v) k l fine sealed = same a tt (λ h. h.1)
    move_keeps named (Question call) k l fine sealed = question_keeps a s named call k l
    move_keeps named (Fire call) k l fine sealed = fire_keeps a s named call k l
    move_keeps named (QuestionUpdate u) k l fine sealed = knowing a (λ h. barred_keeps a s (is_barred _ u.target) u k l h.0)
    move_keeps named (FireUpdate u) k l fine sealed = moves_knowing _ _ (λ h. fire_update_keeps a s u k l h.0)
    move_keeps named (OpenExpr form) k l fine sealed = expr_keeps s.offer.fast_operators form k l
    move_keeps named (OpenStmt form restoring) k l fine sealed = stmt_keeps form restoring k l
    move_keeps named (Enter stmts restoring) k l fine sealed = enter_keeps stmts restoring k l
    move_keeps named (Run stmts restoring last) k l fine sealed = run_keeps stmts restoring last k l
    move_keeps named (Store assignment v) k l fine sealed =
        after a (calm k l) (λ h. (tt, h.1))
        (store_keeps a s (target_of (globals_of s.offer) l.around l.scope (variable_of_assignment assignment)) assignment v k l refl)
    move_keeps named (StoreThis op pos v) k l fine sealed = after a (calm k l) (λ h. (tt, h.1)) (store_this_keeps a s op pos v k l)
    move_keeps named (WhileTurn test body) k l fine sealed = while_keeps (is_endless (out-Expr test)) body.statements test body k l
    move_keeps named (DoTurn test body options) k l fine sealed = same a tt (λ h. h.1)
    move_keeps named (Choose candidates default) k l fine sealed =
        after a (calm k l) (λ h. (tt, h.1)) (choose_keeps a candidates default k l)
    move_keeps named (ForTurn loop left turn base) k l fine sealed = moves_knowing _ _
        (λ h. for_turn_keeps a (next_turn left) loop.body.statements loop left turn base k l h.0)
    move_keeps named (ForItem loop item rest turn base) k l fine sealed = knowing a (λ i.
        after a (calm k l) (λ h. (tt, h.1)) (item_keeps a loop item rest turn base k l i.0))
    move_keeps named (Share variables) k l fine sealed = after a (calm k l) (λ h. (tt, h.1)) (share_keeps a variables k l fine)
    move_keeps named (OpenChain chain) k l fine sealed = open_keeps a (link_of chain.rest) chain k l
    move_keeps named (ChainArguments chain rest made) k l fine sealed = moves_knowing _ _
        (λ h. asked_keeps a s (link_of rest) chain rest made k l h.0)
    move_keeps named (ChainRoot chain) k l fine sealed = moves_knowing _ _ (λ h. root_keeps a (out-Expr chain.root) chain k l h.0)
    move_keeps named (ReadRoot variable chain) k l fine sealed = read_root_keeps a (globals_of s.offer) variable chain k l
    move_keeps named (Walk chain) k l fine sealed = moves_knowing _ _ (λ h. walk_keeps a s (link_of chain.rest) chain k l h.0)
    move_keeps named (Locate link chain) k l fine sealed = knowing a (λ h. locate_keeps a s link chain k l h.0)
    move_keeps named (Changed v) [] l fine sealed = same a tt (λ h. h.1)
    move_keeps named (Changed v) (frame ∷ k) l fine sealed = comes_changed_keeps frame v k l
    move_keeps named (Back v) [] l fine sealed = tt
    move_keeps named (Back v) (frame ∷ k) l fine sealed = up_keeps frame v k l fine sealed
    move_keeps named (Fail e) [] l fine sealed = tt
    move_keeps named (Fail e) (frame ∷ k) l fine sealed = down_keeps frame e k l
