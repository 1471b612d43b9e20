-- Each move keeps it.
use Rattle.std.proofs.Common.{refl, arith}
use Rattle.std.proofs.lemmas.Bool.Decides.{nat_tests}
use Rattle.std.specs.Prelude.{◌≡◌, ◌≤◌, ◌+◌, nat_lt, length, Bool, true, false, List, [], ◌∷◌, ◌++◌, Some}
use Rattle.rhai_machine.specs.Types.{Dynamic, EvalAltResult, out-Expr, Stmt}
use Rattle.rhai_tree.specs.Positions.{position_of}
use Rattle.rhai_errors.specs.Errors.{is_catchable, is_system}
use Rattle.rhai_spots.specs.PutBack.{put_back}
use Rattle.rhai_machine.specs.language.Setting.{Setting, globals_of}
use Rattle.rhai_machine.specs.language.State.{Local}
use Rattle.rhai_machine.specs.language.Values.{flat, through, truth}
use Rattle.rhai_machine.specs.language.Places.{is_barred, target_of, this_target}
use Rattle.rhai_machine.specs.language.Activations.{Entered}
use Rattle.rhai_machine.specs.language.Turns.{next_turn}
use Rattle.rhai_machine.specs.language.Links.{link_of}
use Rattle.rhai_machine.specs.language.Frames.{Control, Frame, Argument, CallNamed}
use Rattle.rhai_machine.specs.language.Frames.{EnterFunction, Question, Fire, QuestionUpdate, FireUpdate, OpenExpr}
use Rattle.rhai_machine.specs.language.Frames.{OpenStmt, Enter, Run, Store, StoreThis, WhileTurn, DoTurn, Choose, ForTurn, ForItem, Share}
use Rattle.rhai_machine.specs.language.Frames.{OpenChain, ChainArguments, ChainRoot, ReadRoot, Walk, Locate, Back, Changed, Fail}
use Rattle.rhai_machine.specs.language.Frames.{StatementValue, DefineValue, ImportPath, IfCondition, RestOfList, RestoreList, Top}
use Rattle.rhai_machine.specs.language.Frames.{UnaryOperand, LeftOperand, RightOperand, CallArgument, KeywordArgument, AndPart, OrPart}
use Rattle.rhai_machine.specs.language.Frames.{CoalescePart, ArrayItem, EntryValue, TextPart, PrintedPart, AssignValue, AssignThisValue}
use Rattle.rhai_machine.specs.language.Frames.{WhileCondition, WhileBody, DoCondition, DoBody, SwitchValue, SwitchCondition, ForItems}
use Rattle.rhai_machine.specs.language.Frames.{ForBody, RestoreScope, TryBody, ReturnValue, ThrowValue, AssignChain, RootValue, ChainEnd}
use Rattle.rhai_machine.specs.language.Frames.{Temporary, PartMethod, PartAssigned, Measured, MemberGot, MemberOperated}
use Rattle.rhai_machine.specs.language.Frames.{GetterTried, SetterTried, IndexerTried, CallEnd}
use Rattle.rhai_machine.specs.language.Bodies.{statements_of, variables_before, body_core, returned, unless_deep, called_back}
use Rattle.rhai_machine.specs.language.Data.{with_item, with_value, printed}
use Rattle.rhai_machine.specs.language.Expressions.{literal_of}
use Rattle.rhai_machine.specs.language.Calls.{builtin_of, call_of, sized}
use Rattle.rhai_machine.specs.language.Arguments.{flattens, taken}
use Rattle.rhai_machine.specs.language.Assignment.{variable_of_assignment}
use Rattle.rhai_machine.specs.language.Statements.{has_option}
use Rattle.rhai_machine.specs.language.Loops.{is_endless}
use Rattle.rhai_machine.specs.language.Imports.{module_meant}
use Rattle.rhai_machine.specs.language.Tries.{catch_variable}
use Rattle.rhai_machine.specs.language.Members.{focus_of, focused_on, lacks_property, lacks_indexer}
use Rattle.rhai_machine.specs.language.Unwinding.{up_core, down_core, changed_up_core, script_ended, as_measured}
use Rattle.rhai_machine.specs.language.Language.{move_at}
use Rattle.rhai_limits.proofs.Keeping.{Asked, Allowed, Calm, At, Good, Moves, none_added, stopped, on_keeps, ended_keeps, shortened}
use Rattle.rhai_limits.proofs.Keeping.{call_left, function_entered}
use Rattle.rhai_limits.proofs.Calls.{fire_keeps, question_keeps, operator_keeps, arguments_keep, named_keeps, keyword_keeps}
use Rattle.rhai_limits.proofs.Calls.{store_keeps, barred_keeps, fire_update_keeps}
use Rattle.rhai_limits.proofs.Forms.{argument_keeps, and_next_keeps, or_next_keeps, coalesce_next_keeps, items_keep, entries_keep}
use Rattle.rhai_limits.proofs.Forms.{part_keeps, joined_keeps, unprinted_keeps, expr_keeps, while_keeps, while_core_keeps, do_keeps}
use Rattle.rhai_limits.proofs.Forms.{caught_keeps, chosen_keeps, met_keeps, choose_keeps, for_turn_keeps, item_keeps, share_keeps}
use Rattle.rhai_limits.proofs.Forms.{enter_keeps, run_keeps, undefined, defined_keeps, walked_keeps, tried_keeps, stmt_keeps}
use Rattle.rhai_limits.proofs.Chains.{open_keeps, asked_keeps, root_keeps, read_root_keeps, walk_keeps, locate_keeps, chain_left}
use Rattle.rhai_limits.proofs.Chains.{assign_focus_keeps, operated_on_keeps, part_assigned_keeps, part_changed_keeps, temporary_keeps}
use Rattle.rhai_limits.proofs.Chains.{got_none_keeps, getter_missing_keeps, setter_missing_keeps, indexer_missing_keeps}

module _ {H : Type 0} (a : Asked) (s : Setting H) (allowed : Allowed a s.limits) where
  -- a value comes up
  up_keeps : (frame : Frame H) (v : Dynamic H) (k : List (Frame H)) (l : Local H) → Calm a (frame ∷ k) l → Good a (up_core s frame v k l)
  up_keeps (StatementValue at) v k l h = ended_keeps a (flat l.around.cells v at) k l h
  up_keeps (DefineValue ident index options restoring value_at) v k l h =
      defined_keeps a (flat l.around.cells v value_at) ident index options restoring value_at k l h
  up_keeps (ImportPath alias path_at starts_at) v k l h =
      on_keeps a (module_meant s.host_type l.around.cells s.offer.modules v path_at starts_at) _ k l h (λ m. h)
  up_keeps (IfCondition test_at body branch) v k l h =
      on_keeps a (truth s.host_type l.around.cells v test_at) _ k l h (λ holds. chosen_keeps a holds body branch k l h)
  up_keeps (RestoreList saved) v k l h = shortened a s.limits allowed saved.scope_length k l.around.level l.scope h
  up_keeps (UnaryOperand operation operand_at) v k l h = on_keeps a (flat l.around.cells v operand_at) _ k l h
      (λ x. operator_keeps a s (builtin_of operation.token (x ∷ [])) (call_of operation (x ∷ [])) k l h)
  up_keeps (LeftOperand operation left_at right) v k l h = on_keeps a (flat l.around.cells v left_at) _ k l h (λ x. h)
  up_keeps (RightOperand operation left right_at) v k l h = on_keeps a (flat l.around.cells v right_at) _ k l h
      (λ y. operator_keeps a s (builtin_of operation.token (left ∷ y ∷ [])) (call_of operation (left ∷ y ∷ [])) k l h)
  up_keeps (CallArgument purpose made argument_at rest) v k l h =
      on_keeps a (taken (flattens purpose) l.around.cells v argument_at) _ k l h
      (λ x. arguments_keep a s purpose (made ++ x ∷ []) rest k l h)
  up_keeps (KeywordArgument keyword call_at start rest captures) v k l h = keyword_keeps a s keyword call_at start rest captures v k l h
  up_keeps (AndPart part_at rest) v k l h =
      on_keeps a (truth s.host_type l.around.cells v part_at) _ k l h (λ holds. and_next_keeps a holds rest k l h)
  up_keeps (OrPart part_at rest) v k l h =
      on_keeps a (truth s.host_type l.around.cells v part_at) _ k l h (λ holds. or_next_keeps a holds rest k l h)
  up_keeps (CoalescePart part_at rest) v k l h = coalesce_next_keeps a (through l.around.cells v part_at) v rest k l h
  up_keeps (ArrayItem made item_at rest) v k l h = on_keeps a (with_item s.limits made (flat l.around.cells v item_at) item_at) _ k l h
      (λ items. items_keep a items rest k l h)
  up_keeps (EntryValue keys made value_at rest) v k l h =
      on_keeps a (with_value s.limits made (flat l.around.cells v value_at) value_at) _ k l h
      (λ values. entries_keep a keys values rest k l h)
  up_keeps (TextPart text part_at rest) v k l h =
      on_keeps a (flat l.around.cells v part_at) _ k l h (λ x. joined_keeps a s x.value x text part_at rest k l h)
  up_keeps (PrintedPart text type part_at rest) v k l h = part_keeps a s text (printed v.value type) part_at rest k l h
  up_keeps (AssignValue assignment value_at) v k l h = on_keeps a (flat l.around.cells v value_at) _ k l h (λ x. h)
  up_keeps (AssignThisValue op at value_at) v k l h = on_keeps a (flat l.around.cells v value_at) _ k l h (λ x. h)
  up_keeps (CallEnd exit) v k l h = call_left a exit k l h
  up_keeps (WhileCondition test body) v k l h =
      on_keeps a (truth s.host_type l.around.cells v (position_of test)) _ k l h (λ holds. while_core_keeps a holds test body k l h)
  up_keeps (DoCondition test body options) v k l h =
      do_keeps a (truth s.host_type l.around.cells v (position_of test)) (has_option 1 options) (DoTurn test body options) k l h h
  up_keeps (SwitchValue value_at choice) v k l h = on_keeps a (flat l.around.cells v value_at) _ k l h (λ x. h)
  up_keeps (SwitchCondition candidate rest default) v k l h =
      on_keeps a (truth s.host_type l.around.cells v (position_of candidate.condition)) _ k l h
      (λ holds. met_keeps a holds candidate rest default k l h)
  up_keeps (ForItems loop) v k l h = walked_keeps a s allowed (flat l.around.cells v (position_of loop.items)) loop k l h
  up_keeps (RestoreScope i) v k l h = shortened a s.limits allowed i k l.around.level l.scope h
  up_keeps (ReturnValue value_at at) v k l h = on_keeps a (flat l.around.cells v value_at) _ k l h (λ x. h)
  up_keeps (ThrowValue value_at at) v k l h = on_keeps a (flat l.around.cells v value_at) _ k l h (λ x. h)
  up_keeps (AssignChain root chain op value_at) v k l h = on_keeps a (flat l.around.cells v value_at) _ k l h (λ x. h)
  up_keeps (RootValue chain) v k l h = on_keeps a (flat l.around.cells v (position_of chain.root)) _ k l h (λ x. h)
  up_keeps (ChainEnd lender outer) v k l h = chain_left a lender outer k l h
  up_keeps (PartAssigned above at op_at) v k l h = part_assigned_keeps a s (put_back above at (focus_of l)) above at op_at k l h
  up_keeps (Measured op_at) v k l h = on_keeps a (sized s.limits (as_measured l.around.cells (focus_of l)) op_at) _ k l h (λ x. h)
  up_keeps (MemberGot access root new) v k l h =
      assign_focus_keeps a s root new (MemberOperated access l.focus new.op.position ∷ k) (focused_on (Some v) l) h
  up_keeps (MemberOperated access above op_at) v k l h =
      operated_on_keeps a s access.member access (focus_of l) op_at k (focused_on above l) h
  up_keeps _ v k l h = h

  -- a value comes up as `Changed`
  comes_changed_keeps : (frame : Frame H) (v : Dynamic H) (k : List (Frame H)) (l : Local H) → Calm a (frame ∷ k) l →
      Good a (changed_up_core s frame v k l)
  comes_changed_keeps (Temporary above back) v k l h = temporary_keeps a s back (focus_of l) v k (focused_on above l) h
  comes_changed_keeps (PartMethod above at pos) v k l h = part_changed_keeps a s (put_back above at (focus_of l)) above at pos v k l h
  comes_changed_keeps _ v k l h = h

  -- an error comes down
  down_keeps : (frame : Frame H) (e : EvalAltResult H) (k : List (Frame H)) (l : Local H) → Calm a (frame ∷ k) l →
      Good a (down_core s frame e k l)
  down_keeps (Top map_exit) e k l h = ended_keeps a (script_ended map_exit e) k l h
  down_keeps (CallEnd exit) e k l h = ended_keeps a (returned exit e) k (called_back exit l) (call_left a exit k l h)
  down_keeps (WhileBody test body) e k l h = caught_keeps a (WhileTurn test body) e k l h h
  down_keeps (DoBody test body options) e k l h = caught_keeps a (DoTurn test body options) e k l h h
  down_keeps (ForBody loop rest turn base) e k l h = caught_keeps a (ForTurn loop rest (turn + 1) base) e k l h h
  down_keeps (TryBody variable branch) e k l h =
      tried_keeps a s allowed (is_catchable e) (catch_variable (out-Expr variable)) e branch k l h
  down_keeps (PrintedPart text type part_at rest) e k l h = unprinted_keeps a s (is_system e) e text type part_at rest k l h
  down_keeps (MemberGot access root new) e k l h = got_none_keeps a s (lacks_indexer e) access.member e access new k l h
  down_keeps (GetterTried access name) e k l h = getter_missing_keeps a (lacks_property e) e access name k l h
  down_keeps (SetterTried access name v ignores) e k l h = setter_missing_keeps a (lacks_property e) e access name v ignores k l h
  down_keeps (IndexerTried otherwise) e k l h = indexer_missing_keeps a (lacks_indexer e) e otherwise k l h
  down_keeps (RestOfList rest restoring) e k l h = none_added a k l.around.level (length l.scope) h
  down_keeps (DefineValue ident index options restoring value_at) e k l h = undefined a index ident options restoring value_at k l h
  down_keeps (ForItems loop) e k l h = (h.0, h.1, h.2, h.3.1)
  down_keeps (RestoreList saved) e k l h = shortened a s.limits allowed saved.scope_length k l.around.level l.scope h
  down_keeps (RestoreScope i) e k l h = shortened a s.limits allowed i k l.around.level l.scope h
  down_keeps (ChainEnd lender outer) e k l h = chain_left a lender outer k l h
  down_keeps _ e k l h = h

  -- a function is entered where it fits
  body_keeps : (stmts : List Stmt) (e : Entered H) (k : List (Frame H)) (l : Local H) → e.level ≤ s.limits.max_call_levels →
      length (variables_before e.is_fresh l.scope) + length e.def.params ≤ s.limits.max_variables → At a (EnterFunction e) k l →
      Good a (body_core stmts e k l)
  body_keeps [] e k l deep few h = stopped a (EnterFunction e) k l h
  body_keeps (stmt ∷ stmts) e k l deep few h = function_entered a s.limits allowed e stmt stmts k l few deep h

  opened_keeps : (deep full : Bool) (e : Entered H) (k : List (Frame H)) (l : Local H) → nat_lt s.limits.max_call_levels e.level ≡ deep →
      nat_lt s.limits.max_variables (length (variables_before e.is_fresh l.scope) + length e.def.params) ≡ full →
      At a (EnterFunction e) k l → Good a (unless_deep deep full e k l)
  opened_keeps true full e k l too_deep too_many h = stopped a (EnterFunction e) k l h
  opened_keeps false true e k l too_deep too_many h = stopped a (EnterFunction e) k l h
  opened_keeps false false e k l too_deep too_many h =
      body_keeps (statements_of e.def.body) e k l (grind (arith, nat_tests)) (grind (arith, nat_tests)) h

  pub move_keeps : (c : Control H) (k : List (Frame H)) (l : Local H) → At a c k l → Moves a (move_at s c k l)
  move_keeps (Argument e) k l h = argument_keeps a (literal_of (out-Expr e)) e k l h
  move_keeps (CallNamed operation curried args captures alone) k l h = named_keeps a s operation curried args captures alone k l h
  move_keeps (EnterFunction e) k l h = opened_keeps (nat_lt s.limits.max_call_levels e.level)
      (nat_lt s.limits.max_variables (length (variables_before e.is_fresh l.scope) + length e.def.params)) e k l refl refl h
  move_keeps (Question call) k l h = question_keeps a s call call.args k l h
  move_keeps (Fire call) k l h = fire_keeps a s call call.args k l h
  move_keeps (QuestionUpdate u) k l h = λ pure. barred_keeps a s (is_barred pure u.target) u k l h
  move_keeps (FireUpdate u) k l h = fire_update_keeps a s u.target.value u k l h
  move_keeps (OpenExpr form) k l h = expr_keeps a s s.offer.fast_operators form k l h
  move_keeps (OpenStmt form restoring) k l h = stmt_keeps a s allowed form restoring k l h
  move_keeps (Enter stmts restoring) k l h = enter_keeps a stmts restoring k l h
  move_keeps (Run stmts restoring last) k l h = run_keeps a stmts restoring last k l h
  move_keeps (Store assignment v) k l h =
      store_keeps a s (target_of (globals_of s.offer) l.around l.scope (variable_of_assignment assignment)) assignment v k l h
  move_keeps (StoreThis op at v) k l h = store_keeps a s (this_target l.around.cells at l.this) _ v k l h
  move_keeps (WhileTurn test body) k l h = while_keeps a (is_endless (out-Expr test)) body.statements test body k l h
  move_keeps (Choose candidates default) k l h = choose_keeps a candidates default k l h
  move_keeps (ForTurn loop left turn base) k l h = for_turn_keeps a (next_turn left) loop.body.statements loop turn base k l h
  move_keeps (ForItem loop item rest turn base) k l h = item_keeps a loop item rest turn base k l h
  move_keeps (Share variables) k l h = share_keeps a variables k l h
  move_keeps (OpenChain chain) k l h = open_keeps a (link_of chain.rest) chain k l h
  move_keeps (ChainArguments chain rest made) k l h = asked_keeps a s (link_of rest) chain made k l h
  move_keeps (ChainRoot chain) k l h = root_keeps a (out-Expr chain.root) chain k l h
  move_keeps (ReadRoot variable chain) k l h = read_root_keeps a (globals_of s.offer) variable chain k l h
  move_keeps (Walk chain) k l h = walk_keeps a s (link_of chain.rest) chain k l h
  move_keeps (Locate link chain) k l h = locate_keeps a s link chain k l h
  move_keeps (Changed v) (frame ∷ k) l h = comes_changed_keeps frame v k l h
  move_keeps (Back v) [] l h = tt
  move_keeps (Back v) (frame ∷ k) l h = up_keeps frame v k l h
  move_keeps (Fail e) [] l h = tt
  move_keeps (Fail e) (frame ∷ k) l h = down_keeps frame e k l h
  move_keeps _ k l h = h
