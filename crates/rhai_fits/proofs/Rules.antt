-- Each rule leads from a core that fits to cores that fit.
use Rattle.std.proofs.Common.{◌+◌, ℕ, List, [], ◌∷◌, ◌++◌}
use Rattle.std.specs.Prelude.{⊤, Bool, Some}
use Rattle.rhai_tree.specs.Positions.{position_of}
use Rattle.rhai_machine.specs.Types.{Dynamic, EvalAltResult, out-Expr}
use Rattle.rhai_errors.specs.Errors.{is_catchable, is_system}
use Rattle.rhai_values.specs.ValueContents.{Reached}
use Rattle.rhai_spots.specs.PutBack.{put_back}
use Rattle.rhai_machine.specs.machine.Machine.{Move, Go}
use Rattle.rhai_machine.specs.language.Setting.{Setting, globals_of}
use Rattle.rhai_machine.specs.language.State.{Local}
use Rattle.rhai_machine.specs.language.Values.{flat, through, truth}
use Rattle.rhai_machine.specs.language.Cases.{candidates}
use Rattle.rhai_machine.specs.language.Links.{link_of}
use Rattle.rhai_machine.specs.language.Places.{target_of}
use Rattle.rhai_machine.specs.language.Expressions.{literal_of}
use Rattle.rhai_machine.specs.language.Loops.{is_endless}
use Rattle.rhai_machine.specs.language.Data.{with_item, with_value, printed}
use Rattle.rhai_machine.specs.language.Calls.{builtin_of, call_of, sized}
use Rattle.rhai_machine.specs.language.Bodies.{called_back, returned}
use Rattle.rhai_machine.specs.language.Arguments.{flattens, taken}
use Rattle.rhai_machine.specs.language.Assignment.{variable_of_assignment}
use Rattle.rhai_machine.specs.language.Statements.{has_option}
use Rattle.rhai_machine.specs.language.Tries.{catch_variable}
use Rattle.rhai_machine.specs.language.Members.{focus_of, lacks_property, lacks_indexer}
use Rattle.rhai_machine.specs.language.Frames.{Operation, Control, Frame, Core, on_value, Eval, Exec, Ask, Assign, AskUpdate, Argument}
use Rattle.rhai_machine.specs.language.Frames.{Question, Fire, QuestionUpdate, FireUpdate, OpenExpr, OpenStmt, Enter, Run, Store, StoreThis}
use Rattle.rhai_machine.specs.language.Frames.{WhileTurn, DoTurn, Back, Changed, Fail, CallNamed, EnterFunction, AssignThis}
use Rattle.rhai_machine.specs.language.Frames.{OpenChain, ChainArguments, ChainRoot, ReadRoot, Walk, Locate, Choose, ForTurn, ForItem}
use Rattle.rhai_machine.specs.language.Frames.{Share, StatementValue, DefineValue, IfCondition, RestOfList, Top, UnaryOperand, LeftOperand}
use Rattle.rhai_machine.specs.language.Frames.{RightOperand, AndPart, OrPart, CoalescePart, AssignValue, AssignThisValue, WhileCondition}
use Rattle.rhai_machine.specs.language.Frames.{WhileBody, DoCondition, DoBody, BreakValue, ReturnValue, ThrowValue, ArrayItem, EntryValue}
use Rattle.rhai_machine.specs.language.Frames.{TextPart, PrintedPart, CallArgument, KeywordArgument, AssignChain, AssignedChain, RootValue}
use Rattle.rhai_machine.specs.language.Frames.{StepDown, Temporary, PartMethod, PartAssigned, Measured, MethodLink, MemberLink, MemberGot}
use Rattle.rhai_machine.specs.language.Frames.{MemberOperated, GetterTried, SetterTried, IndexerTried, MemberSet, SwitchValue}
use Rattle.rhai_machine.specs.language.Frames.{SwitchCondition, ForItems, ForBody, ImportPath, TryBody, CatchBranch, CallEnd}
use Rattle.rhai_machine.specs.language.Unwinding.{up_core, down_core, changed_up_core, operands_there, as_measured, script_ended}
use Rattle.rhai_machine.specs.language.Language.{move_at}
use Rattle.rhai_fits.specs.Contents.{of_values, of_control}
use Rattle.rhai_fits.specs.Sealed.{ControlSealed}
use Rattle.rhai_fits.proofs.Values.{Fit, fit_unit}
use Rattle.rhai_fits.proofs.Literals.{fit_literal_of}
use Rattle.rhai_fits.proofs.Errors.{FitError, fit_error}
use Rattle.rhai_fits.proofs.Fitting.{AllFit, FitBelow, FitCore, FitOffer, Flat, to, back, fail, unit, push, on, ended_fits, values_joined}
use Rattle.rhai_fits.proofs.Fitting.{focus_of_fits, with_focus}
use Rattle.rhai_fits.proofs.Seeing.{FitValue, Any, flat_gives, flat_fits, through_gives, truth_gives}
use Rattle.rhai_fits.proofs.Names.{target_gives}
use Rattle.rhai_fits.proofs.Natives.{Moves}
use Rattle.rhai_fits.proofs.Calls.{function_good, call_left, returned_fits, builtin_fits, operator_good}
use Rattle.rhai_fits.proofs.Firing.{question_good, fire_good}
use Rattle.rhai_fits.proofs.Arguments.{taken_gives, arguments_good, named_call_good, keyword_good}
use Rattle.rhai_fits.proofs.Methods.{getter_good, setter_good, indexer_good}
use Rattle.rhai_fits.proofs.Assignments.{store_good, store_this_good, question_update_good, fire_update_good}
use Rattle.rhai_fits.proofs.Spots.{whole_fits}
use Rattle.rhai_fits.proofs.Chains.{a_chain, begun_alone, open_good, asked_good, root_good, read_root_good, walk_good, locate_good}
use Rattle.rhai_fits.proofs.Chains.{assign_focus_good}
use Rattle.rhai_fits.proofs.Forms.{met_good, choose_good, walked_good, for_turn_good, item_good, tried_good, share_good, Fresh}
use Rattle.rhai_fits.proofs.Statements.{enter_good, run_good, item_gives, value_gives, items_good, entries_good, part_good, joined_good}
use Rattle.rhai_fits.proofs.Statements.{unprinted_good, argument_good, and_next_good, or_next_good, coalesce_next_good, expr_good}
use Rattle.rhai_fits.proofs.Statements.{while_good, while_core_good, do_good, caught_good, imported_good, chosen_good, defined_good}
use Rattle.rhai_fits.proofs.Statements.{stmt_good}
use Rattle.rhai_fits.proofs.Leaving.{pop, refocus, left, step_left, topped_fits, raised_fits, sized_any, part_assigned_good}
use Rattle.rhai_fits.proofs.Leaving.{part_changed_good, operated_good, got_none_good, temporary_good}

module _ {H : Type 0} (own : H → List Reached) (P : Reached → Type 0) (least : ℕ) where
  -- a move that adds a cell leads to a store whose new numbers have the property
  abbrev pub FreshMove : Move H (Core H) → Type 0
  FreshMove (Go d) = Fresh own P least d.local
  FreshMove _ = ⊤

module _ {H : Type 0} (own : H → List Reached) (P : Reached → Type 0) (least : ℕ) (s : Setting H) (o : FitOffer own P least s.offer) where
  abbrev Good : Core H → Type 0
  Good c = FitCore own P least c

  abbrev Below : List (Frame H) → Local H → Type 0
  Below k l = FitBelow own P least k l

  abbrev All : List (Dynamic H) → Type 0
  All vs = AllFit own P least (of_values vs)

  -- a value that is flattened, seen through its handle, or looked at for its truth, leads on
  module _ (v : Dynamic H) (k : List (Frame H)) (l : Local H) (f : Fit own P v) (b : Below k l) where
    flat_on : (at : _) (go : Dynamic H → Core H) → ((x : Dynamic H) → Flat own P least x → Good (go x)) →
        Good (on_value (flat l.around.cells v at) go k l)
    flat_on at go g = on own P least (Flat own P least) (flat l.around.cells v at) go k l (flat_gives own P least l v at b.local f) b g

    truth_on : (at : _) (go : Bool → Core H) → ((x : Bool) → Good (go x)) → Good (on_value (truth s.host_type l.around.cells v at) go k l)
    truth_on at go g = on own P least (Any own P least Bool) (truth s.host_type l.around.cells v at) go k l
        (truth_gives own P least s.host_type l v at b.local f) b (λ x t. g x)

  operation_good : (operation : Operation) (args : List (Dynamic H)) (k : List (Frame H)) (l : Local H) → All args → Below k l →
      Good (operands_there s operation args k l)
  operation_good operation args k l h b = operator_good own P least s (builtin_of operation.token args) (call_of operation args) k l
      o (builtin_fits own P least operation.token args) h b

  -- ---- a value comes up

  up_good : (frame : Frame H) (v : Dynamic H) (k : List (Frame H)) (l : Local H) → Fit own P v → Below (frame ∷ k) l →
      Good (up_core s frame v k l)
  up_good (StatementValue at) v k l f b = ended_fits own P least (flat l.around.cells v at) k l
      (flat_fits own P least (flat l.around.cells v at) (flat_gives own P least l v at b.local f)) (pop own P least _ k l b.back b)
  up_good (DefineValue ident index options restoring value_at) v k l f b =
      let c = pop own P least _ k l b.back b in
      flat_on v k l f c value_at _ (λ x g. defined_good own P least x ident index options restoring k l g.0 c)
  up_good (ImportPath alias path_at starts_at) v k l f b =
      imported_good own P least s.host_type s.offer.modules alias v path_at starts_at k l o.1.1 f (pop own P least _ k l b.back b)
  up_good (IfCondition test_at body branch) v k l f b =
      let c = pop own P least _ k l b.back b in
      truth_on v k l f c test_at _ (λ holds. chosen_good own P least holds body branch k l c)
  up_good (RestOfList rest restoring) v k l f b = to own P least _ k l f tt (pop own P least _ k l b.back b)
  up_good (UnaryOperand operation operand_at) v k l f b =
      let c = pop own P least _ k l b.back b in
      flat_on v k l f c operand_at _ (λ x g. operation_good operation (x ∷ []) k l (g.0, tt) c)
  up_good (LeftOperand operation left_at right) v k l f b =
      let c = pop own P least _ k l b.back b in
      flat_on v k l f c left_at _ (λ x g. to own P least _ _ l tt tt (push own P least _ k l g.0 tt c.back c))
  up_good (RightOperand operation left right_at) v k l f b =
      let c = pop own P least _ k l b.back b in
      flat_on v k l f c right_at _ (λ y g. operation_good operation (left ∷ y ∷ []) k l (b.stack.0, (g.0, tt)) c)
  up_good (CallArgument purpose made argument_at rest) v k l f b =
      let c = pop own P least _ k l b.back b in
      on own P least (FitValue own P least) (taken (flattens purpose) l.around.cells v argument_at) _ k l
      (taken_gives own P least (flattens purpose) l v argument_at c.local f) c
      (λ x g. arguments_good own P least s o purpose (made ++ x ∷ []) rest k l b.stack.0.0 b.sealed.0
      (values_joined own P least made (x ∷ []) b.stack.0.1 (g, tt)) c)
  up_good (KeywordArgument keyword call_at start rest captures) v k l f b =
      keyword_good own P least s o keyword call_at start rest captures v k l f (pop own P least _ k l b.back b)
  up_good (AndPart part_at rest) v k l f b =
      let c = pop own P least _ k l b.back b in
      truth_on v k l f c part_at _ (λ holds. and_next_good own P least holds rest k l c)
  up_good (OrPart part_at rest) v k l f b =
      let c = pop own P least _ k l b.back b in
      truth_on v k l f c part_at _ (λ holds. or_next_good own P least holds rest k l c)
  up_good (CoalescePart part_at rest) v k l f b = coalesce_next_good own P least (through l.around.cells v part_at) v rest k l
      (through_gives own P least l v part_at b.local f) f (pop own P least _ k l b.back b)
  up_good (ArrayItem made item_at rest) v k l f b =
      let c = pop own P least _ k l b.back b in
      on own P least All (with_item s.limits made (flat l.around.cells v item_at) item_at) _ k l
      (item_gives own P least s.limits made (flat l.around.cells v item_at) item_at b.stack.0 (flat_gives own P least l v item_at c.local
      f)) c
      (λ items g. items_good own P least items rest k l g c)
  up_good (EntryValue keys made value_at rest) v k l f b =
      let c = pop own P least _ k l b.back b in
      on own P least All (with_value s.limits made (flat l.around.cells v value_at) value_at) _ k l
      (value_gives own P least s.limits made (flat l.around.cells v value_at) value_at b.stack.0
      (flat_gives own P least l v value_at c.local f)) c (λ values g. entries_good own P least keys values rest k l g c)
  up_good (TextPart text part_at rest) v k l f b =
      let c = pop own P least _ k l b.back b in
      flat_on v k l f c part_at _ (λ x g. joined_good own P least s x.value x text part_at rest k l g.0 c)
  up_good (PrintedPart text type part_at rest) v k l f b =
      part_good own P least s text (printed v.value type) part_at rest k l (pop own P least _ k l b.back b)
  up_good (AssignValue assignment value_at) v k l f b =
      let c = pop own P least _ k l b.back b in
      flat_on v k l f c value_at _ (λ x g. to own P least _ k l g.0 g.1 c)
  up_good (AssignThisValue op at value_at) v k l f b =
      let c = pop own P least _ k l b.back b in
      flat_on v k l f c value_at _ (λ x g. to own P least _ k l g.0 g.1 c)
  up_good (WhileCondition test body) v k l f b =
      let c = pop own P least _ k l b.back b in
      truth_on v k l f c (position_of test) _ (λ holds. while_core_good own P least holds test body k l c)
  up_good (WhileBody test body) v k l f b = to own P least _ k l tt tt (pop own P least _ k l b.back b)
  up_good (DoCondition test body options) v k l f b =
      let c = pop own P least _ k l b.back b in
      do_good own P least (truth s.host_type l.around.cells v (position_of test)) (has_option 1 options) (DoTurn test body options) k l
      (truth_gives own P least s.host_type l v (position_of test) c.local f) (to own P least _ k l tt tt c) c
  up_good (DoBody test body options) v k l f b =
      let c = pop own P least _ k l b.back b in
      to own P least _ _ l tt tt (push own P least _ k l tt tt c.back c)
  up_good (SwitchValue value_at choice) v k l f b =
      let c = pop own P least _ k l b.back b in
      flat_on v k l f c value_at _ (λ x g. to own P least _ k l tt tt c)
  up_good (SwitchCondition candidate rest default) v k l f b =
      let c = pop own P least _ k l b.back b in
      truth_on v k l f c (position_of candidate.condition) _ (λ holds. met_good own P least holds candidate rest default k l c)
  up_good (ForItems loop) v k l f b =
      let c = pop own P least _ k l b.back b in
      flat_on v k l f c (position_of loop.items) _ (λ x g. walked_good own P least x loop k l g.0 c)
  up_good (ForBody loop rest turn base) v k l f b = to own P least _ k l b.stack.0 tt (pop own P least _ k l b.back b)
  up_good (CatchBranch caught) v k l f b = unit own P least k l (pop own P least _ k l b.back b)
  up_good (BreakValue is_break at) v k l f b = fail own P least _ k l (fit_error own P _ f) (pop own P least _ k l b.back b)
  up_good (ReturnValue value_at at) v k l f b =
      let c = pop own P least _ k l b.back b in
      flat_on v k l f c value_at _ (λ x g. fail own P least _ k l (fit_error own P _ g.0) c)
  up_good (ThrowValue value_at at) v k l f b =
      let c = pop own P least _ k l b.back b in
      flat_on v k l f c value_at _ (λ x g. fail own P least _ k l (fit_error own P _ g.0) c)
  up_good (AssignChain root chain op value_at) v k l f b =
      let c = pop own P least _ k l b.back b in
      flat_on v k l f c value_at _ (λ x g. to own P least _ _ l (g.0, tt) g.1 (push own P least _ k l tt tt c.back c))
  up_good AssignedChain v k l f b = unit own P least k l (pop own P least _ k l b.back b)
  up_good (RootValue chain) v k l f b =
      let c = pop own P least _ k l b.back b in
      flat_on v k l f c (position_of chain.root) _
      (λ x g. begun_alone own P least x chain k l g.0 (a_chain own P least chain b.stack.0 b.sealed.0) c)
  up_good (PartAssigned above at op_at) v k l f b = part_assigned_good own P least s (put_back above at (focus_of l)) above at op_at k l
      (whole_fits own P least above at (focus_of l) b.stack.0) b
  up_good (Measured op_at) v k l f b =
      let c = pop own P least _ k l b.back b in
      on own P least (Any own P least (Dynamic H)) (sized s.limits (as_measured l.around.cells (focus_of l)) op_at) _ k l
      (sized_any own P least s (as_measured l.around.cells (focus_of l)) op_at) c (λ x g. to own P least _ k l (fit_unit own P) tt c)
  up_good (MethodLink chain) v k l f b = to own P least _ _ _ b.stack.0 b.sealed.0 (record {
    stack = ((b.local.focus, tt), b.stack.1);
    sealed = (tt, b.sealed.1);
    back = b.back;
    local = with_focus own P least l (Some v) b.local f;
  })
  up_good (MemberLink access chain) v k l f b = to own P least _ _ _ b.stack.0.1 b.sealed.0 (record {
    stack = ((b.local.focus, b.stack.0.0), b.stack.1);
    sealed = (tt, b.sealed.1);
    back = b.back;
    local = with_focus own P least l (Some v) b.local f;
  })
  up_good (MemberGot access root new) v k l f b = assign_focus_good own P least s o root new _ _ (b.stack.0.1, b.sealed.0) (record {
    stack = ((b.stack.0.0, b.local.focus), b.stack.1);
    sealed = (tt, b.sealed.1);
    back = b.back;
    local = with_focus own P least l (Some v) b.local f;
  })
  up_good (MemberOperated access above op_at) v k l f b = operated_good own P least s access.member access (focus_of l) op_at k _
      b.stack.0.0 (focus_of_fits own P least l b.local) (refocus own P least _ above k l b.stack.0.1 b.back b)
  up_good (MemberSet value) v k l f b = to own P least _ k l b.stack.0 tt (pop own P least _ k l b.back b)
  up_good frame v k l f b = back own P least v k _ f (left own P least frame k l b)

  -- ---- a value comes up as `Changed`

  comes_changed_good : (frame : Frame H) (v : Dynamic H) (k : List (Frame H)) (l : Local H) → Fit own P v → Below (frame ∷ k) l →
      Good (changed_up_core s frame v k l)
  comes_changed_good (StepDown above step) v k l f b = to own P least _ k _ f tt (step_left own P least above step k l b)
  comes_changed_good (Temporary above back) v k l f b = temporary_good own P least s back (focus_of l) v k _ b.stack.0.1
      (focus_of_fits own P least l b.local) f (refocus own P least _ above k l b.stack.0.0 b.back b)
  comes_changed_good (PartMethod above at pos) v k l f b =
      part_changed_good own P least s (put_back above at (focus_of l)) above at pos v k l
      (whole_fits own P least above at (focus_of l) b.stack.0) f b
  comes_changed_good (GetterTried access name) v k l f b = to own P least _ k l f tt (pop own P least _ k l b.back b)
  comes_changed_good (SetterTried access name value ignores) v k l f b = to own P least _ k l f tt (pop own P least _ k l b.back b)
  comes_changed_good (IndexerTried otherwise) v k l f b = to own P least _ k l f tt (pop own P least _ k l b.back b)
  comes_changed_good frame v k l f b = back own P least v (frame ∷ k) l f b

  -- ---- an error comes down

  down_good : (frame : Frame H) (e : EvalAltResult H) (k : List (Frame H)) (l : Local H) → FitError own P e → Below (frame ∷ k) l →
      Good (down_core s frame e k l)
  down_good (Top map_exit) e k l h b =
      ended_fits own P least (script_ended map_exit e) k l (topped_fits own P least map_exit e h) (pop own P least _ k l b.back b)
  down_good (CallEnd exit) e k l h b = ended_fits own P least (returned exit e) k (called_back exit l) (returned_fits own P least exit e h)
      (call_left own P least exit k l b)
  down_good (WhileBody test body) e k l h b =
      let c = pop own P least _ k l b.back b in
      caught_good own P least (WhileTurn test body) e k l h (to own P least _ k l tt tt c) c
  down_good (DoBody test body options) e k l h b =
      let c = pop own P least _ k l b.back b in
      caught_good own P least (DoTurn test body options) e k l h (to own P least _ k l tt tt c) c
  down_good (ForBody loop rest turn base) e k l h b =
      let c = pop own P least _ k l b.back b in
      caught_good own P least (ForTurn loop rest (turn + 1) base) e k l h (to own P least _ k l b.stack.0 tt c) c
  down_good (TryBody variable branch) e k l h b = tried_good own P least s (is_catchable e) (catch_variable (out-Expr variable)) e branch
      k l h
      (pop own P least _ k l b.back b)
  down_good (CatchBranch caught) e k l h b = fail own P least _ k l (raised_fits own P least l.around.cells caught e b.stack.0 h)
      (pop own P least _ k l b.back b)
  down_good (PrintedPart text type part_at rest) e k l h b =
      unprinted_good own P least s (is_system e) e text type part_at rest k l h (pop own P least _ k l b.back b)
  down_good (MemberGot access root new) e k l h b = got_none_good own P least s (lacks_indexer e) access.member e access new k l
      b.stack.0.0 h
      b.stack.0.1 (pop own P least _ k l b.back b)
  down_good (GetterTried access name) e k l h b =
      getter_good own P least (lacks_property e) e access name k l h (pop own P least _ k l b.back b)
  down_good (SetterTried access name v ignores) e k l h b =
      setter_good own P least (lacks_property e) e access name v ignores k l h b.stack.0.1 (pop own P least _ k l b.back b)
  down_good (IndexerTried otherwise) e k l h b =
      indexer_good own P least (lacks_indexer e) e otherwise k l h b.stack.0 (pop own P least _ k l b.back b)
  down_good frame e k l h b = fail own P least e k _ h (left own P least frame k l b)

  -- ---- each move

  pub move_good : (c : Control H) (k : List (Frame H)) (l : Local H) → AllFit own P least (of_control c) → ControlSealed c → Below k l →
      FreshMove own P least (move_at s c k l) → Moves own P least (move_at s c k l)
  move_good (Eval e) k l h z b new = to own P least _ k l tt tt b
  move_good (Exec stmt restoring) k l h z b new = to own P least _ k l tt tt b
  move_good (Ask call) k l h z b new = to own P least _ k l h tt b
  move_good (EnterFunction e) k l h z b new = function_good own P least s.limits e k l h b
  move_good (Assign assignment v) k l h z b new = to own P least _ k l h z b
  move_good (AssignThis op at v) k l h z b new = to own P least _ k l h z b
  move_good (AskUpdate u) k l h z b new = to own P least _ k l h tt b
  move_good (Argument e) k l h z b new = argument_good own P least (literal_of (out-Expr e)) e k l (fit_literal_of own P (out-Expr e)) b
  move_good (CallNamed operation curried args captures alone) k l h z b new =
      named_call_good own P least s o operation curried args captures alone k l h b
  move_good (Question call) k l h z b new = question_good own P least s call call.args k l h h b
  move_good (Fire call) k l h z b new = fire_good own P least s call call.args k l h b
  move_good (QuestionUpdate u) k l h z b new = question_update_good own P least s u k l h b
  move_good (FireUpdate u) k l h z b new = fire_update_good own P least s u k l h b
  move_good (OpenExpr form) k l h z b new = expr_good own P least s o s.offer.fast_operators form k l b
  move_good (OpenStmt form restoring) k l h z b new = stmt_good own P least s form restoring k l b
  move_good (Enter stmts restoring) k l h z b new = enter_good own P least stmts restoring k l b
  move_good (Run stmts restoring last) k l h z b new = run_good own P least stmts restoring last k l h b
  move_good (Store assignment v) k l h z b new = store_good own P least s
      (target_of (globals_of s.offer) l.around l.scope (variable_of_assignment assignment)) assignment v k l
      (target_gives own P least (globals_of s.offer) (o.0, o.1.0) (variable_of_assignment assignment) l b.local) (h, z) b
  move_good (StoreThis op at v) k l h z b new = store_this_good own P least s op at v k l (h, z) b
  move_good (WhileTurn test body) k l h z b new = while_good own P least (is_endless (out-Expr test)) body.statements test body k l b
  move_good (DoTurn test body options) k l h z b new = to own P least _ _ l tt tt (push own P least _ k l tt tt b.back b)
  move_good (Choose candidates default) k l h z b new = choose_good own P least candidates default k l b
  move_good (ForTurn loop turns turn base) k l h z b new = for_turn_good own P least turns loop.body.statements loop turn base k l h b
  move_good (ForItem loop item rest turn base) k l h z b new = item_good own P least loop item rest turn base k l h.0 h.1 b
  move_good (Share variables) k l h z b new = share_good own P least variables k l b new
  move_good (OpenChain chain) k l h z b new = open_good own P least (link_of chain.rest) chain k l (a_chain own P least chain h z) b
  move_good (ChainArguments chain rest made) k l h z b new =
      asked_good own P least s (link_of rest) chain made k l o (a_chain own P least chain h.0 z) h.1 b
  move_good (ChainRoot chain) k l h z b new = root_good own P least (out-Expr chain.root) chain k l (a_chain own P least chain h z) b
  move_good (ReadRoot variable chain) k l h z b new = read_root_good own P least (globals_of s.offer) variable chain k l (o.0, o.1.0)
      (a_chain own P least chain h z) b
  move_good (Walk chain) k l h z b new = walk_good own P least s o (link_of chain.rest) chain k l (a_chain own P least chain h z) b
  move_good (Locate link chain) k l h z b new = locate_good own P least s o link chain k l (a_chain own P least chain h z) b
  move_good (Back v) [] l h z b new = tt
  move_good (Back v) (frame ∷ k) l h z b new = up_good frame v k l h b
  move_good (Changed v) [] l h z b new = back own P least v [] l h b
  move_good (Changed v) (frame ∷ k) l h z b new = comes_changed_good frame v k l h b
  move_good (Fail e) [] l h z b new = tt
  move_good (Fail e) (frame ∷ k) l h z b new = down_good frame e k l h b
