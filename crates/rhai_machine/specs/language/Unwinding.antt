-- What a frame does with a value that comes up, and with an error that comes down.
use Rattle.std.specs.Prelude.{◌+◌, Bool, true, false, List, [], ◌∷◌, ◌++◌, take, Option, Some, None, Result, Ok, Err}
use Rattle.std.specs.Option.{unwrap_or}
use Rattle.rhai_machine.specs.Types.{Dynamic, EvalAltResult, out-Expr, Position, Union}
use Rattle.rhai_tree.specs.Positions.{position_of}
use Rattle.rhai_values.specs.declared.base.value.Union.TheVariants as value
use Rattle.rhai_values.specs.Cells.{value_of_cell}
use Rattle.rhai_values.specs.Layers.{layer_of}
use Rattle.rhai_values.specs.TypeNames.{own_type_name}
use Rattle.rhai_spots.specs.declared.spot.Spot.{Spot}
use Rattle.rhai_spots.specs.PutBack.{put_back, wanted}
use Rattle.rhai_spots.specs.Paths.{Rooted, gone_back}
use Rattle.rhai_errors.specs.declared.error.EvalAltResult.TheVariants as error
use Rattle.rhai_errors.specs.Errors.{is_catchable, is_system, mismatch}
use Rattle.rhai_machine.specs.language.Setting.{Setting}
use Rattle.rhai_machine.specs.language.State.{Local}
use Rattle.rhai_machine.specs.language.Values.{Cells, flat, through, truth, unit_value}
use Rattle.rhai_machine.specs.language.Places.{put}
use Rattle.rhai_machine.specs.language.Cases.{candidates, default_of}
use Rattle.rhai_machine.specs.language.Turns.{turns_of}
use Rattle.rhai_machine.specs.language.Frames.{Operation, Lender, NewValue, Member, Property, Item, MemberAccess, Control, Frame, Core}
use Rattle.rhai_machine.specs.language.Frames.{core, chain_on, on_value, ended, Assign, AssignThis, AssignThisValue, CallEnd, Eval}
use Rattle.rhai_machine.specs.language.Frames.{Argument, Run}
use Rattle.rhai_machine.specs.language.Frames.{WhileTurn, DoTurn, OpenChain, Walk, Back, Changed}
use Rattle.rhai_machine.specs.language.Frames.{Fail, StatementValue, DefineValue, IfCondition, RestOfList, RestoreList, Top, UnaryOperand}
use Rattle.rhai_machine.specs.language.Frames.{LeftOperand, RightOperand, AndPart, OrPart, CoalescePart, AssignValue, WhileCondition}
use Rattle.rhai_machine.specs.language.Frames.{WhileBody, DoCondition, DoBody, BreakValue, ReturnValue, ArrayItem, EntryValue}
use Rattle.rhai_machine.specs.language.Frames.{TextPart, PrintedPart, CallArgument, KeywordArgument, AssignChain, AssignedChain, RootValue}
use Rattle.rhai_machine.specs.language.Frames.{ChainEnd, StepDown, Temporary, PartMethod, PartAssigned, Measured, MethodLink, MemberLink}
use Rattle.rhai_machine.specs.language.Frames.{MemberGot, MemberOperated, GetterTried, SetterTried, IndexerTried, MemberSet}
use Rattle.rhai_machine.specs.language.Frames.{Choose, ForTurn, SwitchValue, SwitchCondition, ForItems, ForBody, RestoreScope, TryBody}
use Rattle.rhai_machine.specs.language.Frames.{CatchBranch, ImportPath, ThrowValue}
use Rattle.rhai_machine.specs.language.Imports.{importing, module_meant, name_asked}
use Rattle.rhai_machine.specs.language.Data.{with_item, with_value, items_core, entries_core, joined_core, part_core, printed}
use Rattle.rhai_machine.specs.language.Data.{unprinted_core}
use Rattle.rhai_machine.specs.language.Expressions.{and_next, or_next, coalesce_next}
use Rattle.rhai_machine.specs.language.Bodies.{called_back, returned}
use Rattle.rhai_machine.specs.language.Calls.{builtin_of, call_of, operator_core, place_of, sized}
use Rattle.rhai_machine.specs.language.Arguments.{arguments_core, flattens, keyword_core, taken}
use Rattle.rhai_machine.specs.language.Statements.{has_option, chosen_core, defined_core, restored_by}
use Rattle.rhai_machine.specs.language.Choices.{met_core}
use Rattle.rhai_machine.specs.language.Loops.{while_core, do_control, caught}
use Rattle.rhai_machine.specs.language.Walks.{started_core}
use Rattle.rhai_machine.specs.language.Caught.{raised}
use Rattle.rhai_machine.specs.language.Tries.{catch_variable, tried_core}
use Rattle.rhai_machine.specs.language.Members.{focus_of, focused_on, set_core, lacks_property, lacks_indexer, getter_missing}
use Rattle.rhai_machine.specs.language.Members.{setter_missing}
use Rattle.rhai_machine.specs.language.Members.{indexer_missing}
use Rattle.rhai_machine.specs.language.Chains.{assign_focus, begun_core}

module _ {H : Type 0} where
  -- ---- what a frame takes back as it is left

  -- the local state with a value as the focus, and the cells that it goes with
  abbrev pub gone_up : Rooted H → Local H → Local H
  gone_up root l = record l { focus = Some root.value; around = record l.around { cells = root.cells } }

  -- the local state as a chain ends: its focus goes back to who lent the root, and the focus before it comes back
  abbrev pub ended_chain : (lender : Option Lender) → (outer : Option (Dynamic H)) → Local H → Local H
  ended_chain None outer l = focused_on outer l
  ended_chain (Some lender) outer l = focused_on outer (put (place_of lender) (focus_of l) l)

  -- the local state as a frame is left: what a list, a statement, a call or a link of a chain has to take back is taken back
  abbrev pub restored : Frame H → Local H → Local H
  restored (RestoreList saved) l = restored_by saved l
  restored (RestoreScope length) l = record l { scope = take length l.scope }
  restored (CallEnd exit) l = called_back exit l
  restored (ChainEnd lender outer) l = ended_chain lender outer l
  restored (StepDown above step) l = gone_up (gone_back above step (record { value = focus_of l; cells = l.around.cells })) l
  restored (Temporary above back) l = focused_on above l
  restored (PartMethod above at pos) l = focused_on (Some above) l
  restored (PartAssigned above at op_at) l = focused_on (Some above) l
  restored (MemberOperated access above op_at) l = focused_on above l
  restored _ l = l

  -- a value as it is measured, by its kind: of a handle the value of its cell, unless that is held
  abbrev pub looked_at_in : Cells H → Union H → Dynamic H → Dynamic H
  looked_at_in cells (value.Cell id) v = unwrap_or (value_of_cell cells id.number) v
  looked_at_in cells _ v = v

  -- a value as it is measured, seen through a handle
  abbrev pub as_measured : Cells H → Dynamic H → Dynamic H
  as_measured cells v = looked_at_in cells v.value v

  -- what comes of an error at a script's end: a `return` gives its value, and so does an exit where that is asked
  abbrev pub script_ended : (map_exit : Bool) → EvalAltResult H → Result (Dynamic H) (EvalAltResult H)
  script_ended map_exit (error.Return v at) = Ok v
  script_ended true (error.Exit v at) = Ok v
  script_ended map_exit e = Err e

  -- an assignment in a chain ends as a change, once what was assigned to is measured
  abbrev pub measured_part : Result (Dynamic H) (EvalAltResult H) → Control H
  measured_part (Ok v) = Changed unit_value
  measured_part (Err e) = Fail e

module _ {H : Type 0} (s : Setting H) where
  -- the operands of an operator are there
  abbrev pub operands_there : Operation → List (Dynamic H) → List (Frame H) → Local H → Core H
  operands_there operation args k l = operator_core s (builtin_of operation.token args) (call_of operation args) k l

  -- the error that a part is of another type than the one that was read, and can not be put back
  abbrev pub put_back_error : Spot → (part : Dynamic H) → Position → EvalAltResult H
  put_back_error at part pos = mismatch (wanted at) (own_type_name s.host_type part.value) pos

  -- a part that was assigned to is put back into the value above, and measured then
  abbrev pub part_assigned : Option (Dynamic H) → (above : Dynamic H) → Spot → (op_at : Position) → List (Frame H) → Local H → Core H
  part_assigned (Some whole) above at op_at k l =
      core (measured_part (sized s.limits (focus_of l) op_at)) k (focused_on (Some whole) l)
  part_assigned None above at op_at k l = core (Fail (put_back_error at (focus_of l) op_at)) k (focused_on (Some above) l)

  -- a part that a method may have changed is put back into the value above
  abbrev pub part_changed : Option (Dynamic H) → (above : Dynamic H) → Spot → Position → Dynamic H → List (Frame H) → Local H → Core H
  part_changed (Some whole) above at pos v k l = core (Changed v) k (focused_on (Some whole) l)
  part_changed None above at pos v k l = core (Fail (put_back_error at (focus_of l) pos)) k (focused_on (Some above) l)

  -- a member that an operator worked on is set, an item once it is measured
  abbrev pub operated_core : Member H → MemberAccess H → Dynamic H → (op_at : Position) → List (Frame H) → Local H → Core H
  operated_core (Property name at) access v op_at k l = set_core false access v k l
  operated_core (Item index) access v op_at k l =
      on_value (sized s.limits v op_at) (λ x. set_core false access x (MemberSet unit_value ∷ k) l) k l

  -- where an operator gets no member: an item that has no indexer is set to the right side as it is, and any other error comes down
  abbrev pub got_none : (lacks : Bool) → Member H → EvalAltResult H → MemberAccess H → NewValue H → List (Frame H) → Local H → Core H
  got_none true (Item index) e access new k l = set_core false access new.value (MemberSet unit_value ∷ k) l
  got_none _ member e access new k l = core (Fail e) k l

  -- what a frame does with a value that comes up to it
  abbrev pub up_core : Frame H → Dynamic H → List (Frame H) → Local H → Core H
  up_core (StatementValue at) v k l = core (ended (flat l.around.cells v at)) k l
  up_core (DefineValue ident index options restoring value_at) v k l =
      on_value (flat l.around.cells v value_at) (λ x. defined_core x ident index options restoring k l) k l
  up_core (ImportPath alias path_at starts_at) v k l =
      on_value (module_meant s.host_type l.around.cells s.offer.modules v path_at starts_at)
      (λ m. core (Back unit_value) k (importing (name_asked alias) m l)) k l
  up_core (IfCondition test_at body branch) v k l =
      on_value (truth s.host_type l.around.cells v test_at) (λ holds. chosen_core holds body branch k l) k l
  up_core (RestOfList rest restoring) v k l = core (Run rest restoring v) k l
  up_core (UnaryOperand operation operand_at) v k l =
      on_value (flat l.around.cells v operand_at) (λ x. operands_there operation (x ∷ []) k l) k l
  up_core (LeftOperand operation left_at right) v k l = on_value (flat l.around.cells v left_at)
      (λ x. core (Argument right) (RightOperand operation x (position_of right) ∷ k) l) k l
  up_core (RightOperand operation left right_at) v k l =
      on_value (flat l.around.cells v right_at) (λ y. operands_there operation (left ∷ y ∷ []) k l) k l
  up_core (CallArgument purpose made argument_at rest) v k l =
      on_value (taken (flattens purpose) l.around.cells v argument_at) (λ x. arguments_core s purpose (made ++ x ∷ []) rest k l) k l
  up_core (KeywordArgument keyword call_at start rest captures) v k l = keyword_core s keyword call_at start rest captures v k l
  up_core (AndPart part_at rest) v k l = on_value (truth s.host_type l.around.cells v part_at) (λ holds. and_next holds rest k l) k l
  up_core (OrPart part_at rest) v k l = on_value (truth s.host_type l.around.cells v part_at) (λ holds. or_next holds rest k l) k l
  up_core (CoalescePart part_at rest) v k l = coalesce_next (through l.around.cells v part_at) v rest k l
  up_core (ArrayItem made item_at rest) v k l =
      on_value (with_item s.limits made (flat l.around.cells v item_at) item_at) (λ items. items_core items rest k l) k l
  up_core (EntryValue keys made value_at rest) v k l =
      on_value (with_value s.limits made (flat l.around.cells v value_at) value_at) (λ values. entries_core keys values rest k l) k l
  up_core (TextPart text part_at rest) v k l =
      on_value (flat l.around.cells v part_at) (λ x. joined_core s x.value x text part_at rest k l) k l
  up_core (PrintedPart text type part_at rest) v k l = part_core s text (printed v.value type) part_at rest k l
  up_core (AssignValue assignment value_at) v k l = on_value (flat l.around.cells v value_at) (λ x. core (Assign assignment x) k l) k l
  up_core (AssignThisValue op at value_at) v k l =
      on_value (flat l.around.cells v value_at) (λ x. core (AssignThis op at x) k l) k l
  up_core (WhileCondition test body) v k l =
      on_value (truth s.host_type l.around.cells v (position_of test)) (λ holds. while_core holds test body k l) k l
  up_core (WhileBody test body) v k l = core (WhileTurn test body) k l
  up_core (DoCondition test body options) v k l =
      core (do_control (truth s.host_type l.around.cells v (position_of test)) (has_option 1 options) (DoTurn test body options)) k l
  up_core (DoBody test body options) v k l = core (Eval test) (DoCondition test body options ∷ k) l
  up_core (SwitchValue value_at choice) v k l =
      on_value (flat l.around.cells v value_at) (λ x. core (Choose (candidates choice x) (default_of choice)) k l) k l
  up_core (SwitchCondition candidate rest default) v k l =
      on_value (truth s.host_type l.around.cells v (position_of candidate.condition)) (λ holds. met_core holds candidate rest default k l) k
      l
  up_core (ForItems loop) v k l =
      on_value (flat l.around.cells v (position_of loop.items)) (λ x. started_core (turns_of (layer_of x)) loop k l) k l
  up_core (ForBody loop rest turn base) v k l = core (ForTurn loop rest (turn + 1) base) k l
  up_core (CatchBranch caught) v k l = core (Back unit_value) k l
  up_core (BreakValue is_break at) v k l = core (Fail (error.LoopBreak v is_break at)) k l
  up_core (ReturnValue value_at at) v k l = on_value (flat l.around.cells v value_at) (λ x. core (Fail (error.Return x at)) k l) k l
  up_core (ThrowValue value_at at) v k l =
      on_value (flat l.around.cells v value_at) (λ x. core (Fail (error.ErrorRuntime x at)) k l) k l
  up_core (AssignChain root chain op value_at) v k l = on_value (flat l.around.cells v value_at)
      (λ x. core (OpenChain (chain_on root chain (Some (record { op = op; value = x })))) (AssignedChain ∷ k) l) k l
  up_core AssignedChain v k l = core (Back unit_value) k l
  up_core (RootValue chain) v k l =
      on_value (flat l.around.cells v (position_of chain.root)) (λ x. begun_core false None x chain k l) k l
  up_core (PartAssigned above at op_at) v k l = part_assigned (put_back above at (focus_of l)) above at op_at k l
  up_core (Measured op_at) v k l =
      on_value (sized s.limits (as_measured l.around.cells (focus_of l)) op_at) (λ x. core (Changed unit_value) k l) k l
  up_core (MethodLink chain) v k l = core (Walk chain) (Temporary l.focus None ∷ k) (focused_on (Some v) l)
  up_core (MemberLink access chain) v k l = core (Walk chain) (Temporary l.focus (Some access) ∷ k) (focused_on (Some v) l)
  up_core (MemberGot access root new) v k l =
      assign_focus s root new (MemberOperated access l.focus new.op.position ∷ k) (focused_on (Some v) l)
  up_core (MemberOperated access above op_at) v k l = operated_core access.member access (focus_of l) op_at k (focused_on above l)
  up_core (MemberSet value) v k l = core (Changed value) k l
  up_core frame v k l = core (Back v) k (restored frame l)

  -- What a frame does with an error that comes down to it. All but the ends of scripts and of functions, the bodies of loops, a `try` and
  -- its branch, a printed part, and natives that may be missing take back what they have to, and pass it on.
  abbrev pub down_core : Frame H → EvalAltResult H → List (Frame H) → Local H → Core H
  down_core (Top map_exit) e k l = core (ended (script_ended map_exit e)) k l
  down_core (CallEnd exit) e k l = core (ended (returned exit e)) k (called_back exit l)
  down_core (WhileBody test body) e k l = core (caught (WhileTurn test body) e) k l
  down_core (DoBody test body options) e k l = core (caught (DoTurn test body options) e) k l
  down_core (ForBody loop rest turn base) e k l = core (caught (ForTurn loop rest (turn + 1) base) e) k l
  down_core (TryBody variable branch) e k l = tried_core s (is_catchable e) (catch_variable (out-Expr variable)) e branch k l
  down_core (CatchBranch caught) e k l = core (Fail (raised l.around.cells caught e)) k l
  down_core (PrintedPart text type part_at rest) e k l = unprinted_core s (is_system e) e text type part_at rest k l
  down_core (MemberGot access root new) e k l = got_none (lacks_indexer e) access.member e access new k l
  down_core (GetterTried access name) e k l = getter_missing (lacks_property e) e access name k l
  down_core (SetterTried access name v ignores) e k l = setter_missing (lacks_property e) e access name v ignores k l
  down_core (IndexerTried otherwise) e k l = indexer_missing (lacks_indexer e) e otherwise k l
  down_core frame e k l = core (Fail e) k (restored frame l)

  -- a temporary that may have changed is set in the value above, where it has a way back
  abbrev pub temporary_changed : Option (MemberAccess H) → (temporary v : Dynamic H) → List (Frame H) → Local H → Core H
  temporary_changed None temporary v k l = core (Changed v) k l
  temporary_changed (Some access) temporary v k l = set_core true access temporary (MemberSet v ∷ k) l

  -- What a frame does with a value that comes up as that of a change. The change goes on where the focus goes back to a place, and past a
  -- native that was tried; a part or a temporary goes back because of it; any other frame forgets it.
  abbrev pub changed_up_core : Frame H → Dynamic H → List (Frame H) → Local H → Core H
  changed_up_core (StepDown above step) v k l = core (Changed v) k (restored (StepDown above step) l)
  changed_up_core (Temporary above back) v k l = temporary_changed back (focus_of l) v k (focused_on above l)
  changed_up_core (PartMethod above at pos) v k l = part_changed (put_back above at (focus_of l)) above at pos v k l
  changed_up_core (GetterTried access name) v k l = core (Changed v) k l
  changed_up_core (SetterTried access name value ignores) v k l = core (Changed v) k l
  changed_up_core (IndexerTried otherwise) v k l = core (Changed v) k l
  changed_up_core frame v k l = core (Back v) (frame ∷ k) l
