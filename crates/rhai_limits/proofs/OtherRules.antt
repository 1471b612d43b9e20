-- Under other limits each step is the same, or one of the two fails.
use Rattle.std.proofs.Common.{refl, inl, inr}
use Rattle.std.specs.declared.num.NonZeroUsize.{NonZeroUsize}
use Rattle.std.specs.Prelude.{ℕ, ◌+◌, nat_lt, nat_le, length, Bool, true, false, not, ◌&&◌, List, [], ◌∷◌, ◌++◌, Option, Some, None}
use Rattle.std.specs.Prelude.{Result, Ok, Err, is_some, is_none}
use Rattle.rhai_machine.specs.Types.{ASTFlags, Dynamic, EvalAltResult, Expr, Ident, Limits, out-Expr, Position, StmtBlock, Union}
use Rattle.rhai_tree.specs.declared.expr.Expr.TheOpen as layer
use Rattle.rhai_tree.specs.Layers.{ExprLayer, StmtLayer}
use Rattle.rhai_values.specs.declared.base.value.Union.TheVariants as value
use Rattle.rhai_errors.specs.declared.error.EvalAltResult.TheVariants as error
use Rattle.rhai_state.specs.Scope.{index_of}
use Rattle.rhai_errors.specs.Errors.{is_catchable, is_system}
use Rattle.rhai_spots.specs.PutBack.{put_back}
use Rattle.rhai_machine.specs.language.Setting.{Setting, globals_of}
use Rattle.rhai_machine.specs.language.State.{Local}
use Rattle.rhai_machine.specs.language.Values.{flat}
use Rattle.rhai_machine.specs.language.Places.{target_of, this_target}
use Rattle.rhai_machine.specs.language.Activations.{Entered}
use Rattle.rhai_machine.specs.language.Links.{link_of}
use Rattle.rhai_machine.specs.language.Frames.{Control, Frame, CallNamed}
use Rattle.rhai_machine.specs.language.Frames.{EnterFunction, Question, Fire, QuestionUpdate, FireUpdate, OpenExpr}
use Rattle.rhai_machine.specs.language.Frames.{OpenStmt, Store, StoreThis}
use Rattle.rhai_machine.specs.language.Frames.{ChainArguments, Walk, Locate, Back, Changed, Fail}
use Rattle.rhai_machine.specs.language.Frames.{UnaryOperand, RightOperand, CallArgument, KeywordArgument}
use Rattle.rhai_machine.specs.language.Frames.{ArrayItem, EntryValue, TextPart, PrintedPart}
use Rattle.rhai_machine.specs.language.Frames.{TryBody}
use Rattle.rhai_machine.specs.language.Frames.{Temporary, PartMethod, PartAssigned, Measured, MemberGot, MemberOperated}
use Rattle.rhai_machine.specs.language.Bodies.{variables_before, unless_deep}
use Rattle.rhai_machine.specs.language.Data.{with_item, with_value, printed}
use Rattle.rhai_machine.specs.language.Calls.{builtin_of, call_of}
use Rattle.rhai_machine.specs.language.Arguments.{flattens, taken}
use Rattle.rhai_machine.specs.language.Assignment.{variable_of_assignment}
use Rattle.rhai_machine.specs.language.Tries.{catch_variable}
use Rattle.rhai_machine.specs.language.Members.{focus_of, focused_on, lacks_indexer}
use Rattle.rhai_machine.specs.language.Unwinding.{up_core, down_core, changed_up_core, as_measured}
use Rattle.rhai_machine.specs.language.Language.{move_at}
use Rattle.rhai_machine.specs.language.Turns.{ForLoop}
use Rattle.rhai_machine.specs.language.Caught.{caught_value, thrown}
use Rattle.rhai_machine.specs.language.Data.{array_of, entry_sizes, joined_core, part_core, text_of}
use Rattle.rhai_machine.specs.language.Data.{unprinted_core}
use Rattle.rhai_machine.specs.language.Expressions.{expr_move}
use Rattle.rhai_machine.specs.language.Imports.{import_core}
use Rattle.rhai_machine.specs.language.Statements.{define_core, loop_of, stmt_move}
use Rattle.rhai_machine.specs.language.Tries.{branch_with, tried_core}
use Rattle.rhai_machine.specs.language.Walks.{for_core, has_no_room}
use Rattle.rhai_limits.specs.OtherLimits.{LimitsOnlyFail, SameMove, SameOrLimited}
use Rattle.rhai_limits.proofs.OtherSizes.{SameResult, on_one, on_same, same_move, sized_same, sizes_same, within_same}
use Rattle.rhai_limits.proofs.OtherCalls.{arguments_same, call_same, fire_same, fire_update_same, keyword_same, named_move_same}
use Rattle.rhai_limits.proofs.OtherCalls.{operator_same}
use Rattle.rhai_limits.proofs.OtherCalls.{question_same, question_update_same, store_same}
use Rattle.rhai_limits.proofs.OtherChains.{asked_same, assign_focus_same, got_none_same, locate_same, operated_same, part_assigned_same}
use Rattle.rhai_limits.proofs.OtherChains.{part_changed_same, temporary_same, walk_same}

module _ {H : Type 0} where
  -- ---- tests of numbers

  deep_same : (deep also full too : Bool) (e : Entered H) (k : List (Frame H)) (l : Local H) →
      SameOrLimited (unless_deep deep full e k l) (unless_deep also too e k l)
  deep_same true also full too e k l = inr (inl (error.ErrorStackOverflow e.at, refl, refl))
  deep_same false true full too e k l = inr (inr (error.ErrorStackOverflow e.at, refl, refl))
  deep_same false false true too e k l = inr (inl (error.ErrorTooManyVariables e.at, refl, refl))
  deep_same false false false true e k l = inr (inr (error.ErrorTooManyVariables e.at, refl, refl))
  deep_same false false false false e k l = inl refl

  for_same : (full too : Bool) (loop : ForLoop) (k : List (Frame H)) (l : Local H) →
      SameOrLimited (for_core full loop k l) (for_core too loop k l)
  for_same true too loop k l = inr (inl (error.ErrorTooManyVariables loop.variable.pos, refl, refl))
  for_same false true loop k l = inr (inr (error.ErrorTooManyVariables loop.variable.pos, refl, refl))
  for_same false false loop k l = inl refl

  import_same : (full too : Bool) (path : Expr) (alias : Option Ident) (at : Position) (k : List (Frame H)) (l : Local H) →
      SameOrLimited (import_core full path alias at k l) (import_core too path alias at k l)
  import_same true too path alias at k l = inr (inl (error.ErrorTooManyModules at, refl, refl))
  import_same false true path alias at k l = inr (inr (error.ErrorTooManyModules at, refl, refl))
  import_same false false path alias at k l = inl refl

  branch_same : (full too : Bool) (name : Ident) (v : Dynamic H) (e : EvalAltResult H) (branch : StmtBlock) (k : List (Frame H))
      (l : Local H) → SameOrLimited (branch_with full name v e branch k l) (branch_with too name v e branch k l)
  branch_same true too name v e branch k l = inr (inl (error.ErrorTooManyVariables name.pos, refl, refl))
  branch_same false true name v e branch k l = inr (inr (error.ErrorTooManyVariables name.pos, refl, refl))
  branch_same false false name v e branch k l = inl refl

module _ {H : Type 0} (s : Setting H) (limits : Limits) where
  abbrev other : Setting H
  other = record s { limits = limits }

  define_same : (shadows full too : Bool) (ident : Ident) (v : Expr) (index : Option NonZeroUsize) (options : ASTFlags)
      (restoring : Bool) (at : Position) (k : List (Frame H)) (l : Local H) →
      SameOrLimited (define_core s shadows full ident v index options restoring at k l)
      (define_core other shadows too ident v index options restoring at k l)
  define_same true full too ident v index options restoring at k l = inl refl
  define_same false true too ident v index options restoring at k l = inr (inl (error.ErrorTooManyVariables at, refl, refl))
  define_same false false true ident v index options restoring at k l = inr (inr (error.ErrorTooManyVariables at, refl, refl))
  define_same false false false ident v index options restoring at k l = inl refl

  tried_same : (catches : Bool) (name : Option Ident) (e : EvalAltResult H) (branch : StmtBlock) (k : List (Frame H)) (l : Local H) →
      SameOrLimited (tried_core s catches name e branch k l) (tried_core other catches name e branch k l)
  tried_same true (Some name) e branch k l = branch_same (nat_le s.limits.max_variables (length l.scope))
      (nat_le limits.max_variables (length l.scope)) name (caught_value (thrown e) l.around.source e) e branch k l
  tried_same true None e branch k l = inl refl
  tried_same false name e branch k l = inl refl

  -- ---- arrays, maps and texts

  item_same : (made : List (Dynamic H)) (r : Result (Dynamic H) (EvalAltResult H)) (at : Position) →
      SameResult (with_item s.limits made r at) (with_item limits made r at)
  item_same made (Ok x) at = within_same s.limits limits (array_of (made ++ x ∷ [])) (made ++ x ∷ []) at
  item_same made (Err e) at = inl refl

  value_same : (made : List (Dynamic H)) (r : Result (Dynamic H) (EvalAltResult H)) (at : Position) →
      SameResult (with_value s.limits made r at) (with_value limits made r at)
  value_same made (Ok x) at = sizes_same s.limits limits (entry_sizes (made ++ x ∷ [])) (made ++ x ∷ []) at
  value_same made (Err e) at = inl refl

  text_same : (text part : List ℕ) (at : Position) (rest : List Expr) (k : List (Frame H)) (l : Local H) →
      SameOrLimited (part_core s text part at rest k l) (part_core other text part at rest k l)
  text_same text part at rest k l = on_same _ _ (within_same s.limits limits (text_of (text ++ part)) (text ++ part) at) _ _
      (λ more. inl refl) k l

  joined_same : (u : Union H) (v : Dynamic H) (text : List ℕ) (at : Position) (rest : List Expr) (k : List (Frame H)) (l : Local H) →
      SameOrLimited (joined_core s u v text at rest k l) (joined_core other u v text at rest k l)
  joined_same (value.Str part) v text at rest k l = text_same text part at rest k l
  joined_same _ v text at rest k l = inl refl

  unprinted_same : (system : Bool) (e : EvalAltResult H) (text type : List ℕ) (at : Position) (rest : List Expr) (k : List (Frame H))
      (l : Local H) →
      SameOrLimited (unprinted_core s system e text type at rest k l) (unprinted_core other system e text type at rest k l)
  unprinted_same true e text type at rest k l = inl refl
  unprinted_same false e text type at rest k l = text_same text type at rest k l

  -- ---- forms

  expr_same : (fast : Bool) (form : ExprLayer) (k : List (Frame H)) (l : Local H) →
      SameMove (expr_move s fast form k l) (expr_move other fast form k l)
  expr_same fast (layer.Expr::FnCall call at) k l = call_same s limits fast call.op_token call call.args at k l
  expr_same fast form k l = same_move (expr_move s fast form k l)

  stmt_same : (form : StmtLayer) (restoring : Bool) (k : List (Frame H)) (l : Local H) →
      SameMove (stmt_move s form restoring k l) (stmt_move other form restoring k l)
  stmt_same (layer.Var ident v index options at) restoring k l = define_same
      (not s.offer.allow_shadowing && is_some (index_of ident.name l.scope))
      (is_none index && nat_le s.limits.max_variables (length l.scope)) (is_none index && nat_le limits.max_variables (length l.scope))
      ident v index options restoring at k l
  stmt_same (layer.For name counter items body at) restoring k l = for_same
      (has_no_room s.limits (loop_of name counter items body) l) (has_no_room limits (loop_of name counter items body) l)
      (loop_of name counter items body) k l
  stmt_same (layer.Import path alias at) restoring k l = import_same (nat_le s.limits.max_modules l.around.num_modules_loaded)
      (nat_le limits.max_modules l.around.num_modules_loaded) path alias at k l
  stmt_same form restoring k l = same_move (stmt_move s form restoring k l)

  -- ---- frames

  up_same : (frame : Frame H) (v : Dynamic H) (k : List (Frame H)) (l : Local H) →
      SameOrLimited (up_core s frame v k l) (up_core other frame v k l)
  up_same (UnaryOperand operation at) v k l = on_one (flat l.around.cells v at) _ _
      (λ x. operator_same s limits (builtin_of operation.token (x ∷ [])) (call_of operation (x ∷ [])) k l) k l
  up_same (RightOperand operation left at) v k l = on_one (flat l.around.cells v at) _ _
      (λ y. operator_same s limits (builtin_of operation.token (left ∷ y ∷ [])) (call_of operation (left ∷ y ∷ [])) k l) k l
  up_same (CallArgument purpose made at rest) v k l = on_one (taken (flattens purpose) l.around.cells v at) _ _
      (λ x. arguments_same s limits purpose (made ++ x ∷ []) rest k l) k l
  up_same (KeywordArgument keyword at start rest captures) v k l = keyword_same s limits keyword at start rest captures v k l
  up_same (ArrayItem made at rest) v k l = on_same _ _ (item_same made (flat l.around.cells v at) at) _ _ (λ items. inl refl) k l
  up_same (EntryValue keys made at rest) v k l =
      on_same _ _ (value_same made (flat l.around.cells v at) at) _ _ (λ values. inl refl) k l
  up_same (TextPart text at rest) v k l =
      on_one (flat l.around.cells v at) _ _ (λ x. joined_same x.value x text at rest k l) k l
  up_same (PrintedPart text type at rest) v k l = text_same text (printed v.value type) at rest k l
  up_same (PartAssigned above at op_at) v k l = part_assigned_same s limits (put_back above at (focus_of l)) above at op_at k l
  up_same (Measured op_at) v k l = on_same _ _ (sized_same s.limits limits (as_measured l.around.cells (focus_of l)) op_at) _ _
      (λ x. inl refl) k l
  up_same (MemberGot access root new) v k l =
      assign_focus_same s limits root new (MemberOperated access l.focus new.op.position ∷ k) (focused_on (Some v) l)
  up_same (MemberOperated access above op_at) v k l =
      operated_same s limits access.member access (focus_of l) op_at k (focused_on above l)
  up_same _ v k l = inl refl

  changed_up_same : (frame : Frame H) (v : Dynamic H) (k : List (Frame H)) (l : Local H) →
      SameOrLimited (changed_up_core s frame v k l) (changed_up_core other frame v k l)
  changed_up_same (Temporary above back) v k l = temporary_same s limits back (focus_of l) v k (focused_on above l)
  changed_up_same (PartMethod above at pos) v k l =
      part_changed_same s limits (put_back above at (focus_of l)) above at pos v k l
  changed_up_same _ v k l = inl refl

  down_same : (frame : Frame H) (e : EvalAltResult H) (k : List (Frame H)) (l : Local H) →
      SameOrLimited (down_core s frame e k l) (down_core other frame e k l)
  down_same (TryBody variable branch) e k l = tried_same (is_catchable e) (catch_variable (out-Expr variable)) e branch k l
  down_same (PrintedPart text type at rest) e k l = unprinted_same (is_system e) e text type at rest k l
  down_same (MemberGot access root new) e k l = got_none_same s limits (lacks_indexer e) access.member e access new k l
  down_same _ e k l = inl refl

  -- ---- each step

  each_same : (c : Control H) (k : List (Frame H)) (l : Local H) → SameMove (move_at s c k l) (move_at other c k l)
  each_same (EnterFunction e) k l = (
    refl,
    deep_same (nat_lt s.limits.max_call_levels e.level) (nat_lt limits.max_call_levels e.level)
        (nat_lt s.limits.max_variables (length (variables_before e.is_fresh l.scope) + length e.def.params))
        (nat_lt limits.max_variables (length (variables_before e.is_fresh l.scope) + length e.def.params)) e k l,
  )
  each_same (CallNamed operation curried args captures alone) k l = named_move_same s limits operation curried args captures alone k l
  each_same (Question call) k l = question_same s limits call call.args k l
  each_same (Fire call) k l = fire_same s limits call call.args k l
  each_same (QuestionUpdate u) k l = question_update_same s limits u k l
  each_same (FireUpdate u) k l = fire_update_same s limits u.target.value u k l
  each_same (OpenExpr form) k l = expr_same s.offer.fast_operators form k l
  each_same (OpenStmt form restoring) k l = stmt_same form restoring k l
  each_same (Store assignment v) k l = store_same s limits
      (target_of (globals_of s.offer) l.around l.scope (variable_of_assignment assignment)) assignment v k l
  each_same (StoreThis op at v) k l = store_same s limits (this_target l.around.cells at l.this) _ v k l
  each_same (ChainArguments chain rest made) k l = asked_same s limits (link_of rest) chain made k l
  each_same (Walk chain) k l = walk_same s limits (link_of chain.rest) chain k l
  each_same (Locate link chain) k l = locate_same s limits link chain k l
  each_same (Back v) [] l = tt
  each_same (Back v) (frame ∷ k) l = up_same frame v k l
  each_same (Changed v) [] l = inl refl
  each_same (Changed v) (frame ∷ k) l = changed_up_same frame v k l
  each_same (Fail e) [] l = tt
  each_same (Fail e) (frame ∷ k) l = down_same frame e k l
  each_same c k l = same_move (move_at s c k l)

pub limits_only_fail : {H : Type 0} (s : Setting H) → LimitsOnlyFail s
limits_only_fail s limits c = each_same s limits c.control c.stack c.local
