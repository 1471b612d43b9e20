-- What the rules of expressions, statements, loops, `switch`, `try`, `export`, `import` and of shared variables keep. A variable is added
-- only where there is room for it.
use Rattle.std.proofs.Common.{refl, arith, slice_get}
use Rattle.std.proofs.lemmas.Bool.Decides.{nat_tests}
use Rattle.std.proofs.lemmas.List.{length-append, length-set}
use Rattle.std.specs.Prelude.{◌≡◌, ◌<◌, ◌+◌, ◌^◌, ℕ, min, pos, nat_le, not, ◌&&◌, length, map, Bool, true, false, List, [], ◌∷◌, ◌++◌}
use Rattle.std.specs.Prelude.{Option, Some, None, Result, Ok, Err, is_some}
use Rattle.std.specs.declared.num.NonZeroUsize.{NonZeroUsize}
use Rattle.rhai_machine.specs.Types.{ASTFlags, ConditionalExpr, Dynamic, EvalAltResult, Expr, out-Expr, Ident, Position, ScopeEntry}
use Rattle.rhai_machine.specs.Types.{SharedVariable, Stmt, StmtBlock, Union}
use Rattle.rhai_tree.specs.declared.expr.Expr.TheOpen as layer
use Rattle.rhai_tree.specs.declared.expr.MapEntry.{MapEntry}
use Rattle.rhai_tree.specs.Forms.{is_exported}
use Rattle.rhai_tree.specs.Keys.{key_of}
use Rattle.rhai_tree.specs.Layers.{ExprLayer, StmtLayer}
use Rattle.rhai_tree.specs.Positions.{position_of}
use Rattle.rhai_values.specs.declared.base.value.AccessMode.TheVariants.{ReadWrite}
use Rattle.rhai_values.specs.declared.base.value.Union.TheVariants as value
use Rattle.rhai_values.specs.Layers.{layer_of}
use Rattle.rhai_values.specs.Modes.{with_mode}
use Rattle.rhai_errors.specs.declared.error.EvalAltResult.TheVariants as error
use Rattle.rhai_state.specs.Scope.{aliased, found, index_of, new_entry}
use Rattle.rhai_machine.specs.language.Setting.{Setting, globals_of}
use Rattle.rhai_machine.specs.language.State.{Local}
use Rattle.rhai_machine.specs.language.Values.{copied, flat, unit_value}
use Rattle.rhai_machine.specs.language.Variables.{variable_named}
use Rattle.rhai_machine.specs.language.Names.{bound_this, read}
use Rattle.rhai_machine.specs.language.Places.{InEntry, put}
use Rattle.rhai_machine.specs.language.Turns.{ForLoop, Turns, integer_value, turns_of}
use Rattle.rhai_machine.specs.language.Frames.{Control, Frame, Core, core, on_value, Enter, ForItem}
use Rattle.rhai_machine.specs.language.Frames.{DefineValue, ForItems, ForBody}
use Rattle.rhai_machine.specs.language.Data.{with_part, items_core, entries_core, parts_core, part_core, joined_core, unprinted_core}
use Rattle.rhai_machine.specs.language.Expressions.{argument_move, expr_move, and_core, and_next, or_core, or_next, coalesce_core}
use Rattle.rhai_machine.specs.language.Expressions.{coalesce_seen, coalesce_next}
use Rattle.rhai_machine.specs.language.Choices.{truth_literal, met_core, tested_core, choose_core}
use Rattle.rhai_machine.specs.language.Loops.{goes_on, while_move, while_core, if_goes_on, do_control, caught}
use Rattle.rhai_machine.specs.language.Walks.{counters, has_no_room, for_core, counter_entry, loop_entries, started_core, place_of_entry}
use Rattle.rhai_machine.specs.language.Walks.{counted_core, turn_core, for_move, entered_core, item_core}
use Rattle.rhai_machine.specs.language.Caught.{caught_value, thrown}
use Rattle.rhai_machine.specs.language.Tries.{branch_with, branch_core, tried_core}
use Rattle.rhai_machine.specs.language.Sharing.{handle_of, with_cell, shared, shared_core, share_core}
use Rattle.rhai_machine.specs.language.Exports.{alias_or, export_at, exported}
use Rattle.rhai_machine.specs.language.Imports.{import_core}
use Rattle.rhai_machine.specs.language.Statements.{has_option, mode_of, enter_core, run_core, chosen_core, defined_core, define_core}
use Rattle.rhai_machine.specs.language.Statements.{overwritten, written, declared_core, constant_core, enters, loop_of, stmt_move}
use Rattle.rhai_machine.specs.language.Statements.{break_core, return_move}
use Rattle.rhai_limits.proofs.Keeping.{Asked, Allowed, Calm, Eager, At, Good, Moves, none_added, resized, put_keeps, on_keeps, ended_keeps}
use Rattle.rhai_limits.proofs.Keeping.{has_bottom_scope, lengthened}
use Rattle.rhai_limits.proofs.Calls.{assignment_keeps, call_keeps}

module _ {H : Type 0} (a : Asked) where
  -- ---- expressions

  pub argument_keeps : (literal : Option (Dynamic H)) (e : Expr) (k : List (Frame H)) (l : Local H) → Calm a k l →
      Moves a (argument_move literal e k l)
  argument_keeps (Some v) e k l h = h
  argument_keeps None e k l h = h

  and_keeps : (parts : List Expr) (k : List (Frame H)) (l : Local H) → Calm a k l → Good a (and_core parts k l)
  and_keeps [] k l h = h
  and_keeps (part ∷ parts) k l h = h

  pub and_next_keeps : (holds : Bool) (parts : List Expr) (k : List (Frame H)) (l : Local H) → Calm a k l →
      Good a (and_next holds parts k l)
  and_next_keeps true parts k l h = and_keeps parts k l h
  and_next_keeps false parts k l h = h

  or_keeps : (parts : List Expr) (k : List (Frame H)) (l : Local H) → Calm a k l → Good a (or_core parts k l)
  or_keeps [] k l h = h
  or_keeps (part ∷ parts) k l h = h

  pub or_next_keeps : (holds : Bool) (parts : List Expr) (k : List (Frame H)) (l : Local H) → Calm a k l →
      Good a (or_next holds parts k l)
  or_next_keeps true parts k l h = h
  or_next_keeps false parts k l h = or_keeps parts k l h

  coalesce_keeps : (last : Dynamic H) (parts : List Expr) (k : List (Frame H)) (l : Local H) → Calm a k l →
      Good a (coalesce_core last parts k l)
  coalesce_keeps last [] k l h = h
  coalesce_keeps last (part ∷ parts) k l h = h

  coalesce_seen_keeps : (u : Union H) (v : Dynamic H) (parts : List Expr) (k : List (Frame H)) (l : Local H) → Calm a k l →
      Good a (coalesce_seen u v parts k l)
  coalesce_seen_keeps value.Unit v parts k l h = coalesce_keeps v parts k l h
  coalesce_seen_keeps _ v parts k l h = h

  pub coalesce_next_keeps : (r : Result (Dynamic H) (EvalAltResult H)) (v : Dynamic H) (parts : List Expr) (k : List (Frame H))
      (l : Local H) → Calm a k l → Good a (coalesce_next r v parts k l)
  coalesce_next_keeps r v parts k l h = on_keeps a r _ k l h (λ seen. coalesce_seen_keeps seen.value v parts k l h)

  pub items_keep : (made : List (Dynamic H)) (items : List Expr) (k : List (Frame H)) (l : Local H) → Calm a k l →
      Good a (items_core made items k l)
  items_keep made [] k l h = h
  items_keep made (item ∷ items) k l h = h

  pub entries_keep : (keys : List (List ℕ)) (made : List (Dynamic H)) (entries : List MapEntry) (k : List (Frame H)) (l : Local H) →
      Calm a k l → Good a (entries_core keys made entries k l)
  entries_keep keys made [] k l h = h
  entries_keep keys made (entry ∷ entries) k l h = h

  parts_keep : (text : List ℕ) (parts : List Expr) (k : List (Frame H)) (l : Local H) → Calm a k l → Good a (parts_core text parts k l)
  parts_keep text [] k l h = h
  parts_keep text (part ∷ parts) k l h = h

  -- ---- loops, and the ways out of them

  pub while_keeps : (endless : Bool) (stmts : List Stmt) (test : Expr) (body : StmtBlock) (k : List (Frame H)) (l : Local H) →
      Calm a k l → Moves a (while_move endless stmts test body k l)
  while_keeps false stmts test body k l h = h
  while_keeps true [] test body k l h = h
  while_keeps true (stmt ∷ stmts) test body k l h = h

  pub while_core_keeps : (holds : Bool) (test : Expr) (body : StmtBlock) (k : List (Frame H)) (l : Local H) → Calm a k l →
      Good a (while_core holds test body k l)
  while_core_keeps true test body k l h = h
  while_core_keeps false test body k l h = h

  goes_on_keeps : (b : Bool) (turn : Control H) (k : List (Frame H)) (l : Local H) → Calm a k l → At a turn k l →
      Good a (core (if_goes_on b turn) k l)
  goes_on_keeps true turn k l h goes = goes
  goes_on_keeps false turn k l h goes = h

  pub do_keeps : (r : Result Bool (EvalAltResult H)) (until : Bool) (turn : Control H) (k : List (Frame H)) (l : Local H) →
      Calm a k l → At a turn k l → Good a (core (do_control r until turn) k l)
  do_keeps (Ok holds) until turn k l h goes = goes_on_keeps (goes_on until holds) turn k l h goes
  do_keeps (Err e) until turn k l h goes = h

  pub caught_keeps : (turn : Control H) (e : EvalAltResult H) (k : List (Frame H)) (l : Local H) → Calm a k l → At a turn k l →
      Good a (core (caught turn e) k l)
  caught_keeps turn (error.LoopBreak v false at) k l h goes = goes
  caught_keeps turn (error.LoopBreak v true at) k l h goes = h
  caught_keeps turn _ k l h goes = h

  break_keeps : (value : Option Expr) (is_break : Bool) (at : Position) (k : List (Frame H)) (l : Local H) → Calm a k l →
      Good a (break_core value is_break at k l)
  break_keeps None is_break at k l h = h
  break_keeps (Some value) is_break at k l h = h

  return_keeps : (throws : Bool) (value : Option Expr) (at : Position) (k : List (Frame H)) (l : Local H) → Calm a k l →
      Moves a (return_move throws value at k l)
  return_keeps true None at k l h = h
  return_keeps true (Some value) at k l h = h
  return_keeps false None at k l h = h
  return_keeps false (Some value) at k l h = h

  -- ---- `if` and `switch`

  pub chosen_keeps : (holds : Bool) (body branch : StmtBlock) (k : List (Frame H)) (l : Local H) → Calm a k l →
      Good a (chosen_core holds body branch k l)
  chosen_keeps true body branch k l h = h
  chosen_keeps false body branch k l h = h

  pub met_keeps : (holds : Bool) (candidate : ConditionalExpr) (rest : List ConditionalExpr) (default : Option Expr) (k : List (Frame H))
      (l : Local H) → Calm a k l → Good a (met_core holds candidate rest default k l)
  met_keeps true candidate rest default k l h = h
  met_keeps false candidate rest default k l h = h

  tested_keeps : (literal : Option Bool) (candidate : ConditionalExpr) (rest : List ConditionalExpr) (default : Option Expr)
      (k : List (Frame H)) (l : Local H) → Calm a k l → Good a (tested_core literal candidate rest default k l)
  tested_keeps (Some holds) candidate rest default k l h = met_keeps holds candidate rest default k l h
  tested_keeps None candidate rest default k l h = h

  pub choose_keeps : (candidates : List ConditionalExpr) (default : Option Expr) (k : List (Frame H)) (l : Local H) → Calm a k l →
      Good a (choose_core candidates default k l)
  choose_keeps [] None k l h = h
  choose_keeps [] (Some result) k l h = h
  choose_keeps (candidate ∷ rest) default k l h = tested_keeps (truth_literal (out-Expr candidate.condition)) candidate rest default k l h

  -- ---- the variables of a `for` as they are written

  module _ (name : List ℕ) (at : Position) (index : ℕ) (v : Dynamic H) (go : Local H → Core H) (k : List (Frame H))
      (goes : (m : Local H) → Calm a k m → Good a (go m)) where
    written_keeps : (l : Local H) → Calm a k l → Good a (on_value (place_of_entry name at index l) (λ place. go (put place v l)) k l)
    written_keeps l h = on_keeps a (place_of_entry name at index l) _ k l h (λ place. goes (put place v l) (put_keeps a place v k l h))

  counted_keeps : (counter : Option Ident) (loop : ForLoop) (turn base : ℕ) (go : Local H → Core H) (k : List (Frame H)) (l : Local H) →
      ((m : Local H) → Calm a k m → Good a (go m)) → Calm a k l → Good a (counted_core counter loop turn base go k l)
  counted_keeps None loop turn base go k l goes h = goes l h
  counted_keeps (Some counter) loop turn base go k l goes h =
      written_keeps counter.name loop.variable.pos base (integer_value (pos turn)) go k goes l h

  turn_keeps : (overflows : Bool) (loop : ForLoop) (item : Dynamic H) (rest : Turns H) (turn base : ℕ) (k : List (Frame H)) (l : Local H) →
      Calm a k l → Good a (turn_core overflows loop item rest turn base k l)
  turn_keeps true loop item rest turn base k l h = h
  turn_keeps false loop item rest turn base k l h =
      counted_keeps loop.counter loop turn base (λ m. core (ForItem loop item rest turn base) k m) k l (λ m i. i) h

  pub for_turn_keeps : (next : Option (Dynamic H × Turns H)) (stmts : List Stmt) (loop : ForLoop) (turn base : ℕ) (k : List (Frame H))
      (l : Local H) → Calm a k l → Moves a (for_move next stmts loop turn base k l)
  for_turn_keeps None stmts loop turn base k l h = h
  for_turn_keeps (Some (item, rest)) [] loop turn base k l h = h
  for_turn_keeps (Some (item, rest)) (stmt ∷ stmts) loop turn base k l h = turn_keeps (nat_le (2 ^ 63) turn) loop item rest turn base k l h

  entered_keeps : (loop : ForLoop) (v : Dynamic H) (rest : Turns H) (turn base : ℕ) (k : List (Frame H)) (l : Local H) → Calm a k l →
      Good a (entered_core loop v rest turn base k l)
  entered_keeps loop v rest turn base k l h = written_keeps loop.variable.name loop.variable.pos (base + counters loop.counter) v
      (λ m. core (Enter loop.body.statements true) (ForBody loop rest turn base ∷ k) m) k (λ m i. i) l h

  pub item_keeps : (loop : ForLoop) (item : Dynamic H) (rest : Turns H) (turn base : ℕ) (k : List (Frame H)) (l : Local H) →
      Calm a k l → Good a (item_core loop item rest turn base k l)
  item_keeps loop item rest turn base k l h =
      on_keeps a (flat l.around.cells item (position_of loop.items)) _ k l h (λ v. entered_keeps loop v rest turn base k l h)

  -- ---- shared and exported variables

  shared_keeps : (index : ℕ) (u : Union H) (v : Dynamic H) (k : List (Frame H)) (l : Local H) → Calm a k l → Calm a k (shared index u v l)
  shared_keeps index (value.Cell id) v k l h = h
  shared_keeps index _ v k l h = put_keeps a (InEntry index) (handle_of (length l.around.cells) v.mode) k (with_cell v l) h

  found_keeps : (ident : Ident) (index : Option ℕ) (there : Option (Dynamic H)) (rest : List SharedVariable) (k : List (Frame H))
      (l : Local H) → Calm a k l → Good a (shared_core ident index there rest k l)
  found_keeps ident (Some index) (Some v) rest k l h = shared_keeps index v.value v k l h
  found_keeps ident (Some index) None rest k l h = h
  found_keeps ident None there rest k l h = h

  pub share_keeps : (variables : List SharedVariable) (k : List (Frame H)) (l : Local H) → Calm a k l → Good a (share_core variables k l)
  share_keeps [] k l h = h
  share_keeps (variable ∷ rest) k l h =
      found_keeps variable.ident (index_of variable.ident.name l.scope) (found variable.ident.name l.scope) rest k l h

  -- an alias is no variable
  aliased_count : (entries : List (ScopeEntry H)) (at : ℕ) (there : Option (ScopeEntry H)) (alias : List ℕ) →
      length (aliased entries at there alias) ≡ length entries
  aliased_count entries at None alias = refl
  aliased_count entries at (Some entry) alias = length-set entries at _

  export_keeps : (place : Option ℕ) (ident : Ident) (alias : Option Ident) (k : List (Frame H)) (l : Local H) → Calm a k l →
      Good a (export_at place ident alias k l)
  export_keeps (Some at) ident alias k l h =
      resized a k l (exported at (alias_or ident.name alias) l) refl
      (aliased_count l.scope at (slice_get l.scope at) (alias_or ident.name alias)) h
  export_keeps None ident alias k l h = h

  -- ---- lists

  pub enter_keeps : (stmts : List Stmt) (restoring : Bool) (k : List (Frame H)) (l : Local H) → At a (Enter stmts restoring) k l →
      Good a (enter_core stmts restoring k l)
  enter_keeps [] true k l h = h
  enter_keeps [] false k l h = none_added a k l.around.level (length l.scope) h
  enter_keeps (stmt ∷ stmts) true k l h = (
    h.0,
    h.1,
    h.2,
    λ m more fits. let same : min (length l.scope) m ≡ length l.scope = omega (arith, more) in rw same h.3,
  )
  enter_keeps (stmt ∷ stmts) false k l h = h

  pub run_keeps : (stmts : List Stmt) (restoring : Bool) (last : Dynamic H) (k : List (Frame H)) (l : Local H) → Eager a k l →
      Good a (run_core stmts restoring last k l)
  run_keeps [] restoring last k l h = none_added a k l.around.level (length l.scope) h
  run_keeps (stmt ∷ stmts) restoring last k l h =
      (h.0, h.1, h.2, λ m more fits n further there. h.3 n (omega (arith, more, further)) there)

  -- ---- a `let` whose value is there

  constant_keeps : (adds : Bool) (name : List ℕ) (v : Dynamic H) (k : List (Frame H)) (l : Local H) → Calm a k l →
      Calm a k (constant_core adds name v l)
  constant_keeps true name v k l h = h
  constant_keeps false name v k l h = h

  overwritten_keeps : (place : Option ℕ) (v : Dynamic H) (options : ASTFlags) (k : List (Frame H)) (l : Local H) → Calm a k l →
      Calm a k (overwritten place v options l)
  overwritten_keeps (Some at) v options k l h = put_keeps a (InEntry at) (with_mode (mode_of options) v) k l h
  overwritten_keeps None v options k l h = h

  added_keeps : (entry : ScopeEntry H) (ident : Ident) (options : ASTFlags) (restoring : Bool) (value_at : Position) (k : List (Frame H))
      (l : Local H) → Calm a (DefineValue ident None options restoring value_at ∷ k) l →
      Calm a k (record l { scope = l.scope ++ entry ∷ [] })
  added_keeps entry ident options restoring value_at k l h = rw (length-append l.scope (entry ∷ []))
      (h.0, h.1, h.3.0, h.3.1 (length l.scope + 1) (omega arith) h.3.0)

  defined_written : (index : Option NonZeroUsize) (v : Dynamic H) (ident : Ident) (options : ASTFlags) (restoring : Bool)
      (value_at : Position) (k : List (Frame H)) (l : Local H) → Calm a (DefineValue ident index options restoring value_at ∷ k) l →
      Calm a k (written index v ident options l)
  defined_written None v ident options restoring value_at k l h =
      added_keeps (new_entry ident.name (mode_of options) v) ident options restoring value_at k l h
  defined_written (Some offset) v ident options restoring value_at k l h =
      overwritten_keeps (index_of ident.name l.scope) v options k l h

  declared_keeps : (exported : Bool) (ident : Ident) (k : List (Frame H)) (l : Local H) → Calm a k l →
      Good a (declared_core exported ident k l)
  declared_keeps true ident k l h = export_keeps (index_of ident.name l.scope) ident None k l h
  declared_keeps false ident k l h = h

  -- a value that did not come adds none
  pub undefined : (index : Option NonZeroUsize) (ident : Ident) (options : ASTFlags) (restoring : Bool) (value_at : Position)
      (k : List (Frame H)) (l : Local H) → Calm a (DefineValue ident index options restoring value_at ∷ k) l → Calm a k l
  undefined None ident options restoring value_at k l h = (h.0, h.1, h.2, h.3.1 (length l.scope) (omega arith) h.2)
  undefined (Some offset) ident options restoring value_at k l h = h

  pub defined_keeps : (r : Result (Dynamic H) (EvalAltResult H)) (ident : Ident) (index : Option NonZeroUsize) (options : ASTFlags)
      (restoring : Bool) (value_at : Position) (k : List (Frame H)) (l : Local H) →
      Calm a (DefineValue ident index options restoring value_at ∷ k) l →
      Good a (on_value r (λ x. defined_core x ident index options restoring k l) k l)
  defined_keeps r ident index options restoring value_at k l h =
      on_keeps a r _ k l (undefined index ident options restoring value_at k l h) (λ x. declared_keeps (is_exported options) ident k _
      (defined_written index x ident options restoring value_at k _
      (constant_keeps (enters options restoring l) ident.name x (DefineValue ident index options restoring value_at ∷ k) l h)))

  -- ---- what a `for` walks is there

  entries_count : (counter : Option Ident) (entry : ScopeEntry H) → length (counter_entry counter ++ entry ∷ []) ≡ counters counter + 1
  entries_count None entry = refl
  entries_count (Some counter) entry = refl

  module _ (s : Setting H) where
    pub part_keeps : (text part : List ℕ) (at : Position) (rest : List Expr) (k : List (Frame H)) (l : Local H) → Calm a k l →
        Good a (part_core s text part at rest k l)
    part_keeps text part at rest k l h = on_keeps a (with_part s.limits text part at) _ k l h (λ more. parts_keep more rest k l h)

    pub joined_keeps : (u : Union H) (v : Dynamic H) (text : List ℕ) (at : Position) (rest : List Expr) (k : List (Frame H))
        (l : Local H) → Calm a k l → Good a (joined_core s u v text at rest k l)
    joined_keeps (value.Str part) v text at rest k l h = part_keeps text part at rest k l h
    joined_keeps _ v text at rest k l h = h

    pub unprinted_keeps : (passes : Bool) (e : EvalAltResult H) (text type : List ℕ) (at : Position) (rest : List Expr)
        (k : List (Frame H)) (l : Local H) → Calm a k l → Good a (unprinted_core s passes e text type at rest k l)
    unprinted_keeps true e text type at rest k l h = h
    unprinted_keeps false e text type at rest k l h = part_keeps text type at rest k l h

    pub expr_keeps : (fast : Bool) (form : ExprLayer) (k : List (Frame H)) (l : Local H) → Calm a k l → Moves a (expr_move s fast form k l)
    expr_keeps fast (layer.DynamicConstant literal at) k l h = h
    expr_keeps fast (layer.BoolConstant b at) k l h = h
    expr_keeps fast (layer.IntegerConstant n at) k l h = h
    expr_keeps fast (layer.CharConstant letter at) k l h = h
    expr_keeps fast (layer.StringConstant text at) k l h = h
    expr_keeps fast (layer.Unit at) k l h = h
    expr_keeps fast (layer.Variable offset name namespace at) k l h =
        ended_keeps a (read (globals_of s.offer) l.around l.scope (variable_named name namespace at)) k l h
    expr_keeps fast (layer.ThisPtr at) k l h = ended_keeps a (copied (bound_this at l.this)) k l h
    expr_keeps fast (layer.Expr::FnCall call at) k l h = call_keeps a s fast call.op_token call call.args at k l h
    expr_keeps fast (layer.Stmt block) k l h = h
    expr_keeps fast (layer.InterpolatedString parts at) k l h = parts_keep [] parts k l h
    expr_keeps fast (layer.Array items at) k l h = items_keep [] items k l h
    expr_keeps fast (layer.Map entries template at) k l h = entries_keep (map key_of entries) [] entries k l h
    expr_keeps fast (layer.And parts at) k l h = and_keeps parts k l h
    expr_keeps fast (layer.Or parts at) k l h = or_keeps parts k l h
    expr_keeps fast (layer.Coalesce parts at) k l h = coalesce_keeps unit_value parts k l h
    expr_keeps fast (layer.Index lhs rhs options at) k l h = h
    expr_keeps fast (layer.Dot lhs rhs options at) k l h = h
    expr_keeps fast _ k l h = tt

    module _ (allowed : Allowed a s.limits) where
      started_keeps : (turns : Option (Turns H)) (loop : ForLoop) (k : List (Frame H)) (l : Local H) → Calm a (ForItems loop ∷ k) l →
          Good a (started_core turns loop k l)
      started_keeps (Some turns) loop k l h =
          let fits : a.scope (has_bottom_scope k) (length l.scope + length (loop_entries {H = H} loop)) =
          rw (entries_count loop.counter (new_entry loop.variable.name ReadWrite unit_value)) h.3.0 in
          lengthened a (loop_entries loop) k l fits (h.0, h.1, h.2, h.3.1)
      started_keeps None loop k l h = (h.0, h.1, h.2, h.3.1)

      pub walked_keeps : (r : Result (Dynamic H) (EvalAltResult H)) (loop : ForLoop) (k : List (Frame H)) (l : Local H) →
          Calm a (ForItems loop ∷ k) l → Good a (on_value r (λ x. started_core (turns_of (layer_of x)) loop k l) k l)
      walked_keeps r loop k l h = on_keeps a r _ k l (h.0, h.1, h.2, h.3.1) (λ x. started_keeps (turns_of (layer_of x)) loop k l h)

      -- ---- variables are added only where there is room

      for_keeps : (full : Bool) (loop : ForLoop) (k : List (Frame H)) (l : Local H) → has_no_room s.limits loop l ≡ full → Calm a k l →
          Good a (for_core full loop k l)
      for_keeps true loop k l is h = h
      for_keeps false loop k l is h =
          let less : length l.scope + counters loop.counter < s.limits.max_variables = grind (arith, nat_tests) in
          (h.0, h.1, h.2, (allowed.fits _ (length l.scope + (counters loop.counter + 1)) (omega (arith, less)), h.3))

      branch_with_keeps : (full : Bool) (variable : Ident) (v : Dynamic H) (caught : EvalAltResult H) (branch : StmtBlock)
          (k : List (Frame H)) (l : Local H) → nat_le s.limits.max_variables (length l.scope) ≡ full → Calm a k l →
          Good a (branch_with full variable v caught branch k l)
      branch_with_keeps true variable v caught branch k l is h = h
      branch_with_keeps false variable v caught branch k l is h =
          let less : length l.scope < s.limits.max_variables = grind (arith, nat_tests) in
          lengthened a (new_entry variable.name ReadWrite v ∷ []) k l (allowed.fits _ (length l.scope + 1) (omega (arith, less)))
          h

      branch_keeps : (variable : Option Ident) (caught : EvalAltResult H) (branch : StmtBlock) (k : List (Frame H)) (l : Local H) →
          Calm a k l → Good a (branch_core s variable caught branch k l)
      branch_keeps None caught branch k l h = h
      branch_keeps (Some variable) caught branch k l h = branch_with_keeps (nat_le s.limits.max_variables (length l.scope)) variable
          (caught_value (thrown caught) l.around.source caught) caught branch k l refl h

      pub tried_keeps : (catches : Bool) (variable : Option Ident) (e : EvalAltResult H) (branch : StmtBlock) (k : List (Frame H))
          (l : Local H) → Calm a k l → Good a (tried_core s catches variable e branch k l)
      tried_keeps true variable e branch k l h = branch_keeps variable e branch k l h
      tried_keeps false variable e branch k l h = h

      -- a `let` that overwrites no variable needs room, and one that does needs none
      define_keeps : (shadows full : Bool) (ident : Ident) (value : Expr) (options : ASTFlags) (restoring : Bool) (at : Position)
          (k : List (Frame H)) (l : Local H) → nat_le s.limits.max_variables (length l.scope) ≡ full → Eager a k l →
          Good a (define_core s shadows full ident value None options restoring at k l)
      define_keeps true full ident value options restoring at k l is h = none_added a k l.around.level (length l.scope) h
      define_keeps false true ident value options restoring at k l is h = none_added a k l.around.level (length l.scope) h
      define_keeps false false ident value options restoring at k l is h =
          let less : length l.scope < s.limits.max_variables = grind (arith, nat_tests) in
          (h.0, h.1, h.2, (allowed.fits _ (length l.scope + 1) (omega (arith, less)), h.3))

      redefine_keeps : (shadows : Bool) (ident : Ident) (value : Expr) (offset : NonZeroUsize) (options : ASTFlags) (restoring : Bool)
          (at : Position) (k : List (Frame H)) (l : Local H) → Calm a k l →
          Good a (define_core s shadows false ident value (Some offset) options restoring at k l)
      redefine_keeps true ident value offset options restoring at k l h = h
      redefine_keeps false ident value offset options restoring at k l h = h

      import_keeps : (full : Bool) (path : Expr) (alias : Option Ident) (at : Position) (k : List (Frame H)) (l : Local H) →
          Calm a k l → Good a (import_core full path alias at k l)
      import_keeps true path alias at k l h = h
      import_keeps false path alias at k l h = h

      stmt_rest : (form : StmtLayer) (restoring : Bool) (k : List (Frame H)) (l : Local H) → Eager a k l → Calm a k l →
          Moves a (stmt_move s form restoring k l)
      stmt_rest (layer.Assignment op lhs rhs) restoring k l o h = assignment_keeps a (out-Expr lhs) op rhs k l h
      stmt_rest (layer.Var ident value None options at) restoring k l o h =
          define_keeps (not s.offer.allow_shadowing && is_some (index_of ident.name l.scope))
          (nat_le s.limits.max_variables (length l.scope)) ident value options restoring at k l refl o
      stmt_rest (layer.Var ident value (Some offset) options at) restoring k l o h = redefine_keeps
          (not s.offer.allow_shadowing && is_some (index_of ident.name l.scope)) ident value offset options restoring at k l h
      stmt_rest (layer.For variable counter items body at) restoring k l o h =
          for_keeps (has_no_room s.limits (loop_of variable counter items body) l) (loop_of variable counter items body) k l refl h
      stmt_rest (layer.Export ident alias at) restoring k l o h = export_keeps (index_of ident.name l.scope) ident alias k l h
      stmt_rest (layer.Import path alias at) restoring k l o h =
          import_keeps (nat_le s.limits.max_modules l.around.num_modules_loaded) path alias at k l h
      stmt_rest (layer.BreakLoop value options at) restoring k l o h = break_keeps value (has_option 2 options) at k l h
      stmt_rest (layer.Return value options at) restoring k l o h = return_keeps (has_option 2 options) value at k l h
      stmt_rest _ restoring k l o h = h

      pub stmt_keeps : (form : StmtLayer) (restoring : Bool) (k : List (Frame H)) (l : Local H) → Eager a k l →
          Moves a (stmt_move s form restoring k l)
      stmt_keeps form restoring k l o = stmt_rest form restoring k l o (none_added a k l.around.level (length l.scope) o)
