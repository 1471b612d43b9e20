use Rattle.std.specs.Prelude.{zero, suc, Bool, ◌∷◌, ◌≡◌, ◌≤◌, ◌+◌, ◌*◌, ◌-◌, ◌^◌, ℕ, List, [], drop, length, map, Option, Some}
use Rattle.std.specs.Option.{option_copied, option_map}
use Rattle.std.specs.String.{string_bytes}
use Rattle.rhai_tree.specs.Frame.{all_resolve, resolves_stmt, turn_names}
use Rattle.rhai_tree.specs.Keys.{key_of}
use Rattle.rhai_tree.specs.Links.{left_by}
use Rattle.rhai_links.specs.declared.links.Link.{Link}
use Rattle.rhai_tree.specs.Layers.{ExprLayer}
use Rattle.rhai_tree.specs.declared.expr.Expr.{out-Expr}
use Rattle.rhai_values.specs.declared.base.value.Dynamic.{Dynamic}
use Rattle.rhai_machine.specs.language.Values.{unit_value}
use Rattle.rhai_machine.specs.language.Cases.{default_of, results_of}
use Rattle.rhai_machine.specs.language.Walks.{counters}
use Rattle.rhai_machine.specs.language.Frames.{Choose, DoTurn, ForTurn, Frame, OpenStmt, Purpose, RestoreScope, Run, WhileTurn}
use Rattle.rhai_machine.specs.language.Runs.{at, with_core, Steps}
use Rattle.rhai_machine.specs.language.Arguments.{arguments_core, flattens}
use Rattle.rhai_machine.specs.language.Data.{entries_core, items_core, parts_core}
use Rattle.rhai_machine.specs.language.Expressions.{coalesce_core}
use Rattle.rhai_machine.specs.machine.Memory.{Leads}
use Rattle.rhai_machine.specs.language.Language.{machine}
use Rattle.rhai_machine.specs.language.Setting.{cut}
use Rattle.rhai_tree.specs.declared.expr.Expr.TheOpen as layer
use Rattle.rhai_tree.specs.declared.position.Position.{Position}
use Rattle.rhai_stmt.specs.Candidates.{numbers_left}
use Rattle.rhai_stmt.specs.TurnsLeft.{turns_in}
use Rattle.rhai_stmt.specs.Loops.{loop_in}
use Rattle.rhai_data.specs.Arrays.{IsMeasured}
use Rattle.rhai_data.specs.Maps.{IsCounted}
use Rattle.rhai_context.specs.declared.Context.{Context}
use Rattle.rhai_eval_core.specs.declared.evaluator.Evaluator.{Evaluator}
use Rattle.rhai_steps.specs.Agreement.{passes}
use Rattle.rhai_eval_steps.specs.Agreement.{ChangesNames, KeepsNames, SuitsNames}
use Rattle.rhai_eval_steps.specs.States.{names, state_in}
use Rattle.rhai_eval_core.specs.States.{under}
use Rattle.rhai_eval_steps.proofs.ChoiceSteps.{until_core}
use Rattle.rhai_eval_steps.proofs.PlainLemmas.{Filling}
use Rattle.rhai_eval_core.proofs.evaluator.Evaluator.+eval.Given as goal
use Rattle.rhai_tree.specs.Names.{naming}

-- what stands behind a link
abbrev behind_of : Link → Option ExprLayer
behind_of link = option_map out-Expr (option_copied link.behind)

-- how many operations may still be charged
abbrev left : {H : Type 0} → Evaluator H → Context H → ℕ
left evaluator run = evaluator.session.limits.max_operations - run.global.num_operations

-- an operation counts more than all links of a chain, and a link more than any rank
abbrev measured : {H : Type 0} → Evaluator H → Context H → (links rank : ℕ) → ℕ
measured evaluator run links rank = 2 ^ 72 * left evaluator run + (64 * links + rank)

-- the value that a list of statements has by then: `()` before the first
abbrev pub last_of : {H : Type 0} → (index : ℕ) → Dynamic H → Dynamic H
last_of zero value = unit_value
last_of (suc index) value = value

abbrev pub decreases-run_expr : goal.decreases-run_expr
decreases-run_expr g l = measured l.self.now l.run.now 0 0

abbrev pub decreases-run_stmt : goal.decreases-run_stmt
decreases-run_stmt g l = measured l.self.now l.run.now 0 0

abbrev pub decreases-run_arg : goal.decreases-run_arg
decreases-run_arg g l = measured l.self.now l.run.now 0 1

abbrev pub decreases-run_statements : goal.decreases-run_statements
decreases-run_statements g l = measured l.self.now l.run.now 0 1

abbrev pub decreases-run_stmt_block : goal.decreases-run_stmt_block
decreases-run_stmt_block g l = measured l.self.now l.run.now 0 2

abbrev pub decreases-run_var : goal.decreases-run_var
decreases-run_var g l = measured l.self.now l.run.now 0 1

abbrev pub decreases-run_import : goal.decreases-run_import
decreases-run_import g l = measured l.self.now l.run.now 0 1

abbrev pub decreases-run_operator : goal.decreases-run_operator
decreases-run_operator g l = measured l.self.now l.run.now 0 6

abbrev pub decreases-run_unary : goal.decreases-run_unary
decreases-run_unary g l = measured l.self.now l.run.now 0 6

abbrev pub decreases-run_qualified_call : goal.decreases-run_qualified_call
decreases-run_qualified_call g l = measured l.self.now l.run.now 0 6

abbrev pub decreases-run_function : goal.decreases-run_function
decreases-run_function g l = measured l.self.now l.run.now 0 13

abbrev pub decreases-run_operation : goal.decreases-run_operation
decreases-run_operation g l = measured l.self.now l.run.now 0 14

abbrev pub decreases-run_fn_call_expr : goal.decreases-run_fn_call_expr
decreases-run_fn_call_expr g l = measured l.self.now l.run.now 0 15

abbrev pub decreases-run_keyword : goal.decreases-run_keyword
decreases-run_keyword g l = measured l.self.now l.run.now 0 10

abbrev pub decreases-run_pointer : goal.decreases-run_pointer
decreases-run_pointer g l = measured l.self.now l.run.now 0 5

abbrev pub decreases-run_named : goal.decreases-run_named
decreases-run_named g l = measured l.self.now l.run.now 0 6

abbrev pub decreases-run_call : goal.decreases-run_call
decreases-run_call g l = measured l.self.now l.run.now 0 12

abbrev pub decreases-run_more_args : goal.decreases-run_more_args
decreases-run_more_args g l = measured l.self.now l.run.now 0 3

abbrev pub decreases-run_all_args : goal.decreases-run_all_args
decreases-run_all_args g l = measured l.self.now l.run.now 0 4

abbrev pub decreases-run_plain_call : goal.decreases-run_plain_call
decreases-run_plain_call g l = measured l.self.now l.run.now 0 5

abbrev pub decreases-run_parameters : goal.decreases-run_parameters
decreases-run_parameters g l = measured l.self.now l.run.now 0 3

abbrev pub decreases-run_condition : goal.decreases-run_condition
decreases-run_condition g l = measured l.self.now l.run.now 0 2

abbrev pub decreases-run_if : goal.decreases-run_if
decreases-run_if g l = measured l.self.now l.run.now 0 3

abbrev pub decreases-assign_chain : goal.decreases-assign_chain
decreases-assign_chain g l = measured l.self.now l.run.now (left_by (Some (out-Expr l.lhs.now))) 13

abbrev pub decreases-read_chain : goal.decreases-read_chain
decreases-read_chain g l = measured l.self.now l.run.now (left_by (Some (out-Expr l.chain.now))) 13

abbrev pub decreases-run_chain : goal.decreases-run_chain
decreases-run_chain g l = measured l.self.now l.run.now (left_by (Some (out-Expr l.chain.now))) 12

abbrev pub decreases-run_link_args : goal.decreases-run_link_args
decreases-run_link_args g l = measured l.self.now l.run.now 0 4

abbrev pub decreases-run_root : goal.decreases-run_root
decreases-run_root g l = measured l.self.now l.run.now (left_by (Some (out-Expr l.chain.now))) 11

abbrev pub decreases-run_assignment : goal.decreases-run_assignment
decreases-run_assignment g l = measured l.self.now l.run.now (left_by (Some (out-Expr l.lhs.now))) 15

abbrev pub decreases-run_while : goal.decreases-run_while
decreases-run_while g l = measured l.self.now l.run.now 0 6

abbrev pub decreases-while_turn : goal.decreases-while_turn
decreases-while_turn g l = measured l.self.now l.run.now 0 5

abbrev pub decreases-run_do : goal.decreases-run_do
decreases-run_do g l = measured l.self.now l.run.now 0 6

abbrev pub decreases-do_turn : goal.decreases-do_turn
decreases-do_turn g l = measured l.self.now l.run.now 0 5

abbrev pub decreases-run_break : goal.decreases-run_break
decreases-run_break g l = measured l.self.now l.run.now 0 3

abbrev pub decreases-run_return : goal.decreases-run_return
decreases-run_return g l = measured l.self.now l.run.now 0 3

abbrev pub decreases-run_switch : goal.decreases-run_switch
decreases-run_switch g l = measured l.self.now l.run.now 0 3

abbrev pub decreases-run_for : goal.decreases-run_for
decreases-run_for g l = measured l.self.now l.run.now 0 4

abbrev pub decreases-run_for_turn : goal.decreases-run_for_turn
decreases-run_for_turn g l = measured l.self.now l.run.now 0 3

abbrev pub decreases-run_try : goal.decreases-run_try
decreases-run_try g l = measured l.self.now l.run.now 0 4

abbrev pub decreases-run_branch : goal.decreases-run_branch
decreases-run_branch g l = measured l.self.now l.run.now 0 3

abbrev pub decreases-run_until : goal.decreases-run_until
decreases-run_until g l = measured l.self.now l.run.now 0 3

abbrev pub decreases-run_coalesce : goal.decreases-run_coalesce
decreases-run_coalesce g l = measured l.self.now l.run.now 0 1

abbrev pub decreases-run_array : goal.decreases-run_array
decreases-run_array g l = measured l.self.now l.run.now 0 1

abbrev pub decreases-run_map : goal.decreases-run_map
decreases-run_map g l = measured l.self.now l.run.now 0 1

abbrev pub decreases-run_interpolated : goal.decreases-run_interpolated
decreases-run_interpolated g l = measured l.self.now l.run.now 0 1

abbrev pub decreases-run_body : goal.decreases-run_body
decreases-run_body g l = measured l.self.now l.run.now 0 0

abbrev pub decreases-finish_call : goal.decreases-finish_call
decreases-finish_call g l = measured l.self.now l.run.now 0 4

abbrev pub decreases-enter_fresh : goal.decreases-enter_fresh
decreases-enter_fresh g l = measured l.self.now l.run.now 0 3

abbrev pub decreases-enter_captured : goal.decreases-enter_captured
decreases-enter_captured g l = measured l.self.now l.run.now 0 3

abbrev pub decreases-run_on_values : goal.decreases-run_on_values
decreases-run_on_values g l = measured l.self.now l.run.now 0 5

abbrev pub decreases-assign_evaluated : goal.decreases-assign_evaluated
decreases-assign_evaluated g l = measured l.self.now l.run.now (left_by (Some (out-Expr l.lhs.now))) 14

abbrev pub decreases-run_method : goal.decreases-run_method
decreases-run_method g l = measured l.self.now l.run.now 0 5

abbrev pub decreases-enter_on_focus : goal.decreases-enter_on_focus
decreases-enter_on_focus g l = measured l.self.now l.run.now 0 4

abbrev pub decreases-walk_chain : goal.decreases-walk_chain
decreases-walk_chain g l = measured l.self.now l.run.now (left_by (Some (out-Expr l.rest.now))) 7

abbrev pub decreases-walk_part : goal.decreases-walk_part
decreases-walk_part g l = measured l.self.now l.run.now (left_by (Some (out-Expr l.rest.now))) 11

abbrev pub decreases-walk_variable : goal.decreases-walk_variable
decreases-walk_variable g l = measured l.self.now l.run.now (left_by (Some (out-Expr l.rest.now))) 10

abbrev pub decreases-walk_this : goal.decreases-walk_this
decreases-walk_this g l = measured l.self.now l.run.now (left_by (Some (out-Expr l.rest.now))) 8

abbrev pub decreases-walk_value : goal.decreases-walk_value
decreases-walk_value g l = measured l.self.now l.run.now (left_by (Some (out-Expr l.rest.now))) 8

abbrev pub decreases-walk_entered : goal.decreases-walk_entered
decreases-walk_entered g l = measured l.self.now l.run.now (left_by (behind_of l.link)) 16

abbrev pub decreases-walk_spot : goal.decreases-walk_spot
decreases-walk_spot g l = measured l.self.now l.run.now (left_by (behind_of l.link)) 13

abbrev pub decreases-walk_member : goal.decreases-walk_member
decreases-walk_member g l = measured l.self.now l.run.now (left_by (behind_of l.link)) 13

abbrev pub decreases-walk_behind : goal.decreases-walk_behind
decreases-walk_behind g l = measured l.self.now l.run.now (left_by (behind_of l.link)) 9

abbrev pub invariant-run_statements-each_stmt : goal.invariant-run_statements-each_stmt
invariant-run_statements-each_stmt g l = record {
  counts : l.fn.run.global.num_operations ≤ l.run.global.num_operations;
  resolves : SuitsNames l.run (passes (all_resolve (map resolves_stmt (drop l.stmt-index l.statements))));
  steps : Steps (under g.H.Host.name_of l.self g.T.NativeTable.natives)
      (Run l.statements l.restoring unit_value) (state_in (g.T.NativeTable.state l.fn.table) l.fn.run)
      (Run (drop l.stmt-index l.statements) l.restoring (last_of l.stmt-index l.run.value)) (state_in
      (g.T.NativeTable.state l.table) l.run);
}

abbrev pub invariant-run_until-each_part : goal.invariant-run_until-each_part
invariant-run_until-each_part g l = record {
  counts : l.fn.run.global.num_operations ≤ l.run.global.num_operations;
  names : KeepsNames l.fn.run l.run;
  steps : (k : List (Frame g.row.H.Denot)) →
      Leads (machine (under g.H.Host.name_of l.self g.T.NativeTable.natives)) (cut (under g.H.Host.name_of l.self g.T.NativeTable.natives))
      (with_core (until_core l.stop l.parts k (state_in (g.T.NativeTable.state l.fn.table) l.fn.run).local)
      (state_in (g.T.NativeTable.state l.fn.table) l.fn.run))
      (with_core (until_core l.stop (drop l.part-index l.parts) k (state_in (g.T.NativeTable.state l.table) l.run).local)
      (state_in (g.T.NativeTable.state l.table) l.run));
}

abbrev pub invariant-run_coalesce-each_part : goal.invariant-run_coalesce-each_part
invariant-run_coalesce-each_part g l = record {
  counts : l.fn.run.global.num_operations ≤ l.run.global.num_operations;
  names : KeepsNames l.fn.run l.run;
  steps : (k : List (Frame g.row.H.Denot)) →
      Leads (machine (under g.H.Host.name_of l.self g.T.NativeTable.natives)) (cut (under g.H.Host.name_of l.self g.T.NativeTable.natives))
      (with_core (coalesce_core unit_value l.parts k (state_in (g.T.NativeTable.state l.fn.table) l.fn.run).local)
      (state_in (g.T.NativeTable.state l.fn.table) l.fn.run))
      (with_core (coalesce_core l.run.value (drop l.part-index l.parts) k (state_in (g.T.NativeTable.state l.table) l.run).local)
      (state_in (g.T.NativeTable.state l.table) l.run));
}

abbrev pub invariant-run_more_args-each_arg : goal.invariant-run_more_args-each_arg
invariant-run_more_args-each_arg g l = record {
  counts : l.fn.run.global.num_operations ≤ l.run.global.num_operations;
  names : KeepsNames l.fn.run l.run;
  more : length l.values + length (drop l.arg-index l.args) ≡ length l.fn.values + length l.args;
  steps : (purpose : Purpose g.row.H.Denot) → flattens purpose ≡ l.flattened → (k : List (Frame g.row.H.Denot)) →
      Leads (machine (under g.H.Host.name_of l.self g.T.NativeTable.natives)) (cut (under g.H.Host.name_of l.self g.T.NativeTable.natives))
      (with_core (arguments_core (under g.H.Host.name_of l.self g.T.NativeTable.natives).setting purpose l.fn.values l.args k
      (state_in (g.T.NativeTable.state l.fn.table) l.fn.run).local)
      (state_in (g.T.NativeTable.state l.fn.table) l.fn.run))
      (with_core (arguments_core (under g.H.Host.name_of l.self g.T.NativeTable.natives).setting purpose l.values (drop
      l.arg-index l.args) k
      (state_in (g.T.NativeTable.state l.table) l.run).local)
      (state_in (g.T.NativeTable.state l.table) l.run));
}

abbrev pub invariant-run_parameters-each_arg : goal.invariant-run_parameters-each_arg
invariant-run_parameters-each_arg g l = record {
  counts : l.fn.run.global.num_operations ≤ l.run.global.num_operations;
  names : KeepsNames l.fn.run l.run;
  fills : Filling (under g.H.Host.name_of l.self g.T.NativeTable.natives) l.def.params l.args (drop l.arg-index l.args)
      l.variables (state_in (g.T.NativeTable.state l.fn.table) l.fn.run) (state_in (g.T.NativeTable.state l.table) l.run);
}

abbrev pub invariant-run_array-each_item : goal.invariant-run_array-each_item
invariant-run_array-each_item g l = record {
  counts : l.fn.run.global.num_operations ≤ l.run.global.num_operations;
  names : KeepsNames l.fn.run l.run;
  measured : IsMeasured l.made;
  steps : (k : List (Frame g.row.H.Denot)) →
      Leads (machine (under g.H.Host.name_of l.self g.T.NativeTable.natives)) (cut (under g.H.Host.name_of l.self g.T.NativeTable.natives))
      (with_core (items_core [] l.items k (state_in (g.T.NativeTable.state l.fn.table) l.fn.run).local)
      (state_in (g.T.NativeTable.state l.fn.table) l.fn.run))
      (with_core (items_core l.made.items (drop l.item-index l.items) k (state_in (g.T.NativeTable.state l.table) l.run).local)
      (state_in (g.T.NativeTable.state l.table) l.run));
}

abbrev pub invariant-run_map-each_entry : goal.invariant-run_map-each_entry
invariant-run_map-each_entry g l = record {
  counts : l.fn.run.global.num_operations ≤ l.run.global.num_operations;
  names : KeepsNames l.fn.run l.run;
  counted : IsCounted l.made;
  steps : (k : List (Frame g.row.H.Denot)) →
      Leads (machine (under g.H.Host.name_of l.self g.T.NativeTable.natives)) (cut (under g.H.Host.name_of l.self g.T.NativeTable.natives))
      (with_core (entries_core (map key_of l.entries) [] l.entries k (state_in (g.T.NativeTable.state l.fn.table) l.fn.run).local)
      (state_in (g.T.NativeTable.state l.fn.table) l.fn.run))
      (with_core (entries_core (map key_of l.entries) l.made.values (drop l.entry-index l.entries) k
      (state_in (g.T.NativeTable.state l.table) l.run).local)
      (state_in (g.T.NativeTable.state l.table) l.run));
}

abbrev pub invariant-run_interpolated-each_part : goal.invariant-run_interpolated-each_part
invariant-run_interpolated-each_part g l = record {
  counts : l.fn.run.global.num_operations ≤ l.run.global.num_operations;
  names : KeepsNames l.fn.run l.run;
  steps : (k : List (Frame g.row.H.Denot)) →
      Leads (machine (under g.H.Host.name_of l.self g.T.NativeTable.natives)) (cut (under g.H.Host.name_of l.self g.T.NativeTable.natives))
      (with_core (parts_core [] l.parts k (state_in (g.T.NativeTable.state l.fn.table) l.fn.run).local)
      (state_in (g.T.NativeTable.state l.fn.table) l.fn.run))
      (with_core (parts_core (string_bytes l.text) (drop l.part-index l.parts) k (state_in (g.T.NativeTable.state l.table) l.run).local)
      (state_in (g.T.NativeTable.state l.table) l.run));
}

abbrev pub invariant-run_while-turns : goal.invariant-run_while-turns
invariant-run_while-turns g l = record {
  counts : l.fn.run.global.num_operations ≤ l.run.global.num_operations;
  names : KeepsNames l.fn.run l.run;
  steps : Steps (under g.H.Host.name_of l.self g.T.NativeTable.natives) (WhileTurn l.test l.body)
      (state_in (g.T.NativeTable.state l.fn.table) l.fn.run) (WhileTurn l.test l.body) (state_in (g.T.NativeTable.state l.table) l.run);
}

abbrev pub decreases-run_while-turns : goal.decreases-run_while-turns
decreases-run_while-turns g l = left l.self l.run

abbrev pub invariant-run_do-turns : goal.invariant-run_do-turns
invariant-run_do-turns g l = record {
  counts : l.fn.run.global.num_operations ≤ l.run.global.num_operations;
  names : KeepsNames l.fn.run l.run;
  steps : Steps (under g.H.Host.name_of l.self g.T.NativeTable.natives) (DoTurn l.test l.body l.options)
      (state_in (g.T.NativeTable.state l.fn.table) l.fn.run) (DoTurn l.test l.body l.options)
      (state_in (g.T.NativeTable.state l.table) l.run);
}

abbrev pub decreases-run_do-turns : goal.decreases-run_do-turns
decreases-run_do-turns g l = left l.self l.run

-- the results that are left to be tried, from the value on
abbrev pub invariant-run_switch-each_candidate : goal.invariant-run_switch-each_candidate
invariant-run_switch-each_candidate g l = record {
  counts : l.fn.run.global.num_operations ≤ l.run.global.num_operations;
  names : KeepsNames l.fn.run l.run;
  steps : (pos : Position) (restoring : Bool) → Steps (under g.H.Host.name_of l.self g.T.NativeTable.natives)
      (OpenStmt (layer.Switch l.value l.results l.cases l.ranges l.default pos) restoring)
      (state_in (g.T.NativeTable.state l.fn.table) l.fn.run)
      (Choose (results_of l.results (numbers_left l.left)) (default_of (record {
        results = l.results;
        cases = l.cases;
        ranges = l.ranges;
        default = l.default;
      })))
      (state_in (g.T.NativeTable.state l.table) l.run);
}

abbrev pub decreases-run_switch-each_candidate : goal.decreases-run_switch-each_candidate
decreases-run_switch-each_candidate g l = length (results_of l.results (numbers_left l.left))

-- the turns that are left, from the room for the variables on
abbrev pub invariant-run_for-turns : goal.invariant-run_for-turns
invariant-run_for-turns g l = record {
  counts : l.fn.run.global.num_operations + l.turn ≤ l.run.global.num_operations;
  base : l.base + counters l.parts.counter.now + 1 ≡ length (names l.run);
  names : ChangesNames l.fn.run (naming (turn_names l.parts.variable.now l.parts.counter.now)) l.run;
  steps : (pos : Position) (restoring : Bool) (k : List (Frame g.row.H.Denot)) →
      Leads (machine (under g.H.Host.name_of l.self g.T.NativeTable.natives)) (cut (under g.H.Host.name_of l.self g.T.NativeTable.natives))
      (at (OpenStmt (layer.For l.parts.variable.now l.parts.counter.now l.parts.items.now l.parts.body.now pos) restoring) k
      (state_in (g.T.NativeTable.state l.fn.table) l.fn.run))
      (at (ForTurn (loop_in l.parts) (turns_in l.turns) l.turn l.base) (RestoreScope l.base ∷ k)
      (state_in (g.T.NativeTable.state l.table) l.run));
}

abbrev pub decreases-run_for-turns : goal.decreases-run_for-turns
decreases-run_for-turns g l = left l.self l.run
