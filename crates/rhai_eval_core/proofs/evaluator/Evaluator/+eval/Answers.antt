mod Bodies
mod Calls
mod Chains
mod Choices
mod Data
mod Expressions
mod Functions
mod Leaving
mod Located
mod Loops
mod Members
mod Methods
mod Plain
mod Qualified
mod Roots
mod Spots
mod Statements
mod Switches
mod Tries
mod Walk
mod Walks
use Rattle.rhai_eval_core.proofs.evaluator.Evaluator.+eval.Goals as goal
use Rattle.rhai_eval_core.proofs.evaluator.Evaluator.+eval.Answers.Bodies as bodies
use Rattle.rhai_eval_core.proofs.evaluator.Evaluator.+eval.Answers.Calls as calls
use Rattle.rhai_eval_core.proofs.evaluator.Evaluator.+eval.Answers.Chains as chains
use Rattle.rhai_eval_core.proofs.evaluator.Evaluator.+eval.Answers.Choices as choices
use Rattle.rhai_eval_core.proofs.evaluator.Evaluator.+eval.Answers.Data as making
use Rattle.rhai_eval_core.proofs.evaluator.Evaluator.+eval.Answers.Expressions as expressions
use Rattle.rhai_eval_core.proofs.evaluator.Evaluator.+eval.Answers.Functions as functions
use Rattle.rhai_eval_core.proofs.evaluator.Evaluator.+eval.Answers.Leaving as leaving
use Rattle.rhai_eval_core.proofs.evaluator.Evaluator.+eval.Answers.Located as located
use Rattle.rhai_eval_core.proofs.evaluator.Evaluator.+eval.Answers.Loops as loops
use Rattle.rhai_eval_core.proofs.evaluator.Evaluator.+eval.Answers.Members as members
use Rattle.rhai_eval_core.proofs.evaluator.Evaluator.+eval.Answers.Methods as methods
use Rattle.rhai_eval_core.proofs.evaluator.Evaluator.+eval.Answers.Plain as plain
use Rattle.rhai_eval_core.proofs.evaluator.Evaluator.+eval.Answers.Qualified as qualified
use Rattle.rhai_eval_core.proofs.evaluator.Evaluator.+eval.Answers.Roots as roots
use Rattle.rhai_eval_core.proofs.evaluator.Evaluator.+eval.Answers.Spots as spots
use Rattle.rhai_eval_core.proofs.evaluator.Evaluator.+eval.Answers.Statements as statements
use Rattle.rhai_eval_core.proofs.evaluator.Evaluator.+eval.Answers.Switches as switches
use Rattle.rhai_eval_core.proofs.evaluator.Evaluator.+eval.Answers.Tries as tries
use Rattle.rhai_eval_core.proofs.evaluator.Evaluator.+eval.Answers.Walk as walking
use Rattle.rhai_eval_core.proofs.evaluator.Evaluator.+eval.Answers.Walks as walks

pub run_body-returns-then-not-charge-clause-runs : goal.run_body-returns-then-not-charge-clause-runs
run_body-returns-then-not-charge-clause-runs = bodies.run_body-returns-then-not-charge-clause-runs

pub run_body-returns-in-Err-clause-runs : goal.run_body-returns-in-Err-clause-runs
run_body-returns-in-Err-clause-runs = bodies.run_body-returns-in-Err-clause-runs

pub run_body-run_stmt_block-done-requires : goal.run_body-run_stmt_block-done-requires
run_body-run_stmt_block-done-requires = bodies.run_body-run_stmt_block-done-requires

pub run_body-returns-in-Ok-None-clause-runs : goal.run_body-returns-in-Ok-None-clause-runs
run_body-returns-in-Ok-None-clause-runs = bodies.run_body-returns-in-Ok-None-clause-runs

pub run_body-returns-in-Ok-Some-clause-charges : goal.run_body-returns-in-Ok-Some-clause-charges
run_body-returns-in-Ok-Some-clause-charges = bodies.run_body-returns-in-Ok-Some-clause-charges

pub run_body-returns-in-Ok-Some-clause-runs : goal.run_body-returns-in-Ok-Some-clause-runs
run_body-returns-in-Ok-Some-clause-runs = bodies.run_body-returns-in-Ok-Some-clause-runs

pub run_body-returns-then-not-charge-clause-args : goal.run_body-returns-then-not-charge-clause-args
run_body-returns-then-not-charge-clause-args = bodies.run_body-returns-then-not-charge-clause-args

pub run_body-returns-in-Err-clause-args : goal.run_body-returns-in-Err-clause-args
run_body-returns-in-Err-clause-args = bodies.run_body-returns-in-Err-clause-args

pub run_body-returns-in-Ok-None-clause-args : goal.run_body-returns-in-Ok-None-clause-args
run_body-returns-in-Ok-None-clause-args = bodies.run_body-returns-in-Ok-None-clause-args

pub run_body-returns-in-Ok-Some-clause-args : goal.run_body-returns-in-Ok-Some-clause-args
run_body-returns-in-Ok-Some-clause-args = bodies.run_body-returns-in-Ok-Some-clause-args

pub enter_captured-returns-clause-runs : goal.enter_captured-returns-clause-runs
enter_captured-returns-clause-runs = bodies.enter_captured-returns-clause-runs

pub enter_captured-returns-clause-counts : goal.enter_captured-returns-clause-counts
enter_captured-returns-clause-counts = bodies.enter_captured-returns-clause-counts

pub enter_captured-returns-clause-names : goal.enter_captured-returns-clause-names
enter_captured-returns-clause-names = bodies.enter_captured-returns-clause-names

pub enter_fresh-returns-clause-runs : goal.enter_fresh-returns-clause-runs
enter_fresh-returns-clause-runs = bodies.enter_fresh-returns-clause-runs

pub enter_fresh-returns-clause-counts : goal.enter_fresh-returns-clause-counts
enter_fresh-returns-clause-counts = bodies.enter_fresh-returns-clause-counts

pub finish_call-returns-in-Ended-clause-runs : goal.finish_call-returns-in-Ended-clause-runs
finish_call-returns-in-Ended-clause-runs = bodies.finish_call-returns-in-Ended-clause-runs

pub finish_call-returns-then-is_fresh-clause-runs : goal.finish_call-returns-then-is_fresh-clause-runs
finish_call-returns-then-is_fresh-clause-runs = bodies.finish_call-returns-then-is_fresh-clause-runs

pub finish_call-returns-else-is_fresh-clause-runs : goal.finish_call-returns-else-is_fresh-clause-runs
finish_call-returns-else-is_fresh-clause-runs = bodies.finish_call-returns-else-is_fresh-clause-runs

pub enter_on_focus-returns-clause-runs : goal.enter_on_focus-returns-clause-runs
enter_on_focus-returns-clause-runs = bodies.enter_on_focus-returns-clause-runs

pub enter_on_focus-returns-clause-counts : goal.enter_on_focus-returns-clause-counts
enter_on_focus-returns-clause-counts = bodies.enter_on_focus-returns-clause-counts

pub run_method-returns-in-Ended-clause-runs : goal.run_method-returns-in-Ended-clause-runs
run_method-returns-in-Ended-clause-runs = bodies.run_method-returns-in-Ended-clause-runs

pub run_method-returns-in-OnTarget-clause-runs : goal.run_method-returns-in-OnTarget-clause-runs
run_method-returns-in-OnTarget-clause-runs = bodies.run_method-returns-in-OnTarget-clause-runs

pub run_method-returns-in-Alone-clause-runs : goal.run_method-returns-in-Alone-clause-runs
run_method-returns-in-Alone-clause-runs = bodies.run_method-returns-in-Alone-clause-runs

pub run_body-returns-then-not-charge-clause-sight : goal.run_body-returns-then-not-charge-clause-sight
run_body-returns-then-not-charge-clause-sight = bodies.run_body-returns-then-not-charge-clause-sight

pub run_body-returns-in-Err-clause-sight : goal.run_body-returns-in-Err-clause-sight
run_body-returns-in-Err-clause-sight = bodies.run_body-returns-in-Err-clause-sight

pub run_body-returns-in-Ok-None-clause-sight : goal.run_body-returns-in-Ok-None-clause-sight
run_body-returns-in-Ok-None-clause-sight = bodies.run_body-returns-in-Ok-None-clause-sight

pub run_body-returns-in-Ok-Some-clause-sight : goal.run_body-returns-in-Ok-Some-clause-sight
run_body-returns-in-Ok-Some-clause-sight = bodies.run_body-returns-in-Ok-Some-clause-sight

pub enter_fresh-returns-clause-sight : goal.enter_fresh-returns-clause-sight
enter_fresh-returns-clause-sight = bodies.enter_fresh-returns-clause-sight

pub enter_on_focus-returns-clause-sight : goal.enter_on_focus-returns-clause-sight
enter_on_focus-returns-clause-sight = bodies.enter_on_focus-returns-clause-sight

pub finish_call-returns-in-Ended-clause-names : goal.finish_call-returns-in-Ended-clause-names
finish_call-returns-in-Ended-clause-names = bodies.finish_call-returns-in-Ended-clause-names

pub finish_call-returns-then-is_fresh-clause-names : goal.finish_call-returns-then-is_fresh-clause-names
finish_call-returns-then-is_fresh-clause-names = bodies.finish_call-returns-then-is_fresh-clause-names

pub run_fn_call_expr-run_function-requires : goal.run_fn_call_expr-run_function-requires
run_fn_call_expr-run_function-requires = calls.run_fn_call_expr-run_function-requires

pub run_operation-run_unary-requires : goal.run_operation-run_unary-requires
run_operation-run_unary-requires = calls.run_operation-run_unary-requires

pub run_operation-run_operator-requires : goal.run_operation-run_operator-requires
run_operation-run_operator-requires = calls.run_operation-run_operator-requires

pub run_operation-returns-in-Some-clause-runs : goal.run_operation-returns-in-Some-clause-runs
run_operation-returns-in-Some-clause-runs = calls.run_operation-returns-in-Some-clause-runs

pub run_operation-returns-in_default-clause-runs : goal.run_operation-returns-in_default-clause-runs
run_operation-returns-in_default-clause-runs = calls.run_operation-returns-in_default-clause-runs

pub run_operation-run_function-requires : goal.run_operation-run_function-requires
run_operation-run_function-requires = calls.run_operation-run_function-requires

pub run_unary-operate_on_one-called-requires : goal.run_unary-operate_on_one-called-requires
run_unary-operate_on_one-called-requires = calls.run_unary-operate_on_one-called-requires

pub run_unary-returns-then-not-run_arg-clause-runs : goal.run_unary-returns-then-not-run_arg-clause-runs
run_unary-returns-then-not-run_arg-clause-runs = calls.run_unary-returns-then-not-run_arg-clause-runs

pub run_unary-returns-then-not-flatten_at-clause-runs : goal.run_unary-returns-then-not-flatten_at-clause-runs
run_unary-returns-then-not-flatten_at-clause-runs = calls.run_unary-returns-then-not-flatten_at-clause-runs

pub run_unary-returns-clause-runs : goal.run_unary-returns-clause-runs
run_unary-returns-clause-runs = calls.run_unary-returns-clause-runs

pub run_function-run_plain_call-requires : goal.run_function-run_plain_call-requires
run_function-run_plain_call-requires = calls.run_function-run_plain_call-requires

pub run_function-returns-in-Some-clause-runs : goal.run_function-returns-in-Some-clause-runs
run_function-returns-in-Some-clause-runs = calls.run_function-returns-in-Some-clause-runs

pub run_function-returns-in-Some-clause-names : goal.run_function-returns-in-Some-clause-names
run_function-returns-in-Some-clause-names = calls.run_function-returns-in-Some-clause-names

pub run_function-run_qualified_call-requires : goal.run_function-run_qualified_call-requires
run_function-run_qualified_call-requires = calls.run_function-run_qualified_call-requires

pub run_function-returns-then-not-is_plain-clause-runs : goal.run_function-returns-then-not-is_plain-clause-runs
run_function-returns-then-not-is_plain-clause-runs = calls.run_function-returns-then-not-is_plain-clause-runs

pub run_function-returns-then-not-is_plain-clause-names : goal.run_function-returns-then-not-is_plain-clause-names
run_function-returns-then-not-is_plain-clause-names = calls.run_function-returns-then-not-is_plain-clause-names

pub run_function-returns-in-Some-at_once-clause-runs : goal.run_function-returns-in-Some-at_once-clause-runs
run_function-returns-in-Some-at_once-clause-runs = calls.run_function-returns-in-Some-at_once-clause-runs

pub run_function-run_call-requires : goal.run_function-run_call-requires
run_function-run_call-requires = calls.run_function-run_call-requires

pub run_function-returns-clause-runs : goal.run_function-returns-clause-runs
run_function-returns-clause-runs = calls.run_function-returns-clause-runs

pub run_operator-run_arg-requires : goal.run_operator-run_arg-requires
run_operator-run_arg-requires = calls.run_operator-run_arg-requires

pub run_operator-run_arg-requires-2 : goal.run_operator-run_arg-requires-2
run_operator-run_arg-requires-2 = calls.run_operator-run_arg-requires-2

pub run_operator-operate_on_two-called-requires : goal.run_operator-operate_on_two-called-requires
run_operator-operate_on_two-called-requires = calls.run_operator-operate_on_two-called-requires

pub run_operator-returns-then-not-run_arg-clause-runs : goal.run_operator-returns-then-not-run_arg-clause-runs
run_operator-returns-then-not-run_arg-clause-runs = calls.run_operator-returns-then-not-run_arg-clause-runs

pub run_operator-returns-then-not-flatten_at-clause-runs : goal.run_operator-returns-then-not-flatten_at-clause-runs
run_operator-returns-then-not-flatten_at-clause-runs = calls.run_operator-returns-then-not-flatten_at-clause-runs

pub run_operator-returns-then-not-run_arg-2-clause-runs : goal.run_operator-returns-then-not-run_arg-2-clause-runs
run_operator-returns-then-not-run_arg-2-clause-runs = calls.run_operator-returns-then-not-run_arg-2-clause-runs

pub run_operator-returns-then-not-flatten_at-2-clause-runs : goal.run_operator-returns-then-not-flatten_at-2-clause-runs
run_operator-returns-then-not-flatten_at-2-clause-runs = calls.run_operator-returns-then-not-flatten_at-2-clause-runs

pub run_operator-returns-then-operate_known-clause-runs : goal.run_operator-returns-then-operate_known-clause-runs
run_operator-returns-then-operate_known-clause-runs = calls.run_operator-returns-then-operate_known-clause-runs

pub run_operator-returns-clause-runs : goal.run_operator-returns-clause-runs
run_operator-returns-clause-runs = calls.run_operator-returns-clause-runs

pub run_arg-returns-in-Some-clause-runs : goal.run_arg-returns-in-Some-clause-runs
run_arg-returns-in-Some-clause-runs = calls.run_arg-returns-in-Some-clause-runs

pub run_arg-returns-in-None-clause-runs : goal.run_arg-returns-in-None-clause-runs
run_arg-returns-in-None-clause-runs = calls.run_arg-returns-in-None-clause-runs

pub run_arg-run_expr-requires : goal.run_arg-run_expr-requires
run_arg-run_expr-requires = calls.run_arg-run_expr-requires

pub run_unary-returns-clause-names : goal.run_unary-returns-clause-names
run_unary-returns-clause-names = calls.run_unary-returns-clause-names

pub run_operator-returns-then-operate_known-clause-names : goal.run_operator-returns-then-operate_known-clause-names
run_operator-returns-then-operate_known-clause-names = calls.run_operator-returns-then-operate_known-clause-names

pub run_operator-returns-clause-names : goal.run_operator-returns-clause-names
run_operator-returns-clause-names = calls.run_operator-returns-clause-names

pub run_function-returns-in-Some-at_once-clause-names : goal.run_function-returns-in-Some-at_once-clause-names
run_function-returns-in-Some-at_once-clause-names = calls.run_function-returns-in-Some-at_once-clause-names

pub run_function-returns-clause-names : goal.run_function-returns-clause-names
run_function-returns-clause-names = calls.run_function-returns-clause-names

pub run_operation-returns-in-Some-clause-names : goal.run_operation-returns-in-Some-clause-names
run_operation-returns-in-Some-clause-names = calls.run_operation-returns-in-Some-clause-names

pub run_operation-returns-in_default-clause-names : goal.run_operation-returns-in_default-clause-names
run_operation-returns-in_default-clause-names = calls.run_operation-returns-in_default-clause-names

pub run_arg-returns-in-Some-clause-names : goal.run_arg-returns-in-Some-clause-names
run_arg-returns-in-Some-clause-names = calls.run_arg-returns-in-Some-clause-names

pub run_arg-returns-in-None-clause-names : goal.run_arg-returns-in-None-clause-names
run_arg-returns-in-None-clause-names = calls.run_arg-returns-in-None-clause-names

pub run_function-call_at_once-at_once-requires : goal.run_function-call_at_once-at_once-requires
run_function-call_at_once-at_once-requires = calls.run_function-call_at_once-at_once-requires

pub run_operation-operate_in_place-in_place-requires-clause-resolves_left :
    goal.run_operation-operate_in_place-in_place-requires-clause-resolves_left
run_operation-operate_in_place-in_place-requires-clause-resolves_left =
    calls.run_operation-operate_in_place-in_place-requires-clause-resolves_left

pub run_operation-operate_in_place-in_place-requires-clause-resolves_right :
    goal.run_operation-operate_in_place-in_place-requires-clause-resolves_right
run_operation-operate_in_place-in_place-requires-clause-resolves_right =
    calls.run_operation-operate_in_place-in_place-requires-clause-resolves_right

pub run_chain-take_ready_args-requires : goal.run_chain-take_ready_args-requires
run_chain-take_ready_args-requires = chains.run_chain-take_ready_args-requires

pub run_chain-returns-in_default-clause-runs : goal.run_chain-returns-in_default-clause-runs
run_chain-returns-in_default-clause-runs = chains.run_chain-returns-in_default-clause-runs

pub run_chain-run_link_args-requires : goal.run_chain-run_link_args-requires
run_chain-run_link_args-requires = chains.run_chain-run_link_args-requires

pub run_chain-run_root-done-requires : goal.run_chain-run_root-done-requires
run_chain-run_root-done-requires = chains.run_chain-run_root-done-requires

pub run_chain-run_root-done-requires-else-asks : goal.run_chain-run_root-done-requires-else-asks
run_chain-run_root-done-requires-else-asks = chains.run_chain-run_root-done-requires-else-asks

pub run_chain-returns-then-not-run_link_args-clause-runs : goal.run_chain-returns-then-not-run_link_args-clause-runs
run_chain-returns-then-not-run_link_args-clause-runs = chains.run_chain-returns-then-not-run_link_args-clause-runs

pub run_chain-returns-else-not-run_link_args-clause-runs : goal.run_chain-returns-else-not-run_link_args-clause-runs
run_chain-returns-else-not-run_link_args-clause-runs = chains.run_chain-returns-else-not-run_link_args-clause-runs

pub run_chain-returns-else-not-run_link_args-clause-asks : goal.run_chain-returns-else-not-run_link_args-clause-asks
run_chain-returns-else-not-run_link_args-clause-asks = chains.run_chain-returns-else-not-run_link_args-clause-asks

pub run_chain-returns-else-asks-clause-runs : goal.run_chain-returns-else-asks-clause-runs
run_chain-returns-else-asks-clause-runs = chains.run_chain-returns-else-asks-clause-runs

pub run_chain-returns-else-asks-clause-asks : goal.run_chain-returns-else-asks-clause-asks
run_chain-returns-else-asks-clause-asks = chains.run_chain-returns-else-asks-clause-asks

pub run_link_args-unreachable-requires : goal.run_link_args-unreachable-requires
run_link_args-unreachable-requires = chains.run_link_args-unreachable-requires

pub run_link_args-run_more_args-requires : goal.run_link_args-run_more_args-requires
run_link_args-run_more_args-requires = chains.run_link_args-run_more_args-requires

pub run_link_args-run_link_args-requires : goal.run_link_args-run_link_args-requires
run_link_args-run_link_args-requires = chains.run_link_args-run_link_args-requires

pub run_link_args-returns-then-not-charge-clause-gathers : goal.run_link_args-returns-then-not-charge-clause-gathers
run_link_args-returns-then-not-charge-clause-gathers = chains.run_link_args-returns-then-not-charge-clause-gathers

pub run_link_args-returns-then-not-run_more_args-clause-gathers : goal.run_link_args-returns-then-not-run_more_args-clause-gathers
run_link_args-returns-then-not-run_more_args-clause-gathers = chains.run_link_args-returns-then-not-run_more_args-clause-gathers

pub run_link_args-returns-in-Some-behind-clause-gathers : goal.run_link_args-returns-in-Some-behind-clause-gathers
run_link_args-returns-in-Some-behind-clause-gathers = chains.run_link_args-returns-in-Some-behind-clause-gathers

pub run_link_args-returns-in-Some-behind-clause-asked : goal.run_link_args-returns-in-Some-behind-clause-asked
run_link_args-returns-in-Some-behind-clause-asked = chains.run_link_args-returns-in-Some-behind-clause-asked

pub run_link_args-returns-in-None-clause-gathers : goal.run_link_args-returns-in-None-clause-gathers
run_link_args-returns-in-None-clause-gathers = chains.run_link_args-returns-in-None-clause-gathers

pub run_link_args-returns-in-None-clause-asked : goal.run_link_args-returns-in-None-clause-asked
run_link_args-returns-in-None-clause-asked = chains.run_link_args-returns-in-None-clause-asked

pub run_root-walk_value-requires : goal.run_root-walk_value-requires
run_root-walk_value-requires = chains.run_root-walk_value-requires

pub run_root-returns-then-not-run_expr-clause-runs : goal.run_root-returns-then-not-run_expr-clause-runs
run_root-returns-then-not-run_expr-clause-runs = chains.run_root-returns-then-not-run_expr-clause-runs

pub run_root-returns-else-not-run_expr-clause-runs : goal.run_root-returns-else-not-run_expr-clause-runs
run_root-returns-else-not-run_expr-clause-runs = chains.run_root-returns-else-not-run_expr-clause-runs

pub run_root-returns-then-not-charge-clause-runs : goal.run_root-returns-then-not-charge-clause-runs
run_root-returns-then-not-charge-clause-runs = chains.run_root-returns-then-not-charge-clause-runs

pub run_root-walk_variable-requires : goal.run_root-walk_variable-requires
run_root-walk_variable-requires = chains.run_root-walk_variable-requires

pub run_root-returns-else-not-charge-clause-runs : goal.run_root-returns-else-not-charge-clause-runs
run_root-returns-else-not-charge-clause-runs = chains.run_root-returns-else-not-charge-clause-runs

pub run_root-returns-then-not-charge-2-clause-runs : goal.run_root-returns-then-not-charge-2-clause-runs
run_root-returns-then-not-charge-2-clause-runs = chains.run_root-returns-then-not-charge-2-clause-runs

pub run_root-walk_this-requires : goal.run_root-walk_this-requires
run_root-walk_this-requires = chains.run_root-walk_this-requires

pub run_root-returns-else-not-charge-2-clause-runs : goal.run_root-returns-else-not-charge-2-clause-runs
run_root-returns-else-not-charge-2-clause-runs = chains.run_root-returns-else-not-charge-2-clause-runs

pub assign_chain-unreachable-requires : goal.assign_chain-unreachable-requires
assign_chain-unreachable-requires = chains.assign_chain-unreachable-requires

pub assign_chain-run_chain-requires : goal.assign_chain-run_chain-requires
assign_chain-run_chain-requires = chains.assign_chain-run_chain-requires

pub assign_chain-returns-then-not-run_expr-clause-runs : goal.assign_chain-returns-then-not-run_expr-clause-runs
assign_chain-returns-then-not-run_expr-clause-runs = chains.assign_chain-returns-then-not-run_expr-clause-runs

pub assign_chain-returns-in_default-take_flat-clause-runs : goal.assign_chain-returns-in_default-take_flat-clause-runs
assign_chain-returns-in_default-take_flat-clause-runs = chains.assign_chain-returns-in_default-take_flat-clause-runs

pub assign_chain-returns-then-not-run_chain-clause-runs : goal.assign_chain-returns-then-not-run_chain-clause-runs
assign_chain-returns-then-not-run_chain-clause-runs = chains.assign_chain-returns-then-not-run_chain-clause-runs

pub assign_chain-returns-clause-runs : goal.assign_chain-returns-clause-runs
assign_chain-returns-clause-runs = chains.assign_chain-returns-clause-runs

pub run_expr-read_chain-requires : goal.run_expr-read_chain-requires
run_expr-read_chain-requires = chains.run_expr-read_chain-requires

pub run_expr-read_chain-requires-in-Index : goal.run_expr-read_chain-requires-in-Index
run_expr-read_chain-requires-in-Index = chains.run_expr-read_chain-requires-in-Index

pub run_expr-returns-in-Dot-clause-runs : goal.run_expr-returns-in-Dot-clause-runs
run_expr-returns-in-Dot-clause-runs = chains.run_expr-returns-in-Dot-clause-runs

pub run_expr-returns-in-Index-clause-runs : goal.run_expr-returns-in-Index-clause-runs
run_expr-returns-in-Index-clause-runs = chains.run_expr-returns-in-Index-clause-runs

pub assign_evaluated-assign_chain-requires : goal.assign_evaluated-assign_chain-requires
assign_evaluated-assign_chain-requires = chains.assign_evaluated-assign_chain-requires

pub run_chain-returns-else-not-run_link_args-clause-names : goal.run_chain-returns-else-not-run_link_args-clause-names
run_chain-returns-else-not-run_link_args-clause-names = chains.run_chain-returns-else-not-run_link_args-clause-names

pub run_link_args-returns-in-Some-behind-clause-names : goal.run_link_args-returns-in-Some-behind-clause-names
run_link_args-returns-in-Some-behind-clause-names = chains.run_link_args-returns-in-Some-behind-clause-names

pub run_link_args-returns-in-None-clause-names : goal.run_link_args-returns-in-None-clause-names
run_link_args-returns-in-None-clause-names = chains.run_link_args-returns-in-None-clause-names

pub run_root-returns-else-not-run_expr-clause-names : goal.run_root-returns-else-not-run_expr-clause-names
run_root-returns-else-not-run_expr-clause-names = chains.run_root-returns-else-not-run_expr-clause-names

pub run_root-returns-else-not-charge-clause-names : goal.run_root-returns-else-not-charge-clause-names
run_root-returns-else-not-charge-clause-names = chains.run_root-returns-else-not-charge-clause-names

pub run_root-returns-else-not-charge-2-clause-names : goal.run_root-returns-else-not-charge-2-clause-names
run_root-returns-else-not-charge-2-clause-names = chains.run_root-returns-else-not-charge-2-clause-names

pub assign_chain-returns-clause-names : goal.assign_chain-returns-clause-names
assign_chain-returns-clause-names = chains.assign_chain-returns-clause-names

pub run_chain-returns-else-asks-clause-names : goal.run_chain-returns-else-asks-clause-names
run_chain-returns-else-asks-clause-names = chains.run_chain-returns-else-asks-clause-names

pub run_until-run_condition-requires : goal.run_until-run_condition-requires
run_until-run_condition-requires = choices.run_until-run_condition-requires

pub run_until-each_part-init : goal.run_until-each_part-init
run_until-each_part-init = choices.run_until-each_part-init

pub run_until-each_part-preserved : goal.run_until-each_part-preserved
run_until-each_part-preserved = choices.run_until-each_part-preserved

pub run_until-returns-in_default-clause-runs : goal.run_until-returns-in_default-clause-runs
run_until-returns-in_default-clause-runs = choices.run_until-returns-in_default-clause-runs

pub run_until-returns-then-is_same-clause-runs : goal.run_until-returns-then-is_same-clause-runs
run_until-returns-then-is_same-clause-runs = choices.run_until-returns-then-is_same-clause-runs

pub run_until-returns-clause-runs : goal.run_until-returns-clause-runs
run_until-returns-clause-runs = choices.run_until-returns-clause-runs

pub run_coalesce-run_expr-requires : goal.run_coalesce-run_expr-requires
run_coalesce-run_expr-requires = choices.run_coalesce-run_expr-requires

pub run_coalesce-each_part-init : goal.run_coalesce-each_part-init
run_coalesce-each_part-init = choices.run_coalesce-each_part-init

pub run_coalesce-each_part-preserved : goal.run_coalesce-each_part-preserved
run_coalesce-each_part-preserved = choices.run_coalesce-each_part-preserved

pub run_coalesce-returns-then-not-run_expr-clause-runs : goal.run_coalesce-returns-then-not-run_expr-clause-runs
run_coalesce-returns-then-not-run_expr-clause-runs = choices.run_coalesce-returns-then-not-run_expr-clause-runs

pub run_coalesce-returns-in-None-clause-runs : goal.run_coalesce-returns-in-None-clause-runs
run_coalesce-returns-in-None-clause-runs = choices.run_coalesce-returns-in-None-clause-runs

pub run_coalesce-returns-in-Some-false-clause-runs : goal.run_coalesce-returns-in-Some-false-clause-runs
run_coalesce-returns-in-Some-false-clause-runs = choices.run_coalesce-returns-in-Some-false-clause-runs

pub run_coalesce-returns-clause-runs : goal.run_coalesce-returns-clause-runs
run_coalesce-returns-clause-runs = choices.run_coalesce-returns-clause-runs

pub run_until-returns-then-is_same-clause-names : goal.run_until-returns-then-is_same-clause-names
run_until-returns-then-is_same-clause-names = choices.run_until-returns-then-is_same-clause-names

pub run_coalesce-returns-in-Some-false-clause-names : goal.run_coalesce-returns-in-Some-false-clause-names
run_coalesce-returns-in-Some-false-clause-names = choices.run_coalesce-returns-in-Some-false-clause-names

pub run_until-returns-clause-names : goal.run_until-returns-clause-names
run_until-returns-clause-names = choices.run_until-returns-clause-names

pub run_array-run_expr-requires : goal.run_array-run_expr-requires
run_array-run_expr-requires = making.run_array-run_expr-requires

pub run_array-each_item-init : goal.run_array-each_item-init
run_array-each_item-init = making.run_array-each_item-init

pub run_array-each_item-preserved : goal.run_array-each_item-preserved
run_array-each_item-preserved = making.run_array-each_item-preserved

pub run_array-returns-then-not-add-clause-runs : goal.run_array-returns-then-not-add-clause-runs
run_array-returns-then-not-add-clause-runs = making.run_array-returns-then-not-add-clause-runs

pub run_array-returns-then-not-run_expr-clause-runs : goal.run_array-returns-then-not-run_expr-clause-runs
run_array-returns-then-not-run_expr-clause-runs = making.run_array-returns-then-not-run_expr-clause-runs

pub run_array-returns-clause-runs : goal.run_array-returns-clause-runs
run_array-returns-clause-runs = making.run_array-returns-clause-runs

pub run_map-run_expr-requires : goal.run_map-run_expr-requires
run_map-run_expr-requires = making.run_map-run_expr-requires

pub run_map-each_entry-init : goal.run_map-each_entry-init
run_map-each_entry-init = making.run_map-each_entry-init

pub run_map-each_entry-preserved : goal.run_map-each_entry-preserved
run_map-each_entry-preserved = making.run_map-each_entry-preserved

pub run_map-returns-then-not-add-clause-runs : goal.run_map-returns-then-not-add-clause-runs
run_map-returns-then-not-add-clause-runs = making.run_map-returns-then-not-add-clause-runs

pub run_map-returns-then-not-run_expr-clause-runs : goal.run_map-returns-then-not-run_expr-clause-runs
run_map-returns-then-not-run_expr-clause-runs = making.run_map-returns-then-not-run_expr-clause-runs

pub run_map-returns-clause-runs : goal.run_map-returns-clause-runs
run_map-returns-clause-runs = making.run_map-returns-clause-runs

pub run_interpolated-run_expr-requires : goal.run_interpolated-run_expr-requires
run_interpolated-run_expr-requires = making.run_interpolated-run_expr-requires

pub run_interpolated-each_part-init : goal.run_interpolated-each_part-init
run_interpolated-each_part-init = making.run_interpolated-each_part-init

pub run_interpolated-each_part-preserved : goal.run_interpolated-each_part-preserved
run_interpolated-each_part-preserved = making.run_interpolated-each_part-preserved

pub run_interpolated-returns-then-not-run_expr-clause-runs : goal.run_interpolated-returns-then-not-run_expr-clause-runs
run_interpolated-returns-then-not-run_expr-clause-runs = making.run_interpolated-returns-then-not-run_expr-clause-runs

pub run_interpolated-returns-then-not-join-clause-runs : goal.run_interpolated-returns-then-not-join-clause-runs
run_interpolated-returns-then-not-join-clause-runs = making.run_interpolated-returns-then-not-join-clause-runs

pub run_interpolated-returns-clause-runs : goal.run_interpolated-returns-clause-runs
run_interpolated-returns-clause-runs = making.run_interpolated-returns-clause-runs

pub run_array-returns-clause-names : goal.run_array-returns-clause-names
run_array-returns-clause-names = making.run_array-returns-clause-names

pub run_map-returns-clause-names : goal.run_map-returns-clause-names
run_map-returns-clause-names = making.run_map-returns-clause-names

pub run_interpolated-returns-clause-names : goal.run_interpolated-returns-clause-names
run_interpolated-returns-clause-names = making.run_interpolated-returns-clause-names

pub run_expr-returns-then-not-charge_expr-clause-runs : goal.run_expr-returns-then-not-charge_expr-clause-runs
run_expr-returns-then-not-charge_expr-clause-runs = expressions.run_expr-returns-then-not-charge_expr-clause-runs

pub run_expr-returns-then-not-charge_expr-clause-memory : goal.run_expr-returns-then-not-charge_expr-clause-memory
run_expr-returns-then-not-charge_expr-clause-memory = expressions.run_expr-returns-then-not-charge_expr-clause-memory

pub run_expr-returns-in_default-clause-runs : goal.run_expr-returns-in_default-clause-runs
run_expr-returns-in_default-clause-runs = expressions.run_expr-returns-in_default-clause-runs

pub run_expr-returns-in_default-clause-memory : goal.run_expr-returns-in_default-clause-memory
run_expr-returns-in_default-clause-memory = expressions.run_expr-returns-in_default-clause-memory

pub run_expr-returns-in_default-clause-plain : goal.run_expr-returns-in_default-clause-plain
run_expr-returns-in_default-clause-plain = expressions.run_expr-returns-in_default-clause-plain

pub run_expr-returns-in_default-clause-truth : goal.run_expr-returns-in_default-clause-truth
run_expr-returns-in_default-clause-truth = expressions.run_expr-returns-in_default-clause-truth

pub run_expr-returns-in-Array-clause-runs : goal.run_expr-returns-in-Array-clause-runs
run_expr-returns-in-Array-clause-runs = expressions.run_expr-returns-in-Array-clause-runs

pub run_expr-returns-in-Map-clause-runs : goal.run_expr-returns-in-Map-clause-runs
run_expr-returns-in-Map-clause-runs = expressions.run_expr-returns-in-Map-clause-runs

pub run_expr-returns-in-InterpolatedString-clause-runs : goal.run_expr-returns-in-InterpolatedString-clause-runs
run_expr-returns-in-InterpolatedString-clause-runs = expressions.run_expr-returns-in-InterpolatedString-clause-runs

pub run_expr-returns-in-FnCall-clause-runs : goal.run_expr-returns-in-FnCall-clause-runs
run_expr-returns-in-FnCall-clause-runs = expressions.run_expr-returns-in-FnCall-clause-runs

pub run_expr-returns-in-And-clause-runs : goal.run_expr-returns-in-And-clause-runs
run_expr-returns-in-And-clause-runs = expressions.run_expr-returns-in-And-clause-runs

pub run_expr-returns-in-Or-clause-runs : goal.run_expr-returns-in-Or-clause-runs
run_expr-returns-in-Or-clause-runs = expressions.run_expr-returns-in-Or-clause-runs

pub run_expr-returns-in-Coalesce-clause-runs : goal.run_expr-returns-in-Coalesce-clause-runs
run_expr-returns-in-Coalesce-clause-runs = expressions.run_expr-returns-in-Coalesce-clause-runs

pub run_expr-returns-in-Stmt-clause-runs : goal.run_expr-returns-in-Stmt-clause-runs
run_expr-returns-in-Stmt-clause-runs = expressions.run_expr-returns-in-Stmt-clause-runs

pub run_expr-returns-in-Stmt-clause-charges : goal.run_expr-returns-in-Stmt-clause-charges
run_expr-returns-in-Stmt-clause-charges = expressions.run_expr-returns-in-Stmt-clause-charges

pub run_condition-returns-in-Some-clause-runs : goal.run_condition-returns-in-Some-clause-runs
run_condition-returns-in-Some-clause-runs = expressions.run_condition-returns-in-Some-clause-runs

pub run_condition-returns-then-not-run_expr-clause-runs : goal.run_condition-returns-then-not-run_expr-clause-runs
run_condition-returns-then-not-run_expr-clause-runs = expressions.run_condition-returns-then-not-run_expr-clause-runs

pub run_condition-returns-then-not-run_expr-clause-memory : goal.run_condition-returns-then-not-run_expr-clause-memory
run_condition-returns-then-not-run_expr-clause-memory = expressions.run_condition-returns-then-not-run_expr-clause-memory

pub run_condition-returns-else-not-run_expr-clause-runs : goal.run_condition-returns-else-not-run_expr-clause-runs
run_condition-returns-else-not-run_expr-clause-runs = expressions.run_condition-returns-else-not-run_expr-clause-runs

pub run_expr-run_fn_call_expr-requires : goal.run_expr-run_fn_call_expr-requires
run_expr-run_fn_call_expr-requires = expressions.run_expr-run_fn_call_expr-requires

pub run_expr-run_stmt_block-requires : goal.run_expr-run_stmt_block-requires
run_expr-run_stmt_block-requires = expressions.run_expr-run_stmt_block-requires

pub run_expr-run_until-requires : goal.run_expr-run_until-requires
run_expr-run_until-requires = expressions.run_expr-run_until-requires

pub run_expr-run_until-requires-in-Or : goal.run_expr-run_until-requires-in-Or
run_expr-run_until-requires-in-Or = expressions.run_expr-run_until-requires-in-Or

pub run_expr-run_coalesce-requires : goal.run_expr-run_coalesce-requires
run_expr-run_coalesce-requires = expressions.run_expr-run_coalesce-requires

pub run_expr-run_array-requires : goal.run_expr-run_array-requires
run_expr-run_array-requires = expressions.run_expr-run_array-requires

pub run_expr-run_map-requires : goal.run_expr-run_map-requires
run_expr-run_map-requires = expressions.run_expr-run_map-requires

pub run_expr-run_interpolated-requires : goal.run_expr-run_interpolated-requires
run_expr-run_interpolated-requires = expressions.run_expr-run_interpolated-requires

pub run_expr-read_expr-requires : goal.run_expr-read_expr-requires
run_expr-read_expr-requires = expressions.run_expr-read_expr-requires

pub run_condition-run_expr-requires : goal.run_condition-run_expr-requires
run_condition-run_expr-requires = expressions.run_condition-run_expr-requires

pub run_expr-returns-in-FnCall-clause-names : goal.run_expr-returns-in-FnCall-clause-names
run_expr-returns-in-FnCall-clause-names = expressions.run_expr-returns-in-FnCall-clause-names

pub run_expr-returns-in-And-clause-names : goal.run_expr-returns-in-And-clause-names
run_expr-returns-in-And-clause-names = expressions.run_expr-returns-in-And-clause-names

pub run_expr-returns-in-Or-clause-names : goal.run_expr-returns-in-Or-clause-names
run_expr-returns-in-Or-clause-names = expressions.run_expr-returns-in-Or-clause-names

pub run_expr-returns-in-Coalesce-clause-names : goal.run_expr-returns-in-Coalesce-clause-names
run_expr-returns-in-Coalesce-clause-names = expressions.run_expr-returns-in-Coalesce-clause-names

pub run_expr-returns-in-Array-clause-names : goal.run_expr-returns-in-Array-clause-names
run_expr-returns-in-Array-clause-names = expressions.run_expr-returns-in-Array-clause-names

pub run_expr-returns-in-Map-clause-names : goal.run_expr-returns-in-Map-clause-names
run_expr-returns-in-Map-clause-names = expressions.run_expr-returns-in-Map-clause-names

pub run_expr-returns-in-InterpolatedString-clause-names : goal.run_expr-returns-in-InterpolatedString-clause-names
run_expr-returns-in-InterpolatedString-clause-names = expressions.run_expr-returns-in-InterpolatedString-clause-names

pub run_expr-returns-in-Dot-clause-names : goal.run_expr-returns-in-Dot-clause-names
run_expr-returns-in-Dot-clause-names = expressions.run_expr-returns-in-Dot-clause-names

pub run_expr-returns-in-Index-clause-names : goal.run_expr-returns-in-Index-clause-names
run_expr-returns-in-Index-clause-names = expressions.run_expr-returns-in-Index-clause-names

pub run_expr-returns-in-Stmt-clause-names : goal.run_expr-returns-in-Stmt-clause-names
run_expr-returns-in-Stmt-clause-names = expressions.run_expr-returns-in-Stmt-clause-names

pub run_expr-returns-in_default-clause-names : goal.run_expr-returns-in_default-clause-names
run_expr-returns-in_default-clause-names = expressions.run_expr-returns-in_default-clause-names

pub run_condition-returns-in-Some-clause-names : goal.run_condition-returns-in-Some-clause-names
run_condition-returns-in-Some-clause-names = expressions.run_condition-returns-in-Some-clause-names

pub run_condition-returns-else-not-run_expr-clause-names : goal.run_condition-returns-else-not-run_expr-clause-names
run_condition-returns-else-not-run_expr-clause-names = expressions.run_condition-returns-else-not-run_expr-clause-names

pub run_condition-holds_at_once-requires : goal.run_condition-holds_at_once-requires
run_condition-holds_at_once-requires = expressions.run_condition-holds_at_once-requires

pub run_call-run_named-requires : goal.run_call-run_named-requires
run_call-run_named-requires = functions.run_call-run_named-requires

pub run_call-run_keyword-requires : goal.run_call-run_keyword-requires
run_call-run_keyword-requires = functions.run_call-run_keyword-requires

pub run_call-run_named-requires-in-None-keyword_of : goal.run_call-run_named-requires-in-None-keyword_of
run_call-run_named-requires-in-None-keyword_of = functions.run_call-run_named-requires-in-None-keyword_of

pub run_call-returns-in-None-clause-runs : goal.run_call-returns-in-None-clause-runs
run_call-returns-in-None-clause-runs = functions.run_call-returns-in-None-clause-runs

pub run_call-returns-in-Some-keyword_of-clause-runs : goal.run_call-returns-in-Some-keyword_of-clause-runs
run_call-returns-in-Some-keyword_of-clause-runs = functions.run_call-returns-in-Some-keyword_of-clause-runs

pub run_call-returns-in-None-keyword_of-clause-runs : goal.run_call-returns-in-None-keyword_of-clause-runs
run_call-returns-in-None-keyword_of-clause-runs = functions.run_call-returns-in-None-keyword_of-clause-runs

pub run_keyword-run_pointer-requires : goal.run_keyword-run_pointer-requires
run_keyword-run_pointer-requires = functions.run_keyword-run_pointer-requires

pub run_keyword-run_pointer-requires-in-Ok-Some : goal.run_keyword-run_pointer-requires-in-Ok-Some
run_keyword-run_pointer-requires-in-Ok-Some = functions.run_keyword-run_pointer-requires-in-Ok-Some

pub run_keyword-run_pointer-requires-in-Some : goal.run_keyword-run_pointer-requires-in-Some
run_keyword-run_pointer-requires-in-Some = functions.run_keyword-run_pointer-requires-in-Some

pub run_keyword-run_named-requires : goal.run_keyword-run_named-requires
run_keyword-run_named-requires = functions.run_keyword-run_named-requires

pub run_keyword-returns-then-not-run_arg-clause-runs : goal.run_keyword-returns-then-not-run_arg-clause-runs
run_keyword-returns-then-not-run_arg-clause-runs = functions.run_keyword-returns-then-not-run_arg-clause-runs

pub run_keyword-returns-in-IsShared-clause-runs : goal.run_keyword-returns-in-IsShared-clause-runs
run_keyword-returns-in-IsShared-clause-runs = functions.run_keyword-returns-in-IsShared-clause-runs

pub run_keyword-returns-in-Err-clause-runs : goal.run_keyword-returns-in-Err-clause-runs
run_keyword-returns-in-Err-clause-runs = functions.run_keyword-returns-in-Err-clause-runs

pub run_keyword-returns-in-Ok-clause-runs : goal.run_keyword-returns-in-Ok-clause-runs
run_keyword-returns-in-Ok-clause-runs = functions.run_keyword-returns-in-Ok-clause-runs

pub run_keyword-returns-in-Err-text_of-clause-runs : goal.run_keyword-returns-in-Err-text_of-clause-runs
run_keyword-returns-in-Err-text_of-clause-runs = functions.run_keyword-returns-in-Err-text_of-clause-runs

pub run_keyword-returns-in-Ok-text_of-clause-runs : goal.run_keyword-returns-in-Ok-text_of-clause-runs
run_keyword-returns-in-Ok-text_of-clause-runs = functions.run_keyword-returns-in-Ok-text_of-clause-runs

pub run_keyword-returns-in-Err-pointer_of-clause-runs : goal.run_keyword-returns-in-Err-pointer_of-clause-runs
run_keyword-returns-in-Err-pointer_of-clause-runs = functions.run_keyword-returns-in-Err-pointer_of-clause-runs

pub run_keyword-returns-in-Ok-pointer_of-clause-runs : goal.run_keyword-returns-in-Ok-pointer_of-clause-runs
run_keyword-returns-in-Ok-pointer_of-clause-runs = functions.run_keyword-returns-in-Ok-pointer_of-clause-runs

pub run_keyword-returns-in-Err-pointer_of-2-clause-runs : goal.run_keyword-returns-in-Err-pointer_of-2-clause-runs
run_keyword-returns-in-Err-pointer_of-2-clause-runs = functions.run_keyword-returns-in-Err-pointer_of-2-clause-runs

pub run_keyword-returns-in-Ok-Some-clause-runs : goal.run_keyword-returns-in-Ok-Some-clause-runs
run_keyword-returns-in-Ok-Some-clause-runs = functions.run_keyword-returns-in-Ok-Some-clause-runs

pub run_keyword-returns-in-Some-clause-runs : goal.run_keyword-returns-in-Some-clause-runs
run_keyword-returns-in-Some-clause-runs = functions.run_keyword-returns-in-Some-clause-runs

pub run_keyword-returns-in-None-clause-runs : goal.run_keyword-returns-in-None-clause-runs
run_keyword-returns-in-None-clause-runs = functions.run_keyword-returns-in-None-clause-runs

pub run_keyword-returns-in-Err-linked_function-clause-runs : goal.run_keyword-returns-in-Err-linked_function-clause-runs
run_keyword-returns-in-Err-linked_function-clause-runs = functions.run_keyword-returns-in-Err-linked_function-clause-runs

pub run_pointer-run_more_args-requires : goal.run_pointer-run_more_args-requires
run_pointer-run_more_args-requires = functions.run_pointer-run_more_args-requires

pub run_pointer-returns-then-not-run_more_args-clause-runs : goal.run_pointer-returns-then-not-run_more_args-clause-runs
run_pointer-returns-then-not-run_more_args-clause-runs = functions.run_pointer-returns-then-not-run_more_args-clause-runs

pub run_pointer-returns-clause-runs : goal.run_pointer-returns-clause-runs
run_pointer-returns-clause-runs = functions.run_pointer-returns-clause-runs

pub run_named-run_more_args-requires : goal.run_named-run_more_args-requires
run_named-run_more_args-requires = functions.run_named-run_more_args-requires

pub run_named-run_more_args-requires-in-Some-first_variable : goal.run_named-run_more_args-requires-in-Some-first_variable
run_named-run_more_args-requires-in-Some-first_variable = functions.run_named-run_more_args-requires-in-Some-first_variable

pub run_named-call_with_variable-called-requires : goal.run_named-call_with_variable-called-requires
run_named-call_with_variable-called-requires = functions.run_named-call_with_variable-called-requires

pub run_named-returns-then-not-charge-clause-runs : goal.run_named-returns-then-not-charge-clause-runs
run_named-returns-then-not-charge-clause-runs = functions.run_named-returns-then-not-charge-clause-runs

pub run_named-returns-then-not-run_more_args-clause-runs : goal.run_named-returns-then-not-run_more_args-clause-runs
run_named-returns-then-not-run_more_args-clause-runs = functions.run_named-returns-then-not-run_more_args-clause-runs

pub run_named-returns-in-Some-clause-runs : goal.run_named-returns-in-Some-clause-runs
run_named-returns-in-Some-clause-runs = functions.run_named-returns-in-Some-clause-runs

pub run_named-returns-then-not-charge-2-clause-runs : goal.run_named-returns-then-not-charge-2-clause-runs
run_named-returns-then-not-charge-2-clause-runs = functions.run_named-returns-then-not-charge-2-clause-runs

pub run_named-returns-then-not-run_more_args-2-clause-runs : goal.run_named-returns-then-not-run_more_args-2-clause-runs
run_named-returns-then-not-run_more_args-2-clause-runs = functions.run_named-returns-then-not-run_more_args-2-clause-runs

pub run_named-returns-else-not-run_more_args-2-clause-runs : goal.run_named-returns-else-not-run_more_args-2-clause-runs
run_named-returns-else-not-run_more_args-2-clause-runs = functions.run_named-returns-else-not-run_more_args-2-clause-runs

pub run_named-returns-in-None-clause-runs : goal.run_named-returns-in-None-clause-runs
run_named-returns-in-None-clause-runs = functions.run_named-returns-in-None-clause-runs

pub run_on_values-run_all_args-requires : goal.run_on_values-run_all_args-requires
run_on_values-run_all_args-requires = functions.run_on_values-run_all_args-requires

pub run_on_values-returns-then-not-run_all_args-clause-runs : goal.run_on_values-returns-then-not-run_all_args-clause-runs
run_on_values-returns-then-not-run_all_args-clause-runs = functions.run_on_values-returns-then-not-run_all_args-clause-runs

pub run_on_values-returns-clause-runs : goal.run_on_values-returns-clause-runs
run_on_values-returns-clause-runs = functions.run_on_values-returns-clause-runs

pub run_more_args-run_arg-requires : goal.run_more_args-run_arg-requires
run_more_args-run_arg-requires = functions.run_more_args-run_arg-requires

pub run_more_args-each_arg-init : goal.run_more_args-each_arg-init
run_more_args-each_arg-init = functions.run_more_args-each_arg-init

pub run_more_args-each_arg-preserved : goal.run_more_args-each_arg-preserved
run_more_args-each_arg-preserved = functions.run_more_args-each_arg-preserved

pub run_more_args-returns-then-not-run_arg-clause-collects : goal.run_more_args-returns-then-not-run_arg-clause-collects
run_more_args-returns-then-not-run_arg-clause-collects = functions.run_more_args-returns-then-not-run_arg-clause-collects

pub run_more_args-returns-then-not-push_argument-clause-collects : goal.run_more_args-returns-then-not-push_argument-clause-collects
run_more_args-returns-then-not-push_argument-clause-collects = functions.run_more_args-returns-then-not-push_argument-clause-collects

pub run_more_args-returns-clause-collects : goal.run_more_args-returns-clause-collects
run_more_args-returns-clause-collects = functions.run_more_args-returns-clause-collects

pub run_more_args-returns-clause-more : goal.run_more_args-returns-clause-more
run_more_args-returns-clause-more = functions.run_more_args-returns-clause-more

pub run_all_args-run_arg-requires : goal.run_all_args-run_arg-requires
run_all_args-run_arg-requires = functions.run_all_args-run_arg-requires

pub run_all_args-returns-then-not-run_arg-clause-collects : goal.run_all_args-returns-then-not-run_arg-clause-collects
run_all_args-returns-then-not-run_arg-clause-collects = functions.run_all_args-returns-then-not-run_arg-clause-collects

pub run_all_args-returns-then-not-push_argument-clause-collects : goal.run_all_args-returns-then-not-push_argument-clause-collects
run_all_args-returns-then-not-push_argument-clause-collects = functions.run_all_args-returns-then-not-push_argument-clause-collects

pub run_all_args-run_more_args-requires : goal.run_all_args-run_more_args-requires
run_all_args-run_more_args-requires = functions.run_all_args-run_more_args-requires

pub run_all_args-returns-in_default-clause-collects : goal.run_all_args-returns-in_default-clause-collects
run_all_args-returns-in_default-clause-collects = functions.run_all_args-returns-in_default-clause-collects

pub run_all_args-returns-clause-counts : goal.run_all_args-returns-clause-counts
run_all_args-returns-clause-counts = functions.run_all_args-returns-clause-counts

pub run_all_args-returns-clause-names : goal.run_all_args-returns-clause-names
run_all_args-returns-clause-names = functions.run_all_args-returns-clause-names

pub run_all_args-returns-clause-collects : goal.run_all_args-returns-clause-collects
run_all_args-returns-clause-collects = functions.run_all_args-returns-clause-collects

pub run_keyword-returns-in-Ok-pointer_of-clause-names : goal.run_keyword-returns-in-Ok-pointer_of-clause-names
run_keyword-returns-in-Ok-pointer_of-clause-names = functions.run_keyword-returns-in-Ok-pointer_of-clause-names

pub run_keyword-returns-in-Ok-Some-clause-names : goal.run_keyword-returns-in-Ok-Some-clause-names
run_keyword-returns-in-Ok-Some-clause-names = functions.run_keyword-returns-in-Ok-Some-clause-names

pub run_keyword-returns-in-Some-clause-names : goal.run_keyword-returns-in-Some-clause-names
run_keyword-returns-in-Some-clause-names = functions.run_keyword-returns-in-Some-clause-names

pub run_keyword-returns-in-None-clause-names : goal.run_keyword-returns-in-None-clause-names
run_keyword-returns-in-None-clause-names = functions.run_keyword-returns-in-None-clause-names

pub run_pointer-returns-clause-names : goal.run_pointer-returns-clause-names
run_pointer-returns-clause-names = functions.run_pointer-returns-clause-names

pub run_named-returns-in-Some-clause-names : goal.run_named-returns-in-Some-clause-names
run_named-returns-in-Some-clause-names = functions.run_named-returns-in-Some-clause-names

pub run_named-returns-else-not-run_more_args-2-clause-names : goal.run_named-returns-else-not-run_more_args-2-clause-names
run_named-returns-else-not-run_more_args-2-clause-names = functions.run_named-returns-else-not-run_more_args-2-clause-names

pub run_on_values-returns-clause-names : goal.run_on_values-returns-clause-names
run_on_values-returns-clause-names = functions.run_on_values-returns-clause-names

pub run_all_args-returns-in_default-clause-names : goal.run_all_args-returns-in_default-clause-names
run_all_args-returns-in_default-clause-names = functions.run_all_args-returns-in_default-clause-names

pub run_keyword-returns-in-IsShared-clause-names : goal.run_keyword-returns-in-IsShared-clause-names
run_keyword-returns-in-IsShared-clause-names = functions.run_keyword-returns-in-IsShared-clause-names

pub run_keyword-returns-in-Ok-clause-names : goal.run_keyword-returns-in-Ok-clause-names
run_keyword-returns-in-Ok-clause-names = functions.run_keyword-returns-in-Ok-clause-names

pub run_keyword-returns-in-Ok-text_of-clause-names : goal.run_keyword-returns-in-Ok-text_of-clause-names
run_keyword-returns-in-Ok-text_of-clause-names = functions.run_keyword-returns-in-Ok-text_of-clause-names

pub run_break-returns-in-None-clause-runs : goal.run_break-returns-in-None-clause-runs
run_break-returns-in-None-clause-runs = leaving.run_break-returns-in-None-clause-runs

pub run_break-returns-then-not-run_expr-clause-runs : goal.run_break-returns-then-not-run_expr-clause-runs
run_break-returns-then-not-run_expr-clause-runs = leaving.run_break-returns-then-not-run_expr-clause-runs

pub run_break-returns-else-not-run_expr-clause-runs : goal.run_break-returns-else-not-run_expr-clause-runs
run_break-returns-else-not-run_expr-clause-runs = leaving.run_break-returns-else-not-run_expr-clause-runs

pub run_return-returns-in-None-clause-runs : goal.run_return-returns-in-None-clause-runs
run_return-returns-in-None-clause-runs = leaving.run_return-returns-in-None-clause-runs

pub run_return-returns-then-not-run_expr-clause-runs : goal.run_return-returns-then-not-run_expr-clause-runs
run_return-returns-then-not-run_expr-clause-runs = leaving.run_return-returns-then-not-run_expr-clause-runs

pub run_return-returns-then-not-flatten_at-clause-runs : goal.run_return-returns-then-not-flatten_at-clause-runs
run_return-returns-then-not-flatten_at-clause-runs = leaving.run_return-returns-then-not-flatten_at-clause-runs

pub run_return-returns-else-not-flatten_at-clause-runs : goal.run_return-returns-else-not-flatten_at-clause-runs
run_return-returns-else-not-flatten_at-clause-runs = leaving.run_return-returns-else-not-flatten_at-clause-runs

pub walk_entered-unreachable-requires : goal.walk_entered-unreachable-requires
walk_entered-unreachable-requires = located.walk_entered-unreachable-requires

pub walk_entered-split_at_mut-given-requires : goal.walk_entered-split_at_mut-given-requires
walk_entered-split_at_mut-given-requires = located.walk_entered-split_at_mut-given-requires

pub walk_entered-walk_behind-result-requires : goal.walk_entered-walk_behind-result-requires
walk_entered-walk_behind-result-requires = located.walk_entered-walk_behind-result-requires

pub walk_entered-walk_spot-result-requires : goal.walk_entered-walk_spot-result-requires
walk_entered-walk_spot-result-requires = located.walk_entered-walk_spot-result-requires

pub walk_entered-walk_member-result-requires : goal.walk_entered-walk_member-result-requires
walk_entered-walk_member-result-requires = located.walk_entered-walk_member-result-requires

pub walk_entered-walk_spot-result-requires-then-is_map : goal.walk_entered-walk_spot-result-requires-then-is_map
walk_entered-walk_spot-result-requires-then-is_map = located.walk_entered-walk_spot-result-requires-then-is_map

pub walk_entered-walk_member-result-requires-else-is_map : goal.walk_entered-walk_member-result-requires-else-is_map
walk_entered-walk_member-result-requires-else-is_map = located.walk_entered-walk_member-result-requires-else-is_map

pub walk_entered-returns-then-is_indexed-clause-runs : goal.walk_entered-returns-then-is_indexed-clause-runs
walk_entered-returns-then-is_indexed-clause-runs = located.walk_entered-returns-then-is_indexed-clause-runs

pub walk_entered-returns-else-is_indexed-clause-runs : goal.walk_entered-returns-else-is_indexed-clause-runs
walk_entered-returns-else-is_indexed-clause-runs = located.walk_entered-returns-else-is_indexed-clause-runs

pub walk_entered-returns-in_default-key_for-clause-runs : goal.walk_entered-returns-in_default-key_for-clause-runs
walk_entered-returns-in_default-key_for-clause-runs = located.walk_entered-returns-in_default-key_for-clause-runs

pub walk_entered-returns-in-Some-clause-runs : goal.walk_entered-returns-in-Some-clause-runs
walk_entered-returns-in-Some-clause-runs = located.walk_entered-returns-in-Some-clause-runs

pub walk_entered-returns-else-is_map-clause-runs : goal.walk_entered-returns-else-is_map-clause-runs
walk_entered-returns-else-is_map-clause-runs = located.walk_entered-returns-else-is_map-clause-runs

pub walk_entered-returns-in-Method-clause-runs : goal.walk_entered-returns-in-Method-clause-runs
walk_entered-returns-in-Method-clause-runs = located.walk_entered-returns-in-Method-clause-runs

pub run_while-turns-init : goal.run_while-turns-init
run_while-turns-init = loops.run_while-turns-init

pub run_while-turns-smaller : goal.run_while-turns-smaller
run_while-turns-smaller = loops.run_while-turns-smaller

pub run_while-turns-preserved : goal.run_while-turns-preserved
run_while-turns-preserved = loops.run_while-turns-preserved

pub run_while-returns-in-Some-clause-runs : goal.run_while-returns-in-Some-clause-runs
run_while-returns-in-Some-clause-runs = loops.run_while-returns-in-Some-clause-runs

pub run_while-returns-in-Some-clause-counts : goal.run_while-returns-in-Some-clause-counts
run_while-returns-in-Some-clause-counts = loops.run_while-returns-in-Some-clause-counts

pub run_while-returns-in-Some-clause-names : goal.run_while-returns-in-Some-clause-names
run_while-returns-in-Some-clause-names = loops.run_while-returns-in-Some-clause-names

pub run_do-turns-init : goal.run_do-turns-init
run_do-turns-init = loops.run_do-turns-init

pub run_do-turns-smaller : goal.run_do-turns-smaller
run_do-turns-smaller = loops.run_do-turns-smaller

pub run_do-turns-preserved : goal.run_do-turns-preserved
run_do-turns-preserved = loops.run_do-turns-preserved

pub run_do-returns-in-Some-clause-runs : goal.run_do-returns-in-Some-clause-runs
run_do-returns-in-Some-clause-runs = loops.run_do-returns-in-Some-clause-runs

pub run_do-returns-in-Some-clause-counts : goal.run_do-returns-in-Some-clause-counts
run_do-returns-in-Some-clause-counts = loops.run_do-returns-in-Some-clause-counts

pub run_do-returns-in-Some-clause-names : goal.run_do-returns-in-Some-clause-names
run_do-returns-in-Some-clause-names = loops.run_do-returns-in-Some-clause-names

pub do_turn-returns-in-Stopped-clause-runs : goal.do_turn-returns-in-Stopped-clause-runs
do_turn-returns-in-Stopped-clause-runs = loops.do_turn-returns-in-Stopped-clause-runs

pub do_turn-returns-in-Break-clause-runs : goal.do_turn-returns-in-Break-clause-runs
do_turn-returns-in-Break-clause-runs = loops.do_turn-returns-in-Break-clause-runs

pub do_turn-returns-in-Break-clause-charges : goal.do_turn-returns-in-Break-clause-charges
do_turn-returns-in-Break-clause-charges = loops.do_turn-returns-in-Break-clause-charges

pub do_turn-returns-in-Break-clause-names : goal.do_turn-returns-in-Break-clause-names
do_turn-returns-in-Break-clause-names = loops.do_turn-returns-in-Break-clause-names

pub do_turn-returns-in-Continue-clause-runs : goal.do_turn-returns-in-Continue-clause-runs
do_turn-returns-in-Continue-clause-runs = loops.do_turn-returns-in-Continue-clause-runs

pub do_turn-returns-in-Continue-clause-charges : goal.do_turn-returns-in-Continue-clause-charges
do_turn-returns-in-Continue-clause-charges = loops.do_turn-returns-in-Continue-clause-charges

pub do_turn-returns-in-Continue-clause-names : goal.do_turn-returns-in-Continue-clause-names
do_turn-returns-in-Continue-clause-names = loops.do_turn-returns-in-Continue-clause-names

pub do_turn-run_condition-requires : goal.do_turn-run_condition-requires
do_turn-run_condition-requires = loops.do_turn-run_condition-requires

pub do_turn-returns-in-None-clause-runs : goal.do_turn-returns-in-None-clause-runs
do_turn-returns-in-None-clause-runs = loops.do_turn-returns-in-None-clause-runs

pub do_turn-returns-in-Some-clause-runs : goal.do_turn-returns-in-Some-clause-runs
do_turn-returns-in-Some-clause-runs = loops.do_turn-returns-in-Some-clause-runs

pub do_turn-returns-in-Some-clause-charges : goal.do_turn-returns-in-Some-clause-charges
do_turn-returns-in-Some-clause-charges = loops.do_turn-returns-in-Some-clause-charges

pub do_turn-returns-in-Some-clause-names : goal.do_turn-returns-in-Some-clause-names
do_turn-returns-in-Some-clause-names = loops.do_turn-returns-in-Some-clause-names

pub while_turn-returns-in-None-clause-runs : goal.while_turn-returns-in-None-clause-runs
while_turn-returns-in-None-clause-runs = loops.while_turn-returns-in-None-clause-runs

pub while_turn-returns-then-is_empty-clause-runs : goal.while_turn-returns-then-is_empty-clause-runs
while_turn-returns-then-is_empty-clause-runs = loops.while_turn-returns-then-is_empty-clause-runs

pub while_turn-returns-then-charge-clause-runs : goal.while_turn-returns-then-charge-clause-runs
while_turn-returns-then-charge-clause-runs = loops.while_turn-returns-then-charge-clause-runs

pub while_turn-returns-then-is_endless-clause-runs : goal.while_turn-returns-then-is_endless-clause-runs
while_turn-returns-then-is_endless-clause-runs = loops.while_turn-returns-then-is_endless-clause-runs

pub while_turn-returns-then-is_endless-clause-charges : goal.while_turn-returns-then-is_endless-clause-charges
while_turn-returns-then-is_endless-clause-charges = loops.while_turn-returns-then-is_endless-clause-charges

pub while_turn-returns-then-is_endless-clause-names : goal.while_turn-returns-then-is_endless-clause-names
while_turn-returns-then-is_endless-clause-names = loops.while_turn-returns-then-is_endless-clause-names

pub while_turn-returns-then-holds-clause-runs : goal.while_turn-returns-then-holds-clause-runs
while_turn-returns-then-holds-clause-runs = loops.while_turn-returns-then-holds-clause-runs

pub while_turn-returns-then-holds-clause-charges : goal.while_turn-returns-then-holds-clause-charges
while_turn-returns-then-holds-clause-charges = loops.while_turn-returns-then-holds-clause-charges

pub while_turn-returns-then-holds-clause-names : goal.while_turn-returns-then-holds-clause-names
while_turn-returns-then-holds-clause-names = loops.while_turn-returns-then-holds-clause-names

pub while_turn-returns-else-holds-clause-runs : goal.while_turn-returns-else-holds-clause-runs
while_turn-returns-else-holds-clause-runs = loops.while_turn-returns-else-holds-clause-runs

pub run_while-while_turn-requires : goal.run_while-while_turn-requires
run_while-while_turn-requires = loops.run_while-while_turn-requires

pub run_do-do_turn-requires : goal.run_do-do_turn-requires
run_do-do_turn-requires = loops.run_do-do_turn-requires

pub while_turn-run_stmt_block-done-requires : goal.while_turn-run_stmt_block-done-requires
while_turn-run_stmt_block-done-requires = loops.while_turn-run_stmt_block-done-requires

pub while_turn-run_stmt_block-done-requires-then-holds : goal.while_turn-run_stmt_block-done-requires-then-holds
while_turn-run_stmt_block-done-requires-then-holds = loops.while_turn-run_stmt_block-done-requires-then-holds

pub do_turn-run_stmt_block-done-requires : goal.do_turn-run_stmt_block-done-requires
do_turn-run_stmt_block-done-requires = loops.do_turn-run_stmt_block-done-requires

pub run_break-run_expr-requires : goal.run_break-run_expr-requires
run_break-run_expr-requires = loops.run_break-run_expr-requires

pub run_return-run_expr-requires : goal.run_return-run_expr-requires
run_return-run_expr-requires = loops.run_return-run_expr-requires

pub while_turn-returns-then-charge-clause-names : goal.while_turn-returns-then-charge-clause-names
while_turn-returns-then-charge-clause-names = loops.while_turn-returns-then-charge-clause-names

pub while_turn-returns-else-holds-clause-names : goal.while_turn-returns-else-holds-clause-names
while_turn-returns-else-holds-clause-names = loops.while_turn-returns-else-holds-clause-names

pub walk_member-returns-in_default-clause-runs : goal.walk_member-returns-in_default-clause-runs
walk_member-returns-in_default-clause-runs = members.walk_member-returns-in_default-clause-runs

pub walk_member-walk_chain-mark-requires : goal.walk_member-walk_chain-mark-requires
walk_member-walk_chain-mark-requires = members.walk_member-walk_chain-mark-requires

pub walk_member-returns-in-Some-get_kept-clause-runs : goal.walk_member-returns-in-Some-get_kept-clause-runs
walk_member-returns-in-Some-get_kept-clause-runs = members.walk_member-returns-in-Some-get_kept-clause-runs

pub walk_member-returns-in-None-clause-runs : goal.walk_member-returns-in-None-clause-runs
walk_member-returns-in-None-clause-runs = members.walk_member-returns-in-None-clause-runs

pub walk_behind-walk_chain-result-requires : goal.walk_behind-walk_chain-result-requires
walk_behind-walk_chain-result-requires = methods.walk_behind-walk_chain-result-requires

pub walk_behind-returns-in_default-clause-runs : goal.walk_behind-returns-in_default-clause-runs
walk_behind-returns-in_default-clause-runs = methods.walk_behind-returns-in_default-clause-runs

pub walk_behind-returns-in-Some-mark-clause-runs : goal.walk_behind-returns-in-Some-mark-clause-runs
walk_behind-returns-in-Some-mark-clause-runs = methods.walk_behind-returns-in-Some-mark-clause-runs

pub walk_behind-returns-in-None-clause-runs : goal.walk_behind-returns-in-None-clause-runs
walk_behind-returns-in-None-clause-runs = methods.walk_behind-returns-in-None-clause-runs

pub run_plain_call-run_parameters-requires : goal.run_plain_call-run_parameters-requires
run_plain_call-run_parameters-requires = plain.run_plain_call-run_parameters-requires

pub run_plain_call-returns-then-not-run_parameters-clause-runs : goal.run_plain_call-returns-then-not-run_parameters-clause-runs
run_plain_call-returns-then-not-run_parameters-clause-runs = plain.run_plain_call-returns-then-not-run_parameters-clause-runs

pub run_plain_call-returns-then-stops_by_race-clause-runs : goal.run_plain_call-returns-then-stops_by_race-clause-runs
run_plain_call-returns-then-stops_by_race-clause-runs = plain.run_plain_call-returns-then-stops_by_race-clause-runs

pub run_plain_call-returns-in-Some-clause-runs : goal.run_plain_call-returns-in-Some-clause-runs
run_plain_call-returns-in-Some-clause-runs = plain.run_plain_call-returns-in-Some-clause-runs

pub run_plain_call-returns-in-Some-clause-counts : goal.run_plain_call-returns-in-Some-clause-counts
run_plain_call-returns-in-Some-clause-counts = plain.run_plain_call-returns-in-Some-clause-counts

pub run_plain_call-run_stmt_block-done-requires : goal.run_plain_call-run_stmt_block-done-requires
run_plain_call-run_stmt_block-done-requires = plain.run_plain_call-run_stmt_block-done-requires

pub run_plain_call-returns-clause-counts : goal.run_plain_call-returns-clause-counts
run_plain_call-returns-clause-counts = plain.run_plain_call-returns-clause-counts

pub run_plain_call-returns-clause-names : goal.run_plain_call-returns-clause-names
run_plain_call-returns-clause-names = plain.run_plain_call-returns-clause-names

pub run_plain_call-returns-in-Some-clause-names : goal.run_plain_call-returns-in-Some-clause-names
run_plain_call-returns-in-Some-clause-names = plain.run_plain_call-returns-in-Some-clause-names

pub run_plain_call-returns-clause-runs : goal.run_plain_call-returns-clause-runs
run_plain_call-returns-clause-runs = plain.run_plain_call-returns-clause-runs

pub run_parameters-run_arg-requires : goal.run_parameters-run_arg-requires
run_parameters-run_arg-requires = plain.run_parameters-run_arg-requires

pub run_parameters-each_arg-init : goal.run_parameters-each_arg-init
run_parameters-each_arg-init = plain.run_parameters-each_arg-init

pub run_parameters-push_parameter-requires : goal.run_parameters-push_parameter-requires
run_parameters-push_parameter-requires = plain.run_parameters-push_parameter-requires

pub run_parameters-each_arg-preserved : goal.run_parameters-each_arg-preserved
run_parameters-each_arg-preserved = plain.run_parameters-each_arg-preserved

pub run_parameters-returns-then-not-run_arg-clause-fills : goal.run_parameters-returns-then-not-run_arg-clause-fills
run_parameters-returns-then-not-run_arg-clause-fills = plain.run_parameters-returns-then-not-run_arg-clause-fills

pub run_parameters-returns-then-not-push_parameter-clause-fills : goal.run_parameters-returns-then-not-push_parameter-clause-fills
run_parameters-returns-then-not-push_parameter-clause-fills = plain.run_parameters-returns-then-not-push_parameter-clause-fills

pub run_parameters-returns-clause-fills : goal.run_parameters-returns-clause-fills
run_parameters-returns-clause-fills = plain.run_parameters-returns-clause-fills

pub run_qualified_call-run_more_args-requires : goal.run_qualified_call-run_more_args-requires
run_qualified_call-run_more_args-requires = qualified.run_qualified_call-run_more_args-requires

pub run_qualified_call-call_behind-called-requires : goal.run_qualified_call-call_behind-called-requires
run_qualified_call-call_behind-called-requires = qualified.run_qualified_call-call_behind-called-requires

pub run_qualified_call-returns-then-not-charge_last-clause-runs : goal.run_qualified_call-returns-then-not-charge_last-clause-runs
run_qualified_call-returns-then-not-charge_last-clause-runs = qualified.run_qualified_call-returns-then-not-charge_last-clause-runs

pub run_qualified_call-returns-then-not-run_more_args-clause-runs : goal.run_qualified_call-returns-then-not-run_more_args-clause-runs
run_qualified_call-returns-then-not-run_more_args-clause-runs = qualified.run_qualified_call-returns-then-not-run_more_args-clause-runs

pub run_qualified_call-returns-clause-runs : goal.run_qualified_call-returns-clause-runs
run_qualified_call-returns-clause-runs = qualified.run_qualified_call-returns-clause-runs

pub run_qualified_call-returns-clause-names : goal.run_qualified_call-returns-clause-names
run_qualified_call-returns-clause-names = qualified.run_qualified_call-returns-clause-names

pub walk_variable-returns-in_default-clause-names : goal.walk_variable-returns-in_default-clause-names
walk_variable-returns-in_default-clause-names = roots.walk_variable-returns-in_default-clause-names

pub walk_variable-returns-in_default-clause-runs : goal.walk_variable-returns-in_default-clause-runs
walk_variable-returns-in_default-clause-runs = roots.walk_variable-returns-in_default-clause-runs

pub walk_variable-give_variable-requires : goal.walk_variable-give_variable-requires
walk_variable-give_variable-requires = roots.walk_variable-give_variable-requires

pub walk_variable-returns-clause-names : goal.walk_variable-returns-clause-names
walk_variable-returns-clause-names = roots.walk_variable-returns-clause-names

pub walk_variable-returns-clause-runs : goal.walk_variable-returns-clause-runs
walk_variable-returns-clause-runs = roots.walk_variable-returns-clause-runs

pub walk_this-returns-in_default-clause-runs : goal.walk_this-returns-in_default-clause-runs
walk_this-returns-in_default-clause-runs = roots.walk_this-returns-in_default-clause-runs

pub walk_this-returns-clause-runs : goal.walk_this-returns-clause-runs
walk_this-returns-clause-runs = roots.walk_this-returns-clause-runs

pub walk_value-returns-in_default-clause-runs : goal.walk_value-returns-in_default-clause-runs
walk_value-returns-in_default-clause-runs = roots.walk_value-returns-in_default-clause-runs

pub walk_value-returns-clause-runs : goal.walk_value-returns-clause-runs
walk_value-returns-clause-runs = roots.walk_value-returns-clause-runs

pub walk_variable-lend_variable-lent-requires : goal.walk_variable-lend_variable-lent-requires
walk_variable-lend_variable-lent-requires = roots.walk_variable-lend_variable-lent-requires

pub walk_spot-returns-in_default-clause-runs : goal.walk_spot-returns-in_default-clause-runs
walk_spot-returns-in_default-clause-runs = spots.walk_spot-returns-in_default-clause-runs

pub walk_spot-place_mut-place-requires : goal.walk_spot-place_mut-place-requires
walk_spot-place_mut-place-requires = spots.walk_spot-place_mut-place-requires

pub walk_spot-walk_chain-requires : goal.walk_spot-walk_chain-requires
walk_spot-walk_chain-requires = spots.walk_spot-walk_chain-requires

pub walk_spot-walk_chain-mark-requires : goal.walk_spot-walk_chain-mark-requires
walk_spot-walk_chain-mark-requires = spots.walk_spot-walk_chain-mark-requires

pub walk_spot-walk_part-requires : goal.walk_spot-walk_part-requires
walk_spot-walk_part-requires = spots.walk_spot-walk_part-requires

pub walk_spot-returns-in-Some-Place-clause-runs : goal.walk_spot-returns-in-Some-Place-clause-runs
walk_spot-returns-in-Some-Place-clause-runs = spots.walk_spot-returns-in-Some-Place-clause-runs

pub walk_spot-returns-in_default-access_back-clause-runs : goal.walk_spot-returns-in_default-access_back-clause-runs
walk_spot-returns-in_default-access_back-clause-runs = spots.walk_spot-returns-in_default-access_back-clause-runs

pub walk_spot-returns-in-Some-access_back-clause-runs : goal.walk_spot-returns-in-Some-access_back-clause-runs
walk_spot-returns-in-Some-access_back-clause-runs = spots.walk_spot-returns-in-Some-access_back-clause-runs

pub walk_spot-returns-in-Some-Part-clause-runs : goal.walk_spot-returns-in-Some-Part-clause-runs
walk_spot-returns-in-Some-Part-clause-runs = spots.walk_spot-returns-in-Some-Part-clause-runs

pub walk_spot-returns-in-None-clause-runs : goal.walk_spot-returns-in-None-clause-runs
walk_spot-returns-in-None-clause-runs = spots.walk_spot-returns-in-None-clause-runs

pub walk_part-split_at_mut-given-requires : goal.walk_part-split_at_mut-given-requires
walk_part-split_at_mut-given-requires = spots.walk_part-split_at_mut-given-requires

pub walk_part-walk_behind-requires : goal.walk_part-walk_behind-requires
walk_part-walk_behind-requires = spots.walk_part-walk_behind-requires

pub walk_part-returns-in_default-clause-runs : goal.walk_part-returns-in_default-clause-runs
walk_part-returns-in_default-clause-runs = spots.walk_part-returns-in_default-clause-runs

pub walk_part-returns-in-Some-method_in-clause-runs : goal.walk_part-returns-in-Some-method_in-clause-runs
walk_part-returns-in-Some-method_in-clause-runs = spots.walk_part-returns-in-Some-method_in-clause-runs

pub walk_part-returns-in-None-clause-runs : goal.walk_part-returns-in-None-clause-runs
walk_part-returns-in-None-clause-runs = spots.walk_part-returns-in-None-clause-runs

pub run_stmt-returns-then-not-charge_stmt-clause-runs : goal.run_stmt-returns-then-not-charge_stmt-clause-runs
run_stmt-returns-then-not-charge_stmt-clause-runs = statements.run_stmt-returns-then-not-charge_stmt-clause-runs

pub run_stmt-returns-then-not-charge_stmt-clause-memory : goal.run_stmt-returns-then-not-charge_stmt-clause-memory
run_stmt-returns-then-not-charge_stmt-clause-memory = statements.run_stmt-returns-then-not-charge_stmt-clause-memory

pub run_stmt-returns-in-Noop-clause-runs : goal.run_stmt-returns-in-Noop-clause-runs
run_stmt-returns-in-Noop-clause-runs = statements.run_stmt-returns-in-Noop-clause-runs

pub run_stmt-returns-then-not-run_expr-clause-runs : goal.run_stmt-returns-then-not-run_expr-clause-runs
run_stmt-returns-then-not-run_expr-clause-runs = statements.run_stmt-returns-then-not-run_expr-clause-runs

pub run_stmt-returns-else-not-run_expr-clause-runs : goal.run_stmt-returns-else-not-run_expr-clause-runs
run_stmt-returns-else-not-run_expr-clause-runs = statements.run_stmt-returns-else-not-run_expr-clause-runs

pub run_stmt-returns-in-FnCall-clause-runs : goal.run_stmt-returns-in-FnCall-clause-runs
run_stmt-returns-in-FnCall-clause-runs = statements.run_stmt-returns-in-FnCall-clause-runs

pub run_stmt-returns-in-Block-clause-runs : goal.run_stmt-returns-in-Block-clause-runs
run_stmt-returns-in-Block-clause-runs = statements.run_stmt-returns-in-Block-clause-runs

pub run_stmt-returns-in-If-clause-runs : goal.run_stmt-returns-in-If-clause-runs
run_stmt-returns-in-If-clause-runs = statements.run_stmt-returns-in-If-clause-runs

pub run_stmt-run_assignment-requires : goal.run_stmt-run_assignment-requires
run_stmt-run_assignment-requires = statements.run_stmt-run_assignment-requires

pub run_stmt-returns-in-Assignment-clause-runs : goal.run_stmt-returns-in-Assignment-clause-runs
run_stmt-returns-in-Assignment-clause-runs = statements.run_stmt-returns-in-Assignment-clause-runs

pub run_stmt-returns-in-While-clause-runs : goal.run_stmt-returns-in-While-clause-runs
run_stmt-returns-in-While-clause-runs = statements.run_stmt-returns-in-While-clause-runs

pub run_stmt-returns-in-Do-clause-runs : goal.run_stmt-returns-in-Do-clause-runs
run_stmt-returns-in-Do-clause-runs = statements.run_stmt-returns-in-Do-clause-runs

pub run_stmt-returns-in-BreakLoop-clause-runs : goal.run_stmt-returns-in-BreakLoop-clause-runs
run_stmt-returns-in-BreakLoop-clause-runs = statements.run_stmt-returns-in-BreakLoop-clause-runs

pub run_stmt-returns-in-Return-clause-runs : goal.run_stmt-returns-in-Return-clause-runs
run_stmt-returns-in-Return-clause-runs = statements.run_stmt-returns-in-Return-clause-runs

pub run_stmt-run_switch-requires : goal.run_stmt-run_switch-requires
run_stmt-run_switch-requires = statements.run_stmt-run_switch-requires

pub run_stmt-returns-in-Switch-clause-runs : goal.run_stmt-returns-in-Switch-clause-runs
run_stmt-returns-in-Switch-clause-runs = statements.run_stmt-returns-in-Switch-clause-runs

pub run_stmt-run_for-requires : goal.run_stmt-run_for-requires
run_stmt-run_for-requires = statements.run_stmt-run_for-requires

pub run_stmt-returns-in-For-clause-runs : goal.run_stmt-returns-in-For-clause-runs
run_stmt-returns-in-For-clause-runs = statements.run_stmt-returns-in-For-clause-runs

pub run_stmt-run_try-requires : goal.run_stmt-run_try-requires
run_stmt-run_try-requires = statements.run_stmt-run_try-requires

pub run_stmt-returns-in-TryCatch-clause-runs : goal.run_stmt-returns-in-TryCatch-clause-runs
run_stmt-returns-in-TryCatch-clause-runs = statements.run_stmt-returns-in-TryCatch-clause-runs

pub run_stmt-share_variables-requires : goal.run_stmt-share_variables-requires
run_stmt-share_variables-requires = statements.run_stmt-share_variables-requires

pub run_stmt-returns-in-Share-clause-runs : goal.run_stmt-returns-in-Share-clause-runs
run_stmt-returns-in-Share-clause-runs = statements.run_stmt-returns-in-Share-clause-runs

pub run_stmt-returns-in-Export-clause-runs : goal.run_stmt-returns-in-Export-clause-runs
run_stmt-returns-in-Export-clause-runs = statements.run_stmt-returns-in-Export-clause-runs

pub run_stmt-run_var-requires : goal.run_stmt-run_var-requires
run_stmt-run_var-requires = statements.run_stmt-run_var-requires

pub run_stmt-returns-in-Var-clause-names : goal.run_stmt-returns-in-Var-clause-names
run_stmt-returns-in-Var-clause-names = statements.run_stmt-returns-in-Var-clause-names

pub run_stmt-returns-in-Var-clause-runs : goal.run_stmt-returns-in-Var-clause-runs
run_stmt-returns-in-Var-clause-runs = statements.run_stmt-returns-in-Var-clause-runs

pub run_stmt-returns-in-Import-clause-runs : goal.run_stmt-returns-in-Import-clause-runs
run_stmt-returns-in-Import-clause-runs = statements.run_stmt-returns-in-Import-clause-runs

pub run_if-returns-in-None-clause-runs : goal.run_if-returns-in-None-clause-runs
run_if-returns-in-None-clause-runs = statements.run_if-returns-in-None-clause-runs

pub run_if-returns-in-Some-clause-runs : goal.run_if-returns-in-Some-clause-runs
run_if-returns-in-Some-clause-runs = statements.run_if-returns-in-Some-clause-runs

pub run_assignment-returns-in-Some-clause-runs : goal.run_assignment-returns-in-Some-clause-runs
run_assignment-returns-in-Some-clause-runs = statements.run_assignment-returns-in-Some-clause-runs

pub run_assignment-assign_evaluated-requires : goal.run_assignment-assign_evaluated-requires
run_assignment-assign_evaluated-requires = statements.run_assignment-assign_evaluated-requires

pub run_assignment-returns-in-Some-clause-names : goal.run_assignment-returns-in-Some-clause-names
run_assignment-returns-in-Some-clause-names = statements.run_assignment-returns-in-Some-clause-names

pub run_assignment-returns-clause-names : goal.run_assignment-returns-clause-names
run_assignment-returns-clause-names = statements.run_assignment-returns-clause-names

pub assign_evaluated-returns-else-not-flatten_at-clause-names : goal.assign_evaluated-returns-else-not-flatten_at-clause-names
assign_evaluated-returns-else-not-flatten_at-clause-names = statements.assign_evaluated-returns-else-not-flatten_at-clause-names

pub assign_evaluated-returns-else-not-flatten_at-2-clause-names : goal.assign_evaluated-returns-else-not-flatten_at-2-clause-names
assign_evaluated-returns-else-not-flatten_at-2-clause-names = statements.assign_evaluated-returns-else-not-flatten_at-2-clause-names

pub run_import-returns-clause-names : goal.run_import-returns-clause-names
run_import-returns-clause-names = statements.run_import-returns-clause-names

pub run_stmt_block-returns-then-is_empty-clause-restores : goal.run_stmt_block-returns-then-is_empty-clause-restores
run_stmt_block-returns-then-is_empty-clause-restores = statements.run_stmt_block-returns-then-is_empty-clause-restores

pub run_if-run_stmt_block-requires : goal.run_if-run_stmt_block-requires
run_if-run_stmt_block-requires = statements.run_if-run_stmt_block-requires

pub run_if-returns-in-Some-clause-names : goal.run_if-returns-in-Some-clause-names
run_if-returns-in-Some-clause-names = statements.run_if-returns-in-Some-clause-names

pub assign_evaluated-returns-then-not-run_expr-clause-runs : goal.assign_evaluated-returns-then-not-run_expr-clause-runs
assign_evaluated-returns-then-not-run_expr-clause-runs = statements.assign_evaluated-returns-then-not-run_expr-clause-runs

pub assign_evaluated-returns-then-not-flatten_at-clause-runs : goal.assign_evaluated-returns-then-not-flatten_at-clause-runs
assign_evaluated-returns-then-not-flatten_at-clause-runs = statements.assign_evaluated-returns-then-not-flatten_at-clause-runs

pub assign_evaluated-assign_from_run-requires : goal.assign_evaluated-assign_from_run-requires
assign_evaluated-assign_from_run-requires = statements.assign_evaluated-assign_from_run-requires

pub assign_evaluated-returns-else-not-flatten_at-clause-runs : goal.assign_evaluated-returns-else-not-flatten_at-clause-runs
assign_evaluated-returns-else-not-flatten_at-clause-runs = statements.assign_evaluated-returns-else-not-flatten_at-clause-runs

pub assign_evaluated-returns-then-is_none-clause-runs : goal.assign_evaluated-returns-then-is_none-clause-runs
assign_evaluated-returns-then-is_none-clause-runs = statements.assign_evaluated-returns-then-is_none-clause-runs

pub assign_evaluated-returns-then-not-run_expr-2-clause-runs : goal.assign_evaluated-returns-then-not-run_expr-2-clause-runs
assign_evaluated-returns-then-not-run_expr-2-clause-runs = statements.assign_evaluated-returns-then-not-run_expr-2-clause-runs

pub assign_evaluated-returns-then-not-flatten_at-2-clause-runs : goal.assign_evaluated-returns-then-not-flatten_at-2-clause-runs
assign_evaluated-returns-then-not-flatten_at-2-clause-runs = statements.assign_evaluated-returns-then-not-flatten_at-2-clause-runs

pub assign_evaluated-returns-else-not-flatten_at-2-clause-runs : goal.assign_evaluated-returns-else-not-flatten_at-2-clause-runs
assign_evaluated-returns-else-not-flatten_at-2-clause-runs = statements.assign_evaluated-returns-else-not-flatten_at-2-clause-runs

pub run_var-returns-then-not-is_declarable-clause-runs : goal.run_var-returns-then-not-is_declarable-clause-runs
run_var-returns-then-not-is_declarable-clause-runs = statements.run_var-returns-then-not-is_declarable-clause-runs

pub run_var-run_expr-requires : goal.run_var-run_expr-requires
run_var-run_expr-requires = statements.run_var-run_expr-requires

pub run_var-declare-requires : goal.run_var-declare-requires
run_var-declare-requires = statements.run_var-declare-requires

pub run_var-returns-then-not-run_expr-clause-runs : goal.run_var-returns-then-not-run_expr-clause-runs
run_var-returns-then-not-run_expr-clause-runs = statements.run_var-returns-then-not-run_expr-clause-runs

pub run_var-returns-then-not-flatten_at-clause-runs : goal.run_var-returns-then-not-flatten_at-clause-runs
run_var-returns-then-not-flatten_at-clause-runs = statements.run_var-returns-then-not-flatten_at-clause-runs

pub run_var-returns-clause-names : goal.run_var-returns-clause-names
run_var-returns-clause-names = statements.run_var-returns-clause-names

pub run_var-returns-clause-runs : goal.run_var-returns-clause-runs
run_var-returns-clause-runs = statements.run_var-returns-clause-runs

pub run_import-returns-then-not-may_import-clause-runs : goal.run_import-returns-then-not-may_import-clause-runs
run_import-returns-then-not-may_import-clause-runs = statements.run_import-returns-then-not-may_import-clause-runs

pub run_import-returns-then-not-run_expr-clause-runs : goal.run_import-returns-then-not-run_expr-clause-runs
run_import-returns-then-not-run_expr-clause-runs = statements.run_import-returns-then-not-run_expr-clause-runs

pub run_import-returns-clause-runs : goal.run_import-returns-clause-runs
run_import-returns-clause-runs = statements.run_import-returns-clause-runs

pub run_stmt_block-returns-then-is_empty-clause-runs : goal.run_stmt_block-returns-then-is_empty-clause-runs
run_stmt_block-returns-then-is_empty-clause-runs = statements.run_stmt_block-returns-then-is_empty-clause-runs

pub run_stmt_block-returns-then-not-restoring-clause-runs : goal.run_stmt_block-returns-then-not-restoring-clause-runs
run_stmt_block-returns-then-not-restoring-clause-runs = statements.run_stmt_block-returns-then-not-restoring-clause-runs

pub run_stmt_block-open_list-requires : goal.run_stmt_block-open_list-requires
run_stmt_block-open_list-requires = statements.run_stmt_block-open_list-requires

pub run_stmt_block-returns-in_default-clause-runs : goal.run_stmt_block-returns-in_default-clause-runs
run_stmt_block-returns-in_default-clause-runs = statements.run_stmt_block-returns-in_default-clause-runs

pub run_stmt_block-returns-in_default-clause-restores : goal.run_stmt_block-returns-in_default-clause-restores
run_stmt_block-returns-in_default-clause-restores = statements.run_stmt_block-returns-in_default-clause-restores

pub run_stmt_block-returns-clause-runs : goal.run_stmt_block-returns-clause-runs
run_stmt_block-returns-clause-runs = statements.run_stmt_block-returns-clause-runs

pub run_stmt_block-returns-clause-restores : goal.run_stmt_block-returns-clause-restores
run_stmt_block-returns-clause-restores = statements.run_stmt_block-returns-clause-restores

pub run_stmt_block-run_statements-ended-requires : goal.run_stmt_block-run_statements-ended-requires
run_stmt_block-run_statements-ended-requires = statements.run_stmt_block-run_statements-ended-requires

pub run_stmt_block-run_statements-done-requires : goal.run_stmt_block-run_statements-done-requires
run_stmt_block-run_statements-done-requires = statements.run_stmt_block-run_statements-done-requires

pub run_statements-each_stmt-init : goal.run_statements-each_stmt-init
run_statements-each_stmt-init = statements.run_statements-each_stmt-init

pub run_statements-each_stmt-preserved : goal.run_statements-each_stmt-preserved
run_statements-each_stmt-preserved = statements.run_statements-each_stmt-preserved

pub run_statements-returns-then-not-run_stmt-clause-runs : goal.run_statements-returns-then-not-run_stmt-clause-runs
run_statements-returns-then-not-run_stmt-clause-runs = statements.run_statements-returns-then-not-run_stmt-clause-runs

pub run_statements-returns-clause-runs : goal.run_statements-returns-clause-runs
run_statements-returns-clause-runs = statements.run_statements-returns-clause-runs

pub run_statements-returns-then-not-run_stmt-clause-memory : goal.run_statements-returns-then-not-run_stmt-clause-memory
run_statements-returns-then-not-run_stmt-clause-memory = statements.run_statements-returns-then-not-run_stmt-clause-memory

pub run_stmt-run_expr-requires : goal.run_stmt-run_expr-requires
run_stmt-run_expr-requires = statements.run_stmt-run_expr-requires

pub run_stmt-run_fn_call_expr-requires : goal.run_stmt-run_fn_call_expr-requires
run_stmt-run_fn_call_expr-requires = statements.run_stmt-run_fn_call_expr-requires

pub run_stmt-run_stmt_block-requires : goal.run_stmt-run_stmt_block-requires
run_stmt-run_stmt_block-requires = statements.run_stmt-run_stmt_block-requires

pub run_stmt-run_if-requires : goal.run_stmt-run_if-requires
run_stmt-run_if-requires = statements.run_stmt-run_if-requires

pub run_stmt-run_while-requires : goal.run_stmt-run_while-requires
run_stmt-run_while-requires = statements.run_stmt-run_while-requires

pub run_stmt-run_do-requires : goal.run_stmt-run_do-requires
run_stmt-run_do-requires = statements.run_stmt-run_do-requires

pub run_stmt-run_break-requires : goal.run_stmt-run_break-requires
run_stmt-run_break-requires = statements.run_stmt-run_break-requires

pub run_stmt-run_return-requires : goal.run_stmt-run_return-requires
run_stmt-run_return-requires = statements.run_stmt-run_return-requires

pub run_stmt-run_import-requires : goal.run_stmt-run_import-requires
run_stmt-run_import-requires = statements.run_stmt-run_import-requires

pub run_stmt-returns-in-Noop-clause-names : goal.run_stmt-returns-in-Noop-clause-names
run_stmt-returns-in-Noop-clause-names = statements.run_stmt-returns-in-Noop-clause-names

pub run_stmt-returns-else-not-run_expr-clause-names : goal.run_stmt-returns-else-not-run_expr-clause-names
run_stmt-returns-else-not-run_expr-clause-names = statements.run_stmt-returns-else-not-run_expr-clause-names

pub run_stmt-returns-in-FnCall-clause-names : goal.run_stmt-returns-in-FnCall-clause-names
run_stmt-returns-in-FnCall-clause-names = statements.run_stmt-returns-in-FnCall-clause-names

pub run_stmt-returns-in-Block-clause-names : goal.run_stmt-returns-in-Block-clause-names
run_stmt-returns-in-Block-clause-names = statements.run_stmt-returns-in-Block-clause-names

pub run_stmt-returns-in-Assignment-clause-names : goal.run_stmt-returns-in-Assignment-clause-names
run_stmt-returns-in-Assignment-clause-names = statements.run_stmt-returns-in-Assignment-clause-names

pub run_stmt-returns-in-If-clause-names : goal.run_stmt-returns-in-If-clause-names
run_stmt-returns-in-If-clause-names = statements.run_stmt-returns-in-If-clause-names

pub run_stmt-returns-in-While-clause-names : goal.run_stmt-returns-in-While-clause-names
run_stmt-returns-in-While-clause-names = statements.run_stmt-returns-in-While-clause-names

pub run_stmt-returns-in-Do-clause-names : goal.run_stmt-returns-in-Do-clause-names
run_stmt-returns-in-Do-clause-names = statements.run_stmt-returns-in-Do-clause-names

pub run_stmt-returns-in-Switch-clause-names : goal.run_stmt-returns-in-Switch-clause-names
run_stmt-returns-in-Switch-clause-names = statements.run_stmt-returns-in-Switch-clause-names

pub run_stmt-returns-in-For-clause-names : goal.run_stmt-returns-in-For-clause-names
run_stmt-returns-in-For-clause-names = statements.run_stmt-returns-in-For-clause-names

pub run_stmt-returns-in-TryCatch-clause-names : goal.run_stmt-returns-in-TryCatch-clause-names
run_stmt-returns-in-TryCatch-clause-names = statements.run_stmt-returns-in-TryCatch-clause-names

pub run_stmt-returns-in-Share-clause-names : goal.run_stmt-returns-in-Share-clause-names
run_stmt-returns-in-Share-clause-names = statements.run_stmt-returns-in-Share-clause-names

pub run_stmt-returns-in-Export-clause-names : goal.run_stmt-returns-in-Export-clause-names
run_stmt-returns-in-Export-clause-names = statements.run_stmt-returns-in-Export-clause-names

pub run_stmt-returns-in-Import-clause-names : goal.run_stmt-returns-in-Import-clause-names
run_stmt-returns-in-Import-clause-names = statements.run_stmt-returns-in-Import-clause-names

pub run_statements-run_stmt-requires : goal.run_statements-run_stmt-requires
run_statements-run_stmt-requires = statements.run_statements-run_stmt-requires

pub run_stmt-returns-in-Noop-clause-declared : goal.run_stmt-returns-in-Noop-clause-declared
run_stmt-returns-in-Noop-clause-declared = statements.run_stmt-returns-in-Noop-clause-declared

pub run_stmt-returns-in-FnCall-clause-declared : goal.run_stmt-returns-in-FnCall-clause-declared
run_stmt-returns-in-FnCall-clause-declared = statements.run_stmt-returns-in-FnCall-clause-declared

pub run_stmt-returns-in-Block-clause-declared : goal.run_stmt-returns-in-Block-clause-declared
run_stmt-returns-in-Block-clause-declared = statements.run_stmt-returns-in-Block-clause-declared

pub run_stmt-returns-in-Assignment-clause-declared : goal.run_stmt-returns-in-Assignment-clause-declared
run_stmt-returns-in-Assignment-clause-declared = statements.run_stmt-returns-in-Assignment-clause-declared

pub run_stmt-returns-in-If-clause-declared : goal.run_stmt-returns-in-If-clause-declared
run_stmt-returns-in-If-clause-declared = statements.run_stmt-returns-in-If-clause-declared

pub run_stmt-returns-in-While-clause-declared : goal.run_stmt-returns-in-While-clause-declared
run_stmt-returns-in-While-clause-declared = statements.run_stmt-returns-in-While-clause-declared

pub run_stmt-returns-in-Do-clause-declared : goal.run_stmt-returns-in-Do-clause-declared
run_stmt-returns-in-Do-clause-declared = statements.run_stmt-returns-in-Do-clause-declared

pub run_stmt-returns-in-BreakLoop-clause-declared : goal.run_stmt-returns-in-BreakLoop-clause-declared
run_stmt-returns-in-BreakLoop-clause-declared = statements.run_stmt-returns-in-BreakLoop-clause-declared

pub run_stmt-returns-in-Return-clause-declared : goal.run_stmt-returns-in-Return-clause-declared
run_stmt-returns-in-Return-clause-declared = statements.run_stmt-returns-in-Return-clause-declared

pub run_stmt-returns-in-Switch-clause-declared : goal.run_stmt-returns-in-Switch-clause-declared
run_stmt-returns-in-Switch-clause-declared = statements.run_stmt-returns-in-Switch-clause-declared

pub run_stmt-returns-in-For-clause-declared : goal.run_stmt-returns-in-For-clause-declared
run_stmt-returns-in-For-clause-declared = statements.run_stmt-returns-in-For-clause-declared

pub run_stmt-returns-in-TryCatch-clause-declared : goal.run_stmt-returns-in-TryCatch-clause-declared
run_stmt-returns-in-TryCatch-clause-declared = statements.run_stmt-returns-in-TryCatch-clause-declared

pub run_stmt-returns-in-Share-clause-declared : goal.run_stmt-returns-in-Share-clause-declared
run_stmt-returns-in-Share-clause-declared = statements.run_stmt-returns-in-Share-clause-declared

pub run_stmt-returns-in-Export-clause-declared : goal.run_stmt-returns-in-Export-clause-declared
run_stmt-returns-in-Export-clause-declared = statements.run_stmt-returns-in-Export-clause-declared

pub run_stmt-returns-in-Import-clause-declared : goal.run_stmt-returns-in-Import-clause-declared
run_stmt-returns-in-Import-clause-declared = statements.run_stmt-returns-in-Import-clause-declared

pub run_stmt-returns-else-not-run_expr-clause-declared : goal.run_stmt-returns-else-not-run_expr-clause-declared
run_stmt-returns-else-not-run_expr-clause-declared = statements.run_stmt-returns-else-not-run_expr-clause-declared

pub run_stmt-returns-in-Var-clause-declared : goal.run_stmt-returns-in-Var-clause-declared
run_stmt-returns-in-Var-clause-declared = statements.run_stmt-returns-in-Var-clause-declared

pub run_var-returns-clause-declared : goal.run_var-returns-clause-declared
run_var-returns-clause-declared = statements.run_var-returns-clause-declared

pub run_assignment-assign_at_once-at_once-requires-clause-resolves_target :
    goal.run_assignment-assign_at_once-at_once-requires-clause-resolves_target
run_assignment-assign_at_once-at_once-requires-clause-resolves_target =
    statements.run_assignment-assign_at_once-at_once-requires-clause-resolves_target

pub run_assignment-assign_at_once-at_once-requires-clause-resolves : goal.run_assignment-assign_at_once-at_once-requires-clause-resolves
run_assignment-assign_at_once-at_once-requires-clause-resolves = statements.run_assignment-assign_at_once-at_once-requires-clause-resolves

pub run_import-run_expr-requires : goal.run_import-run_expr-requires
run_import-run_expr-requires = statements.run_import-run_expr-requires

pub run_switch-returns-then-not-run_expr-clause-runs : goal.run_switch-returns-then-not-run_expr-clause-runs
run_switch-returns-then-not-run_expr-clause-runs = switches.run_switch-returns-then-not-run_expr-clause-runs

pub run_switch-returns-then-not-flatten_at-clause-runs : goal.run_switch-returns-then-not-flatten_at-clause-runs
run_switch-returns-then-not-flatten_at-clause-runs = switches.run_switch-returns-then-not-flatten_at-clause-runs

pub run_switch-run_condition-requires : goal.run_switch-run_condition-requires
run_switch-run_condition-requires = switches.run_switch-run_condition-requires

pub run_switch-each_candidate-init : goal.run_switch-each_candidate-init
run_switch-each_candidate-init = switches.run_switch-each_candidate-init

pub run_switch-returns-in-None-default_result-clause-runs : goal.run_switch-returns-in-None-default_result-clause-runs
run_switch-returns-in-None-default_result-clause-runs = switches.run_switch-returns-in-None-default_result-clause-runs

pub run_switch-returns-in-None-run_condition-clause-runs : goal.run_switch-returns-in-None-run_condition-clause-runs
run_switch-returns-in-None-run_condition-clause-runs = switches.run_switch-returns-in-None-run_condition-clause-runs

pub run_switch-run_expr-requires-in-Some-default_result : goal.run_switch-run_expr-requires-in-Some-default_result
run_switch-run_expr-requires-in-Some-default_result = switches.run_switch-run_expr-requires-in-Some-default_result

pub run_switch-returns-in-Some-default_result-clause-runs : goal.run_switch-returns-in-Some-default_result-clause-runs
run_switch-returns-in-Some-default_result-clause-runs = switches.run_switch-returns-in-Some-default_result-clause-runs

pub run_switch-run_expr-requires-then-holds : goal.run_switch-run_expr-requires-then-holds
run_switch-run_expr-requires-then-holds = switches.run_switch-run_expr-requires-then-holds

pub run_switch-returns-then-holds-clause-runs : goal.run_switch-returns-then-holds-clause-runs
run_switch-returns-then-holds-clause-runs = switches.run_switch-returns-then-holds-clause-runs

pub run_switch-each_candidate-preserved : goal.run_switch-each_candidate-preserved
run_switch-each_candidate-preserved = switches.run_switch-each_candidate-preserved

pub run_switch-returns-in-Some-default_result-clause-names : goal.run_switch-returns-in-Some-default_result-clause-names
run_switch-returns-in-Some-default_result-clause-names = switches.run_switch-returns-in-Some-default_result-clause-names

pub run_switch-returns-then-holds-clause-names : goal.run_switch-returns-then-holds-clause-names
run_switch-returns-then-holds-clause-names = switches.run_switch-returns-then-holds-clause-names

pub run_switch-returns-in-None-default_result-clause-names : goal.run_switch-returns-in-None-default_result-clause-names
run_switch-returns-in-None-default_result-clause-names = switches.run_switch-returns-in-None-default_result-clause-names

pub run_try-returns-then-run_stmt_block-clause-runs : goal.run_try-returns-then-run_stmt_block-clause-runs
run_try-returns-then-run_stmt_block-clause-runs = tries.run_try-returns-then-run_stmt_block-clause-runs

pub run_try-returns-then-not-may_catch-clause-runs : goal.run_try-returns-then-not-may_catch-clause-runs
run_try-returns-then-not-may_catch-clause-runs = tries.run_try-returns-then-not-may_catch-clause-runs

pub run_try-run_branch-requires : goal.run_try-run_branch-requires
run_try-run_branch-requires = tries.run_try-run_branch-requires

pub run_try-returns-clause-counts : goal.run_try-returns-clause-counts
run_try-returns-clause-counts = tries.run_try-returns-clause-counts

pub run_try-returns-clause-names : goal.run_try-returns-clause-names
run_try-returns-clause-names = tries.run_try-returns-clause-names

pub run_try-returns-clause-runs : goal.run_try-returns-clause-runs
run_try-returns-clause-runs = tries.run_try-returns-clause-runs

pub run_branch-returns-then-not-bind_caught-clause-runs : goal.run_branch-returns-then-not-bind_caught-clause-runs
run_branch-returns-then-not-bind_caught-clause-runs = tries.run_branch-returns-then-not-bind_caught-clause-runs

pub run_branch-run_stmt_block-done-requires : goal.run_branch-run_stmt_block-done-requires
run_branch-run_stmt_block-done-requires = tries.run_branch-run_stmt_block-done-requires

pub run_branch-returns-clause-runs : goal.run_branch-returns-clause-runs
run_branch-returns-clause-runs = tries.run_branch-returns-clause-runs

pub run_branch-returns-clause-counts : goal.run_branch-returns-clause-counts
run_branch-returns-clause-counts = tries.run_branch-returns-clause-counts

pub run_branch-returns-clause-names : goal.run_branch-returns-clause-names
run_branch-returns-clause-names = tries.run_branch-returns-clause-names

pub run_try-run_stmt_block-requires : goal.run_try-run_stmt_block-requires
run_try-run_stmt_block-requires = tries.run_try-run_stmt_block-requires

pub run_try-returns-then-run_stmt_block-clause-names : goal.run_try-returns-then-run_stmt_block-clause-names
run_try-returns-then-run_stmt_block-clause-names = tries.run_try-returns-then-run_stmt_block-clause-names

pub walk_chain-unreachable-requires : goal.walk_chain-unreachable-requires
walk_chain-unreachable-requires = walking.walk_chain-unreachable-requires

pub walk_chain-walk_entered-requires : goal.walk_chain-walk_entered-requires
walk_chain-walk_entered-requires = walking.walk_chain-walk_entered-requires

pub walk_chain-returns-in-Ended-clause-runs : goal.walk_chain-returns-in-Ended-clause-runs
walk_chain-returns-in-Ended-clause-runs = walking.walk_chain-returns-in-Ended-clause-runs

pub walk_chain-returns-in-Enters-clause-runs : goal.walk_chain-returns-in-Enters-clause-runs
walk_chain-returns-in-Enters-clause-runs = walking.walk_chain-returns-in-Enters-clause-runs

pub run_for-returns-then-not-has_room-clause-runs : goal.run_for-returns-then-not-has_room-clause-runs
run_for-returns-then-not-has_room-clause-runs = walks.run_for-returns-then-not-has_room-clause-runs

pub run_for-returns-then-not-run_expr-clause-runs : goal.run_for-returns-then-not-run_expr-clause-runs
run_for-returns-then-not-run_expr-clause-runs = walks.run_for-returns-then-not-run_expr-clause-runs

pub run_for-returns-then-not-flatten_at-clause-runs : goal.run_for-returns-then-not-flatten_at-clause-runs
run_for-returns-then-not-flatten_at-clause-runs = walks.run_for-returns-then-not-flatten_at-clause-runs

pub run_for-returns-in_default-clause-runs : goal.run_for-returns-in_default-clause-runs
run_for-returns-in_default-clause-runs = walks.run_for-returns-in_default-clause-runs

pub run_for-turns-init : goal.run_for-turns-init
run_for-turns-init = walks.run_for-turns-init

pub run_for-run_for_turn-requires : goal.run_for-run_for_turn-requires
run_for-run_for_turn-requires = walks.run_for-run_for_turn-requires

pub run_for-next_number-turn-requires : goal.run_for-next_number-turn-requires
run_for-next_number-turn-requires = walks.run_for-next_number-turn-requires

pub run_for-turns-smaller : goal.run_for-turns-smaller
run_for-turns-smaller = walks.run_for-turns-smaller

pub run_for-turns-preserved : goal.run_for-turns-preserved
run_for-turns-preserved = walks.run_for-turns-preserved

pub run_for-returns-in-Some-run_for_turn-clause-runs : goal.run_for-returns-in-Some-run_for_turn-clause-runs
run_for-returns-in-Some-run_for_turn-clause-runs = walks.run_for-returns-in-Some-run_for_turn-clause-runs

pub run_for-returns-in-Some-run_for_turn-clause-counts : goal.run_for-returns-in-Some-run_for_turn-clause-counts
run_for-returns-in-Some-run_for_turn-clause-counts = walks.run_for-returns-in-Some-run_for_turn-clause-counts

pub run_for-returns-in-Some-run_for_turn-clause-names : goal.run_for-returns-in-Some-run_for_turn-clause-names
run_for-returns-in-Some-run_for_turn-clause-names = walks.run_for-returns-in-Some-run_for_turn-clause-names

pub run_for_turn-returns-in_default-clause-runs : goal.run_for_turn-returns-in_default-clause-runs
run_for_turn-returns-in_default-clause-runs = walks.run_for_turn-returns-in_default-clause-runs

pub run_for_turn-returns-then-charge-clause-runs : goal.run_for_turn-returns-then-charge-clause-runs
run_for_turn-returns-then-charge-clause-runs = walks.run_for_turn-returns-then-charge-clause-runs

pub run_for_turn-returns-then-is_empty-clause-runs : goal.run_for_turn-returns-then-is_empty-clause-runs
run_for_turn-returns-then-is_empty-clause-runs = walks.run_for_turn-returns-then-is_empty-clause-runs

pub run_for_turn-enter_turn-requires : goal.run_for_turn-enter_turn-requires
run_for_turn-enter_turn-requires = walks.run_for_turn-enter_turn-requires

pub run_for_turn-returns-then-not-enter_turn-clause-runs : goal.run_for_turn-returns-then-not-enter_turn-clause-runs
run_for_turn-returns-then-not-enter_turn-clause-runs = walks.run_for_turn-returns-then-not-enter_turn-clause-runs

pub run_for_turn-run_stmt_block-done-requires : goal.run_for_turn-run_stmt_block-done-requires
run_for_turn-run_stmt_block-done-requires = walks.run_for_turn-run_stmt_block-done-requires

pub run_for_turn-returns-clause-runs : goal.run_for_turn-returns-clause-runs
run_for_turn-returns-clause-runs = walks.run_for_turn-returns-clause-runs

pub run_for_turn-returns-clause-charges : goal.run_for_turn-returns-clause-charges
run_for_turn-returns-clause-charges = walks.run_for_turn-returns-clause-charges

pub run_for_turn-returns-clause-counts : goal.run_for_turn-returns-clause-counts
run_for_turn-returns-clause-counts = walks.run_for_turn-returns-clause-counts

pub run_for_turn-returns-clause-names_stay : goal.run_for_turn-returns-clause-names_stay
run_for_turn-returns-clause-names_stay = walks.run_for_turn-returns-clause-names_stay

pub run_for_turn-returns-clause-names : goal.run_for_turn-returns-clause-names
run_for_turn-returns-clause-names = walks.run_for_turn-returns-clause-names

pub run_for_turn-returns-in_default-clause-names : goal.run_for_turn-returns-in_default-clause-names
run_for_turn-returns-in_default-clause-names = walks.run_for_turn-returns-in_default-clause-names

pub run_for_turn-returns-then-charge-clause-names_stay : goal.run_for_turn-returns-then-charge-clause-names_stay
run_for_turn-returns-then-charge-clause-names_stay = walks.run_for_turn-returns-then-charge-clause-names_stay

pub run_for-run_expr-requires : goal.run_for-run_expr-requires
run_for-run_expr-requires = walks.run_for-run_expr-requires
