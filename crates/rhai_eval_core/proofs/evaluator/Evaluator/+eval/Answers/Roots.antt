use Rattle.rhai_names.specs.Variables.{variable_told}
use Rattle.std.proofs.Common.{false, None, Some, refl, ap}
use Rattle.rhai_tree.specs.declared.expr.Expr.{out-Expr}
use Rattle.rhai_machine.specs.language.Runs.{at, Goes}
use Rattle.rhai_tree.specs.Positions.{position_of}
use Rattle.rhai_steps.specs.Offers.{globals_in}
use Rattle.rhai_steps.specs.States.{state_of}
use Rattle.rhai_state.specs.Scope.{names_in}
use Rattle.rhai_steps.proofs.Agreeing.{stays}
use Rattle.rhai_links.specs.Chains.{chain_at}
use Rattle.rhai_steps.specs.OnFocus.{lending}
use Rattle.rhai_context.specs.Ends.{came, came_changed, error_in}
use Rattle.rhai_eval_steps.specs.Agreement.{ChangesNames, KeepsNames, RestoresNames, SuitsNames}
use Rattle.rhai_eval_core.proofs.Untold.{without_came}
use Rattle.rhai_eval_core.specs.States.{under}
use Rattle.rhai_eval_core.proofs.RootLemmas.{begins, lent_back, variable_refused, variable_runs, this_begins, this_enters, this_refused}
use Rattle.rhai_eval_core.proofs.RootLemmas.{value_begins, value_fails}
use Rattle.rhai_eval_core.proofs.evaluator.Evaluator.+eval.Goals as goal

-- a variable that lends its value, or a temporary

pub walk_variable-returns-in_default-clause-names : goal.walk_variable-returns-in_default-clause-names
unfolding ChangesNames KeepsNames RestoresNames SuitsNames
walk_variable-returns-in_default-clause-names g t c = stays refl (ap (λ s. names_in s) (c.in_default.ensures.kept refl))

pub walk_variable-returns-in_default-clause-runs : goal.walk_variable-returns-in_default-clause-runs
walk_variable-returns-in_default-clause-runs g t c held in_place =
    let rules = under g.H.Host.name_of c.args.self.now g.T.NativeTable.natives in
    rw (c.in_default.ensures.kept refl)
    (variable_refused rules (variable_told c.args.variable.now)
    (chain_at c.args.root.now (out-Expr c.args.rest.now) c.args.args.now c.args.new in_place)
    (g.T.NativeTable.state c.args.table.now) c.args.run.now.global c.args.run.now.scope held
    (error_in c.lend_variable-lent.new.place) c.in_default.ensures.lends)

pub walk_variable-give_variable-requires : goal.walk_variable-give_variable-requires
walk_variable-give_variable-requires g t c = rw c.walk_chain-mark.ensures.scope c.in-Some.ensures.within

pub walk_variable-returns-clause-names : goal.walk_variable-returns-clause-names
unfolding ChangesNames KeepsNames RestoresNames SuitsNames
walk_variable-returns-clause-names g t c =
    stays c.walk_chain-mark.ensures.sight (lent_back (globals_in c.args.self.now.session.offered) c.args.run.now.global
    (variable_told c.args.variable.now)
    c.args.run.now.scope c.lend_variable-lent.new.scope c.give_variable.new.scope c.in-Some.value c.walk_chain-mark.new.focus
    c.in-Some.index c.in-Some.ensures.lends
    (rw c.walk_chain-mark.ensures.scope at c.give_variable.ensures.back))

pub walk_variable-returns-clause-runs : goal.walk_variable-returns-clause-runs
walk_variable-returns-clause-runs g t c held in_place =
    let rules = under g.H.Host.name_of c.args.self.now g.T.NativeTable.natives in
    variable_runs rules (variable_told c.args.variable.now)
    (chain_at c.args.root.now (out-Expr c.args.rest.now) c.args.args.now c.args.new in_place)
    (came_changed c.walk_chain-mark.result c.walk_chain-mark.new.run.value c.walk_chain-mark.new.run.error)
    (came c.give_variable.result c.walk_chain-mark.new.run.value c.walk_chain-mark.new.run.error)
    (without_came c.walk_chain-mark.result c.give_variable.result c.walk_chain-mark.new.run.value c.walk_chain-mark.new.run.error
    c.give_variable.ensures.well)
    c.args.run.now.scope c.lend_variable-lent.new.scope c.give_variable.new.scope c.in-Some.value c.walk_chain-mark.new.focus
    (g.T.NativeTable.state c.args.table.now) (g.T.NativeTable.state c.walk_chain-mark.new.table) c.args.run.now.global
    c.walk_chain-mark.new.run.global held c.in-Some.index c.in-Some.ensures.lends
    (rw c.walk_chain-mark.ensures.scope at c.give_variable.ensures.back)
    (rw c.is_some-in_place.ensures at (c.walk_chain-mark.ensures.runs c.args.run.now.scope held))

-- `this`

pub walk_this-returns-in_default-clause-runs : goal.walk_this-returns-in_default-clause-runs
walk_this-returns-in_default-clause-runs g t c scope focus in_place =
    let rules = under g.H.Host.name_of c.args.self.now g.T.NativeTable.natives in
    rw (c.in_default.ensures.kept refl)
    (this_refused rules c.args.pos (chain_at c.args.root.now (out-Expr c.args.rest.now) c.args.args.now c.args.new in_place)
    (state_of (g.T.NativeTable.state c.args.table.now) c.args.run.now.global scope
    (record { this = c.args.run.now.this; focus = focus })) c.args.run.now.this refl (error_in c.lend_this.new.place)
    (c.in_default.ensures.refused refl))

pub walk_this-returns-clause-runs : goal.walk_this-returns-clause-runs
unfolding Goes
walk_this-returns-clause-runs g t c scope focus in_place =
    let rules = under g.H.Host.name_of c.args.self.now g.T.NativeTable.natives in
    let lent = c.in-Some.ensures.lent in
    let chain = chain_at c.args.root.now (out-Expr c.args.rest.now) c.args.args.now c.args.new in_place in
    let walked = (came_changed c.walk_chain-mark.result c.walk_chain-mark.new.run.value c.walk_chain-mark.new.run.error) in
    let result = (came c.give_this.result c.walk_chain-mark.new.run.value c.walk_chain-mark.new.run.error) in
    rw (lent.0, c.give_this.ensures.back)
    (this_enters rules c.args.pos chain
    (state_of (g.T.NativeTable.state c.args.table.now) c.args.run.now.global scope
    (record { this = Some c.in-Some.value; focus = focus })) c.in-Some.value refl lent.1 result
    (state_of (g.T.NativeTable.state c.walk_chain-mark.new.table) c.walk_chain-mark.new.run.global scope
    (record { this = Some c.walk_chain-mark.new.focus; focus = focus }))
    (this_begins rules chain walked result
    (without_came c.walk_chain-mark.result c.give_this.result c.walk_chain-mark.new.run.value c.walk_chain-mark.new.run.error
    c.give_this.ensures.well)
    c.in-Some.value c.walk_chain-mark.new.focus
    (g.T.NativeTable.state c.args.table.now) (g.T.NativeTable.state c.walk_chain-mark.new.table) c.args.run.now.global
    c.walk_chain-mark.new.run.global scope focus
    (c.walk_chain-mark.ensures.runs scope (record { this = Some c.in-Some.value; focus = focus }))))

-- any other value

pub walk_value-returns-in_default-clause-runs : goal.walk_value-returns-in_default-clause-runs
walk_value-returns-in_default-clause-runs g t c scope held in_place =
    let rules = under g.H.Host.name_of c.args.self.now g.T.NativeTable.natives in
    value_fails rules (chain_at c.args.root.now (out-Expr c.args.rest.now) c.args.args.now None in_place) c.args.run.now.value
    (state_of (g.T.NativeTable.state c.args.table.now) c.args.run.now.global scope held) (position_of c.args.root.now) refl
    (error_in c.take_flat.new.place) c.in_default.ensures

pub walk_value-returns-clause-runs : goal.walk_value-returns-clause-runs
walk_value-returns-clause-runs g t c scope held in_place =
    let rules = under g.H.Host.name_of c.args.self.now g.T.NativeTable.natives in
    let chain = chain_at c.args.root.now (out-Expr c.args.rest.now) c.args.args.now None in_place in
    let old = state_of (g.T.NativeTable.state c.args.table.now) c.args.run.now.global scope held in
    let new = state_of (g.T.NativeTable.state c.walk_chain-mark.new.table) c.walk_chain-mark.new.run.global scope in
    let walked = (came_changed c.walk_chain-mark.result c.walk_chain-mark.new.run.value c.walk_chain-mark.new.run.error) in
    let result = (came c.leave_temporary.result c.walk_chain-mark.new.run.value c.walk_chain-mark.new.run.error) in
    value_begins rules chain c.args.run.now.value old (position_of c.args.root.now) refl
    c.in-Some.value (c.in-Some.ensures tt) (new held) result
    (begins rules chain walked result
    (without_came c.walk_chain-mark.result c.leave_temporary.result c.walk_chain-mark.new.run.value c.walk_chain-mark.new.run.error
    c.leave_temporary.ensures)
    false None c.in-Some.value old (new (lending held c.walk_chain-mark.new.focus))
    (c.walk_chain-mark.ensures.runs scope held))

pub walk_variable-lend_variable-lent-requires : goal.walk_variable-lend_variable-lent-requires
unfolding SuitsNames
walk_variable-lend_variable-lent-requires g t c = c.requires.good
