use Rattle.std.proofs.Common.{ap, false, arith}
use Rattle.std.specs.Option.{option_copied, option_map}
use Rattle.rhai_tree.specs.declared.expr.Expr.{out-Expr}
use Rattle.rhai_eval_steps.specs.Agreement.{ChangesNames, KeepsNames, RestoresNames, SuitsNames}
use Rattle.rhai_eval_core.specs.States.{under}
use Rattle.rhai_steps.specs.States.{state_of}
use Rattle.rhai_links.specs.Chains.{chain_at, link_seen}
use Rattle.rhai_tree.specs.Links.{left_by}
use Rattle.rhai_links.proofs.OnTemporaries.{fails_behind, goes_behind, nothing_behind}
use Rattle.rhai_links.proofs.OnTemporaries.{on_temporary}
use Rattle.rhai_context.specs.Ends.{came_changed, error_in}
use Rattle.rhai_eval_core.proofs.evaluator.Evaluator.+eval.Goals as goal

pub walk_behind-walk_chain-result-requires : goal.walk_behind-walk_chain-result-requires
unfolding ChangesNames KeepsNames RestoresNames SuitsNames
walk_behind-walk_chain-result-requires g t c =
    let is = ap (λ behind. left_by (option_map out-Expr (option_copied behind))) c.in-Some.is in
    let walks = rw c.in-Some.is at c.requires.walks in
    λ κs lives. (omega (arith, is), (lives.0, (lives.1, walks)))

pub walk_behind-returns-in_default-clause-runs : goal.walk_behind-returns-in_default-clause-runs
unfolding ChangesNames KeepsNames RestoresNames SuitsNames
walk_behind-returns-in_default-clause-runs g t c scope held rest =
    let rules = under g.H.Host.name_of c.args.self.now g.T.NativeTable.natives in
    nothing_behind rules (chain_at c.args.root.now rest c.args.args.now c.args.new false)
    (state_of (g.T.NativeTable.state c.args.table.now) c.args.run.now.global scope held) (link_seen c.args.link).behind
    (came_changed c.args.mark c.args.run.now.value c.args.run.now.error)
    (ap (λ behind. option_map out-Expr (option_copied behind)) c.in_default.is)

pub walk_behind-returns-in-Some-mark-clause-runs : goal.walk_behind-returns-in-Some-mark-clause-runs
unfolding ChangesNames KeepsNames RestoresNames SuitsNames
walk_behind-returns-in-Some-mark-clause-runs g t c scope held rest =
    let rules = under g.H.Host.name_of c.args.self.now g.T.NativeTable.natives in
    let behind = out-Expr c.in-Some.rest.now in
    let old = state_of (g.T.NativeTable.state c.args.table.now) c.args.run.now.global scope held in
    let new = state_of (g.T.NativeTable.state c.walk_chain-result.new.table) c.walk_chain-result.new.run.global scope held in
    let result = came_changed c.walk_chain-result.result c.walk_chain-result.new.run.value c.walk_chain-result.new.run.error in
    rw c.in-Some-mark.is (goes_behind rules (chain_at c.args.root.now rest c.args.args.now c.args.new false) old
    (link_seen c.args.link).behind behind c.args.run.now.value c.in-Some-mark.field-0 result new
    (ap (λ behind. option_map out-Expr (option_copied behind)) c.in-Some.is)
    (on_temporary rules (chain_at c.args.root.now behind c.args.args.now c.args.new false) c.args.run.now.value
    c.walk_chain-result.new.focus old new result (rw c.take_value-focus.ensures.taken at (c.walk_chain-result.ensures.runs scope held))))

pub walk_behind-returns-in-None-clause-runs : goal.walk_behind-returns-in-None-clause-runs
walk_behind-returns-in-None-clause-runs g t c scope held rest =
    let rules = under g.H.Host.name_of c.args.self.now g.T.NativeTable.natives in
    rw c.in-None.is (fails_behind rules (chain_at c.args.root.now rest c.args.args.now c.args.new false)
    (state_of (g.T.NativeTable.state c.args.table.now) c.args.run.now.global scope held) (link_seen c.args.link).behind
    (error_in c.args.run.now.error))
