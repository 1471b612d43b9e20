use Rattle.std.proofs.Common.{sym, ap, ◌∙◌, arith, length, is_some}
use Rattle.std.specs.Option.{option_map}
use Rattle.rhai_tree.specs.declared.expr.Expr.{out-Expr}
use Rattle.rhai_eval_steps.specs.Agreement.{ChangesNames, KeepsNames, RestoresNames, SuitsNames}
use Rattle.rhai_eval_core.specs.States.{under}
use Rattle.rhai_steps.specs.States.{state_of}
use Rattle.rhai_steps.specs.OnFocus.{lending}
use Rattle.rhai_links.specs.Chains.{chain_at, link_seen}
use Rattle.rhai_links.proofs.Beginning.{comes_on}
use Rattle.rhai_links.proofs.LinkLemmas.{fewer_behind, has_link}
use Rattle.rhai_links.proofs.Walked.{link_walks, may_end}
use Rattle.rhai_context.specs.Ends.{came_changed}
use Rattle.rhai_eval_core.proofs.evaluator.Evaluator.+eval.Goals as goal

pub walk_chain-unreachable-requires : goal.walk_chain-unreachable-requires
walk_chain-unreachable-requires g t c =
    has_link (is_some c.args.new) (out-Expr c.args.rest.now) (length c.args.args.now) c.requires.walks
    (sym c.link_of.ensures ∙ ap (option_map link_seen) c.in_default.is)

pub walk_chain-walk_entered-requires : goal.walk_chain-walk_entered-requires
unfolding ChangesNames KeepsNames RestoresNames SuitsNames
walk_chain-walk_entered-requires g t c =
    let is = sym c.in-Some.ensures in
    let fewer = fewer_behind (out-Expr c.args.rest.now) (link_seen c.in-Some.link) is in
    let walks = link_walks (is_some c.args.new) (out-Expr c.args.rest.now) (length c.args.args.now) (link_seen c.in-Some.link)
    c.requires.walks is in
    λ κs lives. (
      omega (arith, fewer, c.begin_link.ensures.counts),
      (
        lives.0,
        (lives.1, (c.in-Enters.ensures.fits, walks)),
      ),
    )

pub walk_chain-returns-in-Ended-clause-runs : goal.walk_chain-returns-in-Ended-clause-runs
walk_chain-returns-in-Ended-clause-runs g t c scope held =
    rw c.settle_changed.ensures (c.in-Ended.ensures.begins scope held
    (chain_at c.args.root.now (out-Expr c.args.rest.now) c.args.args.now c.args.new c.args.in_place) (sym c.in-Some.ensures))

pub walk_chain-returns-in-Enters-clause-runs : goal.walk_chain-returns-in-Enters-clause-runs
walk_chain-returns-in-Enters-clause-runs g t c scope held =
    let rules = under g.H.Host.name_of c.args.self.now g.T.NativeTable.natives in
    let chain = chain_at c.args.root.now (out-Expr c.args.rest.now) c.args.args.now c.args.new c.args.in_place in
    let walks = link_walks (is_some c.args.new) (out-Expr c.args.rest.now) (length c.args.args.now) (link_seen c.in-Some.link)
    c.requires.walks (sym c.in-Some.ensures) in
    comes_on rules (link_seen c.in-Some.link) chain
    (state_of (g.T.NativeTable.state c.args.table.now) c.args.run.now.global scope (lending held c.args.focus.now))
    (state_of (g.T.NativeTable.state c.args.table.now) c.begin_link.new.global scope (lending held c.args.focus.now))
    (state_of (g.T.NativeTable.state c.walk_entered.new.table) c.walk_entered.new.run.global scope (lending held c.walk_entered.new.focus))
    (came_changed c.walk_entered.result c.walk_entered.new.run.value c.walk_entered.new.run.error) (c.in-Enters.ensures.begins
    scope held chain (sym c.in-Some.ensures))
    (may_end (link_seen c.in-Some.link).form (link_seen c.in-Some.link).behind c.args.new walks.behind walks.walks)
    (c.walk_entered.ensures.runs scope held (out-Expr c.args.rest.now))
