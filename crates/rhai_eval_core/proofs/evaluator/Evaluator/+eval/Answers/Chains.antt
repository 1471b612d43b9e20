use Rattle.std.proofs.Common.{◌≡◌, [], ◌∷◌, false, true, length, Option, Some, None, is_none, is_some, refl, sym, ap, subst, ◌∙◌}
use Rattle.std.proofs.Common.{arith}
use Rattle.std.specs.Option.{option_copied, option_map}
use Rattle.rhai_steps.specs.States.{holding}
use Rattle.rhai_tree.specs.declared.expr.Expr.{out-Expr}
use Rattle.rhai_tree.specs.declared.expr.Expr.TheOpen as layer
use Rattle.rhai_tree.specs.declared.expr.Expr.TheVariants as exprs
use Rattle.rhai_tree.specs.Layers.{ExprLayer}
use Rattle.rhai_state.specs.Scope.{names_in}
use Rattle.rhai_lookups.specs.declared.run.RunState.{RunState}
use Rattle.rhai_machine.specs.machine.Point.{after}
use Rattle.rhai_machine.specs.machine.Memory.{here, next, ◌⨾◌}
use Rattle.rhai_machine.specs.language.Frames.{AssignChain, AssignedChain, ChainRoot, ReadRoot, RootValue, ToChain, chain_on}
use Rattle.rhai_machine.specs.language.Arguments.{arguments_core}
use Rattle.rhai_machine.specs.language.Chains.{this_root_core}
use Rattle.rhai_machine.specs.language.Links.{asked_by, first_in}
use Rattle.rhai_machine.specs.language.Variables.{variable_named}
use Rattle.rhai_machine.specs.language.Runs.{Goes}
use Rattle.rhai_steps.proofs.Agreeing.{brings, leads_then, same, stays, still}
use Rattle.rhai_steps.proofs.Pieces.{charged, refused}
use Rattle.rhai_operands.proofs.Names.{good_name}
use Rattle.rhai_links.specs.Chains.{chain_at, link_seen, new_of}
use Rattle.rhai_context.specs.Ends.{error_in}
use Rattle.rhai_eval_steps.specs.Agreement.{ChangesNames, KeepsNames, RestoresNames, SuitsNames}
use Rattle.rhai_eval_steps.specs.Calls.{Collects}
use Rattle.rhai_eval_steps.specs.States.{state_in}
use Rattle.rhai_eval_core.specs.States.{under}
use Rattle.rhai_tree.proofs.Links.{few_links}
use Rattle.rhai_eval_steps.proofs.Chain.{begins, flat_fails}
use Rattle.rhai_eval_steps.proofs.CallSteps.{charged_on, refused_on}
use Rattle.rhai_eval_steps.proofs.ChainLemmas.{has_link, left_chain, link_resolves, may_walk, no_name, RestResolves, root_resolves}
use Rattle.rhai_eval_steps.proofs.ChainLemmas.{target_parts}
use Rattle.rhai_eval_steps.proofs.ChainSteps.{arrives_last, arrives_on, asks_further, asks_last, asks_link, begins_chain, evaluates_root}
use Rattle.rhai_eval_steps.proofs.ChainSteps.{asked_at_once, not_assigned, nothing_there, opens_asking, opens_at_once, opens_running_out}
use Rattle.rhai_eval_steps.proofs.ChainSteps.{this_root}
use Rattle.rhai_eval_steps.proofs.ChainSteps.{variable_root, walks_given}
use Rattle.rhai_eval_steps.proofs.NameLemmas.{at_known}
use Rattle.rhai_eval_core.proofs.evaluator.Evaluator.+eval.Goals as goal

-- a chain, its arguments and its root

pub run_chain-take_ready_args-requires : goal.run_chain-take_ready_args-requires
run_chain-take_ready_args-requires g t c = (omega arith, c.new-values.ensures)

pub run_chain-returns-in_default-clause-runs : goal.run_chain-returns-in_default-clause-runs
unfolding Goes
run_chain-returns-in_default-clause-runs g t c k =
    let rules = under g.H.Host.name_of c.args.self.now g.T.NativeTable.natives in
    let chain = chain_on c.args.root.now (out-Expr c.args.chain.now) (new_of c.args.new) in
    (opens_running_out rules chain (out-Expr c.args.chain.now) refl k (state_in (g.T.NativeTable.state c.args.table.now) c.args.run.now)
    (error_in c.take_ready_args.new.place) (c.in_default.ensures.refused refl))

pub run_chain-run_link_args-requires : goal.run_chain-run_link_args-requires
unfolding ChangesNames KeepsNames RestoresNames SuitsNames
run_chain-run_link_args-requires g t c =
    λ κs lives. (
      omega arith,
      (lives.0, (lives.1, (omega arith, c.requires.behind))),
    )

pub run_chain-run_root-done-requires : goal.run_chain-run_root-done-requires
unfolding ChangesNames KeepsNames RestoresNames SuitsNames
run_chain-run_root-done-requires g t c =
    let asks = c.in-Some.ensures.asks c.if-asks.true in
    let asked = rw asks.0 at c.if-not-run_link_args.ensures.asked in
    λ κs lives. (
      omega (
        arith,
        c.if-not-run_link_args.ensures.counts refl,
      ),
      (
        lives.0,
        (
          lives.1,
          (
            still (c.if-not-run_link_args.ensures.names refl) c.requires.root,
            (
              rw c.as_mut_slice-args.ensures.value
                  (walks_given _ (out-Expr c.args.chain.now) c.run_link_args.new.values c.requires.walks asked),
              c.requires.starts,
            ),
          ),
        ),
      ),
    )

pub run_chain-run_root-done-requires-else-asks : goal.run_chain-run_root-done-requires-else-asks
unfolding ChangesNames KeepsNames RestoresNames SuitsNames
run_chain-run_root-done-requires-else-asks g t c =
    let asked = asked_at_once (out-Expr c.args.chain.now) c.take_ready_args.new.made (c.in-Some.ensures.given c.if-asks.false) in
    λ κs lives. (
      omega arith,
      (
        lives.0,
        (
          lives.1,
          (
            c.requires.root,
            (
              rw c.as_mut_slice-args-else-asks.ensures.value
                  (walks_given _ (out-Expr c.args.chain.now) c.take_ready_args.new.made c.requires.walks asked),
              c.requires.starts,
            ),
          ),
        ),
      ),
    )

pub run_chain-returns-then-not-run_link_args-clause-runs : goal.run_chain-returns-then-not-run_link_args-clause-runs
unfolding Goes ChangesNames KeepsNames RestoresNames SuitsNames
run_chain-returns-then-not-run_link_args-clause-runs g t c k =
    let rules = under g.H.Host.name_of c.args.self.now g.T.NativeTable.natives in
    let chain = chain_on c.args.root.now (out-Expr c.args.chain.now) (new_of c.args.new) in
    let there = has_link (out-Expr c.args.chain.now) c.requires.behind.known c.requires.behind.holds in
    let asks = c.in-Some.ensures.asks c.if-asks.true in
    (opens_asking rules chain (out-Expr c.args.chain.now) refl k _ there.0 there.1 asks.1
    ⨾ (rw asks.0 at c.if-not-run_link_args.ensures.gathers) chain k)

pub run_chain-returns-else-not-run_link_args-clause-runs : goal.run_chain-returns-else-not-run_link_args-clause-runs
unfolding Goes ChangesNames KeepsNames RestoresNames SuitsNames
run_chain-returns-else-not-run_link_args-clause-runs g t c k =
    let rules = under g.H.Host.name_of c.args.self.now g.T.NativeTable.natives in
    let chain = chain_on c.args.root.now (out-Expr c.args.chain.now) (new_of c.args.new) in
    let there = has_link (out-Expr c.args.chain.now) c.requires.behind.known c.requires.behind.holds in
    let asks = c.in-Some.ensures.asks c.if-asks.true in
    (opens_asking rules chain (out-Expr c.args.chain.now) refl k _ there.0 there.1 asks.1
    ⨾ (rw asks.0 at c.if-not-run_link_args.ensures.gathers) chain k
    ⨾ (rw c.as_mut_slice-args.ensures.value at c.run_root-done.ensures.runs false) k)

pub run_chain-returns-else-not-run_link_args-clause-asks : goal.run_chain-returns-else-not-run_link_args-clause-asks
unfolding ChangesNames KeepsNames RestoresNames SuitsNames Goes
run_chain-returns-else-not-run_link_args-clause-asks g t c =
    let rules = under g.H.Host.name_of c.args.self.now g.T.NativeTable.natives in
    let chain = chain_on c.args.root.now (out-Expr c.args.chain.now) (new_of c.args.new) in
    let there = has_link (out-Expr c.args.chain.now) c.requires.behind.known c.requires.behind.holds in
    let asks = c.in-Some.ensures.asks c.if-asks.true in
    λ done. (
      c.run_link_args.new.values,
      state_in (g.T.NativeTable.state c.run_link_args.new.table) c.run_link_args.new.run,
      opens_asking rules chain (out-Expr c.args.chain.now) refl [] _ there.0 there.1 asks.1
          ⨾ (rw asks.0 at c.if-not-run_link_args.ensures.gathers) chain [],
    )

pub run_chain-returns-else-asks-clause-runs : goal.run_chain-returns-else-asks-clause-runs
unfolding Goes
run_chain-returns-else-asks-clause-runs g t c k =
    let rules = under g.H.Host.name_of c.args.self.now g.T.NativeTable.natives in
    let chain = chain_on c.args.root.now (out-Expr c.args.chain.now) (new_of c.args.new) in
    (opens_at_once rules chain (out-Expr c.args.chain.now) refl k (state_in (g.T.NativeTable.state c.args.table.now) c.args.run.now)
    c.take_ready_args.new.made (c.in-Some.ensures.given c.if-asks.false)
    ⨾ (rw c.as_mut_slice-args-else-asks.ensures.value at c.run_root-done-else-asks.ensures.runs false) k)

pub run_chain-returns-else-asks-clause-asks : goal.run_chain-returns-else-asks-clause-asks
run_chain-returns-else-asks-clause-asks g t c =
    let rules = under g.H.Host.name_of c.args.self.now g.T.NativeTable.natives in
    let chain = chain_on c.args.root.now (out-Expr c.args.chain.now) (new_of c.args.new) in
    λ done. (
      c.take_ready_args.new.made,
      state_in (g.T.NativeTable.state c.args.table.now) c.args.run.now,
      opens_at_once rules chain (out-Expr c.args.chain.now) refl [] (state_in (g.T.NativeTable.state c.args.table.now) c.args.run.now)
          c.take_ready_args.new.made (c.in-Some.ensures.given c.if-asks.false),
    )

-- what the links ask for

pub run_link_args-unreachable-requires : goal.run_link_args-unreachable-requires
unfolding ChangesNames KeepsNames RestoresNames SuitsNames
run_link_args-unreachable-requires g t c =
    link_resolves (out-Expr c.args.chain.now) c.requires.known None
    (sym c.link_of.ensures ∙ ap (option_map link_seen) (nothing_there _ c.in_default.not-Some)) c.requires.holds

pub run_link_args-run_more_args-requires : goal.run_link_args-run_more_args-requires
unfolding ChangesNames KeepsNames RestoresNames SuitsNames
run_link_args-run_more_args-requires g t c =
    let found = sym c.link_of.ensures ∙ ap (option_map link_seen) c.in-Some.is in
    let suits = same c.if-not-charge.ensures.sight refl c.requires in
    let parts = link_resolves (out-Expr c.args.chain.now) suits.known (Some (link_seen c.in-Some.link)) found suits.holds in
    λ κs lives. (
      omega (arith, ap (λ (global : RunState _). global.num_operations) (c.if-not-charge.ensures.charged refl)),
      (lives.0, (lives.1, (omega arith, rw c.asked.ensures (at_known suits parts.0)))),
    )

pub run_link_args-run_link_args-requires : goal.run_link_args-run_link_args-requires
unfolding ChangesNames KeepsNames RestoresNames SuitsNames
run_link_args-run_link_args-requires g t c =
    let found = sym c.link_of.ensures ∙ ap (option_map link_seen) c.in-Some.is in
    let suits = still (leads_then (stays c.if-not-charge.ensures.sight refl) (c.if-not-run_more_args.ensures.names refl)) c.requires in
    let parts = link_resolves (out-Expr c.args.chain.now) suits.known (Some (link_seen c.in-Some.link)) found suits.holds in
    let on : (link_seen c.in-Some.link).behind ≡ Some (out-Expr c.in-Some-behind.rest.now) =
    ap (λ o. option_map out-Expr (option_copied o)) c.in-Some-behind.is in
    λ κs lives. (
      omega (
        arith,
        c.if-not-charge.ensures.room refl,
        ap (λ (global : RunState _). global.num_operations) (c.if-not-charge.ensures.charged refl),
        c.if-not-run_more_args.ensures.counts refl,
      ),
      (
        lives.0,
        (
          lives.1,
          (
            omega arith,
            at_known suits (subst (λ (o : Option ExprLayer). RestResolves o suits.known) on parts.1),
          ),
        ),
      ),
    )

pub run_link_args-returns-then-not-charge-clause-gathers : goal.run_link_args-returns-then-not-charge-clause-gathers
unfolding Goes
run_link_args-returns-then-not-charge-clause-gathers g t c chain k =
    let rules = under g.H.Host.name_of c.args.self.now g.T.NativeTable.natives in
    let link = link_seen c.in-Some.link in
    let found = sym c.link_of.ensures ∙ ap (option_map link_seen) c.in-Some.is in
    refused_on rules _ c.args.run.now.global c.charge.new.global _ _ _ _ k
    (λ l. arguments_core rules.setting (ToChain chain link.behind) c.args.values.now (asked_by link.form) k l)
    (asks_link rules chain (out-Expr c.args.chain.now) c.args.values.now link found k _) _
    (c.if-not-charge.ensures.full refl) (c.if-not-charge.ensures.refused refl) (c.if-not-charge.ensures.same refl)

pub run_link_args-returns-then-not-run_more_args-clause-gathers : goal.run_link_args-returns-then-not-run_more_args-clause-gathers
unfolding Collects Goes
run_link_args-returns-then-not-run_more_args-clause-gathers g t c chain k =
    let rules = under g.H.Host.name_of c.args.self.now g.T.NativeTable.natives in
    let link = link_seen c.in-Some.link in
    let found = sym c.link_of.ensures ∙ ap (option_map link_seen) c.in-Some.is in
    charged_on rules _ c.args.run.now.global c.charge.new.global _ _ _ _ k
    (λ l. arguments_core rules.setting (ToChain chain link.behind) c.args.values.now (asked_by link.form) k l)
    (asks_link rules chain (out-Expr c.args.chain.now) c.args.values.now link found k _)
    (c.if-not-charge.ensures.room refl) (c.if-not-charge.ensures.charged refl)
    ⨾ (rw c.asked.ensures at c.if-not-run_more_args.ensures.collects) (ToChain chain link.behind) refl k

pub run_link_args-returns-in-Some-behind-clause-gathers : goal.run_link_args-returns-in-Some-behind-clause-gathers
unfolding Collects Goes
run_link_args-returns-in-Some-behind-clause-gathers g t c chain k =
    let rules = under g.H.Host.name_of c.args.self.now g.T.NativeTable.natives in
    let link = link_seen c.in-Some.link in
    let found = sym c.link_of.ensures ∙ ap (option_map link_seen) c.in-Some.is in
    let on : link.behind ≡ Some (out-Expr c.in-Some-behind.rest.now) =
    ap (λ o. option_map out-Expr (option_copied o)) c.in-Some-behind.is in
    charged_on rules _ c.args.run.now.global c.charge.new.global _ _ _ _ k
    (λ l. arguments_core rules.setting (ToChain chain link.behind) c.args.values.now (asked_by link.form) k l)
    (asks_link rules chain (out-Expr c.args.chain.now) c.args.values.now link found k _)
    (c.if-not-charge.ensures.room refl) (c.if-not-charge.ensures.charged refl)
    ⨾ (rw c.asked.ensures at c.if-not-run_more_args.ensures.collects) (ToChain chain link.behind) refl k
    ⨾ arrives_on rules chain c.run_more_args.new.values link.behind k _ (out-Expr c.in-Some-behind.rest.now) on
    ⨾ c.run_link_args.ensures.gathers chain k

pub run_link_args-returns-in-Some-behind-clause-asked : goal.run_link_args-returns-in-Some-behind-clause-asked
run_link_args-returns-in-Some-behind-clause-asked g t c =
    let link = link_seen c.in-Some.link in
    let found = sym c.link_of.ensures ∙ ap (option_map link_seen) c.in-Some.is in
    let on : link.behind ≡ Some (out-Expr c.in-Some-behind.rest.now) =
    ap (λ o. option_map out-Expr (option_copied o)) c.in-Some-behind.is in
    asks_further _ (length c.args.values.now) (length c.run_more_args.new.values) (out-Expr c.args.chain.now)
    (out-Expr c.in-Some-behind.rest.now) link found on (rw c.asked.ensures at c.if-not-run_more_args.ensures.more refl)
    c.run_link_args.ensures.asked

pub run_link_args-returns-in-None-clause-gathers : goal.run_link_args-returns-in-None-clause-gathers
unfolding Collects Goes
run_link_args-returns-in-None-clause-gathers g t c chain k =
    let rules = under g.H.Host.name_of c.args.self.now g.T.NativeTable.natives in
    let link = link_seen c.in-Some.link in
    let found = sym c.link_of.ensures ∙ ap (option_map link_seen) c.in-Some.is in
    let alone : link.behind ≡ None = ap (λ o. option_map out-Expr (option_copied o)) c.in-None.is in
    charged_on rules _ c.args.run.now.global c.charge.new.global _ _ _ _ k
    (λ l. arguments_core rules.setting (ToChain chain link.behind) c.args.values.now (asked_by link.form) k l)
    (asks_link rules chain (out-Expr c.args.chain.now) c.args.values.now link found k _)
    (c.if-not-charge.ensures.room refl) (c.if-not-charge.ensures.charged refl)
    ⨾ (rw c.asked.ensures at c.if-not-run_more_args.ensures.collects) (ToChain chain link.behind) refl k
    ⨾ arrives_last rules chain c.run_more_args.new.values link.behind k _ alone

pub run_link_args-returns-in-None-clause-asked : goal.run_link_args-returns-in-None-clause-asked
run_link_args-returns-in-None-clause-asked g t c =
    let link = link_seen c.in-Some.link in
    let found = sym c.link_of.ensures ∙ ap (option_map link_seen) c.in-Some.is in
    let alone : link.behind ≡ None = ap (λ o. option_map out-Expr (option_copied o)) c.in-None.is in
    asks_last c.run_more_args.new.values (length c.args.values.now) (out-Expr c.args.chain.now) link found alone
    (rw c.asked.ensures at c.if-not-run_more_args.ensures.more refl)

-- the root

pub run_root-walk_value-requires : goal.run_root-walk_value-requires
unfolding ChangesNames KeepsNames RestoresNames SuitsNames
run_root-walk_value-requires g t c =
    let other = no_name c.args.root.now c.in_default.not-Variable c.in_default.not-ThisPtr in
    let none = not_assigned c.args.new (out-Expr c.args.root.now) other c.requires.starts in
    λ κs lives. (omega (arith, c.if-not-run_expr.ensures.charges refl), (lives.0, (lives.1, rw none at c.requires.walks)))

pub run_root-returns-then-not-run_expr-clause-runs : goal.run_root-returns-then-not-run_expr-clause-runs
unfolding after Goes ChangesNames KeepsNames RestoresNames SuitsNames
run_root-returns-then-not-run_expr-clause-runs g t c in_place k =
    let rules = under g.H.Host.name_of c.args.self.now g.T.NativeTable.natives in
    let other = no_name c.args.root.now c.in_default.not-Variable c.in_default.not-ThisPtr in
    let none = not_assigned c.args.new (out-Expr c.args.root.now) other c.requires.starts in
    let chain = chain_at c.args.root.now (out-Expr c.args.chain.now) c.args.args.now c.args.new in_place in
    evaluates_root rules c.args.root.now c.requires.root.known other c.requires.root.holds chain refl (ap (λ o. is_none (new_of o)) none)
    k _
    ⨾ c.if-not-run_expr.ensures.runs (RootValue chain ∷ k) ⨾ next here

pub run_root-returns-else-not-run_expr-clause-runs : goal.run_root-returns-else-not-run_expr-clause-runs
unfolding Goes ChangesNames KeepsNames RestoresNames SuitsNames
run_root-returns-else-not-run_expr-clause-runs g t c in_place k =
    let rules = under g.H.Host.name_of c.args.self.now g.T.NativeTable.natives in
    let other = no_name c.args.root.now c.in_default.not-Variable c.in_default.not-ThisPtr in
    let none = not_assigned c.args.new (out-Expr c.args.root.now) other c.requires.starts in
    let chain = chain_at c.args.root.now (out-Expr c.args.chain.now) c.args.args.now None in_place in
    rw (none, c.walk_value.ensures.scope, c.walk_value.ensures.this)
    (evaluates_root rules c.args.root.now c.requires.root.known other c.requires.root.holds chain refl refl k _
    ⨾ c.if-not-run_expr.ensures.runs (RootValue chain ∷ k)
    ⨾ c.walk_value.ensures.runs c.run_expr.new.run.scope
    (holding c.run_expr.new.run.this) in_place k)

pub run_root-returns-then-not-charge-clause-runs : goal.run_root-returns-then-not-charge-clause-runs
unfolding Goes
run_root-returns-then-not-charge-clause-runs g t c in_place k =
    let rules = under g.H.Host.name_of c.args.self.now g.T.NativeTable.natives in
    let chain = chain_at c.args.root.now (out-Expr c.args.chain.now) c.args.args.now c.args.new in_place in
    let form : out-Expr c.args.root.now ≡ layer.Variable c.in-Variable.offset c.in-Variable.name c.in-Variable.namespace
    c.in-Variable.pos = rw (c.in-Variable.is, exprs.outs-Variable) refl in
    refused rules _ c.args.run.now.global c.charge.new.global _ _ (ChainRoot chain)
    (ReadRoot (variable_named c.in-Variable.name c.in-Variable.namespace c.in-Variable.pos) chain) c.in-Variable.pos
    (λ k. variable_root rules c.args.root.now c.in-Variable.offset c.in-Variable.name c.in-Variable.namespace c.in-Variable.pos form chain
    refl k _) _ (c.if-not-charge.ensures.full refl) (c.if-not-charge.ensures.refused refl) (c.if-not-charge.ensures.same refl) k

pub run_root-walk_variable-requires : goal.run_root-walk_variable-requires
unfolding ChangesNames KeepsNames RestoresNames SuitsNames
run_root-walk_variable-requires g t c =
    λ κs lives. (
      omega (
        arith,
        ap (λ (global : RunState _). global.num_operations) (c.if-not-charge.ensures.charged refl),
      ),
      (
        lives.0,
        (
          lives.1,
          (
            same c.if-not-charge.ensures.sight refl (brings (λ frame. good_name c.args.root.now c.in-Variable.offset c.in-Variable.name
                c.in-Variable.namespace c.in-Variable.pos frame (rw (c.in-Variable.is, exprs.outs-Variable) refl)) c.requires.root),
            c.requires.walks,
          ),
        ),
      ),
    )

pub run_root-returns-else-not-charge-clause-runs : goal.run_root-returns-else-not-charge-clause-runs
unfolding Goes
run_root-returns-else-not-charge-clause-runs g t c in_place k =
    let rules = under g.H.Host.name_of c.args.self.now g.T.NativeTable.natives in
    let chain = chain_at c.args.root.now (out-Expr c.args.chain.now) c.args.args.now c.args.new in_place in
    let form : out-Expr c.args.root.now ≡ layer.Variable c.in-Variable.offset c.in-Variable.name c.in-Variable.namespace
    c.in-Variable.pos = rw (c.in-Variable.is, exprs.outs-Variable) refl in
    rw c.walk_variable.ensures.this
    (charged rules _ c.args.run.now.global c.charge.new.global _ _ (ChainRoot chain)
    (ReadRoot (variable_named c.in-Variable.name c.in-Variable.namespace c.in-Variable.pos) chain) c.in-Variable.pos
    (λ k. variable_root rules c.args.root.now c.in-Variable.offset c.in-Variable.name c.in-Variable.namespace c.in-Variable.pos form chain
    refl k _) (c.if-not-charge.ensures.room refl) (c.if-not-charge.ensures.charged refl) k
    ⨾ c.walk_variable.ensures.runs (holding c.args.run.now.this) in_place k)

pub run_root-returns-then-not-charge-2-clause-runs : goal.run_root-returns-then-not-charge-2-clause-runs
unfolding Goes
run_root-returns-then-not-charge-2-clause-runs g t c in_place k =
    let rules = under g.H.Host.name_of c.args.self.now g.T.NativeTable.natives in
    let chain = chain_at c.args.root.now (out-Expr c.args.chain.now) c.args.args.now c.args.new in_place in
    let form : out-Expr c.args.root.now ≡ layer.ThisPtr c.in-ThisPtr.pos = rw (c.in-ThisPtr.is, exprs.outs-ThisPtr) refl in
    refused_on rules _ c.args.run.now.global c.charge-in-ThisPtr.new.global _ _ (ChainRoot chain) c.in-ThisPtr.pos k
    (λ l. this_root_core c.in-ThisPtr.pos chain k l) (this_root rules c.args.root.now c.in-ThisPtr.pos form chain refl k _) _
    (c.if-not-charge-2.ensures.full refl) (c.if-not-charge-2.ensures.refused refl)
    (c.if-not-charge-2.ensures.same refl)

pub run_root-walk_this-requires : goal.run_root-walk_this-requires
unfolding ChangesNames KeepsNames RestoresNames SuitsNames
run_root-walk_this-requires g t c =
    λ κs lives. (
      omega (
        arith,
        ap (λ (global : RunState _). global.num_operations) (c.if-not-charge-2.ensures.charged refl),
      ),
      (lives.0, (lives.1, c.requires.walks)),
    )

pub run_root-returns-else-not-charge-2-clause-runs : goal.run_root-returns-else-not-charge-2-clause-runs
unfolding Goes
run_root-returns-else-not-charge-2-clause-runs g t c in_place k =
    let rules = under g.H.Host.name_of c.args.self.now g.T.NativeTable.natives in
    let chain = chain_at c.args.root.now (out-Expr c.args.chain.now) c.args.args.now c.args.new in_place in
    let form : out-Expr c.args.root.now ≡ layer.ThisPtr c.in-ThisPtr.pos = rw (c.in-ThisPtr.is, exprs.outs-ThisPtr) refl in
    rw c.walk_this.ensures.scope
    (charged_on rules _ c.args.run.now.global c.charge-in-ThisPtr.new.global _ _ (ChainRoot chain) c.in-ThisPtr.pos k
    (λ l. this_root_core c.in-ThisPtr.pos chain k l) (this_root rules c.args.root.now c.in-ThisPtr.pos form chain refl k _)
    (c.if-not-charge-2.ensures.room refl) (c.if-not-charge-2.ensures.charged refl)
    ⨾ c.walk_this.ensures.runs c.args.run.now.scope None in_place k)

-- an assignment

pub assign_chain-unreachable-requires : goal.assign_chain-unreachable-requires
assign_chain-unreachable-requires g t c =
    let none : first_in (out-Expr c.args.lhs.now) ≡ None =
    sym c.first_of.ensures ∙ ap option_copied (nothing_there _ c.in_default.not-Some) in
    let clear : false ≡ true = ap is_some (sym none) ∙ c.requires.chain in cc

pub assign_chain-run_chain-requires : goal.assign_chain-run_chain-requires
unfolding ChangesNames KeepsNames RestoresNames SuitsNames
assign_chain-run_chain-requires g t c =
    let found = sym c.first_of.ensures ∙ ap option_copied c.in-Some.is in
    let suits = still (c.if-not-run_expr.ensures.names refl) c.requires.resolves_target in
    let parts = target_parts c.args.lhs.now c.in-Some.root.now suits.known found suits.holds in
    λ κs lives. (
      omega (arith, c.if-not-run_expr.ensures.charges refl),
      (
        lives.0,
        (
          lives.1,
          (
            at_known suits parts.root_runs,
            (
              at_known suits parts.behind_runs,
              (may_walk true suits.known (out-Expr c.args.lhs.now) parts.behind_runs parts.ends, parts.starts),
            ),
          ),
        ),
      ),
    )

pub assign_chain-returns-then-not-run_expr-clause-runs : goal.assign_chain-returns-then-not-run_expr-clause-runs
unfolding after Goes
assign_chain-returns-then-not-run_expr-clause-runs g t c restoring k =
    let rules = under g.H.Host.name_of c.args.self.now g.T.NativeTable.natives in
    let found = sym c.first_of.ensures ∙ ap option_copied c.in-Some.is in
    begins_chain rules c.args.op c.args.lhs.now c.args.rhs.now c.in-Some.root.now restoring found k _
    ⨾ c.if-not-run_expr.ensures.runs (AssignChain _ _ _ _ ∷ k) ⨾ next here

pub assign_chain-returns-in_default-take_flat-clause-runs : goal.assign_chain-returns-in_default-take_flat-clause-runs
unfolding Goes
assign_chain-returns-in_default-take_flat-clause-runs g t c restoring k =
    let rules = under g.H.Host.name_of c.args.self.now g.T.NativeTable.natives in
    let found = sym c.first_of.ensures ∙ ap option_copied c.in-Some.is in
    begins_chain rules c.args.op c.args.lhs.now c.args.rhs.now c.in-Some.root.now restoring found k _
    ⨾ c.if-not-run_expr.ensures.runs (AssignChain _ _ _ _ ∷ k)
    ⨾ flat_fails rules _ _ k _ _ (AssignChain _ _ _ _) refl c.in_default-take_flat.ensures

pub assign_chain-returns-then-not-run_chain-clause-runs : goal.assign_chain-returns-then-not-run_chain-clause-runs
unfolding after Goes
assign_chain-returns-then-not-run_chain-clause-runs g t c restoring k =
    let rules = under g.H.Host.name_of c.args.self.now g.T.NativeTable.natives in
    let found = sym c.first_of.ensures ∙ ap option_copied c.in-Some.is in
    begins_chain rules c.args.op c.args.lhs.now c.args.rhs.now c.in-Some.root.now restoring found k _
    ⨾ c.if-not-run_expr.ensures.runs (AssignChain _ _ _ _ ∷ k)
    ⨾ next (rw (← (c.in-Some-take_flat.ensures tt))
    (c.if-not-run_chain.ensures.runs (AssignedChain ∷ k) ⨾ next here))

pub assign_chain-returns-clause-runs : goal.assign_chain-returns-clause-runs
unfolding after Goes
assign_chain-returns-clause-runs g t c restoring k =
    let rules = under g.H.Host.name_of c.args.self.now g.T.NativeTable.natives in
    let found = sym c.first_of.ensures ∙ ap option_copied c.in-Some.is in
    begins_chain rules c.args.op c.args.lhs.now c.args.rhs.now c.in-Some.root.now restoring found k _
    ⨾ c.if-not-run_expr.ensures.runs (AssignChain _ _ _ _ ∷ k)
    ⨾ next (rw (← (c.in-Some-take_flat.ensures tt))
    (c.if-not-run_chain.ensures.runs (AssignedChain ∷ k)
    ⨾ next (rw c.put_unit.ensures here)))

-- where a chain is read, and where it is assigned to

pub run_expr-read_chain-requires : goal.run_expr-read_chain-requires
unfolding ChangesNames KeepsNames RestoresNames SuitsNames
run_expr-read_chain-requires g t c =
    let suits = same c.charge_expr.ensures.sight refl c.requires.resolves in
    let few = few_links c.args.expr.now suits.known suits.holds in
    let parts = root_resolves c.args.expr.now c.in-Dot.root suits.known (rw (c.in-Dot.is, exprs.outs-Dot) refl) suits.holds in
    λ κs lives. (
      omega (
        arith,
        few,
        (c.if-not-charge_expr.ensures.room refl),
        ap (λ (global : RunState _). global.num_operations) (c.if-not-charge_expr.ensures.charged refl),
      ),
      (
        lives.0,
        (
          lives.1,
          (
            rw c.get.ensures (at_known suits parts.0),
            (at_known suits parts.1, (may_walk false suits.known (out-Expr c.args.expr.now) parts.1 tt, tt)),
          ),
        ),
      ),
    )

pub run_expr-read_chain-requires-in-Index : goal.run_expr-read_chain-requires-in-Index
unfolding ChangesNames KeepsNames RestoresNames SuitsNames
run_expr-read_chain-requires-in-Index g t c =
    let suits = same c.charge_expr.ensures.sight refl c.requires.resolves in
    let few = few_links c.args.expr.now suits.known suits.holds in
    let parts = root_resolves c.args.expr.now c.in-Index.root suits.known (rw (c.in-Index.is, exprs.outs-Index) refl) suits.holds in
    λ κs lives. (
      omega (
        arith,
        few,
        (c.if-not-charge_expr.ensures.room refl),
        ap (λ (global : RunState _). global.num_operations) (c.if-not-charge_expr.ensures.charged refl),
      ),
      (
        lives.0,
        (
          lives.1,
          (
            rw c.get-in-Index.ensures (at_known suits parts.0),
            (at_known suits parts.1, (may_walk false suits.known (out-Expr c.args.expr.now) parts.1 tt, tt)),
          ),
        ),
      ),
    )

pub run_expr-returns-in-Dot-clause-runs : goal.run_expr-returns-in-Dot-clause-runs
unfolding after Goes
run_expr-returns-in-Dot-clause-runs g t c k =
    let rules = under g.H.Host.name_of c.args.self.now g.T.NativeTable.natives in
    begins rules _ c.args.run.now.global c.charge_expr.new.global _ _ (c.if-not-charge_expr.ensures.room refl)
    (c.if-not-charge_expr.ensures.charged refl) _ (layer.Dot c.in-Dot.root c.in-Dot.field-1 c.in-Dot.field-2 c.in-Dot.field-3)
    (rw (c.in-Dot.is, exprs.outs-Dot) refl) k
    ⨾ next ((rw (c.get.ensures, c.in-Dot.is, exprs.outs-Dot) at c.read_chain.ensures.runs) k)

pub run_expr-returns-in-Index-clause-runs : goal.run_expr-returns-in-Index-clause-runs
unfolding after Goes
run_expr-returns-in-Index-clause-runs g t c k =
    let rules = under g.H.Host.name_of c.args.self.now g.T.NativeTable.natives in
    begins rules _ c.args.run.now.global c.charge_expr.new.global _ _ (c.if-not-charge_expr.ensures.room refl)
    (c.if-not-charge_expr.ensures.charged refl) _ (layer.Index c.in-Index.root c.in-Index.field-1 c.in-Index.field-2 c.in-Index.field-3)
    (rw (c.in-Index.is, exprs.outs-Index) refl) k
    ⨾ next ((rw (c.get-in-Index.ensures, c.in-Index.is, exprs.outs-Index) at c.read_chain-in-Index.ensures.runs) k)

pub assign_evaluated-assign_chain-requires : goal.assign_evaluated-assign_chain-requires
unfolding ChangesNames KeepsNames RestoresNames SuitsNames
assign_evaluated-assign_chain-requires g t c =
    let chain = left_chain c.args.lhs.now c.requires.resolves_target.known
    (no_name c.args.lhs.now c.in_default.not-Variable c.in_default.not-ThisPtr)
    c.requires.resolves_target.holds in
    λ κs lives. (
      omega arith,
      (lives.0, (lives.1, (chain, (c.requires.resolves_target, c.requires.resolves)))),
    )

pub run_chain-returns-else-not-run_link_args-clause-names : goal.run_chain-returns-else-not-run_link_args-clause-names
unfolding ChangesNames KeepsNames RestoresNames SuitsNames
run_chain-returns-else-not-run_link_args-clause-names g t c done =
    leads_then (c.if-not-run_link_args.ensures.names refl) (c.run_root-done.ensures.names done)

pub run_link_args-returns-in-Some-behind-clause-names : goal.run_link_args-returns-in-Some-behind-clause-names
unfolding ChangesNames KeepsNames RestoresNames SuitsNames
run_link_args-returns-in-Some-behind-clause-names g t c done =
    leads_then (leads_then (stays c.if-not-charge.ensures.sight refl) (c.if-not-run_more_args.ensures.names refl))
    (c.run_link_args.ensures.names done)

pub run_link_args-returns-in-None-clause-names : goal.run_link_args-returns-in-None-clause-names
unfolding ChangesNames KeepsNames RestoresNames SuitsNames
run_link_args-returns-in-None-clause-names g t c done =
    leads_then (stays c.if-not-charge.ensures.sight refl) (c.if-not-run_more_args.ensures.names refl)

pub run_root-returns-else-not-run_expr-clause-names : goal.run_root-returns-else-not-run_expr-clause-names
unfolding ChangesNames KeepsNames RestoresNames SuitsNames
run_root-returns-else-not-run_expr-clause-names g t c done =
    leads_then (c.if-not-run_expr.ensures.names refl) (stays c.walk_value.ensures.sight (ap names_in c.walk_value.ensures.scope))

pub run_root-returns-else-not-charge-clause-names : goal.run_root-returns-else-not-charge-clause-names
unfolding ChangesNames KeepsNames RestoresNames SuitsNames
run_root-returns-else-not-charge-clause-names g t c done =
    leads_then (stays c.if-not-charge.ensures.sight refl) c.walk_variable.ensures.names

pub run_root-returns-else-not-charge-2-clause-names : goal.run_root-returns-else-not-charge-2-clause-names
unfolding ChangesNames KeepsNames RestoresNames SuitsNames
run_root-returns-else-not-charge-2-clause-names g t c done =
    stays (c.walk_this.ensures.sight ∙ c.if-not-charge-2.ensures.sight) (ap names_in c.walk_this.ensures.scope)

pub assign_chain-returns-clause-names : goal.assign_chain-returns-clause-names
unfolding ChangesNames KeepsNames RestoresNames SuitsNames
assign_chain-returns-clause-names g t c done =
    leads_then (c.if-not-run_expr.ensures.names refl) (c.if-not-run_chain.ensures.names refl)

pub run_chain-returns-else-asks-clause-names : goal.run_chain-returns-else-asks-clause-names
unfolding KeepsNames
run_chain-returns-else-asks-clause-names g t c done = c.run_root-done-else-asks.ensures.names done
