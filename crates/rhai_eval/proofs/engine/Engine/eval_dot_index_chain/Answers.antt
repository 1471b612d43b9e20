use Rattle.std.proofs.Common.{◌≡◌, ◌∙◌, Bool, true, false, is_some, Option, Some, None, MutBor, ap, refl, subst, sym}
use Rattle.rhai_values.specs.declared.base.value.Dynamic.{Dynamic}
use Rattle.rhai_errors.specs.Native.{left_by, lent_value}
use Rattle.rhai_lookups.proofs.Returned.{returned}
use Rattle.rhai_steps.specs.Callers.{state_of}
use Rattle.rhai_steps.specs.States.{holding}
use Rattle.rhai_eval_steps.specs.Agreement.{SuitsNames}
use Rattle.rhai_eval.specs.States.{under}
use Rattle.std.specs.Option.{option_copied}
use Rattle.rhai_tree.specs.declared.expr.Expr.{out-Expr}
use Rattle.rhai_machine.specs.language.Links.{first_in}
use Rattle.rhai_links.specs.Chains.{new_of}
use Rattle.rhai_eval_steps.proofs.Chain.{on_done}
use Rattle.rhai_eval_steps.specs.Chains.{AsksFirst, MayWalk, StartsFrom}
use Rattle.std.specs.Prelude.{OnOk}
use Rattle.rhai_eval.specs.Chains.{assigned_in, chain_of, whole_chain}
use Rattle.rhai_eval.proofs.Chained.{asks_over_root, chain_assigns, chain_may_run, over_root}
use Rattle.rhai_machine.specs.language.Runs.{Runs}
use Rattle.rhai_laws.proofs.KeptLaws.{kept, names_stay}
use Rattle.rhai_eval.proofs.Public.{ends_as, five, handed_free, handed_on, same_rules}
use Rattle.rhai_machine.specs.language.Frames.{ended}
use Rattle.rhai_eval.proofs.engine.Engine.eval_dot_index_chain.Given.{Over}
use Rattle.rhai_eval.proofs.engine.Engine.eval_dot_index_chain.Lts.{ps, r, xs}
use denote.Triple.Clauses.{at_exit}
use denote.Triple.Entry.{Args}
use borrow.Fn.Enter.{lasts_p}
use borrow.Fn.Kinds.{ended_of}
use Rattle.rhai_eval_steps.proofs.NameLemmas.{at_known}
use Rattle.rhai_eval.proofs.engine.Engine.eval_dot_index_chain.Goals as goal
use Rattle.rhai_eval_core.specs.States.{under as under_what_is_read}

pub unreachable-requires : goal.unreachable-requires
unreachable-requires g c =
    let none : first_in (out-Expr c.args.expr.now) ≡ None = sym c.first_of.ensures ∙ ap option_copied c.in_default.is in
    let clear : false ≡ true = ap is_some (sym none) ∙ c.requires.chain in cc

pub run_chain-done-requires-clause-root : goal.run_chain-done-requires-clause-root
unfolding SuitsNames
run_chain-done-requires-clause-root g c =
    let found = sym c.first_of.ensures ∙ ap option_copied c.in-Some.is in
    rw c.take_with_this-run.ensures.run
    (at_known c.requires.resolves (chain_may_run (is_some c.args.new_val) c.args.expr.now c.in-Some.root.now
    c.requires.resolves.known found c.requires.resolves.holds).root_runs)

pub run_chain-done-requires-clause-behind : goal.run_chain-done-requires-clause-behind
unfolding SuitsNames
run_chain-done-requires-clause-behind g c =
    let found = sym c.first_of.ensures ∙ ap option_copied c.in-Some.is in
    rw c.take_with_this-run.ensures.run
    (at_known c.requires.resolves (chain_may_run (is_some c.args.new_val) c.args.expr.now c.in-Some.root.now
    c.requires.resolves.known found c.requires.resolves.holds).behind_runs)

pub run_chain-done-requires-clause-walks : goal.run_chain-done-requires-clause-walks
run_chain-done-requires-clause-walks g c =
    let found = sym c.first_of.ensures ∙ ap option_copied c.in-Some.is in
    subst (λ (assigned : Bool). MayWalk assigned (out-Expr c.args.expr.now)) (sym c.new_value-new.ensures.given)
    (chain_may_run (is_some c.args.new_val) c.args.expr.now c.in-Some.root.now c.requires.resolves.known found
    c.requires.resolves.holds).walks

pub run_chain-done-requires-clause-starts : goal.run_chain-done-requires-clause-starts
run_chain-done-requires-clause-starts g c =
    let found = sym c.first_of.ensures ∙ ap option_copied c.in-Some.is in
    subst (λ (assigned : Bool). StartsFrom assigned (out-Expr c.in-Some.root.now)) (sym c.new_value-new.ensures.given)
    (chain_may_run (is_some c.args.new_val) c.args.expr.now c.in-Some.root.now c.requires.resolves.known found
    c.requires.resolves.holds).starts

pub run_chain-done-requires-in-None-clause-root : goal.run_chain-done-requires-in-None-clause-root
unfolding SuitsNames
run_chain-done-requires-in-None-clause-root g c =
    let found = sym c.first_of.ensures ∙ ap option_copied c.in-Some.is in
    rw c.take-run.ensures.run (at_known c.requires.resolves (chain_may_run (is_some c.args.new_val) c.args.expr.now c.in-Some.root.now
    c.requires.resolves.known found c.requires.resolves.holds).root_runs)

pub run_chain-done-requires-in-None-clause-behind : goal.run_chain-done-requires-in-None-clause-behind
unfolding SuitsNames
run_chain-done-requires-in-None-clause-behind g c =
    let found = sym c.first_of.ensures ∙ ap option_copied c.in-Some.is in
    rw c.take-run.ensures.run (at_known c.requires.resolves (chain_may_run (is_some c.args.new_val) c.args.expr.now c.in-Some.root.now
    c.requires.resolves.known found c.requires.resolves.holds).behind_runs)

pub run_chain-done-requires-in-None-clause-walks : goal.run_chain-done-requires-in-None-clause-walks
run_chain-done-requires-in-None-clause-walks g c =
    let found = sym c.first_of.ensures ∙ ap option_copied c.in-Some.is in
    subst (λ (assigned : Bool). MayWalk assigned (out-Expr c.args.expr.now)) (sym c.new_value-new.ensures.given)
    (chain_may_run (is_some c.args.new_val) c.args.expr.now c.in-Some.root.now c.requires.resolves.known found
    c.requires.resolves.holds).walks

pub run_chain-done-requires-in-None-clause-starts : goal.run_chain-done-requires-in-None-clause-starts
run_chain-done-requires-in-None-clause-starts g c =
    let found = sym c.first_of.ensures ∙ ap option_copied c.in-Some.is in
    subst (λ (assigned : Bool). StartsFrom assigned (out-Expr c.in-Some.root.now)) (sym c.new_value-new.ensures.given)
    (chain_may_run (is_some c.args.new_val) c.args.expr.now c.in-Some.root.now c.requires.resolves.known found
    c.requires.resolves.holds).starts

-- what stands in the place of `this` as its loan ends, were this the place
abbrev left_on : (g : Over) → goal.After-give_back_with_this g → Option (MutBor (Dynamic g.row.H.Denot)) → Option (Dynamic g.row.H.Denot)
left_on g c place =
    let kinds = ps g.row.H g.row.T g.H.laws g.T.laws g.H.Host-dict g.H.Destruct-dict g.T.NativeTable-dict in
    let answer = r g.row.H g.row.T g.H.laws g.T.laws g.H.Host-dict g.H.Destruct-dict g.T.NativeTable-dict in
    let types = xs g.row.H g.row.T g.H.laws g.T.laws g.H.Host-dict g.H.Destruct-dict g.T.NativeTable-dict in
    let given : Args (ended_of 10 kinds answer).signature c.lifetimes = (
      c.args.self,
      (c.args.alloc, (c.args.global, (c.args.caches, (c.args.table, (c.args.scope, (place, (c.args.expr, (c.args.new_val, tt)))))))),
    ) in
    left_by (at_exit (ended_of 10 kinds answer) c.lifetimes given (lasts_p c.lifetimes 4 kinds types given (
      c.args.self,
      (
        tt,
        (
          c.args.global,
          (
            c.args.caches,
            (
              c.args.table,
              (
                c.args.scope,
                (
                  Some (record c.in-Some-this.place { now = c.give_back_with_this.new.this }),
                  (c.args.expr, five (five (five (five (five (five (five (five (five (tt, (tt, (tt, tt)))))))))))),
                ),
              ),
            ),
          ),
        ),
      ),
    ))).1.1.1.1.1.1.0

this_on : (g : Over) (c : goal.After-give_back_with_this g) → left_on g c c.args.this ≡ Some c.give_back_with_this.new.this
this_on g c = subst (λ place. left_on g c place ≡ Some c.give_back_with_this.new.this) (sym c.in-Some-this.is) refl

-- the run, where the caller has a `this`
runs_on : (g : Over) (c : goal.After-give_back_with_this g) → Runs (under g.H.Host.name_of c.args.self.now g.T.NativeTable.natives)
    (whole_chain c.args.expr.now (assigned_in c.args.new_val))
    (state_of (g.T.NativeTable.state c.args.table.now) c.args.global.now c.args.scope.now (holding (lent_value c.args.this)))
    c.finish-result.result (state_of (g.T.NativeTable.state c.run_chain-done.new.table) c.give_back_with_this.new.global
    c.give_back_with_this.new.scope (holding (left_on g c c.args.this)))
runs_on g c =
    let reads = same_rules g.H.Host.name_of g.T.NativeTable.natives c.args.self.now c.evaluator-evaluator.result
    c.evaluator-evaluator.ensures.limits c.evaluator-evaluator.ensures.offer in
    let runs = over_root (under_what_is_read g.H.Host.name_of c.evaluator-evaluator.result g.T.NativeTable.natives) c.args.expr.now
    c.in-Some.root.now (new_of c.new_value-new.result) (assigned_in c.args.new_val) _ c.finish-result.result _
    (sym c.first_of.ensures ∙ ap option_copied c.in-Some.is) c.new_value-new.ensures.same
    (rw (← c.finish-result.ensures.came) at c.run_chain-done.ensures.runs) in
    handed_on reads (λ r old new. Runs r (whole_chain c.args.expr.now (assigned_in c.args.new_val)) old c.finish-result.result new)
    (g.T.NativeTable.state c.args.table.now) (g.T.NativeTable.state c.run_chain-done.new.table) c.take_with_this-run.result
    c.run_chain-done.new.run c.args.global.now c.give_back_with_this.new.global c.give_back_with_this.ensures.global c.args.scope.now
    c.give_back_with_this.new.scope c.give_back_with_this.ensures.scope
    (kept (under_what_is_read g.H.Host.name_of c.evaluator-evaluator.result g.T.NativeTable.natives)
    (whole_chain c.args.expr.now (assigned_in c.args.new_val)) (ended c.finish-result.result) _ _ tt
    (over_root (under_what_is_read g.H.Host.name_of c.evaluator-evaluator.result g.T.NativeTable.natives) c.args.expr.now
    c.in-Some.root.now (new_of c.new_value-new.result) (assigned_in c.args.new_val) _ c.finish-result.result _
    (sym c.first_of.ensures ∙ ap option_copied c.in-Some.is) c.new_value-new.ensures.same
    (rw (← c.finish-result.ensures.came) at c.run_chain-done.ensures.runs))).bound
    (lent_value c.args.this) (left_on g c c.args.this) c.in-Some-this.place.now c.give_back_with_this.new.this
    (ap lent_value c.in-Some-this.is)
    (this_on g c) c.take_with_this-run.ensures.run c.give_back_with_this.ensures.this runs

asks_on : (g : Over) (c : goal.After-give_back_with_this g) → OnOk c.finish-result.result
    (AsksFirst (under g.H.Host.name_of c.args.self.now g.T.NativeTable.natives) (chain_of c.args.expr.now (assigned_in c.args.new_val))
    (state_of (g.T.NativeTable.state c.args.table.now) c.args.global.now c.args.scope.now (holding (lent_value c.args.this))))
asks_on g c =
    let reads = same_rules g.H.Host.name_of g.T.NativeTable.natives c.args.self.now c.evaluator-evaluator.result
    c.evaluator-evaluator.ensures.limits c.evaluator-evaluator.ensures.offer in
    let asks = asks_over_root (under_what_is_read g.H.Host.name_of c.evaluator-evaluator.result g.T.NativeTable.natives) c.args.expr.now
    c.in-Some.root.now (new_of c.new_value-new.result) (assigned_in c.args.new_val) _ c.finish-result.result
    (sym c.first_of.ensures ∙ ap option_copied c.in-Some.is) c.new_value-new.ensures.same
    (on_done _ _ c.finish-result.ensures.done c.run_chain-done.ensures.asks) in
    handed_on reads (λ r old new. OnOk c.finish-result.result (AsksFirst r (chain_of c.args.expr.now (assigned_in c.args.new_val)) old))
    (g.T.NativeTable.state c.args.table.now) (g.T.NativeTable.state c.run_chain-done.new.table) c.take_with_this-run.result
    c.run_chain-done.new.run c.args.global.now c.give_back_with_this.new.global c.give_back_with_this.ensures.global c.args.scope.now
    c.give_back_with_this.new.scope c.give_back_with_this.ensures.scope
    (kept (under_what_is_read g.H.Host.name_of c.evaluator-evaluator.result g.T.NativeTable.natives)
    (whole_chain c.args.expr.now (assigned_in c.args.new_val)) (ended c.finish-result.result) _ _ tt
    (over_root (under_what_is_read g.H.Host.name_of c.evaluator-evaluator.result g.T.NativeTable.natives) c.args.expr.now
    c.in-Some.root.now (new_of c.new_value-new.result) (assigned_in c.args.new_val) _ c.finish-result.result _
    (sym c.first_of.ensures ∙ ap option_copied c.in-Some.is) c.new_value-new.ensures.same
    (rw (← c.finish-result.ensures.came) at c.run_chain-done.ensures.runs))).bound
    (lent_value c.args.this) (left_on g c c.args.this) c.in-Some-this.place.now c.give_back_with_this.new.this
    (ap lent_value c.in-Some-this.is)
    (this_on g c) c.take_with_this-run.ensures.run c.give_back_with_this.ensures.this asks

pub returns-in-Some-this-clause-ends : goal.returns-in-Some-this-clause-ends
returns-in-Some-this-clause-ends g c = ends_as (under g.H.Host.name_of c.args.self.now g.T.NativeTable.natives)
    (whole_chain c.args.expr.now (assigned_in c.args.new_val)) _ _ c.finish-result.result (runs_on g c)

pub returns-in-Some-this-clause-kept : goal.returns-in-Some-this-clause-kept
returns-in-Some-this-clause-kept g c = kept (under g.H.Host.name_of c.args.self.now g.T.NativeTable.natives)
    (whole_chain c.args.expr.now (assigned_in c.args.new_val)) (ended c.finish-result.result) _ _ tt (runs_on g c)

pub returns-in-Some-this-clause-names : goal.returns-in-Some-this-clause-names
returns-in-Some-this-clause-names g c = names_stay (under g.H.Host.name_of c.args.self.now g.T.NativeTable.natives)
    (whole_chain c.args.expr.now (assigned_in c.args.new_val)) (ended c.finish-result.result) _ _ tt tt (runs_on g c)

pub returns-in-Some-this-clause-assigns : goal.returns-in-Some-this-clause-assigns
returns-in-Some-this-clause-assigns g c = chain_assigns (under g.H.Host.name_of c.args.self.now g.T.NativeTable.natives) c.args.expr.now
    (assigned_in c.args.new_val) _ _ c.finish-result.result (runs_on g c) (asks_on g c)

-- what stands in the place of `this` as its loan ends, were this the place
abbrev left_free : (g : Over) → goal.After-give_back g → Option (MutBor (Dynamic g.row.H.Denot)) → Option (Dynamic g.row.H.Denot)
left_free g c place =
    let kinds = ps g.row.H g.row.T g.H.laws g.T.laws g.H.Host-dict g.H.Destruct-dict g.T.NativeTable-dict in
    let answer = r g.row.H g.row.T g.H.laws g.T.laws g.H.Host-dict g.H.Destruct-dict g.T.NativeTable-dict in
    let types = xs g.row.H g.row.T g.H.laws g.T.laws g.H.Host-dict g.H.Destruct-dict g.T.NativeTable-dict in
    let given : Args (ended_of 10 kinds answer).signature c.lifetimes = (
      c.args.self,
      (c.args.alloc, (c.args.global, (c.args.caches, (c.args.table, (c.args.scope, (place, (c.args.expr, (c.args.new_val, tt)))))))),
    ) in
    left_by (at_exit (ended_of 10 kinds answer) c.lifetimes given (lasts_p c.lifetimes 4 kinds types given (
      c.args.self,
      (
        tt,
        (
          c.args.global,
          (
            c.args.caches,
            (
              c.args.table,
              (
                c.args.scope,
                (place, (c.args.expr, five (five (five (five (five (five (five (five (five (tt, (tt, (tt, tt))))))))))))),
              ),
            ),
          ),
        ),
      ),
    ))).1.1.1.1.1.1.0

this_free : (g : Over) (c : goal.After-give_back g) → left_free g c c.args.this ≡ None
this_free g c = subst (λ place. left_free g c place ≡ None) (sym c.in-None.is) refl

-- and where he has none
runs_free : (g : Over) (c : goal.After-give_back g) → Runs (under g.H.Host.name_of c.args.self.now g.T.NativeTable.natives)
    (whole_chain c.args.expr.now (assigned_in c.args.new_val))
    (state_of (g.T.NativeTable.state c.args.table.now) c.args.global.now c.args.scope.now (holding (lent_value c.args.this)))
    c.finish-result-in-None.result (state_of (g.T.NativeTable.state c.run_chain-done-in-None.new.table) c.give_back.new.global
    c.give_back.new.scope (holding (left_free g c c.args.this)))
runs_free g c =
    let reads = same_rules g.H.Host.name_of g.T.NativeTable.natives c.args.self.now c.evaluator-evaluator.result
    c.evaluator-evaluator.ensures.limits c.evaluator-evaluator.ensures.offer in
    let runs = over_root (under_what_is_read g.H.Host.name_of c.evaluator-evaluator.result g.T.NativeTable.natives) c.args.expr.now
    c.in-Some.root.now (new_of c.new_value-new.result) (assigned_in c.args.new_val) _ c.finish-result-in-None.result _
    (sym c.first_of.ensures ∙ ap option_copied c.in-Some.is) c.new_value-new.ensures.same
    (rw (← c.finish-result-in-None.ensures.came) at c.run_chain-done-in-None.ensures.runs) in
    handed_free reads (λ r old new. Runs r (whole_chain c.args.expr.now (assigned_in c.args.new_val)) old
    c.finish-result-in-None.result new) (g.T.NativeTable.state c.args.table.now)
    (g.T.NativeTable.state c.run_chain-done-in-None.new.table) c.take-run.result c.run_chain-done-in-None.new.run c.args.global.now
    c.give_back.new.global c.give_back.ensures.global c.args.scope.now c.give_back.new.scope c.give_back.ensures.scope
    (kept (under_what_is_read g.H.Host.name_of c.evaluator-evaluator.result g.T.NativeTable.natives)
    (whole_chain c.args.expr.now (assigned_in c.args.new_val)) (ended c.finish-result-in-None.result) _ _ tt
    (over_root (under_what_is_read g.H.Host.name_of c.evaluator-evaluator.result g.T.NativeTable.natives) c.args.expr.now
    c.in-Some.root.now (new_of c.new_value-new.result) (assigned_in c.args.new_val) _ c.finish-result-in-None.result _
    (sym c.first_of.ensures ∙ ap option_copied c.in-Some.is) c.new_value-new.ensures.same
    (rw (← c.finish-result-in-None.ensures.came) at c.run_chain-done-in-None.ensures.runs))).bound
    (lent_value c.args.this) (left_free g c c.args.this) (ap lent_value c.in-None.is) (this_free g c) c.take-run.ensures.run runs

asks_free : (g : Over) (c : goal.After-give_back g) → OnOk c.finish-result-in-None.result
    (AsksFirst (under g.H.Host.name_of c.args.self.now g.T.NativeTable.natives) (chain_of c.args.expr.now (assigned_in c.args.new_val))
    (state_of (g.T.NativeTable.state c.args.table.now) c.args.global.now c.args.scope.now (holding (lent_value c.args.this))))
asks_free g c =
    let reads = same_rules g.H.Host.name_of g.T.NativeTable.natives c.args.self.now c.evaluator-evaluator.result
    c.evaluator-evaluator.ensures.limits c.evaluator-evaluator.ensures.offer in
    let asks = asks_over_root (under_what_is_read g.H.Host.name_of c.evaluator-evaluator.result g.T.NativeTable.natives) c.args.expr.now
    c.in-Some.root.now (new_of c.new_value-new.result) (assigned_in c.args.new_val) _ c.finish-result-in-None.result
    (sym c.first_of.ensures ∙ ap option_copied c.in-Some.is) c.new_value-new.ensures.same
    (on_done _ _ c.finish-result-in-None.ensures.done c.run_chain-done-in-None.ensures.asks) in
    handed_free reads (λ r old new. OnOk c.finish-result-in-None.result (AsksFirst r (chain_of c.args.expr.now (assigned_in c.args.new_val))
    old)) (g.T.NativeTable.state c.args.table.now)
    (g.T.NativeTable.state c.run_chain-done-in-None.new.table) c.take-run.result c.run_chain-done-in-None.new.run c.args.global.now
    c.give_back.new.global c.give_back.ensures.global c.args.scope.now c.give_back.new.scope c.give_back.ensures.scope
    (kept (under_what_is_read g.H.Host.name_of c.evaluator-evaluator.result g.T.NativeTable.natives)
    (whole_chain c.args.expr.now (assigned_in c.args.new_val)) (ended c.finish-result-in-None.result) _ _ tt
    (over_root (under_what_is_read g.H.Host.name_of c.evaluator-evaluator.result g.T.NativeTable.natives) c.args.expr.now
    c.in-Some.root.now (new_of c.new_value-new.result) (assigned_in c.args.new_val) _ c.finish-result-in-None.result _
    (sym c.first_of.ensures ∙ ap option_copied c.in-Some.is) c.new_value-new.ensures.same
    (rw (← c.finish-result-in-None.ensures.came) at c.run_chain-done-in-None.ensures.runs))).bound
    (lent_value c.args.this) (left_free g c c.args.this) (ap lent_value c.in-None.is) (this_free g c) c.take-run.ensures.run asks

pub returns-in-None-clause-ends : goal.returns-in-None-clause-ends
returns-in-None-clause-ends g c = ends_as (under g.H.Host.name_of c.args.self.now g.T.NativeTable.natives)
    (whole_chain c.args.expr.now (assigned_in c.args.new_val)) _ _ c.finish-result-in-None.result (runs_free g c)

pub returns-in-None-clause-kept : goal.returns-in-None-clause-kept
returns-in-None-clause-kept g c = kept (under g.H.Host.name_of c.args.self.now g.T.NativeTable.natives)
    (whole_chain c.args.expr.now (assigned_in c.args.new_val)) (ended c.finish-result-in-None.result) _ _ tt (runs_free g c)

pub returns-in-None-clause-names : goal.returns-in-None-clause-names
returns-in-None-clause-names g c = names_stay (under g.H.Host.name_of c.args.self.now g.T.NativeTable.natives)
    (whole_chain c.args.expr.now (assigned_in c.args.new_val)) (ended c.finish-result-in-None.result) _ _ tt tt (runs_free g c)

pub returns-in-None-clause-assigns : goal.returns-in-None-clause-assigns
returns-in-None-clause-assigns g c = chain_assigns (under g.H.Host.name_of c.args.self.now g.T.NativeTable.natives) c.args.expr.now
    (assigned_in c.args.new_val) _ _ c.finish-result-in-None.result (runs_free g c) (asks_free g c)

pub returns-in-Some-this-clause-caches : goal.returns-in-Some-this-clause-caches
returns-in-Some-this-clause-caches g c =
    rw c.give_back_with_this.ensures.global
    (returned _ _ _ _ c.take_with_this-run.ensures.caches c.give_back_with_this.ensures.caches)

pub returns-in-None-clause-caches : goal.returns-in-None-clause-caches
returns-in-None-clause-caches g c =
    rw c.give_back.ensures.global (returned _ _ _ _ c.take-run.ensures.caches c.give_back.ensures.caches)
