use Rattle.std.proofs.Common.{◌∙◌, Some, refl, sym}
use Rattle.rhai_state.specs.Scope.{entries_of, value_of}
use Rattle.rhai_machine.specs.machine.Memory.{here, ◌⨾◌}
use Rattle.rhai_machine.specs.language.Runs.{Goes}
use Rattle.rhai_steps.specs.Agreement.{sight_of}
use Rattle.rhai_steps.specs.Sessions.{under}
use Rattle.rhai_steps.proofs.Agreeing.{index_agrees, place_fits}
use Rattle.rhai_steps.proofs.Pieces.{exits}
use Rattle.rhai_stmt.proofs.Steps.{drop_all, drop_item, is_none, item_there, left_so, shares_none, shares_not, shares_one}
use Rattle.rhai_stmt.proofs.Steps.{shared_agrees, shares_without_memory}
use Rattle.rhai_stmt.proofs.sharing.share_each.Goals as goal

pub each_variable-init : goal.each_variable-init
unfolding Goes
each_variable-init g c = record { rest = refl; sight = refl; names = refl; steps = λ held k. here }

pub index_of_variable-requires : goal.index_of_variable-requires
index_of_variable-requires g c =
    place_fits (sight_of c.each_variable.global) _ _ (entries_of c.each_variable.scope)
    (shared_agrees _ _ _ c.each_variable.invariant.sight c.each_variable.invariant.names c.each_variable-test.true
    c.variable-item.is c.requires)

pub returns-in_default-clause-runs : goal.returns-in_default-clause-runs
unfolding Goes
returns-in_default-clause-runs g c held k =
    let rules = under g.H.Host.name_of c.args.session.now g.T.NativeTable.natives in
    c.each_variable.invariant.steps held k ⨾ rw (drop_item _ _ _ c.each_variable-test.true c.variable-item.is)
    (shares_not rules k _ _ _ _ (sym (index_agrees (sight_of c.each_variable.global) _ _ (entries_of c.each_variable.scope)
    (shared_agrees _ _ _ c.each_variable.invariant.sight
    c.each_variable.invariant.names c.each_variable-test.true c.variable-item.is c.requires)
    c.index_of_variable.result c.index_of_variable.ensures.exact) ∙ is_none c.index_of_variable.result c.in_default.not-Some)
    c.variable_not_found.ensures)

pub returns-in_err-share_value-clause-runs : goal.returns-in_err-share_value-clause-runs
unfolding Goes
returns-in_err-share_value-clause-runs g c held =
    let rules = under g.H.Host.name_of c.args.session.now g.T.NativeTable.natives in
    exits rules _ _ _ _ _ c.from_residual.ensures (λ k.
    c.each_variable.invariant.steps held k ⨾ rw (drop_item _ _ _ c.each_variable-test.true c.variable-item.is)
    (rw (c.in_err-share_value.ensures.rest, c.in_err-share_value.ensures.same_cells, c.in_err-share_value.ensures.same_scope)
    (shares_without_memory rules k _ _ _ _ c.in_err-share_value.ensures.refused)))

pub each_variable-preserved : goal.each_variable-preserved
unfolding Goes
each_variable-preserved g c =
    let there = item_there (entries_of c.each_variable.scope) c.in-Some.index c.in-Some.ensures.within in
    record {
      rest = rw (c.in_ok-share_value.ensures.rest, c.each_variable.invariant.rest) refl;
      sight = c.in_ok-share_value.ensures.sight ∙ c.each_variable.invariant.sight;
      names = c.in_ok-share_value.ensures.names ∙ c.each_variable.invariant.names;
      steps = λ held k.
          let rules = under g.H.Host.name_of c.args.session.now g.T.NativeTable.natives in
          c.each_variable.invariant.steps held k ⨾ rw (drop_item _ _ _ c.each_variable-test.true c.variable-item.is)
          (shares_one rules k _ _ _ c.in-Some.index (value_of there.0) _ (sym (index_agrees (sight_of c.each_variable.global) _ _
          (entries_of c.each_variable.scope) (shared_agrees _ _ _ c.each_variable.invariant.sight
          c.each_variable.invariant.names c.each_variable-test.true c.variable-item.is c.requires) (Some c.in-Some.index)
          c.in-Some.ensures.exact)) (rw there.1 refl) (left_so _
          c.each_variable.global c.share_value.new.global
          c.each_variable.scope c.share_value.new.scope held _
          c.in_ok-share_value.ensures.rest (rw there.1 at (c.in_ok-share_value.ensures.shared held))));
    }

pub returns-clause-runs : goal.returns-clause-runs
unfolding Goes
returns-clause-runs g c held k =
    let rules = under g.H.Host.name_of c.args.session.now g.T.NativeTable.natives in
    c.each_variable.invariant.steps held k ⨾ rw (drop_all _ _ c.each_variable-test.false, c.unit_value.ensures)
    (shares_none rules k _)
