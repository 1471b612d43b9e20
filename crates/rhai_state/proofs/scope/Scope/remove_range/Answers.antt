use Rattle.std.proofs.Common.{◌≡◌, ◌+◌, ◌-◌, length, subst, sym, ap, ◌∙◌, suc, arith, true, remove, ◌<◌, take, drop, ◌++◌}
use Rattle.rhai_state.specs.Scope.{entries_of}
use Rattle.rhai_state.proofs.Ranges.{one_is_left, one_more}
use Rattle.rhai_state.proofs.scope.Scope.remove_range.Goals as goal

pub entries-preserved : goal.entries-preserved
entries-preserved g c =
    let more = one_is_left c.entries.left c.args.start c.len.result (sym c.is_left.ensures ∙ c.entries-test.true) in
    let next : suc (c.args.start + (c.args.len - c.entries.left)) ≡ c.args.start + (c.args.len - (c.entries.left - 1)) =
    omega (arith, more.0, c.entries.invariant.within) in
    record {
      kept = c.remove.ensures.rest ∙ ap (λ xs. remove xs c.args.start) c.entries.invariant.kept
          ∙ one_more (entries_of c.args.self.now) c.args.start (c.args.start + (c.args.len - c.entries.left)) (omega arith)
          (subst (λ xs. c.args.start < length xs) c.entries.invariant.kept (rw c.len.ensures at more.1))
          ∙ ap (λ n. take c.args.start (entries_of c.args.self.now) ++ drop n (entries_of c.args.self.now)) next;
      within = omega (arith, c.entries.invariant.within);
    }
