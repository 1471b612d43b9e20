use Rattle.std.proofs.Common.{arith, sym, ap, ◌∙◌}
use Rattle.rhai_tree.proofs.LookupLemmas.{below_middle, above_middle, met, missed, compare}
use Rattle.rhai_tree.proofs.table.lookup.search.Goals as goal

pub loop-low-preserved-in-Less : goal.loop-low-preserved-in-Less
loop-low-preserved-in-Less c = record {
  ordered = omega arith;
  within = c.loop-low.invariant.within;
  below = below_middle c.args.keys.now c.args.key.now c.requires _ (omega arith) _ c.index-keys-middle.is
      (ap (λ x. compare x c.args.key.now) (sym (c.as_str.ensures ∙ c.get.ensures)) ∙ sym c.cmp.ensures ∙ c.in-Less.is);
  above = c.loop-low.invariant.above;
}

pub returns-in-Equal : goal.returns-in-Equal
returns-in-Equal c = met c.args.keys.now c.args.key.now _ c.index-keys-middle.result (omega arith) c.index-keys-middle.is c.requires
    (ap (λ x. compare x c.args.key.now) (sym (c.as_str.ensures ∙ c.get.ensures)) ∙ sym c.cmp.ensures ∙ c.in-Equal.is)

pub loop-low-preserved : goal.loop-low-preserved
loop-low-preserved c = record {
  ordered = omega arith;
  within = omega arith;
  below = c.loop-low.invariant.below;
  above = above_middle c.args.keys.now c.args.key.now c.requires _ (omega arith) _ c.index-keys-middle.is
      (ap (λ x. compare x c.args.key.now) (sym (c.as_str.ensures ∙ c.get.ensures)) ∙ sym c.cmp.ensures ∙ c.in-Greater.is);
}

pub returns : goal.returns
returns c = missed c.args.keys.now c.args.key.now c.loop-low.low (omega arith) c.loop-low.invariant.below
    (λ k d le. c.loop-low.invariant.above k d (omega arith))
