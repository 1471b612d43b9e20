use Rattle.rhai_lookups.proofs.run.RunState.give_state.Goals as goal

pub returns-clause-caches : goal.returns-clause-caches
returns-clause-caches g c = record {
  fit = c.into_parts-lib.ensures.fit;
  right = c.into_parts-lib.ensures.right;
  below = c.into_parts-lib.ensures.below;
  depth = c.into_parts-lib.ensures.depth;
  on = c.into_parts-lib.ensures.on;
}
