use Rattle.rhai_values.specs.Hashable.{is_hashable}
use Rattle.rhai_values.proofs.EachLemmas.{all_more, all_not}
use Rattle.rhai_values.proofs.base.hashable.+hashable.Goals as goal

pub all_are_hashable-loop-value-preserved : goal.all_are_hashable-loop-value-preserved
all_are_hashable-loop-value-preserved g t c =
    all_more is_hashable c.args.values.now c.loop-value.value-index _ c.loop-value-test.true c.value-item.is c.loop-value.invariant
    c.if-not-value_is_hashable.ensures

pub all_are_hashable-returns-then-not-value_is_hashable : goal.all_are_hashable-returns-then-not-value_is_hashable
all_are_hashable-returns-then-not-value_is_hashable g t c =
    all_not is_hashable c.args.values.now c.loop-value.value-index _ c.loop-value-test.true c.value-item.is
    c.if-not-value_is_hashable.ensures
