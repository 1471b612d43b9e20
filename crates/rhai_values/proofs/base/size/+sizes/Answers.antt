use Rattle.std.proofs.Common.{ap, ◌∙◌, sym}
use Rattle.rhai_values.specs.DataSize.{joined, total, saturated}
use Rattle.rhai_values.proofs.SizeLemmas.{joined_more, joined_with, total-of-Array, total-of-Map}
use Rattle.rhai_values.proofs.base.size.+sizes.Goals as goal

pub sum_sizes-loop-value-preserved : goal.sum_sizes-loop-value-preserved
sum_sizes-loop-value-preserved g t c =
    c.joined-held.ensures ∙ ap (joined c.loop-value.held) c.value_sizes.ensures ∙
    joined_more total c.args.values.now c.loop-value.value-index _ c.loop-value.held c.loop-value-test.true c.value-item.is
    c.loop-value.invariant

pub value_sizes-returns-in-Array : goal.value_sizes-returns-in-Array
value_sizes-returns-in-Array g t c =
    rw (c.joined.ensures, c.sum_sizes.ensures, c.of_arrays.ensures, c.as_slice-items.ensures, c.get-in-Array.ensures)
    (joined_with _ _ ∙ ap saturated (sym (total-of-Array c.args.value.now c.in-Array.items c.in-Array.is)))

pub value_sizes-returns-in-Map : goal.value_sizes-returns-in-Map
value_sizes-returns-in-Map g t c =
    rw (c.joined-in-Map.ensures, c.sum_sizes-in-Map.ensures, c.of_maps.ensures, c.values-values.ensures.value, c.get-in-Map.ensures)
    (joined_with _ _ ∙ ap saturated (sym (total-of-Map c.args.value.now c.in-Map.entries c.in-Map.is)))
