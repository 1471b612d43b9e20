use Rattle.std.proofs.Common.{ap, ℕ, List}
use Rattle.rhai_values.specs.declared.base.value.Dynamic.{Dynamic}
use Rattle.rhai_values.specs.declared.base.value.Union.{Array, Map}
use Rattle.rhai_values.specs.Modes.{with_mode}
use Rattle.rhai_values.proofs.ModeLemmas.{mode-Array, mode-Map, lent_map, one_more_changed}
use Rattle.rhai_values.proofs.base.+modes.Goals as goal

pub modes::set_union_mode-returns-in-Array : goal.modes::set_union_mode-returns-in-Array
modes::set_union_mode-returns-in-Array g t c =
    rw (c.in-Array.is, mode-Array)
    (ap Array (lent_map (with_mode c.args.mode) _ _ _ _ c.get_mut.ensures.value c.as_mut_slice.ensures.value c.set_modes.ensures))

pub modes::set_union_mode-returns-in-Map : goal.modes::set_union_mode-returns-in-Map
modes::set_union_mode-returns-in-Map g t c =
    let values = lent_map (with_mode c.args.mode) c.in-Map.entries.1 c.get_mut-in-Map.result.now.1 _ _
    (ap (λ (entries : List (List ℕ) × List (Dynamic g.row.H.Denot)). entries.1) c.get_mut-in-Map.ensures.value)
    c.values_mut.ensures.value c.set_modes-in-Map.ensures in
    rw (c.in-Map.is, mode-Map) (λ i. Map {X1 = g.row.H.Denot} ((c.get_mut-in-Map.ensures.value i).0, values i))

pub modes::set_modes-loop-i-preserved : goal.modes::set_modes-loop-i-preserved
modes::set_modes-loop-i-preserved g t c =
    one_more_changed (with_mode c.args.mode) c.args.items.now c.loop-i.items c.loop-i.i _ _ c.loop-i.invariant c.loop-i-test.true
    c.set_access_mode.ensures
