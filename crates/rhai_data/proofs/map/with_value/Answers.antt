use Rattle.rhai_data.proofs.ArrayLemmas.{counts}
use Rattle.rhai_data.proofs.map.with_value.Goals as goal

pub returns : goal.returns
returns g c values is = rw (c.joined-2.ensures, c.joined.ensures, c.of_maps.ensures, c.data_sizes.ensures)
    (counts values c.args.value.now c.args.sizes is)
