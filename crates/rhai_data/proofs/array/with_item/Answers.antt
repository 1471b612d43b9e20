use Rattle.rhai_data.proofs.ArrayLemmas.{measures}
use Rattle.rhai_data.proofs.array.with_item.Goals as goal

pub returns : goal.returns
returns g c items is = rw (c.joined-2.ensures, c.joined.ensures, c.of_arrays.ensures, c.data_sizes.ensures)
    (measures items c.args.item.now c.args.sizes is)
