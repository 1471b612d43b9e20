use Rattle.rhai_values.specs.Cells.{cells_of}
use Rattle.rhai_spots.specs.Found.{found}
use Rattle.rhai_twins.proofs.Found.{found_from}
use Rattle.rhai_twins.proofs.target.indexed.Goals as goal

pub returns : goal.returns
returns g c = found_from (λ d. found c.args.how g.H.Host.name_of (cells_of c.args.cells.now) d c.args.index.now) c.args.one.now
    c.args.other.now c.get_indexed_mut.result c.get_indexed_mut-2.result c.requires c.get_indexed_mut.ensures.found
    c.get_indexed_mut-2.ensures.found
