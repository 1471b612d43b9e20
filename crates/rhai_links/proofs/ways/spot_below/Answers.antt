use Rattle.std.proofs.Common.{ap, subst}
use Rattle.rhai_values.specs.Cells.{cells_of}
use Rattle.rhai_spots.specs.declared.spot.Access.{Access}
use Rattle.rhai_spots.specs.Found.{found}
use Rattle.rhai_links.specs.Walking.{IsSpotBelow}
use Rattle.rhai_links.proofs.Descending.{spot_below, spot_stays}
use Rattle.rhai_links.proofs.ways.spot_below.Goals as goal

pub returns-clause-same : goal.returns-clause-same
returns-clause-same g c = spot_stays c.access_for-how.result g.H.Host.name_of (cells_of c.args.cells.now) c.args.source.now c.args.index.now
    c.find_spot.new.source c.find_spot.result (ap (λ (how : Access). how.add_if_not_found) c.access_for-how.ensures)
    c.find_spot.ensures.finds

pub returns-clause-finds : goal.returns-clause-finds
returns-clause-finds g c =
    subst (λ (how : Access). IsSpotBelow c.find_spot.result (found how g.H.Host.name_of (cells_of c.args.cells.now) c.args.source.now
    c.args.index.now) c.args.source.now) c.access_for-how.ensures
    (spot_below c.access_for-how.result g.H.Host.name_of (cells_of c.args.cells.now) c.args.source.now c.args.index.now
    c.find_spot.new.source c.find_spot.result (ap (λ (how : Access). how.add_if_not_found) c.access_for-how.ensures)
    c.find_spot.ensures.finds
    c.find_spot.ensures.there)
