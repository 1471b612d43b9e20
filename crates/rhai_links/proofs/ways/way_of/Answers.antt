use Rattle.std.proofs.Common.{sym, ◌∙◌}
use Rattle.rhai_values.specs.Cells.{cells_of}
use Rattle.rhai_links.specs.Chains.{link_seen}
use Rattle.rhai_links.specs.Walking.{GoesOn}
use Rattle.rhai_links.proofs.Beginning.{way_is}
use Rattle.rhai_links.proofs.ways.way_of.Goals as goal

pub returns-then-stops : goal.returns-then-stops
returns-then-stops g c =
    record {
      inner = c.in-Some.inner.now;
      seen = sym (c.in-Some.ensures c.args.link.at);
      stops = sym c.stops_there-stops.ensures ∙ c.if-stops.true;
    }

pub returns : goal.returns
returns g c =
    let goes : GoesOn (link_seen c.args.link) (cells_of c.args.cells.now) c.args.focus.now = record {
      inner = c.in-Some.inner.now;
      seen = sym (c.in-Some.ensures c.args.link.at);
      goes_on = sym c.stops_there-stops.ensures ∙ c.if-stops.false;
    } in way_is c.way_at.result (link_seen c.args.link) (cells_of c.args.cells.now) c.args.focus.now goes c.way_at.ensures
