use Rattle.std.proofs.Common.{sym}
use Rattle.rhai_values.specs.Cells.{cells_of}
use Rattle.rhai_state.specs.Scope.{entries_of}
use Rattle.rhai_assign.specs.Targets.{place_in}
use Rattle.rhai_assign.proofs.Places.{standing_is}
use Rattle.rhai_fast_assign.proofs.in_place.prepare.Goals as goal

pub returns-clause-ready : goal.returns-clause-ready
returns-clause-ready g c = record {
  finds = c.in_ok-place.ensures.0;
  stands = c.in_ok-place.ensures.1;
  operand = c.value.result.now;
  given = rw c.value.ensures (sym c.in_ok-operand.ensures);
  answers = rw (standing_is (place_in c.in_ok-place.place) c.value_at-target.result.now (entries_of c.args.scope.now)
      (cells_of c.args.global.now.cells) c.value_at-target.ensures) c.in_ok-outcome.ensures;
}
