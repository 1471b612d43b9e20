use Rattle.std.proofs.Common.{arith}
use Rattle.rhai_state.proofs.Deciding.{decides}
use Rattle.rhai_state.proofs.state.GlobalRuntimeState.fits.Goals as goal

pub returns-then-are_sealed : goal.returns-then-are_sealed
returns-then-are_sealed g c = decides c.args.self.now c.args.scope.now _ (grind arith)

pub returns-else-are_sealed : goal.returns-else-are_sealed
returns-else-are_sealed g c = decides c.args.self.now c.args.scope.now _ (grind arith)
