use Rattle.std.proofs.Common.{sym, ◌∙◌, arith}
use Rattle.rhai_functions.proofs.Descending.{stops_here}
use Rattle.rhai_functions.proofs.paths.find_down.Goals as goal

pub returns-in_err-get : goal.returns-in_err-get
returns-in_err-get g c =
    rw c.from_residual.ensures
    (sym (stops_here c.args.path.now c.path.name-index c.name-item.result c.path.within.now (omega arith) c.name-item.is
    (sym (rw (c.in_err-get.was, c.as_str.ensures, c.get.ensures) at c.get-in-path.ensures))) ∙ c.path.invariant)
