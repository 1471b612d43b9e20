use Rattle.std.proofs.Common.{◌≡◌, ◌++◌, drop}
use Rattle.rhai_methods.proofs.copies.take_out.Given as goal

abbrev pub invariant-loop-i : goal.invariant-loop-i
invariant-loop-i g l = l.all ++ drop l.i l.args ≡ l.initial.args
