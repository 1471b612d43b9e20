use Rattle.std.proofs.Common.{◌≡◌, map, take, true}
use Rattle.rhai_tree.specs.SameLiteral.{each, same_literal}
use Rattle.rhai_tree.proofs.literal.+same.Given as goal

abbrev pub invariant-all_same-loop-i : goal.invariant-all_same-loop-i
invariant-all_same-loop-i l = each (map same_literal (take l.i l.these)) (take l.i l.those) ≡ true
