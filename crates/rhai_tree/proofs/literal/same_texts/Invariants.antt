use Rattle.std.proofs.Common.{◌≡◌, map, take, true}
use Rattle.std.specs.Str.{bytes_eq}
use Rattle.rhai_tree.specs.SameLiteral.{each}
use Rattle.rhai_tree.proofs.literal.same_texts.Given as goal

abbrev pub invariant-loop-i : goal.invariant-loop-i
invariant-loop-i l = each (map bytes_eq (take l.i l.these)) (take l.i l.those) ≡ true
