use Rattle.std.proofs.Common.{◌≡◌, map, take}
use Rattle.rhai_values.specs.Copy.{copy_of}
use Rattle.rhai_values.proofs.base.copy.+copy.Given as goal

abbrev pub invariant-copy_items-loop-item : goal.invariant-copy_items-loop-item
invariant-copy_items-loop-item g l = l.copied ≡ map copy_of (take l.item-index l.items)
