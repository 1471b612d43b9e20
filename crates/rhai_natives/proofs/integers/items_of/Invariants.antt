use Rattle.std.proofs.Common.{◌≡◌, take}
use Rattle.rhai_natives.specs.Numbers.{items_of}
use Rattle.rhai_natives.proofs.integers.items_of.Given as goal

abbrev pub invariant-loop-number : goal.invariant-loop-number
invariant-loop-number g l = l.items ≡ items_of (take l.number-index l.numbers)
