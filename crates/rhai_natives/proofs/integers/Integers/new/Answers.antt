use Rattle.std.proofs.Common.{◌∙◌}
use Rattle.rhai_natives.proofs.Numbers.{made_has, made_shows}
use Rattle.rhai_natives.proofs.integers.Integers.new.Goals as goal

pub invariant_of-result : goal.invariant_of-result
invariant_of-result g c = made_has c.args.numbers.now (c.in_ok-items-2.ensures ∙ c.in_ok-items.ensures)

pub returns : goal.returns
returns g c = made_shows c.args.numbers.now (c.in_ok-items-2.ensures ∙ c.in_ok-items.ensures)
