-- What works on a value that is lent to it.
use Rattle.rhai_values.specs.declared.base.value.Dynamic.{Dynamic}
use Rattle.std.specs.Prelude.{Some}
use Rattle.rhai_machine.specs.language.State.{Held}

module _ {H : Type 0} where
  -- what is in hand while a method works on the focus
  abbrev pub lending : Held H → Dynamic H → Held H
  lending held focus = record held { focus = Some focus }
