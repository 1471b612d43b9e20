use Rattle.std.proofs.Common.{Some, Ok, refl}
use Rattle.rhai_values.specs.declared.base.value.Dynamic.{Dynamic}
use Rattle.rhai_operators.specs.Answers.{IsAnswer}
use Rattle.rhai_operators.proofs.answer.answer.Goals as goal

a_value : {H : Type 0} (v : Dynamic H) → IsAnswer (Some (Ok v)) (Some (Ok v))
a_value v = record { value = λ memory. refl; found = refl; exact = λ none. refl; unplaced = tt }

pub returns-in-Some-Ok : goal.returns-in-Some-Ok
returns-in-Some-Ok g c = rw (c.in-Some-Ok.is, c.in-Some-Ok.field-0-is, c.new.ensures) (a_value _)
