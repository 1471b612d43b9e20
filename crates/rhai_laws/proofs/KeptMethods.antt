-- What the rules of methods keep.
use Rattle.std.proofs.Common.{refl}
use Rattle.std.specs.Prelude.{List}
use Rattle.rhai_values.specs.declared.base.value.Dynamic.{Dynamic}
use Rattle.rhai_machine.specs.language.Setting.{Setting}
use Rattle.rhai_machine.specs.language.State.{Local}
use Rattle.rhai_machine.specs.language.Frames.{Frame}
use Rattle.rhai_machine.specs.language.Methods.{Method, method_core}
use Rattle.rhai_machine.proofs.MethodLaws.{method_ends}
use Rattle.rhai_laws.proofs.Keeping.{Asked, Keeps, quiet, calm}
use Rattle.rhai_laws.proofs.KeptCalls.{dispatched_keeps}

module _ {H : Type 0} (a : Asked) (s : Setting H) where
  -- a method on the focus adds no names, and leaves the surroundings as they are
  pub method_keeps : (method : Method) (args : List (Dynamic H)) (focus : Dynamic H) (k : List (Frame H)) (l : Local H) →
      Keeps a (calm k l) (method_core s method args focus k l)
  method_keeps method args focus k l = method_ends s k l (λ d. Keeps a (calm k l) d) (record {
    dispatched = dispatched_keeps a k l;
    questions = λ call. quiet a tt refl (λ h. h);
  }) method args focus
