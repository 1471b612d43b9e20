-- A function that a pointer is linked to: the arguments that it gets, or why it is not entered.
use Rattle.std.proofs.Common.{◌≡◌, Bool, true, false, List, Ok, sym, ap, ◌∙◌}
use Rattle.std.specs.Prelude.{ℕ}
use Rattle.rhai_tree.specs.declared.position.Position.{Position}
use Rattle.rhai_values.specs.declared.base.value.Dynamic.{Dynamic}
use Rattle.rhai_errors.specs.declared.error.EvalAltResult.{EvalAltResult}
use Rattle.rhai_errors.specs.declared.error.EvalAltResult.TheVariants as error
use Rattle.rhai_errors.specs.Errors.{is_out_of_memory}
use Rattle.rhai_functions.specs.declared.function.Function.{Function}
use Rattle.rhai_machine.specs.language.Values.{Cells}
use Rattle.rhai_machine.specs.language.Calls.{races}
use Rattle.rhai_methods.specs.Parts.{AreLinked, IsKeptOut}

module _ {H : Type 0} (cells : Cells H) (f : Function H) (got all : List (Dynamic H)) (is : got ≡ all) (at : Position) where
  -- memory ran out
  pub linked_runs_out : (e : EvalAltResult H) → is_out_of_memory e ≡ true → IsKeptOut cells f all at e
  linked_runs_out e is_out told = let never : true ≡ false = sym is_out ∙ told in (cc, cc)

  -- an argument's cell is held
  pub linked_races : (name : List ℕ) (held : Bool) (e : EvalAltResult H) → name ≡ f.def.name → held ≡ races cells got → held ≡ true →
      (is_out_of_memory e ≡ false → e ≡ error.ErrorDataRace name at) → IsKeptOut cells f all at e
  linked_races name held e named found holds told m =
      (ap (races cells) (sym is) ∙ sym found ∙ holds, told m ∙ ap (λ (text : List ℕ). error.ErrorDataRace text at) named)

  -- and none is
  pub linked_enters : (held : Bool) → held ≡ races cells got → held ≡ false → AreLinked cells f all at (Ok got)
  linked_enters held found free = (ap (races cells) (sym is) ∙ sym found ∙ free, is)
