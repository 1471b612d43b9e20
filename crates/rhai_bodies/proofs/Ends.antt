-- The last library of a list, and what an end makes of an error that is no way out.
use Rattle.std.proofs.Common.{◌≡◌, Bool, true, false, not, ℕ, ◌-◌, suc, List, [], ◌∷◌, length, slice_get, Option, Some, None, Err}
use Rattle.std.proofs.Common.{refl, sym, ap, ◌∙◌, arith}
use Rattle.rhai_tree.specs.declared.position.Position.{Position}
use Rattle.rhai_values.specs.declared.base.value.Dynamic.{Dynamic}
use Rattle.rhai_values.specs.declared.base.value.EncapsulatedEnviron.{EncapsulatedEnviron, out-EncapsulatedEnviron}
use Rattle.rhai_values.specs.declared.base.value.Module.{Module, out-Module}
use Rattle.rhai_errors.specs.declared.error.EvalAltResult.{EvalAltResult}
use Rattle.rhai_errors.specs.declared.error.EvalAltResult.TheVariants as error
use Rattle.rhai_errors.specs.declared.error.WayOut.TheVariants as way
use Rattle.rhai_errors.specs.Errors.{at_position, is_system, way_out_of}
use Rattle.rhai_machine.specs.language.Activations.{CallExit}
use Rattle.rhai_machine.specs.language.Bodies.{last_name, left_by_error, library_name, returned}
use Rattle.rhai_bodies.specs.Closing.{is_wrapped}

pub denied : (b : Bool) → not b ≡ false → b ≡ true
denied true is = refl
denied false is = sym is

module _ {H : Type 0} where
  -- the name of the last is that of the item at the last index
  pub last_of : (ms : List (Module H)) (m : Module H) (name : Option (List ℕ)) → slice_get ms (length ms - 1) ≡ Some m →
      last_name ms name ≡ (out-Module H m).id
  last_of [] m name is = cc
  last_of (x ∷ []) m name is = let same : x ≡ m = cc in ap (λ y. (out-Module H y).id) same
  last_of (x ∷ y ∷ ys) m name is =
      let here : length (x ∷ y ∷ ys) - 1 ≡ suc (length (y ∷ ys) - 1) = omega arith in
      last_of (y ∷ ys) m (out-Module H x).id (sym (ap (λ at. slice_get (x ∷ y ∷ ys) at) here) ∙ is)

  -- the name of an environment's last library
  pub last_library : (f : Option (EncapsulatedEnviron H)) (e environ : EncapsulatedEnviron H) (lib : List (Module H))
      (m last : Module H) (name : Option (List ℕ)) → f ≡ Some environ → e ≡ environ → lib ≡ (out-EncapsulatedEnviron H e).lib →
      Some last ≡ slice_get lib (length lib - 1) → m ≡ last → (out-Module H m).id ≡ name → name ≡ library_name f
  last_library f e environ lib m last name is e_is lib_is there m_is name_is =
      rw (is, ← e_is, ← lib_is, ← name_is, m_is) (sym (last_of lib last None (sym there)))

  -- an error that is no way out
  pub other_error : (exit : CallExit H) (from e : EvalAltResult H) → way.Error e ≡ way_out_of from →
      returned exit from ≡ Err (left_by_error (is_system e) exit e)
  other_error exit (error.Return v at) e is = cc
  other_error exit (error.Exit v at) e is = cc
  other_error exit (error.LoopBreak v is_break at) e is = cc
  other_error exit from e is = let same : from ≡ e = cc in ap (λ (x : EvalAltResult H). Err (left_by_error (is_system x) exit x)) same

  wrapped_unless_system : (from e : EvalAltResult H) → way.Error e ≡ way_out_of from → is_wrapped from ≡ not (is_system e)
  wrapped_unless_system (error.Return v at) e is = cc
  wrapped_unless_system (error.Exit v at) e is = cc
  wrapped_unless_system (error.LoopBreak v is_break at) e is = cc
  wrapped_unless_system from e is = let same : from ≡ e = cc in ap (λ (x : EvalAltResult H). not (is_system x)) same

  -- and that is not wrapped, so that it only moves
  pub moved_error : (exit : CallExit H) (from e moved : EvalAltResult H) (pos : Position) → way.Error e ≡ way_out_of from →
      (is_system e ≡ true → moved ≡ at_position pos e) → exit.at ≡ pos → is_wrapped from ≡ false → Err moved ≡ returned exit from
  moved_error exit from e moved pos is moves at bare =
      let system = denied (is_system e) (sym (wrapped_unless_system from e is) ∙ bare) in
      let left : left_by_error (is_system e) exit e ≡ at_position pos e = rw (system, at) refl in
      ap Err (moves system ∙ sym left) ∙ sym (other_error exit from e is)
