-- A part goes back, or is refused for one reason.
use Rattle.std.proofs.Common.{◌≡◌, ℕ, List, Some, Result, Ok, Err, false, refl, sym, ap, subst, ◌∙◌, OnOk, IfErr}
use Rattle.rhai_tree.specs.declared.position.Position.{Position}
use Rattle.rhai_values.specs.declared.base.value.Dynamic.{Dynamic}
use Rattle.rhai_errors.specs.declared.error.EvalAltResult.{EvalAltResult}
use Rattle.rhai_errors.specs.Errors.{is_out_of_memory}
use Rattle.rhai_spots.specs.declared.part.Part.{Part}
use Rattle.rhai_spots.specs.declared.part.Part.TheVariants as part
use Rattle.rhai_spots.specs.Targets.{propagated, IsNotPropagated}
use Rattle.rhai_twins.specs.Ends.{SameAnswer}

module _ {H : Type 0} (name : H → List ℕ) (position : Position) where
  -- what goes back is not refused
  not_both : (p : Part H) (place new : Dynamic H) (e : EvalAltResult H) → propagated p place ≡ Some new →
      IsNotPropagated name p place position e → is_out_of_memory e ≡ false → ⊥
  not_both (part.Of at v) place new e goes refused told = let nothing = (refused told).0 in cc
  not_both part.Whole place new e goes refused told = refused
  not_both (part.Temporary v) place new e goes refused told = refused

  one_reason : (p : Part H) (place : Dynamic H) (e f : EvalAltResult H) → IsNotPropagated name p place position e →
      IsNotPropagated name p place position f → is_out_of_memory e ≡ false → is_out_of_memory f ≡ false → e ≡ f
  one_reason (part.Of at v) place e f one other e_told f_told = (one e_told).1 ∙ sym (other f_told).1
  one_reason part.Whole place e f one other e_told f_told = absurd one
  one_reason (part.Temporary v) place e f one other e_told f_told = absurd one

  -- what is told of an answer
  abbrev Put : Part H → (place new : Dynamic H) → Result (Unit {0}) (EvalAltResult H) → Type 0
  Put p place new r = OnOk r (propagated p place ≡ Some new) × IfErr r (λ e. IsNotPropagated name p place position e)

  one_answer : (p : Part H) (place n m : Dynamic H) (r s : Result (Unit {0}) (EvalAltResult H)) → Put p place n r →
      Put p place m s → SameAnswer r s
  one_answer p place n m (Ok x) (Ok y) one other = λ a b. refl
  one_answer p place n m (Ok x) (Err f) one other = λ a b. absurd (not_both p place n f one.0 other.1 b)
  one_answer p place n m (Err e) (Ok y) one other = λ a b. absurd (not_both p place m e other.0 one.1 a)
  one_answer p place n m (Err e) (Err f) one other = λ a b. ap (λ x. Err x) (one_reason p place e f one.1 other.1 a b)

  pub put_once : (p q : Part H) (x y n m : Dynamic H) (r s : Result (Unit {0}) (EvalAltResult H)) → p ≡ q → x ≡ y →
      Put p x n r → Put q y m s → SameAnswer r s
  put_once p q x y n m r s same_part same_place one other =
      let P : Part H → Type 0 = λ z. Put z y m s in
      let Q : Dynamic H → Type 0 = λ z. Put p z m s in
      one_answer p x n m r s one (subst Q (sym same_place) (subst P (sym same_part) other))
