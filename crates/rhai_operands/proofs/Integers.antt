-- An operator on two integers that stand, charged at once.
use Rattle.std.proofs.Common.{◌≡◌, ◌≤◌, ◌+◌, ℕ, ℤ, Bool, true, false, List, [], ◌∷◌, Option, Some, None, Ok, Err}
use Rattle.std.proofs.Common.{ap, arith, is_some, refl, sym, ◌∙◌}
use Rattle.std.specs.Prelude.{IfSome}
use Rattle.rhai_tree.specs.declared.position.Position.{Position}
use Rattle.rhai_tree.specs.declared.token.Token.{Token}
use Rattle.rhai_tree.specs.declared.expr.Expr.{Expr, out-Expr}
use Rattle.rhai_tree.specs.declared.expr.Expr.TheOpen as layer
use Rattle.rhai_tree.specs.declared.expr.FnCallExpr.{FnCallExpr}
use Rattle.rhai_values.specs.declared.base.value.Dynamic.{Dynamic}
use Rattle.rhai_values.specs.declared.base.value.Union.{Union}
use Rattle.rhai_values.specs.declared.base.value.Union.TheVariants as value
use Rattle.rhai_values.specs.Copy.{plain}
use Rattle.rhai_state.specs.declared.scope.Scope.{Scope}
use Rattle.rhai_lookups.specs.declared.run.RunState.{RunState}
use Rattle.rhai_state.specs.Scope.{entries_of}
use Rattle.rhai_operators.specs.Answers.{answer, binary_of}
use Rattle.rhai_operators.specs.Direct.{integer_given, integer_in}
use Rattle.rhai_operators.specs.Operators.{Outcome, assigns_integers, binary_at, if_assigns, of_integers, op_assign_at}
use Rattle.rhai_machine.specs.language.Calls.{applied}
use Rattle.rhai_machine.specs.language.Setting.{Rules, limit_under, cut}
use Rattle.rhai_machine.specs.language.State.{Held}
use Rattle.rhai_machine.specs.language.Frames.{Back, Frame, OpenExpr}
use Rattle.rhai_machine.specs.language.Runs.{at}
use Rattle.rhai_machine.specs.machine.Memory.{Leads}
use Rattle.rhai_machine.specs.language.Language.{machine}
use Rattle.rhai_steps.specs.States.{state_of}
use Rattle.rhai_operands.specs.Standing.{assigned_known, integer_of, integer_valued, operated, standing}
use Rattle.rhai_operands.proofs.InPlace.{integer_sized, operates}

module _ {H : Type 0} where
  -- an operator gave an integer
  number_in : (u : Union H) (w : Dynamic H) → integer_valued (integer_in u) ≡ Some w →
      (z : ℤ) × (u ≡ value.Int z) × (w ≡ plain (value.Int z))
  number_in (value.Int z) w is = let same : plain (value.Int z) ≡ w = cc in (z, refl, sym same)
  number_in _ w is = cc

  pub number_given : (o : Outcome H) (w : Dynamic H) → integer_valued (integer_given o) ≡ Some w →
      (z : ℤ) × (o ≡ Some (Ok (value.Int z))) × (w ≡ plain (value.Int z))
  number_given None w is = cc
  number_given (Some (Err why)) w is = cc
  number_given (Some (Ok u)) w is =
      let given = number_in u w is in (given.0, ap (λ (v : Union H). Some (Ok v)) given.1, given.2)

-- an integer that was found in place is what stands there
pub is_there : (found stands : Option ℤ) → is_some found ≡ true → IfSome found (λ n. stands ≡ Some n) → stands ≡ found
is_there (Some n) stands some is = is
is_there None stands some is = cc

-- nothing is given of one integer alone
one_known : {A H : Type 0} (token : Token) (x : Option ℤ) (v : Dynamic H) → assigned_known token x None ≡ Some v → A
one_known token None v is = cc
one_known token (Some m) v is = cc

-- where an operator gives an integer of two, both operands stand, and that is its answer
module _ {H : Type 0} (token : Token) where
  -- what may stand before an `=` gives alone what it gives there
  given_alone : (may : Bool) (o : Outcome H) (u : Union H) → if_assigns may o ≡ Some (Ok u) → o ≡ Some (Ok u)
  given_alone true o u is = is
  given_alone false o u is = cc

  operated_at : (u w : Union H) (v : Dynamic H) → assigned_known token (integer_in u) (integer_in w) ≡ Some v →
      (z : ℤ) × (v ≡ plain (value.Int z)) × (answer (binary_at token u w) ≡ Some (Ok v))
  operated_at (value.Int a) (value.Int b) v is =
      let given = number_given (op_assign_at token (value.Int a) (value.Int b)) v is in (
        given.0,
        given.2,
        ap answer (given_alone (assigns_integers token) (of_integers token a b) (value.Int given.0) given.1)
            ∙ ap (λ (x : Dynamic H). Some (Ok x)) (sym given.2),
      )
  operated_at (value.Int a) _ v is = cc
  operated_at _ w v is = cc

  pub operated_stands : (left right : Option (Dynamic H)) (v : Dynamic H) →
      assigned_known token (integer_of left) (integer_of right) ≡ Some v →
      (x : Dynamic H) × (y : Dynamic H) × (left ≡ Some x) × (right ≡ Some y) × (z : ℤ) × (v ≡ plain (value.Int z))
      × (binary_of token x y ≡ Some (Ok v))
  operated_stands None right v is = cc
  operated_stands (Some x) None v is = one_known token (integer_in x.value) v is
  operated_stands (Some x) (Some y) v is =
      let given = operated_at x.value y.value v is in (x, y, refl, refl, given.0, given.1, given.2)

  pub found_known : (left right : Option (Dynamic H)) (v : Dynamic H) →
      assigned_known token (integer_of left) (integer_of right) ≡ Some v → is_some (operated token left right) ≡ true
  found_known None right v is = cc
  found_known (Some x) None v is = one_known token (integer_in x.value) v is
  found_known (Some x) (Some y) v is = ap is_some (operated_at x.value y.value v is).2

  -- nothing is given where an operand does not stand
  pub left_missing : (left right : Option (Dynamic H)) → left ≡ None → false ≡ is_some (operated token left right)
  left_missing None right is = refl
  left_missing (Some x) right is = cc

  pub right_missing : (left right : Option (Dynamic H)) → right ≡ None → false ≡ is_some (operated token left right)
  right_missing None right is = refl
  right_missing (Some x) None is = refl
  right_missing (Some x) (Some y) is = cc

module _ {S H : Type 0} (rules : Rules S H) (t : S) (scope : Scope H) (held : Held H) (call : FnCallExpr) (token : Token)
    (left right : Expr) (pos : Position) (x y : Dynamic H) (k : List (Frame H)) (fast : rules.setting.offer.fast_operators ≡ true)
    (is_token : call.op_token ≡ Some token) (args : call.args ≡ left ∷ right ∷ [])
    (left_stands : standing (out-Expr left) (entries_of scope) ≡ Some x) (right_stands : standing (out-Expr right) (entries_of scope) ≡
    Some y)
  where
    -- both operands are charged, and the integer comes back
    pub operates_at_once : (old new : RunState H) → old.num_operations + 2 ≤ limit_under rules →
        new ≡ record old { num_operations = old.num_operations + 2 } → (v : Dynamic H) (z : ℤ) → v ≡ plain (value.Int z) →
        binary_of token x y ≡ Some (Ok v) →
        Leads (machine rules) (cut rules) (at (OpenExpr (layer.Expr::FnCall call pos)) k (state_of t old scope held))
        (at (Back v) k (state_of t new scope held))
    operates_at_once old new room is v z number says =
        let mid = record old { num_operations = old.num_operations + 1 } in
        let sized : applied rules.setting.limits (Ok v) pos ≡ Ok v = rw number (integer_sized H rules.setting.limits z pos) in
        operates rules t scope held call token left right pos x y k fast is_token args left_stands
        right_stands old mid new (omega (arith, room)) refl (omega (arith, room))
        (is ∙ ap (λ (m : ℕ). record old { num_operations = m }) (omega arith))
        (Some (Ok v)) (Ok v) (Ok v) (λ m. sym says) refl (λ m. sym sized)
