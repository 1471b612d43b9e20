-- Where a call goes, by what it is evaluated as.
use Rattle.std.proofs.Common.{◌≡◌, Bool, true, false, List, [], ◌∷◌, Option, Some, None, refl}
use Rattle.std.proofs.lemmas.Bool.{true≢false}
use Rattle.rhai_tree.specs.declared.expr.Expr.{Expr}
use Rattle.rhai_tree.specs.declared.expr.FnCallExpr.{FnCallExpr}
use Rattle.rhai_tree.specs.declared.position.Position.{Position}
use Rattle.rhai_tree.specs.declared.token.Token.{Token}
use Rattle.rhai_tree.specs.Positions.{position_of}
use Rattle.rhai_tree.specs.Forms.{is_unqualified}
use Rattle.rhai_machine.specs.machine.Machine.{Go}
use Rattle.rhai_machine.specs.language.Setting.{Setting}
use Rattle.rhai_machine.specs.language.State.{Local}
use Rattle.rhai_machine.specs.language.Calls.{operation_at}
use Rattle.rhai_machine.specs.language.Frames.{Frame, core, Argument, UnaryOperand, LeftOperand}
use Rattle.rhai_machine.specs.language.Arguments.{function_move}
use Rattle.rhai_machine.specs.language.Expressions.{call_move}
use Rattle.rhai_call_forms.specs.Forms.{is_operator_form}

module _ {H : Type 0} (s : Setting H) where
  -- an operator on one operand begins with it
  pub unary_goes : (fast : Bool) (op : Option Token) (call : FnCallExpr) (args : List Expr) (token : Token) (operand : Expr)
      (pos : Position) (k : List (Frame H)) (l : Local H) → fast ≡ true → op ≡ Some token → args ≡ operand ∷ [] →
      call_move s fast op call args pos k l
      ≡ Go (core (Argument operand) (UnaryOperand (operation_at call.name token pos) (position_of operand) ∷ k) l)
  unary_goes fast op call args token operand pos k l is_fast is one = rw (is_fast, is, one) refl

  -- one on two operands begins with the left
  pub binary_goes : (fast : Bool) (op : Option Token) (call : FnCallExpr) (args : List Expr) (token : Token) (left right : Expr)
      (pos : Position) (k : List (Frame H)) (l : Local H) → fast ≡ true → op ≡ Some token → args ≡ left ∷ right ∷ [] →
      call_move s fast op call args pos k l
      ≡ Go (core (Argument left) (LeftOperand (operation_at call.name token pos) (position_of left) right ∷ k) l)
  binary_goes fast op call args token left right pos k l is_fast is two = rw (is_fast, is, two) refl

  -- any other call is a function's or a keyword's, or stands behind a path
  pub function_goes : (fast : Bool) (op : Option Token) (call : FnCallExpr) (args : List Expr) (pos : Position) (k : List (Frame H))
      (l : Local H) → is_operator_form fast op args ≡ false →
      call_move s fast op call args pos k l ≡ function_move s (is_unqualified call.namespace.path) call pos k l
  function_goes false op call args pos k l other = refl
  function_goes true None call args pos k l other = refl
  function_goes true (Some token) call [] pos k l other = refl
  function_goes true (Some token) call (x ∷ []) pos k l other = absurd (true≢false other)
  function_goes true (Some token) call (x ∷ y ∷ []) pos k l other = absurd (true≢false other)
  function_goes true (Some token) call (x ∷ y ∷ z ∷ args) pos k l other = refl
