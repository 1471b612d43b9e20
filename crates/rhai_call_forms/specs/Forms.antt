-- What a call is evaluated as.
use Rattle.std.specs.Prelude.{◌≡◌, Bool, true, false, List, [], ◌∷◌, Option, Some}
use Rattle.rhai_tree.specs.declared.expr.Expr.{Expr}
use Rattle.rhai_tree.specs.declared.token.Token.{Token}
use Rattle.rhai_call_forms.specs.declared.forms.CallForm.{CallForm}
use Rattle.rhai_call_forms.specs.declared.forms.CallForm.TheVariants as form

-- an operator's call on one operand or two, under fast operators
abbrev pub is_operator_form : (fast : Bool) → Option Token → (args : List Expr) → Bool
is_operator_form true (Some token) (operand ∷ []) = true
is_operator_form true (Some token) (left ∷ right ∷ []) = true
is_operator_form _ _ _ = false

-- the form is that of a call
abbrev pub IsForm : CallForm → (fast : Bool) → Option Token → (args : List Expr) → Type 0
IsForm (form.Unary token operand) fast op args = (fast ≡ true) × (op ≡ Some token) × (args ≡ operand.now ∷ [])
IsForm (form.Binary token left right) fast op args = (fast ≡ true) × (op ≡ Some token) × (args ≡ left.now ∷ right.now ∷ [])
IsForm form.Function fast op args = is_operator_form fast op args ≡ false
