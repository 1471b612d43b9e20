-- The value of a literal contains no cell.
use Rattle.std.proofs.Common.{ℕ, List, [], ◌∷◌, map, subst}
use Rattle.std.specs.Prelude.{⊤, Option, Some, None}
use Rattle.rhai_tree.specs.declared.expr.Expr.TheOpen as expr
use Rattle.rhai_tree.specs.declared.literal.Literal.{Literal, roll-Literal}
use Rattle.rhai_tree.specs.declared.literal.Literal.TheFolds.{fold-roll-Literal, fold-roll-LiteralFnPtr, ind-Literal, map-Literal}
use Rattle.rhai_tree.specs.declared.literal.Literal.TheFolds.{map-LiteralFnPtr}
use Rattle.rhai_tree.specs.declared.literal.Literal.TheOpen as literal
use Rattle.rhai_tree.specs.declared.literal.LiteralFnPtr.{LiteralFnPtr, roll-LiteralFnPtr}
use Rattle.rhai_tree.specs.declared.literal.LiteralFnPtrKind.{LiteralFnPtrKind}
use Rattle.rhai_tree.specs.declared.literal.LiteralFnPtrKind.TheVariants as constant
use Rattle.rhai_tree.specs.Layers.{ExprLayer}
use Rattle.rhai_values.specs.declared.base.value.Dynamic.{Dynamic}
use Rattle.rhai_values.specs.declared.base.value.FnPtr.{FnPtr}
use Rattle.rhai_values.specs.declared.base.value.FnPtrKind.TheVariants as kind
use Rattle.rhai_values.specs.declared.base.value.FnPtrKind.TheVariants.{outs-Name, outs-Arity, outs-Native}
use Rattle.rhai_values.specs.declared.base.value.FnPtrKind.TheFolds.{fold_out-FnPtrKind}
use Rattle.rhai_values.specs.Literals.{leads_to, literal_step, value_of_literal, pointer_of_literal}
use Rattle.rhai_values.specs.ValueContents.{Reached}
use Rattle.rhai_machine.specs.language.Expressions.{literal_of}
use Rattle.rhai_fits.proofs.Values.{Fit, Fits, FitPointer, FitKind, fit_array, fit_map, fit_pointer, fit_unit, fit_bool, fit_int, fit_char}
use Rattle.rhai_fits.proofs.Values.{fit_text, fit_range, fit_inclusive, fit_blob, fit_rolled}

module _ {H : Type 0} (own : H → List Reached) (P : Reached → Type 0) where
  -- what leads to no function of a script contains nothing
  pub kind_name : FitKind own P kind.Name
  unfolding FitKind
  kind_name = rw (fold_out-FnPtrKind, outs-Name) tt

  pub kind_arity : (n : ℕ) → FitKind own P (kind.Arity n)
  unfolding FitKind
  kind_arity n = rw (fold_out-FnPtrKind, outs-Arity) tt

  kind_leads : (k : LiteralFnPtrKind) → FitKind own P (leads_to k)
  unfolding FitKind
  kind_leads constant.Name = rw (fold_out-FnPtrKind, outs-Name) tt
  kind_leads (constant.Arity n) = rw (fold_out-FnPtrKind, outs-Arity) tt
  kind_leads (constant.Native id) = rw (fold_out-FnPtrKind, outs-Native) tt

  abbrev Plain : Literal → Type 0
  Plain l = Fit own P (value_of_literal l)

  abbrev PlainPointer : LiteralFnPtr → Type 0
  PlainPointer p = FitPointer own P (pointer_of_literal p)

  abbrev L : Type 0
  L = (l : Literal) × Plain l

  abbrev F : Type 0
  F = (p : LiteralFnPtr) × PlainPointer p

  items_fit : (es : List L) → Fits own P (map value_of_literal (map (λ e. e.0) es))
  items_fit [] = tt
  items_fit (e ∷ es) = (e.1, items_fit es)

  abbrev bare : literal.Literal-F L F → literal.Literal-F Literal LiteralFnPtr
  bare = map-Literal L F Literal LiteralFnPtr (λ e. e.0) (λ e. e.0)

  abbrev valued : literal.Literal-F Literal LiteralFnPtr → literal.Literal-F (Dynamic H) (FnPtr H)
  valued = map-Literal Literal LiteralFnPtr (Dynamic H) (FnPtr H) value_of_literal pointer_of_literal

  step_fits : (y : literal.Literal-F L F) → Fit own P (literal_step (valued (bare y)))
  step_fits literal.Unit = fit_unit own P
  step_fits (literal.Bool b) = fit_bool own P b
  step_fits (literal.Int n) = fit_int own P n
  step_fits (literal.Char c) = fit_char own P c
  step_fits (literal.Str text) = fit_text own P text
  step_fits (literal.ExclusiveRange a b) = fit_range own P a b
  step_fits (literal.InclusiveRange a b) = fit_inclusive own P a b
  step_fits (literal.Array es) = fit_array own P _ (items_fit es)
  step_fits (literal.Blob bytes) = fit_blob own P bytes
  step_fits (literal.Map es) = fit_map own P _ (items_fit es.1)
  step_fits (literal.FnPtr e) = fit_pointer own P _ e.1

  plain_step : (y : literal.Literal-F L F) → Plain (roll-Literal (bare y))
  plain_step y = rw fold-roll-Literal (step_fits y)

  pointer_fits : (y : literal.LiteralFnPtr-F L F) → PlainPointer (roll-LiteralFnPtr (map-LiteralFnPtr L F Literal LiteralFnPtr (λ e. e.0)
      (λ e. e.0) y))
  pointer_fits y = rw fold-roll-LiteralFnPtr (fit_rolled own P _ _ _ (items_fit y.curry) (kind_leads y.kind))

  pub fit_literal : (l : Literal) → Fit own P (value_of_literal l)
  fit_literal = ind-Literal Plain PlainPointer (λ x y is. subst (λ z. Plain (roll-Literal z)) is (plain_step y))
      (λ x y is. subst (λ z. PlainPointer (roll-LiteralFnPtr z)) is (pointer_fits y))

  -- an expression that is a literal
  abbrev pub FitsMaybe : Option (Dynamic H) → Type 0
  FitsMaybe None = ⊤
  FitsMaybe (Some v) = Fit own P v

  pub fit_literal_of : (form : ExprLayer) → FitsMaybe (literal_of form)
  fit_literal_of (expr.DynamicConstant literal pos) = fit_literal literal
  fit_literal_of (expr.BoolConstant b pos) = fit_bool own P b
  fit_literal_of (expr.IntegerConstant n pos) = fit_int own P n
  fit_literal_of (expr.CharConstant letter pos) = fit_char own P letter
  fit_literal_of (expr.StringConstant text pos) = fit_text own P text
  fit_literal_of (expr.Unit pos) = fit_unit own P
  fit_literal_of _ = tt
