-- What a constant of the tree is as a value: the same content, read-write throughout.
use Rattle.rhai_tree.specs.declared.literal.Literal.{Literal}
use Rattle.rhai_tree.specs.declared.literal.Literal.TheOpen as literal
use Rattle.rhai_tree.specs.declared.literal.Literal.TheFolds.{fold-Literal}
use Rattle.rhai_tree.specs.declared.literal.LiteralFnPtr.{LiteralFnPtr}
use Rattle.rhai_tree.specs.declared.literal.Literal.TheFolds.{fold-LiteralFnPtr}
use Rattle.rhai_tree.specs.declared.literal.LiteralFnPtrKind.{LiteralFnPtrKind}
use Rattle.rhai_tree.specs.declared.literal.LiteralFnPtrKind.TheVariants as constant
use Rattle.rhai_values.specs.declared.base.value.Dynamic.{Dynamic}
use Rattle.rhai_values.specs.declared.base.value.FnPtr.{FnPtr, roll-FnPtr}
use Rattle.rhai_values.specs.declared.base.value.FnPtrKind.{FnPtrKind}
use Rattle.rhai_values.specs.declared.base.value.FnPtrKind.TheVariants as kind
use Rattle.rhai_values.specs.declared.base.value.Union.TheVariants as value
use Rattle.rhai_values.specs.Copy.{plain}

module _ {H : Type 0} where
  -- what a constant pointer leads to
  abbrev pub leads_to : LiteralFnPtrKind → FnPtrKind H
  leads_to constant.Name = kind.Name
  leads_to (constant.Arity count) = kind.Arity count
  leads_to (constant.Native id) = kind.Native id

  -- a constant whose parts are values
  abbrev pub literal_step : literal.Literal-F (Dynamic H) (FnPtr H) → Dynamic H
  literal_step literal.Unit = plain value.Unit
  literal_step (literal.Bool truth) = plain (value.Bool truth)
  literal_step (literal.Int number) = plain (value.Int number)
  literal_step (literal.Char letter) = plain (value.Char letter)
  literal_step (literal.Str text) = plain (value.Str text)
  literal_step (literal.ExclusiveRange start last) = plain (value.ExclusiveRange start last)
  literal_step (literal.InclusiveRange start last) = plain (value.InclusiveRange start last)
  literal_step (literal.Array items) = plain (value.Array items)
  literal_step (literal.Blob bytes) = plain (value.Blob bytes)
  literal_step (literal.Map entries) = plain (value.Map {X1 = H} entries)
  literal_step (literal.FnPtr pointer) = plain (value.FnPtr pointer)

  -- a constant pointer whose curried constants are values
  abbrev pub pointer_step : literal.LiteralFnPtr-F (Dynamic H) (FnPtr H) → FnPtr H
  pointer_step pointer = roll-FnPtr H (record { name = pointer.name; curry = pointer.curry; kind = leads_to pointer.kind })

  -- the value of a constant
  abbrev pub value_of_literal : Literal → Dynamic H
  value_of_literal = fold-Literal (Dynamic H) (FnPtr H) literal_step pointer_step

  -- the pointer of a constant pointer
  abbrev pub pointer_of_literal : LiteralFnPtr → FnPtr H
  pointer_of_literal = fold-LiteralFnPtr (Dynamic H) (FnPtr H) literal_step pointer_step
