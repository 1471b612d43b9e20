-- When a constant of the tree is a value: the same type and the same content, whatever the access modes.
use Rattle.std.specs.Prelude.{Bool, true, false, ◌&&◌, ◌==◌, List, [], ◌∷◌, map}
use Rattle.std.specs.Str.{bytes_eq}
use Rattle.std.specs.Ordering.{int_eq}
use Rattle.std.specs.Bool.{beq}
use Rattle.rhai_tree.specs.declared.literal.Literal.{Literal}
use Rattle.rhai_tree.specs.declared.literal.Literal.TheOpen as literal
use Rattle.rhai_tree.specs.declared.literal.Literal.TheFolds.{fold-Literal}
use Rattle.rhai_values.specs.declared.base.value.Dynamic.{Dynamic}
use Rattle.rhai_values.specs.declared.base.value.FnPtrKind.TheOpen as layer
use Rattle.rhai_values.specs.Layers.{UnionLayer, layer_of}

-- there are as many values as tests, and each test is passed by the value at its index
abbrev pub each : {A : Type 0} → List (A → Bool) → List A → Bool
each [] [] = true
each (test ∷ tests) (v ∷ values) = test v && each tests values
each _ _ = false

module _ {H : Type 0} where
  -- a constant and a value are of one kind and equal, where each item of the constant is a test for that of the value
  abbrev pub same_kind : literal.Literal-F (Dynamic H → Bool) Unit → UnionLayer H → Bool
  same_kind literal.Unit layer.Unit = true
  same_kind (literal.Bool x) (layer.Bool y) = beq x y
  same_kind (literal.Int x) (layer.Int y) = int_eq x y
  same_kind (literal.Char x) (layer.Char y) = x == y
  same_kind (literal.Str x) (layer.Str y) = bytes_eq x y
  same_kind (literal.ExclusiveRange a b) (layer.ExclusiveRange c d) = int_eq a c && int_eq b d
  same_kind (literal.InclusiveRange a b) (layer.InclusiveRange c d) = int_eq a c && int_eq b d
  same_kind (literal.Array tests) (layer.Array values) = each tests values
  same_kind (literal.Blob x) (layer.Blob y) = bytes_eq x y
  same_kind (literal.Map tests) (layer.Map values) = each (map bytes_eq tests.0) values.0 && each tests.1 values.1
  same_kind _ _ = false

  -- a constant is a value; a pointer is none
  abbrev pub equals : Literal → Dynamic H → Bool
  equals = fold-Literal (Dynamic H → Bool) Unit (λ l v. same_kind l (layer_of v)) (λ _. tt)
