-- When two constants of the tree are one value: the same type and the same content.
use Rattle.std.specs.Prelude.{Bool, true, false, ◌&&◌, ◌==◌, List, [], ◌∷◌, map}
use Rattle.std.specs.Str.{bytes_eq}
use Rattle.std.specs.Ordering.{int_eq}
use Rattle.std.specs.Bool.{beq}
use Rattle.rhai_tree.specs.declared.literal.Literal.{Literal, out-Literal}
use Rattle.rhai_tree.specs.declared.literal.Literal.TheOpen as literal
use Rattle.rhai_tree.specs.declared.literal.Literal.TheFolds.{fold-Literal}
use Rattle.rhai_tree.specs.declared.literal.LiteralFnPtr.{LiteralFnPtr}

-- each value passes the test at its index, and there are as many tests
abbrev pub each : {A : Type 0} → List (A → Bool) → List A → Bool
each [] [] = true
each (test ∷ tests) (v ∷ values) = test v && each tests values
each _ _ = false

-- one level of a constant, with tests for what it contains, and one of another: one kind, whose content passes the tests
abbrev pub same_kind : literal.Literal-F (Literal → Bool) Unit → literal.Literal-F Literal LiteralFnPtr → Bool
same_kind literal.Unit literal.Unit = true
same_kind (literal.Bool x) (literal.Bool y) = beq x y
same_kind (literal.Int x) (literal.Int y) = int_eq x y
same_kind (literal.Char x) (literal.Char y) = x == y
same_kind (literal.Str x) (literal.Str y) = bytes_eq x y
same_kind (literal.ExclusiveRange a b) (literal.ExclusiveRange c d) = int_eq a c && int_eq b d
same_kind (literal.InclusiveRange a b) (literal.InclusiveRange c d) = int_eq a c && int_eq b d
same_kind (literal.Array tests) (literal.Array values) = each tests values
same_kind (literal.Blob x) (literal.Blob y) = bytes_eq x y
same_kind (literal.Map tests) (literal.Map values) = each (map bytes_eq tests.0) values.0 && each tests.1 values.1
same_kind _ _ = false

-- two constants are one value; a pointer equals no constant
abbrev pub same_literal : Literal → Literal → Bool
same_literal = fold-Literal (Literal → Bool) Unit (λ l other. same_kind l (out-Literal other)) (λ _. tt)
