-- An assignment that can be done in place.
use Rattle.std.specs.Prelude.{◌≡◌, ◌+◌, ℕ, ℤ, List, Option, Some, None, true, if◌then◌else◌}
use Rattle.rhai_tree.specs.declared.position.Position.{Position}
use Rattle.rhai_tree.specs.declared.token.Token.{Token}
use Rattle.rhai_tree.specs.declared.expr.Expr.TheOpen as layer
use Rattle.rhai_tree.specs.Layers.{ExprLayer}
use Rattle.rhai_values.specs.declared.base.value.Dynamic.{Dynamic}
use Rattle.rhai_values.specs.declared.cells.CellStore.{CellStore}
use Rattle.rhai_values.specs.Cells.{cells_of}
use Rattle.rhai_state.specs.declared.scope.Scope.{Scope}
use Rattle.rhai_state.specs.Scope.{entries_of}
use Rattle.rhai_state.specs.declared.scope.ScopeEntry.{ScopeEntry}
use Rattle.rhai_lookups.specs.declared.run.RunState.{RunState}
use Rattle.rhai_operators.specs.Answers.{Answer, IsAnswer, op_assign_of}
use Rattle.rhai_operators.specs.Direct.{integer_in}
use Rattle.rhai_machine.specs.language.Places.{Target, is_constant, target}
use Rattle.rhai_machine.specs.language.Values.{Cells}
use Rattle.rhai_operands.specs.Standing.{standing}
use Rattle.rhai_fast_assign.specs.declared.in_place.Ready as code
use Rattle.rhai_assign.specs.Targets.{named_target, place_in, standing_at, stands_at}

-- the target of a name is at the place, an operand stands, and the built-in answers for the two
pub record IsReady {H : Type 0} (ready : code.Ready H) (path : List (List ℕ)) (name : List ℕ) (at : Position) (token : Token)
    (form : ExprLayer) (scope : Scope H) (cells : CellStore H) : Type 0 where
  pub finds : named_target (cells_of cells) path name at (entries_of scope)
      ≡ Some (target (place_in ready.place) (standing_at ready.place scope cells))
  pub stands : stands_at ready.place scope cells ≡ true
  pub operand : Dynamic H
  pub given : standing form (entries_of scope) ≡ Some operand
  pub answers : IsAnswer (Some ready.outcome) (op_assign_of token (standing_at ready.place scope cells) operand)

module _ {H : Type 0} where
  -- the integer of a value that may be assigned to
  abbrev pub writable_in : Dynamic H → Option ℤ
  writable_in v = if is_constant v.mode then None else integer_in v.value

  -- what an operator before an `=` gives for a target that there is and an operand that stands, None too where it has no built-in
  abbrev pub assigned_by : Option Token → Option (Target H) → Option (Dynamic H) → Answer H
  assigned_by (Some token) (Some target) (Some y) = op_assign_of token target.value y
  assigned_by _ _ _ = None

  -- what the built-in gives for an assignment to a variable that an entry has, of an operand that stands
  abbrev pub assigned : Option Token → (lhs rhs : ExprLayer) → List (ScopeEntry H) → Cells H → Answer H
  assigned op (layer.Variable offset name namespace pos) rhs entries cells =
      assigned_by op (named_target cells namespace.path name pos entries) (standing rhs entries)
  assigned op lhs rhs entries cells = None

  -- a state after so many charges more, at a level
  abbrev pub charged_at : (more level : ℕ) → RunState H → RunState H
  charged_at more level global = record global { num_operations = global.num_operations + more; scope_level = level }
