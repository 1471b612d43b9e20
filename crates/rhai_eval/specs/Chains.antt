-- A whole chain, what it is assigned, and what an assignment without an operator leaves.
use Rattle.std.specs.Borrow.{Bor}
use Rattle.std.specs.Prelude.{⊤, ℕ, Bool, true, false, List, [], Option, Some, None, option_map, unwrap_or}
use Rattle.rhai_tree.specs.declared.expr.Expr.{Expr, out-Expr}
use Rattle.rhai_tree.specs.declared.expr.Expr.TheOpen as layer
use Rattle.rhai_tree.specs.declared.expr.OpAssignment.{OpAssignment}
use Rattle.rhai_tree.specs.Layers.{ExprLayer}
use Rattle.rhai_tree.specs.Frame.{resolves_expr, target_resolves, tests_of}
use Rattle.rhai_values.specs.declared.base.value.AccessMode.TheVariants.{ReadWrite}
use Rattle.rhai_values.specs.declared.base.value.Dynamic.{Dynamic}
use Rattle.rhai_values.specs.Cells.{IsNoHandle}
use Rattle.rhai_values.specs.Modes.{with_mode}
use Rattle.rhai_machine.specs.machine.Point.{Reaches}
use Rattle.rhai_machine.specs.language.Setting.{Rules, cut}
use Rattle.rhai_machine.specs.language.State.{State}
use Rattle.rhai_machine.specs.language.Frames.{Chain, ChainRoot, Control, NewValue, OpenChain, chain_on}
use Rattle.rhai_machine.specs.language.Language.{machine}
use Rattle.rhai_machine.specs.language.Links.{first_in}
use Rattle.rhai_machine.specs.language.Runs.{at}
use Rattle.rhai_steps.specs.Agreement.{Test}
use Rattle.rhai_laws.specs.Selectors.{Selector}
use Rattle.rhai_laws.specs.Assigned.{AssignedFrom, AssignsFrom}
use Rattle.rhai_eval.specs.declared.eval.chaining.ChainType.{ChainType}
use Rattle.rhai_eval.specs.declared.eval.chaining.ChainType.TheVariants.{Indexing, Dotting}

-- an index goes on by its index, and anything else by a dot
abbrev pub chain_type : ExprLayer → ChainType
chain_type (layer.Index lhs rhs options pos) = Indexing
chain_type _ = Dotting

-- A whole chain is a part of a checked tree, above some names: an expression, or where it is assigned to the left side of an assignment.
abbrev pub chain_resolves : (assigned : Bool) → Expr → Test
chain_resolves true e frame = target_resolves (tests_of e) frame
chain_resolves false e frame = resolves_expr e frame

-- the root of a whole chain is what its first operator works on
abbrev pub root_of : Expr → Expr
root_of e = unwrap_or (first_in (out-Expr e)) e

module _ {H : Type 0} where
  -- what a chain is assigned: the value, and how
  abbrev pub assigned_by : Dynamic H × Bor OpAssignment → NewValue H
  assigned_by given = record { op = given.1.now; value = given.0 }

  -- what a chain is assigned, if it is
  abbrev pub assigned_in : Option (Dynamic H × Bor OpAssignment) → Option (NewValue H)
  assigned_in given = option_map assigned_by given

  -- a value to assign is no handle of a cell
  abbrev pub AssignsNoHandle : Option (Dynamic H × Bor OpAssignment) → Type 0
  AssignsNoHandle None = ⊤
  AssignsNoHandle (Some given) = IsNoHandle given.0.value

  -- a whole chain over its root
  abbrev pub chain_of : Expr → Option (NewValue H) → Chain H
  chain_of e new = chain_on (root_of e) (out-Expr e) new

  -- from where it is entered
  abbrev pub whole_chain : Expr → Option (NewValue H) → Control H
  whole_chain e new = OpenChain (chain_of e new)

  -- and with the values that its links asked for, of which nothing is done yet
  abbrev pub chain_with : Expr → NewValue H → (args : List (Dynamic H)) → Chain H
  chain_with e new args = record (chain_of e (Some new)) { args = args }

module _ {S H : Type 0} (rules : Rules S H) where
  -- A chain was assigned to, and came to a value. On its way there the values that its links ask for were all there, and its root came
  -- next. Where the assignment has no operator, and the links are indexes and properties that lead from the root, a variable or `this`,
  -- down a path through arrays and maps, nothing there being shared: then the path reads at the end as the value assigned, read-write;
  -- whatever parts from the path, and each other variable, reads as it did just before; and but for the count nothing else has changed.
  abbrev pub AssignsAlong : Expr → NewValue H → (old end : State S H) → Type 0
  AssignsAlong e new old end = (args : List (Dynamic H)) × (before : State S H) × (
      Reaches (machine rules) (cut rules) (at (whole_chain e (Some new)) [] old) (at (ChainRoot (chain_with e new args)) [] before)
      × ((path : List Selector) → AssignsFrom (out-Expr (root_of e)) (chain_with e new args) new path before →
      AssignedFrom (out-Expr (root_of e)) path (with_mode ReadWrite new.value) before end))
