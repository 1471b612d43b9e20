-- An assignment, as a statement.
use Rattle.rhai_tree.specs.declared.expr.Expr.TheOpen as layer
use Rattle.rhai_tree.specs.Layers.{StmtLayer}
use Rattle.rhai_fast_assign.specs.declared.in_place.Assignment.{Assignment}

-- the statement of an assignment
abbrev pub statement_of : Assignment → StmtLayer
statement_of assignment = layer.Assignment assignment.op.now assignment.left.now assignment.right.now
