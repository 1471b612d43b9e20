-- Expressions that are read as they stand: what each gives, and whether it may ask for memory.
use Rattle.std.specs.Prelude.{Bool, true, false, Option, Some, None, Result, Ok, Err}
use Rattle.rhai_tree.specs.declared.expr.Expr.TheOpen as layer
use Rattle.rhai_tree.specs.Layers.{ExprLayer}
use Rattle.rhai_tree.specs.Position.{none}
use Rattle.rhai_values.specs.declared.base.value.Dynamic.{Dynamic}
use Rattle.rhai_errors.specs.declared.error.EvalAltResult.{EvalAltResult}
use Rattle.rhai_errors.specs.declared.error.EvalAltResult.TheVariants as error
use Rattle.rhai_machine.specs.language.Expressions.{literal_of}
use Rattle.rhai_machine.specs.language.Names.{bound_this, read}
use Rattle.rhai_machine.specs.language.Setting.{Globals}
use Rattle.rhai_machine.specs.language.State.{Local}
use Rattle.rhai_machine.specs.language.Values.{copied}
use Rattle.rhai_machine.specs.language.Variables.{variable_named}

module _ {H : Type 0} where
  -- the value of a literal; an expression that is none counts as one that finds no memory
  abbrev pub literal_read : Option (Dynamic H) → Result (Dynamic H) (EvalAltResult H)
  literal_read (Some v) = Ok v
  literal_read None = Err (error.ErrorOutOfMemory none)

  -- what an expression reads as: a variable, `this` or a literal; any other form counts as one that finds no memory
  abbrev pub read_as : Globals H → Local H → ExprLayer → Result (Dynamic H) (EvalAltResult H)
  read_as globals l (layer.Variable offset name namespace pos) = read globals l.around l.scope (variable_named name namespace pos)
  read_as globals l (layer.ThisPtr pos) = copied (bound_this pos l.this)
  read_as globals l form = literal_read (literal_of form)

-- whether a form may ask for memory: first where its value is wanted, then where it is a condition
abbrev pub asks_read : ExprLayer → Bool × Bool
asks_read (layer.BoolConstant value pos) = (false, false)
asks_read (layer.IntegerConstant value pos) = (false, true)
asks_read (layer.Unit pos) = (false, true)
asks_read _ = (true, true)
