-- How a function of a script that is entered is told: what it is entered with, and what its caller has again behind it.
use Rattle.std.specs.Prelude.{ℕ, Bool, true, false, not, ◌&&◌, List, [], ◌∷◌, Option, length}
use Rattle.rhai_tree.specs.declared.function.ScriptFuncDef.{ScriptFuncDef}
use Rattle.rhai_tree.specs.declared.expr.Stmt.{Stmt}
use Rattle.rhai_tree.specs.declared.position.Position.{Position}
use Rattle.rhai_values.specs.declared.base.value.Dynamic.{Dynamic}
use Rattle.rhai_values.specs.declared.base.value.EncapsulatedEnviron.{EncapsulatedEnviron}
use Rattle.rhai_state.specs.declared.limits.Limits.{Limits}
use Rattle.rhai_machine.specs.machine.Machine.{below}
use Rattle.rhai_machine.specs.language.State.{Held, Local, State}
use Rattle.rhai_machine.specs.language.Activations.{Entered, ThisFrom}
use Rattle.rhai_machine.specs.language.Bodies.{this_back, focus_back, statements_of, variables_after, variables_back}
use Rattle.rhai_functions.specs.Entering.{left_of}
use Rattle.rhai_bodies.specs.Opening.{is_deep, is_full}

-- there is a statement
abbrev pub has_statements : List Stmt → Bool
has_statements [] = false
has_statements (stmt ∷ stmts) = true

-- a body is entered where its call is let through, it is not too deep, its parameters have room, and it has statements
abbrev pub is_entered : Limits → (count level variables : ℕ) → ScriptFuncDef → Bool
is_entered limits count level variables def = below limits.max_operations count
    && (not (is_deep limits level) && (not (is_full limits variables (length def.params)) && has_statements (statements_of def.body)))

module _ {H : Type 0} where
  -- what is left of a function's arguments, whose parameters took them where its body was entered
  abbrev pub args_left : (entered : Bool) → (parameters : ℕ) → List (Dynamic H) → List (Dynamic H)
  args_left true count args = left_of count args
  args_left false count args = args

  -- a function that runs at a level, whose list restores or does not
  abbrev pub entered : ScriptFuncDef → Option (EncapsulatedEnviron H) → ThisFrom → (is_fresh restores : Bool) → List (Dynamic H) →
      (level : ℕ) → Position → Entered H
  entered def environ object is_fresh restores args level at = record {
    def = def;
    environ = environ;
    args = args;
    object = object;
    is_fresh = is_fresh;
    restores = restores;
    level = level;
    at = at;
  }

  -- what a caller has in hand again, of the `this` that a function leaves
  abbrev pub this_and_focus_again : ThisFrom → Held H → (left : Option (Dynamic H)) → Held H
  this_and_focus_again object held left = record {
    this = this_back object held.this left;
    focus = focus_back object held.focus left;
  }

  -- what a caller has again of what stands at the end of a body
  abbrev pub caller_again : Entered H → (caller left : Local H) → Local H
  caller_again e caller left = record left {
    scope = variables_back (variables_after e.is_fresh e.restores caller.scope (length e.def.params)) left.scope;
    this = this_back e.object caller.this left.this;
    focus = focus_back e.object caller.focus left.this;
  }

  -- the state behind a call
  abbrev pub behind_call : {S : Type 0} → Entered H → (caller : Local H) → State S H → State S H
  behind_call e caller left = record left { local = caller_again e caller left.local }
