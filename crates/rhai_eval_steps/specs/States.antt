-- What a run of the code is to the machine: the table and the context as its state.
use Rattle.std.specs.Prelude.{List}
use Rattle.rhai_tree.specs.Names.{Name}
use Rattle.rhai_state.specs.Scope.{names_in}
use Rattle.rhai_machine.specs.language.State.{State}
use Rattle.rhai_steps.specs.States.{holding, state_of}
use Rattle.rhai_context.specs.declared.Context.{Context}

module _ {H : Type 0} where
  -- all that a run changes
  abbrev pub state_in : {S : Type 0} → S → Context H → State S H
  state_in table run = state_of table run.global run.scope (holding run.this)

  -- the names of the variables
  abbrev pub names : Context H → List Name
  names run = names_in run.scope
