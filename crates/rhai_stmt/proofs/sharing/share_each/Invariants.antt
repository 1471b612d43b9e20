use Rattle.std.proofs.Common.{◌≡◌, drop}
use Rattle.rhai_state.specs.Scope.{names_in}
use Rattle.rhai_machine.specs.language.Frames.{Share}
use Rattle.rhai_machine.specs.language.Runs.{Steps}
use Rattle.rhai_machine.specs.language.State.{Held}
use Rattle.rhai_steps.specs.Agreement.{KeepsSight}
use Rattle.rhai_steps.specs.Sessions.{under}
use Rattle.rhai_steps.specs.States.{state_of}
use Rattle.rhai_stmt.proofs.sharing.share_each.Given as goal

-- the variables before one are shared
abbrev pub invariant-each_variable : goal.invariant-each_variable
invariant-each_variable g l = record {
  rest : l.global ≡ record l.fn.global { cells = l.global.cells };
  sight : KeepsSight l.fn.global l.global;
  names : names_in l.scope ≡ names_in l.fn.scope;
  steps : (held : Held g.row.H.Denot) →
      Steps (under g.H.Host.name_of l.session g.T.NativeTable.natives) (Share l.variables)
      (state_of (g.T.NativeTable.state l.table) l.fn.global l.fn.scope held) (Share (drop l.variable-index l.variables))
      (state_of (g.T.NativeTable.state l.table) l.global l.scope held);
}
