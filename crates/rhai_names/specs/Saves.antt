-- What a restoring list keeps in code, as the machine's frame keeps it.
use Rattle.std.specs.Prelude.{length, take}
use Rattle.rhai_state.specs.declared.scope.Scope.{Scope}
use Rattle.rhai_lookups.specs.declared.run.RunState.{RunState}
use Rattle.rhai_state.specs.Scope.{entries_of}
use Rattle.rhai_machine.specs.language.Frames as machine
use Rattle.rhai_names.specs.declared.variables.Saved.{Saved}

-- what a restoring list keeps, as the machine's frame keeps it
abbrev pub saved_in : Saved → machine.Saved
saved_in saved = record { scope_length = saved.scope_length; imports_length = saved.imports_length; scope_level = saved.scope_level }

-- what is kept of a state and a scope
abbrev pub saved_now : {H : Type 0} → RunState H → Scope H → machine.Saved
saved_now global scope = record {
  scope_length = length (entries_of scope);
  imports_length = length global.lists.1;
  scope_level = global.scope_level;
}

-- the state after a restoring list: its imports, its level and whether variables are searched for are as they were kept
abbrev pub left_global : {H : Type 0} → Saved → RunState H → RunState H
left_global saved global = record global {
  lists = (global.lists.0, take saved.imports_length global.lists.1);
  scope_level = saved.scope_level;
  always_search_scope = saved.always_search_scope;
}
