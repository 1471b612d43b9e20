use Rattle.std.proofs.Common.{refl}
use Rattle.rhai_state.proofs.state.GlobalRuntimeState.new.Goals as goal

pub returns : goal.returns
returns g c = record {
  lib = c.new-2.ensures;
  imports = c.new-3.ensures;
  constants = refl;
  level = refl;
  scope_level = refl;
  num_operations = refl;
  num_modules_loaded = refl;
  source = refl;
  always_search_scope = refl;
  cells = c.new-4.ensures;
  constant_tables = rw (c.new-constant_tables.ensures, c.new.ensures) at c.in_ok-push.ensures.ok;
}
