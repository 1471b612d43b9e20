-- What modules contain: handles of cells, script functions, and the numbers of tables of constants.
use Rattle.std.specs.Prelude.{List, ◌∷◌, ◌++◌}
use Rattle.rhai_values.specs.declared.base.value.FnPtrKind.TheFolds.{fold-Module}
use Rattle.rhai_values.specs.declared.base.value.Module.{Module}
use Rattle.rhai_values.specs.ValueContents.{Reached, Constants, Function, each, maybe, in_kind, in_union}

module _ {H : Type 0} (own : H → List Reached) where
  -- what a module contains: what its constants do, its functions with their environments, and what the modules in it do
  abbrev pub module_contents : Module H → List Reached
  module_contents = fold-Module H (List Reached) (List Reached) (List Reached) (List Reached) (List Reached) (List Reached) (List Reached)
      (List Reached) (in_kind own) (in_union own) (λ d. d.value)
      (λ e. Constants e.constants ∷ (each e.lib ++ each e.imports))
      (λ p. each p.curry ++ p.kind)
      (λ i. i.module)
      (λ m. each m.constants.1 ++ (each m.functions ++ each m.sub_modules.1))
      (λ f. Function f.def ∷ maybe f.environ)
