use Rattle.std.proofs.Common.{◌≡◌, Some, sym}
use Rattle.rhai_tree.specs.Lookup.{value_of}
use Rattle.rhai_stmt.proofs.importing.import_module.Goals as goal

pub returns-in-Ok-push_module-clause-imports : goal.returns-in-Ok-push_module-clause-imports
returns-in-Ok-push_module-clause-imports g c scope held done =
    let there : value_of c.in-Ok.name c.args.modules.now.modules ≡ Some c.in-Some.found.now =
    sym (rw (c.as_str.ensures, c.get.ensures) at c.in-Some.ensures) in
    rw (← c.take_value-value.ensures.taken, ← c.position.ensures, ← (c.in-Ok.ensures tt), there)
    (c.in-Ok-push_module.ensures.imported scope held)
