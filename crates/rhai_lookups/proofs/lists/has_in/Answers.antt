use Rattle.std.proofs.Common.{sym, ◌∙◌}
use Rattle.rhai_lookups.proofs.Stacks.{newest_fits}
use Rattle.rhai_functions.specs.Functions.{in_imports, in_modules, in_named}
use Rattle.rhai_functions.specs.Keys.{function_key_of}
use Rattle.rhai_lookups.proofs.Choices.{found_before, found_behind}
use Rattle.rhai_lookups.proofs.lists.has_in.Goals as goal

pub returns-then-is_found-clause-found : goal.returns-then-is_found-clause-found
returns-then-is_found-clause-found g c = λ all.
    sym (found_before (in_modules (function_key_of c.args.key.now) c.args.lib.now)
    (in_modules (function_key_of c.args.key.now) c.args.offered.now.global_modules.now)
    (in_imports (function_key_of c.args.key.now) c.args.imports.now)
    (in_named (function_key_of c.args.key.now) c.args.offered.now.global_sub_modules.now.1)
    (sym (c.is_there-is_found.ensures.found (newest_fits (c.args.lib.now, c.args.imports.now) c.args.caches.now.levels all))
    ∙ c.if-is_found.true))

pub returns-clause-found : goal.returns-clause-found
returns-clause-found g c = λ all.
    c.is_offered.ensures ∙ sym (found_behind (in_modules (function_key_of c.args.key.now) c.args.lib.now)
    (in_modules (function_key_of c.args.key.now) c.args.offered.now.global_modules.now)
    (in_imports (function_key_of c.args.key.now) c.args.imports.now)
    (in_named (function_key_of c.args.key.now) c.args.offered.now.global_sub_modules.now.1)
    (sym (c.is_there-is_found.ensures.found (newest_fits (c.args.lib.now, c.args.imports.now) c.args.caches.now.levels all))
    ∙ c.if-is_found.false))
