use Rattle.std.proofs.Common.{sym, ◌∙◌}
use Rattle.rhai_lookups.specs.Levels.{CachesFit}
use Rattle.rhai_lookups.proofs.Stacks.{current_is_fit, current_is_right}
use Rattle.rhai_functions.specs.Functions.{in_imports, in_modules, in_named}
use Rattle.rhai_functions.specs.Keys.{function_key_of}
use Rattle.rhai_lookups.proofs.Choices.{found_before, found_behind}
use Rattle.rhai_lookups.proofs.lists.has_function.Goals as goal

pub returns-then-is_found-clause-found : goal.returns-then-is_found-clause-found
unfolding CachesFit
returns-then-is_found-clause-found g c =
    sym (found_before (in_modules (function_key_of c.args.key.now) c.args.lib.now)
    (in_modules (function_key_of c.args.key.now) c.args.offered.now.global_modules.now)
    (in_imports (function_key_of c.args.key.now) c.args.imports.now)
    (in_named (function_key_of c.args.key.now) c.args.offered.now.global_sub_modules.now.1)
    (sym (c.is_there-is_found.ensures.found (current_is_fit (c.args.lib.now, c.args.imports.now) c.settle.new.self.levels
    (c.settle.ensures.current (c.args.lib.now, c.args.imports.now) c.count-extent.ensures c.requires.fit))) ∙ c.if-is_found.true))

pub returns-then-is_found-clause-fit : goal.returns-then-is_found-clause-fit
unfolding CachesFit
returns-then-is_found-clause-fit g c =
    current_is_fit (c.args.lib.now, c.args.imports.now) c.is_there-is_found.new.caches.levels
    (c.is_there-is_found.ensures.current (c.settle.ensures.current (c.args.lib.now, c.args.imports.now)
    c.count-extent.ensures c.requires.fit))

pub returns-then-is_found-clause-right : goal.returns-then-is_found-clause-right
unfolding CachesFit
returns-then-is_found-clause-right g c =
    current_is_right (c.args.lib.now, c.args.imports.now) c.is_there-is_found.new.caches.levels
    (c.is_there-is_found.ensures.current (c.settle.ensures.current (c.args.lib.now, c.args.imports.now)
    c.count-extent.ensures c.requires.fit))

pub returns-clause-found : goal.returns-clause-found
unfolding CachesFit
returns-clause-found g c =
    c.is_offered.ensures ∙ sym (found_behind (in_modules (function_key_of c.args.key.now) c.args.lib.now)
    (in_modules (function_key_of c.args.key.now) c.args.offered.now.global_modules.now)
    (in_imports (function_key_of c.args.key.now) c.args.imports.now)
    (in_named (function_key_of c.args.key.now) c.args.offered.now.global_sub_modules.now.1)
    (sym (c.is_there-is_found.ensures.found (current_is_fit (c.args.lib.now, c.args.imports.now) c.settle.new.self.levels
    (c.settle.ensures.current (c.args.lib.now, c.args.imports.now) c.count-extent.ensures c.requires.fit))) ∙ c.if-is_found.false))

pub returns-clause-fit : goal.returns-clause-fit
unfolding CachesFit
returns-clause-fit g c =
    current_is_fit (c.args.lib.now, c.args.imports.now) c.is_there-is_found.new.caches.levels
    (c.is_there-is_found.ensures.current (c.settle.ensures.current (c.args.lib.now, c.args.imports.now)
    c.count-extent.ensures c.requires.fit))

pub returns-clause-right : goal.returns-clause-right
unfolding CachesFit
returns-clause-right g c =
    current_is_right (c.args.lib.now, c.args.imports.now) c.is_there-is_found.new.caches.levels
    (c.is_there-is_found.ensures.current (c.settle.ensures.current (c.args.lib.now, c.args.imports.now)
    c.count-extent.ensures c.requires.fit))
