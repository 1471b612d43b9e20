use Rattle.rhai_state.specs.Scope.{name_of, entries_of}
use Rattle.rhai_state.proofs.Newest.{found_within}
use Rattle.rhai_state.proofs.scope.Scope.place_of.Goals as goal

pub returns-in-None-clause-within : goal.returns-in-None-clause-within
returns-in-None-clause-within g c =
    found_within name_of c.args.name.now (entries_of c.args.self.now) c.search.result c.search.ensures
