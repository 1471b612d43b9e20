use Rattle.rhai_lookups.specs.Fits.{FitsLists}
use Rattle.rhai_lookups.specs.Lists.{first_of}
use Rattle.rhai_lookups.proofs.Stacks.{stack_fits}
use Rattle.rhai_lookups.proofs.caches.Stack.cut.Goals as goal

pub returns : goal.returns
returns g c = λ lists all.
    stack_fits (FitsLists lists) (FitsLists (first_of lists c.args.extent)) c.args.self.now
    (record { top = c.cut.new.self; below = c.cut_all.new.caches }) (c.cut.ensures lists)
    (c.cut_all.ensures lists) all
