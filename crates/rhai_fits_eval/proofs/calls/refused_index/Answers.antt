use Rattle.std.proofs.Common.{Err}
use Rattle.rhai_steps.specs.Sessions.{under}
use Rattle.rhai_steps.specs.States.{holding}
use Rattle.rhai_fits_eval.proofs.Indexes.{refused_again}
use Rattle.rhai_fits_eval.proofs.calls.refused_index.Goals as goal

pub returns-in-Err : goal.returns-in-Err
returns-in-Err g c = let a = c.args in let call = c.get_indexed_mut in
    let does = rw c.in-Err.is at call.ensures.indexes in
    let ends = rw c.in-Err.is at call.follows.holds-at-none in record {
      fits = λ scope this. refused_again (under g.H.Host.name_of a.session.now g.T.NativeTable.natives) a.session.now.limits
          g.H.Host.name_of g.T.NativeTable.state a.how a.use_indexers a.global.now a.table.now a.object.now a.idx.now call.new.global
          call.new.table call.new.idx (Err _) g.met.T.NativeTable.lawful c.requires.object c.requires.sealed does scope
          (holding this) _ ends;
    }
