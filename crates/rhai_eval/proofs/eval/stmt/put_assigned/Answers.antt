use Rattle.rhai_eval.proofs.Assigned.{put_comes}
use Rattle.rhai_eval.proofs.eval.stmt.put_assigned.Goals as goal

pub returns-in-Ok-clause-comes : goal.returns-in-Ok-clause-comes
returns-in-Ok-clause-comes g c =
    rw c.in-Ok.is (put_comes g.H.Host.name_of c.args.target.now.part c.args.target.now.at.now c.propagate_changed_value.new.self.at.now
    c.args.pos c.propagate_changed_value.result c.propagate_changed_value.ensures.ok c.propagate_changed_value.ensures.err
    c.propagate_changed_value.ensures.refused)
