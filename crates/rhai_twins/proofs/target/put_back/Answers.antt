use Rattle.rhai_twins.proofs.PutBack.{put_once}
use Rattle.rhai_twins.proofs.target.put_back.Goals as goal

pub returns-clause-answer : goal.returns-clause-answer
returns-clause-answer g c = let one = c.propagate_changed_value in let other = c.propagate_changed_value-2 in
    put_once g.H.Host.name_of c.args.position c.args.one.now.part c.args.other.now.part c.args.one.now.at.now c.args.other.now.at.now
    one.new.self.at.now other.new.self.at.now one.result other.result c.requires.part c.requires.place
    (one.ensures.ok, one.ensures.refused) (other.ensures.ok, other.ensures.refused)
