use Rattle.std.proofs.Common.{None, refl}
use Rattle.rhai_machine.specs.machine.Memory.{◌⨾◌}
use Rattle.rhai_machine.specs.language.Frames.{AssignThis, StoreThis}
use Rattle.rhai_machine.specs.language.Runs.{Goes}
use Rattle.rhai_steps.specs.Sessions.{under}
use Rattle.rhai_steps.proofs.Pieces.{charged, refused}
use Rattle.rhai_fast_assign.proofs.Stored.{this_gone, this_stored}
use Rattle.rhai_fast_assign.proofs.left.assign_this_from_run.Goals as goal

pub returns-then-not-charge-clause-runs : goal.returns-then-not-charge-clause-runs
unfolding Goes
returns-then-not-charge-clause-runs g c scope k =
    let rules = under g.H.Host.name_of c.args.session.now g.T.NativeTable.natives in
    refused rules _ c.args.global.now c.charge.new.global _ _ (AssignThis c.args.op c.args.pos c.args.out.now)
    (StoreThis c.args.op c.args.pos c.args.out.now) c.args.pos (λ k. refl) _ (c.if-not-charge.ensures.full refl)
    (c.if-not-charge.ensures.refused refl) (c.if-not-charge.ensures.same refl) k

pub returns-in-Some-clause-runs : goal.returns-in-Some-clause-runs
unfolding Goes
returns-in-Some-clause-runs g c scope k =
    let rules = under g.H.Host.name_of c.args.session.now g.T.NativeTable.natives in
    charged rules _ c.args.global.now c.charge.new.global _ _ (AssignThis c.args.op c.args.pos c.args.out.now)
    (StoreThis c.args.op c.args.pos c.args.out.now) c.args.pos (λ k. refl) (c.if-not-charge.ensures.room refl)
    (c.if-not-charge.ensures.charged refl) k
    ⨾ rw (c.in-Some.is, c.settle.ensures) (this_stored rules c.args.op c.args.pos c.args.out.now k _ c.assign_this-answer.result _
    ((rw c.take_value-value.ensures.taken at c.assign_this-answer.ensures.runs) scope None))

pub returns-in-None-clause-runs : goal.returns-in-None-clause-runs
unfolding Goes
returns-in-None-clause-runs g c scope k =
    let rules = under g.H.Host.name_of c.args.session.now g.T.NativeTable.natives in
    rw (c.stop.ensures.stopped, c.stop.ensures.told)
    (charged rules _ c.args.global.now c.charge.new.global _ _ (AssignThis c.args.op c.args.pos c.args.out.now)
    (StoreThis c.args.op c.args.pos c.args.out.now) c.args.pos (λ k. refl) (c.if-not-charge.ensures.room refl)
    (c.if-not-charge.ensures.charged refl) k
    ⨾ this_gone rules c.args.op c.args.pos c.args.out.now k _ c.in-None.is)
