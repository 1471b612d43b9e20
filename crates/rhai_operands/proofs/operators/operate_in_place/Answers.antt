use Rattle.std.proofs.Common.{◌∙◌, ap, arith, refl, sym}
use Rattle.rhai_tree.specs.declared.expr.Expr.{out-Expr}
use Rattle.rhai_state.specs.Scope.{entries_of}
use Rattle.rhai_lookups.specs.declared.run.RunState.{RunState}
use Rattle.rhai_machine.specs.language.Runs.{Goes}
use Rattle.rhai_steps.specs.Sessions.{under}
use Rattle.rhai_operands.specs.Standing.{standing}
use Rattle.rhai_operands.proofs.Integers.{found_known, left_missing, operated_stands, operates_at_once, right_missing}
use Rattle.rhai_operands.proofs.operators.operate_in_place.Goals as goal
use Rattle.rhai_operands.proofs.operators.operate_in_place.Goals.{then-may_stand, else-may_stand}

pub returns-then-operate_integers-clause-found : goal.returns-then-operate_integers-clause-found
returns-then-operate_integers-clause-found g c =
    sym (found_known c.args.binary.token (standing (out-Expr c.args.binary.left.now) (entries_of c.args.scope.now))
    (standing (out-Expr c.args.binary.right.now) (entries_of c.args.scope.now)) c.operate_integers.new.out
    (c.if-operate_integers.ensures.known refl))

pub returns-then-operate_integers-clause-counts : goal.returns-then-operate_integers-clause-counts
returns-then-operate_integers-clause-counts g c =
    omega (arith, ap (λ (global : RunState _). global.num_operations) (c.if-operate_integers.ensures.charged refl))

pub returns-then-operate_integers-clause-runs : goal.returns-then-operate_integers-clause-runs
unfolding Goes
returns-then-operate_integers-clause-runs g c held fast k =
    let rules = under g.H.Host.name_of c.args.session.now g.T.NativeTable.natives in
    let stand = operated_stands c.args.binary.token (standing (out-Expr c.args.binary.left.now) (entries_of c.args.scope.now))
    (standing (out-Expr c.args.binary.right.now) (entries_of c.args.scope.now)) c.operate_integers.new.out
    (c.if-operate_integers.ensures.known refl) in
    operates_at_once rules (g.T.NativeTable.state c.args._table.now) c.args.scope.now held c.args.binary.call.now
    c.args.binary.token c.args.binary.left.now
    c.args.binary.right.now c.args.binary.at stand.0 stand.1 k fast c.requires.token c.requires.args stand.2 stand.3
    c.args.global.now
    c.operate_integers.new.global (c.if-operate_integers.ensures.room refl)
    (c.if-operate_integers.ensures.charged refl) c.operate_integers.new.out stand.4 stand.5 stand.6

pub returns-then-not-may_stand-clause-found : goal.returns-then-not-may_stand-clause-found
returns-then-not-may_stand-clause-found g c =
    let left = standing (out-Expr c.args.binary.left.now) (entries_of c.args.scope.now) in
    let right = standing (out-Expr c.args.binary.right.now) (entries_of c.args.scope.now) in
    elim c.if-may_stand.branch [
      | then-may_stand w ↦ right_missing c.args.binary.token left right
          (w.may_stand-may_stand.ensures (entries_of c.args.scope.now) (sym w.may_stand-is ∙ c.if-not-may_stand.true))
      | else-may_stand w ↦ left_missing c.args.binary.token left right
          (c.may_stand.ensures (entries_of c.args.scope.now) w.if-may_stand.false)
    ]

pub returns-then-not-may_stand-clause-left_alone : goal.returns-then-not-may_stand-clause-left_alone
returns-then-not-may_stand-clause-left_alone g c none = c.if-operate_integers.ensures.left_alone refl

pub returns-then-not-may_stand-clause-counts : goal.returns-then-not-may_stand-clause-counts
returns-then-not-may_stand-clause-counts g c =
    omega (arith, ap (λ (global : RunState _). global.num_operations) (c.if-operate_integers.ensures.left_alone refl))

pub returns-clause-left_alone : goal.returns-clause-left_alone
returns-clause-left_alone g c none =
    c.operate_others.ensures.left_alone none ∙ c.if-operate_integers.ensures.left_alone refl

pub returns-clause-counts : goal.returns-clause-counts
returns-clause-counts g c =
    let same = ap (λ (global : RunState _). global.num_operations) (c.if-operate_integers.ensures.left_alone refl) in
    omega (arith, c.operate_others.ensures.counts, same)

pub returns-clause-runs : goal.returns-clause-runs
returns-clause-runs g c held fast =
    (rw (c.if-operate_integers.ensures.left_alone refl) at c.operate_others.ensures.runs) held fast
