use Rattle.std.proofs.Common.{arith}
use Rattle.std.specs.Str.{bytes_eq}
use Rattle.rhai_tree.proofs.Each.{each_more, each_not, each_uneven}
use Rattle.rhai_tree.proofs.literal.same_texts.Goals as goal

pub returns-then-these-those : goal.returns-then-these-those
returns-then-these-those c = each_uneven bytes_eq c.args.these.now c.args.those.now c.if-these-those.true

pub returns-then-not-same_text : goal.returns-then-not-same_text
returns-then-not-same_text c =
    each_not bytes_eq c.args.these.now c.args.those.now c.loop-i.i _ _ c.loop-i-test.true (omega arith) c.index-these-i.is
    c.index-those-i.is c.if-not-same_text.ensures

pub loop-i-preserved : goal.loop-i-preserved
loop-i-preserved c =
    each_more bytes_eq c.args.these.now c.args.those.now c.loop-i.i _ _ c.loop-i-test.true (omega arith) c.index-these-i.is
    c.index-those-i.is c.loop-i.invariant c.if-not-same_text.ensures
