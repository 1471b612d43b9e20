use Rattle.std.proofs.Common.{rules}
use Rattle.rhai_operators.proofs.Table.{beside_integer, beside_truth, beside_character, beside_text, beside_unit}
use Rattle.rhai_operators.proofs.binary.Goals as goal

pub returns-in_default-y : goal.returns-in_default-y
returns-in_default-y g c =
    rw (c.in-Int.is, beside_integer c.args.op c.in-Int.m c.args.y.now c.in_default-y.not-Int)
    (rw (c.of_types.ensures, c.in-Int.is) at c.answer-in_default-y.ensures)

pub returns-in_default-y-2 : goal.returns-in_default-y-2
returns-in_default-y-2 g c =
    rw (c.in-Bool.is, beside_truth c.args.op c.in-Bool.m c.args.y.now c.in_default-y-2.not-Bool)
    (rw (c.of_types-in_default-y-2.ensures, c.in-Bool.is) at c.answer-in_default-y-2.ensures)

pub returns-in_default-y-3 : goal.returns-in_default-y-3
returns-in_default-y-3 g c =
    rw (c.in-Char.is, beside_character c.args.op c.in-Char.m c.args.y.now c.in_default-y-3.not-Char c.in_default-y-3.not-Str)
    (rw (c.of_types-in_default-y-3.ensures, c.in-Char.is) at c.answer-in_default-y-3.ensures)

pub returns-in_default-y-4 : goal.returns-in_default-y-4
returns-in_default-y-4 g c =
    rw (c.in-Str.is, beside_text c.args.op c.in-Str.m c.args.y.now c.in_default-y-4.not-Char c.in_default-y-4.not-Str)
    (rw (c.of_types-in_default-y-4.ensures, c.in-Str.is) at c.answer-in_default-y-4.ensures)

pub returns-in_default-y-5 : goal.returns-in_default-y-5
returns-in_default-y-5 g c =
    rw (c.in-Unit.is, beside_unit c.args.op c.args.y.now c.in_default-y-5.not-Unit)
    (rw (c.of_types-in_default-y-5.ensures, c.in-Unit.is) at c.answer-in_default-y-5.ensures)

pub returns-in-Char-y-2 : goal.returns-in-Char-y-2
returns-in-Char-y-2 g c = search rules

pub returns-in-Unit-y : goal.returns-in-Unit-y
returns-in-Unit-y g c = search rules
