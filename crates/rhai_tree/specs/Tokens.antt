-- Operators as they are written.
use Rattle.std.specs.Prelude.{ℕ, List, codes}
use Rattle.rhai_tree.specs.declared.token.Token.{Token}
use Rattle.rhai_tree.specs.declared.token.Token.TheVariants.{Plus, Minus, UnaryMinus, Multiply, Divide, Modulo, PowerOf, LeftShift}
use Rattle.rhai_tree.specs.declared.token.Token.TheVariants.{RightShift, Ampersand, Pipe, XOr, Bang, EqualsTo, NotEqualsTo, LessThan}
use Rattle.rhai_tree.specs.declared.token.Token.TheVariants.{LessThanEqualsTo, GreaterThan, GreaterThanEqualsTo, ExclusiveRange}
use Rattle.rhai_tree.specs.declared.token.Token.TheVariants.{InclusiveRange}

-- the text of an operator; a minus reads alike with one operand and with two
abbrev pub syntax_of : Token → List ℕ
syntax_of Plus = codes "+"
syntax_of Minus = codes "-"
syntax_of UnaryMinus = codes "-"
syntax_of Multiply = codes "*"
syntax_of Divide = codes "/"
syntax_of Modulo = codes "%"
syntax_of PowerOf = codes "**"
syntax_of LeftShift = codes "<<"
syntax_of RightShift = codes ">>"
syntax_of Ampersand = codes "&"
syntax_of Pipe = codes "|"
syntax_of XOr = codes "^"
syntax_of Bang = codes "!"
syntax_of EqualsTo = codes "=="
syntax_of NotEqualsTo = codes "!="
syntax_of LessThan = codes "<"
syntax_of LessThanEqualsTo = codes "<="
syntax_of GreaterThan = codes ">"
syntax_of GreaterThanEqualsTo = codes ">="
syntax_of ExclusiveRange = codes ".."
syntax_of InclusiveRange = codes "..="
