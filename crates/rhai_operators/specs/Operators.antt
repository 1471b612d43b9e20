-- The built-in operators: what each gives for its operands, None where there is none for them.
use Rattle.std.specs.Prelude.{ℕ, ℤ, List, ◌++◌, Bool, true, false, not, ◌&&◌, ◌||◌, Option, Some, None, Result, Ok, Err, int_lt, int_le}
use Rattle.std.specs.declared.cmp.Ordering.TheVariants.{Equal}
use Rattle.std.specs.Ordering.{int_eq, bool_cmp, nat_cmp}
use Rattle.std.specs.Int.{w64, int_bit_and, int_bit_or, int_bit_xor}
use Rattle.rhai_tree.specs.declared.token.Token.{Token}
use Rattle.rhai_tree.specs.declared.token.Token.TheVariants as token
use Rattle.rhai_values.specs.declared.base.value.Union.{Union}
use Rattle.rhai_values.specs.declared.base.value.Union.TheVariants as value
use Rattle.rhai_operators.specs.declared.integers.ArithmeticFault.{ArithmeticFault}
use Rattle.rhai_operators.specs.Integers as integer
use Rattle.rhai_operators.specs.Texts.{text_order, text_of}
use Rattle.rhai_operators.specs.Compare.{comparison_of_order, comparison_of_types, type_of, differ}

-- what an operator gives: None where there is no built-in
abbrev pub Outcome : Type 0 → Type 0
Outcome H = Option (Result (Union H) ArithmeticFault)

-- one of the two, and not both
abbrev pub exclusive_or : Bool → Bool → Bool
exclusive_or true y = not y
exclusive_or false y = y

-- the operators on integers that may stand before an `=`
abbrev pub assigns_integers : Token → Bool
assigns_integers token.Plus = true
assigns_integers token.Minus = true
assigns_integers token.Multiply = true
assigns_integers token.Divide = true
assigns_integers token.Modulo = true
assigns_integers token.PowerOf = true
assigns_integers token.LeftShift = true
assigns_integers token.RightShift = true
assigns_integers token.Ampersand = true
assigns_integers token.Pipe = true
assigns_integers token.XOr = true
assigns_integers _ = false

-- the operators on truth values that may stand before an `=`
abbrev pub assigns_truths : Token → Bool
assigns_truths token.Ampersand = true
assigns_truths token.Pipe = true
assigns_truths token.XOr = true
assigns_truths _ = false

-- the operators onto a text that may stand before an `=`
abbrev pub assigns_texts : Token → Bool
assigns_texts token.Plus = true
assigns_texts _ = false

module _ {H : Type 0} where
  -- the operator gives this value
  abbrev pub gives : Union H → Outcome H
  gives v = Some (Ok v)

  -- the operator gives this truth value
  abbrev pub truth : Bool → Outcome H
  truth b = gives (value.Bool b)

  -- a comparison's answer, where the operator compares
  abbrev pub if_compares : Option Bool → Outcome H
  if_compares (Some b) = truth b
  if_compares None = None

  -- an integer, or why there is none
  abbrev pub number : Result ℤ ArithmeticFault → Outcome H
  number (Ok z) = gives (value.Int z)
  number (Err why) = Some (Err why)

  -- two integers: arithmetic, bits, comparisons, and ranges from the first to the second
  abbrev pub of_integers : Token → ℤ → ℤ → Outcome H
  of_integers token.Plus x y = number (integer.sum x y)
  of_integers token.Minus x y = number (integer.difference x y)
  of_integers token.UnaryMinus x y = None
  of_integers token.Multiply x y = number (integer.product x y)
  of_integers token.Divide x y = number (integer.quotient x y)
  of_integers token.Modulo x y = number (integer.remainder x y)
  of_integers token.PowerOf x y = number (integer.power x y)
  of_integers token.LeftShift x y = number (integer.shifted_left x y)
  of_integers token.RightShift x y = number (integer.shifted_right x y)
  of_integers token.Ampersand x y = gives (value.Int (int_bit_and w64 x y))
  of_integers token.Pipe x y = gives (value.Int (int_bit_or w64 x y))
  of_integers token.XOr x y = gives (value.Int (int_bit_xor w64 x y))
  of_integers token.Bang x y = None
  of_integers token.EqualsTo x y = truth (int_eq x y)
  of_integers token.NotEqualsTo x y = truth (not (int_eq x y))
  of_integers token.LessThan x y = truth (int_lt x y)
  of_integers token.LessThanEqualsTo x y = truth (int_le x y)
  of_integers token.GreaterThan x y = truth (int_lt y x)
  of_integers token.GreaterThanEqualsTo x y = truth (int_le y x)
  of_integers token.ExclusiveRange x y = gives (value.ExclusiveRange x y)
  of_integers token.InclusiveRange x y = gives (value.InclusiveRange x y)

  -- false comes before true
  abbrev pub of_truths : Token → Bool → Bool → Outcome H
  of_truths token.Ampersand x y = truth (x && y)
  of_truths token.Pipe x y = truth (x || y)
  of_truths token.XOr x y = truth (exclusive_or x y)
  of_truths op x y = if_compares (comparison_of_order op (bool_cmp x y))

  -- two values of types that are known and differ; values of one type with no row of their own have no built-in
  abbrev pub of_types : Bool → Token → Outcome H
  of_types true op = if_compares (comparison_of_types op)
  of_types false op = None

  -- characters in the order of their code points; their sum is a text
  abbrev pub of_characters : Token → ℕ → ℕ → Outcome H
  of_characters token.Plus x y = gives (value.Str (text_of x ++ text_of y))
  of_characters op x y = if_compares (comparison_of_order op (nat_cmp x y))

  -- two texts in their order; their sum is the first with the second behind it
  abbrev pub of_texts : Token → List ℕ → List ℕ → Outcome H
  of_texts token.Plus x y = gives (value.Str (x ++ y))
  of_texts op x y = if_compares (comparison_of_order op (text_order x y))

  -- a text and a character, as texts in their order: two types, with a sum
  abbrev pub of_mixed : Token → List ℕ → List ℕ → Outcome H
  of_mixed token.Plus x y = gives (value.Str (x ++ y))
  of_mixed op x y = if_compares (comparison_of_types op)

  -- what an operator between two operands gives: the table, by the types of both
  abbrev pub binary_at : Token → Union H → Union H → Outcome H
  binary_at op (value.Int x) (value.Int y) = of_integers op x y
  binary_at op (value.Bool x) (value.Bool y) = of_truths op x y
  binary_at op (value.Char x) (value.Char y) = of_characters op x y
  binary_at op (value.Str x) (value.Str y) = of_texts op x y
  binary_at op (value.Str x) (value.Char y) = of_mixed op x (text_of y)
  binary_at op (value.Char x) (value.Str y) = of_mixed op (text_of x) y
  binary_at op value.Unit value.Unit = if_compares (comparison_of_order op Equal)
  binary_at op x y = of_types (differ (type_of x) (type_of y)) op

  -- the minus of an integer is its opposite, the bang of a truth value the other one
  abbrev pub unary_at : Token → Union H → Outcome H
  unary_at token.Minus (value.Int x) = number (integer.opposite x)
  unary_at token.UnaryMinus (value.Int x) = number (integer.opposite x)
  unary_at token.Bang (value.Bool x) = truth (not x)
  unary_at op x = None

  -- whether an operator may stand before an `=` for these operands
  abbrev pub assigns : Token → Union H → Union H → Bool
  assigns op (value.Int x) (value.Int y) = assigns_integers op
  assigns op (value.Bool x) (value.Bool y) = assigns_truths op
  assigns op (value.Str x) (value.Str y) = assigns_texts op
  assigns op (value.Str x) (value.Char y) = assigns_texts op
  assigns op x y = false

  -- what an operator gives, if it may stand before an `=`
  abbrev pub if_assigns : Bool → Outcome H → Outcome H
  if_assigns true outcome = outcome
  if_assigns false outcome = None

  -- an operator before an `=` gives what it gives alone, where it may stand there
  abbrev pub op_assign_at : Token → Union H → Union H → Outcome H
  op_assign_at op x y = if_assigns (assigns op x y) (binary_at op x y)
