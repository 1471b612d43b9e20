-- What built-in operators give contains no cell and is no handle.
use Rattle.std.proofs.Common.{ℕ, ℤ, List}
use Rattle.std.specs.Prelude.{⊤, Bool, true, false, Option, Some, None, Result, Ok, Err}
use Rattle.std.specs.declared.cmp.Ordering.TheVariants.{Equal}
use Rattle.std.specs.Ordering.{bool_cmp, nat_cmp}
use Rattle.rhai_tree.specs.declared.token.Token.{Token}
use Rattle.rhai_tree.specs.declared.token.Token.TheVariants as token
use Rattle.rhai_values.specs.declared.base.value.Dynamic.{Dynamic}
use Rattle.rhai_values.specs.declared.base.value.Union.{Union}
use Rattle.rhai_values.specs.declared.base.value.Union.TheVariants as value
use Rattle.rhai_values.specs.Cells.{IsNoHandle}
use Rattle.rhai_values.specs.ValueContents.{Reached}
use Rattle.rhai_operators.specs.declared.integers.ArithmeticFault.{ArithmeticFault}
use Rattle.rhai_operators.specs.Answers.{Answer, answer, unary_of, binary_of, op_assign_of}
use Rattle.rhai_operators.specs.Compare.{comparison_of_order, comparison_of_types, type_of, differ}
use Rattle.rhai_operators.specs.Integers as integer
use Rattle.rhai_operators.specs.Operators.{Outcome, if_compares, number, of_integers, of_truths, of_types, of_characters, of_texts}
use Rattle.rhai_operators.specs.Operators.{of_mixed, binary_at, unary_at, assigns, if_assigns, op_assign_at}
use Rattle.rhai_operators.specs.Texts.{text_order, text_of}
use Rattle.rhai_fits.proofs.Values.{FitUnion, fit_bool, fit_int, fit_text, fit_range, fit_inclusive}
use Rattle.rhai_fits.proofs.Errors.{fit_error}
use Rattle.rhai_fits.proofs.Fitting.{Gives, Flat}

module _ {H : Type 0} (own : H → List Reached) (P : Reached → Type 0) (least : ℕ) where
  -- what an operator gives
  abbrev Given : Outcome H → Type 0
  Given None = ⊤
  Given (Some (Ok u)) = FitUnion own P u × IsNoHandle u
  Given (Some (Err why)) = ⊤

  compares : (b : Option Bool) → Given (if_compares b)
  compares (Some b) = (fit_bool own P b, tt)
  compares None = tt

  number_given : (r : Result ℤ ArithmeticFault) → Given (number r)
  number_given (Ok z) = (fit_int own P z, tt)
  number_given (Err why) = tt

  integers : (op : Token) (x y : ℤ) → Given (of_integers op x y)
  integers token.Plus x y = number_given (integer.sum x y)
  integers token.Minus x y = number_given (integer.difference x y)
  integers token.UnaryMinus x y = tt
  integers token.Multiply x y = number_given (integer.product x y)
  integers token.Divide x y = number_given (integer.quotient x y)
  integers token.Modulo x y = number_given (integer.remainder x y)
  integers token.PowerOf x y = number_given (integer.power x y)
  integers token.LeftShift x y = number_given (integer.shifted_left x y)
  integers token.RightShift x y = number_given (integer.shifted_right x y)
  integers token.Ampersand x y = (fit_int own P _, tt)
  integers token.Pipe x y = (fit_int own P _, tt)
  integers token.XOr x y = (fit_int own P _, tt)
  integers token.Bang x y = tt
  integers token.EqualsTo x y = (fit_bool own P _, tt)
  integers token.NotEqualsTo x y = (fit_bool own P _, tt)
  integers token.LessThan x y = (fit_bool own P _, tt)
  integers token.LessThanEqualsTo x y = (fit_bool own P _, tt)
  integers token.GreaterThan x y = (fit_bool own P _, tt)
  integers token.GreaterThanEqualsTo x y = (fit_bool own P _, tt)
  integers token.ExclusiveRange x y = (fit_range own P x y, tt)
  integers token.InclusiveRange x y = (fit_inclusive own P x y, tt)

  truths : (op : Token) (x y : Bool) → Given (of_truths op x y)
  truths token.Ampersand x y = (fit_bool own P _, tt)
  truths token.Pipe x y = (fit_bool own P _, tt)
  truths token.XOr x y = (fit_bool own P _, tt)
  truths op x y = compares (comparison_of_order op (bool_cmp x y))

  types : (other : Bool) (op : Token) → Given (of_types other op)
  types true op = compares (comparison_of_types op)
  types false op = tt

  characters : (op : Token) (x y : ℕ) → Given (of_characters op x y)
  characters token.Plus x y = (fit_text own P _, tt)
  characters op x y = compares (comparison_of_order op (nat_cmp x y))

  texts : (op : Token) (x y : List ℕ) → Given (of_texts op x y)
  texts token.Plus x y = (fit_text own P _, tt)
  texts op x y = compares (comparison_of_order op (text_order x y))

  mixed : (op : Token) (x y : List ℕ) → Given (of_mixed op x y)
  mixed token.Plus x y = (fit_text own P _, tt)
  mixed op x y = compares (comparison_of_types op)

  binary : (op : Token) (x y : Union H) → Given (binary_at op x y)
  binary op (value.Int x) (value.Int y) = integers op x y
  binary op (value.Bool x) (value.Bool y) = truths op x y
  binary op (value.Char x) (value.Char y) = characters op x y
  binary op (value.Str x) (value.Str y) = texts op x y
  binary op (value.Str x) (value.Char y) = mixed op x (text_of y)
  binary op (value.Char x) (value.Str y) = mixed op (text_of x) y
  binary op value.Unit value.Unit = compares (comparison_of_order op Equal)
  binary op x y = types (differ (type_of x) (type_of y)) op

  unary : (op : Token) (x : Union H) → Given (unary_at op x)
  unary token.Minus (value.Int x) = number_given (integer.opposite x)
  unary token.UnaryMinus (value.Int x) = number_given (integer.opposite x)
  unary token.Bang (value.Bool x) = (fit_bool own P _, tt)
  unary op x = tt

  assigned : (may : Bool) (o : Outcome H) → Given o → Given (if_assigns may o)
  assigned true o h = h
  assigned false o h = tt

  -- ---- answers

  -- an answer, if there is one
  abbrev pub Answers : Answer H → Type 0
  Answers None = ⊤
  Answers (Some r) = Gives own P least (Flat own P least) r

  answered : (o : Outcome H) → Given o → Answers (answer o)
  answered None h = tt
  answered (Some (Ok u)) h = h
  answered (Some (Err why)) h = fit_error own P _ tt

  pub unary_answers : (op : Token) (x : Dynamic H) → Answers (unary_of op x)
  unary_answers op x = answered (unary_at op x.value) (unary op x.value)

  pub binary_answers : (op : Token) (x y : Dynamic H) → Answers (binary_of op x y)
  binary_answers op x y = answered (binary_at op x.value y.value) (binary op x.value y.value)

  pub assign_answers : (op : Token) (x y : Dynamic H) → Answers (op_assign_of op x y)
  assign_answers op x y = answered (op_assign_at op x.value y.value)
      (assigned (assigns op x.value y.value) (binary_at op x.value y.value) (binary op x.value y.value))
