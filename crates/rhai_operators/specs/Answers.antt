-- What the built-in operators answer: read-write values, and errors without a position.
use Rattle.std.specs.Prelude.{◌≡◌, ⊤, ℕ, Bool, true, false, List, codes, Option, Some, None, is_some, Result, Ok, Err}
use Rattle.rhai_tree.specs.Position.{none}
use Rattle.rhai_tree.specs.declared.token.Token.{Token}
use Rattle.rhai_values.specs.declared.base.value.Dynamic.{Dynamic}
use Rattle.rhai_values.specs.declared.base.value.Union.{Union}
use Rattle.rhai_values.specs.declared.base.value.Union.TheVariants as value
use Rattle.rhai_errors.specs.declared.error.EvalAltResult.{EvalAltResult}
use Rattle.rhai_errors.specs.declared.error.EvalAltResult.TheVariants as error
use Rattle.rhai_values.specs.Copy.{plain}
use Rattle.rhai_errors.specs.Errors.{is_out_of_memory, position_of}
use Rattle.rhai_operators.specs.declared.integers.ArithmeticFault.{ArithmeticFault}
use Rattle.rhai_operators.specs.declared.integers.ArithmeticFault.TheVariants as fault
use Rattle.rhai_operators.specs.Operators.{Outcome, unary_at, binary_at, op_assign_at}

-- the text of a fault's error
abbrev pub message : ArithmeticFault → List ℕ
message fault.Overflow = codes "integer overflow"
message fault.DivisionByZero = codes "division by zero"
message fault.BadShift = codes "bad shift"
message fault.BadExponent = codes "bad exponent"

-- a built-in's answer: None where there is none
abbrev pub Answer : Type 0 → Type 0
Answer H = Option (Result (Dynamic H) (EvalAltResult H))

module _ {H : Type 0} where
  -- the error of a fault: its text, without a position
  abbrev pub arithmetic_error : ArithmeticFault → EvalAltResult H
  arithmetic_error why = error.ErrorArithmetic (message why) none

  -- the answer with an operator's value, which is read-write, or with the error of its fault
  abbrev pub answer : Outcome H → Answer H
  answer None = None
  answer (Some (Ok v)) = Some (Ok (plain v))
  answer (Some (Err why)) = Some (Err (arithmetic_error why))

  -- a built-in's answer before one operand
  abbrev pub unary_of : Token → Dynamic H → Answer H
  unary_of op x = answer (unary_at op x.value)

  -- a built-in's answer between two operands
  abbrev pub binary_of : Token → Dynamic H → Dynamic H → Answer H
  binary_of op x y = answer (binary_at op x.value y.value)

  -- a built-in's answer before an `=`, between the variable's value and the other operand
  abbrev pub op_assign_of : Token → Dynamic H → Dynamic H → Answer H
  op_assign_of op x y = answer (op_assign_at op x.value y.value)

  -- the answer does not say that memory ran out
  abbrev pub HasMemory : Answer H → Type 0
  HasMemory None = ⊤
  HasMemory (Some (Ok v)) = ⊤
  HasMemory (Some (Err e)) = is_out_of_memory e ≡ false

  -- whether a value is a text
  abbrev pub is_text : Union H → Bool
  is_text (value.Str text) = true
  is_text v = false

  -- only a text and an error take memory to be made
  abbrev pub takes_memory : Answer H → Bool
  takes_memory None = false
  takes_memory (Some (Ok v)) = is_text v.value
  takes_memory (Some (Err e)) = true

  -- an error has no position
  abbrev pub IsUnplaced : Answer H → Type 0
  IsUnplaced None = ⊤
  IsUnplaced (Some (Ok v)) = ⊤
  IsUnplaced (Some (Err e)) = position_of e ≡ none

-- the result is the answer that is wanted, unless memory ran out; there is one exactly where one is wanted, and memory does not run out
-- where it takes none
pub record IsAnswer {H : Type 0} (result wanted : Answer H) : Type 0 where
  pub value : HasMemory result → result ≡ wanted
  pub found : is_some result ≡ is_some wanted
  pub exact : takes_memory wanted ≡ false → result ≡ wanted
  pub unplaced : IsUnplaced result
