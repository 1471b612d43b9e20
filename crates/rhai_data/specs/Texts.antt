-- How the part of an interpolated text is printed and joined.
use Rattle.std.specs.Prelude.{ℕ, Bool, true, false, List, Option, Some, None, Result, Ok, Err}
use Rattle.rhai_tree.specs.declared.position.Position.{Position}
use Rattle.rhai_tree.specs.declared.expr.Expr.{Expr}
use Rattle.rhai_values.specs.declared.base.value.Dynamic.{Dynamic}
use Rattle.rhai_values.specs.declared.base.value.Union.{Union}
use Rattle.rhai_values.specs.declared.base.value.Union.TheVariants as value
use Rattle.rhai_errors.specs.declared.error.EvalAltResult.{EvalAltResult}
use Rattle.rhai_errors.specs.Errors.{is_system}
use Rattle.rhai_machine.specs.language.Data.{part_core, parts_core, printing}
use Rattle.rhai_machine.specs.language.Frames.{Frame, Core, core, core_over, Ask, Back, Fail, PrintedPart, TextPart}
use Rattle.rhai_machine.specs.language.Setting.{Setting}
use Rattle.rhai_machine.specs.language.State.{Local}

module _ {H : Type 0} where
  -- the text that a value is
  abbrev pub text_in : Union H → Option (List ℕ)
  text_in (value.Str text) = Some text
  text_in _ = None

  -- an error of the system passes, and after any other nothing is printed
  abbrev pub unprinted : (passes : Bool) → EvalAltResult H → Result (Option (List ℕ)) (EvalAltResult H)
  unprinted true e = Err e
  unprinted false e = Ok None

  -- the text that a native printed, None where it printed none
  abbrev pub print_of : Result (Dynamic H) (EvalAltResult H) → Result (Option (List ℕ)) (EvalAltResult H)
  print_of (Ok v) = Ok (text_in v.value)
  print_of (Err e) = unprinted (is_system e) e

  -- what was printed is joined, or else the type
  abbrev pub print_core : Setting H → Result (Option (List ℕ)) (EvalAltResult H) → (text type : List ℕ) → Position → List Expr →
      List (Frame H) → Local H → Core H
  print_core s (Ok (Some part)) text type pos rest k l = part_core s text part pos rest k l
  print_core s (Ok None) text type pos rest k l = part_core s text type pos rest k l
  print_core s (Err e) text type pos rest k l = core (Fail e) k l

  -- a text that was joined goes on with the parts behind
  abbrev pub after_part : {A : Type 0} → Result A (EvalAltResult H) → (text : List ℕ) → List Expr → List (Frame H) → Local H → Core H
  after_part (Ok x) text rest k l = parts_core text rest k l
  after_part (Err e) text rest k l = core (Fail e) k l

  -- a value is printed, over the frame that waits for its text
  abbrev pub prints_part : Dynamic H → Position → (text type : List ℕ) → List Expr → List (Frame H) → Local H → Core H
  prints_part v pos text type rest = core_over (Ask (printing v pos)) (PrintedPart text type pos rest)

  -- the value of a part comes up
  abbrev pub part_comes : (text : List ℕ) → Dynamic H → Position → List Expr → List (Frame H) → Local H → Core H
  part_comes text v pos rest = core_over (Back v) (TextPart text pos rest)
