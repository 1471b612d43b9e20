-- The rules of `for`.
use Rattle.std.specs.Prelude.{ℕ, ◌+◌, ◌^◌, pos, nat_le, length, Bool, true, false, List, [], ◌∷◌, ◌++◌, Option, Some, None, Result}
use Rattle.std.specs.Prelude.{Ok, Err, codes, option_map}
use Rattle.rhai_machine.specs.Types.{Dynamic, EvalAltResult, Ident, Limits, Position, ScopeEntry, Stmt, Union}
use Rattle.rhai_tree.specs.Positions.{position_of, start_of}
use Rattle.rhai_values.specs.declared.base.value.AccessMode.TheVariants.{ReadWrite}
use Rattle.rhai_values.specs.declared.base.value.Union.TheVariants as value
use Rattle.rhai_values.specs.Cells.{value_of_cell}
use Rattle.rhai_errors.specs.declared.error.EvalAltResult.TheVariants as error
use Rattle.rhai_state.specs.Scope.{new_entry, value_in}
use Rattle.rhai_machine.specs.machine.Machine.{Move, Go, Charge}
use Rattle.rhai_machine.specs.language.State.{Local}
use Rattle.rhai_machine.specs.language.Values.{Cells, flat, unit_value}
use Rattle.rhai_machine.specs.language.Places.{Place, InEntry, InCell, put}
use Rattle.rhai_machine.specs.language.Turns.{ForLoop, Turns, integer_value}
use Rattle.rhai_machine.specs.language.Frames.{Frame, Core, core, on_value, Eval, Enter, ForTurn, ForItem, Back, Fail, ForItems, ForBody}
use Rattle.rhai_machine.specs.language.Frames.{RestoreScope}

-- how many variables the counter of a `for` is: one, or none where it has no counter
abbrev pub counters : Option Ident → ℕ
counters None = 0
counters (Some counter) = 1

-- the text of the error where a turn's number is greater than any integer
abbrev pub counter_overflow : List ℕ
counter_overflow = codes "for-loop counter overflow: 9223372036854775807"

module _ {H : Type 0} where
  -- ---- the start

  -- whether the scope has no room for the variables of a `for`
  abbrev pub has_no_room : Limits → ForLoop → Local H → Bool
  has_no_room limits loop l = nat_le limits.max_variables (length l.scope + counters loop.counter)

  -- a `for`: where its variables have no room it fails, and else what it walks is evaluated
  abbrev pub for_core : (full : Bool) → ForLoop → List (Frame H) → Local H → Core H
  for_core true loop k l = core (Fail (error.ErrorTooManyVariables loop.variable.pos)) k l
  for_core false loop k l = core (Eval loop.items) (ForItems loop ∷ k) l

  -- the entry of the counter, if there is one, at 0
  abbrev pub counter_entry : Option Ident → List (ScopeEntry H)
  counter_entry None = []
  counter_entry (Some counter) = new_entry counter.name ReadWrite (integer_value (pos 0)) ∷ []

  -- the entries of a `for`: the counter, and then the variable, which is `()`
  abbrev pub loop_entries : ForLoop → List (ScopeEntry H)
  loop_entries loop = counter_entry loop.counter ++ new_entry loop.variable.name ReadWrite unit_value ∷ []

  -- a `for` starts: its entries are there until it is left, on every way out; what can not be walked fails where it starts
  abbrev pub started_core : Option (Turns H) → ForLoop → List (Frame H) → Local H → Core H
  started_core (Some turns) loop k l = core (ForTurn loop turns 0 (length l.scope)) (RestoreScope (length l.scope) ∷ k)
      (record l { scope = l.scope ++ loop_entries loop })
  started_core None loop k l = core (Fail (error.ErrorFor (start_of loop.items))) k l

  -- ---- its variables as they are written

  -- the place of a variable that the body has shared: its cell, or a data race where that is held
  abbrev pub shared_place : List ℕ → Position → (number : ℕ) → Option (Dynamic H) → Result Place (EvalAltResult H)
  shared_place name at number (Some v) = Ok (InCell number)
  shared_place name at number None = Err (error.ErrorDataRace name at)

  -- the place of an entry by the kind of its value: the cell of a handle, or the entry itself
  abbrev pub place_by : Cells H → List ℕ → Position → (index : ℕ) → Option (Union H) → Result Place (EvalAltResult H)
  place_by cells name at index (Some (value.Cell id)) = shared_place name at id.number (value_of_cell cells id.number)
  place_by cells name at index _ = Ok (InEntry index)

  -- the place of a variable of a `for`, where its value is written to
  abbrev pub place_of_entry : List ℕ → Position → (index : ℕ) → Local H → Result Place (EvalAltResult H)
  place_of_entry name at index l = place_by l.around.cells name at index (option_map (λ v. v.value) (value_in l.scope (Some index)))

  -- ---- a turn

  -- the turn's number is written to the counter, if there is one
  abbrev pub counted_core : Option Ident → ForLoop → (turn base : ℕ) → (Local H → Core H) → List (Frame H) → Local H → Core H
  counted_core None loop turn base go k l = go l
  counted_core (Some counter) loop turn base go k l = on_value (place_of_entry counter.name loop.variable.pos base l)
      (λ place. go (put place (integer_value (pos turn)) l)) k l

  -- a turn with its item: it is counted, unless its number is greater than any integer
  abbrev pub turn_core : (overflows : Bool) → ForLoop → Dynamic H → (rest : Turns H) → (turn base : ℕ) → List (Frame H) → Local H → Core H
  turn_core true loop item rest turn base k l = core (Fail (error.ErrorArithmetic counter_overflow loop.variable.pos)) k l
  turn_core false loop item rest turn base k l =
      counted_core loop.counter loop turn base (λ m. core (ForItem loop item rest turn base) k m) k l

  -- the next turn of a `for`: an empty body is charged for each item, and its variables are left alone; after the last item it gives `()`
  abbrev pub for_move : Option (Dynamic H × Turns H) → List Stmt → ForLoop → (turn base : ℕ) → List (Frame H) → Local H → Move H (Core H)
  for_move None stmts loop turn base k l = Go (core (Back unit_value) k l)
  for_move (Some (item, rest)) [] loop turn base k l = Charge loop.body.position (core (ForTurn loop rest (turn + 1) base) k l)
  for_move (Some (item, rest)) (stmt ∷ stmts) loop turn base k l = Go (turn_core (nat_le (2 ^ 63) turn) loop item rest turn base k l)

  -- the item is written to the variable, with its mode, and the body is entered
  abbrev pub entered_core : ForLoop → Dynamic H → (rest : Turns H) → (turn base : ℕ) → List (Frame H) → Local H → Core H
  entered_core loop v rest turn base k l = on_value (place_of_entry loop.variable.name loop.variable.pos (base + counters loop.counter) l)
      (λ place. core (Enter loop.body.statements true) (ForBody loop rest turn base ∷ k) (put place v l)) k l

  -- the item of a turn is flattened, and the body is entered
  abbrev pub item_core : ForLoop → Dynamic H → (rest : Turns H) → (turn base : ℕ) → List (Frame H) → Local H → Core H
  item_core loop item rest turn base k l =
      on_value (flat l.around.cells item (position_of loop.items)) (λ v. entered_core loop v rest turn base k l) k l
