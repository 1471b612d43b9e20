-- A first argument that is lent to a native, and goes back to where it stands.
use Rattle.std.specs.Prelude.{◌≡◌, ⊤, Bool, List, Option, Some, None}
use Rattle.rhai_values.specs.declared.base.value.Dynamic.{Dynamic}
use Rattle.rhai_state.specs.Scope.{value_in}
use Rattle.rhai_machine.specs.language.State.{Local, State}
use Rattle.rhai_machine.specs.language.Places.{put}
use Rattle.rhai_machine.specs.language.Frames.{Operation, Lender, FromEntry, FromThis, FromFocus, Call}
use Rattle.rhai_machine.specs.language.Calls.{call_of, place_of}

module _ {H : Type 0} where
  -- a call by name, whose first argument may be lent, and may be guarded
  abbrev pub lent_call : Operation → Option Lender → (guarded : Bool) → List (Dynamic H) → Call H
  lent_call operation lender guarded args = record (call_of operation args) { lender = lender; guarded = guarded }

  -- and one whose answer may tell, too, whether the first argument was changed
  abbrev pub passed_call : Operation → Option Lender → (guarded marks : Bool) → List (Dynamic H) → Call H
  passed_call operation lender guarded marks args = record (lent_call operation lender guarded args) { marks = marks }

  -- a value stands where it is lent from
  abbrev pub Stands : Option Lender → Dynamic H → Local H → Type 0
  Stands None v l = ⊤
  Stands (Some (FromEntry index)) v l = value_in l.scope (Some index) ≡ Some v
  Stands (Some FromThis) v l = l.this ≡ Some v
  Stands (Some FromFocus) v l = l.focus ≡ Some v

  -- a state with a value written there
  abbrev pub back_in : {S : Type 0} → Option Lender → Dynamic H → State S H → State S H
  back_in None v s = s
  back_in (Some lender) v s = record s { local = put (place_of lender) v s.local }
