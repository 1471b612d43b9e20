-- A native by its name or by its number, and its call once its first argument is lent to it.
use Rattle.std.specs.Prelude.{◌≡◌, ⊤, ℕ, ◌+◌, Bool, true, false, not, ◌&&◌, List, ◌∷◌, length, Option, Some, None, Result, Ok}
use Rattle.std.specs.Option.{option_map}
use Rattle.rhai_tree.specs.declared.literal.NativeId.{NativeId}
use Rattle.rhai_tree.specs.declared.position.Position.{Position}
use Rattle.rhai_values.specs.declared.base.value.CellId.{CellId}
use Rattle.rhai_values.specs.declared.base.value.Dynamic.{Dynamic}
use Rattle.rhai_values.specs.declared.base.value.Union.{Union}
use Rattle.rhai_values.specs.declared.base.value.Union.TheVariants as value
use Rattle.rhai_values.specs.Cells.{value_of_cell}
use Rattle.rhai_errors.specs.declared.error.EvalAltResult.{EvalAltResult}
use Rattle.rhai_values.specs.TypeNames.{own_type_name}
use Rattle.rhai_errors.specs.declared.error.EvalAltResult.TheVariants as error
use Rattle.rhai_errors.specs.Errors.{is_out_of_memory}
use Rattle.rhai_errors.specs.Native.{Key, MayLeave, Natives, Obeys, Reply, purity_of, request}
use Rattle.rhai_machine.specs.language.Setting.{Rules}
use Rattle.rhai_machine.specs.language.State.{Local}
use Rattle.rhai_machine.specs.language.Values.{Cells, is_handle}
use Rattle.rhai_state.specs.Scope.{value_in}
use Rattle.rhai_machine.specs.language.Places.{Place, InEntry, InCell, InThis, InFocus, is_barred}
use Rattle.rhai_machine.specs.language.Frames.{Operation, Lender, Call, Question, ended_or_changed}
use Rattle.rhai_machine.specs.language.Calls.{first_of, key_by, put_left, while_from}
use Rattle.rhai_machine.specs.language.Runs.{Steps}
use Rattle.rhai_steps.specs.Lending.{passed_call}
use Rattle.rhai_calls.specs.ToldChanges.{gives}

-- a local state over these cells
abbrev pub over_cells : {H : Type 0} → Cells H → Local H → Local H
over_cells cells l = record l { around = record l.around { cells = cells } }

-- the number of a native that is called by it
abbrev pub native_number : Option NativeId → Option ℕ
native_number id = option_map (λ (native : NativeId). native.number) id

-- a native by its number, or else by its name
abbrev pub native_key : List ℕ → Option NativeId → Key
native_key name id = key_by name (native_number id)

module _ {S H : Type 0} (natives : Natives S H) (host : H → List ℕ) (t : S) (key : Key) (first : Dynamic H) (rest : List (Dynamic H)) where
  -- a native changes nothing, on a first argument that is no handle
  abbrev pub is_pure_on : Bool
  is_pure_on = natives.pure t (purity_of key (own_type_name host first.value) (1 + length rest))

  -- a native is barred from a first argument that is guarded: that is a constant, and the native is not pure
  abbrev pub is_barred_from : (guarded : Bool) → Bool
  is_barred_from guarded = guarded && is_barred is_pure_on first

module _ {S H : Type 0} (natives : Natives S H) (host : H → List ℕ) where
  -- a native is barred from a first argument, and nothing is done
  abbrev pub Bars : Key → (guarded : Bool) → (first : Dynamic H) → (rest : List (Dynamic H)) → (t t' : S) → (left : Dynamic H) →
      EvalAltResult H → (name : List ℕ) → (at : Position) → Type 0
  Bars key guarded first rest t t' left e name at = (is_barred_from natives host t key first rest guarded ≡ true) × (t' ≡ t)
      × (left ≡ first) × (is_out_of_memory e ≡ false → e ≡ error.ErrorNonPureMethodCallOnConstant name at)

  -- or else it is asked with these cells, and answers, where it had the memory, and leaves what it may; its answer tells that it
  -- changed the first argument where it may have and this is to be told
  abbrev pub Gives : (cells : Cells H) → Key → (guarded marks : Bool) → (first : Dynamic H) → (rest : List (Dynamic H)) → (at : Position) →
      (t t' : S) → Option (Reply H) → (left : Dynamic H) → (changed : Bool) → Type 0
  Gives cells key guarded marks first rest at t t' answer left changed = (is_barred_from natives host t key first rest guarded ≡ false)
      × (Obeys (natives.gives t (request cells key (Some first) rest at)) answer (Some left) t'
      × MayLeave host natives t (request cells key (Some first) rest at) (Some left) t')
      × (changed ≡ ((marks && not (is_pure_on natives host t key first rest)) && gives answer))

module _ {H : Type 0} where
  -- the cell that a value is a handle of
  abbrev pub cell_in : Union H → Option CellId
  cell_in (value.Cell id) = Some id
  cell_in _ = None

  -- what a cell has can be lent: it has a value, and that is no handle again
  abbrev pub lends_from : Option (Dynamic H) → Bool
  lends_from (Some v) = not (is_handle v.value)
  lends_from None = false

  -- a call of a native by its name, or by its number: its first argument may be lent or guarded, its answer may tell if it changed that
  abbrev pub native_call : Operation → Option NativeId → Option Lender → (guarded marks : Bool) → List (Dynamic H) → Call H
  native_call operation id lender guarded marks args =
      record (passed_call operation lender guarded marks args) { number = native_number id }

  -- a value stands in the place that it is lent from, if there is one
  abbrev pub StandsAt : (from : Option Place) → Dynamic H → Local H → Type 0
  StandsAt None v l = ⊤
  StandsAt (Some (InEntry index)) v l = value_in l.scope (Some index) ≡ Some v
  StandsAt (Some (InCell number)) v l = value_of_cell l.around.cells number ≡ Some v
  StandsAt (Some InThis) v l = l.this ≡ Some v
  StandsAt (Some InFocus) v l = l.focus ≡ Some v

  -- a native is called with a value for its first argument, which is lent from a place and goes back there: with these cells
  -- meanwhile and then, and these states of the table before and after
  unfoldable pub CallsOn : {S : Type 0} → Rules S H → (cells later : Cells H) → Operation → Option NativeId → (guarded marks : Bool) →
      (lent left : Dynamic H) → (rest : List (Dynamic H)) → (t t' : S) → Result (Dynamic H × Bool) (EvalAltResult H) → Type 0
  CallsOn {S} rules cells later operation id guarded marks lent left rest t t' result =
      (lender : Option Lender) (from : Option Place) (x : Dynamic H) (count : ℕ) (l : Local H) →
      StandsAt from lent l → cells ≡ while_from from l.around.cells → later ≡ (put_left from (Some left) l).around.cells →
      first_of l.around.cells (native_call operation id lender guarded marks (x ∷ rest)) x ≡ Ok (record { from = from; value = lent }) →
      Steps rules (Question (native_call operation id lender guarded marks (x ∷ rest))) (record { table = t; count = count; local = l })
      (ended_or_changed result) (record { table = t'; count = count; local = put_left from (Some left) l })

  -- a native is called with the value of a cell, which is held so long: with these cells before and after
  unfoldable pub CallsInCell : {S : Type 0} → Rules S H → Operation → Option NativeId → (guarded marks : Bool) → CellId →
      (rest : List (Dynamic H)) → (cells cells' : Cells H) → (t t' : S) → Result (Dynamic H × Bool) (EvalAltResult H) → Type 0
  CallsInCell {S} rules operation id guarded marks cell rest cells cells' t t' result =
      (lender : Option Lender) (x : Dynamic H) (count : ℕ) (l : Local H) → x.value ≡ value.Cell cell → cells ≡ l.around.cells →
      Steps rules (Question (native_call operation id lender guarded marks (x ∷ rest))) (record { table = t; count = count; local = l })
      (ended_or_changed result) (record { table = t'; count = count; local = record l { around = record l.around { cells = cells' } } })
