-- Constants among the variables: what they are, which steps may replace one, and which controls write none.
use Rattle.std.specs.Prelude.{◌≡◌, ◌<◌, ⊤, ℕ, nat_eq, Bool, true, false, not, ◌&&◌, List, [], ◌∷◌, Option, Some, Result, Ok}
use Rattle.rhai_values.specs.declared.base.value.AccessMode.TheVariants.{ReadOnly}
use Rattle.rhai_values.specs.declared.base.value.Dynamic.{Dynamic}
use Rattle.rhai_values.specs.Cells.{IsNoHandle}
use Rattle.rhai_values.specs.Modes.{with_mode}
use Rattle.rhai_errors.specs.declared.error.EvalAltResult.{EvalAltResult}
use Rattle.rhai_state.specs.Scope.{found, index_of, value_in}
use Rattle.rhai_machine.specs.language.State.{Local}
use Rattle.rhai_machine.specs.language.Values.{flat, is_handle}
use Rattle.rhai_machine.specs.language.Places.{Place, InEntry}
use Rattle.rhai_machine.specs.language.Activations.{Variables, Caller}
use Rattle.rhai_machine.specs.language.Frames.{Lender, FromEntry, Control, Core, Frame, Ask, Question, Fire, AskUpdate, QuestionUpdate}
use Rattle.rhai_machine.specs.language.Frames.{FireUpdate, ForTurn, ForItem, Share, ChainArguments, ChainRoot, ReadRoot, Walk, Locate}
use Rattle.rhai_machine.specs.language.Frames.{Back, DefineValue, CallEnd}

-- a place that is no entry of the scope, or another entry than this
abbrev pub IsOther : (index : ℕ) → Place → Type 0
IsOther index (InEntry at) = index ≡ at → ⊥
IsOther index _ = ⊤

-- a lender that lends no entry of the scope, or another one than this
abbrev pub LendsOther : (index : ℕ) → Option Lender → Type 0
LendsOther index (Some (FromEntry at)) = index ≡ at → ⊥
LendsOther index _ = ⊤

module _ {H : Type 0} where
  -- read-only throughout: to set that mode, in all items of arrays and maps too, changes nothing
  abbrev pub IsConstant : Dynamic H → Type 0
  IsConstant v = with_mode ReadOnly v ≡ v

  -- the entry at a place has this value
  abbrev pub HasEntry : (index : ℕ) → Dynamic H → Local H → Type 0
  HasEntry index v l = value_in l.scope (Some index) ≡ Some v

  -- ---- the scope at the bottom

  -- a function that has variables of its own keeps its caller's in the frame of its end
  abbrev pub is_callers : Variables H → Bool
  is_callers (Caller scope) = false
  is_callers _ = true

  -- the variables are those of the bottom: no function on the stack has its own
  abbrev pub is_bottom : List (Frame H) → Bool
  is_bottom [] = true
  is_bottom (CallEnd exit ∷ k) = is_callers exit.variables && is_bottom k
  is_bottom (_ ∷ k) = is_bottom k

  -- ---- the two steps that may replace a constant

  -- a variable that is found at a place becomes the handle of a cell, where it is none
  abbrev pub shares : (index : ℕ) → (at : Option ℕ) → (there : Option (Dynamic H)) → Bool
  shares index (Some at) (Some v) = nat_eq index at && not (is_handle v.value)
  shares index _ _ = false

  -- a value that came is written to a place
  abbrev pub overwrites : (index : ℕ) → (at : Option ℕ) → Result (Dynamic H) (EvalAltResult H) → Bool
  overwrites index (Some at) (Ok v) = nat_eq index at
  overwrites index _ _ = false

  -- the next step shares the entry at a place of the scope at the bottom, or a `let` with an index writes it
  abbrev pub replaces_at : (index : ℕ) → Control H → List (Frame H) → Local H → Bool
  replaces_at index (Share (variable ∷ rest)) k l =
      is_bottom k && shares index (index_of variable.ident.name l.scope) (found variable.ident.name l.scope)
  replaces_at index (Back v) (DefineValue ident (Some offset) options restoring value_at ∷ k) l =
      is_bottom k && overwrites index (index_of ident.name l.scope) (flat l.around.cells v value_at)
  replaces_at index _ k l = false

  -- the next step of a core shares the entry at a place, or a `let` with an index writes it
  abbrev pub replaces : (index : ℕ) → Core H → Bool
  replaces index c = replaces_at index c.control c.stack c.local

  -- ---- controls that write another entry at most

  -- values without a bare handle among them
  abbrev pub AreFlat : List (Dynamic H) → Type 0
  AreFlat [] = ⊤
  AreFlat (v ∷ vs) = IsNoHandle v.value × AreFlat vs

  -- A control is not about to write the entry at a place: in the midst of a call or an update the place is another, in the midst of a
  -- `for` its variables are newer, and in the midst of a chain the values that its links ask for are no handles.
  abbrev pub Spares : (index : ℕ) → Control H → Type 0
  Spares index (Ask call) = LendsOther index call.lender
  Spares index (Question call) = LendsOther index call.lender
  Spares index (Fire call) = LendsOther index call.lender
  Spares index (AskUpdate u) = IsOther index u.place
  Spares index (QuestionUpdate u) = IsOther index u.place
  Spares index (FireUpdate u) = IsOther index u.place
  Spares index (ForTurn loop left turn base) = index < base
  Spares index (ForItem loop item rest turn base) = index < base
  Spares index (ChainArguments chain rest made) = AreFlat made
  Spares index (ChainRoot chain) = AreFlat chain.args
  Spares index (ReadRoot variable chain) = AreFlat chain.args
  Spares index (Walk chain) = AreFlat chain.args
  Spares index (Locate link chain) = AreFlat chain.args
  Spares index _ = ⊤
