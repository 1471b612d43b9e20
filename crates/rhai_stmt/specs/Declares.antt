-- What a `let` or a `const` leaves once its value is there.
use Rattle.std.specs.Prelude.{◌≡◌, ℕ, Bool, true, false, List, Option, slice_get}
use Rattle.std.specs.declared.num.NonZeroUsize.{NonZeroUsize}
use Rattle.rhai_tree.specs.declared.expr.Ident.{Ident}
use Rattle.rhai_tree.specs.declared.flags.ASTFlags.{ASTFlags}
use Rattle.rhai_values.specs.declared.base.value.Dynamic.{Dynamic}
use Rattle.rhai_errors.specs.declared.error.EvalAltResult.{EvalAltResult}
use Rattle.rhai_state.specs.declared.scope.ScopeEntry.{ScopeEntry}
use Rattle.rhai_state.specs.Scope.{aliased}
use Rattle.rhai_machine.specs.language.Frames.{Frame, Back, Fail, core}
use Rattle.rhai_machine.specs.language.State.{Local}
use Rattle.rhai_machine.specs.language.Statements.{defined_core}
use Rattle.rhai_machine.specs.language.Values.{unit_value}

module _ {H : Type 0} where
  -- a declaration leads from one state to another by the machine's rule, which gives `()`
  abbrev pub Declares : Dynamic H → Ident → (index : Option NonZeroUsize) → ASTFlags → (restoring : Bool) → (old new : Local H) → Type 0
  Declares v ident index options restoring old new =
      (k : List (Frame H)) → defined_core v ident index options restoring k old ≡ core (Back unit_value) k new

  -- a declaration leads to an error by the machine's rule: it is to be exported, and no variable has its name
  abbrev pub Misses : Dynamic H → Ident → (index : Option NonZeroUsize) → ASTFlags → (restoring : Bool) → EvalAltResult H →
      (old new : Local H) → Type 0
  Misses v ident index options restoring e old new =
      (k : List (Frame H)) → defined_core v ident index options restoring k old ≡ core (Fail e) k new

  -- the entries of a scope, where that of an exported variable has its own name as an alias
  abbrev pub own_alias : (exported : Bool) → List (ScopeEntry H) → (at : ℕ) → List ℕ → List (ScopeEntry H)
  own_alias true entries at name = aliased entries at (slice_get entries at) name
  own_alias false entries at name = entries
