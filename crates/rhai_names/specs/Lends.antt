-- What becomes of a scope whose variable was lent, once the borrow has ended.
use Rattle.std.specs.Prelude.{ℕ, List, Option, Some, None, slice_get, Result}
use Rattle.std.specs.declared.num.NonZeroUsize.{NonZeroUsize}
use Rattle.std.specs.Borrow.{LendsIfOk, MutBor, RattleType, Fml}
use Rattle.rhai_values.specs.contracts.base.value.Dynamic as dynamic
use Rattle.rhai_values.specs.declared.base.value.Dynamic.{Dynamic}
use Rattle.rhai_state.specs.contracts.scope.Scope as scope
use Rattle.rhai_state.specs.declared.scope.Scope.{Scope}
use Rattle.rhai_errors.specs.declared.error.EvalAltResult.{EvalAltResult}
use Rattle.rhai_state.specs.Scope.{entries_of, place_of, revalued}

module _ {H : Type 0} where
  -- the entry at an index has another value, and every other entry stays
  abbrev pub with_entry : Scope H → Option ℕ → Dynamic H → Scope H
  with_entry s (Some at) value = record s { entries = revalued s.entries at (slice_get s.entries at) value }
  with_entry s None value = s

  -- the variable of an offset or a name has another value
  abbrev pub with_value : Scope H → Option NonZeroUsize → List ℕ → Dynamic H → Scope H
  with_value s offset name = with_entry s (place_of offset name (entries_of s))

-- the scope ends as the value that is lent changes it, and at an error it stays
abbrev pub lends_variable : (H : RattleType) → MutBor (Scope H.Denot) → (Dynamic H.Denot → Scope H.Denot) →
    Result (MutBor (Dynamic H.Denot)) (EvalAltResult H.Denot) → Fml
lends_variable H s changed r = LendsIfOk (scope.the_row H) (dynamic.the_row H) s r changed s.now
