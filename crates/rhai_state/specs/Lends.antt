-- What becomes of a scope whose entry was lent, once the borrow has ended.
use Rattle.std.specs.Prelude.{ℕ, slice_get}
use Rattle.std.specs.Borrow.{Lends, MutBor, RattleType, Fml}
use Rattle.rhai_state.specs.contracts.scope.Scope as scope
use Rattle.rhai_values.specs.contracts.base.value.Dynamic as dynamic
use Rattle.rhai_state.specs.declared.scope.Scope.{Scope}
use Rattle.rhai_values.specs.declared.base.value.Dynamic.{Dynamic}
use Rattle.rhai_state.specs.Scope.{revalued}

-- a scope stays, whatever is written to a place beside its variables
abbrev pub lends_spare : (H : RattleType) → MutBor (Scope H.Denot) → MutBor (Dynamic H.Denot) → Fml
lends_spare H s r = Lends (scope.the_row H) (dynamic.the_row H) s r (λ value. s.now)

-- the entry that is lent ends with the value that it was changed to
abbrev pub lends_value : (H : RattleType) → MutBor (Scope H.Denot) → ℕ → MutBor (Dynamic H.Denot) → Fml
lends_value H s at r = Lends (scope.the_row H) (dynamic.the_row H) s r
    (λ value. record s.now { entries = revalued s.now.entries at (slice_get s.now.entries at) value })
