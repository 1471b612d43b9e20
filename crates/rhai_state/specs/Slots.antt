-- What becomes of a place beside the variables, once the borrow has ended.
use Rattle.std.specs.Borrow.{Lends, MutBor, RattleType, Fml}
use Rattle.rhai_values.specs.contracts.base.value.Dynamic as dynamic
use Rattle.rhai_values.specs.declared.base.value.Dynamic.{Dynamic}
use Rattle.rhai_state.specs.contracts.slot.Slot as slot

-- it shows nothing of what is written there
abbrev pub lends_slot : (H : RattleType) → MutBor (Unit {0}) → MutBor (Dynamic H.Denot) → Fml
lends_slot H s r = Lends (slot.the_row H) (dynamic.the_row H) s r (λ value. tt)
