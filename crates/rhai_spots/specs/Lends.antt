-- What becomes of what is shown beside a place, once the borrow has ended.
use Rattle.std.specs.Borrow.{Lends, MutBor, RattleType, Fml}
use Rattle.rhai_values.specs.contracts.base.value.Dynamic as dynamic
use Rattle.rhai_spots.specs.contracts.part.Part as part
use Rattle.rhai_spots.specs.Types.{Dynamic, Part}
use Rattle.rhai_spots.specs.Targets.{with_shown}

module _ (H : RattleType) where
  -- a temporary or a part ends with what it was changed to
  abbrev pub lends_shown : MutBor (Part H.Denot) → MutBor (Dynamic H.Denot) → Fml
  lends_shown s r = Lends (part.the_row H) (dynamic.the_row H) s r (with_shown s.now)
