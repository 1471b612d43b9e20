-- What a call leaves reaches no more than the call reached.
use Rattle.std.proofs.Common.{◌≡◌, sym, ap, ◌∙◌, flat_map}
use Rattle.rhai_values.specs.Cells.{value_of_cell}
use Rattle.rhai_errors.specs.Native.{Request, IsReached, AreReached, ByState, ByFirst, ByOthers, ByCell}
use Rattle.rhai_values.specs.ValueContents.{Reached, Holdings, contents_of, first_contents}

-- a call on the same cells, in whose state and arguments stands what this one reached, reaches no more
module _ {S H : Type 0} (holds : Holdings S H) {s t : S} {q p : Request H} (same : p.cells ≡ q.cells)
    (by_state : AreReached holds s q (holds.of_state t)) (by_first : AreReached holds s q (first_contents holds.of_host p.first))
    (by_others : AreReached holds s q (flat_map (contents_of holds.of_host) p.rest)) where
  pub reaches_no_more : {r : Reached} → IsReached holds t p r → IsReached holds s q r
  reaches_no_more {r} (ByState held) = by_state r held
  reaches_no_more {r} (ByFirst held) = by_first r held
  reaches_no_more {r} (ByOthers held) = by_others r held
  reaches_no_more {r} (ByCell number v cell is held) =
      ByCell number v (reaches_no_more cell) (ap (λ cells. value_of_cell cells number) (sym same) ∙ is) held
