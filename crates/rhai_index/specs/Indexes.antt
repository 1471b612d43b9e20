-- What following an index does, as one record.
use Rattle.std.specs.Prelude.{◌≡◌, ◌<◌, ◌≤◌, ◌+◌, ℕ, Bool, true, false, List, Some, Result, Ok, Err, IfOk, IfErr, MatchResult}
use Rattle.rhai_tree.specs.Position.{none}
use Rattle.rhai_index.specs.Types.{Dynamic, EvalAltResult, GlobalRuntimeState, Limits, Part, Spot, Target}
use Rattle.rhai_errors.specs.declared.error.EvalAltResult.TheVariants as error
use Rattle.rhai_values.specs.Cells.{cells_of}
use Rattle.rhai_errors.specs.Errors.{is_out_of_memory}
use Rattle.rhai_values.specs.Layers.{layer_of}
use Rattle.rhai_errors.specs.Native.{AreReached, Effect, Natives}
use Rattle.rhai_spots.specs.declared.spot.Access.{Access}
use Rattle.rhai_spots.specs.Found.{found as found_by, takes_memory, through, IsFound, IsMissed}
use Rattle.rhai_spots.specs.Targets.{IsFit}
use Rattle.rhai_machine.specs.language.State.{HasMemory}
use Rattle.rhai_index.specs.Indexers.{IndexerCall, as_temporary, asks_indexer, effect_of, outcome_of, read_call, request_of}

-- what is fixed; how the focus is indexed; what there is before the call, what is left after it, and its result
module _ {S H T : Type 0} (limits : Limits) (host : H → List ℕ) (natives : Natives S H) (state_of : T → S)
    (how : Access) (use_indexers : Bool) (global_before : GlobalRuntimeState H) (table_before : T) (focus index_before : Dynamic H)
    (global_after : GlobalRuntimeState H) (table_after : T) (index_after : Dynamic H) (result : Result (Target H) (EvalAltResult H)) where
  -- the limit of operations
  abbrev limit : ℕ
  limit = limits.max_operations

  -- how many operations were charged before
  abbrev count : ℕ
  count = global_before.num_operations

  -- whether the host's indexer is asked
  abbrev asked : Bool
  asked = asks_indexer use_indexers (layer_of focus)

  -- what the index gives where it is not
  abbrev found_here : Result (Dynamic H × Spot) (EvalAltResult H)
  found_here = found_by how host (cells_of global_before.cells) focus index_before

  -- the call of the indexer that reads, at the operator
  abbrev call : IndexerCall H
  call = read_call index_before how.op_pos

  -- what the indexer leaves, and what it replies
  abbrev left : Effect S H
  left = effect_of natives host (cells_of global_before.cells) (state_of table_before) call focus

  -- the indexer's value as a temporary, or the error that its call comes to
  abbrev given : Result (Part H) (EvalAltResult H)
  given = as_temporary (outcome_of limits host natives (cells_of global_before.cells) (state_of table_before) call focus)

  -- what following an index ends as
  pub record Indexes : Type 0 where
    -- where the count has reached the limit nothing is done
    pub refused : limit ≤ count → result ≡ Err (error.ErrorTooManyOperations none)
    pub same : limit ≤ count → (global_after ≡ global_before) × (table_after ≡ table_before)
    -- without an indexer one operation is charged, and the index is followed
    pub charged : count < limit → asked ≡ false → global_after ≡ record global_before { num_operations = count + 1 }
    pub found : count < limit → asked ≡ false →
        MatchResult result (λ target. IsFound found_here target.at.now target.part) (λ e. IsMissed found_here e)
    pub memory : count < limit → asked ≡ false →
        IfErr result (λ e. is_out_of_memory e ≡ true → takes_memory how focus (through (cells_of global_before.cells) index_before) ≡ true)
    pub table : asked ≡ false → table_after ≡ table_before
    -- the call of the indexer is refused
    pub indexer_refused : count + 1 ≡ limit → asked ≡ true →
        (result ≡ Err (error.ErrorTooManyOperations how.op_pos)) ×
        ((global_after ≡ record global_before { num_operations = count + 1 }) × (table_after ≡ table_before))
    -- or charged too, and the indexer is called
    pub indexer_charged : count + 1 < limit → asked ≡ true → global_after ≡ record global_before { num_operations = count + 2 }
    pub indexer : count + 1 < limit → asked ≡ true → HasMemory result →
        MatchResult result (λ target. given ≡ Ok target.part) (λ e. given ≡ Err e)
    pub indexer_object : asked ≡ true → IfOk result (λ target. left.first ≡ Some target.at.now)
    pub indexer_state : count + 1 < limit → asked ≡ true → HasMemory result → left.state ≡ state_of table_after
    -- on every way
    pub fit : IfOk result (λ target. IsFit target.part target.at.now)
    pub index : index_after ≡ index_before
    -- on every way, where memory ran out too: what the table's state has then, the state, the focus or the index had before, or what
    -- stands in a cell that those reach
    pub reached : AreReached natives.holds (state_of table_before) (request_of (cells_of global_before.cells) call focus)
        (natives.holds.of_state (state_of table_after))
