-- The indexers of a host: where one is asked, what it is asked, and what its answer comes to. The focus is `object`.
use Rattle.std.specs.Prelude.{ℕ, ◌+◌, nat_lt, Bool, true, false, not, ◌&&◌, List, [], ◌∷◌, Option, Some, Result, Ok, Err, codes, length}
use Rattle.rhai_tree.specs.declared.position.Position.{Position}
use Rattle.rhai_tree.specs.Position.{none}
use Rattle.rhai_index.specs.Types.{Dynamic, EvalAltResult, GlobalRuntimeState, Limits, Part}
use Rattle.rhai_errors.specs.declared.error.EvalAltResult.TheVariants as error
use Rattle.rhai_values.specs.declared.base.value.FnPtrKind.TheOpen as layer
use Rattle.rhai_values.specs.Layers.{UnionLayer}
use Rattle.rhai_errors.specs.Native.{Request, Reply, Missing, Gives, Faults, Effect, Natives, Named, OfName, effect, request}
use Rattle.rhai_values.specs.TypeNames.{type_name_of}
use Rattle.rhai_spots.specs.declared.part.Part.TheVariants as part
use Rattle.rhai_errors.specs.Errors.{indexing_text}
use Rattle.rhai_machine.specs.language.Calls.{with_position, sized}
use Rattle.rhai_machine.specs.language.Places.{is_barred as barred}

-- a call of an indexer on the focus: its name, the index, the values after it, whether the focus is lent to it, and where
-- the call stands
pub record IndexerCall (H : Type 0) : Type 0 where
  pub name : List ℕ
  pub index : Dynamic H
  pub values : List (Dynamic H)
  pub is_lent : Bool
  pub at : Position

module _ {H : Type 0} where
  -- the indexer that reads, to which the focus is lent
  abbrev pub read_call : (index : Dynamic H) → Position → IndexerCall H
  read_call index at = record { name = codes "index$get$"; index = index; values = []; is_lent = true; at = at }

  -- ---- where one is asked

  -- whether a value is of a kind that is indexed without a host
  abbrev pub is_indexed : UnionLayer H → Bool
  is_indexed (layer.Int number) = true
  is_indexed (layer.Str text) = true
  is_indexed (layer.Array items) = true
  is_indexed (layer.Blob bytes) = true
  is_indexed (layer.Map entries) = true
  is_indexed _ = false

  -- whether the host's indexer is asked: it may be, and the focus is of another kind
  abbrev pub asks_indexer : (use_indexers : Bool) → UnionLayer H → Bool
  asks_indexer use_indexers object = use_indexers && not (is_indexed object)

  -- whether the host's indexer is called: it is asked, and there is room for two charges
  abbrev pub is_called : Limits → GlobalRuntimeState H → (use_indexers : Bool) → UnionLayer H → Bool
  is_called limits global use_indexers object =
      asks_indexer use_indexers object && nat_lt (global.num_operations + 1) limits.max_operations

  -- whether an indexer does not get the focus: it gets no constant that is lent to it, unless it is pure
  abbrev pub is_barred : (is_lent is_pure : Bool) → Dynamic H → Bool
  is_barred is_lent is_pure object = is_lent && barred is_pure object

  -- ---- what it leaves

  -- what is asked of the table for an indexer's name
  abbrev pub indexer_request : List (Option (Dynamic H)) → (name : List ℕ) → (object : Dynamic H) → (others : List (Dynamic H)) →
      Position → Request H
  indexer_request cells name object others at = request cells (Named name) (Some object) others at

  -- what is asked of the table for a call
  abbrev pub request_of : List (Option (Dynamic H)) → IndexerCall H → (object : Dynamic H) → Request H
  request_of cells call object = indexer_request cells call.name object (call.index ∷ call.values) call.at

  module _ {S : Type 0} (natives : Natives S H) where
    -- what a call of a name leaves: a focus that is barred is not touched
    abbrev pub call_effect : List (Option (Dynamic H)) → Position → (barred : Bool) → S → (name : List ℕ) → (object : Dynamic H) →
        (others : List (Dynamic H)) → Effect S H
    call_effect cells at true t name object others = effect (Faults (error.ErrorNonPureMethodCallOnConstant name none)) (Some object) t
    call_effect cells at false t name object others = natives.gives t (indexer_request cells name object others at)

    module _ (host : H → List ℕ) (cells : List (Option (Dynamic H))) (t : S) where
      -- whether an indexer changes nothing of a focus of this type, with so many arguments
      abbrev pub is_pure_on : (name : List ℕ) → (object : Dynamic H) → (count : ℕ) → Bool
      is_pure_on name object count = natives.pure t (OfName name (type_name_of host cells object) count)

      -- whether the indexer of a call changes nothing of the focus
      abbrev pub is_pure_for : IndexerCall H → (object : Dynamic H) → Bool
      is_pure_for call object = is_pure_on call.name object (length (object ∷ call.index ∷ call.values))

      -- what a call leaves
      abbrev pub effect_of : IndexerCall H → (object : Dynamic H) → Effect S H
      effect_of call object =
          call_effect cells call.at (is_barred call.is_lent (is_pure_for call object) object) t call.name object (call.index ∷ call.values)

  -- ---- what its answer comes to

  -- a value of a size that is allowed, the indexer's fault, or the refusal of the focus and the index
  abbrev pub indexer_result : Limits → (H → List ℕ) → List (Option (Dynamic H)) → (object index : Dynamic H) → Position → Reply H →
      Result (Dynamic H) (EvalAltResult H)
  indexer_result limits host cells object index at Missing =
      Err (error.ErrorIndexingType (indexing_text (type_name_of host cells object) (type_name_of host cells index)) at)
  indexer_result limits host cells object index at (Gives v) = sized limits v at
  indexer_result limits host cells object index at (Faults e) = Err (with_position at e)

  -- what comes of a call
  abbrev pub outcome_of : {S : Type 0} → Limits → (H → List ℕ) → Natives S H → List (Option (Dynamic H)) → S → IndexerCall H →
      (object : Dynamic H) → Result (Dynamic H) (EvalAltResult H)
  outcome_of limits host natives cells t call object =
      indexer_result limits host cells object call.index call.at (effect_of natives host cells t call object).reply

  -- an outcome by itself, whatever the indexer may have changed
  abbrev pub by_itself : (is_pure : Bool) → Result (Dynamic H) (EvalAltResult H) → Result (Dynamic H) (EvalAltResult H)
  by_itself is_pure outcome = outcome

  -- its value as a part of a target: a temporary
  abbrev pub as_temporary : Result (Dynamic H) (EvalAltResult H) → Result (Part H) (EvalAltResult H)
  as_temporary (Ok v) = Ok (part.Temporary v)
  as_temporary (Err e) = Err e
