-- What a call of an indexer does, as one record. The focus is `object`.
use Rattle.std.specs.Prelude.{◌≡◌, ℕ, Bool, List, Option, Some, Result}
use Rattle.rhai_index.specs.Types.{Dynamic, EvalAltResult, Limits}
use Rattle.rhai_errors.specs.Native.{Effect, Natives, Reply}
use Rattle.rhai_machine.specs.language.State.{Answers, HasMemory}
use Rattle.rhai_index.specs.Indexers.{IndexerCall, effect_of, indexer_result, is_pure_for}

-- the result is what is wanted of an effect's reply, and the focus and the table's state are as the effect leaves them, unless
-- memory ran out
pub record Leaves {S H A : Type 0} (e : Effect S H) (wanted : Reply H → Result A (EvalAltResult H)) (object : Dynamic H) (t : S)
    (r : Result A (EvalAltResult H)) : Type 0 where
  pub value : Answers r (wanted e.reply)
  pub first : HasMemory r → e.first ≡ Some object
  pub state : HasMemory r → e.state ≡ t

module _ {S H A : Type 0} (limits : Limits) (host : H → List ℕ) (natives : Natives S H) (cells : List (Option (Dynamic H)))
    (call : IndexerCall H) (made : (is_pure : Bool) → Result (Dynamic H) (EvalAltResult H) → Result A (EvalAltResult H)) where
  -- a call on a focus that is no handle: the table's state and the focus before and after, and the result, which is made of
  -- what comes of the call
  abbrev pub Asked : (t : S) (object : Dynamic H) (t' : S) (left : Dynamic H) → Result A (EvalAltResult H) → Type 0
  Asked t object t' left r =
      Leaves (effect_of natives host cells t call object)
      (λ reply. made (is_pure_for natives host cells t call object) (indexer_result limits host cells object call.index call.at reply))
      left t' r
