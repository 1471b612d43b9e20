-- The call of the indexer that reads, as following an index tells it, and the machine's own.
use Rattle.std.specs.Prelude.{◌≡◌, ◌<◌, ◌≤◌, ◌+◌, List, Some, Result}
use Rattle.rhai_tree.specs.declared.position.Position.{Position}
use Rattle.rhai_values.specs.declared.base.value.Dynamic.{Dynamic}
use Rattle.rhai_values.specs.Cells.{IsNoHandle}
use Rattle.rhai_errors.specs.declared.error.EvalAltResult.{EvalAltResult}
use Rattle.rhai_errors.specs.declared.error.EvalAltResult.TheVariants as error
use Rattle.rhai_errors.specs.Native.{Effect}
use Rattle.rhai_machine.specs.machine.Point.{Reaches}
use Rattle.rhai_machine.specs.language.Setting.{Rules, cut, limit_under}
use Rattle.rhai_machine.specs.language.State.{State}
use Rattle.rhai_machine.specs.language.Places.{InFocus}
use Rattle.rhai_machine.specs.language.Frames.{Frame, ended, Ask, Fail}
use Rattle.rhai_machine.specs.language.Calls.{put_left}
use Rattle.rhai_machine.specs.language.Members.{get_item}
use Rattle.rhai_machine.specs.language.Language.{machine}
use Rattle.rhai_machine.specs.language.Runs.{at}
use Rattle.rhai_index.specs.Indexers.{effect_of, outcome_of, read_call}

module _ {S H : Type 0} (rules : Rules S H) (pos : Position) (object index : Dynamic H) (old : State S H) where
  -- what the call leaves, and what comes of it, as following an index tells them
  abbrev pub effect_told : Effect S H
  effect_told =
      effect_of rules.natives rules.setting.host_type old.local.around.cells old.table (read_call index pos) object

  abbrev pub outcome_told : Result (Dynamic H) (EvalAltResult H)
  outcome_told = outcome_of rules.setting.limits rules.setting.host_type rules.natives old.local.around.cells old.table
      (read_call index pos) object

  -- the state behind the call: one operation more is counted, and the table's state and the focus are as the call leaves them
  abbrev pub state_told : State S H
  state_told = record old {
    table = effect_told.state;
    count = old.count + 1;
    local = put_left (Some InFocus) effect_told.first old.local;
  }

  -- Over any stack the machine, asking for the indexer on this focus, comes to what is told of it: to the refusal of its charge, and else to
  -- the outcome, in the state that is told.
  pub record IsAsked : Type 0 where
    pub refused : (k : List (Frame H)) → limit_under rules ≤ old.count → Reaches (machine rules) (cut rules)
        (at (Ask (get_item pos object index)) k old) (at (Fail (error.ErrorTooManyOperations pos)) k old)
    pub called : (k : List (Frame H)) → old.count < limit_under rules → Reaches (machine rules) (cut rules)
        (at (Ask (get_item pos object index)) k old) (at (ended outcome_told) k state_told)

-- the indexer that following an index calls on a focus, which is no handle, is the machine's `Ask` of it
abbrev pub IndexerIsAsked : {S H : Type 0} → Rules S H → Type 0
IndexerIsAsked {S} {H} rules = (pos : Position) (object index : Dynamic H) (old : State S H) → IsNoHandle object.value →
    old.local.focus ≡ Some object → IsAsked rules pos object index old
