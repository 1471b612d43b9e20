-- Calls of indexers: their arguments in a list, how such a call ends, and what it keeps.
use Rattle.std.proofs.Common.{◌≡◌, Bool, true, false, List, [], ◌∷◌, Result}
use Rattle.rhai_tree.specs.declared.position.Position.{Position}
use Rattle.rhai_values.specs.declared.base.value.Dynamic.{Dynamic}
use Rattle.rhai_errors.specs.declared.error.EvalAltResult.{EvalAltResult}
use Rattle.rhai_errors.specs.declared.error.EvalAltResult.TheVariants as error
use Rattle.rhai_machine.specs.machine.Memory.{here, out_before_step}
use Rattle.rhai_machine.specs.language.Setting.{Rules}
use Rattle.rhai_machine.specs.language.State.{State}
use Rattle.rhai_machine.specs.language.Frames.{Call, ended, ended_or_changed, Ask, Fail}
use Rattle.rhai_machine.specs.language.Members.{focus_of, get_core, get_item, set_core, set_item}
use Rattle.rhai_machine.specs.language.Runs.{Runs, Steps, Goes}
use Rattle.rhai_laws.specs.Kept.{Kept}
use Rattle.rhai_laws.proofs.KeptLaws.{kept}
use Rattle.rhai_laws.proofs.ScriptMemory.{runs_up_to_memory, steps_with_memory}
use Rattle.rhai_eval.specs.Ends.{EndsFrom, EndsChanged}
use Rattle.rhai_eval.specs.Indexing.{item_by}
use Rattle.rhai_eval.proofs.ChangedCalls.{ends_changed}

-- a list of two items, each known
pub both_are : {A : Type 0} (xs : List A) (a b x y : A) → xs ≡ a ∷ b ∷ [] → a ≡ x → b ≡ y → xs ≡ x ∷ y ∷ []
both_are xs a b x y is first second = rw (first, second) at is

module _ {S H : Type 0} (rules : Rules S H) where
  -- memory runs out before an indexer is asked
  pub asking_runs_out : (call : Call H) (s : State S H) (pos : Position) → Steps rules (Ask call) s (Fail (error.ErrorOutOfMemory pos)) s
  unfolding Goes
  asking_runs_out call s pos k = out_before_step {at = pos} here

  module _ (index : Dynamic H) (pos : Position) (old new : State S H) where
    module _ (r : Result (Dynamic H) (EvalAltResult H)) (runs : Runs rules (Ask (get_item pos (focus_of old.local) index)) old r new) where
      -- an item that is got
      pub got_ends : EndsFrom rules (get_core (item_by index pos true)) old r new
      unfolding Goes
      got_ends = record {
        runs = λ memory k. steps_with_memory rules r k new memory (runs k);
        up_to = λ k. runs_up_to_memory rules (runs k);
      }

      pub got_kept : Kept rules old new
      got_kept = kept rules (Ask (get_item pos (focus_of old.local) index)) (ended r) old new tt runs

    module _ (guarded : Bool) (v : Dynamic H) (r : Result (Dynamic H × Bool) (EvalAltResult H))
        (runs : Steps rules (Ask (set_item pos guarded (focus_of old.local) index v)) old (ended_or_changed r) new) where
      -- and one that is set
      pub set_ends : EndsChanged rules (set_core false (item_by index pos guarded) v) old r new
      unfolding Goes
      set_ends = ends_changed rules old new r (set_core false (item_by index pos guarded) v) runs

      pub set_kept : Kept rules old new
      set_kept = kept rules (Ask (set_item pos guarded (focus_of old.local) index v)) (ended_or_changed r) old new tt runs
