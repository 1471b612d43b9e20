-- What tells of no change.
use Rattle.std.proofs.Common.{◌≡◌, Bool, true, false, Option, Some, None, is_some, refl}
use Rattle.rhai_values.specs.declared.base.value.Dynamic.{Dynamic}
use Rattle.rhai_errors.specs.declared.error.EvalAltResult.{EvalAltResult}
use Rattle.rhai_machine.specs.language.Frames.{ended, ended_or_changed}
use Rattle.rhai_calls.specs.ToldChanges.{without_changed}
use Rattle.rhai_context.specs.Ends.{came, came_changed, unchanged}

module _ {H : Type 0} where
  -- what tells of no change ends as it does where nothing is told
  pub unchanged_walk_ends : (well : Bool) (v : Dynamic H) (e : Option (EvalAltResult H)) →
      ended_or_changed (came_changed (unchanged well) v e) ≡ ended (came well v e)
  unchanged_walk_ends true v e = refl
  unchanged_walk_ends false v e = refl

  -- and what tells of a change or of none comes to the same where nothing is told
  pub without_came : (mark : Option Bool) (well : Bool) (v : Dynamic H) (e : Option (EvalAltResult H)) → well ≡ is_some mark →
      came well v e ≡ without_changed (came_changed mark v e)
  without_came (Some changed) well v e is = rw is refl
  without_came None well v e is = rw is refl
