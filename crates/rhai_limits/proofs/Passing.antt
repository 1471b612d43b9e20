-- The error of a limit passes each frame, and so it ends the run.
use Rattle.std.proofs.Common.{refl, ◌∙◌, subst}
use Rattle.std.specs.Prelude.{◌≡◌, ℕ, Bool, true, false, List, [], ◌∷◌, Some}
use Rattle.rhai_tree.specs.declared.position.Position.{Position}
use Rattle.rhai_errors.specs.declared.error.EvalAltResult.{EvalAltResult}
use Rattle.rhai_errors.specs.declared.error.EvalAltResult.TheVariants as error
use Rattle.rhai_errors.specs.Errors.{at_position, is_limit}
use Rattle.rhai_machine.specs.machine.Machine.{Move, Halt, Go, Charge, Native, AskPure, Config, Run, ended, next, act}
use Rattle.rhai_machine.specs.machine.Unwinding.{Passes, Unwound}
use Rattle.rhai_machine.specs.language.Setting.{Rules}
use Rattle.rhai_machine.specs.language.State.{Local}
use Rattle.rhai_machine.specs.language.Frames.{Control, Frame, Core, NewValue, Member, Property, Item, MemberAccess, MemberGot, Fail}
use Rattle.rhai_machine.specs.language.Frames.{CallEnd, Top}
use Rattle.rhai_machine.specs.language.Unwinding.{down_core, got_none}
use Rattle.rhai_machine.specs.language.Language.{move_at, machine}
use Rattle.rhai_limits.specs.Limits.{IsOnItsWay, LimitsOnlyUnwind}

module _ {S H : Type 0} (rules : Rules S H) where
  -- the error of a limit is no absence of an indexer
  member_passes : (member : Member H) (e : EvalAltResult H) → is_limit e ≡ true → (access : MemberAccess H) (new : NewValue H)
      (at : Position) (k : List (Frame H)) (l : Local H) →
      IsOnItsWay e (got_none rules.setting false member (at_position at e) access new k l)
  member_passes (Property name pos) e limit access new at k l = (at, refl)
  member_passes (Item index) (error.ErrorTooManyOperations p) limit access new at k l = (at, refl)
  member_passes (Item index) (error.ErrorTooManyVariables p) limit access new at k l = (at, refl)
  member_passes (Item index) (error.ErrorTooManyModules p) limit access new at k l = (at, refl)
  member_passes (Item index) (error.ErrorStackOverflow p) limit access new at k l = (at, refl)
  member_passes (Item index) (error.ErrorDataTooLarge text p) limit access new at k l = (at, refl)
  member_passes (Item index) _ limit access new at k l = cc

  -- the error of each limit passes each frame
  operations_pass : (frame : Frame H) (p at : Position) (k : List (Frame H)) (l : Local H) →
      IsOnItsWay (error.ErrorTooManyOperations p) (down_core rules.setting frame (error.ErrorTooManyOperations at) k l)
  operations_pass (Top true) p at k l = (at, refl)
  operations_pass (Top false) p at k l = (at, refl)
  operations_pass (CallEnd exit) p at k l = (exit.at, refl)
  operations_pass (MemberGot access root new) p at k l =
      member_passes access.member (error.ErrorTooManyOperations p) refl access new at k l
  operations_pass _ p at k l = (at, refl)

  variables_pass : (frame : Frame H) (p at : Position) (k : List (Frame H)) (l : Local H) →
      IsOnItsWay (error.ErrorTooManyVariables p) (down_core rules.setting frame (error.ErrorTooManyVariables at) k l)
  variables_pass (Top true) p at k l = (at, refl)
  variables_pass (Top false) p at k l = (at, refl)
  variables_pass (CallEnd exit) p at k l = (exit.at, refl)
  variables_pass (MemberGot access root new) p at k l =
      member_passes access.member (error.ErrorTooManyVariables p) refl access new at k l
  variables_pass _ p at k l = (at, refl)

  modules_pass : (frame : Frame H) (p at : Position) (k : List (Frame H)) (l : Local H) →
      IsOnItsWay (error.ErrorTooManyModules p) (down_core rules.setting frame (error.ErrorTooManyModules at) k l)
  modules_pass (Top true) p at k l = (at, refl)
  modules_pass (Top false) p at k l = (at, refl)
  modules_pass (CallEnd exit) p at k l = (exit.at, refl)
  modules_pass (MemberGot access root new) p at k l =
      member_passes access.member (error.ErrorTooManyModules p) refl access new at k l
  modules_pass _ p at k l = (at, refl)

  levels_pass : (frame : Frame H) (p at : Position) (k : List (Frame H)) (l : Local H) →
      IsOnItsWay (error.ErrorStackOverflow p) (down_core rules.setting frame (error.ErrorStackOverflow at) k l)
  levels_pass (Top true) p at k l = (at, refl)
  levels_pass (Top false) p at k l = (at, refl)
  levels_pass (CallEnd exit) p at k l = (exit.at, refl)
  levels_pass (MemberGot access root new) p at k l =
      member_passes access.member (error.ErrorStackOverflow p) refl access new at k l
  levels_pass _ p at k l = (at, refl)

  sizes_pass : (frame : Frame H) (text : List ℕ) (p at : Position) (k : List (Frame H)) (l : Local H) →
      IsOnItsWay (error.ErrorDataTooLarge text p) (down_core rules.setting frame (error.ErrorDataTooLarge text at) k l)
  sizes_pass (Top true) text p at k l = (at, refl)
  sizes_pass (Top false) text p at k l = (at, refl)
  sizes_pass (CallEnd exit) text p at k l = (exit.at, refl)
  sizes_pass (MemberGot access root new) text p at k l =
      member_passes access.member (error.ErrorDataTooLarge text p) refl access new at k l
  sizes_pass _ text p at k l = (at, refl)

  frame_passes : (e : EvalAltResult H) → is_limit e ≡ true → (frame : Frame H) (at : Position) (k : List (Frame H)) (l : Local H) →
      IsOnItsWay e (down_core rules.setting frame (at_position at e) k l)
  frame_passes (error.ErrorTooManyOperations p) limit frame at k l = operations_pass frame p at k l
  frame_passes (error.ErrorTooManyVariables p) limit frame at k l = variables_pass frame p at k l
  frame_passes (error.ErrorTooManyModules p) limit frame at k l = modules_pass frame p at k l
  frame_passes (error.ErrorStackOverflow p) limit frame at k l = levels_pass frame p at k l
  frame_passes (error.ErrorDataTooLarge text p) limit frame at k l = sizes_pass frame text p at k l
  frame_passes _ limit frame at k l = cc

  module _ (e : EvalAltResult H) (limit : is_limit e ≡ true) where
    passes : (at : Position) (k : List (Frame H)) (l : Local H) →
        Passes (IsOnItsWay e) (move_at rules.setting (Fail (at_position at e)) k l)
    passes at [] l = tt
    passes at (frame ∷ k) l = frame_passes e limit frame at k l

    control_passes : (c : Control H) (at : Position) → c ≡ Fail (at_position at e) → (k : List (Frame H)) (l : Local H) →
        Passes (IsOnItsWay e) (move_at rules.setting c k l)
    control_passes c at is k l = rw is (passes at k l)

    -- a step leaves the error on its way, and table, count and calls
    step_unwinds : (allows : ℕ → Bool) (v : Move H (Core H)) (c d : Config S H (Core H)) → Passes (IsOnItsWay e) v →
        act (machine rules) allows v c ≡ Some d → Unwound (IsOnItsWay e) c d
    step_unwinds allows Halt c d p h = cc
    step_unwinds allows (Go below) c d p h =
        let same : record c { core = below } ≡ d = cc in
        subst (λ x. Unwound (IsOnItsWay e) c x) same (record { refused = p; table = refl; count = refl; calls = refl })
    step_unwinds allows (Charge at below) c d p h = absurd p
    step_unwinds allows (Native q f) c d p h = absurd p
    step_unwinds allows (AskPure q f) c d p h = absurd p

    one_more : (c d a : Config S H (Core H)) → Unwound (IsOnItsWay e) c d → Unwound (IsOnItsWay e) d a → Unwound (IsOnItsWay e) c a
    one_more c d a first rest = record {
      refused = rest.refused;
      table = rest.table ∙ first.table;
      count = rest.count ∙ first.count;
      calls = rest.calls ∙ first.calls;
    }

    unwinds : (allows : ℕ → Bool) {c a : Config S H (Core H)} → IsOnItsWay e c.core → Run (machine rules) allows c a →
        Unwound (IsOnItsWay e) c a
    unwinds allows is (ended h) = record { refused = is; table = refl; count = refl; calls = refl }
    unwinds allows {c} {a} is (next {d = d} h run) =
        let move = control_passes c.core.control is.0 is.1 c.core.stack c.core.local in
        let first = step_unwinds allows (move_at rules.setting c.core.control c.core.stack c.core.local) c d move h in
        one_more c d a first (unwinds allows first.refused run)

  pub limits_only_unwind : LimitsOnlyUnwind rules
  limits_only_unwind e limit allows c a is run = unwinds e limit allows is run
