-- Temporaries that the walk of a chain goes on on: the value of a method, of a member, a missing key, and a part.
use Rattle.std.proofs.Common.{◌≡◌, ℕ, Bool, true, false, List, ◌∷◌, Option, Some, None, Result, Ok, Err, refl, sym, ap, ◌∙◌}
use Rattle.std.specs.Prelude.{length, take}
use Rattle.std.specs.Option.{unwrap_or}
use Rattle.rhai_tree.specs.declared.position.Position.{Position}
use Rattle.rhai_tree.specs.declared.expr.Expr.{Expr}
use Rattle.rhai_tree.specs.Layers.{ExprLayer}
use Rattle.rhai_values.specs.declared.base.value.Dynamic.{Dynamic}
use Rattle.rhai_errors.specs.declared.error.EvalAltResult.{EvalAltResult}
use Rattle.rhai_errors.specs.declared.error.EvalAltResult.TheVariants as error
use Rattle.rhai_errors.specs.Errors.{is_out_of_memory}
use Rattle.rhai_machine.specs.machine.Point.{after}
use Rattle.rhai_machine.specs.machine.Memory.{here, next, out_before_step, ◌⨾◌, Leads}
use Rattle.rhai_machine.specs.language.Setting.{Rules, cut}
use Rattle.rhai_machine.specs.language.State.{Local, State}
use Rattle.rhai_machine.specs.language.Values.{unit_value}
use Rattle.rhai_spots.specs.declared.spot.Spot.{Spot}
use Rattle.rhai_machine.specs.language.Links.{Link, first_position}
use Rattle.rhai_machine.specs.language.Frames.{Chain, MemberAccess, Frame, Core, core, ended_or_changed, Walk, Temporary, MethodLink}
use Rattle.rhai_machine.specs.language.Frames.{MemberLink}
use Rattle.rhai_machine.specs.language.Frames.{MemberSet, PartMethod}
use Rattle.rhai_machine.specs.language.Located.{args_behind}
use Rattle.rhai_machine.specs.language.Members.{focused_on, get_core, set_core}
use Rattle.rhai_machine.specs.language.Methods.{Method, method_core}
use Rattle.rhai_machine.specs.language.Chains.{after_method, method_of}
use Rattle.rhai_machine.specs.language.Runs.{at, Goes, Steps}
use Rattle.rhai_machine.specs.language.Language.{machine}
use Rattle.rhai_steps.specs.Follows.{Follows, Does, FindsNoMemory}
use Rattle.rhai_links.specs.Walking.{behind_value}
use Rattle.rhai_links.proofs.Alike.{begins_alike}

module _ {S H : Type 0} where
  -- a state where this is worked on
  abbrev pub working : Option (Dynamic H) → State S H → State S H
  working focus s = record s { local = focused_on focus s.local }

module _ {S H : Type 0} (rules : Rules S H) where
  -- a result comes up out of a temporary that has no way back
  up_from : (r : Result (Dynamic H × Bool) (EvalAltResult H)) (above : Option (Dynamic H)) (w : Dynamic H) (k : List (Frame H))
      (s : State S H) → Leads (machine rules) (cut rules) (at (ended_or_changed r) (Temporary above None ∷ k) (working (Some w) s))
      (at (ended_or_changed r) k (working above s))
  unfolding after
  up_from (Ok (v, true)) above w k s = next here
  up_from (Ok (v, false)) above w k s = next here
  up_from (Err e) above w k s = next here

  -- a temporary with no way back, which stands where this was worked on
  pub on_temporary : (chain : Chain H) (v w : Dynamic H) (old new : State S H) (r : Result (Dynamic H × Bool) (EvalAltResult H)) →
      Steps rules (Walk chain) (working (Some v) old) (ended_or_changed r) (working (Some w) new) →
      Goes rules (λ k l. core (Walk chain) (Temporary l.focus None ∷ k) (focused_on (Some v) l)) old (core (ended_or_changed r))
      (working old.local.focus new)
  unfolding Goes
  on_temporary chain v w old new r runs k =
      runs (Temporary old.local.focus None ∷ k) ⨾ up_from r old.local.focus w k new

  -- ---- behind a method

  module _ (chain : Chain H) (s : State S H) where
    -- where nothing is behind it its answer is the answer
    pub nothing_behind : (behind : Option ExprLayer) (r : Result (Dynamic H × Bool) (EvalAltResult H)) → behind ≡ None →
        Goes rules (λ k l. core (ended_or_changed r) (behind_value behind chain k) l) s (core (ended_or_changed r)) s
    unfolding Goes
    nothing_behind behind r none k = rw none here

    -- what is behind goes on from its value
    pub goes_behind : (behind : Option ExprLayer) (rest : ExprLayer) (v : Dynamic H) (changed : Bool)
        (r : Result (Dynamic H × Bool) (EvalAltResult H)) (new : State S H) → behind ≡ Some rest →
        Goes rules (λ k l. core (Walk (record chain { rest = rest })) (Temporary l.focus None ∷ k) (focused_on (Some v) l)) s
        (core (ended_or_changed r)) new →
        Goes rules (λ k l. core (ended_or_changed (Ok (v, changed))) (behind_value behind chain k) l) s (core (ended_or_changed r)) new
    unfolding Goes after
    goes_behind behind rest v true r new some runs k = rw some (next (next (runs k)))
    goes_behind behind rest v false r new some runs k = rw some (next (runs k))

    -- its error is the error
    pub fails_behind : (behind : Option ExprLayer) (e : EvalAltResult H) →
        Goes rules (λ k l. core (ended_or_changed (Err e)) (behind_value behind chain k) l) s (core (ended_or_changed (Err e))) s
    unfolding Goes after
    fails_behind None e k = here
    fails_behind (Some rest) e k = next here

  -- what waits for a method's value, by the arguments that are left
  after_is : (behind : Option ExprLayer) (link : Link) (chain : Chain H) (args : List (Dynamic H)) (k : List (Frame H)) →
      args_behind link.form chain.args ≡ args →
      after_method behind link chain k ≡ behind_value behind (record chain { args = args; in_place = false }) k
  after_is None link chain args k left = refl
  after_is (Some rest) link chain args k left =
      ap (λ (xs : List (Dynamic H)). MethodLink (record chain { rest = rest; args = xs; in_place = false }) ∷ k) left

  -- a method is called, and then comes what is behind it
  pub method_goes : (start : List (Frame H) → Local H → Core H) (link : Link) (chain : Chain H) (args : List (Dynamic H))
      (old mid new : State S H) (answer r : Result (Dynamic H × Bool) (EvalAltResult H)) →
      args_behind link.form chain.args ≡ args → Goes rules start old (core (ended_or_changed answer)) mid →
      Goes rules (λ k l. core (ended_or_changed answer) (behind_value link.behind (record chain { args = args; in_place = false }) k) l) mid
      (core (ended_or_changed r)) new →
      Goes rules (λ k. start (after_method link.behind link chain k)) old (core (ended_or_changed r)) new
  unfolding Goes
  method_goes start link chain args old mid new answer r left calls goes k = rw (after_is link.behind link chain args k left)
      (calls (behind_value link.behind (record chain { args = args; in_place = false }) k) ⨾ goes k)

  -- a method is called with the first of the arguments
  module _ (name : List ℕ) (asked : List Expr) (pos : Position) (was_handle : Bool) (chain : Chain H) (given : List (Dynamic H))
      (is : given ≡ take (length asked) chain.args) (v : Dynamic H) (old new : State S H)
      (r : Result (Dynamic H × Bool) (EvalAltResult H)) where
    abbrev method : Method
    method = record { name = name; at = pos; first_at = first_position asked; was_handle = was_handle }

    -- on the focus
    pub focus_called : old.local.focus ≡ Some v →
        Goes rules (method_core rules.setting method given v) old (core (ended_or_changed r)) new →
        Goes rules (method_of rules.setting name asked pos was_handle chain) old (core (ended_or_changed r)) new
    focus_called stands runs = begins_alike rules (method_core rules.setting method given v)
        (method_of rules.setting name asked pos was_handle chain) old new r
        (λ k. ap (λ (o : Option (Dynamic H)).
        method_core rules.setting method (take (length asked) chain.args) (unwrap_or o unit_value) k old.local) stands
        ∙ ap (λ (xs : List (Dynamic H)). method_core rules.setting method xs v k old.local) (sym is)) runs

    -- and on a part
    pub called_on_part : (source : Dynamic H) (there : Spot) →
        Goes rules (λ k l. method_core rules.setting method given v (PartMethod source there pos ∷ k)
        (focused_on (Some v) l)) old (core (ended_or_changed r)) new →
        Goes rules (λ k l. method_of rules.setting name asked pos was_handle chain (PartMethod source there pos ∷ k) (focused_on
        (Some v) l)) old (core (ended_or_changed r)) new
    called_on_part source there runs = begins_alike rules
        (λ k l. method_core rules.setting method given v (PartMethod source there pos ∷ k) (focused_on (Some v) l))
        (λ k l. method_of rules.setting name asked pos was_handle chain (PartMethod source there pos ∷ k) (focused_on (Some v) l)) old new r
        (λ k. ap (λ (xs : List (Dynamic H)).
        method_core rules.setting method xs v (PartMethod source there pos ∷ k) (focused_on (Some v) old.local)) (sym is)) runs

  -- ---- with a way back

  -- the walk goes on on a temporary, and that goes back
  pub goes_back : (chain : Chain H) (above : Option (Dynamic H)) (back : Option (MemberAccess H)) (v w : Dynamic H)
      (old mid new : State S H) (answer r : Result (Dynamic H × Bool) (EvalAltResult H)) →
      Steps rules (Walk chain) (working (Some v) old) (ended_or_changed answer) (working (Some w) mid) →
      Goes rules (λ k l. core (ended_or_changed answer) (Temporary above back ∷ k) (focused_on (Some w) l)) mid
      (core (ended_or_changed r)) new →
      Goes rules (λ k l. core (Walk chain) (Temporary above back ∷ k) (focused_on (Some v) l)) old (core (ended_or_changed r)) new
  unfolding Goes
  goes_back chain above back v w old mid new answer r walks comes k = walks (Temporary above back ∷ k) ⨾ comes k

  -- memory runs out before the walk goes on
  pub back_runs_out : (chain : Chain H) (back : Option (MemberAccess H)) (v above : Dynamic H) (s : State S H) (e : EvalAltResult H) →
      is_out_of_memory e ≡ true → s ≡ working (Some above) s →
      Goes rules (λ k l. core (Walk chain) (Temporary (Some above) back ∷ k) (focused_on (Some v) l)) s (core (ended_or_changed (Err e))) s
  unfolding Goes after
  back_runs_out chain back v above s (error.ErrorOutOfMemory pos) is_out stands k =
      out_before_step {at = pos} (next (rw stands here))
  back_runs_out chain back v above s e is_out stands k = cc

  module _ (above w : Dynamic H) (s : State S H) where
    abbrev from_temporary : Option (MemberAccess H) → Result (Dynamic H × Bool) (EvalAltResult H) → List (Frame H) → Local H → Core H
    from_temporary back r k l = core (ended_or_changed r) (Temporary (Some above) back ∷ k) (focused_on (Some w) l)

    -- it has none
    pub no_way_back : (back : Option (MemberAccess H)) (r : Result (Dynamic H × Bool) (EvalAltResult H)) → back ≡ None →
        Goes rules (from_temporary back r) s (core (ended_or_changed r)) (working (Some above) s)
    unfolding Goes
    no_way_back back r none k = rw none (up_from r (Some above) w k s)

    -- it was not changed
    pub comes_unchanged : (back : Option (MemberAccess H)) (v : Dynamic H) →
        Goes rules (from_temporary back (Ok (v, false))) s (core (ended_or_changed (Ok (v, false)))) (working (Some above) s)
    unfolding Goes after
    comes_unchanged back v k = next here

    -- or the walk failed
    pub comes_failed : (back : Option (MemberAccess H)) (e : EvalAltResult H) →
        Goes rules (from_temporary back (Err e)) s (core (ended_or_changed (Err e))) (working (Some above) s)
    unfolding Goes after
    comes_failed back e k = next here

    -- it was changed, and is set
    pub set_there : (back : Option (MemberAccess H)) (access : MemberAccess H) (v : Dynamic H) (new : State S H)
        (r : Result (Dynamic H × Bool) (EvalAltResult H)) → back ≡ Some access →
        Goes rules (λ k. set_core true access w (MemberSet v ∷ k)) (working (Some above) s) (core (ended_or_changed r)) new →
        Goes rules (from_temporary back (Ok (v, true))) s (core (ended_or_changed r)) new
    unfolding Goes after
    set_there back access v new r some runs k = rw some (next (runs k))

  -- once it is set the walk's value comes back
  pub set_ends : (access : MemberAccess H) (w v : Dynamic H) (old new : State S H) (answer : Dynamic H) (changed : Bool) →
      Goes rules (set_core true access w) old (core (ended_or_changed (Ok (answer, changed)))) new →
      Goes rules (λ k. set_core true access w (MemberSet v ∷ k)) old (core (ended_or_changed (Ok (v, true)))) new
  unfolding Goes after
  set_ends access w v old new answer true runs k = runs (MemberSet v ∷ k) ⨾ next (next here)
  set_ends access w v old new answer false runs k = runs (MemberSet v ∷ k) ⨾ next here

  pub set_fails : (access : MemberAccess H) (w v : Dynamic H) (old new : State S H) (e : EvalAltResult H) →
      Goes rules (set_core true access w) old (core (ended_or_changed (Err e))) new →
      Goes rules (λ k. set_core true access w (MemberSet v ∷ k)) old (core (ended_or_changed (Err e))) new
  unfolding Goes after
  set_fails access w v old new e runs k = runs (MemberSet v ∷ k) ⨾ next here

  -- ---- members

  -- the walk goes on from the value of a member
  pub got_goes : (access kept : MemberAccess H) (chain : Chain H) (v : Dynamic H) (old mid new : State S H)
      (r : Result (Dynamic H × Bool) (EvalAltResult H)) → Goes rules (get_core access) old (core (ended_or_changed (Ok (v, false)))) mid →
      Goes rules (λ k l. core (Walk chain) (Temporary mid.local.focus (Some kept) ∷ k) (focused_on (Some v) l)) mid
      (core (ended_or_changed r)) new →
      Goes rules (λ k. get_core access (MemberLink kept chain ∷ k)) old (core (ended_or_changed r)) new
  unfolding Goes after
  got_goes access kept chain v old mid new r gets goes k = gets (MemberLink kept chain ∷ k) ⨾ next (goes k)

  -- or it fails
  pub got_fails : (access kept : MemberAccess H) (chain : Chain H) (old new : State S H) (e : EvalAltResult H) →
      Follows rules ended_or_changed (get_core access) old (Err e) new →
      Follows rules ended_or_changed (λ k. get_core access (MemberLink kept chain ∷ k)) old (Err e) new
  unfolding Goes after
  got_fails access kept chain old new e (Does gets) = Does (λ k. gets (MemberLink kept chain ∷ k) ⨾ next here)
  got_fails access kept chain old new e (FindsNoMemory pos is stays) = FindsNoMemory pos is stays
