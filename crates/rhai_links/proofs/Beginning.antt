-- How the walk of a chain begins at a link: the focus is looked at, and the form of the link says where the walk goes.
use Rattle.std.proofs.Common.{◌≡◌, ◌≤◌, ◌<◌, ◌+◌, Bool, true, false, ◌||◌, List, [], Option, Some, None, Result, Ok, Err, refl}
use Rattle.std.proofs.Common.{sym, ap, ◌∙◌}
use Rattle.std.specs.Prelude.{is_some, is_none}
use Rattle.rhai_tree.specs.declared.position.Position.{Position}
use Rattle.rhai_tree.specs.Position.{none}
use Rattle.rhai_values.specs.declared.base.value.Dynamic.{Dynamic}
use Rattle.rhai_values.specs.declared.base.value.Union.{Union}
use Rattle.rhai_values.specs.declared.base.value.Union.TheVariants as value
use Rattle.rhai_values.specs.Cells.{value_of_cell, cells_of}
use Rattle.rhai_values.specs.Layers.{layer_of}
use Rattle.rhai_state.specs.declared.scope.Scope.{Scope}
use Rattle.rhai_lookups.specs.declared.run.RunState.{RunState}
use Rattle.rhai_errors.specs.declared.error.EvalAltResult.{EvalAltResult}
use Rattle.rhai_errors.specs.declared.error.EvalAltResult.TheVariants as error
use Rattle.rhai_errors.specs.Errors.{is_out_of_memory}
use Rattle.rhai_machine.specs.machine.Machine.{Move, Go, Charge}
use Rattle.rhai_machine.specs.machine.Point.{Point, moved, after}
use Rattle.rhai_machine.specs.machine.Memory.{here, out_before_step, ◌⨾◌, Leads}
use Rattle.rhai_machine.specs.language.Setting.{Setting, Rules, cut, limit_under}
use Rattle.rhai_machine.specs.language.State.{Held, Local, State}
use Rattle.rhai_machine.specs.language.Values.{is_handle, through, unit_value, used}
use Rattle.rhai_machine.specs.language.Links.{Link, LinkForm, AtIndex, AtProperty, AtMethod, link_of}
use Rattle.rhai_machine.specs.language.Frames.{Chain, Frame, Core, core, ended_or_changed, on_value, where_there, Walk, Locate, Back, Fail}
use Rattle.rhai_machine.specs.language.Located.{index_by, is_indexed, is_map}
use Rattle.rhai_machine.specs.language.Members.{focus_of}
use Rattle.rhai_machine.specs.language.Chains.{entered, form_move, indexed_core, locate_core, method_entered, property_move}
use Rattle.rhai_machine.specs.language.Chains.{seen_move, stop_move, walk_move}
use Rattle.rhai_machine.specs.language.Language.{machine, move}
use Rattle.rhai_machine.specs.language.Runs.{at, Goes, Steps}
use Rattle.rhai_steps.specs.States.{state_of}
use Rattle.rhai_steps.proofs.Pieces.{charged, faulted, refused, step_by}
use Rattle.rhai_steps.specs.OnFocus.{lending}
use Rattle.rhai_steps.specs.Follows.{Follows, Does, FindsNoMemory}
use Rattle.rhai_links.specs.Walking.{entered_core, inside_by, inside_core, Comes, GoesOn, IsCharged, IsFree, IsUncharged, IsWay}
use Rattle.rhai_links.specs.Walking.{MayEndAt, StopsThere, WayBy}
use Rattle.rhai_links.specs.declared.ways.Way.{Way}
use Rattle.rhai_links.specs.declared.ways.Way.TheVariants as way

module _ {H : Type 0} where
  -- the cell of a handle that was looked through is free
  seen_free : (at : Position) (there : Option (Dynamic H)) (inner : Dynamic H) → used [] at there ≡ Ok inner → is_some there ≡ true
  seen_free at (Some v) inner is = refl
  seen_free at None inner is = cc

  free_by : (cells : List (Option (Dynamic H))) (u : Union H) (mode : _) (at : Position) (inner : Dynamic H) →
      through cells (record { value = u; mode = mode }) at ≡ Ok inner → IsFree cells u
  free_by cells (value.Cell id) mode at inner is = seen_free at (value_of_cell cells id.number) inner is
  free_by cells _ mode at inner is = tt

  -- what was seen may be entered
  pub free_seen : (link : Link) (cells : List (Option (Dynamic H))) (focus : Dynamic H) → GoesOn link cells focus → IsFree cells focus.value
  free_seen link cells focus goes = free_by cells focus.value focus.mode link.at goes.inner goes.seen

  module _ (s : Setting H) (link : Link) (inner : Dynamic H) (chain : Chain H) where
    -- what is charged is located
    inside_located : (form : LinkForm) (was_handle : Bool) → IsCharged form (layer_of inner) →
        inside_by s form (is_map (layer_of inner)) was_handle link inner chain
        ≡ (λ k l. indexed_core s (is_indexed (layer_of inner)) link (index_by form chain.args) chain inner k l)
    inside_located (AtIndex index) was_handle charged = refl
    inside_located (AtProperty name pos) was_handle charged =
        ap (λ (b : Bool). λ k l. inside_by s (AtProperty name pos) b was_handle link inner chain k l) charged
    inside_located (AtMethod name args pos) was_handle charged = absurd charged

    located : (k : List (Frame H)) (l : Local H) → through l.around.cells (focus_of l) link.at ≡ Ok inner →
        IsCharged link.form (layer_of inner) → locate_core s link chain k l ≡ entered_core s link chain k l
    located k l seen charged =
        ap (λ (r : Result (Dynamic H) (EvalAltResult H)). on_value r
        (λ v. entered v (λ k l. indexed_core s (is_indexed (layer_of v)) link (index_by link.form chain.args) chain v k l) k l) k l) seen
        ∙ ap (λ (go : List (Frame H) → Local H → Core H). entered inner go k l) (sym
        (inside_located link.form (is_handle (focus_of l).value) charged))
        ∙ sym (ap (λ (r : Result (Dynamic H) (EvalAltResult H)). on_value r
        (λ v. entered v (inside_core s link (is_handle (focus_of l).value) v chain) k l) k l) seen)

    -- a link by its form
    charges : (form : LinkForm) (k : List (Frame H)) (l : Local H) → IsCharged form (layer_of inner) →
        form_move s form link inner chain k l ≡ Charge none (core (Locate link chain) k l)
    charges (AtIndex index) k l is = refl
    charges (AtProperty name pos) k l is = ap (λ (b : Bool). property_move s b name pos link inner chain k l) is
    charges (AtMethod name args pos) k l is = absurd is

    uncharged : (form : LinkForm) (k : List (Frame H)) (l : Local H) → IsUncharged form (layer_of inner) →
        MayEndAt form (is_some link.behind || is_none chain.new) →
        form_move s form link inner chain k l ≡ Go (entered inner
        (λ k m. inside_by s form (is_map (layer_of inner)) (is_handle (focus_of l).value) link inner chain k m) k l)
    uncharged (AtIndex index) k l is may = absurd is
    uncharged (AtProperty name pos) k l is may = ap (λ (b : Bool). property_move s b name pos link inner chain k l) is
        ∙ sym (ap (λ (b : Bool). Go (entered inner
        (λ k m. inside_by s (AtProperty name pos) b (is_handle (focus_of l).value) link inner chain k m) k l)) is)
    uncharged (AtMethod name args pos) k l is may =
        ap (λ (b : Bool). where_there b (method_entered s name args pos link inner chain k l)) may

  -- the chain does not stop there
  seen_goes : (s : Setting H) (link : Link) (chain : Chain H) (k : List (Frame H)) (l : Local H)
      (goes : GoesOn link l.around.cells (focus_of l)) →
      seen_move s link (through l.around.cells (focus_of l) link.at) chain k l ≡ form_move s link.form link goes.inner chain k l
  seen_goes s link chain k l goes =
      ap (λ (r : Result (Dynamic H) (EvalAltResult H)). seen_move s link r chain k l) goes.seen
      ∙ ap (λ (b : Bool). stop_move s b link goes.inner chain k l) goes.goes_on

  -- the way by the form of a link is the way
  pub way_is : (to : Way) (link : Link) (cells : List (Option (Dynamic H))) (focus : Dynamic H) (goes : GoesOn link cells focus) →
      WayBy to link.form (layer_of goes.inner) → IsWay to link cells focus
  way_is way.Races link cells focus goes by = absurd by
  way_is way.Stops link cells focus goes by = absurd by
  way_is way.Charges link cells focus goes by = (goes, by)
  way_is way.Enters link cells focus goes by = (goes, by)

module _ {S H : Type 0} (rules : Rules S H) (link : Link) (chain : Chain H) (is : link_of chain.rest ≡ Some link) where
  -- the walk as a link is seen
  walked : (k : List (Frame H)) (l : Local H) (m : Move H (Core H)) →
      seen_move rules.setting link (through l.around.cells (focus_of l) link.at) chain k l ≡ m →
      move rules.setting (core (Walk chain) k l) ≡ m
  walked k l m seen = ap (λ (o : Option Link). walk_move rules.setting o chain k l) is ∙ seen

  walks : (k : List (Frame H)) (s : State S H) (q : Point S (Core H)) (m : Move H (Core H)) →
      seen_move rules.setting link (through s.local.around.cells (focus_of s.local) link.at) chain k s.local ≡ m →
      Leads (machine rules) (cut rules) (moved (machine rules) (cut rules) m (at (Walk chain) k s)) q →
      Leads (machine rules) (cut rules) (at (Walk chain) k s) q
  walks k s q m seen goes = step_by rules (at (Walk chain) k s) q m (walked k s.local m seen) goes

  -- the focus is the handle of a cell that is held
  pub races_there : (s : State S H) (e : EvalAltResult H) →
      through s.local.around.cells (focus_of s.local) link.at ≡ Err (error.ErrorDataRace [] link.at) →
      (is_out_of_memory e ≡ false → e ≡ error.ErrorDataRace [] link.at) → Steps rules (Walk chain) s (ended_or_changed (Err e)) s
  unfolding Goes
  races_there s e seen told k = walks k s _ (Go (core (Fail (error.ErrorDataRace [] link.at)) k s.local))
      (ap (λ (r : Result (Dynamic H) (EvalAltResult H)). seen_move rules.setting link r chain k s.local) seen)
      (faulted rules e (error.ErrorDataRace [] link.at) told k s)

  -- the chain stops at `()`
  pub stops_there : (s : State S H) (v : Dynamic H) → StopsThere link s.local.around.cells (focus_of s.local) → v ≡ unit_value →
      Steps rules (Walk chain) s (ended_or_changed (Ok (v, false))) s
  unfolding Goes
  stops_there s v stops unit k = walks k s _ (Go (core (Back unit_value) k s.local))
      (ap (λ (r : Result (Dynamic H) (EvalAltResult H)). seen_move rules.setting link r chain k s.local) stops.seen
      ∙ ap (λ (b : Bool). stop_move rules.setting b link stops.inner chain k s.local) stops.stops)
      (rw unit here)

  -- a member or a method is entered
  pub uncharged_comes : (s : State S H) (goes : GoesOn link s.local.around.cells (focus_of s.local)) →
      IsUncharged link.form (layer_of goes.inner) → Comes rules link chain s s
  uncharged_comes s goes of =
      record {
        comes = λ may k. walks k s _ (Go (entered_core rules.setting link chain k s.local))
            (seen_goes rules.setting link chain k s.local goes ∙ uncharged rules.setting link goes.inner chain link.form k s.local of may
            ∙ ap (λ (c : Core H). Go c) (sym (ap (λ (r : Result (Dynamic H) (EvalAltResult H)). on_value r
            (λ v. entered v (inside_core rules.setting link (is_handle (focus_of s.local).value) v chain) k s.local) k s.local) goes.seen)))
            here;
        may_run_out = λ pos k. out_before_step {at = pos} here;
      }

  module _ (t : S) (old new : RunState H) (scope : Scope H) (held : Held H) (focus : Dynamic H)
      (goes : GoesOn link (cells_of old.cells) focus) (charged_by : IsCharged link.form (layer_of goes.inner)) where
    abbrev state_in : RunState H → State S H
    state_in global = state_of t global scope (lending held focus)

    moves : (k : List (Frame H)) → move rules.setting (at {S = S} (Walk chain) k (state_in old)).core
        ≡ Charge none (core (Locate link chain) k (state_in old).local)
    moves k = walked k (state_in old).local (Charge none (core (Locate link chain) k (state_in old).local))
        (seen_goes rules.setting link chain k (state_in old).local goes
        ∙ charges rules.setting link goes.inner chain link.form k (state_in old).local charged_by)

    -- a charge is let through, and the focus is entered
    pub charge_comes : old.num_operations < limit_under rules → new ≡ record old { num_operations = old.num_operations + 1 } →
        Comes rules link chain (state_in old) (state_in new)
    unfolding after
    charge_comes room spent =
        record {
          comes = λ may k. charged rules t old new scope (lending held focus) (Walk chain) (Locate link chain) none moves room spent k
              ⨾ step_by rules _ _ (Go (entered_core rules.setting link chain k (state_in new).local))
              (ap (λ (c : Core H). Go c) (located rules.setting link goes.inner chain k (state_in new).local
              (rw spent goes.seen) charged_by)) here;
          may_run_out = λ pos k. charged rules t old new scope (lending held focus) (Walk chain) (Locate link chain) none moves room spent k
              ⨾ out_before_step {at = pos} here;
        }

    -- or it is refused
    pub charge_refused : (e : EvalAltResult H) → limit_under rules ≤ old.num_operations → e ≡ error.ErrorTooManyOperations none →
        new ≡ old → Steps rules (Walk chain) (state_in old) (ended_or_changed (Err e)) (state_in new)
    unfolding Goes
    charge_refused e full told same k =
        refused rules t old new scope (lending held focus) (Walk chain) (Locate link chain) none moves e full told same k

module _ {S H : Type 0} (rules : Rules S H) (link : Link) (chain : Chain H) (old mid new : State S H)
    (r : Result (Dynamic H × Bool) (EvalAltResult H)) where
  -- the walk goes on where the focus is entered
  pub comes_on : Comes rules link chain old mid → MayEndAt link.form (is_some link.behind || is_none chain.new) →
      Follows rules ended_or_changed (entered_core rules.setting link chain) mid r new →
      Steps rules (Walk chain) old (ended_or_changed r) new
  unfolding Goes
  comes_on comes may (Does runs) k = comes.comes may k ⨾ runs k
  comes_on comes may (FindsNoMemory pos is stays) k = rw (is, stays) (comes.may_run_out pos k)
