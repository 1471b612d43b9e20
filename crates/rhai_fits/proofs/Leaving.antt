-- What frames do as they are left leads to cores that fit.
use Rattle.std.proofs.Common.{ℕ, List, ◌∷◌, length, take}
use Rattle.std.specs.Option.{unwrap_or}
use Rattle.std.specs.Prelude.{Bool, true, false, Option, Some, None, Result, Ok, Err}
use Rattle.rhai_machine.specs.Types.{Dynamic, EvalAltResult, Position}
use Rattle.rhai_values.specs.DataSize.{data_sizes}
use Rattle.rhai_errors.specs.declared.error.EvalAltResult.TheVariants as error
use Rattle.rhai_errors.specs.Errors.{position_of}
use Rattle.rhai_errors.specs.Native.{HasNoHandle}
use Rattle.rhai_values.specs.ValueContents.{Reached}
use Rattle.rhai_spots.specs.declared.spot.Spot.{Spot}
use Rattle.rhai_spots.specs.Parts.{with_value}
use Rattle.rhai_spots.specs.Paths.{Step, ToPlace, ToCell}
use Rattle.rhai_machine.specs.language.Setting.{Setting}
use Rattle.rhai_machine.specs.language.State.{Local}
use Rattle.rhai_machine.specs.language.Values.{Cells, unit_value, through}
use Rattle.rhai_machine.specs.language.Places.{InEntry, InThis, InFocus, rebound, put}
use Rattle.rhai_machine.specs.language.Frames.{Lender, FromEntry, FromThis, FromFocus, NewValue, Member, Property, Item, MemberAccess}
use Rattle.rhai_machine.specs.language.Frames.{Frame, Core, core, RestoreList, RestoreScope, ChainEnd, StepDown, Temporary, PartMethod}
use Rattle.rhai_machine.specs.language.Frames.{PartAssigned, MemberOperated, CallEnd}
use Rattle.rhai_machine.specs.language.Calls.{sized}
use Rattle.rhai_machine.specs.language.Caught.{is_unit_seen, raised_if, raised}
use Rattle.rhai_machine.specs.language.Members.{focus_of, focused_on}
use Rattle.rhai_machine.specs.language.Unwinding.{ended_chain, restored, script_ended, measured_part, part_assigned, part_changed}
use Rattle.rhai_machine.specs.language.Unwinding.{operated_core}
use Rattle.rhai_machine.specs.language.Unwinding.{got_none, temporary_changed}
use Rattle.rhai_fits.specs.Contents.{of_maybe, of_result, of_member, of_way_back}
use Rattle.rhai_fits.specs.Sealed.{GoesBack}
use Rattle.rhai_fits.proofs.Values.{Fit, fit_unit}
use Rattle.rhai_fits.proofs.Errors.{FitError, fit_error, fit_at, error_fits}
use Rattle.rhai_fits.proofs.Fitting.{AllFit, FitBelow, FitCore, Gives, to, fail, push, on, goes_back, focus_there, scope_taken}
use Rattle.rhai_fits.proofs.Fitting.{imports_taken, with_cell_set, with_scope, with_focus, with_this, focus_of_fits}
use Rattle.rhai_fits.proofs.Seeing.{FitValue, Any, within_sizes_gives, put_entry, rebound_fits}
use Rattle.rhai_fits.proofs.Spots.{set_no_handle, set_fits, Whole}
use Rattle.rhai_fits.proofs.Calls.{call_left}
use Rattle.rhai_fits.proofs.Methods.{set_good}

module _ {H : Type 0} (own : H → List Reached) (P : Reached → Type 0) (least : ℕ) where
  abbrev Good : Core H → Type 0
  Good c = FitCore own P least c

  abbrev Below : List (Frame H) → Local H → Type 0
  Below k l = FitBelow own P least k l

  -- a frame is left, with the state as it is, and with another focus
  pub pop : (frame : Frame H) (k : List (Frame H)) (l : Local H) → GoesBack k l.focus l.this → Below (frame ∷ k) l → Below k l
  pop frame k l g b = record { stack = b.stack.1; sealed = b.sealed.1; back = g; local = b.local }

  pub refocus : (frame : Frame H) (focus : Option (Dynamic H)) (k : List (Frame H)) (l : Local H) → AllFit own P least (of_maybe focus) →
      GoesBack k focus l.this → Below (frame ∷ k) l → Below k (focused_on focus l)
  refocus frame focus k l f g b =
      record { stack = b.stack.1; sealed = b.sealed.1; back = g; local = with_focus own P least l focus b.local f }

  -- ---- the end of a chain

  rebound_clean : (this focus : Option (Dynamic H)) → HasNoHandle focus → HasNoHandle (rebound (unwrap_or focus unit_value) this)
  rebound_clean None focus h = tt
  rebound_clean (Some this) focus h = focus_there focus h

  pub chain_left : (lender : Option Lender) (outer : Option (Dynamic H)) (k : List (Frame H)) (l : Local H) →
      Below (ChainEnd lender outer ∷ k) l → Below k (ended_chain lender outer l)
  chain_left None outer k l b = refocus _ outer k l b.stack.0 b.back b
  chain_left (Some (FromEntry index)) outer k l b = record {
    stack = b.stack.1;
    sealed = b.sealed.1;
    back = b.back;
    local = with_focus own P least (put (InEntry index) (focus_of l) l) outer
        (put_entry own P least index (focus_of l) l b.local (focus_of_fits own P least l b.local)) b.stack.0;
  }
  chain_left (Some FromThis) outer k l b = record {
    stack = b.stack.1;
    sealed = b.sealed.1;
    back = goes_back k outer outer l.focus (rebound (focus_of l) l.this) (λ h. h) (rebound_clean l.this l.focus) b.back;
    local = with_focus own P least (put InThis (focus_of l) l) outer
        (with_this own P least l (rebound (focus_of l) l.this) b.local
        (rebound_fits own P least (focus_of l) l.this (focus_of_fits own P least l b.local))) b.stack.0;
  }
  chain_left (Some FromFocus) outer k l b = record {
    stack = b.stack.1;
    sealed = b.sealed.1;
    back = b.back;
    local = with_focus own P least (put InFocus (focus_of l) l) outer
        (with_focus own P least l (Some (focus_of l)) b.local (focus_of_fits own P least l b.local)) b.stack.0;
  }

  -- ---- a step is left

  pub step_left : (above : Dynamic H) (step : Step) (k : List (Frame H)) (l : Local H) → Below (StepDown above step ∷ k) l →
      Below k (restored (StepDown above step) l)
  step_left above (ToPlace at) k l b = record {
    stack = b.stack.1;
    sealed = b.sealed.1;
    back = goes_back k (Some above) (Some (with_value above at (focus_of l))) l.this l.this (set_no_handle above at (focus_of l)) (λ h. h)
        b.back;
    local = with_focus own P least l (Some (with_value above at (focus_of l))) b.local
        (set_fits own P least above at (focus_of l) b.stack.0 (focus_of_fits own P least l b.local));
  }
  step_left above (ToCell number) k l b = record {
    stack = b.stack.1;
    sealed = b.sealed.1;
    back = b.back.1;
    local = with_focus own P least _ (Some above) (with_cell_set own P least l number (Some (focus_of l)) b.local
        (focus_of_fits own P least l b.local) (focus_there l.focus b.back.0)) b.stack.0;
  }

  -- ---- what any frame takes back

  pub left : (frame : Frame H) (k : List (Frame H)) (l : Local H) → Below (frame ∷ k) l → Below k (restored frame l)
  left (RestoreList saved) k l b = record {
    stack = b.stack.1;
    sealed = b.sealed.1;
    back = b.back;
    local = record {
      scope = scope_taken own P least saved.scope_length l.scope b.local.scope;
      this = b.local.this;
      focus = b.local.focus;
      cells = b.local.cells;
      around = (
        b.local.around.0,
        (imports_taken own P least saved.imports_length l.around.imports b.local.around.1.0, b.local.around.1.1),
      );
      sealed = b.local.sealed;
      enough = b.local.enough;
    };
  }
  left (RestoreScope length) k l b = record {
    stack = b.stack.1;
    sealed = b.sealed.1;
    back = b.back;
    local = with_scope own P least l (take length l.scope) b.local (scope_taken own P least length l.scope b.local.scope);
  }
  left (CallEnd exit) k l b = call_left own P least exit k l b
  left (ChainEnd lender outer) k l b = chain_left lender outer k l b
  left (StepDown above step) k l b = step_left above step k l b
  left (Temporary above back) k l b = refocus _ above k l b.stack.0.0 b.back b
  left (PartMethod above at pos) k l b = refocus _ (Some above) k l b.stack.0 b.back b
  left (PartAssigned above at op_at) k l b = refocus _ (Some above) k l b.stack.0 b.back b
  left (MemberOperated access above op_at) k l b = refocus _ above k l b.stack.0.1 b.back b
  left frame k l b = pop frame k l b.back b

  -- ---- errors on their way

  pub topped_fits : (map_exit : Bool) (e : EvalAltResult H) → FitError own P e → AllFit own P least (of_result (script_ended map_exit e))
  topped_fits map_exit (error.Return v at) h = error_fits own P (error.Return v at) h
  topped_fits true (error.Exit v at) h = error_fits own P (error.Exit v at) h
  topped_fits map_exit e h = h

  raised_if_fits : (again : Bool) (caught e : EvalAltResult H) → FitError own P caught → FitError own P e →
      FitError own P (raised_if again caught e)
  raised_if_fits true caught e h g = fit_at own P (position_of e) caught h
  raised_if_fits false caught e h g = g

  pub raised_fits : (cells : Cells H) (caught e : EvalAltResult H) → FitError own P caught → FitError own P e →
      FitError own P (raised cells caught e)
  raised_fits cells caught (error.ErrorRuntime v at) h g =
      raised_if_fits (is_unit_seen (through cells v at)) caught (error.ErrorRuntime v at) h g
  raised_fits cells caught e h g = g

  module _ (s : Setting H) where
    -- ---- parts

    measured_good : (r : Result (Dynamic H) (EvalAltResult H)) (k : List (Frame H)) (l : Local H) →
        Gives own P least (Any own P least (Dynamic H)) r → Below k l → Good (core (measured_part r) k l)
    measured_good (Ok v) k l h b = to own P least _ k l (fit_unit own P) tt b
    measured_good (Err e) k l h b = fail own P least e k l h b

    pub sized_any : (v : Dynamic H) (at : Position) → Gives own P least (Any own P least (Dynamic H)) (sized s.limits v at)
    sized_any v at = within_sizes_gives own P least (Any own P least (Dynamic H)) s.limits (data_sizes v) v at tt

    pub part_assigned_good : (r : Option (Dynamic H)) (above : Dynamic H) (at : Spot) (op_at : Position) (k : List (Frame H)) (l : Local
        H) →
        Whole own P least above r → Below (PartAssigned above at op_at ∷ k) l → Good (part_assigned s r above at op_at k l)
    part_assigned_good (Some whole) above at op_at k l h b = measured_good (sized s.limits (focus_of l) op_at) k _ (sized_any (focus_of
        l) op_at)
        (refocus _ (Some whole) k l h.0 (goes_back k (Some above) (Some whole) l.this l.this h.1 (λ c. c) b.back) b)
    part_assigned_good None above at op_at k l h b =
        fail own P least _ k _ (fit_error own P _ tt) (refocus _ (Some above) k l b.stack.0 b.back b)

    pub part_changed_good : (r : Option (Dynamic H)) (above : Dynamic H) (at : Spot) (pos : Position) (v : Dynamic H) (k : List (Frame H))
        (l : Local H) → Whole own P least above r → Fit own P v → Below (PartMethod above at pos ∷ k) l →
        Good (part_changed s r above at pos v k l)
    part_changed_good (Some whole) above at pos v k l h f b = to own P least _ k _ f tt
        (refocus _ (Some whole) k l h.0 (goes_back k (Some above) (Some whole) l.this l.this h.1 (λ c. c) b.back) b)
    part_changed_good None above at pos v k l h f b =
        fail own P least _ k _ (fit_error own P _ tt) (refocus _ (Some above) k l b.stack.0 b.back b)

    -- ---- members

    pub operated_good : (member : Member H) (access : MemberAccess H) (v : Dynamic H) (op_at : Position) (k : List (Frame H))
        (l : Local H) → AllFit own P least (of_member access.member) → Fit own P v → Below k l →
        Good (operated_core s member access v op_at k l)
    operated_good (Property name at) access v op_at k l a f b = set_good own P least false access v k l a f b
    operated_good (Item index) access v op_at k l a f b = on own P least (FitValue own P least) (sized s.limits v op_at) _ k l
        (within_sizes_gives own P least (FitValue own P least) s.limits (data_sizes v) v op_at f) b
        (λ x g. set_good own P least false access x _ l a g (push own P least _ k l (fit_unit own P) tt b.back b))

    pub got_none_good : (lacks : Bool) (member : Member H) (e : EvalAltResult H) (access : MemberAccess H) (new : NewValue H)
        (k : List (Frame H)) (l : Local H) → AllFit own P least (of_member access.member) → FitError own P e → Fit own P new.value →
        Below k l → Good (got_none s lacks member e access new k l)
    got_none_good true (Item index) e access new k l a h f b =
        set_good own P least false access new.value _ l a f (push own P least _ k l (fit_unit own P) tt b.back b)
    got_none_good true (Property name at) e access new k l a h f b = fail own P least e k l h b
    got_none_good false member e access new k l a h f b = fail own P least e k l h b

    pub temporary_good : (back : Option (MemberAccess H)) (temporary v : Dynamic H) (k : List (Frame H)) (l : Local H) →
        AllFit own P least (of_way_back back) → Fit own P temporary → Fit own P v → Below k l →
        Good (temporary_changed s back temporary v k l)
    temporary_good None temporary v k l w t f b = to own P least _ k l f tt b
    temporary_good (Some access) temporary v k l w t f b =
        set_good own P least true access temporary _ l w t (push own P least _ k l f tt b.back b)
