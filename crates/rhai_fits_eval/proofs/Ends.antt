-- What a call keeps that ends as the machine does: it begins in a core that fits, and leaves what fits.
use Rattle.std.proofs.Common.{◌≡◌, ◌≤◌, ◌<◌, ◌⊎◌, inl, inr, ℕ, Bool, true, false, List, [], refl, sym, subst, arith, true≢false}
use Rattle.std.specs.Prelude.{Option, None, Result, Ok, Err}
use Rattle.rhai_machine.specs.Types.{Dynamic, EvalAltResult}
use Rattle.rhai_errors.specs.declared.error.EvalAltResult.TheVariants as error
use Rattle.rhai_errors.specs.Errors.{is_out_of_memory}
use Rattle.rhai_errors.specs.Native.{Lawful}
use Rattle.rhai_values.specs.ValueContents.{Reached, Cell, Function, Constants, contents_of}
use Rattle.rhai_errors.specs.ErrorContents.{error_contents}
use Rattle.rhai_machine.specs.machine.Point.{Point}
use Rattle.rhai_machine.specs.machine.Memory.{here, Leads}
use Rattle.rhai_machine.specs.language.Setting.{Rules, cut}
use Rattle.rhai_machine.specs.language.State.{Local, State, HasMemory}
use Rattle.rhai_machine.specs.language.Frames.{Control, Frame, Core, core, ended, ended_or_changed, Fail}
use Rattle.rhai_machine.specs.language.Runs.{at, with_core}
use Rattle.rhai_machine.specs.language.Language.{machine}
use Rattle.rhai_fits.specs.Contents.{Contents, Nothing, OneValue, OneError, OneModule, Both, of_maybe, of_result, of_control, of_core}
use Rattle.rhai_fits.specs.Contents.{of_offer, Has, HasAt}
use Rattle.rhai_fits.specs.Modules.{module_contents}
use Rattle.rhai_fits.specs.Sealed.{AreSealed, ControlSealed, Sealed}
use Rattle.rhai_fits.specs.Laws.{IsAdded, Keeps}
use Rattle.rhai_fits.proofs.Properties.{all_at, all_of}
use Rattle.rhai_fits.proofs.Values.{fit_reached, reached_is_fit}
use Rattle.rhai_fits.proofs.Errors.{FitError, fit_error, error_reached, reached_error}
use Rattle.rhai_fits.proofs.Modules.{reached_module, module_reached}
use Rattle.rhai_fits.proofs.Fitting.{AllFit, FitBelow, FitCore, FitOffer, fail, to}
use Rattle.rhai_fits.proofs.Runs.{runs_keep}
use Rattle.rhai_laws.specs.Kept.{Around}
use Rattle.rhai_eval.specs.Assigned.{assigned}
use Rattle.rhai_eval.specs.Ends.{Ends, EndsAlone, EndsAs, EndsAssigned, EndsFrom, EndsChanged}
use Rattle.rhai_fits_eval.specs.InHand.{at_work, of_done, of_changed, of_state, cells_in, IsNew, IsInHand, IsThere, IsWithin}
use Rattle.rhai_fits_eval.specs.InHand.{FitsAgain}
use Rattle.rhai_fits_eval.proofs.Steps.{goes, goes_up_to}

module _ {H : Type 0} (own : H → List Reached) (P : Reached → Type 0) (least : ℕ) where
  -- contents that have only what has the property fit
  pub holds_fit : (x : Contents H) → ((r : Reached) → Has own x r → P r) → AllFit own P least x
  holds_fit Nothing h = tt
  holds_fit (OneValue v) h = reached_is_fit own P v (all_of P (contents_of own v) h)
  holds_fit (OneError e) h = reached_error own P e (all_of P (error_contents own e) h)
  holds_fit (OneModule m) h = reached_module own P m (all_of P (module_contents own m) h)
  holds_fit (Both a b) h = (holds_fit a (λ r c. h r (inl c)), holds_fit b (λ r c. h r (inr c)))

  -- and those that fit have nothing else
  pub fit_holds : (x : Contents H) → AllFit own P least x → (r : Reached) → Has own x r → P r
  fit_holds Nothing h n c = absurd c
  fit_holds (OneValue v) h n c = all_at P (contents_of own v) n (fit_reached own P v h) c
  fit_holds (OneError e) h n c = all_at P (error_contents own e) n (error_reached own P e h) c
  fit_holds (OneModule m) h n c = all_at P (module_contents own m) n (module_reached own P m h) c
  fit_holds (Both a b) h n (inl c) = fit_holds a h.0 n c
  fit_holds (Both a b) h n (inr c) = fit_holds b h.1 n c

  all_core : (c : Core H) → FitCore own P least c → AllFit own P least (of_core c)
  all_core c h = (
    h.control,
    (
      h.below.stack,
      (h.below.local.scope, (h.below.local.this, (h.below.local.focus, (h.below.local.cells, h.below.local.around)))),
    ),
  )

  pub sealed_core : (c : Core H) → FitCore own P least c → Sealed c
  sealed_core c h =
      record { control = h.sealed; stack = h.below.sealed; goes_back = h.below.back; cells = h.below.local.sealed }

  -- the out-of-memory error contains nothing
  pub memory_fits : (e : EvalAltResult H) → is_out_of_memory e ≡ true → FitError own P e
  memory_fits (error.ErrorOutOfMemory at) is = fit_error own P (error.ErrorOutOfMemory at) tt
  memory_fits _ is = absurd (true≢false (sym is))

module _ {S H : Type 0} (rules : Rules S H) (given : Contents H) (old new : State S H) where
  abbrev own : H → List Reached
  own = rules.natives.holds.of_host

  -- there before, or a cell that was added
  abbrev pub Stays : Reached → Type 0
  Stays r = IsInHand rules given old r ⊎ IsNew old new r

  abbrev Fit : Contents H → Type 0
  Fit x = AllFit own Stays (cells_in old) x

  abbrev Good : Core H → Type 0
  Good c = FitCore own Stays (cells_in old) c

  abbrev Below : List (Frame H) → Local H → Type 0
  Below k l = FitBelow own Stays (cells_in old) k l

  -- what is there stays so, where cells are only added and the tables of constants stay as many
  pub still_there : cells_in old ≤ cells_in new → Around old.local.around new.local.around → IsWithin rules given old → (r : Reached) →
      Stays r → IsThere new r
  still_there grows around within (Cell n) (inl h) = omega (arith, within (Cell n) h, grows)
  still_there grows around within (Cell n) (inr h) = h.1
  still_there grows around within (Function def) h = tt
  still_there grows around within (Constants n) (inl h) = omega (arith, within (Constants n) h, around.constant_tables)
  still_there grows around within (Constants n) (inr h) = absurd h

  -- ---- where a call begins

  -- what was given fits
  pub given_fits : Fit given
  given_fits = holds_fit own Stays (cells_in old) given (λ r h. inl (inl (inl (inl h))))

  -- so does what the state has
  pub state_fits : Fit (of_state old)
  state_fits = holds_fit own Stays (cells_in old) (of_state old) (λ r h. inl (inl (inl (inr h))))

  -- and the engine's modules
  pub offer_fits : FitOffer own Stays (cells_in old) rules.setting.offer
  offer_fits = holds_fit own Stays (cells_in old) (of_offer rules.setting.offer) (λ r h. inl (inl (inr h)))

  -- nothing waits, and the focus is a place of the caller, or nothing
  pub nothing_below : AreSealed old.local.around.cells → (focus : Option (Dynamic H)) → Fit (of_maybe focus) →
      Below [] (at_work focus old).local
  nothing_below s focus h = record {
    stack = tt;
    sealed = tt;
    back = tt;
    local = record {
      scope = state_fits.0;
      this = state_fits.1.0;
      focus = h;
      cells = state_fits.1.1.0;
      around = state_fits.1.1.1;
      sealed = s;
      enough = omega arith;
    };
  }

  -- ---- results

  pub result_fits : (r : Result (Dynamic H) (EvalAltResult H)) → Fit (of_control (ended r)) → Fit (of_result r)
  result_fits (Ok v) h = h
  result_fits (Err e) h = h

  changed_fits : (r : Result (Dynamic H × Bool) (EvalAltResult H)) → Fit (of_control (ended_or_changed r)) → Fit (of_changed r)
  changed_fits (Ok (v, true)) h = h
  changed_fits (Ok (v, false)) h = h
  changed_fits (Err e) h = h

  module _ (names : H → List ℕ) (lawful : Lawful names rules.natives) (around : Around old.local.around new.local.around) where
    -- ---- a run with nothing below

    module _ (before after : Option (Dynamic H)) (c : Core H) (d : Control H) (good : Good c)
        (runs : Leads (machine rules) (cut rules) (with_core c (at_work before old)) (at d [] (at_work after new))) where
      abbrev start : Point S (Core H)
      start = with_core c (at_work before old)

      abbrev stop : Point S (Core H)
      stop = at d [] (at_work after new)

      kept : Keeps rules start stop
      kept = runs_keep rules names lawful start stop (sealed_core own Stays (cells_in old) c good) runs

      grows : cells_in old ≤ cells_in new
      grows = omega (arith, good.below.local.enough, kept.grows)

      added : (r : Reached) → IsAdded start stop r → IsNew old new r
      added (Cell n) h = (omega (arith, good.below.local.enough, h.0), h.1)
      added (Function def) h = absurd h
      added (Constants n) h = absurd h

      -- what the start has was there before
      was_in_hand : (r : Reached) → HasAt rules start r → Stays r
      was_in_hand r (inl (inl h)) = fit_holds own Stays (cells_in old) (of_core c) (all_core own Stays (cells_in old) c good) r h
      was_in_hand r (inl (inr h)) = inl (inl (inr h))
      was_in_hand r (inr h) = inl (inr h)

      since : (r : Reached) → HasAt rules start r ⊎ IsAdded start stop r → Stays r
      since r (inl h) = was_in_hand r h
      since r (inr h) = inr (added r h)

      stays : (r : Reached) → HasAt rules stop r → Stays r
      stays r h = since r (kept.only_cells r h)

      stop_fits : Fit (of_core stop.core)
      stop_fits = holds_fit own Stays (cells_in old) (of_core stop.core) (λ r h. stays r (inl (inl h)))

      module _ (left : Contents H) (fits : Fit left) where
        only_cells : (r : Reached) → IsInHand rules left new r → Stays r
        only_cells r (inl (inl (inl h))) = fit_holds own Stays (cells_in old) left fits r h
        only_cells r (inl (inl (inr h))) = fit_holds own Stays (cells_in old) (of_state new)
            (stop_fits.1.1.0, (stop_fits.1.1.1.0, stop_fits.1.1.1.1.1)) r h
        only_cells r (inl (inr h)) = inl (inl (inr h))
        only_cells r (inr h) = stays r (inr h)

        again : FitsAgain rules given old left new
        again = record {
          sealed = kept.sealed.cells;
          grows = grows;
          around = around;
          only_cells = only_cells;
          fits = λ within r h. still_there grows around within r (only_cells r h);
        }

      -- what is left is told from how it ended, and from the place
      pub fits_again : (left : Contents H) → (Fit (of_control d) → Fit (of_maybe after) → Fit left) →
          FitsAgain rules given old left new
      fits_again left leaves = again left (leaves stop_fits.0 stop_fits.1.1.1.1.0)

    -- ---- how calls are told to end

    module _ (before after : Option (Dynamic H)) (begins : List (Frame H) → Local H → Core H)
        (good : Good (begins [] (at_work before old).local)) where
      ends_again : (memory : Type 0) (d : Control H) (left : Contents H) →
          Ends rules begins (at_work before old) memory d (at_work after new) →
          (Fit (of_control d) → Fit (of_maybe after) → Fit left) → FitsAgain rules given old left new
      ends_again memory d left ends leaves =
          fits_again before after (begins [] (at_work before old).local) d good (goes_up_to rules (ends.up_to [])) left leaves

      -- with a value or an error
      pub from_again : (r : Result (Dynamic H) (EvalAltResult H)) (left : Contents H) →
          EndsFrom rules begins (at_work before old) r (at_work after new) →
          (Fit (of_result r) → Fit (of_maybe after) → Fit left) → FitsAgain rules given old left new
      from_again r left ends leaves =
          ends_again (HasMemory r) (ended r) left ends (λ control focus. leaves (result_fits r control) focus)

      -- with a value and whether the first argument may have changed, or an error
      pub changed_again : (r : Result (Dynamic H × Bool) (EvalAltResult H)) (left : Contents H) →
          EndsChanged rules begins (at_work before old) r (at_work after new) →
          (Fit (of_changed r) → Fit (of_maybe after) → Fit left) → FitsAgain rules given old left new
      changed_again r left ends leaves =
          ends_again (HasMemory r) (ended_or_changed r) left ends (λ control focus. leaves (changed_fits r control) focus)

      -- with nothing behind it, of which the place alone is told
      pub alone_again : EndsAlone rules begins (at_work before old) (at_work after new) →
          FitsAgain rules given old (of_maybe after) new
      alone_again ends = fits_again before after (begins [] (at_work before old).local) (ended_or_changed ends.0) good (goes rules ends.1)
          (of_maybe after) (λ control focus. focus)

      -- with an error of an assignment that did nothing, since memory ran out, or that ended as the machine does
      failed_again : (s : AreSealed old.local.around.cells) (place : Fit (of_maybe before)) (e : EvalAltResult H) (left : Contents H) →
          (lacks : Bool) → is_out_of_memory e ≡ lacks →
          EndsAssigned rules begins (at_work before old) (Err e) (at_work after new) →
          (Fit (OneError e) → Fit (of_maybe after) → Fit left) → FitsAgain rules given old left new
      failed_again s place e left false is ends leaves =
          fits_again before after (begins [] (at_work before old).local) (Fail e) good (goes rules (ends.runs is [])) left leaves
      failed_again s place e left true is ends leaves = elim (ends.up_to) [
        | inl same ↦ fits_again before after (core (Fail e) [] (at_work before old).local) (Fail e)
            (fail own Stays (cells_in old) e [] (at_work before old).local (memory_fits own Stays (cells_in old) e is)
            (nothing_below s before place))
            (subst (λ (t : State S H). Leads (machine rules) (cut rules) (at (Fail e) [] (at_work before old)) (at (Fail e) [] t))
            (sym same) here) left leaves
        | inr up ↦ fits_again before after (begins [] (at_work before old).local) (Fail e) good (goes_up_to rules (up [])) left leaves
      ]

      -- as an assignment
      pub assigned_again : (s : AreSealed old.local.around.cells) (place : Fit (of_maybe before))
          (r : Result (Unit {0}) (EvalAltResult H)) (left : Contents H) →
          EndsAssigned rules begins (at_work before old) r (at_work after new) →
          (Fit (of_done r) → Fit (of_maybe after) → Fit left) → FitsAgain rules given old left new
      assigned_again s place (Ok done) left ends leaves =
          fits_again before after (begins [] (at_work before old).local) (ended_or_changed (assigned (Ok done))) good
          (goes rules (ends.runs tt [])) left (λ control focus. leaves tt focus)
      assigned_again s place (Err e) left ends leaves = failed_again s place e left (is_out_of_memory e) refl ends leaves

    -- from a control that nothing waits for
    pub control_again : (s : AreSealed old.local.around.cells) (c : Control H) (r : Result (Dynamic H) (EvalAltResult H)) →
        Fit (of_control c) → ControlSealed c → EndsAs rules c (at_work None old) r (at_work None new) →
        FitsAgain rules given old (of_result r) new
    control_again s c r h z ends = from_again None None (λ k l. core c k l)
        (to own Stays (cells_in old) c [] (at_work None old).local h z (nothing_below s None tt)) r (of_result r) ends
        (λ result focus. result)
