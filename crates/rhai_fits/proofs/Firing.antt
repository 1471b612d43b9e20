-- Natives are asked what fits, and what is made of their answers fits.
use Rattle.std.proofs.Common.{ℕ, List, [], ◌∷◌}
use Rattle.std.specs.Prelude.{Bool, true, false, ◌&&◌, nat_eq, if◌then◌else◌, Option, Some, None, Result, Ok, Err, is_some}
use Rattle.rhai_machine.specs.Types.{Dynamic, EvalAltResult, Limits, Position, Union}
use Rattle.rhai_values.specs.declared.base.value.AccessMode.{AccessMode}
use Rattle.rhai_values.specs.declared.base.value.Union.TheVariants as value
use Rattle.rhai_values.specs.Cells.{value_of_cell}
use Rattle.rhai_errors.specs.Errors.{at_position, position_of}
use Rattle.rhai_errors.specs.Native.{Reply, Missing, Gives as Answers, Faults}
use Rattle.rhai_values.specs.ValueContents.{Reached}
use Rattle.rhai_machine.specs.language.Setting.{Setting}
use Rattle.rhai_machine.specs.language.State.{Local}
use Rattle.rhai_machine.specs.language.Values.{Cells}
use Rattle.rhai_machine.specs.language.Places.{Place, InEntry, InCell, InThis, InFocus, is_barred, while_lent}
use Rattle.rhai_machine.specs.language.Frames.{Operation, Lender, Call, Frame, Core, core}
use Rattle.rhai_machine.specs.language.Calls.{First, builtin_of, lendable, in_cell, first_in, first_of, while_from, put_left, noted}
use Rattle.rhai_machine.specs.language.Calls.{answered, with_position, missing, args_left, replied, missing_error, property_named}
use Rattle.rhai_machine.specs.language.Calls.{names_indexer}
use Rattle.rhai_machine.specs.language.Calls.{first_type, types_of, not_found, barred_call, question_first, question_move, call_native}
use Rattle.rhai_machine.specs.language.Calls.{fire_first, fire_move}
use Rattle.rhai_fits.specs.Contents.{of_values, of_cells, of_result}
use Rattle.rhai_fits.proofs.Values.{Fit, FitUnion}
use Rattle.rhai_fits.proofs.Errors.{FitError, fit_error, fit_at}
use Rattle.rhai_fits.proofs.Fitting.{AllFit, FitBelow, FitCore, FitLocal, Gives, Flat, FlatMaybe, to, fail, ended_fits, cell_fits}
use Rattle.rhai_fits.proofs.Fitting.{cells_set}
use Rattle.rhai_fits.proofs.Seeing.{put_below, flat_fits}
use Rattle.rhai_fits.proofs.Operators.{Answers as BuiltIn}
use Rattle.rhai_fits.proofs.Natives.{FitReply, Moves}
use Rattle.rhai_fits.proofs.Calls.{builtin_fits, sized_gives, applied_gives}

module _ {H : Type 0} (own : H → List Reached) (P : Reached → Type 0) (least : ℕ) where
  abbrev Good : Core H → Type 0
  Good c = FitCore own P least c

  abbrev Below : List (Frame H) → Local H → Type 0
  Below k l = FitBelow own P least k l

  abbrev All : List (Dynamic H) → Type 0
  All vs = AllFit own P least (of_values vs)

  -- ---- what a native answered

  if_fits : (b : Bool) (e f : EvalAltResult H) → FitError own P e → FitError own P f → FitError own P (if b then e else f)
  if_fits true e f h g = h
  if_fits false e f h g = g

  pub placed_fits : (at : Position) (e : EvalAltResult H) → FitError own P e → FitError own P (with_position at e)
  placed_fits at e h = if_fits (nat_eq (position_of e).line 0) (at_position at e) e (fit_at own P at e h) h

  unknown_fits : (property : Option (List ℕ)) (indexes : Bool) (name first : List ℕ) (types : List (List ℕ)) (at : Position) →
      FitError own P (missing_error {H = H} property indexes name first types at)
  unknown_fits (Some property) indexes name first types at = fit_error own P _ tt
  unknown_fits None true name first types at = fit_error own P _ tt
  unknown_fits None false name first types at = fit_error own P _ tt

  not_found_fits : (host : H → List ℕ) (cells : Cells H) (name : List ℕ) (numbered : Bool) (args : List (Dynamic H)) (at : Position) →
      FitError own P (not_found host cells name numbered args at)
  not_found_fits host cells name false args at =
      unknown_fits (property_named name) (names_indexer name) name (first_type host cells args) (types_of host cells args) at
  not_found_fits host cells name true args at = fit_error own P _ tt

  module _ (limits : Limits) (host : H → List ℕ) where
    missing_gives : (r : Option (Result (Dynamic H) (EvalAltResult H))) (operation : Operation) (numbered : Bool) (args : List (Dynamic H))
        (cells : Cells H) → BuiltIn own P least r → Gives own P least (Flat own P least) (missing limits host r operation numbered args
        cells)
    missing_gives (Some r) operation numbered args cells h = applied_gives own P least limits r operation.at h
    missing_gives None operation numbered args cells h = not_found_fits host cells operation.name numbered args operation.at

    pub replied_gives : (reply : Reply H) (first : Option (Dynamic H)) (rest : List (Dynamic H)) (operation : Operation) (numbered : Bool)
        (cells : Cells H) → FitReply own P least reply →
        Gives own P least (Flat own P least) (replied limits host reply first rest operation numbered cells)
    replied_gives Missing first rest operation numbered cells h =
        let args : List (Dynamic H) = args_left limits host first rest in
        missing_gives (builtin_of operation.token args) operation numbered args cells (builtin_fits own P least operation.token args)
    replied_gives (Answers v) first rest operation numbered cells h = sized_gives own P least limits v operation.at h
    replied_gives (Faults e) first rest operation numbered cells h = placed_fits operation.at e h

  changed_good : (r : Result (Dynamic H) (EvalAltResult H)) (marks : Bool) (reply : Reply H) (k : List (Frame H)) (l : Local H) →
      AllFit own P least (of_result r) → Below k l → Good (core (answered marks reply r) k l)
  changed_good r false reply k l h b = ended_fits own P least r k l h b
  changed_good (Ok v) true (Answers w) k l h b = to own P least _ k l h tt b
  changed_good (Err e) true (Answers w) k l h b = fail own P least e k l h b
  changed_good r true Missing k l h b = ended_fits own P least r k l h b
  changed_good r true (Faults e) k l h b = ended_fits own P least r k l h b

  -- ---- the first argument as it is lent

  abbrev FlatFirst : First H → Type 0
  FlatFirst first = Flat own P least first.value

  lendable_gives : (operation : Operation) (from : Option Place) (u : Union H) (mode : AccessMode) → FitUnion own P u →
      Gives own P least FlatFirst (lendable operation from u (record { value = u; mode = mode }))
  lendable_gives operation from (value.Cell id) mode h = fit_error own P _ tt
  lendable_gives operation from _ mode h = (h, tt)

  in_cell_gives : (operation : Operation) (number : ℕ) (there : Option (Dynamic H)) → FlatMaybe own P least there →
      Gives own P least FlatFirst (in_cell operation number there)
  in_cell_gives operation number (Some v) h = lendable_gives operation (Some (InCell number)) v.value v.mode h.0
  in_cell_gives operation number None h = fit_error own P _ tt

  first_in_gives : (l : Local H) (operation : Operation) (lender : Option Lender) (u : Union H) (mode : AccessMode) →
      FitLocal own P least l → FitUnion own P u →
      Gives own P least FlatFirst (first_in l.around.cells operation lender u (record { value = u; mode = mode }))
  first_in_gives l operation lender (value.Cell id) mode h f = in_cell_gives operation id.number (value_of_cell l.around.cells id.number)
      (cell_fits own P least l.around.cells id.number h.cells h.sealed)
  first_in_gives l operation lender _ mode h f = (f, tt)

  first_gives : (l : Local H) (call : Call H) (x : Dynamic H) → FitLocal own P least l → Fit own P x →
      Gives own P least FlatFirst (first_of l.around.cells call x)
  first_gives l call x h f = first_in_gives l call.operation call.lender x.value x.mode h f

  -- ---- the question whether it is pure

  noted_fits : (marks pure : Bool) (call : Call H) → All call.args → All (noted marks pure call).args
  noted_fits false pure call h = h
  noted_fits true pure call h = h

  module _ (s : Setting H) where
    barred_good : (barred pure : Bool) (call : Call H) (k : List (Frame H)) (l : Local H) → All call.args → Below k l →
        Good (barred_call s barred pure call k l)
    barred_good true pure call k l h b = fail own P least _ k l (fit_error own P _ tt) b
    barred_good false pure call k l h b = to own P least _ k l (noted_fits call.marks pure call h) tt b

    asked_good : (call : Call H) (rest : List (Dynamic H)) (r : Result (First H) (EvalAltResult H)) (k : List (Frame H)) (l : Local H) →
        All call.args → Gives own P least FlatFirst r → Below k l → Moves own P least (question_first s call rest r k l)
    asked_good call rest (Ok first) k l h f b = λ pure. barred_good (call.guarded && is_barred pure first.value) pure call k l h b
    asked_good call rest (Err e) k l h f b = fail own P least e k l f b

    pub question_good : (call : Call H) (args : List (Dynamic H)) (k : List (Frame H)) (l : Local H) → All call.args → All args →
        Below k l → Moves own P least (question_move s call args k l)
    question_good call [] k l h a b = λ pure. to own P least _ k l (noted_fits call.marks pure call h) tt b
    question_good call (x ∷ rest) k l h a b =
        asked_good call rest (first_of l.around.cells call x) k l h (first_gives l call x b.local a.0) b

    -- ---- the call

    pub lent_fits : (place : Place) (cells : Cells H) → AllFit own P least (of_cells cells) →
        AllFit own P least (of_cells (while_lent place cells))
    lent_fits (InEntry index) cells h = h
    lent_fits (InCell number) cells h = cells_set own P least cells number None h tt
    lent_fits InThis cells h = h
    lent_fits InFocus cells h = h

    from_fits : (from : Option Place) (cells : Cells H) → AllFit own P least (of_cells cells) →
        AllFit own P least (of_cells (while_from from cells))
    from_fits None cells h = h
    from_fits (Some place) cells h = lent_fits place cells h

    left_below : (from : Option Place) (left : Option (Dynamic H)) (k : List (Frame H)) (l : Local H) → FlatMaybe own P least left →
        Below k l → Below k (put_left from left l)
    left_below (Some place) (Some v) k l h b = put_below own P least place v k l b h
    left_below (Some place) None k l h b = b
    left_below None left k l h b = b

    native_good : (call : Call H) (from : Option Place) (first : Option (Dynamic H)) (rest : List (Dynamic H)) (k : List (Frame H))
        (l : Local H) → FlatMaybe own P least first → All rest → Below k l → Moves own P least (call_native s call from first rest k l)
    native_good call from first rest k l f h b = record {
      asks = record { cells = from_fits from l.around.cells b.local.cells; first = f; rest = h };
      answered = λ reply left r g. changed_good _ call.marks reply k (put_left from left l)
          (flat_fits own P least _ (replied_gives s.limits s.host_type reply left rest call.operation (is_some call.number)
          (put_left from left l).around.cells r)) (left_below from left k l g b);
      out_in_native = λ e left g. left_below from left k l g b;
    }

    fired_good : (call : Call H) (rest : List (Dynamic H)) (r : Result (First H) (EvalAltResult H)) (k : List (Frame H)) (l : Local H) →
        Gives own P least FlatFirst r → All rest → Below k l → Moves own P least (fire_first s call rest r k l)
    fired_good call rest (Ok first) k l f h b = native_good call first.from (Some first.value) rest k l f h b
    fired_good call rest (Err e) k l f h b = fail own P least e k l f b

    pub fire_good : (call : Call H) (args : List (Dynamic H)) (k : List (Frame H)) (l : Local H) → All args → Below k l →
        Moves own P least (fire_move s call args k l)
    fire_good call [] k l h b = native_good call None None [] k l tt tt b
    fire_good call (x ∷ rest) k l h b =
        fired_good call rest (first_of l.around.cells call x) k l (first_gives l call x b.local h.0) h.1 b
