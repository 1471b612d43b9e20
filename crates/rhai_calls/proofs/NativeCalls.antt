-- A call of a native: its charge, the question whether the native is pure, and what the native answers.
use Rattle.std.proofs.Common.{◌≡◌, ◌<◌, ◌≤◌, ◌+◌, ℕ, Bool, true, false, ◌&&◌, List, [], ◌∷◌, length, Option, Some, None, is_some, IfSome}
use Rattle.std.proofs.Common.{Result, Ok, Err, refl, sym, ap, ◌∙◌}
use Rattle.std.specs.Prelude.{not, IfOk}
use Rattle.std.specs.Result.{IsErr, IsErrAnd}
use Rattle.std.proofs.lemmas.Bool.{false≢true}
use Rattle.std.specs.Option.{option_map}
use Rattle.rhai_tree.specs.declared.literal.NativeId.{NativeId}
use Rattle.rhai_tree.specs.declared.position.Position.{Position}
use Rattle.rhai_values.specs.declared.base.value.CellId.{CellId}
use Rattle.rhai_values.specs.declared.base.value.Dynamic.{Dynamic}
use Rattle.rhai_values.specs.declared.base.value.Union.TheVariants as value
use Rattle.rhai_values.specs.Cells.{cells_of, value_of_cell, with_held, with_value}
use Rattle.rhai_values.specs.TypeNames.{type_name_of}
use Rattle.rhai_state.specs.declared.scope.Scope.{Scope}
use Rattle.rhai_lookups.specs.declared.run.RunState.{RunState}
use Rattle.rhai_errors.specs.declared.error.EvalAltResult.{EvalAltResult}
use Rattle.rhai_errors.specs.declared.error.EvalAltResult.TheVariants as error
use Rattle.rhai_errors.specs.Errors.{is_out_of_memory}
use Rattle.rhai_errors.specs.Native.{MayLeave, Request, Reply, Missing, Gives, Faults, Obeys, effect, purity_of, request}
use Rattle.rhai_machine.specs.machine.Point.{after}
use Rattle.rhai_machine.specs.machine.Memory.{here, next, out_in_native, ◌⨾◌, Leads}
use Rattle.rhai_machine.specs.language.Setting.{Rules, limit_under, cut}
use Rattle.rhai_machine.specs.language.State.{Held, State, HasMemory, Answers}
use Rattle.rhai_machine.specs.language.Values.{Cells, is_handle}
use Rattle.rhai_machine.specs.language.Places.{Place, InCell, is_barred}
use Rattle.rhai_machine.specs.language.Frames.{Operation, Lender, FromEntry, FromThis, FromFocus, Call, Control, Frame, core, ended}
use Rattle.rhai_machine.specs.language.Frames.{ended_or_changed}
use Rattle.rhai_machine.specs.language.Frames.{Ask, Question, Fire, Fail}
use Rattle.rhai_machine.specs.language.Calls.{answered, barred_call, fire_first, first_of, noted, place_of, put_left, question_first}
use Rattle.rhai_machine.specs.language.Calls.{replied}
use Rattle.rhai_machine.specs.language.Calls.{while_from}
use Rattle.rhai_machine.specs.language.Runs.{at, with_core, Runs, Steps, Goes}
use Rattle.rhai_machine.specs.language.Language.{machine}
use Rattle.rhai_steps.specs.States.{local_of, state_of}
use Rattle.rhai_steps.proofs.Pieces.{step_by, charged, faulted, or_runs_out, passed, refused}
use Rattle.rhai_steps.specs.Lending.{back_in, Stands}
use Rattle.rhai_calls.specs.ToldChanges.{gives, with_changed, without_changed}
use Rattle.rhai_calls.specs.Natives.{is_barred_from, is_pure_on, lends_from, native_call, native_key, native_number, Bars, CallsOn}
use Rattle.rhai_calls.specs.Natives.{CallsInCell}
use Rattle.rhai_calls.specs.Natives.{Gives as GivesOn}
use Rattle.rhai_calls.proofs.Lent.{back_is, back_same, cells_back, first_cell, first_held, first_plain, own_named, put_same, stands_at}
use Rattle.rhai_calls.proofs.Lent.{back_lender, number_same, while_lender}

-- ---- whether a call changed its first argument

-- where it is not to be told, no call says that it changed its first argument
is_untold : (marks pure given : Bool) → marks ≡ false → ((marks && not pure) && given) ≡ false
is_untold false pure given is = refl
is_untold true pure given is = cc

module _ {H : Type 0} where
  -- a native's answer ends as the result, with whether it changed its first argument
  answer_is : (m : Bool) (r : Reply H) (q : Result (Dynamic H) (EvalAltResult H)) →
      answered m r q ≡ ended_or_changed (with_changed (m && gives (Some r)) q)
  answer_is false r (Ok v) = refl
  answer_is false r (Err e) = refl
  answer_is true (Gives w) (Ok v) = refl
  answer_is true (Gives w) (Err e) = refl
  answer_is true Missing (Ok v) = refl
  answer_is true Missing (Err e) = refl
  answer_is true (Faults x) (Ok v) = refl
  answer_is true (Faults x) (Err e) = refl

  pub plain_changed : (marks changed : Bool) (r : Result (Dynamic H) (EvalAltResult H)) → (marks ≡ false → changed ≡ false) →
      IfOk (with_changed changed r) (λ answer. marks ≡ false → answer.1 ≡ false)
  plain_changed marks changed (Ok v) h = h
  plain_changed marks changed (Err e) h = tt

  -- an answer that tells so whether it changed its first argument
  pub untold_by : (marks pure given changed : Bool) (q : Result (Dynamic H) (EvalAltResult H))
      (result : Result (Dynamic H × Bool) (EvalAltResult H)) → changed ≡ ((marks && not pure) && given) → result ≡ with_changed changed q →
      IfOk result (λ answer. marks ≡ false → answer.1 ≡ false)
  untold_by marks pure given changed q result does is = rw is (plain_changed marks changed q
      (λ (no : marks ≡ false). does ∙ is_untold marks pure given no))

  module _ (marks pure changes given changed : Bool) (q : Result (Dynamic H) (EvalAltResult H))
      (result : Result (Dynamic H × Bool) (EvalAltResult H)) (may : changes ≡ (marks && not pure)) (does : changed ≡ (changes && given))
      (is : result ≡ with_changed changed q) where
    -- how an answer comes to tell whether it changed its first argument, step by step
    pub tells_it : result ≡ with_changed ((marks && not pure) && given) q
    tells_it = is ∙ ap (λ (m : Bool). with_changed m q) (does ∙ ap (λ (m : Bool). m && given) may)

    pub untold_it : IfOk result (λ answer. marks ≡ false → answer.1 ≡ false)
    untold_it = rw is (plain_changed marks changed q
        (λ (no : marks ≡ false). does ∙ ap (λ (m : Bool). m && given) may ∙ is_untold marks pure given no))

  pub plain_ends : (r : Result (Dynamic H × Bool) (EvalAltResult H)) → IfOk r (λ answer. false ≡ false → answer.1 ≡ false) →
      ended_or_changed r ≡ ended (without_changed r)
  plain_ends (Ok (v, true)) h = let never : true ≡ false = h refl in cc
  plain_ends (Ok (v, false)) h = refl
  plain_ends (Err e) h = refl

  -- what stands where it is lent from does so whatever the cells are
  pub still_stands : (lender : Option Lender) (x : Dynamic H) (old new : RunState H) (scope : Scope H) (held : Held H) →
      Stands lender x (local_of old scope held) → Stands lender x (local_of new scope held)
  still_stands None x old new scope held stands = tt
  still_stands (Some (FromEntry index)) x old new scope held stands = stands
  still_stands (Some FromThis) x old new scope held stands = stands
  still_stands (Some FromFocus) x old new scope held stands = stands

module _ {S H : Type 0} (rules : Rules S H) where
  -- a call that does not tell what it changed ends as it would by itself
  pub runs_plainly : (c : Control H) (old new : State S H) (r : Result (Dynamic H × Bool) (EvalAltResult H))
      (q : Result (Dynamic H) (EvalAltResult H)) →
      IfOk r (λ answer. false ≡ false → answer.1 ≡ false) → q ≡ without_changed r → Steps rules c old (ended_or_changed r) new →
      Runs rules c old q new
  unfolding Goes
  runs_plainly c old new r q plain is runs k = rw (is, ← plain_ends r plain) (runs k)

  -- an error on the way out ends a call that tells what it changed, too
  pub exits_telling : (c : Control H) (old new : State S H) (r : Result (Dynamic H × Bool) (EvalAltResult H)) (e : EvalAltResult H) →
      IsErr r × IsErrAnd r (λ y. y ≡ e) → Steps rules c old (Fail e) new → Steps rules c old (ended_or_changed r) new
  exits_telling c old new r e is go = rw (passed r is) go

  -- an answer, or that memory ran out, with whether it changed its first argument
  told_with_changed : (m : Bool) (r : Reply H) (result wanted : Result (Dynamic H) (EvalAltResult H)) → Answers result wanted →
      (k : List (Frame H)) (s : State S H) →
      Leads (machine rules) (cut rules) (at (answered m r wanted) k s)
      (at (ended_or_changed (with_changed (m && gives (Some r)) result)) k s)
  told_with_changed m r (Ok v) wanted a k s = rw (← a tt, answer_is m r (Ok v)) here
  told_with_changed m r (Err e) wanted a k s = or_runs_out rules (answered m r wanted) k s e (λ h. rw (← a h, answer_is m r (Err e)) here)

  -- a call that is charged stands before the question of its native
  pub charges_call : (t : S) (old mid : RunState H) (scope : Scope H) (held : Held H) (call : Call H) →
      old.num_operations < limit_under rules → mid ≡ record old { num_operations = old.num_operations + 1 } →
      (k : List (Frame H)) →
      Leads (machine rules) (cut rules) (at (Ask call) k (state_of t old scope held)) (at (Question call) k (state_of t mid scope held))
  charges_call t old mid scope held call room is k =
      charged rules t old mid scope held (Ask call) (Question call) call.operation.at (λ j. refl) room is k

  -- a refused charge of a call
  pub refuses_call : (t : S) (old new : RunState H) (scope : Scope H) (held : Held H) (call : Call H)
      (x : EvalAltResult H) →
      limit_under rules ≤ old.num_operations → x ≡ error.ErrorTooManyOperations call.operation.at → new ≡ old →
      (k : List (Frame H)) →
      Leads (machine rules) (cut rules) (at (Ask call) k (state_of t old scope held)) (at (Fail x) k (state_of t new scope held))
  refuses_call t old new scope held call x full is same k =
      refused rules t old new scope held (Ask call) (Question call) call.operation.at (λ j. refl) x full is same k

  -- ---- a first argument is there

  module _ (operation : Operation) (id : Option NativeId) (lender : Option Lender) (guarded marks : Bool) (x : Dynamic H)
      (rest : List (Dynamic H)) (k : List (Frame H)) (now : State S H) where
    abbrev made : (marks : Bool) → Call H
    made m = native_call operation id lender guarded m (x ∷ rest)

    abbrev cells : Cells H
    cells = now.local.around.cells

    -- once the table was asked a call tells of a change only where the native is not pure
    made_noted : (m pure : Bool) → noted m pure (made m) ≡ made (m && not pure)
    made_noted false pure = refl
    made_noted true pure = refl

    -- nothing can be lent for it
    question_races : first_of cells (made marks) x ≡ Err (error.ErrorDataRace operation.name operation.at) → (e : EvalAltResult H) →
        (is_out_of_memory e ≡ false → e ≡ error.ErrorDataRace operation.name operation.at) →
        Leads (machine rules) (cut rules) (at (Question (made marks)) k now) (at (Fail e) k now)
    question_races is e race =
        step_by rules _ _ _ (ap (λ r. question_first rules.setting (made marks) rest r k now.local) is) here
        ⨾ faulted rules e (error.ErrorDataRace operation.name operation.at) race k now

    module _ (from : Option Place) (v : Dynamic H) (is : first_of cells (made marks) x ≡ Ok (record { from = from; value = v })) where
      -- what the table says of the native's purity
      abbrev pure : Bool
      pure = rules.natives.pure now.table (purity_of (native_key operation.name id) (type_name_of rules.setting.host_type cells v)
          (1 + length rest))

      questions : (barred : Bool) → (guarded && is_barred pure v) ≡ barred →
          Leads (machine rules) (cut rules) (at (Question (made marks)) k now)
          (with_core (barred_call rules.setting barred pure (made marks) k now.local) now)
      questions barred asked =
          step_by rules _ _ _ (ap (λ r. question_first rules.setting (made marks) rest r k now.local) is) (rw asked here)

      let_through : (p : Bool) → pure ≡ p →
          Leads (machine rules) (cut rules) (with_core (barred_call rules.setting false pure (made marks) k now.local) now) (at
          (Fire (made (marks && not p))) k now)
      let_through p same = rw (made_noted marks pure, same) here

      -- the cells meanwhile
      abbrev lending : Cells H
      lending = while_from from cells

      -- and once the value is back
      abbrev later : Option (Dynamic H) → Cells H
      later left = (put_left from left now.local).around.cells

      -- the state that the native leaves
      abbrev left_in : Option (Dynamic H) → S → State S H
      left_in left t = record now { table = t; local = put_left from left now.local }

      abbrev Wanted : Option (Dynamic H) → Reply H → Result (Dynamic H) (EvalAltResult H) → Type 0
      Wanted left r result = Answers result (replied rules.setting.limits rules.setting.host_type r left rest operation
          (is_some (native_number id)) (later left))

      fires : (m : Bool) (r : Reply H) (left : Option (Dynamic H)) (t : S) (result : Result (Dynamic H) (EvalAltResult H)) →
          rules.natives.gives now.table (request lending (native_key operation.name id) (Some v) rest operation.at) ≡ effect r left t →
          Wanted left r result →
          Leads (machine rules) (cut rules) (at (Fire (made m)) k now)
          (at (ended_or_changed (with_changed (m && gives (Some r)) result)) k (left_in left t))
      fires m r left t result obeys told =
          step_by rules _ _ _ (ap (λ f. fire_first rules.setting (made m) rest f k now.local) is)
          (rw obeys (told_with_changed m r result _ told k (left_in left t)))

      -- what the native may leave
      abbrev May : Option (Dynamic H) → S → Type 0
      May left t = MayLeave rules.setting.host_type rules.natives now.table
          (request lending (native_key operation.name id) (Some v) rest operation.at) left t

      -- a native that has no memory may have changed its first argument and the table
      fires_out_of_memory : (m : Bool) (left : Option (Dynamic H)) (t : S) (pos : Position) → May left t →
          Leads (machine rules) (cut rules) (at (Fire (made m)) k now) (at (Fail (error.ErrorOutOfMemory pos)) k (left_in left t))
      fires_out_of_memory m left t pos may =
          out_in_native {call = request lending (native_key operation.name id) (Some v) rest operation.at}
          {f = λ reply given. core (answered m reply
          (replied rules.setting.limits rules.setting.host_type reply given rest operation (is_some (native_number id)) (later given))) k
          (put_left from given now.local)}
          {at = pos}
          (ap (λ f. fire_first rules.setting (made m) rest f k now.local) is) (error.ErrorOutOfMemory pos) left t may here

      fires_told_out : (m mark : Bool) (left : Option (Dynamic H)) (t : S) (result : Result (Dynamic H) (EvalAltResult H)) → May left t →
          (HasMemory result → false ≡ true) →
          Leads (machine rules) (cut rules) (at (Fire (made m)) k now) (at (ended_or_changed (with_changed mark result)) k (left_in left t))
      fires_told_out m mark left t (Ok w) may memory = absurd (false≢true (memory tt))
      fires_told_out m mark left t (Err (error.ErrorOutOfMemory pos)) may memory = fires_out_of_memory m left t pos may
      fires_told_out m mark left t (Err e) may memory = absurd (false≢true (memory refl))

      fires_told : (m : Bool) (answer : Option (Reply H)) (left : Option (Dynamic H)) (t : S)
          (result : Result (Dynamic H) (EvalAltResult H)) →
          Obeys (rules.natives.gives now.table (request lending (native_key operation.name id) (Some v) rest operation.at)) answer left t →
          May left t → IfSome answer (λ r. Wanted left r result) → (HasMemory result → is_some answer ≡ true) →
          Leads (machine rules) (cut rules) (at (Fire (made m)) k now)
          (at (ended_or_changed (with_changed (m && gives answer) result)) k (left_in left t))
      fires_told m None left t result obeys may answers memory = fires_told_out m (m && false) left t result may memory
      fires_told m (Some r) left t result obeys may answers memory = fires m r left t result obeys answers

  -- ---- a native on a value that is lent

  module _ (cells later : Cells H) (operation : Operation) (id : Option NativeId) (guarded marks : Bool) (lent : Dynamic H)
      (rest : List (Dynamic H)) (t : S) (plain : is_handle lent.value ≡ false) where
    -- the native changes nothing, and is barred from the value
    abbrev pure_on : Bool
    pure_on = is_pure_on rules.natives rules.setting.host_type t (native_key operation.name id) lent rest

    abbrev barred : Bool
    barred = is_barred_from rules.natives rules.setting.host_type t (native_key operation.name id) lent rest guarded

    -- what the machine asks, with the cells of the moment
    abbrev pure_there : Cells H → Bool
    pure_there there = rules.natives.pure t (purity_of (native_key operation.name id) (type_name_of rules.setting.host_type there lent)
        (1 + length rest))

    same_purity : (there : Cells H) → pure_there there ≡ pure_on
    same_purity there = ap (λ (name : List ℕ). rules.natives.pure t (purity_of (native_key operation.name id) name (1 + length rest)))
        (own_named rules.setting.host_type there lent.value plain)

    asked : (there : Cells H) (b : Bool) → barred ≡ b → (guarded && is_barred (pure_there there) lent) ≡ b
    asked there b is = ap (λ (p : Bool). guarded && is_barred p lent) (same_purity there) ∙ is

    pub calls_barred : (e : EvalAltResult H) (left : Dynamic H) (t' : S) (result : Result (Dynamic H × Bool) (EvalAltResult H)) →
        Bars rules.natives rules.setting.host_type (native_key operation.name id) guarded lent rest t t' left e operation.name
        operation.at → result ≡ Err e → CallsOn rules cells later operation id guarded marks lent left rest t t' result
    unfolding CallsOn Goes
    calls_barred e left t' result (is, same, kept, bars) fails lender from x count l stands meanwhile back first k =
        rw (fails, same, kept, put_same from lent l stands)
        (questions operation id lender guarded marks x rest k (record { table = t; count = count; local = l }) from lent first true
        (asked l.around.cells true is)
        ⨾ faulted rules e (error.ErrorNonPureMethodCallOnConstant operation.name operation.at) bars k
        (record { table = t; count = count; local = l }))

    pub calls_on : (answer : Option (Reply H)) (left : Dynamic H) (t' : S) (changed by_number : Bool)
        (q : Result (Dynamic H) (EvalAltResult H)) (result : Result (Dynamic H × Bool) (EvalAltResult H)) →
        GivesOn rules.natives rules.setting.host_type cells (native_key operation.name id) guarded marks lent rest operation.at t t' answer
        left changed → by_number ≡ is_some id →
        IfSome answer (λ r. Answers q (replied rules.setting.limits rules.setting.host_type r (Some left) rest operation by_number later)) →
        (HasMemory q → is_some answer ≡ true) → result ≡ with_changed changed q →
        CallsOn rules cells later operation id guarded marks lent left rest t t' result
    unfolding CallsOn Goes
    calls_on answer left t' changed by_number q result (is, leaves, does) numbered answers memory tells_it lender from x count l stands
        meanwhile back first k =
        rw (tells_it, does)
        (questions operation id lender guarded marks x rest k (record { table = t; count = count; local = l }) from lent first false
        (asked l.around.cells false is)
        ⨾ let_through operation id lender guarded marks x rest k (record { table = t; count = count; local = l }) from lent first pure_on
        (same_purity l.around.cells)
        ⨾ fires_told operation id lender guarded marks x rest k (record { table = t; count = count; local = l }) from lent first
        (marks && not pure_on) answer (Some left) t' q (rw meanwhile at leaves.0) (rw meanwhile at leaves.1)
        (rw (numbered ∙ number_same id, back) at answers) memory)

  -- it is lent from a cell
  pub calls_in_cell : (operation : Operation) (id : Option NativeId) (guarded marks : Bool) (cell : CellId) (rest : List (Dynamic H))
      (before mid later : Cells H) (lent left : Dynamic H) (t t' : S) (result : Result (Dynamic H × Bool) (EvalAltResult H)) →
      value_of_cell before cell.number ≡ Some lent → is_handle lent.value ≡ false → mid ≡ with_held before cell.number →
      later ≡ with_value mid cell.number left → CallsOn rules mid later operation id guarded marks lent left rest t t' result →
      CallsInCell rules operation id guarded marks cell rest before later t t' result
  unfolding CallsInCell CallsOn
  calls_in_cell operation id guarded marks cell rest before mid later lent left t t' result there plain taken given calls
      lender x count l is same =
      let back : later ≡ with_value l.around.cells cell.number left = given
      ∙ ap (λ (cells : Cells H). with_value cells cell.number left) taken ∙ cells_back before cell.number left
      ∙ ap (λ (cells : Cells H). with_value cells cell.number left) same in
      rw back
      (calls lender (Some (InCell cell.number)) x count l
      (ap (λ (cells : Cells H). value_of_cell cells cell.number) (sym same) ∙ there)
      (taken ∙ ap (λ (cells : Cells H). with_held cells cell.number) same) back
      (first_cell l.around.cells operation lender x.value x lent cell is
      (ap (λ (cells : Cells H). value_of_cell cells cell.number) (sym same) ∙ there) plain))

  -- ---- a native on its first argument

  module _ (operation : Operation) (id : Option NativeId) (lender : Option Lender) (guarded marks : Bool) (x : Dynamic H)
      (rest : List (Dynamic H)) (t t' : S) (global : RunState H) (scope : Scope H) (held : Held H)
      (stands : Stands lender x (local_of global scope held)) (result : Result (Dynamic H × Bool) (EvalAltResult H)) where
    -- that is no handle
    pub first_by_itself : (left : Dynamic H) → is_handle x.value ≡ false →
        CallsOn rules (cells_of global.cells) (cells_of global.cells) operation id guarded marks x left rest t t' result →
        Steps rules (Question (native_call operation id lender guarded marks (x ∷ rest))) (state_of t global scope held)
        (ended_or_changed result) (back_in lender left (state_of t' global scope held))
    unfolding CallsOn
    first_by_itself left plain calls =
        rw (← back_is lender left (state_of t' global scope held))
        (calls lender (option_map place_of lender) x global.num_operations (local_of global scope held)
        (stands_at lender x (local_of global scope held) stands) (while_lender lender (cells_of global.cells))
        (back_lender lender left (local_of global scope held))
        (first_plain (cells_of global.cells) operation lender x.value x plain))

    -- that is a handle
    pub first_in_cell : (new : RunState H) (cell : CellId) → x.value ≡ value.Cell cell →
        new ≡ record global { cells = new.cells } →
        CallsInCell rules operation id guarded marks cell rest (cells_of global.cells) (cells_of new.cells) t t' result →
        Stands lender x (local_of new scope held) →
        Steps rules (Question (native_call operation id lender guarded marks (x ∷ rest))) (state_of t global scope held)
        (ended_or_changed result) (back_in lender x (state_of t' new scope held))
    unfolding CallsInCell
    first_in_cell new cell is same calls there =
        rw (back_same lender x (state_of t' new scope held) there, same)
        (calls lender x global.num_operations (local_of global scope held) is refl)

    -- that is a handle of which nothing can be lent
    pub first_races : (cell : CellId) → x.value ≡ value.Cell cell → t' ≡ t →
        lends_from (value_of_cell (cells_of global.cells) cell.number) ≡ false → (e : EvalAltResult H) → result ≡ Err e →
        (is_out_of_memory e ≡ false → e ≡ error.ErrorDataRace operation.name operation.at) →
        Steps rules (Question (native_call operation id lender guarded marks (x ∷ rest))) (state_of t global scope held)
        (ended_or_changed result) (back_in lender x (state_of t' global scope held))
    unfolding Goes
    first_races cell is same lends e fails race k =
        rw (back_same lender x (state_of t' global scope held) stands, same, fails)
        (question_races operation id lender guarded marks x rest k (state_of t global scope held)
        (first_held (cells_of global.cells) operation lender x.value x cell is lends) e race)

  -- ---- without arguments

  module _ (operation : Operation) (id : Option NativeId) (k : List (Frame H)) (now : State S H) where
    abbrev lone : (marks : Bool) → Call H
    lone m = native_call operation id None false m []

    lone_noted : (m pure : Bool) → noted m pure (lone m) ≡ lone (m && not pure)
    lone_noted false pure = refl
    lone_noted true pure = refl

    -- what is asked of the table
    abbrev lone_request : Request H
    lone_request = request now.local.around.cells (native_key operation.name id) None [] operation.at

    abbrev lone_pure : Bool
    lone_pure = rules.natives.pure now.table (purity_of (native_key operation.name id) [] 0)

    lone_asked : (m : Bool) → Leads (machine rules) (cut rules) (at (Question (lone m)) k now) (at (Fire (lone (m && not lone_pure))) k now)
    lone_asked m = step_by rules _ _ _ refl (rw (lone_noted m lone_pure) here)

    lone_fires : (m : Bool) (answer : Option (Reply H)) (t : S) (q : Result (Dynamic H) (EvalAltResult H)) →
        Obeys (rules.natives.gives now.table lone_request) answer None t →
        MayLeave rules.setting.host_type rules.natives now.table lone_request None t →
        IfSome answer (λ r. Answers q (replied rules.setting.limits rules.setting.host_type r None [] operation (is_some (native_number id))
        now.local.around.cells)) → (HasMemory q → is_some answer ≡ true) →
        Leads (machine rules) (cut rules) (at (Fire (lone m)) k now)
        (at (ended_or_changed (with_changed (m && gives answer) q)) k (record now { table = t }))
    unfolding after
    lone_fires m (Some r) t q obeys may answers memory =
        next (rw obeys (told_with_changed m r q _ answers k (record now { table = t })))
    lone_fires m None t (Ok v) obeys may answers memory = absurd (false≢true (memory tt))
    lone_fires m None t (Err (error.ErrorOutOfMemory pos)) obeys may answers memory =
        out_in_native {at = pos} refl (error.ErrorOutOfMemory pos) None t may here
    lone_fires m None t (Err e) obeys may answers memory = absurd (false≢true (memory refl))

    pub fires_alone : (marks by_number : Bool) (answer : Option (Reply H)) (t : S) (q : Result (Dynamic H) (EvalAltResult H))
        (result : Result (Dynamic H × Bool) (EvalAltResult H)) →
        Obeys (rules.natives.gives now.table lone_request) answer None t →
        MayLeave rules.setting.host_type rules.natives now.table lone_request None t →
        by_number ≡ is_some id → IfSome answer (λ r. Answers q (replied rules.setting.limits rules.setting.host_type r None [] operation
        by_number now.local.around.cells)) → (HasMemory q → is_some answer ≡ true) →
        result ≡ with_changed ((marks && not lone_pure) && gives answer) q →
        Leads (machine rules) (cut rules) (at (Question (lone marks)) k now) (at (ended_or_changed result) k (record now { table = t }))
    fires_alone marks by_number answer t q result obeys may numbered answers memory is =
        rw is (lone_asked marks ⨾ lone_fires (marks && not lone_pure) answer t q obeys may (rw (numbered ∙ number_same id) at
        answers) memory)
