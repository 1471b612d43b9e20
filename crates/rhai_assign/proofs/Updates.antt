-- The pieces of a run that assigns to a variable.
use Rattle.std.proofs.Common.{◌≡◌, ◌<◌, ◌≤◌, ◌+◌, ℕ, Bool, true, false, List, [], ◌∷◌, Option, Some, None, is_some, IfSome, Result, Ok}
use Rattle.std.proofs.Common.{Err, IfOk, IfErr, get_or, refl, sym, ap, ◌∙◌}
use Rattle.std.proofs.lemmas.Bool.{false≢true}
use Rattle.rhai_tree.specs.declared.position.Position.{Position}
use Rattle.rhai_tree.specs.declared.token.Token.{Token}
use Rattle.rhai_values.specs.declared.base.value.AccessMode.TheVariants.{ReadWrite}
use Rattle.rhai_values.specs.declared.base.value.Dynamic.{Dynamic}
use Rattle.rhai_values.specs.Modes.{with_mode}
use Rattle.rhai_state.specs.declared.scope.Scope.{Scope}
use Rattle.rhai_lookups.specs.declared.run.RunState.{RunState}
use Rattle.rhai_errors.specs.declared.error.EvalAltResult.{EvalAltResult}
use Rattle.rhai_errors.specs.declared.error.EvalAltResult.TheVariants as error
use Rattle.rhai_errors.specs.Errors.{is_out_of_memory}
use Rattle.rhai_state.specs.Scope.{entries_of}
use Rattle.rhai_errors.specs.Native.{Reply, Missing}
use Rattle.rhai_operators.specs.Answers as operators
use Rattle.rhai_operators.specs.Answers.{Answer, op_assign_of}
use Rattle.rhai_machine.specs.machine.Point.{Point, after}
use Rattle.rhai_machine.specs.machine.Memory.{here, next, out_before_step, ◌⨾◌, Leads}
use Rattle.rhai_machine.specs.language.Setting.{Rules, globals_of, limit_under, cut}
use Rattle.rhai_machine.specs.language.State.{Held, State, Local, HasMemory, Answers}
use Rattle.rhai_machine.specs.language.Values.{unit_value}
use Rattle.rhai_machine.specs.language.Places.{Place, Target, target_of, put}
use Rattle.rhai_machine.specs.language.Calls.{applied, operation_at, with_position, replied, sized}
use Rattle.rhai_machine.specs.language.Frames.{Control, Assignment, AsValue, InPlace, Update, Frame, Core, core, ended}
use Rattle.rhai_machine.specs.language.Frames.{Assign, Store, AskUpdate, Fail}
use Rattle.rhai_machine.specs.language.Assignment.{assign_core, changed_core, fault_core, if_fast, native_of, store_core}
use Rattle.rhai_machine.specs.language.Assignment.{update_core, value_core, variable_of_assignment, written_core}
use Rattle.rhai_machine.specs.language.Runs.{at, with_core, Runs, Steps, Goes}
use Rattle.rhai_machine.specs.language.Language.{machine}
use Rattle.rhai_steps.specs.States.{state_of, surroundings_of}
use Rattle.rhai_steps.proofs.Pieces.{charged, or_runs_out, refused, told}
use Rattle.rhai_steps.specs.Follows.{Follows, Does, FindsNoMemory}
use Rattle.rhai_assign.specs.declared.place.Update as code
use Rattle.rhai_assign.specs.Follows.{Asked, updates}
use Rattle.rhai_assign.specs.Lending.{placed}
use Rattle.rhai_assign.specs.Updates.{Becomes, changed_of, finished, error_unless, update_of}
use Rattle.rhai_assign.proofs.Lent.{put_twice}
use Rattle.rhai_assign.proofs.Writes.{changes, no_function, other, valued, wrote_memory}

-- the only item of a list
pub first_is : {A : Type 0} (xs : List A) (x y : A) → x ≡ get_or xs 0 x → xs ≡ y ∷ [] → x ≡ y
first_is {A = A} xs x y is only = is ∙ ap (λ (ys : List A). get_or ys 0 x) only

-- a built-in's answer for the operand as the machine has it
pub built_for : {H : Type 0} (answer : Answer H) (token : Token) (x y w : Dynamic H) →
    (operators.HasMemory answer → answer ≡ op_assign_of token x y) → y ≡ w →
    operators.HasMemory answer → answer ≡ op_assign_of token x w
built_for answer token x y w value same m = value m ∙ ap (λ v. op_assign_of token x v) same

-- a target that an error leaves stays at its place
pub left_lent : {H : Type 0} (place : Place) (v w : Dynamic H) (l : Local H) (r : Result (Dynamic H) (EvalAltResult H)) →
    IfErr r (λ _. w ≡ v) → IfErr r (λ _. put place w l ≡ put place v l)
left_lent place v w l (Ok x) left = tt
left_lent place v w l (Err e) left = ap (λ x. put place x l) left

-- without fast operators no built-in is tried
pub not_fast : {H : Type 0} (fast : Bool) (answer : Answer H) → fast ≡ false → if_fast fast answer ≡ None
not_fast true answer is = cc
not_fast false answer is = refl

module _ {S H : Type 0} (rules : Rules S H) where
  -- two points with the same parts
  lands : (c d : Core H) (t u : S) (m n : ℕ) → c ≡ d → t ≡ u → m ≡ n →
      Leads (machine rules) (cut rules) (record { core = c; table = t; count = m }) (record { core = d; table = u; count = n })
  lands c d t u m n e f g = rw (e, f, g) here

  -- the same core over a state
  pub same_core : (c d : Core H) (now : State S H) → c ≡ d → Leads (machine rules) (cut rules) (with_core c now) (with_core d now)
  same_core c d now is = rw is here

  module _ (p : Point S (Core H)) (k : List (Frame H)) (now : State S H) (u : Update H) where
    -- the native `op=` gave a value, and the target is measured
    pub changed_by : (r result : Result (Dynamic H) (EvalAltResult H)) →
        Leads (machine rules) (cut rules) p (with_core (changed_core rules.setting r u k now.local) now) →
        Answers result (changed_of rules.setting.limits r u.target u.target_at) →
        Leads (machine rules) (cut rules) p (at (ended result) k now)
    changed_by r result go is =
        go
        ⨾ same_core _ _ now (changes rules.setting r u k now.local)
        ⨾ told rules result (changed_of rules.setting.limits r u.target u.target_at) is k now

    -- it told a fault
    pub failed_by : (missing : Bool) (e error placed : EvalAltResult H) →
        Leads (machine rules) (cut rules) p (with_core (fault_core rules.setting missing (with_position u.at e) u k now.local) now) →
        error_unless missing e ≡ Some error → placed ≡ with_position u.at error →
        Leads (machine rules) (cut rules) p (at (ended (Err placed)) k now)
    failed_by missing e error placed go is at = go ⨾ same_core _ _ now (other rules.setting missing e error placed u k now.local is at)

    -- it is missing, and the native `op` is asked
    pub goes_on_by : (missing : Bool) (e placed : EvalAltResult H) (q : Point S (Core H)) →
        Leads (machine rules) (cut rules) p (with_core (fault_core rules.setting missing placed u k now.local) now) →
        error_unless missing e ≡ None → Leads (machine rules) (cut rules) (at (AskUpdate (record u { attempt = AsValue })) k now) q →
        Leads (machine rules) (cut rules) p q
    goes_on_by missing e placed q go is further =
        go ⨾ same_core _ _ now (no_function rules.setting missing e placed u k now.local is) ⨾ further

  -- where memory runs out a control ends so
  pub ends_of_memory : (c : Control H) (old : State S H) (pos : Position) → Steps rules c old (Fail (error.ErrorOutOfMemory pos)) old
  unfolding Goes
  ends_of_memory c old pos k = out_before_step {at = pos} here

  -- the native `op` gave a value, which is written and measured, or there is an error
  pub valued_by : (update : code.Update) (place : Place) (start s : State S H) (v w later operand : Dynamic H)
      (answer : Option (Reply H)) (outcome result : Result (Dynamic H) (EvalAltResult H)) →
      Asked rules (update_of update AsValue place v operand) start answer w (placed place w s) →
      IfSome answer (λ reply. Answers outcome (replied rules.setting.limits rules.setting.host_type reply (Some w) (operand ∷ [])
      (operation_at (native_of AsValue update.token) update.token update.at) false (put place w s.local).around.cells)) →
      (HasMemory outcome → is_some answer ≡ true) → IfOk outcome (λ x. later ≡ x) →
      IfOk outcome (λ x. Answers result (finished (sized rules.setting.limits x update.target_at))) →
      IfErr outcome (λ e. result ≡ Err e) → IfErr outcome (λ _. later ≡ w) →
      Runs rules (AskUpdate (update_of update AsValue place v operand)) start result (placed place later s)
  unfolding Goes
  valued_by update place start s v w later operand None (Ok x) result asked replies memory wrote measured fault left =
      absurd (false≢true (memory tt))
  valued_by update place start s v w later operand (Some reply) (Ok x) result asked replies memory wrote measured fault left = λ k.
      rw wrote (asked.answered k
      ⨾ same_core _ _ (placed place w s)
      (ap (λ (r : Result (Dynamic H) (EvalAltResult H)). value_core rules.setting r (update_of update AsValue place w operand) k
      (put place w s.local)) (sym (replies tt))
      ∙ valued rules.setting x (update_of update AsValue place w operand) k (put place w s.local)
      ∙ ap (λ (l : Local H). core (ended (finished (sized rules.setting.limits x update.target_at))) k l) (put_twice place w x s.local))
      ⨾ told rules result (finished (sized rules.setting.limits x update.target_at)) measured k (placed place x s))
  valued_by update place start s v w later operand answer (Err (error.ErrorOutOfMemory pos)) result asked replies memory wrote measured
      fault left = λ k.
      rw (fault, left) (asked.out_in_native pos k)
  valued_by update place start s v w later operand None (Err e) result asked replies memory wrote measured fault left =
      absurd (false≢true (memory refl))
  valued_by update place start s v w later operand (Some reply) (Err e) result asked replies memory wrote measured fault left = λ k.
      rw (fault, left) (asked.answered k ⨾ same_core _ _ (placed place w s)
      (ap (λ (r : Result (Dynamic H) (EvalAltResult H)). value_core rules.setting r (update_of update AsValue place w operand) k
      (put place w s.local)) (sym (replies refl))))

  -- where the native `op=` is missing the update goes on with what it left
  pub missing_by : (update : code.Update) (place : Place) (v w operand : Dynamic H) (start now new : State S H)
      (result : Result (Dynamic H) (EvalAltResult H)) → Asked rules (update_of update InPlace place v operand) start (Some Missing) w now →
      Follows rules ended (updates rules.setting (update_of update AsValue place w operand)) now result new →
      Runs rules (AskUpdate (update_of update InPlace place v operand)) start result new
  unfolding Goes
  missing_by update place v w operand start now new result asked (Does go) = λ k. asked.answered k ⨾ go k
  missing_by update place v w operand start now new result asked (FindsNoMemory pos is same) = λ k.
      rw (is, same) (asked.out_in_native pos k)

  -- a part that begins as another one goes on as that one does
  pub follows_alike : (start other : List (Frame H) → Local H → Core H) (old new : State S H)
      (result : Result (Dynamic H) (EvalAltResult H)) → ((k : List (Frame H)) → start k old.local ≡ other k old.local) →
      Follows rules ended other old result new → Follows rules ended start old result new
  unfolding Goes
  follows_alike start other old new result alike (Does go) = Does (λ k. same_core _ _ old (alike k) ⨾ go k)
  follows_alike start other old new result alike (FindsNoMemory pos is same) = FindsNoMemory pos is same

  -- an assignment without an operator writes its value
  pub writes : (assignment : Assignment) (target : Target H) (v : Dynamic H) (old new : State S H) → assignment.op.op ≡ None →
      new ≡ record old { local = put target.place (with_mode ReadWrite v) old.local } →
      Follows rules ended (assign_core rules.setting assignment.op.op assignment target v) old (Ok unit_value) new
  unfolding Goes
  writes assignment target v old new none is = Does (λ k. rw is (same_core _ _ old
      (ap (λ (o : Option Token). assign_core rules.setting o assignment target v k old.local) none)))

  -- one by an operator is an update
  pub by_operator : (assignment : Assignment) (target : Target H) (v : Dynamic H) (old new : State S H)
      (result : Result (Dynamic H) (EvalAltResult H)) (token : Token) → assignment.op.op ≡ Some token →
      Follows rules ended (assign_core rules.setting (Some token) assignment target v) old result new →
      Follows rules ended (assign_core rules.setting assignment.op.op assignment target v) old result new
  by_operator assignment target v old new result token is follows = follows_alike _ _ old new result
      (λ k. ap (λ (o : Option Token). assign_core rules.setting o assignment target v k old.local) is) follows

  module _ (u : Update H) (answer wanted : Answer H) (outcome : Result (Dynamic H) (EvalAltResult H))
      (value : operators.HasMemory answer → answer ≡ wanted) (is : answer ≡ Some outcome) (t : S) (n m : ℕ) (counts : m ≡ n)
      (before after : Local H) where
    abbrev now : ℕ → Local H → State S H
    now count l = record { table = t; count = count; local = l }

    built_told : (result : Result (Dynamic H) (EvalAltResult H)) → HasMemory result →
        Becomes (written_core (applied rules.setting.limits outcome u.at) u.place) before result after →
        Follows rules ended (update_core rules.setting wanted u) (now n before) result (now m after)
    unfolding Goes
    built_told result memory written = Does (λ k.
        let had = wrote_memory rules.setting.limits outcome result u.at u.place k before after memory (written memory k) in
        let e : wanted ≡ Some outcome = sym (value (rw is had)) ∙ is in
        lands _ _ t t _ _ (ap (λ (a : Answer H). update_core rules.setting a u k before) e ∙ written memory k) refl (sym counts))

    -- a built-in has the answer, or ran out of memory, and then nothing is written
    pub built : (result : Result (Dynamic H) (EvalAltResult H)) →
        Becomes (written_core (applied rules.setting.limits outcome u.at) u.place) before result after →
        IfErr result (λ _. after ≡ before) →
        Follows rules ended (update_core rules.setting wanted u) (now n before) result (now m after)
    built (Ok x) written left = built_told (Ok x) tt written
    built (Err (error.ErrorOutOfMemory pos)) written left = FindsNoMemory pos refl (rw (left, counts) refl)
    built (Err e) written left = built_told (Err e) refl written

  -- there is no built-in, and the native is asked
  pub not_built : (answer wanted : Answer H) (result : Result (Dynamic H) (EvalAltResult H)) (u : Update H) (old new : State S H) →
      (operators.HasMemory answer → answer ≡ wanted) → answer ≡ None → Runs rules (AskUpdate u) old result new →
      Follows rules ended (update_core rules.setting wanted u) old result new
  unfolding Goes
  not_built answer wanted result u old new value is runs =
      let e : wanted ≡ None = sym (value (rw is tt)) ∙ is in
      Does (λ k. same_core _ _ old (ap (λ (a : Answer H). update_core rules.setting a u k old.local) e) ⨾ runs k)

  -- where the target of a charged assignment is found, or is not
  store_step : (assignment : Assignment) (v : Dynamic H) (k : List (Frame H)) (now : State S H)
      (found : Result (Target H) (EvalAltResult H)) →
      target_of (globals_of rules.setting.offer) now.local.around now.local.scope (variable_of_assignment assignment) ≡ found →
      Leads (machine rules) (cut rules) (at (Store assignment v) k now)
      (with_core (store_core rules.setting found assignment v k now.local) now)
  unfolding after
  store_step assignment v k now found is = next (rw is here)

  module _ (t : S) (old mid : RunState H) (scope : Scope H) (held : Held H) (assignment : Assignment)
      (v : Dynamic H) where
    -- an assignment whose variable is not charged
    pub refuses_assignment : (x : EvalAltResult H) → limit_under rules ≤ old.num_operations →
        x ≡ error.ErrorTooManyOperations assignment.at → mid ≡ old →
        Steps rules (Assign assignment v) (state_of t old scope held) (Fail x) (state_of t mid scope held)
    unfolding Goes
    refuses_assignment x full is same k =
        refused rules t old mid scope held (Assign assignment v) (Store assignment v) assignment.at (λ j. refl) x full is same k

    module _ (room : old.num_operations < limit_under rules) (counted : mid ≡ record old { num_operations = old.num_operations + 1 }) where
      -- or whose target is not found
      pub misses : (e : EvalAltResult H) → (is_out_of_memory e ≡ false →
          target_of (globals_of rules.setting.offer) (surroundings_of mid) (entries_of scope) (variable_of_assignment assignment) ≡ Err e) →
          Steps rules (Assign assignment v) (state_of t old scope held) (Fail e) (state_of t mid scope held)
      unfolding Goes
      misses e is k =
          charged rules t old mid scope held (Assign assignment v) (Store assignment v) assignment.at (λ j. refl) room counted k
          ⨾ or_runs_out rules (Store assignment v) k (state_of t mid scope held) e
          (λ m. store_step assignment v k (state_of t mid scope held) (Err e) (is m))

      -- or whose target is found, and goes on from there
      pub assigns : (target : Target H) (result : Result (Dynamic H) (EvalAltResult H)) (new : State S H) →
          target_of (globals_of rules.setting.offer) (surroundings_of mid) (entries_of scope) (variable_of_assignment assignment)
          ≡ Ok target →
          Follows rules ended (assign_core rules.setting assignment.op.op assignment target v) (state_of t mid scope held) result new →
          Runs rules (Assign assignment v) (state_of t old scope held) result new
      unfolding Goes
      assigns target result new is (Does go) k =
          charged rules t old mid scope held (Assign assignment v) (Store assignment v) assignment.at (λ j. refl) room counted k
          ⨾ store_step assignment v k (state_of t mid scope held) (Ok target) is ⨾ go k
      assigns target result new is (FindsNoMemory pos same left) k = rw (same, left)
          (charged rules t old mid scope held (Assign assignment v) (Store assignment v) assignment.at (λ j. refl) room counted k
          ⨾ out_before_step {at = pos} here)
