-- The native of an update is asked: its charge, its call with the target, and what it leaves.
use Rattle.std.proofs.Common.{sym, ◌∙◌, ◌≡◌, ◌<◌, ◌≤◌, ◌+◌, ℕ, Bool, true, false, List, [], ◌∷◌, Option, Some, None, IfSome, refl, ap}
use Rattle.std.proofs.Common.{subst}
use Rattle.std.proofs.lemmas.Bool.{lt-ltb, le-ltb}
use Rattle.rhai_tree.specs.declared.position.Position.{Position}
use Rattle.rhai_values.specs.declared.base.value.CellId.{CellId}
use Rattle.rhai_values.specs.declared.base.value.Dynamic.{Dynamic}
use Rattle.rhai_values.specs.declared.base.value.Union.{Union}
use Rattle.rhai_values.specs.declared.base.value.Union.TheVariants as value
use Rattle.rhai_state.specs.declared.scope.Scope.{Scope}
use Rattle.rhai_values.specs.Cells.{cells_of}
use Rattle.rhai_lookups.specs.declared.run.RunState.{RunState}
use Rattle.rhai_errors.specs.declared.error.EvalAltResult.{EvalAltResult}
use Rattle.rhai_errors.specs.declared.error.EvalAltResult.TheVariants as error
use Rattle.rhai_errors.specs.Errors.{is_out_of_memory}
use Rattle.rhai_errors.specs.Native.{MayLeave, Natives, Request, Reply, Faults, Named, Obeys, effect, request}
use Rattle.rhai_machine.specs.machine.Machine.{Charge, Go, Native}
use Rattle.rhai_machine.specs.machine.Point.{Point, after}
use Rattle.rhai_machine.specs.machine.Memory.{here, next, out_in_native, out_of_memory_in_native, ◌⨾◌, Leads}
use Rattle.rhai_machine.specs.language.Setting.{Setting, Rules, limit_under, cut}
use Rattle.rhai_machine.specs.language.State.{Held, State, Local}
use Rattle.rhai_machine.specs.language.Values.{Cells, is_handle}
use Rattle.rhai_machine.specs.language.Places.{put, while_lent}
use Rattle.rhai_machine.specs.language.Frames.{Attempt, InPlace, AsValue, Update, Frame, Core, core, AskUpdate, QuestionUpdate}
use Rattle.rhai_machine.specs.language.Frames.{FireUpdate, Fail}
use Rattle.rhai_machine.specs.language.Assignment.{answered_core, barred_core, call_update, fire_update, target_left, lent_core, native_of}
use Rattle.rhai_machine.specs.language.Language.{machine, move, without_memory}
use Rattle.rhai_machine.specs.language.Runs.{at, with_core, Steps, Goes}
use Rattle.rhai_steps.specs.States.{local_of, state_of}
use Rattle.rhai_steps.proofs.Pieces.{faulted, step_by}
use Rattle.rhai_assign.specs.Follows.{Asked}
use Rattle.rhai_assign.specs.Lending.{placed, IsFree, IsLentFrom, IsOwnCell}
use Rattle.rhai_assign.specs.Updates.{is_barred_for}
use Rattle.rhai_assign.proofs.Lent.{barred_alike, lent_cells, put_twice}

module _ {H : Type 0} (s : Setting H) where
  handle_move : (x : Union H) (u : Update H) (k : List (Frame H)) (l : Local H) → is_handle x ≡ true →
      fire_update s x u k l ≡ Go (core (Fail (error.ErrorDataRace (native_of u.attempt u.operator) u.at)) k l)
  handle_move (value.Cell id) u k l h = refl
  handle_move _ u k l h = cc

  plain_move : (x : Union H) (u : Update H) (k : List (Frame H)) (l : Local H) → is_handle x ≡ false →
      fire_update s x u k l ≡ call_update s u k l
  plain_move (value.Cell id) u k l h = cc
  plain_move _ u k l h = refl

  -- a native that runs out of memory leaves the target written back
  runs_out_answered : (attempt : Attempt) (pos : Position) (u : Update H) (k : List (Frame H)) (l : Local H) →
      without_memory pos (answered_core s attempt (Faults (error.ErrorOutOfMemory pos)) u k l) ≡ core
      (Fail (error.ErrorOutOfMemory pos)) k l
  runs_out_answered InPlace pos u k l = refl
  runs_out_answered AsValue pos u k l = refl

-- what is asked of a table under two names that are the same
pub asked_alike : {S H : Type 0} (host : H → List ℕ) (natives : Natives S H) (t : S) (shown name : List ℕ) (target : Dynamic H)
    (r b : Bool) → shown ≡ name → r ≡ is_barred_for host natives t shown target → r ≡ b → is_barred_for host natives t name target ≡ b
asked_alike host natives t shown name target r b named asked is =
    ap (λ n. is_barred_for host natives t n target) (sym named) ∙ sym asked ∙ is

module _ {S H : Type 0} (rules : Rules S H) where
  -- the native of an update is barred from its target
  abbrev barred_in : S → Update H → Bool
  barred_in t u = is_barred_for rules.setting.host_type rules.natives t (native_of u.attempt u.operator) u.target

  -- the state of the machine, which has the target at its place
  abbrev lent : Update H → S → RunState H → Scope H → Held H → State S H
  lent u t global scope held = placed u.place u.target (state_of t global scope held)

  -- an update that is charged
  charges_update : (t : S) (old mid : RunState H) (scope : Scope H) (held : Held H) (u : Update H) →
      old.num_operations < limit_under rules → mid ≡ record old { num_operations = old.num_operations + 1 } →
      (k : List (Frame H)) →
      Leads (machine rules) (cut rules) (at (AskUpdate u) k (lent u t old scope held)) (at (QuestionUpdate u) k (lent u t mid scope held))
  charges_update t old mid scope held u room counted k =
      step_by rules _ _ (Charge u.at (core (QuestionUpdate u) k (lent u t old scope held).local)) refl
      (rw (lt-ltb _ _ room, counted) here)

  -- stands before its native, unless that is barred
  questions_update : (t : S) (old mid : RunState H) (scope : Scope H) (held : Held H) (u : Update H) (barred : Bool) →
      old.num_operations < limit_under rules → mid ≡ record old { num_operations = old.num_operations + 1 } →
      IsFree u.target → barred_in t u ≡ barred →
      (k : List (Frame H)) → Leads (machine rules) (cut rules) (at (AskUpdate u) k (lent u t old scope held))
      (with_core (barred_core rules.setting barred u k (lent u t mid scope held).local) (lent u t mid scope held))
  unfolding after
  questions_update t old mid scope held u barred room counted free is k =
      charges_update t old mid scope held u room counted k
      ⨾ next (rw (
        barred_alike rules.setting.host_type rules.natives (lent u t mid scope held).local.around.cells t
            (native_of u.attempt u.operator) u.target free,
        is,
      ) here)

  asks_update : (t : S) (old mid : RunState H) (scope : Scope H) (held : Held H) (u : Update H) →
      old.num_operations < limit_under rules → mid ≡ record old { num_operations = old.num_operations + 1 } →
      IsFree u.target → barred_in t u ≡ false → (k : List (Frame H)) →
      Leads (machine rules) (cut rules) (at (AskUpdate u) k (lent u t old scope held)) (at (FireUpdate u) k (lent u t mid scope held))
  asks_update t old mid scope held u room counted free allowed k = questions_update t old mid scope held u false room counted free allowed k

  -- a target that is a bare handle is refused
  refuses_handle : (u : Update H) (k : List (Frame H)) (now : State S H) → is_handle u.target.value ≡ true →
      Leads (machine rules) (cut rules) (at (FireUpdate u) k now)
      (at (Fail (error.ErrorDataRace (native_of u.attempt u.operator) u.at)) k now)
  refuses_handle u k now handle = step_by rules _ _ _ (handle_move rules.setting u.target.value u k now.local handle) here

  -- the call of the native
  abbrev call_of : Update H → State S H → Request H
  call_of u now = request (while_lent u.place now.local.around.cells) (Named (native_of u.attempt u.operator)) (Some u.target)
      (u.operand ∷ []) u.at

  -- the native is called, and its target is written back
  fires_update : (u : Update H) (k : List (Frame H)) (now : State S H) (r : Reply H) (v : Dynamic H) (t : S) →
      is_handle u.target.value ≡ false →
      rules.natives.gives now.table (call_of u now) ≡ effect r (Some v) t →
      (p : Point S (Core H)) → p ≡ record { core = lent_core rules.setting r v u k now.local; table = t; count = now.count } →
      Leads (machine rules) (cut rules) (at (FireUpdate u) k now) p
  fires_update u k now r v t plain obeys p is =
      step_by rules _ _ _ (plain_move rules.setting u.target.value u k now.local plain) (rw (obeys, is) here)

  -- or it runs out of memory, and its target is written back too
  stops_of_memory : (p q : Point S (Core H)) (call : Request H) (f : Reply H → Option (Dynamic H) → Core H) (pos : Position) →
      move rules.setting p.core ≡ Native call f →
      (e : EvalAltResult H) (first : Option (Dynamic H)) (state : S) →
      MayLeave rules.setting.host_type rules.natives p.table call first state →
      Leads (machine rules) (cut rules) (out_of_memory_in_native (machine rules) pos f e first state p) q →
      Leads (machine rules) (cut rules) p q
  stops_of_memory p q call f pos is e first state may go = out_in_native {call = call} {f = f} {at = pos} is e first state may go

  fires_without_memory : (u : Update H) (k : List (Frame H)) (now new : State S H) (v : Dynamic H) (pos : Position) →
      is_handle u.target.value ≡ false →
      new ≡ record now { table = new.table; local = put u.place v now.local } →
      MayLeave rules.setting.host_type rules.natives now.table (call_of u now) (Some v) new.table →
      Leads (machine rules) (cut rules) (at (FireUpdate u) k now) (at (Fail (error.ErrorOutOfMemory pos)) k new)
  fires_without_memory u k now new v pos plain is may =
      stops_of_memory (at (FireUpdate u) k now) (at (Fail (error.ErrorOutOfMemory pos)) k new) (call_of u now)
      (λ reply left. lent_core rules.setting reply (target_left u left) u k now.local) pos
      (plain_move rules.setting u.target.value u k now.local plain)
      (error.ErrorOutOfMemory pos) (Some v) new.table may
      (rw (runs_out_answered rules.setting u.attempt pos (record u { target = v }) k (put u.place v now.local), is) here)

  -- an update that is not charged, and one whose target is a bare handle
  pub refuses_update : (t : S) (old new : RunState H) (scope : Scope H) (held : Held H) (u : Update H)
      (x : EvalAltResult H) →
      limit_under rules ≤ old.num_operations → x ≡ error.ErrorTooManyOperations u.at → new ≡ old →
      Steps rules (AskUpdate u) (lent u t old scope held) (Fail x) (lent u t new scope held)
  unfolding Goes
  refuses_update t old new scope held u x full is same k =
      step_by rules _ _ (Charge u.at (core (QuestionUpdate u) k (lent u t old scope held).local)) refl
      (rw (le-ltb _ _ full, is, same) here)

  module _ (t : S) (old mid : RunState H) (scope : Scope H) (held : Held H) (u : Update H)
      (room : old.num_operations < limit_under rules) (counted : mid ≡ record old { num_operations = old.num_operations + 1 })
      (free : IsFree u.target) where
    pub holds_update : (name : List ℕ) (e : EvalAltResult H) → barred_in t u ≡ false → is_handle u.target.value ≡ true →
        name ≡ native_of u.attempt u.operator → (is_out_of_memory e ≡ false → e ≡ error.ErrorDataRace name u.at) →
        Steps rules (AskUpdate u) (lent u t old scope held) (Fail e) (lent u t mid scope held)
    unfolding Goes
    holds_update name e allowed handle named race k =
        asks_update t old mid scope held u room counted free allowed k
        ⨾ refuses_handle u k (lent u t mid scope held) handle
        ⨾ faulted rules e (error.ErrorDataRace (native_of u.attempt u.operator) u.at) (rw named at race) k (lent u t mid scope held)

    -- one whose native is barred from its target
    pub bars_update : (name : List ℕ) (e : EvalAltResult H) → barred_in t u ≡ true → name ≡ native_of u.attempt u.operator →
        (is_out_of_memory e ≡ false → e ≡ error.ErrorNonPureMethodCallOnConstant name u.at) →
        Steps rules (AskUpdate u) (lent u t old scope held) (Fail e) (lent u t mid scope held)
    unfolding Goes
    bars_update name e barred named bars k =
        questions_update t old mid scope held u true room counted free barred k
        ⨾ faulted rules e (error.ErrorNonPureMethodCallOnConstant (native_of u.attempt u.operator) u.at) (rw named at bars) k
        (lent u t mid scope held)

    module _ (called : S) (cell : Option CellId) (w : Dynamic H) (plain : is_handle u.target.value ≡ false)
        (own : IsOwnCell cell (cells_of mid.cells)) (from : IsLentFrom u.place cell) (allowed : barred_in t u ≡ false) where
      -- the state in which the native has left the target
      abbrev left : State S H
      left = placed u.place w (state_of called mid scope held)

      left_is : left ≡ record (lent u t mid scope held) { table = called; local = put u.place w (lent u t mid scope held).local }
      left_is = ap (λ (l : Local H). record { table = called; count = mid.num_operations; local = l })
          (sym (put_twice u.place u.target w (local_of mid scope held)))

      answers_update : (answer : Option (Reply H)) (name : List ℕ) (rest : List (Dynamic H)) →
          Obeys (rules.natives.gives t (request (cells_of mid.cells) (Named name) (Some u.target) rest u.at)) answer (Some w) called →
          name ≡ native_of u.attempt u.operator → rest ≡ u.operand ∷ [] →
          IfSome answer (λ reply.
          Goes rules (core (AskUpdate u)) (lent u t old scope held)
          (answered_core rules.setting u.attempt reply (record u { target = w })) left)
      unfolding Goes
      answers_update None name rest obeys named only = tt
      answers_update (Some reply) name rest obeys named only = λ k.
          asks_update t old mid scope held u room counted free allowed k
          ⨾ fires_update u k (lent u t mid scope held) reply w called plain
          (ap (λ (cells : Cells H). rules.natives.gives t (request cells (Named (native_of u.attempt u.operator)) (Some u.target)
          (u.operand ∷ []) u.at)) (lent_cells u.place cell u.target (local_of mid scope held) from own) ∙ (rw (named, only) at obeys)) _
          (ap (λ (l : Local H). record {
            core = answered_core rules.setting u.attempt reply (record u { target = w }) k l;
            table = called;
            count = mid.num_operations;
          })
          (sym (put_twice u.place u.target w (local_of mid scope held))))

      -- an update whose native was called
      pub asked : (answer : Option (Reply H)) (name : List ℕ) (rest : List (Dynamic H)) →
          Obeys (rules.natives.gives t (request (cells_of mid.cells) (Named name) (Some u.target) rest u.at)) answer (Some w) called →
          MayLeave rules.setting.host_type rules.natives t (request (cells_of mid.cells) (Named name) (Some u.target) rest u.at) (Some w)
          called → name ≡ native_of u.attempt u.operator → rest ≡ u.operand ∷ [] →
          Asked rules u (lent u t old scope held) answer w left
      unfolding Goes
      asked answer name rest obeys may named only = record {
        answered = answers_update answer name rest obeys named only;
        out_in_native = λ pos k.
            asks_update t old mid scope held u room counted free allowed k
            ⨾ fires_without_memory u k (lent u t mid scope held) left w pos plain left_is
            (subst (λ (cells : Cells H). MayLeave rules.setting.host_type rules.natives t
            (request cells (Named (native_of u.attempt u.operator)) (Some u.target) (u.operand ∷ []) u.at) (Some w) called)
            (sym (lent_cells u.place cell u.target (local_of mid scope held) from own)) (rw (named, only) at may));
      }
