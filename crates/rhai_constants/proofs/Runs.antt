-- Constants stay through whole runs, also where memory runs out.
use Rattle.std.proofs.Common.{refl, subst, inl, inr}
use Rattle.std.specs.Prelude.{◌≡◌, ◌⊎◌, ⊤, ℕ, Bool, true, false, List, [], ◌∷◌, Option, Some, None}
use Rattle.rhai_machine.specs.Types.{Dynamic, EvalAltResult, Position}
use Rattle.rhai_errors.specs.declared.error.EvalAltResult.TheVariants as error
use Rattle.rhai_errors.specs.Native.{Request, Reply, Faults, Lawful, MayLeave}
use Rattle.rhai_machine.specs.machine.Machine.{Move, Halt, Go, Charge, Native, AskPure}
use Rattle.rhai_machine.specs.machine.Point.{Point, Reaches, here as stop, next as step, paid, moved, after}
use Rattle.rhai_machine.specs.machine.Memory.{Leads, here, next, out_before_step, out_in_native, out_of_memory_in_native, OutOfMemory}
use Rattle.rhai_machine.specs.machine.Memory.{before_step, in_native, RunsOut}
use Rattle.rhai_machine.specs.language.Setting.{Rules, cut}
use Rattle.rhai_machine.specs.language.State.{Local, State}
use Rattle.rhai_machine.specs.language.Places.{Place, InEntry, InCell, InThis, InFocus}
use Rattle.rhai_machine.specs.language.Frames.{Lender, FromEntry, FromThis, FromFocus, Call, Control, Core, core, Ask, Question, Fire}
use Rattle.rhai_machine.specs.language.Frames.{AskUpdate, QuestionUpdate, FireUpdate, ForTurn, ForItem, Share, ChainArguments, ChainRoot}
use Rattle.rhai_machine.specs.language.Frames.{ReadRoot}
use Rattle.rhai_machine.specs.language.Frames.{Walk, Locate, Back, Fail, Frame, DefineValue}
use Rattle.rhai_machine.specs.language.Language.{machine, move, move_at}
use Rattle.rhai_machine.specs.language.Memory.{IsOutOfMemory, UpToMemory}
use Rattle.rhai_machine.specs.language.Runs.{at, with_core}
use Rattle.rhai_laws.proofs.MemoryLaws.{stays_out}
use Rattle.rhai_laws.proofs.ScriptMemory.{memory_unwinds}
use Rattle.rhai_fits.specs.Sealed.{Sealed}
use Rattle.rhai_fits.proofs.Runs.{runs_keep}
use Rattle.rhai_constants.specs.Constants.{IsConstant, HasEntry, replaces, replaces_at, IsOther, LendsOther, Spares}
use Rattle.rhai_constants.specs.Laws.{IsReplaced, own_end, ConstantsStay}
use Rattle.rhai_constants.proofs.Keeping.{Told, TellsChange, Lent, Writable, LentNow, At, Inv, Keeps, Moves, IsShielded, calm, quiet}
use Rattle.rhai_constants.proofs.Settling.{failed, kept_by}
use Rattle.rhai_constants.proofs.Rules.{move_keeps}

-- a truth value with what it is
pub data Known (b : Bool) : Type 0 where
  holds_so : b ≡ true → Known b
  fails_so : b ≡ false → Known b

known : (b : Bool) → Known b
known true = holds_so refl
known false = fails_so refl

module _ {S H : Type 0} (rules : Rules S H) (lawful : Lawful rules.setting.host_type rules.natives) (index : ℕ) (v : Dynamic H)
    (constant : IsConstant v) where
  -- the constant, and what a state of the table says
  abbrev pub told : S → Told H
  told state = record {
    of = record { index = index; value = v; constant = constant; host = rules.setting.host_type };
    pure = rules.natives.pure state;
  }

  record Stays (p : Point S (Core H)) : Type 0 where
    pub sealed : Sealed p.core
    pub kept : Inv (told p.table) p.core

  -- ---- one step

  charged_stays : (allowed : Bool) (pos : Position) (d : Core H) (p : Point S (Core H)) → Inv (told p.table) d → Inv (told p.table) p.core →
      Inv (told (paid (machine rules) allowed pos d p).table) (paid (machine rules) allowed pos d p).core
  charged_stays true pos d p h i = h
  charged_stays false pos d p h i = failed (told p.table) p.core (error.ErrorTooManyOperations pos) i

  moved_stays : (m : Move H (Core H)) (p : Point S (Core H)) → Moves (told p.table) p.core m → Inv (told p.table) p.core →
      Inv (told (moved (machine rules) (cut rules) m p).table) (moved (machine rules) (cut rules) m p).core
  moved_stays Halt p h i = i
  moved_stays (Go d) p h i = h.holds i
  moved_stays (Charge pos d) p h i = charged_stays (cut rules p.count) pos d p (h.holds i) i
  moved_stays (Native q f) p h i =
      let a = h i in
      a.answered (rules.natives.gives p.table q).reply (rules.natives.gives p.table q).first
      (rules.natives.pure (rules.natives.gives p.table q).state) ((lawful p.table q a.asks).leaves.pure_keeps)
  moved_stays (AskPure q f) p h i = h.holds i

  rules_at : (p : Point S (Core H)) → replaces index p.core ≡ false → Stays p → Moves (told p.table) p.core (move rules.setting p.core)
  rules_at p fine s = move_keeps (told p.table) rules.setting refl p.core.control p.core.stack p.core.local fine s.sealed.cells

  step_stays : (p : Point S (Core H)) → replaces index p.core ≡ false → Stays p → Stays (after (machine rules) (cut rules) p)
  unfolding after
  step_stays p fine s = record {
    sealed = (runs_keep rules rules.setting.host_type lawful p (after (machine rules) (cut rules) p) s.sealed (next here)).sealed;
    kept = moved_stays (move rules.setting p.core) p (rules_at p fine s) s.kept;
  }

  run_out_stays : (pos : Position) (p : Point S (Core H)) → Stays p →
      Stays (record p { core = core (Fail (error.ErrorOutOfMemory pos)) p.core.stack p.core.local })
  run_out_stays pos p s = record {
    sealed = (runs_keep rules rules.setting.host_type lawful p _ s.sealed (out_before_step {at = pos} here)).sealed;
    kept = failed (told p.table) p.core (error.ErrorOutOfMemory pos) s.kept;
  }

  -- a native that finds no memory
  native_left : (m : Move H (Core H)) (q : Request H) (f : Reply H → Option (Dynamic H) → Core H) (p : Point S (Core H)) → m ≡ Native q f →
      Moves (told p.table) p.core m → Inv (told p.table) p.core → (e : EvalAltResult H) (first : Option (Dynamic H)) (state : S) →
      MayLeave rules.setting.host_type rules.natives p.table q first state → Inv (told state) (f (Faults e) first)
  native_left m q f p is h i e first state may =
      let answers : Moves (told p.table) p.core (Native q f) =
      subst (λ (x : Move H (Core H)). Moves (told p.table) p.core x) is h in
      (answers i).answered (Faults e) first (rules.natives.pure state) may.leaves.pure_keeps

  native_run_out_stays : (p : Point S (Core H)) (q : Request H) (f : Reply H → Option (Dynamic H) → Core H) (pos : Position)
      (is : move rules.setting p.core ≡ Native q f) (e : EvalAltResult H) (first : Option (Dynamic H)) (state : S)
      (may : MayLeave rules.setting.host_type rules.natives p.table q first state) → replaces index p.core ≡ false → Stays p →
      Stays (record p {
        core = core (Fail (error.ErrorOutOfMemory pos)) (f (Faults e) first).stack (f (Faults e) first).local;
        table = state;
      })
  native_run_out_stays p q f pos is e first state may fine s = record {
    sealed = (runs_keep rules rules.setting.host_type lawful p _ s.sealed (out_in_native {at = pos} is e first state may here)).sealed;
    kept = failed (told state) (f (Faults e) first) (error.ErrorOutOfMemory pos)
        (native_left (move rules.setting p.core) q f p is (rules_at p fine s) s.kept e first state may);
  }

  -- ---- the machine's own steps

  abbrev Ends : (p q : Point S (Core H)) → Type 0
  Ends p q = Stays q ⊎ IsReplaced rules index p q

  later : {p q : Point S (Core H)} → Ends (after (machine rules) (cut rules) p) q → Ends p q
  later (inl s) = inl s
  later (inr e) = inr (record { point = e.point; before = step e.before; replaced = e.replaced; behind = e.behind })

  next_by : (p : Point S (Core H)) {q : Point S (Core H)} → Known (replaces index p.core) →
      Reaches (machine rules) (cut rules) (after (machine rules) (cut rules) p) q →
      (replaces index p.core ≡ false → Ends (after (machine rules) (cut rules) p) q) → Ends p q
  next_by p (holds_so is) r go = inr (record { point = p; before = stop; replaced = is; behind = r })
  next_by p (fails_so is) r go = later (go is)

  own_stays : {p q : Point S (Core H)} → Reaches (machine rules) (cut rules) p q → Stays p → Ends p q
  own_stays stop s = inl s
  own_stays (step {p = p} r) s = next_by p (known (replaces index p.core)) r (λ fine. own_stays r (step_stays p fine s))

  -- ---- where memory runs out

  -- the steps that replace the constant call no native
  no_native : (c : Control H) (k : List (Frame H)) (l : Local H) (q : Request H) (f : Reply H → Option (Dynamic H) → Core H) →
      replaces_at index c k l ≡ true → move_at rules.setting c k l ≡ Native q f → ⊥
  no_native (Share (variable ∷ rest)) k l q f is move = cc
  no_native (Back v) (DefineValue ident (Some offset) options restoring value_at ∷ k) l q f is move = cc
  no_native _ k l q f is move = cc

  native_runs_out_by : (p : Point S (Core H)) (q : Request H) (f : Reply H → Option (Dynamic H) → Core H) (pos : Position) →
      Known (replaces index p.core) → (is : move rules.setting p.core ≡ Native q f) (e : EvalAltResult H) (first : Option (Dynamic H))
      (state : S) (may : MayLeave rules.setting.host_type rules.natives p.table q first state) → Stays p →
      Stays (out_of_memory_in_native (machine rules) pos f e first state p)
  native_runs_out_by p q f pos (holds_so is_replaced) is e first state may s =
      absurd (no_native p.core.control p.core.stack p.core.local q f is_replaced is)
  native_runs_out_by p q f pos (fails_so fine) is e first state may s = native_run_out_stays p q f pos is e first state may fine s

  out_stays : {p since : Point S (Core H)} → OutOfMemory (machine rules) (cut rules) p since → Stays p → Stays since
  out_stays {p} (before_step pos) s = run_out_stays pos p s
  out_stays {p} (in_native {call = q} {f = f} is pos e first state may) s =
      native_runs_out_by p q f pos (known (replaces index p.core)) is e first state may s

  run_out_spares : (c : Core H) → IsOutOfMemory c → replaces index c ≡ false
  run_out_spares c is = rw is.1 refl

  -- its error only unwinds
  unwound : {p q : Point S (Core H)} → Leads (machine rules) (cut rules) p q → IsOutOfMemory p.core → Stays p → Stays q
  unwound here w s = s
  unwound (next {p = p} r) w s = unwound r (stays_out (machine rules) (cut rules) IsOutOfMemory (memory_unwinds rules) (next here) w)
      (step_stays p (run_out_spares p.core w) s)
  unwound (out_before_step {p = p} {at = pos} r) w s = unwound r (pos, refl) (run_out_stays pos p s)
  unwound (out_in_native {p = p} {call = q} {f = f} {at = pos} is e first state may r) w s =
      unwound r (pos, refl) (native_run_out_stays p q f pos is e first state may (run_out_spares p.core w) s)

  -- ---- a run

  out_by : {p q : Point S (Core H)} (out : RunsOut (machine rules) (cut rules) IsOutOfMemory p q) → Ends p out.before →
      Stays q ⊎ IsReplaced rules index p out.before
  out_by out (inl s) = inl (unwound out.unwinds out.is_out (out_stays out.runs_out s))
  out_by out (inr e) = inr e

  run_stays : {p q : Point S (Core H)} (run : UpToMemory rules p q) → Stays p → Stays q ⊎ IsReplaced rules index p (own_end rules run)
  run_stays (inl r) s = own_stays r s
  run_stays (inr out) s = out_by out (own_stays out.steps s)

  -- ---- the start

  lent_start : (lender : Option Lender) (guarded : Bool) (args : List (Dynamic H)) (state : S) → LendsOther index lender →
      Lent (told state).of lender guarded args []
  lent_start None guarded args state h = tt
  lent_start (Some (FromEntry n)) guarded args state h = λ b. h
  lent_start (Some FromThis) guarded args state h = tt
  lent_start (Some FromFocus) guarded args state h = tt

  fired_start : (lender : Option Lender) (call : Call H) (l : Local H) (state : S) → LendsOther index lender →
      LentNow (told state) lender call [] l
  fired_start None call l state h = tt
  fired_start (Some (FromEntry n)) call l state h = λ b. h
  fired_start (Some FromThis) call l state h = tt
  fired_start (Some FromFocus) call l state h = tt

  tells_start : (marks : Bool) (call : Call H) → TellsChange marks (⊤ ⊎ IsShielded call)
  tells_start true call = inl tt
  tells_start false call = tt

  told_start : (marks : Bool) → TellsChange marks ⊤
  told_start true = tt
  told_start false = tt

  place_start : (place : Place) (state : S) → IsOther index place → Writable (told state).of place []
  place_start (InEntry n) state h = λ b. h
  place_start (InCell n) state h = tt
  place_start InThis state h = tt
  place_start InFocus state h = tt

  control_start : (c : Control H) (l : Local H) (state : S) → Spares index c → At (told state) c [] l
  control_start (Ask call) l state h = (lent_start call.lender call.guarded call.args state h, tells_start call.marks call)
  control_start (Question call) l state h = (lent_start call.lender call.guarded call.args state h, tells_start call.marks call)
  control_start (Fire call) l state h = (fired_start call.lender call l state h, told_start call.marks)
  control_start (AskUpdate u) l state h = place_start u.place state h
  control_start (QuestionUpdate u) l state h = place_start u.place state h
  control_start (FireUpdate u) l state h = place_start u.place state h
  control_start (ForTurn loop left turn base) l state h = λ b. h
  control_start (ForItem loop item rest turn base) l state h = λ b. h
  control_start (ChainArguments chain rest made) l state h = h
  control_start (ChainRoot chain) l state h = h
  control_start (ReadRoot variable chain) l state h = h
  control_start (Walk chain) l state h = (tt, (tt, h))
  control_start (Locate link chain) l state h = (tt, (tt, h))
  control_start _ l state h = tt

module _ {S H : Type 0} (rules : Rules S H) (lawful : Lawful rules.setting.host_type rules.natives) where
  module _ (index : ℕ) (v : Dynamic H) (constant : IsConstant v) where
    ended : (p q m : Point S (Core H)) → q.core.stack ≡ [] → Stays rules lawful index v constant q ⊎ IsReplaced rules index p m →
        HasEntry index v q.core.local ⊎ IsReplaced rules index p m
    ended p q m is (inl s) = inl (s.kept.1.1.0 (rw is refl))
    ended p q m is (inr e) = inr e

    -- from a core to which a rule leads
    pub core_stays : (c : Core H) (d : Control H) (old new : State S H) → Sealed c → HasEntry index v old.local →
        Keeps (told rules lawful index v constant old.table) (calm [] old.local) c →
        (run : UpToMemory rules (with_core c old) (at d [] new)) →
        HasEntry index v new.local ⊎ IsReplaced rules index (with_core c old) (own_end rules run)
    core_stays c d old new sealed has keeps run = ended (with_core c old) (at d [] new) (own_end rules run) refl
        (run_stays rules lawful index v constant run
        (record { sealed = sealed; kept = keeps.holds (tt, (tt, (λ b. has, (tt, tt)))) }))

  pub constants_stay : ConstantsStay rules
  constants_stay index v c d old new constant has spares control_sealed cells run =
      core_stays index v constant (core c [] old.local) d old new
      (record { control = control_sealed; stack = tt; goes_back = tt; cells = cells }) has
      (quiet (told rules lawful index v constant old.table) (λ i. (
        control_start rules lawful index v constant c old.local old.table spares,
        (kept_by (told rules lawful index v constant old.table) c [] tt, i.1.1),
      ))) run
