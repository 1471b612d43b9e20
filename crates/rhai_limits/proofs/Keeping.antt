-- What each rule keeps: how many variables each scope in hand has, also once the frames above it are left, and at what levels functions
-- run.
use Rattle.std.proofs.Common.{refl, sym, ap, ◌∙◌, arith}
use Rattle.std.proofs.lemmas.List.{length-append, length-drop, length-map, length-take}
use Rattle.std.specs.Prelude.{◌≡◌, ◌≤◌, ⊤, ℕ, ◌+◌, ◌-◌, min, Bool, true, false, not, ◌&&◌, List, [], ◌∷◌, ◌++◌, drop, length, take, Option}
use Rattle.std.specs.Prelude.{None, Result, Ok, Err, if◌then◌else◌}
use Rattle.rhai_machine.specs.Types.{Dynamic, EvalAltResult, Limits, ScopeEntry, Stmt}
use Rattle.rhai_errors.specs.Native.{Reply}
use Rattle.rhai_state.specs.Scope.{name_of}
use Rattle.rhai_functions.specs.Entering.{parameters}
use Rattle.rhai_machine.specs.machine.Machine.{Move, Halt, Go, Charge, Native, AskPure}
use Rattle.rhai_machine.specs.language.State.{Local}
use Rattle.rhai_machine.specs.language.Places.{Place, InEntry, InCell, InThis, InFocus, put}
use Rattle.rhai_machine.specs.language.Activations.{Entered, Variables, Caller, UpTo, Without, CallExit}
use Rattle.rhai_machine.specs.language.Bodies.{called_back, entered_local, exit_of, variables_after, variables_back, variables_before}
use Rattle.rhai_machine.specs.language.Walks.{counters}
use Rattle.rhai_machine.specs.language.Frames.{Control, Frame, Core, core, on_value, ended, changed, where_there, EnterFunction, Exec}
use Rattle.rhai_machine.specs.language.Frames.{OpenStmt, Enter, Run, DefineValue, RestOfList, RestoreList, RestoreScope, ForItems, CallEnd}
use Rattle.rhai_machine.proofs.Places.{put_names}

-- what is asked of how many variables a scope has, and of a level: of those at the bottom, and of all others
pub record Asked : Type 1 where
  pub scope : (is_bottom : Bool) → ℕ → Type 0
  pub level : (is_bottom : Bool) → ℕ → Type 0

-- it holds of what the limits allow, and of fewer variables
pub record Allowed (a : Asked) (limits : Limits) : Type 0 where
  pub fits : (is_bottom : Bool) (n : ℕ) → n ≤ limits.max_variables → a.scope is_bottom n
  pub fewer : (is_bottom : Bool) (m n : ℕ) → m ≤ n → a.scope is_bottom n → a.scope is_bottom m
  pub shallow : (n : ℕ) → n ≤ limits.max_call_levels → a.level false n

module _ {H : Type 0} where
  -- ---- the bottom

  -- a function without variables of its own runs on its caller's
  abbrev pub is_shared : Variables H → Bool
  is_shared (Caller scope) = false
  is_shared _ = true

  -- the current scope is the one at the bottom
  abbrev pub has_bottom_scope : List (Frame H) → Bool
  has_bottom_scope [] = true
  has_bottom_scope (CallEnd exit ∷ k) = is_shared exit.variables && has_bottom_scope k
  has_bottom_scope (_ ∷ k) = has_bottom_scope k

  -- the current level is the one at the bottom
  abbrev pub has_bottom_level : List (Frame H) → Bool
  has_bottom_level [] = true
  has_bottom_level (CallEnd exit ∷ k) = false
  has_bottom_level (_ ∷ k) = has_bottom_level k

  -- how many variables there are once a call is left, of so many
  abbrev pub left_of : Variables H → ℕ → ℕ
  left_of (Caller scope) n = length scope
  left_of (UpTo i) n = min i n
  left_of (Without i j) n = min i n + (n - (i + j))

  -- ---- counts

  put_count : (place : Place) (v : Dynamic H) (l : Local H) → length (put place v l).scope ≡ length l.scope
  put_count place v l =
      sym (length-map (put place v l).scope name_of) ∙ (ap length (put_names place v l) ∙ length-map l.scope name_of)

  put_level : (place : Place) (v : Dynamic H) (l : Local H) → (put place v l).around.level ≡ l.around.level
  put_level (InEntry index) v l = refl
  put_level (InCell number) v l = refl
  put_level InThis v l = refl
  put_level InFocus v l = refl

  left_count : (variables : Variables H) (scope : List (ScopeEntry H)) →
      length (variables_back variables scope) ≡ left_of variables (length scope)
  left_count (Caller before) scope = refl
  left_count (UpTo i) scope = length-take i scope
  left_count (Without i j) scope = rw
      (length-append (take i scope) (drop (i + j) scope), length-take i scope, length-drop (i + j) scope) refl

  few_parameters : (names : List (List ℕ)) (args : List (Dynamic H)) → length (parameters names args) ≤ length names
  few_parameters [] args = omega arith
  few_parameters (name ∷ names) [] = omega (arith, few_parameters names [])
  few_parameters (name ∷ names) (v ∷ args) = omega (arith, few_parameters names args)

module _ {H : Type 0} (a : Asked) where
  -- ---- what is asked

  -- what is asked over a stack of a scope with so many variables: the rest of a list may add some; a `let` that overwrites none adds one,
  -- and the rest of its list some more; a `for` adds its own, which are gone behind it
  abbrev pub Room : List (Frame H) → ℕ → Type 0
  Room [] n = ⊤
  Room (RestOfList rest restoring ∷ k) n = (m : ℕ) → n ≤ m → a.scope (has_bottom_scope k) m → Room k m
  Room (DefineValue ident None options restoring value_at ∷ k) n =
      a.scope (has_bottom_scope k) (n + 1) × ((m : ℕ) → n ≤ m → a.scope (has_bottom_scope k) m → Room k m)
  Room (ForItems loop ∷ k) n = a.scope (has_bottom_scope k) (n + (counters loop.counter + 1)) × Room k n
  Room (RestoreList saved ∷ k) n = Room k (min saved.scope_length n)
  Room (RestoreScope i ∷ k) n = Room k (min i n)
  Room (CallEnd exit ∷ k) n = a.scope (has_bottom_scope k) (left_of exit.variables n) × Room k (left_of exit.variables n)
  Room (_ ∷ k) n = Room k n

  -- the same where some may be added
  abbrev pub Free : List (Frame H) → ℕ → Type 0
  Free k n = (m : ℕ) → n ≤ m → a.scope (has_bottom_scope k) m → Room k m

  -- what is asked of the levels of callers
  abbrev pub Levels : List (Frame H) → Type 0
  Levels [] = ⊤
  Levels (CallEnd exit ∷ k) = a.level (has_bottom_level k) exit.level × Levels k
  Levels (_ ∷ k) = Levels k

  -- what is asked of a level and of a scope with so many variables: where none is added, and where some may be
  abbrev pub CalmAt : List (Frame H) → (level n : ℕ) → Type 0
  CalmAt k level n = a.level (has_bottom_level k) level × Levels k × a.scope (has_bottom_scope k) n × Room k n

  abbrev pub EagerAt : List (Frame H) → (level n : ℕ) → Type 0
  EagerAt k level n = a.level (has_bottom_level k) level × Levels k × a.scope (has_bottom_scope k) n × Free k n

  abbrev pub AddsBy : (adds : Bool) → List (Frame H) → (level n : ℕ) → Type 0
  AddsBy true k level n = EagerAt k level n
  AddsBy false k level n = CalmAt k level n

  -- the same of a state
  abbrev pub Calm : List (Frame H) → Local H → Type 0
  Calm k l = CalmAt k l.around.level (length l.scope)

  abbrev pub Eager : List (Frame H) → Local H → Type 0
  Eager k l = EagerAt k l.around.level (length l.scope)

  -- and at a control: a statement, the rest of a list, a list that does not restore, and a function with such a list that runs on its
  -- caller's variables may add some
  abbrev pub At : Control H → List (Frame H) → Local H → Type 0
  At (EnterFunction e) k l = AddsBy (not e.restores && not e.is_fresh) k l.around.level (length l.scope)
  At (Exec stmt restoring) k l = Eager k l
  At (OpenStmt form restoring) k l = Eager k l
  At (Run stmts restoring last) k l = Eager k l
  At (Enter stmts restoring) k l = AddsBy (not restoring) k l.around.level (length l.scope)
  At _ k l = Calm k l

  abbrev pub Good : Core H → Type 0
  Good c = At c.control c.stack c.local

  -- what holds of each core to which a move may lead
  abbrev pub Moves : Move H (Core H) → Type 0
  Moves Halt = ⊤
  Moves (Go d) = Good d
  Moves (Charge at d) = Good d
  Moves (Native q f) = (reply : Reply H) (first : Option (Dynamic H)) → Good (f reply first)
  Moves (AskPure q f) = (pure : Bool) → Good (f pure)

  -- ---- steps that all rules take

  -- what may add some may add none
  pub none_added : (k : List (Frame H)) (level n : ℕ) → EagerAt k level n → CalmAt k level n
  none_added k level n h = (h.0, h.1, h.2, h.3 n (omega arith) h.2)

  none_by : (adds : Bool) (k : List (Frame H)) (level n : ℕ) → AddsBy adds k level n → CalmAt k level n
  none_by true k level n h = none_added k level n h
  none_by false k level n h = h

  some_by : (adds : Bool) (k : List (Frame H)) (level n : ℕ) → EagerAt k level n → AddsBy adds k level n
  some_by true k level n h = h
  some_by false k level n h = none_added k level n h

  -- an error adds none
  pub stopped : (c : Control H) (k : List (Frame H)) (l : Local H) → At c k l → Calm k l
  stopped (EnterFunction e) k l h = none_by (not e.restores && not e.is_fresh) k l.around.level (length l.scope) h
  stopped (Exec stmt restoring) k l h = none_added k l.around.level (length l.scope) h
  stopped (OpenStmt form restoring) k l h = none_added k l.around.level (length l.scope) h
  stopped (Run stmts restoring last) k l h = none_added k l.around.level (length l.scope) h
  stopped (Enter stmts restoring) k l h = none_by (not restoring) k l.around.level (length l.scope) h
  stopped _ k l h = h

  -- where some may be added any control may stand
  pub started : (c : Control H) (k : List (Frame H)) (l : Local H) → Eager k l → At c k l
  started (EnterFunction e) k l h = some_by (not e.restores && not e.is_fresh) k l.around.level (length l.scope) h
  started (Exec stmt restoring) k l h = h
  started (OpenStmt form restoring) k l h = h
  started (Run stmts restoring last) k l h = h
  started (Enter stmts restoring) k l h = some_by (not restoring) k l.around.level (length l.scope) h
  started _ k l h = none_added k l.around.level (length l.scope) h

  -- another state with as many variables, at the same level
  pub resized : (k : List (Frame H)) (l m : Local H) → m.around.level ≡ l.around.level → length m.scope ≡ length l.scope → Calm k l →
      Calm k m
  resized k l m level count h = rw (level, count) h

  pub put_keeps : (place : Place) (v : Dynamic H) (k : List (Frame H)) (l : Local H) → Calm k l → Calm k (put place v l)
  put_keeps place v k l h = resized k l (put place v l) (put_level place v l) (put_count place v l) h

  -- what a value leads to, an error aside
  pub on_keeps : {A : Type 0} (r : Result A (EvalAltResult H)) (go : A → Core H) (k : List (Frame H)) (l : Local H) → Calm k l →
      ((x : A) → Good (go x)) → Good (on_value r go k l)
  on_keeps (Ok x) go k l h f = f x
  on_keeps (Err e) go k l h f = h

  -- a result comes back
  pub ended_keeps : (r : Result (Dynamic H) (EvalAltResult H)) (k : List (Frame H)) (l : Local H) → Calm k l → Good (core (ended r) k l)
  ended_keeps (Ok v) k l h = h
  ended_keeps (Err e) k l h = h

  pub changed_keeps : (r : Result (Dynamic H) (EvalAltResult H)) (k : List (Frame H)) (l : Local H) → Calm k l →
      Good (core (changed r) k l)
  changed_keeps (Ok v) k l h = h
  changed_keeps (Err e) k l h = h

  -- a form that may not be there
  pub there_keeps : (there : Bool) (c : Core H) → Good c → Moves (where_there there c)
  there_keeps true c h = h
  there_keeps false c h = tt

  pub if_keeps : (b : Bool) (c d : Core H) → Good c → Good d → Good (if b then c else d)
  if_keeps true c d h i = h
  if_keeps false c d h i = i

  -- newer variables, over the frame that takes them back
  pub lengthened : (entries : List (ScopeEntry H)) (k : List (Frame H)) (l : Local H) →
      a.scope (has_bottom_scope k) (length l.scope + length entries) → Calm k l →
      Calm (RestoreScope (length l.scope) ∷ k) (record l { scope = l.scope ++ entries })
  lengthened entries k l fits h =
      let same : min (length l.scope) (length l.scope + length entries) ≡ length l.scope = omega arith in
      rw (length-append l.scope entries, same) (h.0, h.1, fits, h.3)

  -- a call is left
  pub call_left : (exit : CallExit H) (k : List (Frame H)) (l : Local H) → Calm (CallEnd exit ∷ k) l → Calm k (called_back exit l)
  call_left exit k l h = rw (left_count exit.variables l.scope) (h.1.0, h.1.1, h.3.0, h.3.1)

  module _ (limits : Limits) (allowed : Allowed a limits) where
    -- the newest variables are gone
    pub shortened : (i : ℕ) (k : List (Frame H)) (level : ℕ) (scope : List (ScopeEntry H)) →
        CalmAt (RestoreScope i ∷ k) level (length scope) → CalmAt k level (length (take i scope))
    shortened i k level scope h = rw (length-take i scope)
        (h.0, h.1, allowed.fewer (has_bottom_scope k) (min i (length scope)) (length scope) (omega arith) h.2, h.3)

    -- ---- a function is entered

    few_entries : (e : Entered H) (l : Local H) →
        length (variables_before e.is_fresh l.scope) + length e.def.params ≤ limits.max_variables →
        length (entered_local e l).scope ≤ limits.max_variables
    few_entries e l le = omega (
      arith,
      length-append (variables_before e.is_fresh l.scope) (parameters e.def.params e.args),
      few_parameters e.def.params e.args,
      le,
    )

    module _ (exit : CallExit H) (j level n : ℕ) (k : List (Frame H)) (l : Local H) (few : n ≤ limits.max_variables)
        (deep : level ≤ limits.max_call_levels) where
      -- the frame of its end, by whether it has variables of its own, and whether its list restores
      abbrev end_by : (is_fresh restores : Bool) → Frame H
      end_by is_fresh restores =
          CallEnd (record exit { variables = variables_after is_fresh restores l.scope j; level = l.around.level })

      entered_by : (is_fresh restores : Bool) → length (variables_before is_fresh l.scope) ≤ n →
          AddsBy (not restores && not is_fresh) k l.around.level (length l.scope) →
          AddsBy (not restores) (end_by is_fresh restores ∷ k) level n
      entered_by true true le h = (allowed.shallow level deep, (h.0, h.1), allowed.fits false n few, (h.2, h.3))
      entered_by true false le h =
          (allowed.shallow level deep, (h.0, h.1), allowed.fits false n few, λ m more fits. (h.2, h.3))
      entered_by false true le h =
          let same : min (length l.scope) n ≡ length l.scope = omega (arith, le) in
          rw same (allowed.shallow level deep, (h.0, h.1), allowed.fits (has_bottom_scope k) n few, (h.2, h.3))
      entered_by false false le h = (
        allowed.shallow level deep,
        (h.0, h.1),
        allowed.fits (has_bottom_scope k) n few,
        λ m more fits.
            let i : ℕ = length l.scope in
            let less : min i m + (m - (i + j)) ≤ m = omega arith in
            let most : i ≤ min i m + (m - (i + j)) = omega (arith, le, more) in
            let w : a.scope (has_bottom_scope k) (min i m + (m - (i + j))) = allowed.fewer (has_bottom_scope k) _ m less fits in
            (w, h.3 _ most w),
      )

    pub function_entered : (e : Entered H) (stmt : Stmt) (stmts : List Stmt) (k : List (Frame H)) (l : Local H) →
        length (variables_before e.is_fresh l.scope) + length e.def.params ≤ limits.max_variables →
        e.level ≤ limits.max_call_levels → At (EnterFunction e) k l →
        Good (core (Enter (stmt ∷ stmts) e.restores) (CallEnd (exit_of e l) ∷ k) (entered_local e l))
    function_entered e stmt stmts k l few deep h =
        entered_by (exit_of e l) (length e.def.params) e.level (length (entered_local e l).scope) k l (few_entries e l few) deep
        e.is_fresh e.restores
        (omega (arith, length-append (variables_before e.is_fresh l.scope) (parameters e.def.params e.args))) h
