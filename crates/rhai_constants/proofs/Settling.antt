-- What writes to places, and what leaves and enters frames, while a constant stands in the scope at the bottom.
use Rattle.std.proofs.Common.{refl, ap, ◌∙◌, arith, zero, suc}
use Rattle.std.proofs.lemmas.Bool.Decides.{nat_tests}
use Rattle.std.specs.Option.{option_map, unwrap_or}
use Rattle.std.specs.Prelude.{◌≡◌, ◌<◌, ◌+◌, ℕ, Bool, true, false, ◌&&◌, List, [], ◌∷◌, ◌++◌, nat_eq, length, take, drop, Option, Some}
use Rattle.std.specs.Prelude.{None}
use Rattle.std.specs.Prelude.{Result, Ok, Err, slice_get, slice_set, if◌then◌else◌}
use Rattle.rhai_tree.specs.declared.expr.Stmt.{Stmt}
use Rattle.rhai_values.specs.declared.base.value.Dynamic.{Dynamic}
use Rattle.rhai_state.specs.Scope.{revalued, value_in, value_of}
use Rattle.rhai_errors.specs.declared.error.EvalAltResult.{EvalAltResult}
use Rattle.rhai_state.specs.declared.scope.ScopeEntry.{ScopeEntry}
use Rattle.rhai_functions.specs.Entering.{parameters}
use Rattle.rhai_spots.specs.declared.spot.Spot.{Spot}
use Rattle.rhai_spots.specs.Parts.{value_at, with_value}
use Rattle.rhai_spots.specs.Paths.{Step, ToPlace, ToCell}
use Rattle.rhai_machine.specs.language.State.{Local, deeper}
use Rattle.rhai_machine.specs.language.Values.{unit_value}
use Rattle.rhai_machine.specs.language.Places.{Place, InEntry, InCell, InThis, InFocus, put, rebound}
use Rattle.rhai_machine.specs.language.Activations.{ThisFrom, NoThis, OwnThis, TheFocus, Entered, Variables, Caller, UpTo, Without}
use Rattle.rhai_machine.specs.language.Activations.{CallExit}
use Rattle.rhai_machine.specs.language.Bodies.{this_back, focus_back, this_by, variables_after, variables_back, variables_before, exit_of}
use Rattle.rhai_machine.specs.language.Bodies.{entered_local, called_back}
use Rattle.rhai_machine.specs.language.Frames.{Lender, FromEntry, FromThis, FromFocus, Control, Frame, Core, core, ended, EnterFunction}
use Rattle.rhai_machine.specs.language.Frames.{Enter}
use Rattle.rhai_machine.specs.language.Frames.{Fail, PartAssigned, ChainEnd, StepDown, CallEnd, RestoreList, RestoreScope}
use Rattle.rhai_machine.specs.language.Statements.{saved_by}
use Rattle.rhai_machine.specs.language.Unwinding.{restored}
use Rattle.rhai_constants.specs.Constants.{is_callers, is_bottom}
use Rattle.rhai_constants.proofs.ConstantLemmas.{here, nowhere, goes_back}
use Rattle.rhai_constants.proofs.Keeping.{Told, Due, IsDue, IsFree, due_at, due_this, calm, due, Longer, StandsIn, GivesBack, Kept}
use Rattle.rhai_constants.proofs.Keeping.{KeptBelow, KeptBy, Settled, Writable, At, Inv, Keeps, quiet}

-- ---- lists

set_stays : {X : Type 0} → (xs : List X) (i j : ℕ) (x : X) → (j ≡ i → ⊥) → slice_get (slice_set xs i x) j ≡ slice_get xs j
set_stays [] i j x ne = refl
set_stays (y ∷ xs) zero zero x ne = absurd (ne refl)
set_stays (y ∷ xs) zero (suc j) x ne = refl
set_stays (y ∷ xs) (suc i) zero x ne = refl
set_stays (y ∷ xs) (suc i) (suc j) x ne = set_stays xs i j x (λ e. ne (ap suc e))

set_there : {X : Type 0} → (xs : List X) (i : ℕ) (x y : X) → slice_get xs i ≡ Some y → slice_get (slice_set xs i x) i ≡ Some x
set_there [] i x y is = let no : None ≡ Some y = is in absurd (cc no)
set_there (z ∷ xs) zero x y is = refl
set_there (z ∷ xs) (suc i) x y is = set_there xs i x y is

get_taken : {X : Type 0} → (xs : List X) (n i : ℕ) → i < n → slice_get (take n xs) i ≡ slice_get xs i
get_taken [] zero i lt = refl
get_taken [] (suc n) i lt = refl
get_taken (x ∷ xs) zero i lt = absurd (omega (arith, lt))
get_taken (x ∷ xs) (suc n) zero lt = refl
get_taken (x ∷ xs) (suc n) (suc i) lt = get_taken xs n i (omega (arith, lt))

get_more : {X : Type 0} → (xs ys : List X) (i : ℕ) (x : X) → slice_get xs i ≡ Some x → slice_get (xs ++ ys) i ≡ Some x
get_more [] ys i x is = let no : None ≡ Some x = is in absurd (cc no)
get_more (z ∷ xs) ys zero x is = is
get_more (z ∷ xs) ys (suc i) x is = get_more xs ys i x is

get_within : {X : Type 0} → (xs : List X) (i : ℕ) (x : X) → slice_get xs i ≡ Some x → i < length xs
get_within [] i x is = let no : None ≡ Some x = is in absurd (cc no)
get_within (z ∷ xs) zero x is = omega arith
get_within (z ∷ xs) (suc i) x is = omega (arith, get_within xs i x is)

-- ---- entries

module _ {H : Type 0} where
  value_within_by : (scope : List (ScopeEntry H)) (i : ℕ) (there : Option (ScopeEntry H)) (v : Dynamic H) → slice_get scope i ≡ there →
      option_map value_of there ≡ Some v → i < length scope
  value_within_by scope i (Some entry) v is h = get_within scope i entry is
  value_within_by scope i None v is h = cc

  -- a value that stands among variables stands within them
  pub value_within : (scope : List (ScopeEntry H)) (i : ℕ) (v : Dynamic H) → value_in scope (Some i) ≡ Some v → i < length scope
  value_within scope i v h = value_within_by scope i (slice_get scope i) v refl h

  pub value_taken : (scope : List (ScopeEntry H)) (n i : ℕ) → i < n → value_in (take n scope) (Some i) ≡ value_in scope (Some i)
  value_taken scope n i lt = ap (option_map value_of) (get_taken scope n i lt)

  value_more_by : (scope more : List (ScopeEntry H)) (i : ℕ) (there : Option (ScopeEntry H)) (v : Dynamic H) → slice_get scope i ≡ there →
      option_map value_of there ≡ Some v → value_in (scope ++ more) (Some i) ≡ Some v
  value_more_by scope more i (Some entry) v is h = ap (option_map value_of) (get_more scope more i entry is) ∙ h
  value_more_by scope more i None v is h = cc

  -- it stands there behind which others come
  pub value_more : (scope more : List (ScopeEntry H)) (i : ℕ) (v : Dynamic H) → value_in scope (Some i) ≡ Some v →
      value_in (scope ++ more) (Some i) ≡ Some v
  value_more scope more i v h = value_more_by scope more i (slice_get scope i) v refl h

  -- another entry is written
  pub value_stays : (scope : List (ScopeEntry H)) (at i : ℕ) (there : Option (ScopeEntry H)) (w : Dynamic H) → (i ≡ at → ⊥) →
      value_in (revalued scope at there w) (Some i) ≡ value_in scope (Some i)
  value_stays scope at i (Some entry) w ne = ap (option_map value_of) (set_stays scope at i (record entry { value = w }) ne)
  value_stays scope at i None w ne = refl

  -- the entry is written with the value that it has
  pub value_same : (scope : List (ScopeEntry H)) (i : ℕ) (there : Option (ScopeEntry H)) (v : Dynamic H) → slice_get scope i ≡ there →
      value_in scope (Some i) ≡ Some v → value_in (revalued scope i there v) (Some i) ≡ Some v
  value_same scope i (Some entry) v is h = ap (option_map value_of) (set_there scope i (record entry { value = v }) entry is)
  value_same scope i None v is h = h

module _ {H : Type 0} where
  pub free_due : (wanted there : Option (Dynamic H)) → IsFree wanted → IsDue wanted there
  free_due None there h = tt
  free_due (Some w) there h = absurd h

  -- what is wanted goes back to its place
  stepped_by : (w : Dynamic H) (at : Spot) (there focus : Option (Dynamic H)) → value_at w at ≡ there → IsDue there focus →
      with_value w at (unwrap_or focus unit_value) ≡ w
  stepped_by w at (Some u) focus is h = rw h (goes_back w at u (here is))
  stepped_by w at None focus is h = goes_back w at (unwrap_or focus unit_value) (nowhere is)

  stepped : (wanted : Option (Dynamic H)) (above : Dynamic H) (at : Spot) (focus : Option (Dynamic H)) → IsDue wanted (Some above) →
      IsDue (due_at wanted at) focus → IsDue wanted (Some (with_value above at (unwrap_or focus unit_value)))
  stepped None above at focus is h = tt
  stepped (Some w) above at focus is h =
      let same : above ≡ w = cc in rw same (ap Some (stepped_by w at (value_at w at) focus refl h))

  -- and to `this`
  bound_again : (wanted focus this : Option (Dynamic H)) → IsDue wanted focus → IsDue wanted this →
      IsDue wanted (rebound (unwrap_or focus unit_value) this)
  bound_again None focus this f t = tt
  bound_again (Some w) focus this f t = rw (f, t) refl

module _ {H : Type 0} (a : Told H) where
  -- ---- frames

  weaker : (k : List (Frame H)) → Kept a.of k → KeptBelow a.of k
  weaker (PartAssigned above at pos ∷ k) h = (free_due (due a.of k).focus (Some above) h.0, h.1.1)
  weaker _ h = h

  pub kept_by : (c : Control H) (k : List (Frame H)) → Kept a.of k → KeptBy a.of c k
  kept_by (Fail e) k h = weaker k h
  kept_by _ k h = h

  lower : (c : Control H) (k : List (Frame H)) → KeptBy a.of c k → KeptBelow a.of k
  lower (Fail e) k h = h
  lower _ k h = weaker k h

  -- an error instead of a control
  pub failed : (c : Core H) (e : EvalAltResult H) → Inv a c → Inv a (core (Fail e) c.stack c.local)
  failed c e h = (tt, (lower c.control c.stack h.1.0, h.1.1))

  -- what is kept over a stack and a state, whatever the control
  abbrev pub Below : List (Frame H) → Local H → Type 0
  Below k l = Kept a.of k × Settled a.of k l

  -- a control that asks for nothing, or for what is known
  pub same : {b d : Core H} → At a d.control d.stack d.local → (Inv a b → Below d.stack d.local) → Keeps a b d
  same {b} {d} at h = quiet a (λ i. (at, (kept_by d.control d.stack (h i).0, (h i).1)))

  pub given : {b d : Core H} → (Inv a b → At a d.control d.stack d.local) → (Inv a b → Below d.stack d.local) → Keeps a b d
  given {b} {d} at h = quiet a (λ i. (at i, (kept_by d.control d.stack (h i).0, (h i).1)))

  -- a result comes back
  pub ended_keeps : (r : Result (Dynamic H) (EvalAltResult H)) (k : List (Frame H)) (l : Local H) → Keeps a (calm k l) (core (ended r) k l)
  ended_keeps (Ok v) k l = same tt (λ h. h.1)
  ended_keeps (Err e) k l = same tt (λ h. h.1)

  -- ---- places

  pub put_settled : (place : Place) (v : Dynamic H) (k : List (Frame H)) (l : Local H) → Writable a.of place k → Settled a.of k l →
      Settled a.of k (put place v l)
  put_settled (InEntry at) v k l w s = (
    λ b. value_stays l.scope at a.of.index (slice_get l.scope at) v (w b) ∙ s.0 b,
    s.1,
  )
  put_settled (InCell n) v k l w s = s
  put_settled InThis v k l w s = (s.0, (s.1.0, free_due (due a.of k).this _ w))
  put_settled InFocus v k l w s = (s.0, (free_due (due a.of k).focus _ w, s.1.1))

  pub put_keeps : (place : Place) (v : Dynamic H) (k : List (Frame H)) (l : Local H) → Writable a.of place k →
      Keeps a (calm k l) (calm k (put place v l))
  put_keeps place v k l w = same tt (λ h. (h.1.0, put_settled place v k l w h.1.1))

  -- ---- chains

  pub step_left : (above : Dynamic H) (step : Step) (k : List (Frame H)) (l : Local H) →
      Keeps a (calm (StepDown above step ∷ k) l) (calm k (restored (StepDown above step) l))
  step_left above (ToPlace at) k l = same tt (λ h. (
    h.1.0.1,
    (h.1.1.0, (stepped (due a.of k).focus above at l.focus h.1.0.0 h.1.1.1.0, h.1.1.1.1)),
  ))
  step_left above (ToCell n) k l = same tt (λ h. (h.1.0.1, (h.1.1.0, (h.1.0.0, h.1.1.1.1))))

  entry_left : (at : ℕ) (bottom same_entry : Bool) (l : Local H) → nat_eq a.of.index at ≡ same_entry → bottom ≡ true →
      StandsIn a.of l.scope → IsDue (if bottom && same_entry then Some a.of.value else None) l.focus →
      StandsIn a.of (revalued l.scope at (slice_get l.scope at) (unwrap_or l.focus unit_value))
  entry_left at true true l is b s d =
      let here : a.of.index ≡ at = grind (arith, is, nat_tests) in
      rw (← here, d) (value_same l.scope a.of.index (slice_get l.scope a.of.index) a.of.value refl s)
  entry_left at true false l is b s d =
      value_stays l.scope at a.of.index (slice_get l.scope at) (unwrap_or l.focus unit_value) (λ e. grind (arith, is, e, nat_tests)) ∙ s
  entry_left at false same_entry l is b s d = cc

  pub chain_left : (lender : Option Lender) (outer : Option (Dynamic H)) (k : List (Frame H)) (l : Local H) →
      Keeps a (calm (ChainEnd lender outer ∷ k) l) (calm k (restored (ChainEnd lender outer) l))
  chain_left None outer k l = same tt (λ h. (h.1.0.1, (h.1.1.0, (h.1.0.0, h.1.1.1.1))))
  chain_left (Some (FromEntry at)) outer k l = same tt (λ h. (
    h.1.0.1,
    (
      λ b. entry_left at (is_bottom k) (nat_eq a.of.index at) l refl b (h.1.1.0 b) h.1.1.1.0,
      (h.1.0.0, h.1.1.1.1),
    ),
  ))
  chain_left (Some FromThis) outer k l = same tt (λ h. (
    h.1.0.1,
    (h.1.1.0, (h.1.0.0, bound_again (due a.of k).this l.focus l.this h.1.1.1.0 h.1.1.1.1)),
  ))
  chain_left (Some FromFocus) outer k l = same tt (λ h. (h.1.0.1, (h.1.1.0, (h.1.0.0, h.1.1.1.1))))

  -- ---- calls

  scope_back : (variables : Variables H) (k : List (Frame H)) (scope : List (ScopeEntry H)) → GivesBack a.of variables k →
      (is_callers variables && is_bottom k ≡ true → StandsIn a.of scope) → is_bottom k ≡ true →
      StandsIn a.of (variables_back variables scope)
  scope_back (Caller before) k scope g s b = g b
  scope_back (UpTo n) k scope g s b = value_taken scope n a.of.index (g b) ∙ s b
  scope_back (Without n slots) k scope g s b =
      value_more (take n scope) (drop (n + slots) scope) a.of.index a.of.value (value_taken scope n a.of.index (g b) ∙ s b)

  focus_given : (object : ThisFrom) (d : Due H) (before this : Option (Dynamic H)) → IsDue d.focus before → IsDue (due_this object d) this →
      IsDue d.focus (focus_back object before this)
  focus_given NoThis d before this b t = b
  focus_given OwnThis d before this b t = b
  focus_given TheFocus d before this b t = t

  this_given : (object : ThisFrom) (d : Due H) (before this : Option (Dynamic H)) → IsDue d.this before → IsDue (due_this object d) this →
      IsDue d.this (this_back object before this)
  this_given NoThis d before this b t = b
  this_given OwnThis d before this b t = t
  this_given TheFocus d before this b t = b

  pub call_left : (exit : CallExit H) (k : List (Frame H)) (l : Local H) → Keeps a (calm (CallEnd exit ∷ k) l) (calm k (called_back exit l))
  call_left exit k l = same tt (λ h. (
    h.1.0.1.1.1,
    (
      scope_back exit.variables k l.scope h.1.0.0 h.1.1.0,
      (
        focus_given exit.object (due a.of k) exit.focus l.this h.1.0.1.0 h.1.1.1.1,
        this_given exit.object (due a.of k) exit.this l.this h.1.0.1.1.0 h.1.1.1.1,
      ),
    ),
  ))

  gives_back : (is_fresh restores : Bool) (scope : List (ScopeEntry H)) (n : ℕ) (k : List (Frame H)) →
      (is_bottom k ≡ true → StandsIn a.of scope) → GivesBack a.of (variables_after is_fresh restores scope n) k
  gives_back true restores scope n k s = s
  gives_back false true scope n k s = λ b. value_within scope a.of.index a.of.value (s b)
  gives_back false false scope n k s = λ b. value_within scope a.of.index a.of.value (s b)

  entered_scope : (is_fresh restores : Bool) (scope more : List (ScopeEntry H)) (n : ℕ) (k : List (Frame H)) →
      (is_bottom k ≡ true → StandsIn a.of scope) → is_callers (variables_after is_fresh restores scope n) && is_bottom k ≡ true →
      StandsIn a.of (variables_before is_fresh scope ++ more)
  entered_scope true restores scope more n k s b = cc
  entered_scope false true scope more n k s b = value_more scope more a.of.index a.of.value (s b)
  entered_scope false false scope more n k s b = value_more scope more a.of.index a.of.value (s b)

  this_entered : (object : ThisFrom) (d : Due H) (l : Local H) → IsDue d.focus l.focus → IsDue d.this l.this →
      IsDue (due_this object d) (this_by object l)
  this_entered NoThis d l f t = tt
  this_entered OwnThis d l f t = t
  this_entered TheFocus d l f t = f

  pub function_entered : (e : Entered H) (stmt : Stmt) (stmts : List Stmt) (k : List (Frame H)) (l : Local H) →
      Keeps a (core (EnterFunction e) k l) (core (Enter (stmt ∷ stmts) e.restores) (CallEnd (exit_of e l) ∷ k) (entered_local e l))
  function_entered e stmt stmts k l = same tt (λ h. (
    (
      gives_back e.is_fresh e.restores l.scope (length e.def.params) k h.1.1.0,
      (h.1.1.1.0, (h.1.1.1.1, h.1.0)),
    ),
    (
      entered_scope e.is_fresh e.restores l.scope (parameters e.def.params e.args) (length e.def.params) k h.1.1.0,
      (tt, this_entered e.object (due a.of k) l h.1.1.1.0 h.1.1.1.1),
    ),
  ))

  -- ---- lists

  -- variables that are there take in the constant
  pub longer : (k : List (Frame H)) (l : Local H) → Settled a.of k l → Longer a.of k (length l.scope)
  longer k l s = λ b. value_within l.scope a.of.index a.of.value (s.0 b)

  pub list_entered : (k : List (Frame H)) (l : Local H) → Below k l → Below (RestoreList (saved_by l) ∷ k) (record l {
    scope_level = deeper l.scope_level;
  })
  list_entered k l h = ((longer k l h.1, h.0), h.1)

  abbrev taken_settled : (n : ℕ) (k : List (Frame H)) (l : Local H) → Longer a.of k n → (is_bottom k ≡ true → StandsIn a.of l.scope) →
      is_bottom k ≡ true → StandsIn a.of (take n l.scope)
  taken_settled n k l le s b = value_taken l.scope n a.of.index (le b) ∙ s b

  pub scope_left : (n : ℕ) (k : List (Frame H)) (l : Local H) → Below (RestoreScope n ∷ k) l → Below k (record l { scope = take n l.scope })
  scope_left n k l h = (h.0.1, (taken_settled n k l h.0.0 h.1.0, h.1.1))

  -- variables that are newer
  pub newer : (entries : List (ScopeEntry H)) (k : List (Frame H)) (l : Local H) → Settled a.of k l →
      Settled a.of k (record l { scope = l.scope ++ entries })
  newer entries k l s = (λ b. value_more l.scope entries a.of.index a.of.value (s.0 b), s.1)

  pub newer_below : (entries : List (ScopeEntry H)) (k : List (Frame H)) (l : Local H) → Below k l →
      Below (RestoreScope (length l.scope) ∷ k) (record l { scope = l.scope ++ entries })
  newer_below entries k l h = ((longer k l h.1, h.0), newer entries k l h.1)
