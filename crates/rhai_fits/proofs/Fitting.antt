-- Controls, stacks and states that contain only what has a property, and keep bare handles out of cells.
use Rattle.std.proofs.Common.{◌≡◌, ◌≤◌, ℕ, zero, suc, List, [], ◌∷◌, ◌++◌, length, take, drop, refl, ap}
use Rattle.std.specs.Prelude.{⊤, Option, Some, None, Result, Ok, Err, slice_get, slice_set}
use Rattle.std.specs.Option.{unwrap_or}
use Rattle.rhai_machine.specs.Types.{Dynamic, EncapsulatedEnviron, out-EncapsulatedEnviron, EvalAltResult, Import, Module, ScopeEntry}
use Rattle.rhai_values.specs.Cells.{IsNoHandle, value_of_cell}
use Rattle.rhai_errors.specs.Native.{HasNoHandle}
use Rattle.rhai_values.specs.ValueContents.{Reached}
use Rattle.rhai_spots.specs.Paths.{ToPlace, ToCell}
use Rattle.rhai_machine.specs.language.Setting.{Offer}
use Rattle.rhai_machine.specs.language.State.{Local}
use Rattle.rhai_machine.specs.language.Values.{Cells, unit_value}
use Rattle.rhai_machine.specs.language.Bodies.{this_back, focus_back}
use Rattle.rhai_machine.specs.language.Activations.{ThisFrom, NoThis, OwnThis, TheFocus}
use Rattle.rhai_machine.specs.language.Frames.{Lender, FromThis, FromEntry, FromFocus, Control, Frame, Core, core, on_value, ended, Back}
use Rattle.rhai_machine.specs.language.Frames.{Fail, ChainEnd, StepDown, Temporary, PartMethod, PartAssigned, MemberOperated, CallEnd}
use Rattle.rhai_machine.specs.language.Handles.{focus_of}
use Rattle.rhai_fits.specs.Contents.{Contents, Nothing, OneValue, OneError, OneModule, Both, of_values, of_maybe, of_result, of_scope}
use Rattle.rhai_fits.specs.Contents.{of_cells, of_modules, of_imports, of_tables, of_environ, of_around, of_offer, of_control, of_frame}
use Rattle.rhai_fits.specs.Contents.{of_stack}
use Rattle.rhai_fits.specs.Sealed.{AreSealed, ControlSealed, FrameSealed, StackSealed, this_after, GoesBack}
use Rattle.rhai_fits.proofs.Values.{Fit, Fits, fit_unit}
use Rattle.rhai_fits.proofs.Errors.{FitError}
use Rattle.rhai_fits.proofs.Modules.{FitModule, FitModules, FitImports, FitEnviron}

module _ {H : Type 0} where
  -- what goes back is no handle where it was none before
  abbrev Clean : (before now : Option (Dynamic H)) → Type 0
  Clean before now = HasNoHandle before → HasNoHandle now

  after_clean : (lender : Option Lender) (f g t u : Option (Dynamic H)) → Clean f g → Clean t u →
      Clean (this_after lender f t) (this_after lender g u)
  after_clean None f g t u cf ct = ct
  after_clean (Some FromThis) f g t u cf ct = cf
  after_clean (Some (FromEntry index)) f g t u cf ct = ct
  after_clean (Some FromFocus) f g t u cf ct = ct

  focus_clean : (object : ThisFrom) (before t u : Option (Dynamic H)) → Clean t u →
      Clean (focus_back object before t) (focus_back object before u)
  focus_clean NoThis before t u c = λ h. h
  focus_clean OwnThis before t u c = λ h. h
  focus_clean TheFocus before t u c = c

  back_clean : (object : ThisFrom) (before t u : Option (Dynamic H)) → Clean t u →
      Clean (this_back object before t) (this_back object before u)
  back_clean NoThis before t u c = λ h. h
  back_clean OwnThis before t u c = c
  back_clean TheFocus before t u c = λ h. h

  pub goes_back : (k : List (Frame H)) (f g t u : Option (Dynamic H)) → Clean f g → Clean t u → GoesBack k f t → GoesBack k g u
  goes_back [] f g t u cf ct h = tt
  goes_back (StepDown above (ToCell number) ∷ k) f g t u cf ct h =
      (cf h.0, goes_back k (Some above) (Some above) t u (λ c. c) ct h.1)
  goes_back (StepDown above (ToPlace at) ∷ k) f g t u cf ct h = goes_back k (Some above) (Some above) t u (λ c. c) ct h
  goes_back (Temporary above back ∷ k) f g t u cf ct h = goes_back k above above t u (λ c. c) ct h
  goes_back (PartMethod above spot at ∷ k) f g t u cf ct h = goes_back k (Some above) (Some above) t u (λ c. c) ct h
  goes_back (PartAssigned above spot at ∷ k) f g t u cf ct h = goes_back k (Some above) (Some above) t u (λ c. c) ct h
  goes_back (MemberOperated access above at ∷ k) f g t u cf ct h = goes_back k above above t u (λ c. c) ct h
  goes_back (ChainEnd lender outer ∷ k) f g t u cf ct h =
      goes_back k outer outer (this_after lender f t) (this_after lender g u) (λ c. c) (after_clean lender f g t u cf ct) h
  goes_back (CallEnd exit ∷ k) f g t u cf ct h =
      goes_back k (focus_back exit.object exit.focus t) (focus_back exit.object exit.focus u) (this_back exit.object exit.this t)
      (this_back exit.object exit.this u) (focus_clean exit.object exit.focus t u ct) (back_clean exit.object exit.this t u ct) h
  goes_back (_ ∷ k) f g t u cf ct h = goes_back k f g t u cf ct h

  -- the focus, `()` where there is none
  pub focus_there : (focus : Option (Dynamic H)) → Clean focus (Some (unwrap_or focus unit_value))
  focus_there None = λ h. tt
  focus_there (Some v) = λ h. h

module _ {H : Type 0} (own : H → List Reached) (P : Reached → Type 0) (least : ℕ) where
  -- ---- what fits

  abbrev pub AllFit : Contents H → Type 0
  AllFit Nothing = ⊤
  AllFit (OneValue v) = Fit own P v
  AllFit (OneError e) = FitError own P e
  AllFit (OneModule m) = FitModule own P m
  AllFit (Both a b) = AllFit a × AllFit b

  -- variables, `this`, focus, cells and what is around them; there are at least so many cells
  pub record FitLocal (l : Local H) : Type 0 where
    pub scope : AllFit (of_scope l.scope)
    pub this : AllFit (of_maybe l.this)
    pub focus : AllFit (of_maybe l.focus)
    pub cells : AllFit (of_cells l.around.cells)
    pub around : AllFit (of_around l.around)
    pub sealed : AreSealed l.around.cells
    pub enough : least ≤ length l.around.cells

  -- a stack over what the rules read and change
  pub record FitBelow (k : List (Frame H)) (l : Local H) : Type 0 where
    pub stack : AllFit (of_stack k)
    pub sealed : StackSealed k
    pub back : GoesBack k l.focus l.this
    pub local : FitLocal l

  pub record FitCore (c : Core H) : Type 0 where
    pub control : AllFit (of_control c.control)
    pub sealed : ControlSealed c.control
    pub below : FitBelow c.stack c.local

  -- the modules of an engine
  abbrev pub FitOffer : Offer H → Type 0
  FitOffer offer = AllFit (of_offer offer)

  -- a result that has a property, or an error that fits
  abbrev pub Gives : {A : Type 0} → (A → Type 0) → Result A (EvalAltResult H) → Type 0
  Gives Q (Ok a) = Q a
  Gives Q (Err e) = FitError own P e

  -- a value that fits and is no handle
  abbrev pub Flat : Dynamic H → Type 0
  Flat v = Fit own P v × IsNoHandle v.value

  -- a value that may be there, and one that is no handle then
  abbrev pub FlatMaybe : Option (Dynamic H) → Type 0
  FlatMaybe None = ⊤
  FlatMaybe (Some v) = Flat v

  -- ---- how cores are made that fit

  pub to : (c : Control H) (k : List (Frame H)) (l : Local H) → AllFit (of_control c) → ControlSealed c → FitBelow k l →
      FitCore (core c k l)
  to c k l h s b = record { control = h; sealed = s; below = b }

  pub back : (v : Dynamic H) (k : List (Frame H)) (l : Local H) → Fit own P v → FitBelow k l → FitCore (core (Back v) k l)
  back v k l h b = record { control = h; sealed = tt; below = b }

  pub fail : (e : EvalAltResult H) (k : List (Frame H)) (l : Local H) → FitError own P e → FitBelow k l → FitCore (core (Fail e) k l)
  fail e k l h b = record { control = h; sealed = tt; below = b }

  pub unit : (k : List (Frame H)) (l : Local H) → FitBelow k l → FitCore (core (Back unit_value) k l)
  unit k l b = record { control = fit_unit own P; sealed = tt; below = b }

  -- one frame more
  pub push : (frame : Frame H) (k : List (Frame H)) (l : Local H) → AllFit (of_frame frame) → FrameSealed frame →
      GoesBack (frame ∷ k) l.focus l.this → FitBelow k l → FitBelow (frame ∷ k) l
  push frame k l h s b below =
      record { stack = (h, below.stack); sealed = (s, below.sealed); back = b; local = below.local }

  pub on : {A : Type 0} (Q : A → Type 0) (r : Result A (EvalAltResult H)) (go : A → Core H) (k : List (Frame H)) (l : Local H) → Gives Q r →
      FitBelow k l → ((a : A) → Q a → FitCore (go a)) → FitCore (on_value r go k l)
  on Q (Ok a) go k l h b f = f a h
  on Q (Err e) go k l h b f = fail e k l h b

  pub ended_fits : (r : Result (Dynamic H) (EvalAltResult H)) (k : List (Frame H)) (l : Local H) → AllFit (of_result r) → FitBelow k l →
      FitCore (core (ended r) k l)
  ended_fits (Ok v) k l h b = back v k l h b
  ended_fits (Err e) k l h b = fail e k l h b

  -- ---- lists

  -- the two ways to say that values fit
  pub all_fit : (vs : List (Dynamic H)) → Fits own P vs → AllFit (of_values vs)
  all_fit [] h = tt
  all_fit (v ∷ vs) h = (h.0, all_fit vs h.1)

  pub fit_all : (vs : List (Dynamic H)) → AllFit (of_values vs) → Fits own P vs
  fit_all [] h = tt
  fit_all (v ∷ vs) h = (h.0, fit_all vs h.1)

  pub values_joined : (a b : List (Dynamic H)) → AllFit (of_values a) → AllFit (of_values b) → AllFit (of_values (a ++ b))
  values_joined [] b h g = g
  values_joined (v ∷ a) b h g = (h.0, values_joined a b h.1 g)

  pub values_taken : (n : ℕ) (vs : List (Dynamic H)) → AllFit (of_values vs) → AllFit (of_values (take n vs))
  values_taken zero vs h = tt
  values_taken (suc n) [] h = tt
  values_taken (suc n) (v ∷ vs) h = (h.0, values_taken n vs h.1)

  pub values_dropped : (n : ℕ) (vs : List (Dynamic H)) → AllFit (of_values vs) → AllFit (of_values (drop n vs))
  values_dropped zero vs h = h
  values_dropped (suc n) [] h = tt
  values_dropped (suc n) (v ∷ vs) h = values_dropped n vs h.1

  pub values_at : (vs : List (Dynamic H)) (n : ℕ) → AllFit (of_values vs) → AllFit (of_maybe (slice_get vs n))
  values_at [] n h = tt
  values_at (v ∷ vs) zero h = h.0
  values_at (v ∷ vs) (suc n) h = values_at vs n h.1

  pub values_set : (vs : List (Dynamic H)) (n : ℕ) (v : Dynamic H) → AllFit (of_values vs) → Fit own P v →
      AllFit (of_values (slice_set vs n v))
  values_set [] n v h g = tt
  values_set (w ∷ vs) zero v h g = (g, h.1)
  values_set (w ∷ vs) (suc n) v h g = (h.0, values_set vs n v h.1 g)

  pub scope_joined : (a b : List (ScopeEntry H)) → AllFit (of_scope a) → AllFit (of_scope b) → AllFit (of_scope (a ++ b))
  scope_joined [] b h g = g
  scope_joined (e ∷ a) b h g = (h.0, scope_joined a b h.1 g)

  pub scope_taken : (n : ℕ) (es : List (ScopeEntry H)) → AllFit (of_scope es) → AllFit (of_scope (take n es))
  scope_taken zero es h = tt
  scope_taken (suc n) [] h = tt
  scope_taken (suc n) (e ∷ es) h = (h.0, scope_taken n es h.1)

  pub scope_dropped : (n : ℕ) (es : List (ScopeEntry H)) → AllFit (of_scope es) → AllFit (of_scope (drop n es))
  scope_dropped zero es h = h
  scope_dropped (suc n) [] h = tt
  scope_dropped (suc n) (e ∷ es) h = scope_dropped n es h.1

  pub scope_set : (es : List (ScopeEntry H)) (n : ℕ) (e : ScopeEntry H) → AllFit (of_scope es) → Fit own P e.value →
      AllFit (of_scope (slice_set es n e))
  scope_set [] n e h g = tt
  scope_set (w ∷ es) zero e h g = (g, h.1)
  scope_set (w ∷ es) (suc n) e h g = (h.0, scope_set es n e h.1 g)

  -- ---- modules

  pub modules_fit : (ms : List (Module H)) → FitModules own P ms → AllFit (of_modules ms)
  modules_fit [] h = tt
  modules_fit (m ∷ ms) h = (h.0, modules_fit ms h.1)

  imports_fit : (imports : List (Import H)) → FitImports own P imports → AllFit (of_imports imports)
  imports_fit [] h = tt
  imports_fit (i ∷ imports) h = (h.0, imports_fit imports h.1)

  pub environ_fits : (environ : Option (EncapsulatedEnviron H)) → FitEnviron own P environ → AllFit (of_environ environ)
  environ_fits None h = tt
  environ_fits (Some environ) h = (
    modules_fit (out-EncapsulatedEnviron H environ).lib h.0,
    imports_fit (out-EncapsulatedEnviron H environ).imports h.1,
  )

  pub modules_joined : (a b : List (Module H)) → AllFit (of_modules a) → AllFit (of_modules b) → AllFit (of_modules (a ++ b))
  modules_joined [] b h g = g
  modules_joined (m ∷ a) b h g = (h.0, modules_joined a b h.1 g)

  pub modules_taken : (n : ℕ) (ms : List (Module H)) → AllFit (of_modules ms) → AllFit (of_modules (take n ms))
  modules_taken zero ms h = tt
  modules_taken (suc n) [] h = tt
  modules_taken (suc n) (m ∷ ms) h = (h.0, modules_taken n ms h.1)

  pub imports_joined : (a b : List (Import H)) → AllFit (of_imports a) → AllFit (of_imports b) → AllFit (of_imports (a ++ b))
  imports_joined [] b h g = g
  imports_joined (i ∷ a) b h g = (h.0, imports_joined a b h.1 g)

  pub imports_taken : (n : ℕ) (imports : List (Import H)) → AllFit (of_imports imports) → AllFit (of_imports (take n imports))
  imports_taken zero imports h = tt
  imports_taken (suc n) [] h = tt
  imports_taken (suc n) (i ∷ imports) h = (h.0, imports_taken n imports h.1)

  -- ---- tables of constants

  -- the values of a table that may be there
  abbrev pub FitTable : Option (List (List ℕ) × List (Dynamic H)) → Type 0
  FitTable None = ⊤
  FitTable (Some table) = AllFit (of_values table.1)

  pub table_at : (tables : List (List (List ℕ) × List (Dynamic H))) (n : ℕ) → AllFit (of_tables tables) → FitTable (slice_get tables n)
  table_at [] n h = tt
  table_at (table ∷ tables) zero h = h.0
  table_at (table ∷ tables) (suc n) h = table_at tables n h.1

  pub tables_set : (tables : List (List (List ℕ) × List (Dynamic H))) (n : ℕ) (table : List (List ℕ) × List (Dynamic H)) →
      AllFit (of_tables tables) → AllFit (of_values table.1) → AllFit (of_tables (slice_set tables n table))
  tables_set [] n table h g = tt
  tables_set (t ∷ tables) zero table h g = (g, h.1)
  tables_set (t ∷ tables) (suc n) table h g = (h.0, tables_set tables n table h.1 g)

  -- ---- cells

  pub cell_fits : (cells : Cells H) (n : ℕ) → AllFit (of_cells cells) → AreSealed cells → FlatMaybe (value_of_cell cells n)
  cell_fits [] n h s = tt
  cell_fits (None ∷ cells) zero h s = tt
  cell_fits (Some v ∷ cells) zero h s = (h.0, s.0)
  cell_fits (cell ∷ cells) (suc n) h s = cell_fits cells n h.1 s.1

  pub cells_set : (cells : Cells H) (n : ℕ) (cell : Option (Dynamic H)) → AllFit (of_cells cells) → AllFit (of_maybe cell) →
      AllFit (of_cells (slice_set cells n cell))
  cells_set [] n cell h g = tt
  cells_set (w ∷ cells) zero cell h g = (g, h.1)
  cells_set (w ∷ cells) (suc n) cell h g = (h.0, cells_set cells n cell h.1 g)

  pub sealed_set : (cells : Cells H) (n : ℕ) (cell : Option (Dynamic H)) → AreSealed cells → HasNoHandle cell →
      AreSealed (slice_set cells n cell)
  sealed_set [] n cell s g = tt
  sealed_set (w ∷ cells) zero cell s g = (g, s.1)
  sealed_set (w ∷ cells) (suc n) cell s g = (s.0, sealed_set cells n cell s.1 g)

  pub cells_added : (cells : Cells H) (v : Dynamic H) → AllFit (of_cells cells) → Fit own P v → AllFit (of_cells (cells ++ Some v ∷ []))
  cells_added [] v h g = (g, tt)
  cells_added (cell ∷ cells) v h g = (h.0, cells_added cells v h.1 g)

  pub sealed_added : (cells : Cells H) (v : Dynamic H) → AreSealed cells → IsNoHandle v.value → AreSealed (cells ++ Some v ∷ [])
  sealed_added [] v s g = (g, tt)
  sealed_added (cell ∷ cells) v s g = (s.0, sealed_added cells v s.1 g)

  pub length_set : {A : Type 0} (xs : List A) (n : ℕ) (x : A) → length (slice_set xs n x) ≡ length xs
  length_set [] n x = refl
  length_set (y ∷ xs) zero x = refl
  length_set (y ∷ xs) (suc n) x = ap suc (length_set xs n x)

  -- a state in which a cell is another
  pub with_cell_set : (l : Local H) (n : ℕ) (cell : Option (Dynamic H)) → FitLocal l → AllFit (of_maybe cell) → HasNoHandle cell →
      FitLocal (record l { around = record l.around { cells = slice_set l.around.cells n cell } })
  with_cell_set l n cell h g s = record {
    scope = h.scope;
    this = h.this;
    focus = h.focus;
    cells = cells_set l.around.cells n cell h.cells g;
    around = h.around;
    sealed = sealed_set l.around.cells n cell h.sealed s;
    enough = rw length_set h.enough;
  }

  -- ---- a state with other variables, another `this`, another focus

  pub with_scope : (l : Local H) (scope : List (ScopeEntry H)) → FitLocal l → AllFit (of_scope scope) →
      FitLocal (record l { scope = scope })
  with_scope l scope h g = record {
    scope = g;
    this = h.this;
    focus = h.focus;
    cells = h.cells;
    around = h.around;
    sealed = h.sealed;
    enough = h.enough;
  }

  pub with_focus : (l : Local H) (focus : Option (Dynamic H)) → FitLocal l → AllFit (of_maybe focus) → FitLocal (record l { focus = focus })
  with_focus l focus h g = record {
    scope = h.scope;
    this = h.this;
    focus = g;
    cells = h.cells;
    around = h.around;
    sealed = h.sealed;
    enough = h.enough;
  }

  pub with_this : (l : Local H) (this : Option (Dynamic H)) → FitLocal l → AllFit (of_maybe this) → FitLocal (record l { this = this })
  with_this l this h g = record {
    scope = h.scope;
    this = g;
    focus = h.focus;
    cells = h.cells;
    around = h.around;
    sealed = h.sealed;
    enough = h.enough;
  }

  pub focus_fits : (focus : Option (Dynamic H)) → AllFit (of_maybe focus) → Fit own P (unwrap_or focus unit_value)
  focus_fits None h = fit_unit own P
  focus_fits (Some v) h = h

  -- the value that a chain works on
  pub focus_of_fits : (l : Local H) → FitLocal l → Fit own P (focus_of l)
  focus_of_fits l h = focus_fits l.focus h.focus
