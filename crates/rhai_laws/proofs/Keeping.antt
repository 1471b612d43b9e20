-- The relation that each rule keeps: the surroundings that are left once the stack has been unwound, and what is asked of the names and of
-- the imports.
use Rattle.std.proofs.Common.{refl, sym, ap, ◌∙◌, arith}
use Rattle.std.proofs.Math.Seq.{take-append_seam, take-length}
use Rattle.std.proofs.lemmas.List.{take-map, drop-map, length-map, length-append, length-take, append-nil, map-append}
use Rattle.std.proofs.Common.{append_assoc}
use Rattle.std.specs.Option.{option_flatten, unwrap_or}
use Rattle.std.specs.Prelude.{◌≡◌, ◌≤◌, ◌+◌, ◌-◌, ℕ, zero, suc, min, Bool, true, false, not, ◌&&◌, List, [], ◌∷◌, ◌++◌, map, take, drop}
use Rattle.std.specs.Prelude.{length}
use Rattle.std.specs.Prelude.{Option, Some, None, Result, Ok, Err, is_some, replicate, slice_get, slice_set}
use Rattle.rhai_tree.specs.Names.{Name, Begins}
use Rattle.rhai_tree.specs.declared.expr.Ident.{Ident}
use Rattle.rhai_tree.specs.declared.expr.Stmt.{Stmt, out-Stmt}
use Rattle.rhai_tree.specs.Lookup.{with_entry}
use Rattle.rhai_values.specs.declared.base.value.Dynamic.{Dynamic}
use Rattle.rhai_values.specs.declared.base.value.EncapsulatedEnviron.{EncapsulatedEnviron, out-EncapsulatedEnviron}
use Rattle.rhai_values.specs.declared.base.value.Import.{Import}
use Rattle.rhai_values.specs.Cells.{value_of_cell, with_held, with_value}
use Rattle.rhai_values.specs.Copy.{copy_of}
use Rattle.rhai_spots.specs.Paths.{Step, ToPlace, ToCell}
use Rattle.rhai_errors.specs.declared.error.EvalAltResult.{EvalAltResult}
use Rattle.rhai_state.specs.declared.scope.ScopeEntry.{ScopeEntry}
use Rattle.rhai_state.specs.Scope.{name_of}
use Rattle.rhai_machine.specs.language.State.{Surroundings, Local}
use Rattle.rhai_machine.specs.language.Values.{Cells, unit_value}
use Rattle.rhai_machine.specs.language.Places.{Place, InEntry, InCell, InThis, InFocus, rebound, put}
use Rattle.rhai_machine.specs.language.Activations.{ThisFrom, NoThis, OwnThis, TheFocus, Entered, Variables, Caller, UpTo, Without}
use Rattle.rhai_machine.specs.language.Activations.{CallExit}
use Rattle.rhai_machine.specs.language.Turns.{ForLoop}
use Rattle.rhai_machine.specs.language.Frames.{Saved, Control, Frame, Core, core, ended, Exec, OpenStmt, Enter, Run, Back, DefineValue}
use Rattle.rhai_machine.specs.language.Frames.{RestOfList, RestoreList, StepDown, EnterFunction, CallEnd, ForItems, ImportPath}
use Rattle.rhai_machine.specs.language.Frames.{RestoreScope}
use Rattle.rhai_functions.specs.Entering.{parameters}
use Rattle.rhai_machine.specs.language.Bodies.{this_back, variables_before, this_by, with_environ, entered_local}
use Rattle.rhai_machine.specs.language.Bodies.{variables_after, exit_of, variables_back, called_back}
use Rattle.rhai_machine.specs.language.Statements.{saved_by, restored_by, deeper, with_constant, with_entry_at}
use Rattle.rhai_machine.specs.language.Unwinding.{restored}
use Rattle.rhai_machine.proofs.Places.{put_names}
use Rattle.rhai_laws.specs.Kept.{declares, forgotten_cell, is_import, Stands, Sound, names_of, adds_names}

-- the surroundings, without the values of the cells, and what is restored along with them
pub record Outline (H : Type 0) : Type 0 where
  pub around : Surroundings H
  pub scope_level : ℕ
  pub bound : Bool

-- what is added: so many new cells, all of them free, imports behind the others, and so many modules loaded
pub record Growth (H : Type 0) : Type 0 where
  pub cells : ℕ
  pub imports : List (Import H)
  pub loaded : ℕ

-- what is asked of the names: all along, and at the end; and at the end of how many imports there are
pub record Asked : Type 1 where
  pub along : List Name → Type 0
  pub last : List Name → Type 0
  pub imports : ℕ → Type 0

-- what is asked all along holds of so few names, and stays where names between others go
pub record Grows (a : Asked) (most : ℕ) : Type 0 where
  pub fits : (n : List Name) → length n ≤ most → a.along n
  pub thins : (n : List Name) (i j : ℕ) → a.along n → a.along (take i n ++ drop (i + j) n)

-- names begin with themselves
pub begins_self : (n : List Name) → Begins n n
begins_self n = ([], sym (append-nil n))

-- what begins a beginning begins the whole
pub begins_through : (a b c : List Name) → Begins a b → Begins b c → Begins a c
begins_through a b c (xs, e) (ys, f) = (xs ++ ys, f ∙ ap (λ v. v ++ ys) e ∙ append_assoc a xs ys)

-- the names of the variables of a `for`
abbrev pub counter_names : Option Ident → List Name
counter_names None = []
counter_names (Some counter) = counter.name ∷ []

abbrev pub loop_names : ForLoop → List Name
loop_names loop = counter_names loop.counter ++ loop.variable.name ∷ []

module _ {H : Type 0} where
  -- a table of constants without its names and values
  abbrev pub forgotten_table : List (List ℕ) × List (Dynamic H) → List (List ℕ) × List (Dynamic H)
  forgotten_table table = ([], [])

  -- the surroundings without the values of the cells, and without the constants
  abbrev pub forgotten : Surroundings H → Surroundings H
  forgotten around = record around {
    cells = map forgotten_cell around.cells;
    constant_tables = map forgotten_table around.constant_tables;
  }

  -- the outline of what the rules read and change
  abbrev pub outline : Local H → Outline H
  outline l = record { around = forgotten l.around; scope_level = l.scope_level; bound = is_some l.this }

  -- what the end of a restoring list makes of it
  abbrev pub given_back : Saved → Outline H → Outline H
  given_back saved o =
      record {
        around = record o.around { imports = take saved.imports_length o.around.imports };
        scope_level = saved.scope_level;
        bound = o.bound;
      }

  -- what the end of a step to a cell makes of it: the cell, held till then, is free again
  abbrev pub freed : ℕ → Outline H → Outline H
  freed n o = record o { around = record o.around { cells = with_value o.around.cells n unit_value } }

  -- what the end of a function's call makes of it
  abbrev pub ended_call : CallExit H → Outline H → Outline H
  ended_call exit o = record {
    around = record o.around {
      lib = take exit.lib_length o.around.lib;
      imports = take exit.imports_length o.around.imports;
      constants = exit.constants;
      level = exit.level;
    };
    scope_level = o.scope_level;
    bound = this_back exit.object (is_some exit.this) o.bound;
  }

  -- what is left of it once the whole stack has been unwound
  abbrev pub unwound : List (Frame H) → Outline H → Outline H
  unwound [] o = o
  unwound (CallEnd exit ∷ k) o = unwound k (ended_call exit o)
  unwound (RestoreList saved ∷ k) o = unwound k (given_back saved o)
  unwound (StepDown above (ToCell n) ∷ k) o = unwound k (freed n o)
  unwound (_ ∷ k) o = unwound k o

  -- an outline with what is added
  abbrev pub more : Growth H → Outline H → Outline H
  more g o = record o {
    around = record o.around {
      cells = o.around.cells ++ replicate g.cells (Some unit_value);
      imports = o.around.imports ++ g.imports;
      num_modules_loaded = o.around.num_modules_loaded + g.loaded;
    };
  }

  -- so many new cells alone
  abbrev pub new_cells : ℕ → Growth H
  new_cells count = record { cells = count; imports = []; loaded = zero }

  -- what is around is only added to
  abbrev pub Onto : (old new : Outline H) → Type 0
  Onto old new = (g : Growth H) × (new ≡ more g old)

  -- free cells and free cells are free cells
  free_and_free : (m n : ℕ) → replicate m (Some unit_value) ++ replicate n (Some unit_value) ≡ replicate (m + n) (Some (unit_value {H = H}))
  free_and_free zero n =
      let same : n ≡ zero + n = omega arith in ap (λ count. replicate count (Some (unit_value {H = H}))) same
  free_and_free (suc m) n =
      let same : suc (m + n) ≡ suc m + n = omega arith in
      ap (λ rest. Some unit_value ∷ rest) (free_and_free m n) ∙ ap (λ count. replicate count (Some (unit_value {H = H}))) same

  pub none_more : (o : Outline H) → more (new_cells zero) o ≡ o
  none_more o =
      let same : o.around.num_modules_loaded + zero ≡ o.around.num_modules_loaded = omega arith in
      rw (append-nil o.around.cells, append-nil o.around.imports, same) refl

  -- one addition after another
  abbrev both : (f g : Growth H) → Growth H
  both f g = record { cells = f.cells + g.cells; imports = f.imports ++ g.imports; loaded = f.loaded + g.loaded }

  more_and_more : (f g : Growth H) (o : Outline H) → more g (more f o) ≡ more (both f g) o
  more_and_more f g o =
      let same : o.around.num_modules_loaded + f.loaded + g.loaded ≡ o.around.num_modules_loaded + (f.loaded + g.loaded) = omega arith in
      rw (
        append_assoc o.around.cells (replicate f.cells (Some unit_value)) (replicate g.cells (Some unit_value)),
        free_and_free f.cells g.cells,
        append_assoc o.around.imports f.imports g.imports,
        same,
      ) refl

  -- nothing is added, and more is added to what was added to
  onto_same : (o p : Outline H) → p ≡ o → Onto o p
  onto_same o p is = (new_cells zero, is ∙ sym (none_more o))

  onto_through : (o p q : Outline H) → Onto o p → Onto p q → Onto o q
  onto_through o p q f g = (both f.0 g.0, g.1 ∙ ap (more g.0) f.1 ∙ more_and_more f.0 g.0 o)

  -- a free cell that is freed stays so, and so do new ones
  free_cells : (count n : ℕ) → slice_set (replicate count (Some unit_value)) n (Some unit_value) ≡ replicate count (Some
      (unit_value {H = H}))
  free_cells zero n = refl
  free_cells (suc count) zero = refl
  free_cells (suc count) (suc n) = ap (λ rest. Some unit_value ∷ rest) (free_cells count n)

  freed_before : (cells : Cells H) (count n : ℕ) →
      slice_set (cells ++ replicate count (Some unit_value)) n (Some unit_value)
      ≡ slice_set cells n (Some unit_value) ++ replicate count (Some unit_value)
  freed_before [] count n = free_cells count n
  freed_before (cell ∷ cells) count zero = refl
  freed_before (cell ∷ cells) count (suc n) = ap (λ rest. cell ∷ rest) (freed_before cells count n)

  freed_more : (n : ℕ) (g : Growth H) (o : Outline H) → freed n (more g o) ≡ more g (freed n o)
  freed_more n g o = rw (freed_before o.around.cells g.cells n) refl

  -- of more imports so many are left as of fewer, and some of those that were added
  some_taken : (n : ℕ) (old added : List (Import H)) → take n (old ++ added) ≡ take n old ++ take (n - length old) added
  some_taken zero [] added = refl
  some_taken (suc n) [] added = let same : suc n - length {A = Import H} [] ≡ suc n = omega arith in rw same refl
  some_taken zero (i ∷ old) added = let same : zero - length (i ∷ old) ≡ zero = omega arith in rw same refl
  some_taken (suc n) (i ∷ old) added =
      let same : suc n - length (i ∷ old) ≡ n - length old = omega arith in
      ap (λ rest. i ∷ rest) (some_taken n old added) ∙ ap (λ count. i ∷ take n old ++ take count added) (sym same)

  -- what is left of the imports that were added
  abbrev left_of : ℕ → Growth H → Outline H → Growth H
  left_of n g o = record g { imports = take (n - length o.around.imports) g.imports }

  ended_more : (exit : CallExit H) (g : Growth H) (o : Outline H) →
      ended_call exit (more g o) ≡ more (left_of exit.imports_length g o) (ended_call exit o)
  ended_more exit g o = rw (some_taken exit.imports_length o.around.imports g.imports) refl

  given_more : (saved : Saved) (g : Growth H) (o : Outline H) →
      given_back saved (more g o) ≡ more (left_of saved.imports_length g o) (given_back saved o)
  given_more saved g o = rw (some_taken saved.imports_length o.around.imports g.imports) refl

  -- what is added stays through what is taken back, but for some of the imports
  pub unwound_more : (k : List (Frame H)) (g : Growth H) (o : Outline H) → Onto (unwound k o) (unwound k (more g o))
  unwound_more [] g o = (g, refl)
  unwound_more (CallEnd exit ∷ k) g o =
      rw (ended_more exit g o) (unwound_more k (left_of exit.imports_length g o) (ended_call exit o))
  unwound_more (RestoreList saved ∷ k) g o =
      rw (given_more saved g o) (unwound_more k (left_of saved.imports_length g o) (given_back saved o))
  unwound_more (StepDown above (ToCell n) ∷ k) g o = rw (freed_more n g o) (unwound_more k g (freed n o))
  unwound_more (_ ∷ k) g o = unwound_more k g o

  -- what adds to the outline adds to what is left of it
  pub adds : (k : List (Frame H)) (g : Growth H) (o p : Outline H) → p ≡ more g o → Onto (unwound k o) (unwound k p)
  adds k g o p is = rw is (unwound_more k g o)

  -- a control over a stack that adds no names, and one that may add some
  abbrev pub calm : List (Frame H) → Local H → Core H
  calm k l = core (Back unit_value) k l

  abbrev pub eager : List (Frame H) → Local H → Core H
  eager k l = core (Run [] false unit_value) k l

  -- the first names of more are those that were there
  taken : (l : Local H) (m : List Name) → Begins (names_of l) m → take (length l.scope) m ≡ names_of l
  taken l m b =
      ap (take (length l.scope)) b.1 ∙ (ap (λ i. take i (names_of l ++ b.0)) (sym (length-map l.scope name_of))
      ∙ take-append_seam (names_of l) b.0)

  -- the end of a restoring list gives back what its start had
  pub entered_around : (l : Local H) → given_back (saved_by l) (outline (record l { scope_level = deeper l.scope_level })) ≡ outline l
  entered_around l = rw (take-length l.around.imports) refl

  -- which cells are free is not changed by a value that is written to a free one
  free_cell : (cells : Cells H) (n : ℕ) (v : Dynamic H) → is_some (option_flatten (slice_get cells n)) ≡ true →
      map forgotten_cell (slice_set cells n (Some v)) ≡ map forgotten_cell cells
  free_cell [] n v is = refl
  free_cell (Some w ∷ cells) zero v is = refl
  free_cell (None ∷ cells) zero v is = cc
  free_cell (cell ∷ cells) (suc n) v is = ap (λ rest. forgotten_cell cell ∷ rest) (free_cell cells n v is)

  -- a cell that gets a value is free
  set_forgotten : (cells : Cells H) (n : ℕ) (v : Dynamic H) →
      map forgotten_cell (slice_set cells n (Some v)) ≡ slice_set (map forgotten_cell cells) n (Some unit_value)
  set_forgotten [] n v = refl
  set_forgotten (cell ∷ cells) zero v = refl
  set_forgotten (cell ∷ cells) (suc n) v = ap (λ rest. forgotten_cell cell ∷ rest) (set_forgotten cells n v)

  -- a free cell that is held, and free again
  free_again : (cells : Cells H) (n : ℕ) → is_some (option_flatten (slice_get cells n)) ≡ true →
      slice_set (map forgotten_cell (slice_set cells n None)) n (Some unit_value) ≡ map forgotten_cell cells
  free_again [] n is = refl
  free_again (Some v ∷ cells) zero is = refl
  free_again (None ∷ cells) zero is = cc
  free_again (cell ∷ cells) (suc n) is = ap (λ rest. forgotten_cell cell ∷ rest) (free_again cells n is)

  -- the end of a step to a cell frees it
  pub left_cell : (above : Dynamic H) (n : ℕ) (l : Local H) → outline (restored (StepDown above (ToCell n)) l) ≡ freed n (outline l)
  left_cell above n l = rw (set_forgotten l.around.cells n (unwrap_or l.focus unit_value)) refl

  -- and gives back what its start had
  pub entered_cell : (n : ℕ) (inner : Dynamic H) (l : Local H) → is_some (value_of_cell l.around.cells n) ≡ true →
      freed n (outline (record l { focus = Some inner; around = record l.around { cells = with_held l.around.cells n } })) ≡ outline l
  entered_cell n inner l is = rw (free_again l.around.cells n is) refl

  still_bound : (v : Dynamic H) (this : Option (Dynamic H)) → is_some (rebound v this) ≡ is_some this
  still_bound v (Some w) = refl
  still_bound v None = refl

  put_outline : (place : Place) (v : Dynamic H) (l : Local H) → Stands place l → outline (put place v l) ≡ outline l
  put_outline (InEntry index) v l is = refl
  put_outline (InCell n) v l is = rw (free_cell l.around.cells n v is) refl
  put_outline InThis v l is = rw (still_bound v l.this) refl
  put_outline InFocus v l is = refl

  -- whether `this` is bound comes back as `this` does
  bound_back : (object : ThisFrom) (before now : Option (Dynamic H)) →
      is_some (this_back object before now) ≡ this_back object (is_some before) (is_some now)
  bound_back NoThis before now = refl
  bound_back OwnThis before now = refl
  bound_back TheFocus before now = refl

  bound_again : (object : ThisFrom) (l : Local H) → this_back object (is_some l.this) (is_some (this_by object l)) ≡ is_some l.this
  bound_again NoThis l = refl
  bound_again OwnThis l = refl
  bound_again TheFocus l = refl

  -- what the end of a call makes of the outline
  pub left_call : (exit : CallExit H) (l : Local H) → outline (called_back exit l) ≡ ended_call exit (outline l)
  left_call exit l = rw (bound_back exit.object exit.this l.this) refl

  -- and it gives back what its start had
  pub entered_call : (e : Entered H) (environ : Option (EncapsulatedEnviron H)) (scope : List (ScopeEntry H)) (l : Local H) →
      ended_call (exit_of e l) (outline (record l {
        scope = scope;
        this = this_by e.object l;
        focus = None;
        around = record (with_environ environ l.around) { level = e.level };
      })) ≡ outline l
  entered_call e None scope l = rw (bound_again e.object l, take-length l.around.lib, take-length l.around.imports) refl
  entered_call e (Some environ) scope l = rw (
    bound_again e.object l,
    take-append_seam l.around.lib (out-EncapsulatedEnviron H environ).lib,
    take-append_seam l.around.imports (out-EncapsulatedEnviron H environ).imports,
  ) refl

  -- a table of constants gets a value
  table_forgotten : (tables : List (List (List ℕ) × List (Dynamic H))) (n : ℕ) (table : List (List ℕ) × List (Dynamic H)) →
      map forgotten_table (slice_set tables n table) ≡ map forgotten_table tables
  table_forgotten [] n table = refl
  table_forgotten (t ∷ tables) zero table = refl
  table_forgotten (t ∷ tables) (suc n) table = ap (λ rest. ([], []) ∷ rest) (table_forgotten tables n table)

  tables_forgotten : (tables : List (List (List ℕ) × List (Dynamic H))) (n : ℕ) (there : Option (List (List ℕ) × List (Dynamic H)))
      (name : List ℕ) (v : Dynamic H) →
      map forgotten_table (with_entry_at name v tables n there) ≡ map forgotten_table tables
  tables_forgotten tables n (Some table) name v = table_forgotten tables n (with_entry name v table)
  tables_forgotten tables n None name v = refl

  pub constant_outline : (name : List ℕ) (v : Dynamic H) (l : Local H) →
      outline (record l { around = with_constant name v l.around }) ≡ outline l
  constant_outline name v l = rw (tables_forgotten l.around.constant_tables l.around.constants
      (slice_get l.around.constant_tables l.around.constants) name (copy_of v)) refl

  -- ---- the names that the end of a call leaves

  abbrev pub names_back : Variables H → List Name → List Name
  names_back (Caller scope) n = map name_of scope
  names_back (UpTo i) n = take i n
  names_back (Without i j) n = take i n ++ drop (i + j) n

  pub named_back : (variables : Variables H) (scope : List (ScopeEntry H)) →
      map name_of (variables_back variables scope) ≡ names_back variables (map name_of scope)
  named_back (Caller before) scope = refl
  named_back (UpTo i) scope = sym (take-map name_of i scope)
  named_back (Without i j) scope = rw (
    map-append name_of (take i scope) (drop (i + j) scope),
    ← take-map name_of i scope,
    ← drop-map name_of (i + j) scope,
  ) refl

  -- a function starts with no more names than it has parameters, after those that it finds
  pub few_parameters : (names : List (List ℕ)) (args : List (Dynamic H)) → length (parameters names args) ≤ length names
  few_parameters [] args = omega arith
  few_parameters (name ∷ names) [] = omega (arith, few_parameters names [])
  few_parameters (name ∷ names) (v ∷ args) = omega (arith, few_parameters names args)

  still_free : (cells : Cells H) (n : ℕ) (v : Dynamic H) → is_some (option_flatten (slice_get cells n)) ≡ true →
      is_some (option_flatten (slice_get (slice_set cells n (Some v)) n)) ≡ true
  still_free [] n v is = is
  still_free (cell ∷ cells) zero v is = refl
  still_free (cell ∷ cells) (suc n) v is = still_free cells n v is

  -- a place that stands still does after it is written to
  pub put_stands : (place : Place) (v : Dynamic H) (l : Local H) → Stands place l → Stands place (put place v l)
  put_stands (InEntry index) v l is = tt
  put_stands (InCell n) v l is = still_free l.around.cells n v is
  put_stands InThis v l is = tt
  put_stands InFocus v l is = tt

  -- and the imports stay
  pub put_imports : (place : Place) (v : Dynamic H) (l : Local H) → (put place v l).around.imports ≡ l.around.imports
  put_imports (InEntry index) v l = refl
  put_imports (InCell n) v l = refl
  put_imports InThis v l = refl
  put_imports InFocus v l = refl

  -- a function has the imports that it finds, and those of its environment
  more_imports : (environ : Option (EncapsulatedEnviron H)) (l : Local H) →
      length l.around.imports ≤ length (with_environ environ l.around).imports
  more_imports None l = omega arith
  more_imports (Some environ) l = omega (arith, length-append l.around.imports (out-EncapsulatedEnviron H environ).imports)

  module _ (a : Asked) where
    -- what is asked of the names n over a stack: under the rest of a list, and under a `let` that overwrites none, there may be more of
    -- them; under the value of a `for` its own come then
    abbrev pub Tight : List (Frame H) → List Name → Type 0
    Tight [] n = a.last n
    Tight (RestoreList saved ∷ k) n = a.along (take saved.scope_length n) × Tight k (take saved.scope_length n)
    Tight (RestOfList rest restoring ∷ k) n = (m : List Name) → Begins n m → a.along m → Tight k m
    Tight (RestoreScope length ∷ k) n = a.along (take length n) × Tight k (take length n)
    Tight (ForItems loop ∷ k) n = a.along (n ++ loop_names loop) × Tight k n
    Tight (CallEnd exit ∷ k) n = a.along (names_back exit.variables n) × Tight k (names_back exit.variables n)
    Tight (DefineValue ident None options restoring value_at ∷ k) n =
        a.along (n ++ ident.name ∷ []) × ((m : List Name) → Begins n m → a.along m → Tight k m)
    Tight (_ ∷ k) n = Tight k n

    -- there may be more names
    abbrev pub Free : List (Frame H) → List Name → Type 0
    Free k n = (m : List Name) → Begins n m → a.along m → Tight k m

    abbrev pub TightBy : (adds : Bool) → List (Frame H) → List Name → Type 0
    TightBy true k n = Free k n
    TightBy false k n = Tight k n

    -- what is asked of them at a control: a `let`, the rest of a list and some functions may add some
    abbrev pub TightAt : Control H → List (Frame H) → List Name → Type 0
    TightAt (EnterFunction e) k n = TightBy (adds_names e) k n
    TightAt (Exec stmt restoring) k n = TightBy (declares (out-Stmt stmt)) k n
    TightAt (OpenStmt form restoring) k n = TightBy (declares form) k n
    TightAt (Run stmts restoring last) k n = Free k n
    TightAt (Enter stmts false) k n = Free k n
    TightAt _ k n = Tight k n

    -- what is asked of so many imports over a stack: under the rest of a list, and under the path of an `import`, there may be more of
    -- them; a restoring list and a call take back what was added
    abbrev pub Imports : List (Frame H) → ℕ → Type 0
    Imports [] n = a.imports n
    Imports (RestoreList saved ∷ k) n = Imports k (min saved.imports_length n)
    Imports (CallEnd exit ∷ k) n = Imports k (min exit.imports_length n)
    Imports (RestOfList rest restoring ∷ k) n = (m : ℕ) → n ≤ m → Imports k m
    Imports (ImportPath alias path_at starts_at ∷ k) n = (m : ℕ) → n ≤ m → Imports k m
    Imports (_ ∷ k) n = Imports k n

    -- there may be more imports
    abbrev pub AnyImports : List (Frame H) → ℕ → Type 0
    AnyImports k n = (m : ℕ) → n ≤ m → Imports k m

    abbrev pub ImportsBy : (adds : Bool) → List (Frame H) → ℕ → Type 0
    ImportsBy true k n = AnyImports k n
    ImportsBy false k n = Imports k n

    -- what is asked of them at a control: an `import` and the rest of a list may add some
    abbrev pub ImportsAt : Control H → List (Frame H) → ℕ → Type 0
    ImportsAt (Exec stmt restoring) k n = ImportsBy (is_import (out-Stmt stmt)) k n
    ImportsAt (OpenStmt form restoring) k n = ImportsBy (is_import form) k n
    ImportsAt (Run stmts restoring last) k n = AnyImports k n
    ImportsAt (Enter stmts false) k n = AnyImports k n
    ImportsAt _ k n = Imports k n

    -- what is asked holds of a core
    abbrev pub MeetsAsked : Core H → Type 0
    MeetsAsked c =
        a.along (names_of c.local) × TightAt c.control c.stack (names_of c.local)
        × ImportsAt c.control c.stack (length c.local.around.imports)

    -- what a move from a sound core keeps
    pub record Keeps (c d : Core H) : Type 0 where
      pub sound : Sound d.control d.local
      pub around : Onto (unwound c.stack (outline c.local)) (unwound d.stack (outline d.local))
      pub names : MeetsAsked c → MeetsAsked d

    -- the same outline, names that will do
    pub quiet : {c d : Core H} → Sound d.control d.local → unwound d.stack (outline d.local) ≡ unwound c.stack (outline c.local) →
        (MeetsAsked c → MeetsAsked d) → Keeps c d
    quiet {c} {d} s o n = record {
      sound = s;
      around = onto_same (unwound c.stack (outline c.local)) (unwound d.stack
          (outline d.local)) o;
      names = n;
    }

    -- one move after another
    pub through : {b c d : Core H} → Keeps b c → Keeps c d → Keeps b d
    through {b} {c} {d} p q = record {
      sound = q.sound;
      around = onto_through (unwound b.stack (outline b.local)) (unwound c.stack (outline c.local)) (unwound d.stack (outline d.local))
          p.around q.around;
      names = λ t. q.names (p.names t);
    }

    -- a move by way of another core
    pub after : {b d : Core H} (c : Core H) → unwound c.stack (outline c.local) ≡ unwound b.stack (outline b.local) →
        (MeetsAsked b → MeetsAsked c) →
        Keeps c d → Keeps b d
    after c o n q = record {
      sound = q.sound;
      around = (q.around.0, q.around.1 ∙ ap (more q.around.0) o);
      names = λ t. q.names (n t);
    }

    -- what may add imports may add none
    pub as_many : (k : List (Frame H)) (n : ℕ) → AnyImports k n → Imports k n
    as_many k n any = any n (omega arith)

    -- what may add names and imports may add none
    pub calm_meets : (k : List (Frame H)) (l : Local H) → MeetsAsked (eager k l) → MeetsAsked (calm k l)
    calm_meets k l t = (t.0, t.1 (names_of l) (begins_self (names_of l)) t.0, as_many k (length l.around.imports) t.2)

    -- a result comes back
    pub ended_keeps : (r : Result (Dynamic H) (EvalAltResult H)) (k : List (Frame H)) (l : Local H) → Keeps (calm k l) (core (ended r) k l)
    ended_keeps (Ok v) k l = quiet tt refl (λ t. t)
    ended_keeps (Err e) k l = quiet tt refl (λ t. t)

    -- a restoring list is entered
    pub entered_names : (k : List (Frame H)) (l : Local H) → MeetsAsked (calm k l) → MeetsAsked (eager (RestoreList (saved_by l) ∷ k) l)
    entered_names k l t = (
      t.0,
      λ m b q. rw (taken l m b) (t.0, t.1),
      λ m le. let same : min (length l.around.imports) m ≡ length l.around.imports = omega (arith, le) in rw same t.2,
    )

    -- a restoring list is left
    pub left_names : (saved : Saved) (k : List (Frame H)) (l : Local H) → MeetsAsked (calm (RestoreList saved ∷ k) l) →
        MeetsAsked (calm k (restored_by saved l))
    left_names saved k l t = rw
        (← take-map name_of saved.scope_length l.scope, length-take saved.imports_length l.around.imports) (t.1.0, t.1.1, t.2)

    -- the variables that are newer than so many are gone
    pub scope_left : (length : ℕ) (k : List (Frame H)) (l : Local H) → MeetsAsked (calm (RestoreScope length ∷ k) l) →
        MeetsAsked (calm k (record l { scope = take length l.scope }))
    scope_left length k l t = rw (← take-map name_of length l.scope) (t.1.0, t.1.1, t.2)

    -- variables that are newer than those that are there, over the frame that takes them back
    pub newer_meets : (entries : List (ScopeEntry H)) (k : List (Frame H)) (l : Local H) →
        a.along (names_of l ++ map name_of entries) → MeetsAsked (calm k l) →
        MeetsAsked (calm (RestoreScope (length l.scope) ∷ k) (record l { scope = l.scope ++ entries }))
    newer_meets entries k l w t = rw
        (map-append name_of l.scope entries, taken l (names_of l ++ map name_of entries) (map name_of entries, refl)) (w, (t.0, t.1), t.2)

    -- a control that may add imports, or may not, adds none
    pub no_more_by : (adds : Bool) (k : List (Frame H)) (n : ℕ) → ImportsBy adds k n → Imports k n
    no_more_by true k n t = as_many k n t
    no_more_by false k n t = t

    pub any_by : (adds : Bool) (k : List (Frame H)) (n : ℕ) → AnyImports k n → ImportsBy adds k n
    any_by true k n t = t
    any_by false k n t = as_many k n t

    -- a control that may add names, or may not, adds none
    pub stopped_by : (adds : Bool) (k : List (Frame H)) (n : List Name) → a.along n → TightBy adds k n → Tight k n
    stopped_by true k n w t = t n (begins_self n) w
    stopped_by false k n w t = t

    pub started_by : (adds : Bool) (k : List (Frame H)) (n : List Name) → Tight k n → Free k n → TightBy adds k n
    started_by true k n t f = f
    started_by false k n t f = t

    -- a function's call is left
    pub call_left : (exit : CallExit H) (k : List (Frame H)) (l : Local H) →
        Keeps (calm (CallEnd exit ∷ k) l) (calm k (called_back exit l))
    call_left exit k l = quiet tt (ap (unwound k) (left_call exit l))
        (λ t. rw (named_back exit.variables l.scope, length-take exit.imports_length l.around.imports) (t.1.0, t.1.1, t.2))

    -- a function that fits is entered
    module _ (most : ℕ) (grows : Grows a most) where
      -- where the first names are these, they stay as those of the parameters go
      thinned : (l : Local H) (j : ℕ) (m : List Name) → Begins (names_of l) m →
          Begins (names_of l) (take (length l.scope) m ++ drop (length l.scope + j) m)
      thinned l j m b = (drop (length l.scope + j) m, ap (λ xs. xs ++ drop (length l.scope + j) m) (taken l m b))

      entered_names_by : (is_fresh restores : Bool) (stmt : Stmt) (stmts : List Stmt) (exit : CallExit H) (n : List Name) (j : ℕ)
          (k : List (Frame H)) (l : Local H) → exit.variables ≡ variables_after is_fresh restores l.scope j →
          Begins (map name_of (variables_before is_fresh l.scope)) n → a.along (names_of l) →
          TightBy (not restores && not is_fresh) k (names_of l) → TightAt (Enter (stmt ∷ stmts) restores) (CallEnd exit ∷ k) n
      entered_names_by true true stmt stmts exit n j k l is b w t = rw is (w, t)
      entered_names_by true false stmt stmts exit n j k l is b w t = λ m c v. rw is (w, t)
      entered_names_by false true stmt stmts exit n j k l is b w t = rw (is, taken l n b) (w, t)
      entered_names_by false false stmt stmts exit n j k l is b w t = λ m c v.
          let thin : List Name = take (length l.scope) m ++ drop (length l.scope + j) m in
          let x : a.along thin = grows.thins m (length l.scope) j v in
          rw is (x, t thin (thinned l j m (begins_through (names_of l) n m b c)) x)

      entered_begins : (is_fresh : Bool) (names : List (List ℕ)) (args : List (Dynamic H)) (scope : List (ScopeEntry H)) →
          Begins (map name_of (variables_before is_fresh scope)) (map name_of (variables_before is_fresh scope ++ parameters names args))
      entered_begins is_fresh names args scope = (
        map name_of (parameters names args),
        map-append name_of (variables_before is_fresh scope) (parameters names args),
      )

      few_names : (is_fresh : Bool) (names : List (List ℕ)) (args : List (Dynamic H)) (scope : List (ScopeEntry H)) →
          length (variables_before is_fresh scope) + length names ≤ most →
          length (map name_of (variables_before is_fresh scope ++ parameters names args)) ≤ most
      few_names is_fresh names args scope le = omega (
        arith,
        length-map (variables_before is_fresh scope ++ parameters names args) name_of,
        length-append (variables_before is_fresh scope) (parameters names args),
        few_parameters names args,
        le,
      )

      -- the end of a call takes back the imports that its function had or added
      few_imports : (e : Entered H) (l : Local H) (n : ℕ) (k : List (Frame H)) → Imports k (length l.around.imports) →
          length l.around.imports ≤ n → Imports (CallEnd (exit_of e l) ∷ k) n
      few_imports e l n k t le =
          let same : min (length l.around.imports) n ≡ length l.around.imports = omega (arith, le) in rw same t

      entered_imports : (restores : Bool) (stmt : Stmt) (stmts : List Stmt) (e : Entered H) (l : Local H) (n : ℕ) (k : List (Frame H)) →
          Imports k (length l.around.imports) → length l.around.imports ≤ n →
          ImportsAt (Enter (stmt ∷ stmts) restores) (CallEnd (exit_of e l) ∷ k) n
      entered_imports true stmt stmts e l n k t le = few_imports e l n k t le
      entered_imports false stmt stmts e l n k t le = λ m more. few_imports e l m k t (omega (arith, le, more))

      pub function_entered : (e : Entered H) (stmt : Stmt) (stmts : List Stmt) (k : List (Frame H)) (l : Local H) →
          length (variables_before e.is_fresh l.scope) + length e.def.params ≤ most →
          Keeps (core (EnterFunction e) k l) (core (Enter (stmt ∷ stmts) e.restores) (CallEnd (exit_of e l) ∷ k) (entered_local e l))
      function_entered e stmt stmts k l le = quiet tt
          (ap (unwound k) (entered_call e e.environ (entered_local e l).scope l))
          (λ t. (
            grows.fits (names_of (entered_local e l)) (few_names e.is_fresh e.def.params e.args l.scope le),
            entered_names_by e.is_fresh e.restores stmt stmts (exit_of e l) (names_of (entered_local e l)) (length e.def.params) k l refl
                (entered_begins e.is_fresh e.def.params e.args l.scope) t.0 t.1,
            entered_imports e.restores stmt stmts e l (length (entered_local e l).around.imports) k t.2 (more_imports e.environ l),
          ))

    -- a step down is left
    pub step_left : (above : Dynamic H) (step : Step) (k : List (Frame H)) (l : Local H) →
        Keeps (calm (StepDown above step ∷ k) l) (calm k (restored (StepDown above step) l))
    step_left above (ToPlace at) k l = quiet tt refl (λ t. t)
    step_left above (ToCell n) k l = quiet tt (ap (unwound k) (left_cell above n l)) (λ t. t)

    -- a value is written to a place
    put_names_meet : (place : Place) (v : Dynamic H) (k : List (Frame H)) (l : Local H) → MeetsAsked (calm k l) →
        MeetsAsked (calm k (put place v l))
    put_names_meet place v k l t = rw (put_names place v l, put_imports place v l) t

    pub put_keeps : (place : Place) (v : Dynamic H) (k : List (Frame H)) (l : Local H) → Stands place l →
        Keeps (calm k l) (calm k (put place v l))
    put_keeps place v k l is = quiet tt (ap (unwound k) (put_outline place v l is)) (put_names_meet place v k l)
