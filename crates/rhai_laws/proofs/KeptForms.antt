-- What the rules of `switch`, `for`, `try`, `export`, `import` and of shared variables keep.
use Rattle.std.proofs.Common.{refl, ap, arith, slice_get, subst, sym}
use Rattle.std.proofs.lemmas.Option.{get_or_from_slice_get}
use Rattle.std.proofs.Math.Seq.{map-set_same}
use Rattle.std.proofs.lemmas.Bool.Decides.{nat_tests}
use Rattle.std.proofs.lemmas.List.{append-nil, length-append, length-map, map-append}
use Rattle.std.specs.Option.{option_map}
use Rattle.std.specs.Prelude.{◌≡◌, ◌≤◌, ◌<◌, ◌+◌, ◌-◌, ◌^◌, ℕ, min, pos, nat_le, length, Bool, true, false, List, [], ◌∷◌, ◌++◌, map}
use Rattle.std.specs.Prelude.{Option, Some, None}
use Rattle.std.specs.Prelude.{Result, Ok, Err}
use Rattle.rhai_tree.specs.Names.{Name}
use Rattle.rhai_tree.specs.declared.position.Position.{Position}
use Rattle.rhai_tree.specs.declared.expr.ConditionalExpr.{ConditionalExpr}
use Rattle.rhai_tree.specs.declared.expr.Expr.{Expr, out-Expr}
use Rattle.rhai_tree.specs.declared.expr.Expr.TheOpen as layer
use Rattle.rhai_tree.specs.declared.expr.Ident.{Ident}
use Rattle.rhai_tree.specs.declared.expr.SharedVariable.{SharedVariable}
use Rattle.rhai_tree.specs.declared.expr.Stmt.{Stmt}
use Rattle.rhai_tree.specs.declared.expr.StmtBlock.{StmtBlock}
use Rattle.rhai_tree.specs.Positions.{position_of}
use Rattle.rhai_values.specs.declared.base.value.AccessMode.TheVariants.{ReadWrite}
use Rattle.rhai_values.specs.declared.base.value.Dynamic.{Dynamic}
use Rattle.rhai_values.specs.declared.base.value.Import.{Import}
use Rattle.rhai_values.specs.declared.base.value.Module.{Module}
use Rattle.rhai_values.specs.declared.base.value.Union.{Union}
use Rattle.rhai_values.specs.declared.base.value.Union.TheVariants as value
use Rattle.rhai_values.specs.Cells.{value_of_cell}
use Rattle.rhai_values.specs.Layers.{layer_of}
use Rattle.rhai_errors.specs.declared.error.EvalAltResult.{EvalAltResult}
use Rattle.rhai_state.specs.declared.scope.ScopeEntry.{ScopeEntry}
use Rattle.rhai_state.specs.State.{import_as}
use Rattle.rhai_state.specs.Scope.{aliased, name_of, found, index_of, new_entry, value_in, with_alias}
use Rattle.rhai_machine.specs.language.Setting.{Setting}
use Rattle.rhai_machine.specs.language.State.{Local}
use Rattle.rhai_machine.specs.language.Values.{flat, unit_value}
use Rattle.rhai_machine.specs.language.Places.{Place, InEntry, InCell, put}
use Rattle.rhai_machine.specs.language.Turns.{ForLoop, Turns, integer_value, turns_of}
use Rattle.rhai_machine.specs.language.Frames.{Frame, Core, core, on_value, OpenStmt, Enter, ForTurn, ForItem, Back, ForItems, ForBody}
use Rattle.rhai_machine.specs.language.Frames.{ImportPath}
use Rattle.rhai_machine.specs.language.Imports.{import_core, importing, name_asked}
use Rattle.rhai_machine.specs.language.Choices.{truth_literal, met_core, tested_core, choose_core}
use Rattle.rhai_machine.specs.language.Walks.{counters, has_no_room, for_core, counter_entry, loop_entries, started_core, shared_place}
use Rattle.rhai_machine.specs.language.Walks.{place_by}
use Rattle.rhai_machine.specs.language.Walks.{place_of_entry, counted_core, turn_core, for_move, entered_core, item_core}
use Rattle.rhai_machine.specs.language.Caught.{caught_value, thrown}
use Rattle.rhai_machine.specs.language.Tries.{branch_with, branch_core, tried_core}
use Rattle.rhai_machine.specs.language.Exports.{alias_or, export_at}
use Rattle.rhai_machine.specs.language.Sharing.{handle_of, with_cell, shared, shared_core, share_core}
use Rattle.rhai_machine.proofs.Places.{put_names}
use Rattle.rhai_laws.specs.Kept.{forgotten_cell, Stands, names_of}
use Rattle.rhai_laws.specs.Steady.{Moves}
use Rattle.rhai_laws.proofs.Keeping.{Asked, Grows, counter_names, loop_names, outline, Growth, more, new_cells, adds, Tight, AnyImports}
use Rattle.rhai_laws.proofs.Keeping.{as_many}
use Rattle.rhai_laws.proofs.Keeping.{MeetsAsked, Keeps, quiet, through, after, calm, newer_meets, put_keeps}
use Rattle.rhai_laws.proofs.KeptCalls.{on_keeps}

-- a `for` has a name for its variable and one for its counter
loop_length : (counter : Option Ident) (name : Name) → length (counter_names counter ++ name ∷ []) ≤ 1 + counters counter
loop_length None name = omega arith
loop_length (Some counter) name = omega arith

-- where there is room for so many names, they fit
loop_room : (most count further : ℕ) (n names : List Name) → length n ≡ count → length names ≤ 1 + further →
    nat_le most (count + further) ≡ false → length (n ++ names) ≤ most
loop_room most count further n names same few is =
    let less : count + further < most = grind (arith, nat_tests) in
    omega (arith, less, same, few, length-append n names)

-- where there is room for one more variable, one more fits
pub room : (most count : ℕ) (n : List Name) (name : Name) → length n ≡ count → nat_le most count ≡ false →
    length (n ++ name ∷ []) ≤ most
room most count n name same is =
    let less : count < most = grind (arith, nat_tests) in
    omega (arith, less, same, length-append n (name ∷ []))

module _ {H : Type 0} (a : Asked) where
  -- ---- `switch`

  pub met_keeps : (holds : Bool) (candidate : ConditionalExpr) (rest : List ConditionalExpr) (default : Option Expr) (k : List (Frame H))
      (l : Local H) → Keeps a (calm k l) (met_core holds candidate rest default k l)
  met_keeps true candidate rest default k l = quiet a tt refl (λ t. t)
  met_keeps false candidate rest default k l = quiet a tt refl (λ t. t)

  tested_keeps : (literal : Option Bool) (candidate : ConditionalExpr) (rest : List ConditionalExpr) (default : Option Expr)
      (k : List (Frame H)) (l : Local H) → Keeps a (calm k l) (tested_core literal candidate rest default k l)
  tested_keeps (Some holds) candidate rest default k l = met_keeps holds candidate rest default k l
  tested_keeps None candidate rest default k l = quiet a tt refl (λ t. t)

  pub choose_keeps : (candidates : List ConditionalExpr) (default : Option Expr) (k : List (Frame H)) (l : Local H) →
      Keeps a (calm k l) (choose_core candidates default k l)
  choose_keeps [] None k l = quiet a tt refl (λ t. t)
  choose_keeps [] (Some result) k l = quiet a tt refl (λ t. t)
  choose_keeps (candidate ∷ rest) default k l = tested_keeps (truth_literal (out-Expr candidate.condition)) candidate rest default k l

  -- ---- `for`

  entry_names : (counter : Option Ident) (entry : ScopeEntry H) →
      map name_of (counter_entry counter ++ entry ∷ []) ≡ counter_names counter ++ name_of entry ∷ []
  entry_names None entry = refl
  entry_names (Some counter) entry = refl

  started_keeps : (turns : Option (Turns H)) (loop : ForLoop) (v : Dynamic H) (k : List (Frame H)) (l : Local H) →
      Keeps a (core (Back v) (ForItems loop ∷ k) l) (started_core turns loop k l)
  started_keeps (Some turns) loop v k l = quiet a tt refl (λ t. newer_meets a (loop_entries loop) k l
      (rw (entry_names loop.counter (new_entry loop.variable.name ReadWrite unit_value)) t.1.0) (t.0, t.1.1, t.2))
  started_keeps None loop v k l = quiet a tt refl (λ t. (t.0, t.1.1, t.2))

  -- what it walks is there
  pub walked_keeps : (r : Result (Dynamic H) (EvalAltResult H)) (loop : ForLoop) (v : Dynamic H) (k : List (Frame H)) (l : Local H) →
      Keeps a (core (Back v) (ForItems loop ∷ k) l) (on_value r (λ x. started_core (turns_of (layer_of x)) loop k l) k l)
  walked_keeps (Ok x) loop v k l = started_keeps (turns_of (layer_of x)) loop v k l
  walked_keeps (Err e) loop v k l = quiet a tt refl (λ t. (t.0, t.1.1, t.2))

  -- a variable of a `for` may be written where it stands
  shared_stands : (name : Name) (at : Position) (n : ℕ) (there : Option (Dynamic H)) (place : Place) (l : Local H) →
      value_of_cell l.around.cells n ≡ there → shared_place name at n there ≡ Ok place → Stands place l
  shared_stands name at n (Some v) place l is ok =
      let same : InCell n ≡ place = cc in subst (λ p. Stands p l) same (rw is refl)
  shared_stands name at n None place l is ok = cc

  by_stands : (name : Name) (at : Position) (index : ℕ) (u : Option (Union H)) (place : Place) (l : Local H) →
      place_by l.around.cells name at index u ≡ Ok place → Stands place l
  by_stands name at index (Some (value.Cell id)) place l ok =
      shared_stands name at id.number (value_of_cell l.around.cells id.number) place l refl ok
  by_stands name at index (Some u) place l ok = let same : InEntry index ≡ place = cc in subst (λ p. Stands p l) same tt
  by_stands name at index None place l ok = let same : InEntry index ≡ place = cc in subst (λ p. Stands p l) same tt

  module _ (name : Name) (at : Position) (index : ℕ) (v : Dynamic H) (go : Local H → Core H) (k : List (Frame H))
      (h : (m : Local H) → Keeps a (calm k m) (go m)) where
    placed_keeps : (r : Result Place (EvalAltResult H)) (l : Local H) → place_of_entry name at index l ≡ r →
        Keeps a (calm k l) (on_value r (λ place. go (put place v l)) k l)
    placed_keeps (Ok place) l is = through a
        (put_keeps a place v k l (by_stands name at index (option_map (λ v. v.value) (value_in l.scope (Some index))) place l is))
        (h (put place v l))
    placed_keeps (Err e) l is = quiet a tt refl (λ t. t)

    written_keeps : (l : Local H) → Keeps a (calm k l) (on_value (place_of_entry name at index l) (λ place. go (put place v l)) k l)
    written_keeps l = placed_keeps (place_of_entry name at index l) l refl

  counted_keeps : (counter : Option Ident) (loop : ForLoop) (turn base : ℕ) (go : Local H → Core H) (k : List (Frame H)) (l : Local H) →
      ((m : Local H) → Keeps a (calm k m) (go m)) → Keeps a (calm k l) (counted_core counter loop turn base go k l)
  counted_keeps None loop turn base go k l h = h l
  counted_keeps (Some counter) loop turn base go k l h =
      written_keeps counter.name loop.variable.pos base (integer_value (pos turn)) go k h l

  turn_keeps : (overflows : Bool) (loop : ForLoop) (item : Dynamic H) (rest : Turns H) (turn base : ℕ) (k : List (Frame H)) (l : Local H) →
      Keeps a (calm k l) (turn_core overflows loop item rest turn base k l)
  turn_keeps true loop item rest turn base k l = quiet a tt refl (λ t. t)
  turn_keeps false loop item rest turn base k l =
      counted_keeps loop.counter loop turn base (λ m. core (ForItem loop item rest turn base) k m) k l (λ m. quiet a tt refl (λ t. t))

  pub for_turn_keeps : (next : Option (Dynamic H × Turns H)) (stmts : List Stmt) (loop : ForLoop) (left : Turns H) (turn base : ℕ)
      (k : List (Frame H)) (l : Local H) → Moves (Keeps a) (core (ForTurn loop left turn base) k l) (for_move next stmts loop turn base k l)
  for_turn_keeps None stmts loop left turn base k l = quiet a tt refl (λ t. t)
  for_turn_keeps (Some (item, rest)) [] loop left turn base k l = quiet a tt refl (λ t. t)
  for_turn_keeps (Some (item, rest)) (stmt ∷ stmts) loop left turn base k l =
      after a (calm k l) refl (λ t. t) (turn_keeps (nat_le (2 ^ 63) turn) loop item rest turn base k l)

  entered_keeps : (loop : ForLoop) (v : Dynamic H) (rest : Turns H) (turn base : ℕ) (k : List (Frame H)) (l : Local H) →
      Keeps a (calm k l) (entered_core loop v rest turn base k l)
  entered_keeps loop v rest turn base k l = written_keeps loop.variable.name loop.variable.pos (base + counters loop.counter) v
      (λ m. core (Enter loop.body.statements true) (ForBody loop rest turn base ∷ k) m) k (λ m. quiet a tt refl (λ t. t)) l

  pub item_keeps : (loop : ForLoop) (item : Dynamic H) (rest : Turns H) (turn base : ℕ) (k : List (Frame H)) (l : Local H) →
      Keeps a (calm k l) (item_core loop item rest turn base k l)
  item_keeps loop item rest turn base k l =
      on_keeps a (flat l.around.cells item (position_of loop.items)) _ k l (λ v. entered_keeps loop v rest turn base k l)

  -- ---- shared variables

  -- a new cell is free
  cell_added : (v : Dynamic H) (l : Local H) → outline (with_cell v l) ≡ more (new_cells 1) (outline l)
  cell_added v l =
      let same : l.around.num_modules_loaded + 0 ≡ l.around.num_modules_loaded = omega arith in
      rw (map-append forgotten_cell l.around.cells (Some v ∷ []), append-nil l.around.imports, same) refl

  names_shared : (index : ℕ) (v : Dynamic H) (k : List (Frame H)) (l : Local H) → MeetsAsked a (calm k l) →
      MeetsAsked a (calm k (put (InEntry index) v l))
  names_shared index v k l t = rw (put_names (InEntry index) v l) t

  shared_keeps : (index : ℕ) (u : Union H) (v : Dynamic H) (k : List (Frame H)) (l : Local H) →
      Keeps a (calm k l) (calm k (shared index u v l))
  shared_keeps index (value.Cell id) v k l = quiet a tt refl (λ t. t)
  shared_keeps index _ v k l = record {
    sound = tt;
    around = adds k (new_cells 1) (outline l) (outline (with_cell v l)) (cell_added v l);
    names = names_shared index (handle_of (length l.around.cells) v.mode) k (with_cell v l);
  }

  found_keeps : (ident : Ident) (index : Option ℕ) (there : Option (Dynamic H)) (rest : List SharedVariable) (k : List (Frame H))
      (l : Local H) → Keeps a (calm k l) (shared_core ident index there rest k l)
  found_keeps ident (Some index) (Some v) rest k l = through a (shared_keeps index v.value v k l) (quiet a tt refl (λ t. t))
  found_keeps ident (Some index) None rest k l = quiet a tt refl (λ t. t)
  found_keeps ident None there rest k l = quiet a tt refl (λ t. t)

  pub share_keeps : (variables : List SharedVariable) (k : List (Frame H)) (l : Local H) → Keeps a (calm k l) (share_core variables k l)
  share_keeps [] k l = quiet a tt refl (λ t. t)
  share_keeps (variable ∷ rest) k l =
      found_keeps variable.ident (index_of variable.ident.name l.scope) (found variable.ident.name l.scope) rest k l

  module _ (s : Setting H) (grows : Grows a s.limits.max_variables) where
    -- ---- the variables of a `for` and of a `catch` are pushed only where there is room for them

    pub for_keeps : (full : Bool) (loop : ForLoop) (k : List (Frame H)) (l : Local H) → has_no_room s.limits loop l ≡ full →
        Keeps a (calm k l) (for_core full loop k l)
    for_keeps true loop k l is = quiet a tt refl (λ t. t)
    for_keeps false loop k l is = quiet a tt refl (λ t. (
      t.0,
      (
        grows.fits (names_of l ++ loop_names loop)
            (loop_room s.limits.max_variables (length l.scope) (counters loop.counter) (names_of l) (loop_names loop)
            (length-map l.scope name_of) (loop_length loop.counter loop.variable.name) is),
        t.1,
      ),
      t.2,
    ))

    branch_with_keeps : (full : Bool) (variable : Ident) (v : Dynamic H) (caught : EvalAltResult H) (branch : StmtBlock) (k
        : List (Frame H))
        (l : Local H) → nat_le s.limits.max_variables (length l.scope) ≡ full →
        Keeps a (calm k l) (branch_with full variable v caught branch k l)
    branch_with_keeps true variable v caught branch k l is = quiet a tt refl (λ t. t)
    branch_with_keeps false variable v caught branch k l is = quiet a tt refl (λ t. newer_meets a
        (new_entry variable.name ReadWrite v ∷ []) k l
        (grows.fits _ (room s.limits.max_variables (length l.scope) (names_of l) variable.name (length-map l.scope name_of) is)) t)

    branch_keeps : (variable : Option Ident) (caught : EvalAltResult H) (branch : StmtBlock) (k : List (Frame H)) (l : Local H) →
        Keeps a (calm k l) (branch_core s variable caught branch k l)
    branch_keeps None caught branch k l = quiet a tt refl (λ t. t)
    branch_keeps (Some variable) caught branch k l = branch_with_keeps (nat_le s.limits.max_variables (length l.scope)) variable
        (caught_value (thrown caught) l.around.source caught) caught branch k l refl

    pub tried_keeps : (catches : Bool) (variable : Option Ident) (e : EvalAltResult H) (branch : StmtBlock) (k : List (Frame H))
        (l : Local H) → Keeps a (calm k l) (tried_core s catches variable e branch k l)
    tried_keeps true variable e branch k l = branch_keeps variable e branch k l
    tried_keeps false variable e branch k l = quiet a tt refl (λ t. t)

  -- ---- exported variables

  aliased_by : (entries : List (ScopeEntry H)) (at : ℕ) (there : Option (ScopeEntry H)) (alias : List ℕ) → slice_get entries at ≡ there →
      map name_of (aliased entries at there alias) ≡ map name_of entries
  aliased_by entries at None alias is = refl
  aliased_by entries at (Some entry) alias is =
      map-set_same name_of entries at (record entry { aliases = with_alias alias entry.aliases }) entry
      (sym (ap name_of (get_or_from_slice_get entries at entry entry is)))

  -- an alias is no name
  pub export_keeps : (place : Option ℕ) (ident : Ident) (alias : Option Ident) (k : List (Frame H)) (l : Local H) →
      Keeps a (calm k l) (export_at place ident alias k l)
  export_keeps (Some at) ident alias k l =
      quiet a tt refl (λ t. rw (aliased_by l.scope at (slice_get l.scope at) (alias_or ident.name alias) refl) t)
  export_keeps None ident alias k l = quiet a tt refl (λ t. t)

  -- ---- imported modules

  -- one module is loaded, and one import is added
  abbrev one_of : List ℕ → Module H → Local H → Growth H
  one_of name m l =
      record { cells = 0; imports = import_as name m ∷ []; loaded = min 1 (2 ^ 64 - 1 - l.around.num_modules_loaded) }

  one_import : (name : List ℕ) (m : Module H) (l : Local H) → outline (importing name m l) ≡ more (one_of name m l) (outline l)
  one_import name m l = rw (append-nil (map forgotten_cell l.around.cells)) refl

  -- and there is one more
  more_by_one : (i : Import H) (imports : List (Import H)) → length imports ≤ length (imports ++ i ∷ [])
  more_by_one i imports = omega (arith, length-append imports (i ∷ []))

  -- a path that did not come imports none
  pub not_imported : (k : List (Frame H)) (l : Local H) →
      a.along (names_of l) × Tight a k (names_of l) × AnyImports a k (length l.around.imports) → MeetsAsked a (calm k l)
  not_imported k l t = (t.0, t.1, as_many a k (length l.around.imports) t.2)

  pub imported_keeps : (r : Result (Module H) (EvalAltResult H)) (alias : Option Ident) (path_at starts_at : Position) (v : Dynamic H)
      (k : List (Frame H)) (l : Local H) →
      Keeps a (core (Back v) (ImportPath alias path_at starts_at ∷ k) l)
      (on_value r (λ m. core (Back unit_value) k (importing (name_asked alias) m l)) k l)
  imported_keeps (Ok m) alias path_at starts_at v k l = record {
    sound = tt;
    around = adds k (one_of (name_asked alias) m l) (outline l) (outline (importing (name_asked alias) m l))
        (one_import (name_asked alias) m l);
    names = λ t. (
      t.0,
      t.1,
      t.2 (length (importing (name_asked alias) m l).around.imports) (more_by_one (import_as (name_asked alias) m) l.around.imports),
    );
  }
  imported_keeps (Err e) alias path_at starts_at v k l = quiet a tt refl (not_imported k l)

  -- where as many are loaded as may be, none is added
  pub import_keeps : (full : Bool) (path : Expr) (alias : Option Ident) (at : Position) (restoring : Bool) (k : List (Frame H))
      (l : Local H) → Keeps a (core (OpenStmt (layer.Import path alias at) restoring) k l) (import_core full path alias at k l)
  import_keeps true path alias at restoring k l = quiet a tt refl (not_imported k l)
  import_keeps false path alias at restoring k l = quiet a tt refl (λ t. t)
