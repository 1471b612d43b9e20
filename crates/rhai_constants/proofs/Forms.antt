-- What the rules of `switch`, `for`, `try`, `export`, `import` and of shared variables keep: the variables of a `for` are newer than the
-- constant, and an import is no variable.
use Rattle.std.proofs.Common.{refl, ◌∙◌, arith, slice_get, subst}
use Rattle.std.proofs.lemmas.Bool.Decides.{nat_tests}
use Rattle.std.specs.Option.{option_map}
use Rattle.std.specs.Prelude.{◌≡◌, ◌+◌, ◌^◌, ℕ, pos, nat_le, length, Bool, true, false, List, [], ◌∷◌, Option, Some, None}
use Rattle.std.specs.Prelude.{Result, Ok, Err}
use Rattle.rhai_tree.specs.Names.{Name}
use Rattle.rhai_tree.specs.declared.position.Position.{Position}
use Rattle.rhai_tree.specs.declared.expr.ConditionalExpr.{ConditionalExpr}
use Rattle.rhai_tree.specs.declared.expr.Expr.{Expr, out-Expr}
use Rattle.rhai_tree.specs.declared.expr.Ident.{Ident}
use Rattle.rhai_tree.specs.declared.expr.SharedVariable.{SharedVariable}
use Rattle.rhai_tree.specs.declared.expr.Stmt.{Stmt}
use Rattle.rhai_tree.specs.declared.expr.StmtBlock.{StmtBlock}
use Rattle.rhai_tree.specs.Positions.{position_of}
use Rattle.rhai_values.specs.declared.base.value.AccessMode.TheVariants.{ReadWrite}
use Rattle.rhai_values.specs.declared.base.value.Dynamic.{Dynamic}
use Rattle.rhai_values.specs.declared.base.value.Union.{Union}
use Rattle.rhai_values.specs.declared.base.value.Union.TheVariants as value
use Rattle.rhai_values.specs.Cells.{value_of_cell}
use Rattle.rhai_values.specs.Layers.{layer_of}
use Rattle.rhai_errors.specs.declared.error.EvalAltResult.{EvalAltResult}
use Rattle.rhai_state.specs.declared.scope.ScopeEntry.{ScopeEntry}
use Rattle.rhai_state.specs.Scope.{aliased, found, index_of, new_entry, value_in, with_alias}
use Rattle.rhai_machine.specs.Types.{Module}
use Rattle.rhai_machine.specs.language.Setting.{Setting}
use Rattle.rhai_machine.specs.language.State.{Local}
use Rattle.rhai_machine.specs.language.Values.{flat, unit_value}
use Rattle.rhai_machine.specs.language.Places.{Place, InEntry, InCell, put}
use Rattle.rhai_machine.specs.language.Turns.{ForLoop, Turns, integer_value, turns_of}
use Rattle.rhai_machine.specs.language.Frames.{Frame, Core, core, on_value, Enter, ForTurn, ForItem, Back, ForBody}
use Rattle.rhai_machine.specs.language.Choices.{truth_literal, met_core, tested_core, choose_core}
use Rattle.rhai_machine.specs.language.Walks.{counters, for_core, loop_entries, started_core, shared_place, place_by}
use Rattle.rhai_machine.specs.language.Walks.{place_of_entry, counted_core, turn_core, for_move, entered_core, item_core}
use Rattle.rhai_machine.specs.language.Caught.{caught_value, thrown}
use Rattle.rhai_machine.specs.language.Tries.{branch_with, branch_core, tried_core}
use Rattle.rhai_machine.specs.language.Exports.{alias_or, export_at}
use Rattle.rhai_machine.specs.language.Imports.{import_core, importing}
use Rattle.rhai_machine.specs.language.Sharing.{handle_of, with_cell, shared, shared_core, share_core}
use Rattle.std.proofs.Common.{zero, suc}
use Rattle.std.specs.Prelude.{nat_eq, not, ◌&&◌, slice_set}
use Rattle.rhai_machine.specs.language.Values.{Cells, is_handle}
use Rattle.rhai_machine.specs.language.Frames.{Share}
use Rattle.rhai_constants.specs.Constants.{is_bottom, shares, replaces_at}
use Rattle.rhai_constants.proofs.Keeping.{Told, calm, Longer, Writable, Keeps, through, after, Moves}
use Rattle.rhai_constants.proofs.Settling.{same, given, longer, newer_below, put_keeps}
use Rattle.rhai_constants.proofs.Calls.{on_keeps}

module _ {H : Type 0} (a : Told H) where
  -- ---- `switch`

  pub met_keeps : (holds : Bool) (candidate : ConditionalExpr) (rest : List ConditionalExpr) (default : Option Expr) (k : List (Frame H))
      (l : Local H) → Keeps a (calm k l) (met_core holds candidate rest default k l)
  met_keeps true candidate rest default k l = same a tt (λ h. h.1)
  met_keeps false candidate rest default k l = same a tt (λ h. h.1)

  tested_keeps : (literal : Option Bool) (candidate : ConditionalExpr) (rest : List ConditionalExpr) (default : Option Expr)
      (k : List (Frame H)) (l : Local H) → Keeps a (calm k l) (tested_core literal candidate rest default k l)
  tested_keeps (Some holds) candidate rest default k l = met_keeps holds candidate rest default k l
  tested_keeps None candidate rest default k l = same a tt (λ h. h.1)

  pub choose_keeps : (candidates : List ConditionalExpr) (default : Option Expr) (k : List (Frame H)) (l : Local H) →
      Keeps a (calm k l) (choose_core candidates default k l)
  choose_keeps [] None k l = same a tt (λ h. h.1)
  choose_keeps [] (Some result) k l = same a tt (λ h. h.1)
  choose_keeps (candidate ∷ rest) default k l = tested_keeps (truth_literal (out-Expr candidate.condition)) candidate rest default k l

  -- ---- `for`

  started_keeps : (turns : Option (Turns H)) (loop : ForLoop) (k : List (Frame H)) (l : Local H) →
      Keeps a (calm k l) (started_core turns loop k l)
  started_keeps (Some turns) loop k l = given a (λ h. longer a k l h.1.1) (λ h. newer_below a (loop_entries loop) k l h.1)
  started_keeps None loop k l = same a tt (λ h. h.1)

  -- what it walks is there
  pub walked_keeps : (r : Result (Dynamic H) (EvalAltResult H)) (loop : ForLoop) (k : List (Frame H)) (l : Local H) →
      Keeps a (calm k l) (on_value r (λ x. started_core (turns_of (layer_of x)) loop k l) k l)
  walked_keeps (Ok x) loop k l = started_keeps (turns_of (layer_of x)) loop k l
  walked_keeps (Err e) loop k l = same a tt (λ h. h.1)

  -- a variable that is newer may be written
  shared_writable : (name : Name) (at : Position) (n : ℕ) (there : Option (Dynamic H)) (place : Place) (k : List (Frame H)) →
      shared_place name at n there ≡ Ok place → Writable a.of place k
  shared_writable name at n (Some v) place k ok =
      let same_place : InCell n ≡ place = cc in subst (λ (p : Place). Writable a.of p k) same_place tt
  shared_writable name at n None place k ok = cc

  newer_writable : (index : ℕ) (place : Place) (k : List (Frame H)) → Longer a.of k index →
      ◌≡◌ {A = Result Place (EvalAltResult H)} (Ok (InEntry index)) (Ok place) → Writable a.of place k
  newer_writable index place k longer ok =
      let same_place : InEntry index ≡ place = cc in
      subst (λ (p : Place). Writable a.of p k) same_place (λ b e. omega (arith, longer b, e))

  by_writable : (name : Name) (at : Position) (index : ℕ) (cells : Cells H) (u : Option (Union H)) (place : Place) (k : List (Frame H)) →
      Longer a.of k index → place_by cells name at index u ≡ Ok place → Writable a.of place k
  by_writable name at index cells (Some (value.Cell id)) place k longer ok =
      shared_writable name at id.number (value_of_cell cells id.number) place k ok
  by_writable name at index cells (Some u) place k longer ok = newer_writable index place k longer ok
  by_writable name at index cells None place k longer ok = newer_writable index place k longer ok

  module _ (name : Name) (at : Position) (index : ℕ) (v : Dynamic H) (go : Local H → Core H) (k : List (Frame H))
      (longer : Longer a.of k index) (h : (m : Local H) → Keeps a (calm k m) (go m)) where
    placed_keeps : (r : Result Place (EvalAltResult H)) (l : Local H) → place_of_entry name at index l ≡ r →
        Keeps a (calm k l) (on_value r (λ place. go (put place v l)) k l)
    placed_keeps (Ok place) l is = through a
        (put_keeps a place v k l (by_writable name at index l.around.cells (option_map (λ v. v.value)
        (value_in l.scope (Some index))) place k
        longer is))
        (h (put place v l))
    placed_keeps (Err e) l is = same a tt (λ h. h.1)

    written_keeps : (l : Local H) → Keeps a (calm k l) (on_value (place_of_entry name at index l) (λ place. go (put place v l)) k l)
    written_keeps l = placed_keeps (place_of_entry name at index l) l refl

  counted_keeps : (counter : Option Ident) (loop : ForLoop) (turn base : ℕ) (go : Local H → Core H) (k : List (Frame H)) (l : Local H) →
      Longer a.of k base → ((m : Local H) → Keeps a (calm k m) (go m)) → Keeps a (calm k l) (counted_core counter loop turn base go k l)
  counted_keeps None loop turn base go k l longer h = h l
  counted_keeps (Some counter) loop turn base go k l longer h =
      written_keeps counter.name loop.variable.pos base (integer_value (pos turn)) go k longer h l

  turn_keeps : (overflows : Bool) (loop : ForLoop) (item : Dynamic H) (rest : Turns H) (turn base : ℕ) (k : List (Frame H)) (l : Local H) →
      Longer a.of k base → Keeps a (calm k l) (turn_core overflows loop item rest turn base k l)
  turn_keeps true loop item rest turn base k l longer = same a tt (λ h. h.1)
  turn_keeps false loop item rest turn base k l longer =
      counted_keeps loop.counter loop turn base (λ m. core (ForItem loop item rest turn base) k m) k l longer
      (λ m. same a longer (λ h. h.1))

  pub for_turn_keeps : (next : Option (Dynamic H × Turns H)) (stmts : List Stmt) (loop : ForLoop) (left : Turns H) (turn base : ℕ)
      (k : List (Frame H)) (l : Local H) → Longer a.of k base →
      Moves a (core (ForTurn loop left turn base) k l) (for_move next stmts loop turn base k l)
  for_turn_keeps None stmts loop left turn base k l longer = same a tt (λ h. h.1)
  for_turn_keeps (Some (item, rest)) [] loop left turn base k l longer = same a longer (λ h. h.1)
  for_turn_keeps (Some (item, rest)) (stmt ∷ stmts) loop left turn base k l longer =
      after a (calm k l) (λ t. (tt, t.1)) (turn_keeps (nat_le (2 ^ 63) turn) loop item rest turn base k l longer)

  entered_keeps : (loop : ForLoop) (v : Dynamic H) (rest : Turns H) (turn base : ℕ) (k : List (Frame H)) (l : Local H) →
      Longer a.of k base → Keeps a (calm k l) (entered_core loop v rest turn base k l)
  entered_keeps loop v rest turn base k l longer =
      written_keeps loop.variable.name loop.variable.pos (base + counters loop.counter) v
      (λ m. core (Enter loop.body.statements true) (ForBody loop rest turn base ∷ k) m) k (λ b. omega (arith, longer b))
      (λ m. same a tt (λ h. ((longer, h.1.0), h.1.1))) l

  pub item_keeps : (loop : ForLoop) (item : Dynamic H) (rest : Turns H) (turn base : ℕ) (k : List (Frame H)) (l : Local H) →
      Longer a.of k base → Keeps a (calm k l) (item_core loop item rest turn base k l)
  item_keeps loop item rest turn base k l longer =
      on_keeps a (flat l.around.cells item (position_of loop.items)) _ k l (λ v. entered_keeps loop v rest turn base k l longer)

  -- ---- shared variables

  -- another entry is shared than the constant's
  not_there : (index at : ℕ) (bottom rest : Bool) → bottom && (nat_eq index at && rest) ≡ false → rest ≡ true →
      bottom ≡ true → index ≡ at → ⊥
  not_there index at true true is r b e = grind (arith, nat_tests, is, e)
  not_there index at true false is r b e = cc
  not_there index at false rest is r b e = cc

  shared_settled : (index : ℕ) (v w : Dynamic H) (k : List (Frame H)) (l : Local H) → (is_bottom k ≡ true → a.of.index ≡ index → ⊥) →
      Keeps a (calm k l) (calm k (put (InEntry index) w (with_cell v l)))
  shared_settled index v w k l ne = through a (same a tt (λ h. h.1)) (put_keeps a (InEntry index) w k (with_cell v l) ne)

  shared_keeps : (index : ℕ) (u : Union H) (v : Dynamic H) (k : List (Frame H)) (l : Local H) →
      is_bottom k && (nat_eq a.of.index index && not (is_handle u)) ≡ false → Keeps a (calm k l) (calm k (shared index u v l))
  shared_keeps index (value.Cell id) v k l is = same a tt (λ h. h.1)
  shared_keeps index _ v k l is = shared_settled index v (handle_of (length l.around.cells) v.mode) k l
      (not_there a.of.index index (is_bottom k) true is refl)

  found_keeps : (ident : Ident) (index : Option ℕ) (there : Option (Dynamic H)) (rest : List SharedVariable) (k : List (Frame H))
      (l : Local H) → is_bottom k && shares a.of.index index there ≡ false → Keeps a (calm k l) (shared_core ident index there rest k l)
  found_keeps ident (Some index) (Some v) rest k l is =
      through a (shared_keeps index v.value v k l is) (same a tt (λ h. h.1))
  found_keeps ident (Some index) None rest k l is = same a tt (λ h. h.1)
  found_keeps ident None there rest k l is = same a tt (λ h. h.1)

  pub share_keeps : (variables : List SharedVariable) (k : List (Frame H)) (l : Local H) →
      replaces_at a.of.index (Share variables) k l ≡ false →
      Keeps a (calm k l) (share_core variables k l)
  share_keeps [] k l is = same a tt (λ h. h.1)
  share_keeps (variable ∷ rest) k l is =
      found_keeps variable.ident (index_of variable.ident.name l.scope) (found variable.ident.name l.scope) rest k l is

  -- ---- exported variables

  alias_get : (entries : List (ScopeEntry H)) (at i : ℕ) (entry : ScopeEntry H) (alias : List ℕ) → slice_get entries at ≡ Some entry →
      value_in (slice_set entries at (record entry { aliases = with_alias alias entry.aliases })) (Some i) ≡ value_in entries (Some i)
  alias_get [] at i entry alias is = refl
  alias_get (e ∷ entries) zero zero entry alias is = let same_entry : e ≡ entry = cc in rw same_entry refl
  alias_get (e ∷ entries) zero (suc i) entry alias is = refl
  alias_get (e ∷ entries) (suc at) zero entry alias is = refl
  alias_get (e ∷ entries) (suc at) (suc i) entry alias is = alias_get entries at i entry alias is

  aliased_by : (entries : List (ScopeEntry H)) (at i : ℕ) (there : Option (ScopeEntry H)) (alias : List ℕ) → slice_get entries at ≡ there →
      value_in (aliased entries at there alias) (Some i) ≡ value_in entries (Some i)
  aliased_by entries at i None alias is = refl
  aliased_by entries at i (Some entry) alias is = alias_get entries at i entry alias is

  -- an alias is no value
  pub export_keeps : (place : Option ℕ) (ident : Ident) (alias : Option Ident) (k : List (Frame H)) (l : Local H) →
      Keeps a (calm k l) (export_at place ident alias k l)
  export_keeps (Some at) ident alias k l = same a tt (λ h. (
    h.1.0,
    (
      λ b.
          aliased_by l.scope at a.of.index (slice_get l.scope at) (alias_or ident.name alias) refl ∙ h.1.1.0 b,
      h.1.1.1,
    ),
  ))
  export_keeps None ident alias k l = same a tt (λ h. h.1)

  -- ---- imported modules

  -- an import stands beside the variables
  pub imported_keeps : (r : Result (Module H) (EvalAltResult H)) (name : List ℕ) (k : List (Frame H)) (l : Local H) →
      Keeps a (calm k l) (on_value r (λ m. core (Back unit_value) k (importing name m l)) k l)
  imported_keeps r name k l = on_keeps a r _ k l (λ m. same a tt (λ h. h.1))

  pub import_keeps : (full : Bool) (path : Expr) (alias : Option Ident) (at : Position) (k : List (Frame H)) (l : Local H) →
      Keeps a (calm k l) (import_core full path alias at k l)
  import_keeps true path alias at k l = same a tt (λ h. h.1)
  import_keeps false path alias at k l = same a tt (λ h. h.1)

  module _ (s : Setting H) where
    -- ---- the variables of a `for` and of a `catch`

    pub for_keeps : (full : Bool) (loop : ForLoop) (k : List (Frame H)) (l : Local H) → Keeps a (calm k l) (for_core full loop k l)
    for_keeps true loop k l = same a tt (λ h. h.1)
    for_keeps false loop k l = same a tt (λ h. h.1)

    branch_with_keeps : (full : Bool) (variable : Ident) (v : Dynamic H) (caught : EvalAltResult H) (branch : StmtBlock) (k
        : List (Frame H))
        (l : Local H) → Keeps a (calm k l) (branch_with full variable v caught branch k l)
    branch_with_keeps true variable v caught branch k l = same a tt (λ h. h.1)
    branch_with_keeps false variable v caught branch k l =
        same a tt (λ h. newer_below a (new_entry variable.name ReadWrite v ∷ []) k l h.1)

    branch_keeps : (variable : Option Ident) (caught : EvalAltResult H) (branch : StmtBlock) (k : List (Frame H)) (l : Local H) →
        Keeps a (calm k l) (branch_core s variable caught branch k l)
    branch_keeps None caught branch k l = same a tt (λ h. h.1)
    branch_keeps (Some variable) caught branch k l = branch_with_keeps (nat_le s.limits.max_variables (length l.scope)) variable
        (caught_value (thrown caught) l.around.source caught) caught branch k l

    pub tried_keeps : (catches : Bool) (variable : Option Ident) (e : EvalAltResult H) (branch : StmtBlock) (k : List (Frame H))
        (l : Local H) → Keeps a (calm k l) (tried_core s catches variable e branch k l)
    tried_keeps true variable e branch k l = branch_keeps variable e branch k l
    tried_keeps false variable e branch k l = same a tt (λ h. h.1)
