-- A restoring list of one assignment, which is done where it is entered.
use Rattle.std.proofs.Common.{◌≡◌, ◌≤◌, ◌<◌, ◌+◌, ◌-◌, ◌∷◌, ◌∙◌, ℕ, [], true, IsTrue, List, get_or, length, map, take, Ok, refl, sym, ap}
use Rattle.std.proofs.Common.{arith}
use Rattle.std.proofs.Math.Seq.{take-length}
use Rattle.std.proofs.lemmas.Bool.{lt-ltb}
use Rattle.std.proofs.lemmas.List.{length-map}
use Rattle.rhai_tree.specs.declared.expr.Expr.{Expr}
use Rattle.rhai_tree.specs.declared.expr.Expr.TheOpen as layer
use Rattle.rhai_tree.specs.declared.expr.OpAssignment.{OpAssignment}
use Rattle.rhai_tree.specs.declared.expr.Stmt.{Stmt, out-Stmt}
use Rattle.rhai_tree.specs.Frame.{all_resolve, resolves_expr, resolves_stmt, target_resolves, tests_of}
use Rattle.rhai_tree.specs.Layers.{StmtLayer}
use Rattle.rhai_tree.proofs.Walk.{resolves-stmt}
use Rattle.rhai_state.specs.declared.scope.Scope.{Scope}
use Rattle.rhai_state.specs.declared.scope.ScopeEntry.{ScopeEntry}
use Rattle.rhai_lookups.specs.declared.run.RunState.{RunState}
use Rattle.rhai_state.specs.Scope.{entries_of, name_of, names_in}
use Rattle.rhai_machine.specs.machine.Point.{after}
use Rattle.rhai_machine.specs.machine.Memory.{here, next, ◌⨾◌, Leads}
use Rattle.rhai_machine.specs.language.Frames.{Back, Enter, Frame, OpenStmt, RestOfList, RestoreList, Saved}
use Rattle.rhai_machine.specs.language.Runs.{at, Runs, Goes}
use Rattle.rhai_machine.specs.language.Setting.{Rules, limit_under, cut}
use Rattle.rhai_machine.specs.language.State.{Held, State}
use Rattle.rhai_machine.specs.language.Statements.{deeper, restored_by, saved_by}
use Rattle.rhai_machine.specs.language.Values.{unit_value}
use Rattle.rhai_machine.specs.language.Language.{machine}
use Rattle.rhai_steps.specs.States.{local_of, state_of}
use Rattle.rhai_operands.proofs.Names.{both}
use Rattle.rhai_fast_assign.specs.InPlace.{charged_at}
use Rattle.rhai_tree.specs.Names.{Frame as NamesFrame}

-- both sides of an assignment that resolves do
pub sides_resolve : (stmt : Stmt) (op : OpAssignment) (lhs rhs : Expr) (frame : NamesFrame) →
    out-Stmt stmt ≡ layer.Assignment op lhs rhs → IsTrue (resolves_stmt stmt frame).0 →
    IsTrue (target_resolves (tests_of lhs) frame) × IsTrue (resolves_expr rhs frame)
sides_resolve stmt op lhs rhs frame is h = both (target_resolves (tests_of lhs) frame) (resolves_expr rhs frame)
    (rw (resolves-stmt stmt (layer.Assignment op lhs rhs) is) at h)

-- those of a list's only statement do
pub only_resolves : (stmts : List Stmt) (stmt : Stmt) (op : OpAssignment) (lhs rhs : Expr) (frame : NamesFrame) → stmts ≡ stmt ∷ [] →
    out-Stmt stmt ≡ layer.Assignment op lhs rhs → IsTrue (all_resolve (map resolves_stmt stmts) frame).0 →
    IsTrue (target_resolves (tests_of lhs) frame) × IsTrue (resolves_expr rhs frame)
only_resolves stmts stmt op lhs rhs frame one is h =
    sides_resolve stmt op lhs rhs frame is (both (resolves_stmt stmt frame).0 true (rw one at h)).0

-- a list of one item
pub one_item : {A : Type 0} (xs : List A) (x : A) → x ≡ get_or xs 0 x → 1 ≤ length xs → length xs < 2 → xs ≡ x ∷ []
one_item [] x is some few = absurd (omega (arith, some))
one_item (y ∷ []) x is some few = ap (λ z. z ∷ []) (sym is)
one_item (y ∷ z ∷ xs) x is some few = absurd (omega (arith, few))

-- entries of the same names are as many
as_many : {H : Type 0} (before after : List (ScopeEntry H)) → map name_of after ≡ map name_of before → length after ≡ length before
as_many before after names = sym (length-map after name_of) ∙ ap length names ∙ length-map before name_of

all_taken : {A : Type 0} (xs : List A) (n : ℕ) → length xs ≡ n → take n xs ≡ xs
all_taken xs n is = ap (λ (m : ℕ). take m xs) (sym is) ∙ take-length xs

module _ {S H : Type 0} (rules : Rules S H) where
  leaves : (saved : Saved) (k : List (Frame H)) (old new : State S H) → new ≡ record old { local = restored_by saved old.local } →
      Leads (machine rules) (cut rules) (at (Back unit_value) (RestOfList [] true ∷ RestoreList saved ∷ k) old) (at (Back unit_value) k new)
  unfolding after
  leaves saved k old new is = next (next (next (rw is here)))

module _ {S H : Type 0} (rules : Rules S H) (t : S) (old new : RunState H) (before later : Scope H) (held : Held H) (stmt : Stmt)
    (form : StmtLayer) (is : out-Stmt stmt ≡ form) (room : old.num_operations < limit_under rules)
    (charged : new ≡ record old { num_operations = old.num_operations + 3 }) (names : names_in later ≡ names_in before) where
  -- its statement is charged and opened, one level deeper
  opens : (k : List (Frame H)) → Leads (machine rules) (cut rules) (at (Enter (stmt ∷ []) true) k (state_of t old before held))
      (at (OpenStmt form true) (RestOfList [] true ∷ RestoreList (saved_by (local_of old before held)) ∷ k)
      (state_of t (charged_at (3 - 2) (deeper old.scope_level) old) before held))
  unfolding after
  opens k = next (next (next (rw (lt-ltb _ _ room, is) here)))

  -- and what it leaves is taken back, which is the level alone
  left : state_of t new later held ≡ record (state_of t (record new { scope_level = deeper old.scope_level }) later held) {
    local = restored_by (saved_by (local_of old before held)) (local_of (record new
        { scope_level = deeper old.scope_level }) later held);
  }
  left = rw (
    charged,
    all_taken (entries_of later) (length (entries_of before)) (as_many (entries_of before) (entries_of later) names),
    take-length old.lists.1,
  ) refl

  pub alone : Runs rules (OpenStmt form true) (state_of t (charged_at (3 - 2) (deeper old.scope_level) old) before held) (Ok unit_value)
      (state_of t (record new { scope_level = deeper old.scope_level }) later held) →
      Runs rules (Enter (stmt ∷ []) true) (state_of t old before held) (Ok unit_value) (state_of t new later held)
  unfolding Goes
  alone runs k = opens k ⨾ runs (RestOfList [] true ∷ RestoreList _ ∷ k) ⨾ leaves rules _ k _ _ left
