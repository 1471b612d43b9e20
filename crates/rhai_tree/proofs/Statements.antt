-- What a `switch`, a `for`, a `try` and a `Share` that may run say of their parts.
use Rattle.std.proofs.Common.{◌≡◌, ◌<◌, ℕ, zero, suc, refl, subst, arith, Bool, true, false, ◌&&◌, IsTrue, List, [], ◌∷◌}
use Rattle.std.proofs.Common.{length, map, get_or, ltb-true}
use Rattle.std.proofs.lemmas.List.{length-map}
use Rattle.std.specs.Prelude.{Option, Some, None, IsSomeAnd, if◌then◌else◌}
use Rattle.rhai_tree.specs.declared.expr.ConditionalExpr.{ConditionalExpr, out-ConditionalExpr}
use Rattle.rhai_tree.specs.declared.expr.Expr.{Expr}
use Rattle.rhai_tree.specs.declared.expr.Expr.TheOpen as layer
use Rattle.rhai_tree.specs.declared.expr.Expr.TheFolds.{fold_out-ConditionalExpr}
use Rattle.rhai_tree.specs.declared.expr.Ident.{Ident}
use Rattle.rhai_tree.specs.declared.expr.RangeCase.{RangeCase}
use Rattle.rhai_tree.specs.declared.expr.SharedVariable.{SharedVariable}
use Rattle.rhai_tree.specs.declared.expr.Stmt.{Stmt, out-Stmt}
use Rattle.rhai_tree.specs.declared.expr.StmtBlock.{StmtBlock}
use Rattle.rhai_tree.specs.declared.expr.SwitchCase.{SwitchCase}
use Rattle.rhai_tree.specs.declared.position.Position.{Position}
use Rattle.rhai_tree.specs.Layers.{StmtLayer}
use Rattle.rhai_tree.specs.Cases.{all_below, are_blocks, are_cases, block_of, are_ranges, is_default, is_switch}
use Rattle.rhai_tree.specs.Forms.{catch_of}
use Rattle.rhai_tree.specs.Frame.{resolves_expr, resolves_stmt, resolves_block, resolves_conditional, conditionals_resolve}
use Rattle.rhai_tree.specs.Frame.{with_name, turn_names, turns_resolve, shared_resolve}
use Rattle.rhai_tree.specs.Names.{Frame, Name, is_good, naming}
use Rattle.rhai_tree.specs.Reading as walk
use Rattle.rhai_tree.specs.Reading.{sound}
use Rattle.rhai_tree.proofs.Catch.{catch_seen}
use Rattle.rhai_tree.proofs.Walk.{stmt_tests, resolves-stmt}

both : (a b : Bool) → IsTrue (a && b) → IsTrue a × IsTrue b
both true b h = (refl, h)
both false b h = absurd cc

-- a condition that is tested holds
tested : (b : Bool) → IsTrue (if b then true else false) → IsTrue b
tested true h = refl
tested false h = absurd cc

-- ---- the statements

module _ (s : Stmt) (frame : Frame) (h : IsTrue (resolves_stmt s frame).0) where
  at_level : (l : StmtLayer) → out-Stmt s ≡ l → IsTrue (walk.stmt_step sound (stmt_tests l) frame).0
  at_level l is = subst (λ (f : walk.SeenStmt sound). IsTrue (f frame).0) (resolves-stmt s l is) h

  -- the cases of a `switch` are good, and its value and its conditions and results may run
  pub switch_resolves : (expr : Expr) (parts : List ConditionalExpr) (cases : List SwitchCase) (ranges : List RangeCase)
      (default : Option ℕ) (pos : Position) → out-Stmt s ≡ layer.Switch expr parts cases ranges default pos →
      IsTrue (is_switch (length parts) cases ranges default)
      × (IsTrue (resolves_expr expr frame) × IsTrue (conditionals_resolve (map resolves_conditional parts) frame))
  switch_resolves expr parts cases ranges default pos is =
      let seen = both _ _ (at_level (layer.Switch expr parts cases ranges default pos) is) in
      let count = length-map parts resolves_conditional in
      (subst (λ (n : ℕ). IsTrue (is_switch n cases ranges default)) count (tested _ seen.0), both _ _ seen.1)

  -- the value of a `for` may run, and its body with its frame
  pub for_resolves : (variable : Ident) (counter : Option Ident) (expr : Expr) (body : StmtBlock) (pos : Position) →
      out-Stmt s ≡ layer.For variable counter expr body pos →
      IsTrue (resolves_expr expr frame) × IsTrue (resolves_block body (naming (turn_names variable counter) frame))
  for_resolves variable counter expr body pos is =
      let seen = both _ _ (at_level (layer.For variable counter expr body pos) is) in (seen.0, turns counter seen.1)
    where
      turns : (counter : Option Ident) → IsTrue (turns_resolve variable counter body frame) →
          IsTrue (resolves_block body (naming (turn_names variable counter) frame))
      turns None runs = runs
      turns (Some ident) runs = runs

  -- the body of a `try` may run, its catch variable is one, and its branch may run with its name
  pub try_resolves : (body : StmtBlock) (variable : Expr) (branch : StmtBlock) (pos : Position) →
      out-Stmt s ≡ layer.TryCatch body variable branch pos → IsTrue (resolves_block body frame)
      × IsSomeAnd (catch_of variable) (λ name. IsTrue (resolves_block branch (naming (with_name name) frame)))
  try_resolves body variable branch pos is =
      let seen = both _ _ (at_level (layer.TryCatch body variable branch pos) is) in
      let at = both _ _ seen.1 in (
        seen.0,
        subst (λ (catch : Option (Option Name)). IsSomeAnd catch (λ name. IsTrue (resolves_block branch (naming (with_name name) frame))))
            (catch_seen sound variable) (caught _ _ branch at.0 at.1),
      )
    where
      caught : (catch : Option (Option Name)) (pos : Position) (branch : StmtBlock) →
          IsTrue (walk.found_in_catch_variable sound catch pos) →
          IsTrue (resolves_block branch (walk.after_catch sound catch frame)) →
          IsSomeAnd catch (λ name. IsTrue (resolves_block branch (naming (with_name name) frame)))
      caught (Some (Some name)) pos branch good runs = runs
      caught (Some None) pos branch good runs = runs
      caught None pos branch good runs = absurd cc

  -- the offsets of a `Share` are good
  pub share_resolves : (variables : List SharedVariable) → out-Stmt s ≡ layer.Share variables → IsTrue (shared_resolve variables frame)
  share_resolves variables is = at_level (layer.Share variables) is

-- ---- their lists

-- a condition of a `switch` and its result
pub conditional_at : (parts : List ConditionalExpr) (i : ℕ) (d : ConditionalExpr) (frame : Frame) → i < length parts →
    IsTrue (conditionals_resolve (map resolves_conditional parts) frame) →
    IsTrue (resolves_expr (out-ConditionalExpr (get_or parts i d)).condition frame)
    × IsTrue (resolves_expr (out-ConditionalExpr (get_or parts i d)).expr frame)
conditional_at [] i d frame lt h = absurd (omega arith)
conditional_at (part ∷ parts) zero d frame lt h = both _ _ (subst (λ (f : walk.SeenConditional sound). IsTrue (f frame))
    (fold_out-ConditionalExpr (walk.Seen sound) (walk.SeenStmt sound) (walk.SeenConditional sound) (walk.SeenCall sound)
    (walk.SeenEntry sound) (walk.Seen sound) (walk.expr_step sound) (walk.stmt_step sound) (walk.conditional_step sound)
    (walk.call_step sound) (walk.entry_step sound) (walk.block_step sound) part)
    (both (resolves_conditional part frame) _ h).0)
conditional_at (part ∷ parts) (suc i) d frame lt h =
    conditional_at parts i d frame (omega arith) (both (resolves_conditional part frame) _ h).1

-- a number that is tested is that of a result
below_at : (count : ℕ) (numbers : List ℕ) (i d : ℕ) → i < length numbers → IsTrue (all_below count numbers) → get_or numbers i d < count
below_at count [] i d lt h = absurd (omega arith)
below_at count (number ∷ numbers) zero d lt h = ltb-true _ _ (both _ (all_below count numbers) h).0
below_at count (number ∷ numbers) (suc i) d lt h = below_at count numbers i d (omega arith) (both _ (all_below count numbers) h).1

-- the numbers of a case
pub block_at : (count : ℕ) (numbers : List ℕ) (i d : ℕ) → i < length numbers → IsTrue (are_blocks count numbers) →
    get_or numbers i d < count
block_at count [] i d lt h = absurd (omega arith)
block_at count (number ∷ numbers) i d lt h = below_at count (number ∷ numbers) i d lt h

-- the cases
pub case_at : (count : ℕ) (cases : List SwitchCase) (i : ℕ) (d : SwitchCase) → i < length cases → IsTrue (are_cases count cases) →
    IsTrue (are_blocks count (get_or cases i d).blocks)
case_at count [] i d lt h = absurd (omega arith)
case_at count (this ∷ cases) zero d lt h = (both (are_blocks count this.blocks) _ h).0
case_at count (this ∷ cases) (suc i) d lt h = case_at count cases i d (omega arith) (both (are_blocks count this.blocks) _ h).1

-- the ranges
pub range_at : (count : ℕ) (ranges : List RangeCase) (i : ℕ) (d : RangeCase) → i < length ranges → IsTrue (are_ranges count ranges) →
    block_of (get_or ranges i d) < count
range_at count [] i d lt h = absurd (omega arith)
range_at count (range ∷ ranges) zero d lt h = ltb-true _ _ (both _ (are_ranges count ranges) h).0
range_at count (range ∷ ranges) (suc i) d lt h = range_at count ranges i d (omega arith) (both _ (are_ranges count ranges) h).1

-- the default
pub default_below : (count number : ℕ) → IsTrue (is_default count (Some number)) → number < count
default_below count number h = ltb-true _ _ h

-- each of these of a `switch`
pub switch_tests : (count : ℕ) (cases : List SwitchCase) (ranges : List RangeCase) (default : Option ℕ) →
    IsTrue (is_switch count cases ranges default) →
    IsTrue (are_cases count cases) × (IsTrue (are_ranges count ranges) × IsTrue (is_default count default))
switch_tests count cases ranges default h =
    let one = both (are_cases count cases) _ h in
    let two = both (are_ranges count ranges) _ one.1 in
    (one.0, (two.0, (both (is_default count default) _ two.1).0))

-- a variable that closures share
pub shared_at : (variables : List SharedVariable) (i : ℕ) (d : SharedVariable) (frame : Frame) → i < length variables →
    IsTrue (shared_resolve variables frame) →
    IsTrue (is_good (get_or variables i d).offset (get_or variables i d).ident.name frame.names)
shared_at [] i d frame lt h = absurd (omega arith)
shared_at (variable ∷ variables) zero d frame lt h = tested _ (both _ (shared_resolve variables frame) h).0
shared_at (variable ∷ variables) (suc i) d frame lt h =
    shared_at variables i d frame (omega arith) (both _ (shared_resolve variables frame) h).1
