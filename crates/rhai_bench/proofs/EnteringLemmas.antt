-- What a statement that is no `import` makes of the frame, and what becomes of the statements behind it.
use Rattle.std.proofs.Common.{◌≡◌, Bool, true, false, List, Option, Some, None, Result, Ok, Err, refl, sym, ap, subst, map, ◌∙◌}
use Rattle.std.specs.Prelude.{IsTrue, OnOk}
use Rattle.std.specs.declared.num.NonZeroUsize.{NonZeroUsize}
use Rattle.rhai_tree.specs.declared.expr.Expr.TheOpen as layer
use Rattle.rhai_tree.specs.declared.expr.Expr.TheFolds.{fold_out-StmtBlock}
use Rattle.rhai_tree.specs.declared.expr.Stmt.{Stmt, out-Stmt}
use Rattle.rhai_tree.specs.declared.expr.StmtBlock.{StmtBlock}
use Rattle.rhai_tree.specs.Frame.{all_resolve, resolves_block, resolves_stmt}
use Rattle.rhai_tree.specs.Layers.{StmtLayer}
use Rattle.rhai_tree.specs.Names.{Frame, Name}
use Rattle.rhai_tree.specs.Reading as walk
use Rattle.rhai_tree.specs.Reading.{sound}
use Rattle.rhai_tree.proofs.Walk.{resolves-stmt, stmt_tests}
use Rattle.rhai_laws.specs.Kept.{is_import}
use Rattle.rhai_steps.specs.Agreement.{Agrees, Leads, Sight, changes, framed, passes}
use Rattle.rhai_steps.proofs.Agreeing.{brings}

-- what a declaration leaves of the imports
var_imports : (index : Option NonZeroUsize) (name : Name) (frame : Frame) → (walk.after_var sound index name frame).imports ≡ frame.imports
var_imports None name frame = refl
var_imports (Some offset) name frame = refl

-- what a form leaves of them
form_imports : (l : StmtLayer) (frame : Frame) → is_import l ≡ false → (walk.stmt_step sound (stmt_tests l) frame).1.imports ≡ frame.imports
form_imports (layer.Var ident value index options pos) frame none = var_imports index ident.name frame
form_imports (layer.Import expr alias pos) frame none = cc
form_imports (layer.Noop pos) frame none = refl
form_imports (layer.Expr expr) frame none = refl
form_imports (layer.Stmt::FnCall call pos) frame none = refl
form_imports (layer.Block block) frame none = refl
form_imports (layer.Assignment op lhs rhs) frame none = refl
form_imports (layer.If expr body branch pos) frame none = refl
form_imports (layer.Switch expr expressions cases ranges def_case pos) frame none = refl
form_imports (layer.While expr body pos) frame none = refl
form_imports (layer.Do expr body options pos) frame none = refl
form_imports (layer.For name counter expr body pos) frame none = refl
form_imports (layer.BreakLoop expr options pos) frame none = refl
form_imports (layer.TryCatch body variable branch pos) frame none = refl
form_imports (layer.Return expr options pos) frame none = refl
form_imports (layer.Export name alias pos) frame none = refl
form_imports (layer.Share variables) frame none = refl

-- a frame is its names and its imports
same_frame : (made : Frame) (names imports : List Name) → names ≡ made.names → imports ≡ made.imports →
    record { names = names; imports = imports } ≡ made
same_frame made names imports is are = rw (is, are) refl

-- where the names behind a statement are those that it makes of them, and the imports and the search stay, it leads to its frame
pub leads_behind : {was now : Sight} {l : List Name} (stmt : Stmt) (k : List Name) → l ≡ (resolves_stmt stmt (framed was k)).1.names →
    now.imports ≡ was.imports → now.searched ≡ was.searched → is_import (out-Stmt stmt) ≡ false →
    Leads was (changes (resolves_stmt stmt) (framed was k)) now l
leads_behind {was} {now} {l} stmt k names stay searches none = record {
  off = λ off. sym searches ∙ off;
  leads = λ off. same_frame (resolves_stmt stmt (framed was k)).1 l now.imports names
      (stay ∙ sym (ap (λ (f : walk.SeenStmt sound). (f (framed was k)).1.imports) (resolves-stmt stmt (out-Stmt stmt) refl)
      ∙ form_imports (out-Stmt stmt) (framed was k) none));
}

-- what follows of what holds at a value
pub ok_then : {V E A B : Type 0} (r : Result V E) → (A → B) → OnOk r A → OnOk r B
ok_then (Ok v) f a = f a
ok_then (Err e) f a = tt

-- a block may run where its statements may
block_value : (block : StmtBlock) (frame : Frame) →
    resolves_block block frame ≡ (all_resolve (map resolves_stmt block.statements) frame).0
block_value block frame = ap (λ (seen : walk.Seen sound). seen.value frame) (fold_out-StmtBlock (walk.Seen sound) (walk.SeenStmt sound)
    (walk.SeenConditional sound) (walk.SeenCall sound) (walk.SeenEntry sound) (walk.Seen sound) (walk.expr_step sound)
    (walk.stmt_step sound) (walk.conditional_step sound) (walk.call_step sound) (walk.entry_step sound) (walk.block_step sound) block)

-- and its statements where it may
pub block_runs : {sight : Sight} {names : List Name} (block : StmtBlock) → Agrees sight names (resolves_block block) →
    Agrees sight names (passes (all_resolve (map resolves_stmt block.statements)))
block_runs block h = brings (λ frame. subst IsTrue (block_value block frame)) h
