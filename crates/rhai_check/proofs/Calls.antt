-- What is found of a call that is no `eval`, and what it declares.
use Rattle.std.proofs.Common.{◌≡◌, ap, ◌∙◌, Bool, true, false, ◌&&◌, IsTrue, List, [], ◌∷◌, ◌++◌, length, map, refl, sym, Result, subst}
use Rattle.std.proofs.Common.{if◌then◌else◌}
use Rattle.std.proofs.lemmas.List.{length-map}
use Rattle.std.specs.Result.{IfErr, OnOk}
use Rattle.rhai_tree.specs.declared.expr.Expr.TheFolds.{fold_out-FnCallExpr}
use Rattle.rhai_tree.specs.declared.expr.FnCallExpr.{FnCallExpr}
use Rattle.rhai_tree.specs.declared.fault.CheckFault.{CheckFault}
use Rattle.rhai_tree.specs.declared.position.Position.{Position}
use Rattle.rhai_tree.specs.Forms.{is_eval_call}
use Rattle.rhai_tree.specs.Frame.{all_resolve_exprs, tests_of}
use Rattle.rhai_tree.specs.Names.{Frame, is_good_root}
use Rattle.rhai_tree.specs.Reading as walk
use Rattle.rhai_tree.specs.Reading.{faulty, sound}
use Rattle.rhai_tree.specs.WellFormed.{faults_in_all, seen_call, seen_expr}
use Rattle.rhai_tree.specs.declared.fault.CheckFault.TheVariants.{BadImportOffset}
use Rattle.rhai_check.specs.MemoryNeeds as declares
use Rattle.rhai_check.specs.MemoryNeeds.{Needs, any_need, call_needs_memory, needs_of}
use Rattle.rhai_check.specs.Refusals.{Refuses}
use Rattle.rhai_check.specs.declared.check.place.Place.{Place}
use Rattle.rhai_check.specs.Around.{above, around}
use Rattle.rhai_check.specs.declared.check.declared.Declared.{Declared}
use Rattle.rhai_check.proofs.Offsets.{namespace_above}
use Rattle.rhai_check.proofs.Outcome.{err_then, ok_then}

module _ (r : walk.Reading) (call : FnCallExpr) (pos : Position) (c : r.Around)
    (plain : is_eval_call call.namespace call.name (length call.args) ≡ false) where
  pub call_found : (walk.seen_call r call).value pos c
      ≡ r.both (walk.found_in_namespace r call.namespace c) (walk.found_in_all r (map (walk.seen_expr r) call.args) c)
  call_found =
      ap (λ (s : walk.SeenCall r). s.value pos c) (fold_out-FnCallExpr (walk.Seen r) (walk.SeenStmt r) (walk.SeenConditional r)
      (walk.SeenCall r) (walk.SeenEntry r) (walk.Seen r) (walk.expr_step r) (walk.stmt_step r) (walk.conditional_step r) (walk.call_step r)
      (walk.entry_step r) (walk.block_step r) call)
      ∙ rw (length-map call.args (walk.seen_expr r), plain) refl

-- it may run where its path and its arguments may
pub call_runs : {A : Type 0} (r : Result A CheckFault) (call : FnCallExpr) (pos : Position) (d : Declared) →
    is_eval_call call.namespace call.name (length call.args) ≡ false → is_good_root call.namespace.index call.namespace.path
    d.imports ≡ true →
    OnOk r ((base : Frame) → IsTrue (all_resolve_exprs (map tests_of call.args) (above base d))) →
    OnOk r ((base : Frame) → IsTrue ((walk.seen_call sound call).value pos (above base d)))
call_runs r call pos d plain good h = ok_then r (λ runs base.
    call_found sound call pos (above base d) plain
    ∙ ap (λ (b : Bool). b && all_resolve_exprs (map tests_of call.args) (above base d)) (namespace_above base call.namespace d good)
    ∙ runs base) h

-- a call declares what its arguments do
call_declares : (call : FnCallExpr) → call_needs_memory call ≡ any_need (map needs_of call.args)
call_declares call = fold_out-FnCallExpr Needs Bool Bool Bool (Unit {0}) Bool declares.expr_step declares.stmt_step
    declares.conditional_step
    declares.call_step (λ entry. tt) declares.block_step call

-- what refuses its arguments refuses it
pub call_refused : {A : Type 0} (r : Result A CheckFault) (call : FnCallExpr) (pos : Position) (d : Declared) (place : Place) →
    is_eval_call call.namespace call.name (length call.args) ≡ false → is_good_root call.namespace.index call.namespace.path
    d.imports ≡ true →
    IfErr r (λ fault. Refuses (faults_in_all (map seen_expr call.args) (around d place)) (any_need (map needs_of call.args)) fault) →
    IfErr r (λ fault. Refuses ((seen_call call).value pos (around d place)) (call_needs_memory call) fault)
call_refused r call pos d place plain good h =
    let behind = faults_in_all (map seen_expr call.args) (around d place) in
    let found : (seen_call call).value pos (around d place) ≡ behind =
    call_found faulty call pos (around d place) plain
    ∙ ap (λ (b : Bool). (if b then [] else BadImportOffset call.namespace.position ∷ []) ++ behind) good in
    err_then r (λ fault refuses. subst (λ (fs : List CheckFault). Refuses fs (call_needs_memory call) fault) (sym found)
    (subst (λ (b : Bool). Refuses behind b fault) (sym (call_declares call)) refuses)) h
