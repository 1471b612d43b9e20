-- A map whose keys are those of its template, and one whose keys are not.
use Rattle.std.proofs.Common.{◌≡◌, ap, refl, true, false, IsTrue, List, [], ◌∷◌, map, Result}
use Rattle.std.specs.Result.{IfErr, OnOk}
use Rattle.rhai_tree.specs.declared.fault.CheckFault.{CheckFault}
use Rattle.rhai_tree.specs.declared.fault.CheckFault.TheVariants.{BadMapKey}
use Rattle.rhai_tree.specs.declared.expr.Expr.TheFolds.{fold_out-MapEntry}
use Rattle.rhai_tree.specs.declared.expr.MapEntry.{MapEntry}
use Rattle.rhai_tree.specs.declared.position.Position.{Position}
use Rattle.rhai_tree.specs.Context.{Context}
use Rattle.rhai_tree.specs.Frame.{entries_resolve, map_resolves, tests_of_entry}
use Rattle.rhai_tree.specs.Keys.{are_keys, key_of}
use Rattle.rhai_tree.specs.Names.{Frame, Name}
use Rattle.rhai_tree.specs.Reading as walk
use Rattle.rhai_tree.specs.Reading.{faulty, sound}
use Rattle.rhai_check.specs.Refusals.{IsFirst, Refuses}
use Rattle.rhai_tree.specs.WellFormed.{faults_in_entries, faults_in_map, seen_entry}
use Rattle.rhai_check.proofs.Outcome.{ok_then, err_then}
use Rattle.rhai_check.specs.Around.{above}
use Rattle.rhai_check.specs.declared.check.declared.Declared.{Declared}

-- what is seen of an entry has its key
key_seen : (r : walk.Reading) (entry : MapEntry) → walk.key_in r (walk.seen_entry r entry) ≡ key_of entry
key_seen r entry = ap (walk.key_in r) (fold_out-MapEntry (walk.Seen r) (walk.SeenStmt r) (walk.SeenConditional r) (walk.SeenCall r)
    (walk.SeenEntry r)
    (walk.Seen r) (walk.expr_step r) (walk.stmt_step r) (walk.conditional_step r) (walk.call_step r) (walk.entry_step r)
    (walk.block_step r) entry)

keys_seen : (r : walk.Reading) (entries : List MapEntry) →
    map (walk.key_in r) (map (walk.seen_entry r) entries) ≡ map key_of entries
keys_seen r [] = refl
keys_seen r (entry ∷ entries) = λ i. key_seen r entry i ∷ keys_seen r entries i

module _ {A : Type 0} (r : Result A CheckFault) (entries : List MapEntry) (template : List Name) (pos : Position)
    (good : true ≡ are_keys (map key_of entries) template) where
  pub map_passes : (c : Context) → OnOk r (faults_in_entries (map seen_entry entries) c ≡ []) →
      OnOk r (faults_in_map (map seen_entry entries) template pos c ≡ [])
  map_passes c h = ok_then r (λ none. rw (keys_seen faulty entries, ← good) none) h

  pub map_runs : (d : Declared) →
      OnOk r ((base : Frame) → IsTrue (entries_resolve (map tests_of_entry entries) (above base d))) →
      OnOk r ((base : Frame) → IsTrue (map_resolves (map tests_of_entry entries) template pos (above base d)))
  map_runs d h = ok_then r (λ runs base. rw (keys_seen sound entries, ← good) (runs base)) h

  pub map_refused : (c : Context) → IfErr r (λ fault. Refuses (faults_in_entries (map seen_entry entries) c) true fault) →
      IfErr r (λ fault. Refuses (faults_in_map (map seen_entry entries) template pos c) true fault)
  map_refused c h = err_then r (λ fault refuses. rw (keys_seen faulty entries, ← good) refuses) h

pub keys_refused : (entries : List MapEntry) (template : List Name) (pos : Position) (c : Context) →
    false ≡ are_keys (map key_of entries) template → IsFirst (faults_in_map (map seen_entry entries) template pos c) (BadMapKey pos)
keys_refused entries template pos c bad = rw (keys_seen faulty entries, ← bad) refl
