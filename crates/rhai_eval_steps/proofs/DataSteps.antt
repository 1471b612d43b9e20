-- How an item of an array and an entry of a map lead on.
use Rattle.std.proofs.Common.{◌≡◌, ℕ, false, List, ◌∷◌, Ok, Err, refl, ap}
use Rattle.rhai_tree.specs.declared.position.Position.{Position}
use Rattle.rhai_tree.specs.declared.expr.Expr.{Expr}
use Rattle.rhai_tree.specs.declared.expr.MapEntry.{MapEntry}
use Rattle.rhai_values.specs.declared.base.value.Dynamic.{Dynamic}
use Rattle.rhai_errors.specs.declared.error.EvalAltResult.{EvalAltResult}
use Rattle.rhai_errors.specs.Errors.{is_out_of_memory}
use Rattle.rhai_machine.specs.machine.Machine.{Go}
use Rattle.rhai_machine.specs.machine.Memory.{here, Leads}
use Rattle.rhai_machine.specs.language.Setting.{Rules, cut}
use Rattle.rhai_machine.specs.language.State.{State}
use Rattle.rhai_machine.specs.language.Values.{flat}
use Rattle.rhai_machine.specs.language.Frames.{Frame, on_value, Back, Fail, ArrayItem, EntryValue}
use Rattle.rhai_machine.specs.language.Data.{items_core, entries_core, with_item, with_value}
use Rattle.rhai_machine.specs.language.Runs.{at, with_core}
use Rattle.rhai_machine.specs.language.Language.{machine}
use Rattle.rhai_steps.proofs.Pieces.{step_by}
use Rattle.rhai_eval_steps.proofs.Chain.{fails_on}

module _ {S H : Type 0} (rules : Rules S H) (made : List (Dynamic H)) (v : Dynamic H) (pos : Position) (rest : List Expr)
    (k : List (Frame H)) (l : State S H) where
  -- it stands behind those before it
  pub item_on : (items : List (Dynamic H)) → with_item rules.setting.limits made (flat l.local.around.cells v pos) pos ≡ Ok items →
      Leads (machine rules) (cut rules) (at (Back v) (ArrayItem made pos rest ∷ k) l) (with_core (items_core items rest k l.local) l)
  item_on items is = step_by rules _ _ _ (ap (λ r. Go (on_value r (λ x. items_core x rest k l.local) k l.local)) is) here

  -- or it is refused
  pub item_fails : (e : EvalAltResult H) →
      (is_out_of_memory e ≡ false → with_item rules.setting.limits made (flat l.local.around.cells v pos) pos ≡ Err e) →
      Leads (machine rules) (cut rules) (at (Back v) (ArrayItem made pos rest ∷ k) l) (at (Fail e) k l)
  item_fails e is = fails_on rules v (ArrayItem made pos rest) k l e (λ x. refl)
      (λ m. ap (λ r. on_value r (λ x. items_core x rest k l.local) k l.local) (is m))

-- the value of a map's entry
module _ {S H : Type 0} (rules : Rules S H) (keys : List (List ℕ)) (made : List (Dynamic H)) (v : Dynamic H) (pos : Position)
    (rest : List MapEntry) (k : List (Frame H)) (l : State S H) where
  pub value_on : (values : List (Dynamic H)) → with_value rules.setting.limits made (flat l.local.around.cells v pos) pos ≡ Ok values →
      Leads (machine rules) (cut rules) (at (Back v) (EntryValue keys made pos rest ∷ k) l)
      (with_core (entries_core keys values rest k l.local) l)
  value_on values is = step_by rules _ _ _ (ap (λ r. Go (on_value r (λ x. entries_core keys x rest k l.local) k l.local)) is) here

  pub value_fails : (e : EvalAltResult H) →
      (is_out_of_memory e ≡ false → with_value rules.setting.limits made (flat l.local.around.cells v pos) pos ≡ Err e) →
      Leads (machine rules) (cut rules) (at (Back v) (EntryValue keys made pos rest ∷ k) l) (at (Fail e) k l)
  value_fails e is = fails_on rules v (EntryValue keys made pos rest) k l e (λ x. refl)
      (λ m. ap (λ r. on_value r (λ x. entries_core keys x rest k l.local) k l.local) (is m))
