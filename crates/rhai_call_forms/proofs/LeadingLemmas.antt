-- Where a call by name goes, by whether a variable or `this` comes first.
use Rattle.std.proofs.Common.{◌≡◌, Bool, true, false, List, [], ◌∷◌, Option, Some, None, refl, ap, ◌∙◌}
use Rattle.rhai_tree.specs.declared.position.Position.{Position}
use Rattle.rhai_tree.specs.declared.expr.Expr.{Expr, out-Expr}
use Rattle.rhai_tree.specs.declared.expr.Expr.TheOpen as layer
use Rattle.rhai_tree.specs.Layers.{ExprLayer}
use Rattle.rhai_values.specs.declared.base.value.Dynamic.{Dynamic}
use Rattle.rhai_machine.specs.machine.Machine.{Go, Charge}
use Rattle.rhai_machine.specs.language.Setting.{Setting}
use Rattle.rhai_machine.specs.language.State.{Local}
use Rattle.rhai_machine.specs.language.Variables.{variable_in}
use Rattle.rhai_machine.specs.language.Frames.{Operation, Dispatch, Frame, ToCall, ToCallOn, ToCallOnThis}
use Rattle.rhai_machine.specs.language.Calls.{plainly}
use Rattle.rhai_machine.specs.language.Arguments.{arguments_core, captured_move, is_captured, named_move, on_this, on_variable, this_in}
use Rattle.rhai_call_forms.specs.Leading.{Leading, all_args, takes_by_value, first_in, leading, lent_first, this_lent, variable_read}

-- what a variable that comes first is of the arguments
pub record Leads (args : List Expr) (v : Leading) : Type 0 where
  pub arg : Expr
  pub comes_first : args ≡ arg ∷ v.rest
  pub is_variable : out-Expr arg ≡ layer.Variable v.offset v.name v.namespace v.at

leads_by : (arg : Expr) (o : ExprLayer) (rest : List Expr) (v : Leading) → out-Expr arg ≡ o → leading o rest ≡ Some v → Leads (arg ∷ rest) v
leads_by arg (layer.Variable offset name namespace pos) rest v is found =
    let first : Leading = record { offset = offset; name = name; namespace = namespace; at = pos; rest = rest } in
    let same : first ≡ v = cc in
    rw (← same) (record { arg = arg; comes_first = refl; is_variable = is })
leads_by arg _ rest v is found = absurd cc

-- the variable is the first argument
pub leads : (args : List Expr) (v : Leading) → first_in args ≡ Some v → Leads args v
leads [] v found = absurd cc
leads (arg ∷ args) v found = leads_by arg (out-Expr arg) args v refl found

pub lent_leads : (takes_by_value : Bool) (args : List Expr) (v : Leading) → lent_first takes_by_value args ≡ Some v → Leads args v
lent_leads true args v found = absurd cc
lent_leads false args v found = leads args v found

module _ {H : Type 0} (s : Setting H) where
  -- ---- `this` that comes first

  this_by : (captured alone : Bool) (operation : Operation) (arg : Expr) (rest : List Expr) (k : List (Frame H)) (l : Local H)
      (at : Position) → this_lent captured (Some arg) l.this ≡ Some at →
      captured_move s captured alone operation arg rest k l
      ≡ Charge at (arguments_core s (ToCallOnThis operation at (plainly alone false)) [] rest k l)
  this_by true alone operation arg rest k l at found = absurd cc
  this_by false alone operation arg rest k l at found =
      ap (λ (there : Option Position). on_this s there operation (plainly alone false) arg rest k l) found

  no_this : (takes_by_value : Bool) (this : Option (Dynamic H)) (at : Position) → this_lent takes_by_value None this ≡ Some at → ⊥
  no_this true this at found = cc
  no_this false this at found = cc

  -- it is charged, and the arguments behind it follow
  pub this_goes : (operation : Operation) (curried : List (Dynamic H)) (first : Option Expr) (rest : List Expr) (captures alone : Bool)
      (k : List (Frame H)) (l : Local H) (at : Position) → this_lent (takes_by_value curried captures l.scope) first l.this ≡ Some at →
      named_move s operation curried (all_args first rest) captures alone k l
      ≡ Charge at (arguments_core s (ToCallOnThis operation at (plainly alone false)) [] rest k l)
  this_goes operation (w ∷ ws) first rest captures alone k l at found = absurd cc
  this_goes operation [] None rest captures alone k l at found = absurd (no_this _ l.this at found)
  this_goes operation [] (Some arg) rest captures alone k l at found = this_by _ alone operation arg rest k l at found

  -- ---- a variable that comes first

  charged_by : (o : ExprLayer) (operation : Operation) (how : Dispatch) (arg : Expr) (rest : List Expr) (k : List (Frame H)) (l : Local H)
      (v : Leading) → leading o rest ≡ Some v → out-Expr arg ≡ o →
      on_this s (this_in o l.this) operation how arg rest k l
      ≡ Charge v.at (arguments_core s (ToCallOn operation (variable_read v) how) [] v.rest k l)
  charged_by (layer.Variable offset name namespace pos) operation how arg rest k l v found is =
      let first : Leading = record { offset = offset; name = name; namespace = namespace; at = pos; rest = rest } in
      let same : first ≡ v = cc in
      rw (is, ← same) refl
  charged_by _ operation how arg rest k l v found is = absurd cc

  captured_charges : (captured alone : Bool) (operation : Operation) (arg : Expr) (rest : List Expr) (k : List (Frame H)) (l : Local H)
      (v : Leading) → lent_first captured (arg ∷ rest) ≡ Some v →
      captured_move s captured alone operation arg rest k l
      ≡ Charge v.at (arguments_core s (ToCallOn operation (variable_read v) (plainly alone false)) [] v.rest k l)
  captured_charges true alone operation arg rest k l v found = absurd cc
  captured_charges false alone operation arg rest k l v found =
      charged_by (out-Expr arg) operation (plainly alone false) arg rest k l v found refl

  none_leads : (takes_by_value : Bool) (v : Leading) → lent_first takes_by_value [] ≡ Some v → ⊥
  none_leads true v found = cc
  none_leads false v found = cc

  -- it is charged, and the arguments behind it follow
  pub variable_goes : (operation : Operation) (curried : List (Dynamic H)) (args : List Expr) (captures alone : Bool) (k : List (Frame H))
      (l : Local H) (v : Leading) → lent_first (takes_by_value curried captures l.scope) args ≡ Some v →
      named_move s operation curried args captures alone k l
      ≡ Charge v.at (arguments_core s (ToCallOn operation (variable_read v) (plainly alone false)) [] v.rest k l)
  variable_goes operation (w ∷ ws) args captures alone k l v found = absurd cc
  variable_goes operation [] [] captures alone k l v found = absurd (none_leads _ v found)
  variable_goes operation [] (arg ∷ args) captures alone k l v found = captured_charges _ alone operation arg args k l v found

  -- ---- neither

  taken_by : (o : ExprLayer) (operation : Operation) (how : Dispatch) (arg : Expr) (rest : List Expr) (k : List (Frame H)) (l : Local H) →
      leading o rest ≡ None →
      on_variable s (variable_in o) operation how arg rest k l ≡ Go (arguments_core s (ToCall operation [] how) [] (arg ∷ rest) k l)
  taken_by (layer.Variable offset name namespace pos) operation how arg rest k l none = absurd cc
  taken_by _ operation how arg rest k l none = refl

  captured_takes : (captured alone : Bool) (operation : Operation) (arg : Expr) (rest : List Expr) (k : List (Frame H)) (l : Local H) →
      lent_first captured (arg ∷ rest) ≡ None → this_lent captured (Some arg) l.this ≡ None →
      captured_move s captured alone operation arg rest k l
      ≡ Go (arguments_core s (ToCall operation [] (plainly alone captured)) [] (arg ∷ rest) k l)
  captured_takes true alone operation arg rest k l none unlent = refl
  captured_takes false alone operation arg rest k l none unlent =
      ap (λ (there : Option Position). on_this s there operation (plainly alone false) arg rest k l) unlent
      ∙ taken_by (out-Expr arg) operation (plainly alone false) arg rest k l none

  -- each argument is taken by its value, after those that a pointer has
  pub values_go : (operation : Operation) (curried : List (Dynamic H)) (first : Option Expr) (rest : List Expr) (captures alone : Bool)
      (k : List (Frame H)) (l : Local H) → lent_first (takes_by_value curried captures l.scope) (all_args first rest) ≡ None →
      this_lent (takes_by_value curried captures l.scope) first l.this ≡ None →
      named_move s operation curried (all_args first rest) captures alone k l
      ≡ Go (arguments_core s (ToCall operation curried (plainly alone (is_captured captures l.scope))) [] (all_args first rest) k l)
  values_go operation (w ∷ ws) first rest captures alone k l none unlent = refl
  values_go operation [] None rest captures alone k l none unlent = refl
  values_go operation [] (Some arg) rest captures alone k l none unlent = captured_takes _ alone operation arg rest k l none unlent
