-- How the machine reads an operand that stands: one charge at its position, and a copy of its value.
use Rattle.std.proofs.Common.{◌≡◌, ◌<◌, ◌≤◌, ◌+◌, ◌∙◌, ℕ, false, List, Option, Some, None, Result, Ok, refl, ap}
use Rattle.std.proofs.Common.{if◌then◌else◌}
use Rattle.rhai_tree.specs.declared.position.Position.{Position}
use Rattle.rhai_tree.specs.declared.expr.Expr.{Expr, out-Expr}
use Rattle.rhai_tree.specs.declared.expr.Expr.TheOpen as layer
use Rattle.rhai_tree.specs.declared.expr.Expr.TheFolds.{fold_out-Expr}
use Rattle.rhai_tree.specs.Layers.{ExprLayer}
use Rattle.rhai_tree.specs.Positions.{position_of, start_of}
use Rattle.rhai_values.specs.declared.base.value.Dynamic.{Dynamic}
use Rattle.rhai_values.specs.declared.base.value.Union.{Union}
use Rattle.rhai_values.specs.declared.base.value.Union.TheVariants as value
use Rattle.rhai_values.specs.Copy.{copy_of, plain}
use Rattle.rhai_state.specs.declared.scope.Scope.{Scope}
use Rattle.rhai_state.specs.declared.scope.ScopeEntry.{ScopeEntry}
use Rattle.rhai_lookups.specs.declared.run.RunState.{RunState}
use Rattle.rhai_errors.specs.declared.error.EvalAltResult.{EvalAltResult}
use Rattle.rhai_errors.specs.declared.error.EvalAltResult.TheVariants as error
use Rattle.rhai_state.specs.Scope.{entries_of, value_in}
use Rattle.rhai_machine.specs.language.State.{Held, Surroundings}
use Rattle.rhai_machine.specs.machine.Machine.{Go}
use Rattle.rhai_machine.specs.machine.Memory.{here, next, ◌⨾◌, Leads}
use Rattle.rhai_machine.specs.machine.Point.{after}
use Rattle.rhai_machine.specs.language.Setting.{Globals, Rules, globals_of, limit_under, cut}
use Rattle.rhai_machine.specs.language.Values.{Cells, bool_value, is_handle, unit_value}
use Rattle.rhai_machine.specs.language.Variables.{Variable, variable_named}
use Rattle.rhai_machine.specs.language.Names.{entry_named, looked_up, of_entry, read, read_of}
use Rattle.rhai_machine.specs.language.Expressions.{literal_of}
use Rattle.rhai_machine.specs.language.Frames.{Frame, core, ended, Argument, Eval, OpenExpr, Back, Fail}
use Rattle.rhai_machine.specs.language.Runs.{at}
use Rattle.rhai_machine.proofs.MeantLaws.{meant_at}
use Rattle.rhai_machine.specs.language.Language.{machine}
use Rattle.rhai_steps.specs.States.{state_of}
use Rattle.rhai_steps.proofs.Pieces.{step_by, charged, refused}
use Rattle.rhai_operands.specs.Standing.{standing, unless_handle}

module _ {H : Type 0} where
  -- a variable that is no handle is read as a copy
  read_value : (cells : Cells H) (name : _) (pos : Position) (index : ℕ) (u : Union H) (w v : Dynamic H) →
      (if is_handle u then None else Some w) ≡ Some v → read_of (of_entry index (looked_up cells name pos u w)) ≡ Ok (copy_of v)
  read_value cells name pos index (value.Cell id) w v is = cc
  read_value cells name pos index _ w v is = let same : w ≡ v = cc in ap (λ (x : Dynamic H). Ok (copy_of x)) same

  module _ (globals : Globals H) (around : Surroundings H) (scope : List (ScopeEntry H)) (variable : Variable) (v : Dynamic H) where
    read_there : (index : ℕ) (there : Option (Dynamic H)) → entry_named variable.path.names variable.name scope ≡ Some index →
        value_in scope (Some index) ≡ there → unless_handle there ≡ Some v → read globals around scope variable ≡ Ok (copy_of v)
    read_there index None is found stands = cc
    read_there index (Some w) is found stands =
        ap read_of (meant_at globals around scope variable index w is found)
        ∙ read_value around.cells variable.name variable.at index w.value w v stands

    read_found : (entry : Option ℕ) → entry_named variable.path.names variable.name scope ≡ entry →
        unless_handle (value_in scope entry) ≡ Some v → read globals around scope variable ≡ Ok (copy_of v)
    read_found None is stands = cc
    read_found (Some index) is stands = read_there index (value_in scope (Some index)) is refl stands

    pub reads_standing : unless_handle (value_in scope (entry_named variable.path.names variable.name scope)) ≡ Some v →
        read globals around scope variable ≡ Ok (copy_of v)
    reads_standing stands = read_found (entry_named variable.path.names variable.name scope) refl stands

-- what stands is no handle
value_plain : {H : Type 0} (u : Union H) (w v : Dynamic H) → u ≡ w.value → (if is_handle u then None else Some w) ≡ Some v →
    is_handle v.value ≡ false
value_plain (value.Cell id) w v of is = cc
value_plain _ w v of is = let same : w ≡ v = cc in rw (← same, ← of) refl

found_plain : {H : Type 0} (o : Option (Dynamic H)) (v : Dynamic H) → unless_handle o ≡ Some v → is_handle v.value ≡ false
found_plain None v is = cc
found_plain (Some w) v is = value_plain w.value w v refl is

pub standing_plain : {H : Type 0} (form : ExprLayer) (entries : List (ScopeEntry H)) (v : Dynamic H) → standing form entries ≡ Some v →
    is_handle v.value ≡ false
standing_plain (layer.BoolConstant b pos) entries v is = let same : bool_value b ≡ v = cc in rw (← same) refl
standing_plain (layer.IntegerConstant n pos) entries v is = let same : plain (value.Int n) ≡ v = cc in rw (← same) refl
standing_plain (layer.CharConstant c pos) entries v is = let same : plain (value.Char c) ≡ v = cc in rw (← same) refl
standing_plain (layer.Unit pos) entries v is = let same : unit_value ≡ v = cc in rw (← same) refl
standing_plain (layer.Variable offset name namespace pos) entries v is =
    found_plain (value_in entries (entry_named namespace.path name entries)) v is
standing_plain _ entries v is = cc

-- a literal's text starts where it stands
pub literal_starts : {H : Type 0} (e : Expr) (form : ExprLayer) (w : Dynamic H) → out-Expr e ≡ form → literal_of form ≡ Some w →
    start_of e ≡ position_of e
literal_starts e (layer.BoolConstant b pos) w is literal = rw (fold_out-Expr, is) refl
literal_starts e (layer.IntegerConstant n pos) w is literal = rw (fold_out-Expr, is) refl
literal_starts e (layer.DynamicConstant constant pos) w is literal = rw (fold_out-Expr, is) refl
literal_starts e (layer.CharConstant c pos) w is literal = rw (fold_out-Expr, is) refl
literal_starts e (layer.StringConstant text pos) w is literal = rw (fold_out-Expr, is) refl
literal_starts e (layer.Unit pos) w is literal = rw (fold_out-Expr, is) refl
literal_starts e _ w is literal = cc

module _ {S H : Type 0} (rules : Rules S H) where
  -- its form, once it is charged, gives its value
  opens_standing : (form : ExprLayer) (v : Dynamic H) (k : List (Frame H)) (t : S) (g : RunState H) (scope : Scope H)
      (held : Held H) → standing form (entries_of scope) ≡ Some v →
      Leads (machine rules) (cut rules) (at (OpenExpr form) k (state_of t g scope held)) (at (Back (copy_of v)) k (state_of t g scope held))
  unfolding after
  opens_standing (layer.BoolConstant b pos) v k t g scope held stands = let same : bool_value b ≡ v = cc in rw (← same) (next here)
  opens_standing (layer.IntegerConstant n pos) v k t g scope held stands =
      let same : plain (value.Int n) ≡ v = cc in rw (← same) (next here)
  opens_standing (layer.CharConstant c pos) v k t g scope held stands =
      let same : plain (value.Char c) ≡ v = cc in rw (← same) (next here)
  opens_standing (layer.Unit pos) v k t g scope held stands = let same : unit_value ≡ v = cc in rw (← same) (next here)
  opens_standing (layer.Variable offset name namespace pos) v k t g scope held stands =
      step_by rules _ _ (Go (core (Back (copy_of v)) k (state_of t g scope held).local))
      (ap (λ (r : Result (Dynamic H) (EvalAltResult H)). Go (core (ended r) k (state_of t g scope held).local))
      (reads_standing (globals_of rules.setting.offer) (state_of t g scope held).local.around (entries_of scope)
      (variable_named name namespace pos) v stands)) here
  opens_standing _ v k t g scope held stands = cc

  module _ (e : Expr) (v : Dynamic H) (t : S) (old new : RunState H) (scope : Scope H) (held : Held H)
      (stands : standing (out-Expr e) (entries_of scope) ≡ Some v) where
    module _ (room : old.num_operations < limit_under rules) (is : new ≡ record old { num_operations = old.num_operations + 1 }) where
      -- an expression that stands is charged, and there
      pub value_goes : (k : List (Frame H)) →
          Leads (machine rules) (cut rules) (at (Eval e) k (state_of t old scope held))
          (at (Back (copy_of v)) k (state_of t new scope held))
      value_goes k = charged rules t old new scope held (Eval e) (OpenExpr (out-Expr e)) (position_of e) (λ k. refl) room is k
          ⨾ opens_standing (out-Expr e) v k t new scope held stands

      argument_by : (form : ExprLayer) → out-Expr e ≡ form → standing form (entries_of scope) ≡ Some v → (k : List (Frame H)) →
          Leads (machine rules) (cut rules) (at (Argument e) k (state_of t old scope held))
          (at (Back (copy_of v)) k (state_of t new scope held))
      argument_by (layer.BoolConstant b pos) form stand k = let same : bool_value b ≡ v = cc in rw (← same)
          (charged rules t old new scope held (Argument e) (Back (bool_value b)) (start_of e) (λ k. rw form refl) room is k)
      argument_by (layer.IntegerConstant n pos) form stand k = let same : plain (value.Int n) ≡ v = cc in rw (← same)
          (charged rules t old new scope held (Argument e) (Back (plain (value.Int n))) (start_of e) (λ k. rw form refl) room is k)
      argument_by (layer.CharConstant c pos) form stand k = let same : plain (value.Char c) ≡ v = cc in rw (← same)
          (charged rules t old new scope held (Argument e) (Back (plain (value.Char c))) (start_of e) (λ k. rw form refl) room is k)
      argument_by (layer.Unit pos) form stand k = let same : unit_value ≡ v = cc in rw (← same)
          (charged rules t old new scope held (Argument e) (Back unit_value) (start_of e) (λ k. rw form refl) room is k)
      argument_by (layer.Variable offset name namespace pos) form stand k =
          step_by rules _ _ (Go (core (Eval e) k (state_of t old scope held).local)) (rw form refl) (value_goes k)
      argument_by _ form stand k = cc

      -- so is an argument
      pub argument_goes : (k : List (Frame H)) →
          Leads (machine rules) (cut rules) (at (Argument e) k (state_of t old scope held))
          (at (Back (copy_of v)) k (state_of t new scope held))
      argument_goes k = argument_by (out-Expr e) refl stands k

    module _ (x : EvalAltResult H) (full : limit_under rules ≤ old.num_operations) (is : x ≡ error.ErrorTooManyOperations (position_of e))
        (same : new ≡ old) where
      -- or its charge is refused
      pub value_refused : (k : List (Frame H)) →
          Leads (machine rules) (cut rules) (at (Eval e) k (state_of t old scope held)) (at (Fail x) k (state_of t new scope held))
      value_refused k = refused rules t old new scope held (Eval e) (OpenExpr (out-Expr e)) (position_of e) (λ k. refl) x full is same k

      refused_by : (form : ExprLayer) → out-Expr e ≡ form → standing form (entries_of scope) ≡ Some v → (k : List (Frame H)) →
          Leads (machine rules) (cut rules) (at (Argument e) k (state_of t old scope held)) (at (Fail x) k (state_of t new scope held))
      refused_by (layer.BoolConstant b pos) form stand k = refused rules t old new scope held (Argument e) (Back (bool_value b))
          (start_of e)
          (λ k. rw form refl) x full (rw (literal_starts {H = H} e (layer.BoolConstant b pos) (bool_value b) form refl) is) same k
      refused_by (layer.IntegerConstant n pos) form stand k = refused rules t old new scope held (Argument e) (Back (plain (value.Int n)))
          (start_of e) (λ k. rw form refl) x full (rw (literal_starts {H = H} e (layer.IntegerConstant n pos) (plain (value.Int n))
          form refl) is)
          same k
      refused_by (layer.CharConstant c pos) form stand k = refused rules t old new scope held (Argument e) (Back (plain (value.Char c)))
          (start_of e) (λ k. rw form refl) x full (rw (literal_starts {H = H} e (layer.CharConstant c pos) (plain (value.Char c))
          form refl) is) same k
      refused_by (layer.Unit pos) form stand k = refused rules t old new scope held (Argument e) (Back unit_value) (start_of e)
          (λ k. rw form refl) x full (rw (literal_starts {H = H} e (layer.Unit pos) unit_value form refl) is) same k
      refused_by (layer.Variable offset name namespace pos) form stand k =
          step_by rules _ _ (Go (core (Eval e) k (state_of t old scope held).local)) (rw form refl) (value_refused k)
      refused_by _ form stand k = cc

      pub argument_refused : (k : List (Frame H)) →
          Leads (machine rules) (cut rules) (at (Argument e) k (state_of t old scope held)) (at (Fail x) k (state_of t new scope held))
      argument_refused k = refused_by (out-Expr e) refl stands k
