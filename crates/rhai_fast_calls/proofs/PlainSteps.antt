-- What the machine does with a plain call, and parameters that are filled one after the other.
use Rattle.std.proofs.Common.{◌≡◌, ◌<◌, ◌≤◌, ℕ, Bool, true, false, ◌||◌, List, [], ◌∷◌, ◌++◌, Option, Some, None, Result, Ok, Err}
use Rattle.std.proofs.Common.{refl, ap, ◌∙◌, arith, codes, get_or, length, map}
use Rattle.std.specs.Option.{option_map, option_or}
use Rattle.std.specs.Str.{bytes_eq}
use Rattle.rhai_tree.specs.declared.expr.Expr.{Expr, out-Expr}
use Rattle.rhai_tree.specs.declared.expr.Expr.TheOpen as layer
use Rattle.rhai_tree.specs.declared.expr.FnCallExpr.{FnCallExpr}
use Rattle.rhai_tree.specs.declared.function.ScriptFuncDef.{ScriptFuncDef}
use Rattle.rhai_tree.specs.declared.position.Position.{Position}
use Rattle.rhai_tree.specs.declared.token.Token.{Token}
use Rattle.rhai_tree.specs.Layers.{ExprLayer}
use Rattle.rhai_values.specs.declared.base.value.AccessMode.{AccessMode}
use Rattle.rhai_values.specs.declared.base.value.AccessMode.TheVariants.{ReadWrite}
use Rattle.rhai_values.specs.declared.base.value.Dynamic.{Dynamic}
use Rattle.rhai_values.specs.declared.base.value.Module.{Module}
use Rattle.rhai_values.specs.declared.base.value.ModuleFn.{ModuleFn}
use Rattle.rhai_values.specs.declared.base.value.Union.{Union}
use Rattle.rhai_values.specs.declared.base.value.Union.TheVariants as value
use Rattle.rhai_values.specs.Modes.{union_with_mode}
use Rattle.rhai_errors.specs.declared.error.EvalAltResult.{EvalAltResult}
use Rattle.rhai_errors.specs.declared.error.EvalAltResult.TheVariants as error
use Rattle.rhai_state.specs.declared.scope.ScopeEntry.{ScopeEntry}
use Rattle.rhai_state.specs.Scope.{new_entry, value_of}
use Rattle.rhai_functions.specs.Called.{function_of}
use Rattle.rhai_functions.specs.Entering.{parameters}
use Rattle.rhai_functions.specs.Functions.{in_modules}
use Rattle.rhai_machine.specs.machine.Machine.{Go}
use Rattle.rhai_machine.specs.language.Setting.{Setting}
use Rattle.rhai_machine.specs.language.State.{Local}
use Rattle.rhai_machine.specs.language.Values.{Cells}
use Rattle.rhai_machine.specs.language.Activations.{NoThis}
use Rattle.rhai_machine.specs.language.Arguments.{arguments_core, arguments_there, function_core, keyword_named, keyword_of}
use Rattle.rhai_machine.specs.language.Arguments.{named_move, this_in}
use Rattle.rhai_machine.specs.language.Calls.{call_of, called_core, entry_of, is_held, named_core, plainly, races}
use Rattle.rhai_machine.specs.language.Frames.{Call, CallNamed, EnterFunction, Fail, Frame, Operation, ToCall, core}
use Rattle.rhai_machine.specs.language.Functions.{Function, found_function, in_libraries, key_by}
use Rattle.rhai_machine.specs.language.Variables.{variable_in}
use Rattle.rhai_functions.specs.Words.{has_own_meaning}
use Rattle.rhai_fast_calls.specs.Callees.{IsPlain, is_by_value, starts_by_value}
use Rattle.rhai_fast_calls.specs.Filling.{HasFilled, filled}

-- a name that means nothing besides functions is none of those that do
pub record Means (name : List ℕ) : Type 0 where
  pub no_call : bytes_eq name (codes "call") ≡ false
  pub no_pointer : bytes_eq name (codes "Fn") ≡ false
  pub no_curry : bytes_eq name (codes "curry") ≡ false
  pub no_sharing : bytes_eq name (codes "is_shared") ≡ false
  pub no_variable : bytes_eq name (codes "is_def_var") ≡ false
  pub no_type : bytes_eq name (codes "type_of") ≡ false
  pub no_compiler : bytes_eq name (codes "eval") ≡ false
  pub no_function : bytes_eq name (codes "is_def_fn") ≡ false

none_of : (a b c d e f g h : Bool) → (a || (b || (c || (d || (e || (f || (g || h))))))) ≡ false → (a ≡ false) × (b ≡ false) × (c ≡ false)
    × (d ≡ false) × (e ≡ false) × (f ≡ false) × (g ≡ false) × (h ≡ false)
none_of true b c d e f g h is = cc
none_of false true c d e f g h is = cc
none_of false false true d e f g h is = cc
none_of false false false true e f g h is = cc
none_of false false false false true f g h is = cc
none_of false false false false false true g h is = cc
none_of false false false false false false true h is = cc
none_of false false false false false false false h is = (refl, refl, refl, refl, refl, refl, refl, is)

pub means_nothing : (name : List ℕ) → has_own_meaning name ≡ false → Means name
means_nothing name plain =
    let none = none_of (bytes_eq name (codes "call")) (bytes_eq name (codes "Fn")) (bytes_eq name (codes "curry"))
    (bytes_eq name (codes "is_shared")) (bytes_eq name (codes "is_def_var")) (bytes_eq name (codes "type_of"))
    (bytes_eq name (codes "eval")) (bytes_eq name (codes "is_def_fn")) plain in
    record {
      no_call = none.0;
      no_pointer = none.1;
      no_curry = none.2;
      no_sharing = none.3;
      no_variable = none.4;
      no_type = none.5;
      no_compiler = none.6;
      no_function = none.7;
    }

-- ---- parameters that are filled

module _ {H : Type 0} where
  -- no values fill nothing
  pub filled_by_none : (names : List (List ℕ)) → filled {H = H} names [] ≡ []
  filled_by_none [] = refl
  filled_by_none (name ∷ names) = refl

  -- where each parameter has a value, they are all filled
  pub filled_whole : (names : List (List ℕ)) (values : List (Dynamic H)) → length values ≡ length names →
      filled names values ≡ parameters names values
  filled_whole [] values is = refl
  filled_whole (name ∷ names) [] is = absurd (omega (arith, is))
  filled_whole (name ∷ names) (v ∷ values) is = ap (λ (entries : List (ScopeEntry H)). new_entry name ReadWrite v ∷ entries)
      (filled_whole names values (omega (arith, is)))

  -- as many are filled as there are values
  pub filled_count : (names : List (List ℕ)) (values : List (Dynamic H)) → length values ≤ length names →
      length (filled names values) ≡ length values
  filled_count [] [] few = refl
  filled_count [] (v ∷ values) few = absurd (omega (arith, few))
  filled_count (name ∷ names) [] few = refl
  filled_count (name ∷ names) (v ∷ values) few = omega (arith, filled_count names values (omega (arith, few)))

  -- one more value fills the next
  pub filled_next : (names : List (List ℕ)) (values : List (Dynamic H)) (v : Dynamic H) → length values < length names →
      filled names (values ++ v ∷ []) ≡ filled names values ++ new_entry (get_or names (length values) []) ReadWrite v ∷ []
  filled_next [] values v few = absurd (omega (arith, few))
  filled_next (name ∷ names) [] v few = ap (λ (entries : List (ScopeEntry H)). new_entry name ReadWrite v ∷ entries) (filled_by_none names)
  filled_next (name ∷ names) (w ∷ values) v few = ap (λ (entries : List (ScopeEntry H)). new_entry name ReadWrite w ∷ entries)
      (filled_next names values v (omega (arith, few)))

  -- so that what was pushed is the next value's
  pub has_filled : (names : List (List ℕ)) (values : List (Dynamic H)) (r : Result (Dynamic H) (EvalAltResult H))
      (before after : List (ScopeEntry H)) → length values < length names → before ≡ filled names values →
      HasFilled names r before after → (v : Dynamic H) × (r ≡ Ok v) × (after ≡ filled names (values ++ v ∷ []))
  has_filled names values (Ok v) before after few is pushed =
      let count : length before ≡ length values = ap length is ∙ filled_count names values (omega (arith, few)) in
      (v, refl, rw (pushed, filled_next names values v few, is, filled_count names values (omega (arith, few))) refl)
  has_filled names values (Err e) before after few is pushed = absurd pushed

  -- a mode makes no handle of a value, and leaves one as it is
  held_so : (cells : Cells H) (mode : AccessMode) (u : Union H) → is_held cells (union_with_mode mode u) ≡ is_held cells u
  held_so cells mode (value.Cell id) = refl
  held_so cells mode _ = refl

  -- the variables of parameters are handles where the values are
  pub parameters_race : (cells : Cells H) (names : List (List ℕ)) (values : List (Dynamic H)) → length values ≡ length names →
      races cells (map value_of (parameters names values)) ≡ races cells values
  parameters_race cells [] [] is = refl
  parameters_race cells [] (v ∷ values) is = absurd (omega (arith, is))
  parameters_race cells (name ∷ names) [] is = absurd (omega (arith, is))
  parameters_race cells (name ∷ names) (v ∷ values) is =
      ap (λ (held : Bool). held || races cells (map value_of (parameters names values))) (held_so cells ReadWrite v.value)
      ∙ ap (λ (more : Bool). is_held cells v.value || more) (parameters_race cells names values (omega (arith, is)))

-- ---- how a plain call begins

-- nor is it a keyword's
no_keyword : (name : List ℕ) (count : ℕ) → Means name → keyword_named name count ≡ None
no_keyword name count m = rw (m.no_call, m.no_pointer, m.no_curry, m.no_sharing, m.no_variable) refl

module _ {H : Type 0} where
  pub plain_named : (token : Option Token) (name : List ℕ) (operation : Operation) (args : List Expr) (captures : Bool) (k : List (Frame H))
      (l : Local H) → token ≡ None → has_own_meaning name ≡ false →
      function_core (keyword_of token name (length args)) operation args captures k l ≡ core (CallNamed operation [] args
      captures false) k l
  plain_named token name operation args captures k l is plain = rw (is, no_keyword name (length args) (means_nothing name plain)) refl

  -- what is passed by its value is not `this`, and no variable
  no_this : (o : ExprLayer) (this : Option (Dynamic H)) → is_by_value o ≡ true → this_in o this ≡ None
  no_this (layer.ThisPtr pos) this by_value = cc
  no_this _ this by_value = refl

no_variable : (o : ExprLayer) → is_by_value o ≡ true → variable_in o ≡ None
no_variable (layer.Variable offset name namespace pos) by_value = cc
no_variable _ by_value = refl

module _ {H : Type 0} (s : Setting H) where
  -- all its arguments are taken by their values
  pub plain_moves : (operation : Operation) (args : List Expr) (captures : Bool) (k : List (Frame H)) (l : Local H) → captures ≡ false →
      starts_by_value args ≡ true →
      named_move s operation [] args captures false k l
      ≡ Go (arguments_core s (ToCall operation [] (plainly false false)) [] args k l)
  plain_moves operation [] captures k l is by_value = rw is refl
  plain_moves operation (arg ∷ args) captures k l is by_value =
      rw (is, no_this (out-Expr arg) l.this by_value, no_variable (out-Expr arg) by_value) refl

  -- ---- how it is dispatched

  -- what is found in the libraries is found
  found_first : (first others : Option (ModuleFn H)) (function : Function H) → option_map function_of first ≡ Some function →
      option_map function_of (option_or first others) ≡ Some function
  found_first None others function is = cc
  found_first (Some m) others function is = is

  plain_found : (name : List ℕ) (count : ℕ) (function : Function H) (l : Local H) →
      in_libraries (key_by name count None) l.around.lib ≡ Some function →
      found_function (key_by name count None) s.offer l.around ≡ Some function
  plain_found name count function l is = found_first (in_modules (key_by name count None) l.around.lib) _ function is

  -- none of the names that mean something besides functions
  plain_called : (call : Call H) (args : List (Dynamic H)) (k : List (Frame H)) (l : Local H) → Means call.operation.name →
      named_core s (plainly false false) args call k l ≡ called_core s (plainly false false) call k l
  plain_called call [] k l m = refl
  plain_called call (v ∷ []) k l m = rw (m.no_type, m.no_compiler) refl
  plain_called call (v ∷ w ∷ []) k l m = rw m.no_function refl
  plain_called call (v ∷ w ∷ u ∷ args) k l m = refl

  module _ (call : FnCallExpr) (lib : List (Module H)) (def : ScriptFuncDef) (plain : IsPlain call lib def) (pos : Position)
      (values : List (Dynamic H)) (k : List (Frame H)) (l : Local H) where
    -- the call by its name, and the function that it means
    abbrev operation : Operation
    operation = record { name = call.name; token = None; at = pos }

    abbrev function : Function H
    function = record { def = def; environ = None }

    -- a cell is held
    pub plain_races : races l.around.cells values ≡ true →
        arguments_there s (ToCall operation [] (plainly false false)) values k l ≡ core (Fail (error.ErrorDataRace call.name pos)) k l
    plain_races is = rw is refl

    -- none is, and the function is entered
    pub plain_enters : l.around.lib ≡ lib → length values ≡ length call.args → races l.around.cells values ≡ false →
        arguments_there s (ToCall operation [] (plainly false false)) values k l
        ≡ core (EnterFunction (entry_of function NoThis true values pos l)) k l
    plain_enters lib_is count free =
        let found : found_function (key_by call.name (length values) None) s.offer l.around ≡ Some function =
        plain_found call.name (length values) function l (rw (lib_is, count) plain.found) in
        rw (free, plain_called (call_of operation values) values k l (means_nothing call.name plain.meaning), found) refl
