-- A binary operator on operands that stand: its charges, and what it gives.
use Rattle.std.proofs.Common.{◌≡◌, ◌<◌, ◌≤◌, ◌+◌, ℕ, Bool, ◌&&◌, nat_lt, arith, true, false, List, [], ◌∷◌, Option}
use Rattle.std.proofs.Common.{Some, None, Result, Ok, Err, refl, sym, ap, ◌∙◌, ℤ, if◌then◌else◌}
use Rattle.std.proofs.lemmas.Bool.{le-ltb}
use Rattle.std.specs.Prelude.{option_map}
use Rattle.rhai_tree.specs.declared.position.Position.{Position}
use Rattle.rhai_tree.specs.declared.token.Token.{Token}
use Rattle.rhai_tree.specs.declared.expr.Expr.{Expr, out-Expr}
use Rattle.rhai_tree.specs.declared.expr.Expr.TheOpen as layer
use Rattle.rhai_tree.specs.declared.expr.FnCallExpr.{FnCallExpr}
use Rattle.rhai_tree.specs.Positions.{position_of}
use Rattle.rhai_values.specs.declared.base.value.Dynamic.{Dynamic}
use Rattle.rhai_values.specs.declared.base.value.Union.{Union}
use Rattle.rhai_values.specs.declared.base.value.Union.TheVariants as value
use Rattle.rhai_values.specs.declared.base.value.Union.TheVariants.{outs-Bool, outs-Int}
use Rattle.rhai_values.specs.declared.base.value.FnPtrKind.TheFolds.{fold_out-Dynamic, fold_out-Union}
use Rattle.rhai_values.specs.Copy.{copy_of, copy_union, plain}
use Rattle.rhai_values.specs.DataSize.{data_sizes, exceeded, fault_text, is_above, sizes, too_large}
use Rattle.rhai_values.specs.declared.base.size.DataSizes.{DataSizes}
use Rattle.rhai_state.specs.declared.scope.Scope.{Scope}
use Rattle.rhai_lookups.specs.declared.run.RunState.{RunState}
use Rattle.rhai_errors.specs.declared.error.EvalAltResult.{EvalAltResult}
use Rattle.rhai_errors.specs.declared.error.EvalAltResult.TheVariants as error
use Rattle.rhai_state.specs.declared.limits.Limits.{Limits}
use Rattle.rhai_state.specs.Scope.{entries_of}
use Rattle.rhai_operators.specs.Compare.{type_of}
use Rattle.rhai_operators.specs.Operators.{Outcome, binary_at, of_integers, op_assign_at}
use Rattle.rhai_operators.specs.Answers.{Answer, IsAnswer, answer, binary_of, op_assign_of}
use Rattle.rhai_operators.specs.Answers as operators
use Rattle.rhai_machine.specs.machine.Machine.{Go}
use Rattle.rhai_machine.specs.machine.Memory.{here, next, ◌⨾◌, Leads}
use Rattle.rhai_machine.specs.machine.Point.{after}
use Rattle.rhai_machine.specs.language.Setting.{Rules, limit_under, cut}
use Rattle.rhai_machine.specs.language.State.{Held, State, Answers}
use Rattle.rhai_machine.specs.language.Values.{Cells, bool_value, flat_union, is_handle}
use Rattle.rhai_machine.specs.language.Calls.{applied, call_at, operation_at, operator_core, sized_by}
use Rattle.rhai_machine.specs.language.Frames.{Operation, Call, Frame, core, on_value, ended}
use Rattle.rhai_machine.specs.language.Frames.{Argument, OpenExpr, LeftOperand, RightOperand}
use Rattle.rhai_machine.specs.language.Frames.{Back, Fail}
use Rattle.rhai_machine.specs.language.Runs.{at, with_core}
use Rattle.rhai_machine.specs.language.Language.{machine}
use Rattle.rhai_steps.specs.States.{state_of}
use Rattle.rhai_steps.proofs.Pieces.{step_by}
use Rattle.rhai_steps.proofs.Operating.{built}
use Rattle.rhai_operators.specs.Direct.{integer_in, truth_given, truth_in}
use Rattle.rhai_operands.specs.Standing.{compared, compared_known, integer_of, standing, truth_answered, operand_pair, unless_handle}
use Rattle.rhai_operands.proofs.Standing.{argument_goes, argument_refused, standing_plain}

module _ {S H : Type 0} (rules : Rules S H) where
  -- an operator call begins with its first operand
  pub opens_binary : (call : FnCallExpr) (token : Token) (left right : Expr) (pos : Position) (k : List (Frame H)) (l : State S H) →
      rules.setting.offer.fast_operators ≡ true → call.op_token ≡ Some token → call.args ≡ left ∷ right ∷ [] →
      Leads (machine rules) (cut rules) (at (OpenExpr (layer.Expr::FnCall call pos)) k l)
      (at (Argument left) (LeftOperand (operation_at call.name token pos) (position_of left) right ∷ k) l)
  unfolding after
  opens_binary call token left right pos k l fast is args =
      step_by rules _ _ (Go (core (Argument left) (LeftOperand (operation_at call.name token pos) (position_of left) right ∷ k) l.local))
      (rw (fast, is, args) refl) here

and_false : (b : Bool) → (b && false) ≡ false
and_false true = refl
and_false false = refl

-- nothing is above a limit
not_above : (limit : ℕ) → is_above limit 0 ≡ false
not_above limit = ap (λ (b : Bool). nat_lt 0 limit && b) (le-ltb _ _ (omega arith)) ∙ and_false (nat_lt 0 limit)

module _ {H : Type 0} where
  -- a copy of a value that is no handle is none
  pub flat_copy : (cells : Cells H) (u : Union H) (v : Dynamic H) (pos : Position) → is_handle u ≡ false →
      flat_union cells (copy_union u) v pos ≡ Ok v
  flat_copy cells (value.Cell id) v pos h = cc
  flat_copy cells _ v pos h = refl

  -- it is of the same type
  type_copied : (u : Union H) → type_of (copy_union u) ≡ type_of u
  type_copied value.Unit = refl
  type_copied _ = refl

  -- an operator gives for copies what it gives for the values
  binary_at_copied : (token : Token) (u w : Union H) → binary_at token (copy_union u) (copy_union w) ≡ binary_at token u w
  binary_at_copied token (value.Int m) (value.Int n) = refl
  binary_at_copied token (value.Int m) _ = refl
  binary_at_copied token (value.Bool m) (value.Bool n) = refl
  binary_at_copied token (value.Bool m) _ = refl
  binary_at_copied token (value.Char m) (value.Char n) = refl
  binary_at_copied token (value.Char m) _ = refl
  binary_at_copied token (value.Str m) (value.Str n) = refl
  binary_at_copied token (value.Str m) _ = refl
  binary_at_copied token value.Unit value.Unit = refl
  binary_at_copied token value.Unit _ = refl
  binary_at_copied token (value.Host x) w = refl
  binary_at_copied token (value.Cell id) w = refl
  binary_at_copied token _ w = rw (type_copied w) refl

  pub binary_copied : (token : Token) (x y : Dynamic H) → binary_of token (copy_of x) (copy_of y) ≡ binary_of token x y
  binary_copied token x y = ap answer (binary_at_copied token x.value y.value)

  -- so does one before an `=`, for a copy on its right
  assign_at_copied : (token : Token) (u w : Union H) → op_assign_at token u (copy_union w) ≡ op_assign_at token u w
  assign_at_copied token (value.Int m) (value.Int n) = refl
  assign_at_copied token (value.Int m) _ = refl
  assign_at_copied token (value.Bool m) (value.Bool n) = refl
  assign_at_copied token (value.Bool m) _ = refl
  assign_at_copied token (value.Str m) (value.Str n) = refl
  assign_at_copied token (value.Str m) _ = refl
  assign_at_copied token _ w = refl

  pub assign_copied : (token : Token) (x y : Dynamic H) → op_assign_of token x (copy_of y) ≡ op_assign_of token x y
  assign_copied token x y = ap answer (assign_at_copied token x.value y.value)

-- a truth value has no data
truth_sizes : (H : Type 0) (b : Bool) → data_sizes (bool_value {H = H} b) ≡ sizes 0 0 0
truth_sizes H b = rw (fold_out-Dynamic, fold_out-Union, outs-Bool) refl

nothing_exceeds : (strings arrays maps : ℕ) → option_map fault_text (exceeded strings arrays maps (sizes 0 0 0)) ≡ None
nothing_exceeds strings arrays maps = rw (not_above strings, not_above arrays, not_above maps) refl

truth_fits : (H : Type 0) (strings arrays maps : ℕ) (b : Bool) → too_large strings arrays maps (bool_value {H = H} b) ≡ None
truth_fits H strings arrays maps b =
    ap (λ (held : DataSizes). option_map fault_text (exceeded strings arrays maps held)) (truth_sizes H b) ∙ nothing_exceeds strings
    arrays maps

truth_sized : (H : Type 0) (limits : Limits) (b : Bool) (pos : Position) →
    applied limits (Ok (bool_value {H = H} b)) pos ≡ Ok (bool_value b)
truth_sized H limits b pos = ap (λ fault. sized_by {H = H} limits fault (bool_value b) pos)
    (truth_fits H limits.max_string_size limits.max_array_size limits.max_map_size b)

-- nor does an integer
integer_sizes : (H : Type 0) (z : ℤ) → data_sizes (plain {H = H} (value.Int z)) ≡ sizes 0 0 0
integer_sizes H z = rw (fold_out-Dynamic, fold_out-Union, outs-Int) refl

integer_fits : (H : Type 0) (strings arrays maps : ℕ) (z : ℤ) → too_large strings arrays maps (plain {H = H} (value.Int z)) ≡ None
integer_fits H strings arrays maps z =
    ap (λ (held : DataSizes). option_map fault_text (exceeded strings arrays maps held)) (integer_sizes H z) ∙ nothing_exceeds strings
    arrays maps

pub integer_sized : (H : Type 0) (limits : Limits) (z : ℤ) (pos : Position) →
    applied limits (Ok (plain {H = H} (value.Int z))) pos ≡ Ok (plain (value.Int z))
integer_sized H limits z pos = ap (λ fault. sized_by {H = H} limits fault (plain (value.Int z)) pos)
    (integer_fits H limits.max_string_size limits.max_array_size limits.max_map_size z)

-- a truth value takes no memory, so it is answered where it is wanted
module _ {H : Type 0} where
  error_given : (e : EvalAltResult H) (v : Dynamic H) (u : Union H) → u ≡ v.value → IsAnswer (Some (Err e)) (Some (Ok v)) →
      None ≡ truth_in u
  error_given e v (value.Bool b) is given = let same : Some (Err e) ≡ Some (Ok v) = given.exact (rw (← is) refl) in cc
  error_given e v _ is given = refl

  truth_same : (result wanted : Answer H) → IsAnswer result wanted → truth_answered result ≡ truth_answered wanted
  truth_same None None is = refl
  truth_same None (Some w) is = let no : false ≡ true = is.found in cc
  truth_same (Some (Ok v)) wanted is = ap (λ (a : Answer H). truth_answered a) (is.value tt)
  truth_same (Some (Err e)) None is = let no : true ≡ false = is.found in cc
  truth_same (Some (Err e)) (Some (Ok v)) is = error_given e v v.value refl is
  truth_same (Some (Err e)) (Some (Err x)) is = refl

  pub truth_came : (outcome : Result (Dynamic H) (EvalAltResult H)) (result wanted : Answer H) → result ≡ Some outcome →
      IsAnswer result wanted → truth_answered (Some outcome) ≡ truth_answered wanted
  truth_came outcome result wanted is given = ap (λ (a : Answer H). truth_answered a) (sym is) ∙ truth_same result wanted given

-- where an operator says a truth value, both operands stand, and that is its answer
module _ {H : Type 0} (token : Token) where
  truth_value_is : (u : Union H) (holds : Bool) → truth_in u ≡ Some holds → answer {H = H} (Some (Ok u)) ≡ Some (Ok (bool_value holds))
  truth_value_is (value.Bool b) holds is = let same : b ≡ holds = cc in ap (λ (h : Bool). Some (Ok (bool_value h))) same
  truth_value_is _ holds is = cc

  truth_is : (o : Outcome H) (holds : Bool) → truth_answered (answer o) ≡ Some holds → answer o ≡ Some (Ok (bool_value holds))
  truth_is None holds is = cc
  truth_is (Some (Err why)) holds is = cc
  truth_is (Some (Ok u)) holds is = truth_value_is u holds is

  pub compared_stands : (left right : Option (Dynamic H)) (holds : Bool) → compared token left right ≡ Some holds →
      (x : Dynamic H) × (y : Dynamic H) × (left ≡ Some x) × (right ≡ Some y) × (binary_of token x y ≡ Some (Ok (bool_value holds)))
  compared_stands None right holds is = cc
  compared_stands (Some x) None holds is = cc
  compared_stands (Some x) (Some y) holds is = (x, y, refl, refl, truth_is (binary_at token x.value y.value) holds is)

-- a call's two operands are all that it has
pub two_args : (args : List Expr) (left right : Expr) → Some (left, right) ≡ operand_pair args → args ≡ left ∷ right ∷ []
two_args [] left right is = cc
two_args (x ∷ []) left right is = cc
two_args (x ∷ y ∷ []) left right is = let same : (left, right) ≡ (x, y) = cc in
    ap (λ (pair : Expr × Expr). pair.0 ∷ pair.1 ∷ []) (sym same)
two_args (x ∷ y ∷ z ∷ rest) left right is = cc

-- the integer of a variable is that of its value, since a handle is none
module _ {H : Type 0} where
  integer_unless : (u : Union H) (v : Dynamic H) → u ≡ v.value → integer_of (if is_handle u then None else Some v) ≡ integer_in u
  integer_unless (value.Cell id) v is = refl
  integer_unless _ v is = ap integer_in (sym is)

  pub integer_is : (o : Option (Dynamic H)) (v : Dynamic H) → o ≡ Some v → integer_in v.value ≡ integer_of (unless_handle o)
  integer_is o v is = rw is (sym (integer_unless v.value v refl))

-- nothing is said of one integer alone
one_known : {A : Type 0} (H : Type 0) (token : Token) (x : Option ℤ) (holds : Bool) → compared_known H token x None ≡ Some holds → A
one_known H token None holds is = cc
one_known H token (Some m) holds is = cc

-- what an operator says of two integers is what it says of their values
module _ {H : Type 0} (token : Token) where
  given_answered : (o : Outcome H) → truth_answered (answer o) ≡ truth_given o
  given_answered None = refl
  given_answered (Some (Ok u)) = refl
  given_answered (Some (Err why)) = refl

  known_at : (u w : Union H) (holds : Bool) → compared_known H token (integer_in u) (integer_in w) ≡ Some holds →
      truth_answered (answer (binary_at token u w)) ≡ Some holds
  known_at (value.Int m) (value.Int n) holds is = given_answered (of_integers token m n) ∙ is
  known_at (value.Int m) _ holds is = cc
  known_at _ w holds is = cc

  pub known_stands : (left right : Option (Dynamic H)) (holds : Bool) →
      compared_known H token (integer_of left) (integer_of right) ≡ Some holds → compared token left right ≡ Some holds
  known_stands None right holds is = cc
  known_stands (Some x) None holds is = one_known H token (integer_in x.value) holds is
  known_stands (Some x) (Some y) holds is = known_at x.value y.value holds is

module _ {S H : Type 0} (rules : Rules S H) (t : S) (scope : Scope H) (held : Held H) (call : FnCallExpr) (token : Token)
    (left right : Expr) (pos : Position) (x y : Dynamic H) (k : List (Frame H)) (fast : rules.setting.offer.fast_operators ≡ true)
    (is_token : call.op_token ≡ Some token) (args : call.args ≡ left ∷ right ∷ [])
    (left_stands : standing (out-Expr left) (entries_of scope) ≡ Some x) (right_stands : standing (out-Expr right) (entries_of scope) ≡
    Some y)
  where
    -- the operator, its frames, and its operands
    abbrev operation : Operation
    operation = operation_at call.name token pos

    abbrev on_left : List (Frame H)
    on_left = LeftOperand operation (position_of left) right ∷ k

    abbrev on_right : List (Frame H)
    on_right = RightOperand operation (copy_of x) (position_of right) ∷ k

    abbrev made : Call H
    made = call_at call.name token pos (copy_of x ∷ copy_of y ∷ [])

    module _ (old new : RunState H) where
      -- the left operand is refused
      pub left_refused : (e : EvalAltResult H) → limit_under rules ≤ old.num_operations →
          e ≡ error.ErrorTooManyOperations (position_of left) → new ≡ old →
          Leads (machine rules) (cut rules) (at (OpenExpr (layer.Expr::FnCall call pos)) k (state_of t old scope held))
          (at (Fail e) k (state_of t new scope
          held))
      unfolding after
      left_refused e full is same =
          opens_binary rules call token left right pos k (state_of t old scope held) fast is_token args
          ⨾ argument_refused rules left x t old new scope held left_stands e full is same on_left ⨾ next here

      -- or there
      left_there : old.num_operations < limit_under rules → new ≡ record old { num_operations = old.num_operations + 1 } →
          Leads (machine rules) (cut rules) (at (OpenExpr (layer.Expr::FnCall call pos)) k (state_of t old scope held))
          (at (Argument right) on_right (state_of t new scope held))
      left_there room is =
          opens_binary rules call token left right pos k (state_of t old scope held) fast is_token args
          ⨾ argument_goes rules left x t old new scope held left_stands room is on_left
          ⨾ step_by rules _ _ (Go (core (Argument right) on_right (state_of t new scope held).local))
          (ap (λ (r : Result (Dynamic H) (EvalAltResult H)). Go (on_value r
          (λ v. core (Argument right) (RightOperand operation v (position_of right) ∷ k) (state_of t new scope held).local) k
          (state_of t new scope held).local)) (flat_copy (state_of t new scope held).local.around.cells x.value (copy_of x)
          (position_of left)
          (standing_plain (out-Expr left) (entries_of scope) x left_stands))) here

    module _ (old mid new : RunState H) (room : old.num_operations < limit_under rules)
        (is : mid ≡ record old { num_operations = old.num_operations + 1 }) where
      -- the right operand is refused
      pub right_refused : (e : EvalAltResult H) → limit_under rules ≤ mid.num_operations →
          e ≡ error.ErrorTooManyOperations (position_of right) → new ≡ mid →
          Leads (machine rules) (cut rules) (at (OpenExpr (layer.Expr::FnCall call pos)) k (state_of t old scope held))
          (at (Fail e) k (state_of t new scope
          held))
      unfolding after
      right_refused e full refusal same =
          left_there old mid room is
          ⨾ argument_refused rules right y t mid new scope held right_stands e full refusal same on_right ⨾ next here

      module _ (more : mid.num_operations < limit_under rules) (last : new ≡ record mid { num_operations = mid.num_operations + 1 }) where
        -- or there, and the operator comes
        both_there : Leads (machine rules) (cut rules) (at (OpenExpr (layer.Expr::FnCall call pos)) k (state_of t old scope held))
            (with_core (operator_core rules.setting (binary_of token (copy_of x) (copy_of y)) made k (state_of t new scope held).local)
            (state_of t new scope held))
        both_there =
            left_there old mid room is
            ⨾ argument_goes rules right y t mid new scope held right_stands more last on_right
            ⨾ step_by rules _ _ (Go (operator_core rules.setting (binary_of token (copy_of x) (copy_of y)) made k
            (state_of t new scope held).local))
            (ap (λ (r : Result (Dynamic H) (EvalAltResult H)). Go (on_value r
            (λ v. operator_core rules.setting (binary_of token (copy_of x) v) (call_at call.name token pos (copy_of x ∷ v ∷ [])) k
            (state_of t new scope held).local) k (state_of t new scope held).local))
            (flat_copy (state_of t new scope held).local.around.cells y.value (copy_of y) (position_of right)
            (standing_plain (out-Expr right) (entries_of scope) y right_stands))) here

        -- what it gives, applied at the operator
        pub operates : (answer : operators.Answer H) (outcome result : Result (Dynamic H) (EvalAltResult H)) →
            (operators.HasMemory answer → answer ≡ binary_of token x y) → answer ≡ Some outcome →
            Answers result (applied rules.setting.limits outcome pos) →
            Leads (machine rules) (cut rules) (at (OpenExpr (layer.Expr::FnCall call pos)) k (state_of t old scope held))
            (at (ended result) k (state_of t new scope held))
        operates answer outcome result value is answers = both_there
            ⨾ built rules made k (state_of t new scope held) answer (binary_of token (copy_of x) (copy_of y)) outcome result
            (λ m. value m ∙ sym (binary_copied token x y)) is answers

        -- a truth value
        pub compares : (holds : Bool) → binary_of token x y ≡ Some (Ok (bool_value holds)) →
            Leads (machine rules) (cut rules) (at (OpenExpr (layer.Expr::FnCall call pos)) k (state_of t old scope held))
            (at (Back (bool_value holds)) k (state_of t new scope held))
        compares holds is = both_there ⨾ rw (binary_copied token x y, is, truth_sized H rules.setting.limits holds pos) here
