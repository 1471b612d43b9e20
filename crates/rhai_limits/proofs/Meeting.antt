-- The error of a limit that a step meets is the control after it.
use Rattle.std.proofs.Common.{refl, subst, sym, arith}
use Rattle.std.proofs.lemmas.Bool.Decides.{nat_tests}
use Rattle.std.specs.Prelude.{◌≡◌, ℕ, Bool, true, false, List, [], ◌∷◌, ◌+◌, length, nat_le}
use Rattle.std.specs.Prelude.{nat_lt, Option, Some, None, Result, Ok, Err}
use Rattle.std.specs.declared.num.NonZeroUsize.{NonZeroUsize}
use Rattle.rhai_machine.specs.Types.{ASTFlags, Dynamic, EvalAltResult, Expr, Ident, Position, StmtBlock, Union}
use Rattle.rhai_values.specs.declared.base.value.Union.TheVariants as value
use Rattle.rhai_errors.specs.declared.error.EvalAltResult.TheVariants as error
use Rattle.rhai_errors.specs.Native.{Reply, Missing, Gives, Faults}
use Rattle.rhai_operators.specs.Answers.{Answer, op_assign_of}
use Rattle.rhai_spots.specs.declared.spot.Spot.{Spot}
use Rattle.rhai_machine.specs.machine.Machine.{Move}
use Rattle.rhai_machine.specs.language.Setting.{Setting}
use Rattle.rhai_machine.specs.language.State.{Local}
use Rattle.rhai_machine.specs.language.Places.{put}
use Rattle.rhai_machine.specs.language.Activations.{Entered}
use Rattle.rhai_machine.specs.language.Turns.{ForLoop}
use Rattle.rhai_machine.specs.language.Bodies.{unless_deep, variables_before}
use Rattle.rhai_machine.specs.language.Frames.{Call, Member, Property, Item, MemberAccess, Attempt, InPlace, AsValue, Update, Control}
use Rattle.rhai_machine.specs.language.Frames.{Frame, Core, on_value, ended, changed, Fail}
use Rattle.rhai_machine.specs.language.Calls.{answered, applied, call_of, operator_core, replied, sized}
use Rattle.rhai_machine.specs.language.Data.{joined_core, part_core, parts_core, unprinted_core, with_part}
use Rattle.rhai_machine.specs.language.Assignment.{answered_core, changed_core, done, operation_of, target_left, update_core, value_core}
use Rattle.rhai_machine.specs.language.Members.{focus_of, focused_on}
use Rattle.rhai_machine.specs.language.Caught.{caught_value, thrown}
use Rattle.rhai_machine.specs.language.Imports.{import_core}
use Rattle.rhai_machine.specs.language.Statements.{define_core, loop_of}
use Rattle.rhai_machine.specs.language.Tries.{branch_with, tried_core}
use Rattle.rhai_machine.specs.language.Walks.{for_core}
use Rattle.rhai_machine.specs.language.Unwinding.{measured_part, operated_core, part_assigned}
use Rattle.rhai_machine.specs.language.Language.{move_at}
use Rattle.rhai_limits.specs.Met.{FailsWith, Meets, MetLimitsFail}
use Rattle.rhai_limits.specs.Met as test

module _ {H : Type 0} where
  -- ---- an error goes on as the control

  on_value_fails : {A : Type 0} (r : Result A (EvalAltResult H)) (e : EvalAltResult H) → r ≡ Err e →
      (go : A → Core H) (k : List (Frame H)) (l : Local H) → (on_value r go k l).control ≡ Fail e
  on_value_fails r e is go k l = rw is

  ended_fails : (r : Result (Dynamic H) (EvalAltResult H)) (e : EvalAltResult H) → r ≡ Err e → ended r ≡ Fail e
  ended_fails r e is = rw is

  changed_fails : (r : Result (Dynamic H) (EvalAltResult H)) (e : EvalAltResult H) → r ≡ Err e → changed r ≡ Fail e
  changed_fails r e is = rw is

  done_fails : {A : Type 0} (r : Result A (EvalAltResult H)) (e : EvalAltResult H) → r ≡ Err e → done r ≡ Fail e
  done_fails r e is = rw is

  measured_fails : (r : Result (Dynamic H) (EvalAltResult H)) (e : EvalAltResult H) → r ≡ Err e → measured_part r ≡ Fail e
  measured_fails r e is = rw is

  answered_fails : (marks : Bool) (reply : Reply H) (r : Result (Dynamic H) (EvalAltResult H)) (e : EvalAltResult H) → r ≡ Err e →
      answered marks reply r ≡ Fail e
  answered_fails false reply r e is = ended_fails r e is
  answered_fails true (Gives v) r e is = changed_fails r e is
  answered_fails true Missing r e is = ended_fails r e is
  answered_fails true (Faults f) r e is = ended_fails r e is

  value_goes : {A : Type 0} (r : Result A (EvalAltResult H)) (x : A) → r ≡ Ok x → (go : A → Core H) (e : EvalAltResult H)
      (k : List (Frame H)) (l : Local H) → (go x).control ≡ Fail e → (on_value r go k l).control ≡ Fail e
  value_goes r x is go e k l met = rw is met

  -- ---- levels, variables and modules

  deep_fails : (deep full : Bool) → deep ≡ true → (e : Entered H) (k : List (Frame H)) (l : Local H) →
      (unless_deep deep full e k l).control ≡ Fail (error.ErrorStackOverflow e.at)
  deep_fails deep full is e k l = rw is

  full_fails : (deep full : Bool) → deep ≡ false → full ≡ true → (e : Entered H) (k : List (Frame H)) (l : Local H) →
      (unless_deep deep full e k l).control ≡ Fail (error.ErrorTooManyVariables e.at)
  full_fails deep full shallow is e k l = rw (shallow, is)

  loop_fails : (full : Bool) → full ≡ true → (loop : ForLoop) (k : List (Frame H)) (l : Local H) →
      (for_core full loop k l).control ≡ Fail (error.ErrorTooManyVariables loop.variable.pos)
  loop_fails full is loop k l = rw is

  branch_fails : (full : Bool) → full ≡ true → (name : Ident) (v : Dynamic H) (f : EvalAltResult H) (branch : StmtBlock)
      (k : List (Frame H)) (l : Local H) → (branch_with full name v f branch k l).control ≡ Fail (error.ErrorTooManyVariables name.pos)
  branch_fails full is name v f branch k l = rw is

  import_fails : (full : Bool) → full ≡ true → (path : Expr) (alias : Option Ident) (at : Position) (k : List (Frame H)) (l : Local H) →
      (import_core full path alias at k l).control ≡ Fail (error.ErrorTooManyModules at)
  import_fails full is path alias at k l = rw is

  module _ (s : Setting H) where
    define_fails : (shadows full : Bool) → shadows ≡ false → full ≡ true → (ident : Ident) (v : Expr) (index : Option NonZeroUsize)
        (options : ASTFlags) (restoring : Bool) (at : Position) (k : List (Frame H)) (l : Local H) →
        (define_core s shadows full ident v index options restoring at k l).control ≡ Fail (error.ErrorTooManyVariables at)
    define_fails shadows full free is ident v index options restoring at k l = rw (free, is)

    tried_fails : (catches : Bool) (there : Option Ident) (name : Ident) → catches ≡ true → there ≡ Some name → (f : EvalAltResult H)
        (branch : StmtBlock) (k : List (Frame H)) (l : Local H) → nat_le s.limits.max_variables (length l.scope) ≡ true →
        (tried_core s catches there f branch k l).control ≡ Fail (error.ErrorTooManyVariables name.pos)
    tried_fails catches there name is has f branch k l full = rw (is, has)
        (branch_fails (nat_le s.limits.max_variables (length l.scope)) full name (caught_value (thrown f) l.around.source f) f branch k l)

    -- ---- texts and operators

    part_fails : (text part : List ℕ) (at : Position) (e : EvalAltResult H) → with_part s.limits text part at ≡ Err e → (rest : List Expr)
        (k : List (Frame H)) (l : Local H) → (part_core s text part at rest k l).control ≡ Fail e
    part_fails text part at e is rest k l = on_value_fails (with_part s.limits text part at) e is (λ more. parts_core more rest k l) k l

    joined_fails : (u : Union H) (part : List ℕ) → u ≡ value.Str part →
        (v : Dynamic H) (text : List ℕ) (at : Position) (e : EvalAltResult H) →
        with_part s.limits text part at ≡ Err e → (rest : List Expr) (k : List (Frame H)) (l : Local H) →
        (joined_core s u v text at rest k l).control ≡ Fail e
    joined_fails u part is v text at e met rest k l = rw is (part_fails text part at e met rest k l)

    unprinted_fails : (system : Bool) → system ≡ false → (f : EvalAltResult H) (text type : List ℕ) (at : Position)
        (e : EvalAltResult H) →
        with_part s.limits text type at ≡ Err e → (rest : List Expr) (k : List (Frame H)) (l : Local H) →
        (unprinted_core s system f text type at rest k l).control ≡ Fail e
    unprinted_fails system is f text type at e met rest k l = rw is (part_fails text type at e met rest k l)

    operator_fails : (builtin : Option (Result (Dynamic H) (EvalAltResult H))) (r : Result (Dynamic H) (EvalAltResult H)) →
        builtin ≡ Some r → (call : Call H) (e : EvalAltResult H) → applied s.limits r call.operation.at ≡ Err e → (k : List (Frame H))
        (l : Local H) → (operator_core s builtin call k l).control ≡ Fail e
    operator_fails builtin r is call e met k l = rw is (ended_fails (applied s.limits r call.operation.at) e met)

    -- ---- assignments

    update_fails : (answer : Answer H) (r : Result (Dynamic H) (EvalAltResult H)) → answer ≡ Some r →
        (u : Update H) (e : EvalAltResult H) →
        applied s.limits r u.at ≡ Err e → (k : List (Frame H)) (l : Local H) → (update_core s answer u k l).control ≡ Fail e
    update_fails answer r is u e met k l = rw is (on_value_fails (applied s.limits r u.at) e met _ k l)

    in_place_fails : (attempt : Attempt) → attempt ≡ InPlace → (reply : Reply H) (v : Dynamic H) → reply ≡ Gives v → (u : Update H)
        (e : EvalAltResult H) (k : List (Frame H)) (l : Local H) → (changed_core s (sized s.limits v u.at) u k l).control ≡ Fail e →
        (answered_core s attempt reply u k l).control ≡ Fail e
    in_place_fails attempt is reply v gives u e k l met = rw (is, gives) met

    missing_fails : (attempt : Attempt) → attempt ≡ InPlace → (reply : Reply H) → reply ≡ Missing → (u : Update H)
        (r : Result (Dynamic H) (EvalAltResult H)) → op_assign_of u.operator u.target u.operand ≡ Some r → (e : EvalAltResult H) →
        applied s.limits r u.at ≡ Err e → (k : List (Frame H)) (l : Local H) → (answered_core s attempt reply u k l).control ≡ Fail e
    missing_fails attempt is reply missing u r there e met k l = rw (is, missing)
        (update_fails (op_assign_of u.operator u.target u.operand) r there (record u { attempt = AsValue }) e met k l)

    as_value_fails : (attempt : Attempt) → attempt ≡ AsValue → (reply : Reply H) (u : Update H) (e : EvalAltResult H) (k : List (Frame H))
        (l : Local H) → (value_core s (replied s.limits s.host_type reply (Some u.target) (u.operand ∷ []) (operation_of u) false
        l.around.cells) u k l).control ≡ Fail e → (answered_core s attempt reply u k l).control ≡ Fail e
    as_value_fails attempt is reply u e k l met = rw is met

    target_fails : (r : Result (Dynamic H) (EvalAltResult H)) (w : Dynamic H) → r ≡ Ok w → (u : Update H) (e : EvalAltResult H) →
        sized s.limits u.target u.target_at ≡ Err e → (k : List (Frame H)) (l : Local H) → (changed_core s r u k l).control ≡ Fail e
    target_fails r w is u e met k l = rw is (done_fails (sized s.limits u.target u.target_at) e met)

    value_fails : (r : Result (Dynamic H) (EvalAltResult H)) (v : Dynamic H) → r ≡ Ok v → (u : Update H) (e : EvalAltResult H) →
        sized s.limits v u.target_at ≡ Err e → (k : List (Frame H)) (l : Local H) → (value_core s r u k l).control ≡ Fail e
    value_fails r v is u e met k l = rw is (done_fails (sized s.limits v u.target_at) e met)

    assigned_part_fails : (put : Option (Dynamic H)) (whole : Dynamic H) → put ≡ Some whole → (above : Dynamic H) (at : Spot)
        (op_at : Position) (e : EvalAltResult H) (k : List (Frame H)) (l : Local H) → sized s.limits (focus_of l) op_at ≡ Err e →
        (part_assigned s put above at op_at k l).control ≡ Fail e
    assigned_part_fails put whole is above at op_at e k l met = rw is (measured_fails (sized s.limits (focus_of l) op_at) e met)

    item_fails : (member : Member H) (index : Dynamic H) → member ≡ Item index →
        (access : MemberAccess H) (v : Dynamic H) (op_at : Position)
        (e : EvalAltResult H) → sized s.limits v op_at ≡ Err e → (k : List (Frame H)) (l : Local H) →
        (operated_core s member access v op_at k l).control ≡ Fail e
    item_fails (Item other) index is access v op_at e met k l = on_value_fails (sized s.limits v op_at) e met _ k l
    item_fails (Property name at) index is access v op_at e met k l = cc

    -- ---- each step

    module _ (reply : Reply H) (left : Option (Dynamic H)) where
      -- an update as its native leaves it, and the state that its target is written back to
      abbrev left_of : Update H → Update H
      left_of u = record u { target = target_left u left }

      abbrev back_in : Update H → Local H → Local H
      back_in u l = put u.place (target_left u left) l

      -- where a step is another move that fails, it fails
      by_move : (v w : Move H (Core H)) → v ≡ w → (e : EvalAltResult H) → FailsWith reply left e w → FailsWith reply left e v
      by_move v w is e fails = subst (λ x. FailsWith reply left e x) (sym is) fails

      met_fails : {c : Control H} {k : List (Frame H)} {l : Local H} {e : EvalAltResult H} → Meets s reply left c k l e →
          FailsWith reply left e (move_at s c k l)
      met_fails (test.level {e = f} {k = k} {l = l} deep) =
          let is : nat_lt s.limits.max_call_levels f.level ≡ true = grind (arith, nat_tests) in
          deep_fails (nat_lt s.limits.max_call_levels f.level)
          (nat_lt s.limits.max_variables (length (variables_before f.is_fresh l.scope) + length f.def.params)) is f k l
      met_fails (test.parameters {e = f} {k = k} {l = l} shallow many) =
          let is : nat_lt s.limits.max_call_levels f.level ≡ false = grind (arith, nat_tests) in
          let full : nat_lt s.limits.max_variables (length (variables_before f.is_fresh l.scope) + length f.def.params) ≡ true =
          grind (arith, nat_tests) in
          full_fails _ _ is full f k l
      met_fails (test.variable {ident = ident} {v = v} {options = options} {at = at} {restoring = restoring} {k = k} {l = l} free many) =
          let full : nat_le s.limits.max_variables (length l.scope) ≡ true = grind (arith, nat_tests) in
          define_fails _ _ free full ident v None options restoring at k l
      met_fails (test.loop_variables {name = name} {counter = counter} {items = items} {body = body} {k = k} {l = l} full) =
          loop_fails _ full (loop_of name counter items body) k l
      met_fails (test.catch_name {f = f} {name = name} {ident = ident} {branch = branch} {k = k} {l = l} is has many) =
          let full : nat_le s.limits.max_variables (length l.scope) ≡ true = grind (arith, nat_tests) in
          tried_fails _ _ ident is has f branch k l full
      met_fails (test.modules {path = path} {alias = alias} {at = at} {k = k} {l = l} many) =
          let full : nat_le s.limits.max_modules l.around.num_modules_loaded ≡ true = grind (arith, nat_tests) in
          import_fails _ full path alias at k l
      met_fails (test.array {k = k} {l = l} {e = e} met) = on_value_fails _ e met _ k l
      met_fails (test.map {k = k} {l = l} {e = e} met) = on_value_fails _ e met _ k l
      met_fails (test.text {x = x} {text = text} {part = part} {at = at} {rest = rest} {k = k} {l = l} {e = e} is has met) =
          value_goes _ x is _ e k l (joined_fails x.value part has x text at e met rest k l)
      met_fails (test.printed_text {text = text} {at = at} {rest = rest} {k = k} {l = l} {e = e} met) =
          part_fails text _ at e met rest k l
      met_fails (test.unprinted_text {f = f} {text = text} {type = type} {at = at} {rest = rest} {k = k} {l = l} {e = e} is met) =
          unprinted_fails _ is f text type at e met rest k l
      met_fails (test.unary {x = x} {operation = operation} {k = k} {l = l} {r = r} {e = e} is there met) =
          value_goes _ x is _ e k l (operator_fails _ r there (call_of operation (x ∷ [])) e met k l)
      met_fails (test.binary {x = x} {y = y} {operation = operation} {k = k} {l = l} {r = r} {e = e} is there met) =
          value_goes _ y is _ e k l (operator_fails _ r there (call_of operation (x ∷ y ∷ [])) e met k l)
      met_fails (test.native {e = e} call from first rest j m is met) = by_move _ _ is e (answered_fails call.marks reply _ e met)
      met_fails (test.assigned {e = e} token assignment target v r j m is there met) =
          let u : Update H = record {
            attempt = InPlace;
            operator = token;
            at = assignment.op.position;
            place = target.place;
            target = target.value;
            operand = v;
            target_at = assignment.at;
          } in
          by_move _ _ is e (update_fails _ r there u e met j m)
      met_fails (test.update_answer {e = e} u v j m is at gives met) = by_move _ _ is e
          (in_place_fails u.attempt at reply v gives (left_of u) e j (back_in u m) (on_value_fails _ e met _ j (back_in u m)))
      met_fails (test.update_target {e = e} u v w j m is at gives fits met) = by_move _ _ is e
          (in_place_fails u.attempt at reply v gives (left_of u) e j (back_in u m)
          (target_fails _ w fits (left_of u) e met j (back_in u m)))
      met_fails (test.update_builtin {e = e} u r j m is at missing there met) = by_move _ _ is e
          (missing_fails u.attempt at reply missing (left_of u) r there e met j (back_in u m))
      met_fails (test.value_answer {e = e} u j m is at met) = by_move _ _ is e
          (as_value_fails u.attempt at reply (left_of u) e j (back_in u m) (on_value_fails _ e met _ j (back_in u m)))
      met_fails (test.value_target {e = e} u v j m is at gives met) = by_move _ _ is e
          (as_value_fails u.attempt at reply (left_of u) e j (back_in u m)
          (value_fails _ v gives (left_of u) e met j (back_in u m)))
      met_fails (test.part {above = above} {whole = whole} {at = at} {op_at = op_at} {k = k} {l = l} {e = e} is met) =
          assigned_part_fails _ whole is above at op_at e k l met
      met_fails (test.place {k = k} {l = l} {e = e} met) = on_value_fails _ e met _ k l
      met_fails (test.item {index = index} {above = above} {access = access} {op_at = op_at} {k = k} {l = l} {e = e} is met) =
          item_fails access.member index is access (focus_of l) op_at e met k (focused_on above l)

pub met_limits_fail : {H : Type 0} (s : Setting H) → MetLimitsFail s
met_limits_fail s = record { operations = λ at c. refl; others = λ reply left c k l e met. met_fails s reply left met }
