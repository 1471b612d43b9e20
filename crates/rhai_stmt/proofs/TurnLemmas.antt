-- What a variable that was written, or was not, leads a turn to.
use Rattle.std.proofs.Common.{◌≡◌, ◌≢◌, ◌+◌, ◌^◌, ◌∷◌, ◌∙◌, ℕ, [], Bool, false, true, List, map, Option, Some, Result, Ok, Err, refl, sym}
use Rattle.std.proofs.Common.{ap}
use Rattle.std.specs.Prelude.{nat_le, pos}
use Rattle.rhai_tree.specs.declared.expr.Ident.{Ident}
use Rattle.rhai_tree.specs.declared.expr.Stmt.{Stmt}
use Rattle.rhai_values.specs.declared.base.value.Dynamic.{Dynamic}
use Rattle.rhai_errors.specs.declared.error.EvalAltResult.{EvalAltResult}
use Rattle.rhai_state.specs.declared.scope.ScopeEntry.{ScopeEntry}
use Rattle.rhai_errors.specs.Errors.{is_out_of_memory}
use Rattle.rhai_state.specs.Scope.{name_of}
use Rattle.rhai_machine.specs.machine.Machine.{Go}
use Rattle.rhai_machine.specs.machine.Memory.{here, Leads}
use Rattle.rhai_machine.specs.language.Setting.{Rules, cut}
use Rattle.rhai_machine.specs.language.State.{Local, State}
use Rattle.rhai_machine.specs.language.Places.{Place, put}
use Rattle.rhai_machine.specs.language.Turns.{ForLoop, Turns, integer_value, next_turn}
use Rattle.rhai_machine.specs.language.Values.{flat}
use Rattle.rhai_machine.specs.language.Walks.{counted_core, counters, for_move, item_core, place_of_entry, turn_core}
use Rattle.rhai_tree.specs.Positions.{position_of}
use Rattle.rhai_machine.specs.language.Frames.{Core, Enter, Fail, ForBody, ForItem, ForTurn, Frame, core, on_value}
use Rattle.rhai_machine.specs.language.Runs.{with_core, at}
use Rattle.rhai_machine.proofs.Places.{put_names}
use Rattle.rhai_machine.specs.language.Language.{machine}
use Rattle.rhai_steps.proofs.Pieces.{or_runs_out, step_by}
use Rattle.rhai_context.specs.Ends.{came, error_in}
use Rattle.rhai_stmt.specs.Loops.{entered_at}
use Rattle.rhai_stmt.specs.Variables.{Wrote, seen_as}

module _ {H : Type 0} (v : Dynamic H) (l : Local H) (entries : List (ScopeEntry H)) (cells : List (Option (Dynamic H))) where
  pub wrote_on : (done : Bool) (e : Option (EvalAltResult H)) (place : Result Place (EvalAltResult H)) →
      Wrote (came done tt e) place v l entries cells → (go : Local H → Core H) (k : List (Frame H)) → done ≡ true →
      on_value place (λ p. go (put p v l)) k l ≡ go (seen_as entries cells l)
  wrote_on true e (Ok p) wrote go k is = ap go wrote
  wrote_on true e (Err x) wrote go k is = absurd wrote
  wrote_on false e place wrote go k is = cc

  pub wrote_not : (done : Bool) (e : Option (EvalAltResult H)) (place : Result Place (EvalAltResult H)) →
      Wrote (came done tt e) place v l entries cells → (go : Place → Core H) (k : List (Frame H)) → done ≡ false →
      is_out_of_memory (error_in e) ≡ false → on_value place go k l ≡ core (Fail (error_in e)) k l
  wrote_not true e place wrote go k is = cc
  wrote_not false e (Ok p) wrote go k is = absurd wrote
  wrote_not false e (Err x) wrote go k is = λ memory. ap (λ (y : EvalAltResult H). core (Fail y) k l) (sym (wrote memory))

  -- the number of a turn was written to its counter
  pub counter_written : (done : Bool) (e : Option (EvalAltResult H)) (counted : Option Ident) (counter : Ident) (loop : ForLoop)
      (turn base : ℕ) (go : Local H → Core H) (k : List (Frame H)) → counted ≡ Some counter → v ≡ integer_value (pos turn) →
      Wrote (came done tt e) (place_of_entry counter.name loop.variable.pos base l) v l entries cells → done ≡ true →
      counted_core counted loop turn base go k l ≡ go (seen_as entries cells l)
  counter_written done e counted counter loop turn base go k some number wrote well =
      rw (some, ← number) (wrote_on done e _ wrote go k well)

  -- or was not
  pub counter_not : (done : Bool) (e : Option (EvalAltResult H)) (counted : Option Ident) (counter : Ident) (loop : ForLoop)
      (turn base : ℕ) (go : Local H → Core H) (k : List (Frame H)) → counted ≡ Some counter → v ≡ integer_value (pos turn) →
      Wrote (came done tt e) (place_of_entry counter.name loop.variable.pos base l) v l entries cells → done ≡ false →
      is_out_of_memory (error_in e) ≡ false → counted_core counted loop turn base go k l ≡ core (Fail (error_in e)) k l
  counter_not done e counted counter loop turn base go k some number wrote failed memory =
      rw (some, ← number) (wrote_not done e _ wrote _ k failed memory)

  -- an item whose variable was not written
  pub item_not : (done : Bool) (e : Option (EvalAltResult H)) (loop : ForLoop) (item : Dynamic H) (rest : Turns H) (turn base index : ℕ)
      (k : List (Frame H)) → Ok v ≡ flat l.around.cells item (position_of loop.items) → index ≡ base + counters loop.counter →
      Wrote (came done tt e) (place_of_entry loop.variable.name loop.variable.pos index l) v l entries cells → done ≡ false →
      is_out_of_memory (error_in e) ≡ false → item_core loop item rest turn base k l ≡ core (Fail (error_in e)) k l
  item_not done e loop item rest turn base index k flattened there wrote =
      rw (← flattened) (wrote_not done e _ (rw there at wrote) _ k)

  -- an item whose variable was written
  pub item_written : (done : Bool) (e : Option (EvalAltResult H)) (loop : ForLoop) (item : Dynamic H) (rest : Turns H)
      (turn base index : ℕ) (k : List (Frame H)) → Ok v ≡ flat l.around.cells item (position_of loop.items) →
      index ≡ base + counters loop.counter →
      Wrote (came done tt e) (place_of_entry loop.variable.name loop.variable.pos index l) v l entries cells → done ≡ true →
      item_core loop item rest turn base k l
      ≡ core (Enter loop.body.statements true) (ForBody loop rest turn base ∷ k) (seen_as entries cells l)
  item_written done e loop item rest turn base index k flattened there wrote = rw (← flattened) (wrote_on done e _ (rw there at wrote)
      (λ m. core (Enter loop.body.statements true) (ForBody loop rest turn base ∷ k) m) k)

  pub same_seen : (done : Bool) → (done ≡ false → entries ≡ l.scope) → (done ≡ false → cells ≡ l.around.cells) → done ≡ false →
      seen_as entries cells l ≡ l
  same_seen done scope store not = rw (scope not, store not) refl

  -- the names stay
  pub names_kept : (done : Bool) (e : Option (EvalAltResult H)) (place : Result Place (EvalAltResult H)) →
      Wrote (came done tt e) place v l entries cells → (done ≡ false → entries ≡ l.scope) → map name_of entries ≡ map name_of l.scope
  names_kept true e (Ok p) wrote same =
      ap (λ (m : Local H). map name_of m.scope) (sym wrote) ∙ put_names p v l
  names_kept true e (Err x) wrote same = absurd wrote
  names_kept false e place wrote same = ap (λ (es : List (ScopeEntry H)). map name_of es) (same refl)

module _ {S H : Type 0} (rules : Rules S H) (loop : ForLoop) (item : Dynamic H) (rest : Turns H) (turn base : ℕ) (k : List (Frame H))
    (t : S) (count : ℕ) where
  abbrev state : Local H → State S H
  state l = record { table = t; count = count; local = l }

  turned : (stmts : List Stmt) (l : Local H) → stmts ≢ [] →
      for_move (Some (item, rest)) stmts loop turn base k l ≡ Go (turn_core (nat_le (2 ^ 63) turn) loop item rest turn base k l)
  turned [] l some = absurd (some refl)
  turned (stmt ∷ stmts) l some = refl

  module _ (left : Turns H) (l : Local H) (is : next_turn left ≡ Some (item, rest)) (some : loop.body.statements ≢ []) where
    -- a turn is counted, or is not
    pub counts : (m : Local H) →
        turn_core (nat_le (2 ^ 63) turn) loop item rest turn base k l ≡ core (ForItem loop item rest turn base) k m →
        Leads (machine rules) (cut rules) (at (ForTurn loop left turn base) k (state l)) (at (ForItem loop item rest turn base) k (state m))
    counts m counted = step_by rules _ _ (Go (core (ForItem loop item rest turn base) k m))
        (rw is (turned loop.body.statements l some ∙ ap Go counted)) here

    pub counts_not : (e : EvalAltResult H) →
        (is_out_of_memory e ≡ false → turn_core (nat_le (2 ^ 63) turn) loop item rest turn base k l ≡ core (Fail e) k l) →
        Leads (machine rules) (cut rules) (at (ForTurn loop left turn base) k (state l)) (at (Fail e) k (state l))
    counts_not e refused = or_runs_out rules (ForTurn loop left turn base) k (state l) e (λ m.
        step_by rules _ _ (Go (core (Fail e) k l)) (rw is (turned loop.body.statements l some ∙ ap Go (refused m))) here)

  -- its item stands in the variable, or does not
  pub enters : (done : Bool) (e : Option (EvalAltResult H)) (l m : Local H) →
      (done ≡ true → item_core loop item rest turn base k l
      ≡ core (Enter loop.body.statements true) (ForBody loop rest turn base ∷ k) m) →
      (done ≡ false → is_out_of_memory (error_in e) ≡ false → item_core loop item rest turn base k l ≡ core (Fail (error_in e)) k l) →
      (done ≡ false → m ≡ l) →
      Leads (machine rules) (cut rules) (at (ForItem loop item rest turn base) k (state l))
      (with_core (entered_at (came done tt e) loop rest turn base k m) (state m))
  enters true e l m entered refused same =
      step_by rules _ _ (Go (core (Enter loop.body.statements true) (ForBody loop rest turn base ∷ k) m)) (ap Go (entered refl)) here
  enters false e l m entered refused same = rw (same refl) (or_runs_out rules (ForItem loop item rest turn base) k (state l) (error_in e)
      (λ memory. step_by rules _ _ (Go (core (Fail (error_in e)) k l)) (ap Go (refused refl memory)) here))
