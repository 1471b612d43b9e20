-- How a part of an `&&`, an `||` or a `??` leads on.
use Rattle.std.proofs.Common.{◌≡◌, Bool, true, false, not, if◌then◌else◌, List, [], ◌∷◌, Result, Ok, Err, refl, sym, ap}
use Rattle.rhai_tree.specs.declared.position.Position.{Position}
use Rattle.rhai_tree.specs.declared.expr.Expr.{Expr}
use Rattle.rhai_tree.specs.declared.expr.Expr.TheOpen as layer
use Rattle.rhai_tree.specs.Positions.{position_of}
use Rattle.rhai_values.specs.declared.base.value.Dynamic.{Dynamic}
use Rattle.rhai_values.specs.declared.base.value.Union.{Union}
use Rattle.rhai_values.specs.declared.base.value.Union.TheVariants as value
use Rattle.rhai_errors.specs.declared.error.EvalAltResult.{EvalAltResult}
use Rattle.rhai_machine.specs.machine.Machine.{Go}
use Rattle.rhai_machine.specs.machine.Point.{after}
use Rattle.rhai_machine.specs.machine.Memory.{here, next, Leads}
use Rattle.rhai_machine.specs.language.Setting.{Rules, cut}
use Rattle.rhai_machine.specs.language.State.{State, Local}
use Rattle.rhai_machine.specs.language.Values.{bool_value, through}
use Rattle.rhai_machine.specs.language.Frames.{Frame, Core, core, Back, Fail, OpenExpr, AndPart, OrPart, CoalescePart}
use Rattle.rhai_machine.specs.language.Expressions.{and_core, or_core, coalesce_core, coalesce_seen, coalesce_next}
use Rattle.rhai_machine.specs.language.Runs.{at, with_core, Goes}
use Rattle.rhai_machine.specs.language.Language.{machine}
use Rattle.rhai_operands.specs.Tests.{Tests}
use Rattle.rhai_steps.specs.Values.{is_unit_union, unit_seen}
use Rattle.rhai_errors.specs.Errors.{is_out_of_memory}
use Rattle.rhai_eval_steps.proofs.Chain.{fails_on}
use Rattle.rhai_steps.proofs.Pieces.{step_by}

module _ {H : Type 0} (v : Dynamic H) (parts : List Expr) (k : List (Frame H)) (l : Local H) where
  unit_on : (u : Union H) → is_unit_union u ≡ true → coalesce_seen u v parts k l ≡ coalesce_core v parts k l
  unit_on value.Unit is = refl
  unit_on _ is = cc

  other_ends : (u : Union H) → is_unit_union u ≡ false → coalesce_seen u v parts k l ≡ core (Back v) k l
  other_ends value.Unit is = cc
  other_ends _ is = refl

  seen_on : (seen : Result (Dynamic H) (EvalAltResult H)) → Ok true ≡ unit_seen seen →
      coalesce_next seen v parts k l ≡ coalesce_core v parts k l
  seen_on (Ok x) is = unit_on x.value cc
  seen_on (Err e) is = cc

  seen_ends : (seen : Result (Dynamic H) (EvalAltResult H)) → Ok false ≡ unit_seen seen → coalesce_next seen v parts k l ≡ core (Back v) k l
  seen_ends (Ok x) is = other_ends x.value cc
  seen_ends (Err e) is = cc

  seen_fails : (seen : Result (Dynamic H) (EvalAltResult H)) (e : EvalAltResult H) → Err e ≡ unit_seen seen →
      coalesce_next seen v parts k l ≡ core (Fail e) k l
  seen_fails (Ok x) e is = cc
  seen_fails (Err y) e is = let same : e ≡ y = cc in ap (λ (x : EvalAltResult H). core (Fail x) k l) (sym same)

module _ {S H : Type 0} (rules : Rules S H)
    (v : Dynamic H) (pos : Position) (parts : List Expr) (k : List (Frame H)) (l : State S H) where
  -- a `()` leads to the next part
  pub coalesce_on : Ok true ≡ unit_seen (through l.local.around.cells v pos) →
      Leads (machine rules) (cut rules) (at (Back v) (CoalescePart pos parts ∷ k) l) (with_core (coalesce_core v parts k l.local) l)
  coalesce_on is = step_by rules _ _ _ (ap Go (seen_on v parts k l.local _ is)) here

  -- any other value comes up
  pub coalesce_ends : Ok false ≡ unit_seen (through l.local.around.cells v pos) →
      Leads (machine rules) (cut rules) (at (Back v) (CoalescePart pos parts ∷ k) l) (at (Back v) k l)
  coalesce_ends is = step_by rules _ _ _ (ap Go (seen_ends v parts k l.local _ is)) here

  -- a held cell is a race
  pub coalesce_fails : (e : EvalAltResult H) → (is_out_of_memory e ≡ false → Err e ≡ unit_seen (through l.local.around.cells v pos)) →
      Leads (machine rules) (cut rules) (at (Back v) (CoalescePart pos parts ∷ k) l) (at (Fail e) k l)
  coalesce_fails e is = fails_on rules v (CoalescePart pos parts) k l e (λ x. refl) (λ m. seen_fails v parts k l.local _ e (is m))

module _ {H : Type 0} where
  -- the parts of an `||` or an `&&`, by the truth value that stops it
  abbrev pub until_core : Bool → List Expr → List (Frame H) → Local H → Core H
  until_core true parts k l = or_core parts k l
  until_core false parts k l = and_core parts k l

  pub until_ends : (stop : Bool) (k : List (Frame H)) (l : Local H) → until_core stop [] k l ≡ core (Back (bool_value (not stop))) k l
  until_ends true k l = refl
  until_ends false k l = refl

module _ {S H : Type 0} (rules : Rules S H) where
  pub until_opens : (stop : Bool) (parts : List Expr) (pos : Position) (k : List (Frame H)) (l : State S H) →
      Leads (machine rules) (cut rules) (at (OpenExpr (if stop then layer.Or parts pos else layer.And parts pos)) k l) (with_core
      (until_core stop parts k l.local) l)
  unfolding after
  until_opens true parts pos k l = next here
  until_opens false parts pos k l = next here

  -- a part leads to the next, or stops, or fails
  pub until_on : (stop : Bool) (part : Expr) (parts : List Expr) (k : List (Frame H)) (old new : State S H) (holds : Bool) →
      Tests rules part old (Ok holds) new → holds ≡ not stop →
      Leads (machine rules) (cut rules) (with_core (until_core stop (part ∷ parts) k old.local) old)
      (with_core (until_core stop parts k new.local) new)
  unfolding Tests Goes
  until_on true part parts k old new holds tests is = (rw is at tests) (OrPart (position_of part) parts) refl k
  until_on false part parts k old new holds tests is = (rw is at tests) (AndPart (position_of part) parts) refl k

  pub until_stops : (stop : Bool) (part : Expr) (parts : List Expr) (k : List (Frame H)) (old new : State S H) (holds : Bool) →
      Tests rules part old (Ok holds) new → holds ≡ stop →
      Leads (machine rules) (cut rules) (with_core (until_core stop (part ∷ parts) k old.local) old) (at (Back (bool_value stop)) k new)
  unfolding Tests Goes
  until_stops true part parts k old new holds tests is = (rw is at tests) (OrPart (position_of part) parts) refl k
  until_stops false part parts k old new holds tests is = (rw is at tests) (AndPart (position_of part) parts) refl k

  pub until_fails : (stop : Bool) (part : Expr) (parts : List Expr) (k : List (Frame H)) (old new : State S H) (e : EvalAltResult H) →
      Tests rules part old (Err e) new →
      Leads (machine rules) (cut rules) (with_core (until_core stop (part ∷ parts) k old.local) old) (at (Fail e) k new)
  unfolding Tests Goes
  until_fails true part parts k old new e tests = tests (OrPart (position_of part) parts) refl k
  until_fails false part parts k old new e tests = tests (AndPart (position_of part) parts) refl k
