-- The indexer's call, as following an index tells it, is what the machine comes to.
use Rattle.std.proofs.Common.{refl, ap, subst, arith}
use Rattle.std.proofs.lemmas.Bool.Decides.{nat_tests}
use Rattle.std.specs.Prelude.{◌≡◌, ◌<◌, ◌≤◌, ◌+◌, nat_lt, Bool, true, false, List, [], ◌∷◌, Option, Some, Result, Ok, codes}
use Rattle.rhai_tree.specs.declared.position.Position.{Position}
use Rattle.rhai_values.specs.declared.base.value.Dynamic.{Dynamic}
use Rattle.rhai_values.specs.declared.base.value.Union.{Union}
use Rattle.rhai_values.specs.declared.base.value.Union.TheVariants as value
use Rattle.rhai_values.specs.Cells.{IsNoHandle}
use Rattle.rhai_errors.specs.declared.error.EvalAltResult.{EvalAltResult}
use Rattle.rhai_errors.specs.declared.error.EvalAltResult.TheVariants as error
use Rattle.rhai_errors.specs.Native.{Effect, KeepsFirst, Lawful, Reply, Missing, Gives, Faults}
use Rattle.rhai_machine.specs.machine.Point.{Point, Reaches, here, next, after, moved, paid}
use Rattle.rhai_machine.specs.language.Setting.{Rules, cut, limit_under}
use Rattle.rhai_machine.specs.language.State.{State}
use Rattle.rhai_machine.specs.language.Values.{Cells}
use Rattle.rhai_machine.specs.language.Places.{InFocus, is_barred}
use Rattle.rhai_machine.specs.language.Frames.{Operation, FromFocus, Call, Frame, Core, core, ended, Ask, Question, Fire, Fail}
use Rattle.rhai_machine.specs.language.Calls.{First, barred_call, first_in, fire_first, first_of, put_left, question_first, replied}
use Rattle.rhai_machine.specs.language.Members.{get_item}
use Rattle.rhai_machine.specs.language.Language.{machine}
use Rattle.rhai_machine.specs.language.Runs.{at, with_core}
use Rattle.rhai_index.specs.Indexers.{call_effect, indexer_request, indexer_result, is_pure_for, read_call}
use Rattle.rhai_twins_eval.specs.AskedIndexer.{IndexerIsAsked}

module _ {H : Type 0} where
  -- the native gets a focus that is no handle as it is
  first_flat : (cells : Cells H) (operation : Operation) (u : Union H) (v : Dynamic H) → IsNoHandle u →
      first_in cells operation (Some FromFocus) u v ≡ Ok (record { from = Some InFocus; value = v })
  first_flat cells operation (value.Cell id) v flat = absurd flat
  first_flat cells operation _ v flat = refl

module _ {S H : Type 0} (rules : Rules S H) (lawful : Lawful rules.setting.host_type rules.natives) (pos : Position)
    (object index : Dynamic H) (old : State S H) (flat : IsNoHandle object.value) (focus : old.local.focus ≡ Some object)
    (k : List (Frame H)) where
  abbrev call : Call H
  call = get_item pos object index

  abbrev cells : Cells H
  cells = old.local.around.cells

  abbrev Goes : Point S (Core H) → Point S (Core H) → Type 0
  Goes = Reaches (machine rules) (cut rules)

  -- what is told of the call, where the focus is kept from it or not
  abbrev effect_by : (barred : Bool) → Effect S H
  effect_by barred = call_effect rules.natives cells pos barred old.table (codes "index$get$") object (index ∷ [])

  abbrev result_by : (barred : Bool) → Result (Dynamic H) (EvalAltResult H)
  result_by barred = indexer_result rules.setting.limits rules.setting.host_type cells object index pos (effect_by barred).reply

  abbrev state_by : (barred : Bool) → State S H
  state_by barred = record old {
    table = (effect_by barred).state;
    count = old.count + 1;
    local = put_left (Some InFocus) (effect_by barred).first old.local;
  }

  -- the state behind the charge
  abbrev charged : State S H
  charged = record old { count = old.count + 1 }

  -- what comes of a reply is one
  replies : (reply : Reply H) (left : Option (Dynamic H)) → KeepsFirst reply (Some object) left →
      replied rules.setting.limits rules.setting.host_type reply left (index ∷ []) call.operation false
      (put_left (Some InFocus) left old.local).around.cells
      ≡ indexer_result rules.setting.limits rules.setting.host_type cells object index pos reply
  replies (Gives v) left keeps = refl
  replies (Faults e) left keeps = refl
  replies Missing left keeps = rw keeps

  first_is : first_of cells call object ≡ Ok (record { from = Some InFocus; value = object })
  first_is = first_flat cells call.operation object.value object flat

  -- the native is called
  fired : (first : Result (First H) (EvalAltResult H)) → first ≡ Ok (record { from = Some InFocus; value = object }) →
      Goes (moved (machine rules) (cut rules) (fire_first rules.setting call (index ∷ []) first k old.local) (at (Fire call) k charged))
      (at (ended (result_by false)) k (state_by false))
  fired first is =
      let told : Effect S H = effect_by false in
      let keeps = (lawful old.table (indexer_request cells (codes "index$get$") object (index ∷ []) pos) flat).missing_keeps in
      let end : Result (Dynamic H) (EvalAltResult H) → Type 0 = λ r. Goes
      (moved (machine rules) (cut rules) (fire_first rules.setting call (index ∷ [])
      (Ok (record { from = Some InFocus; value = object })) k old.local) (at (Fire call) k charged)) (at (ended r) k (state_by false)) in
      rw is (subst end (replies told.reply told.first keeps) here)

  -- the focus is kept from it, or it is called
  barred_or_fired : (barred pure : Bool) → Goes (with_core (barred_call rules.setting barred pure call k old.local) charged)
      (at (ended (result_by barred)) k (state_by barred))
  unfolding after
  barred_or_fired true pure =
      let same : old.local ≡ record old.local { focus = Some object } = ap (λ f. record old.local { focus = f }) focus in
      subst (λ l. Goes (with_core (barred_call rules.setting true pure call k old.local) charged)
      (at (ended (result_by true)) k (record charged { local = l }))) same here
  barred_or_fired false pure = next (fired (first_of cells call object) first_is)

  -- whether the native is pure on this focus, and whether the focus is kept from it
  abbrev pure_there : Bool
  pure_there = is_pure_for rules.natives rules.setting.host_type cells old.table (read_call index pos) object

  abbrev barred_there : Bool
  barred_there = is_barred pure_there object

  questioned : (first : Result (First H) (EvalAltResult H)) → first ≡ Ok (record { from = Some InFocus; value = object }) →
      Goes (moved (machine rules) (cut rules) (question_first rules.setting call (index ∷ []) first k old.local)
      (at (Question call) k charged)) (at (ended (result_by barred_there)) k (state_by barred_there))
  questioned first is = rw is (barred_or_fired barred_there pure_there)

  paid_on : (b : Bool) → b ≡ true → (q : Point S (Core H)) → Goes (at (Question call) k charged) q →
      Goes (paid (machine rules) b pos (core (Question call) k old.local) (at (Ask call) k old)) q
  paid_on b is q go = rw is go

  refused_on : (b : Bool) → b ≡ false →
      Goes (paid (machine rules) b pos (core (Question call) k old.local) (at (Ask call) k old))
      (at (Fail (error.ErrorTooManyOperations pos)) k old)
  refused_on b is = rw is here

  asked_refused : limit_under rules ≤ old.count → Goes (at (Ask call) k old) (at (Fail (error.ErrorTooManyOperations pos)) k old)
  unfolding after
  asked_refused full =
      let is : nat_lt old.count (limit_under rules) ≡ false = grind (arith, nat_tests) in next (refused_on (cut rules old.count) is)

  asked_called : old.count < limit_under rules →
      Goes (at (Ask call) k old) (at (ended (result_by barred_there)) k (state_by barred_there))
  unfolding after
  asked_called below =
      let is : nat_lt old.count (limit_under rules) ≡ true = grind (arith, nat_tests) in
      next (paid_on (cut rules old.count) is _ (next (questioned (first_of cells call object) first_is)))

pub indexer_is_asked : {S H : Type 0} (rules : Rules S H) → Lawful rules.setting.host_type rules.natives → IndexerIsAsked rules
indexer_is_asked rules lawful pos object index old flat focus = record {
  refused = λ k full. asked_refused rules lawful pos object index old flat focus k full;
  called = λ k below. asked_called rules lawful pos object index old flat focus k below;
}
