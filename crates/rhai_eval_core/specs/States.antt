-- What a run of the code is to the machine: what it reads of an evaluator and the table as its rules.
use Rattle.std.specs.Prelude.{ℕ, List}
use Rattle.rhai_errors.specs.Native.{Natives}
use Rattle.rhai_machine.specs.language.Setting.{Offer, Rules}
use Rattle.rhai_steps.specs.Sessions as session
use Rattle.rhai_eval_core.specs.declared.evaluator.Evaluator.{Evaluator}

module _ {H : Type 0} where
  -- what an evaluator offers a run: its switches and its modules
  abbrev pub offer_of : Evaluator H → Offer H
  offer_of evaluator = session.offer_of evaluator.session

  -- the rules of a run, by a host's type names, the session of an evaluator, and the natives of a table
  abbrev pub under : {S : Type 0} → (H → List ℕ) → Evaluator H → Natives S H → Rules S H
  under host evaluator natives = session.under host evaluator.session natives
