-- A whole chain: what its run may rely on, and what an assignment without an operator leaves.
use Rattle.std.proofs.Common.{◌≡◌, Bool, true, false, IsTrue, [], Option, Some, None, Result, Ok, Err, refl, sym, ap, subst}
use Rattle.std.specs.Prelude.{IfSome, OnOk, unwrap_or}
use Rattle.rhai_tree.specs.declared.expr.Expr.{Expr, out-Expr}
use Rattle.rhai_tree.specs.Layers.{ExprLayer}
use Rattle.rhai_tree.specs.Frame.{resolves_expr}
use Rattle.rhai_tree.specs.Names.{Frame}
use Rattle.rhai_values.specs.declared.base.value.Dynamic.{Dynamic}
use Rattle.rhai_errors.specs.declared.error.EvalAltResult.{EvalAltResult}
use Rattle.rhai_machine.specs.machine.Point.{Reaches}
use Rattle.rhai_machine.specs.language.Setting.{Rules, cut}
use Rattle.rhai_machine.specs.language.State.{State}
use Rattle.rhai_machine.specs.language.Frames.{ChainRoot, NewValue, OpenChain, chain_on}
use Rattle.rhai_machine.specs.language.Language.{machine}
use Rattle.rhai_machine.specs.language.Memory.{IsOutOfMemory}
use Rattle.rhai_machine.specs.language.Links.{first_in}
use Rattle.rhai_machine.specs.language.Runs.{at, Runs, Goes}
use Rattle.rhai_laws.proofs.AssignedLaws.{goes_on}
use Rattle.rhai_laws.proofs.MemoryLaws.{straight}
use Rattle.rhai_laws.proofs.RootLaws.{assigns_from_root}
use Rattle.rhai_laws.proofs.ScriptMemory.{memory_unwinds, with_memory}
use Rattle.rhai_eval_steps.specs.Chains.{AsksFirst, MayWalk, StartsFrom, behind_resolves}
use Rattle.rhai_eval_steps.proofs.ChainLemmas.{may_walk, root_resolves, target_parts}
use Rattle.rhai_eval.specs.Chains.{AssignsAlong, chain_of, chain_resolves, chain_with, whole_chain}

-- what the run of a chain relies on
pub record MayRun (assigned : Bool) (root : Expr) (form : ExprLayer) (frame : Frame) : Type 0 where
  pub root_runs : IsTrue (resolves_expr root frame)
  pub behind_runs : IsTrue (behind_resolves form frame)
  pub walks : MayWalk assigned form
  pub starts : StartsFrom assigned (out-Expr root)

-- a whole chain of a checked tree has it
pub chain_may_run : (assigned : Bool) (e root : Expr) (frame : Frame) → first_in (out-Expr e) ≡ Some root →
    IsTrue (chain_resolves assigned e frame) → MayRun assigned root (out-Expr e) frame
chain_may_run true e root frame is h =
    let parts = target_parts e root frame is h in
    record {
      root_runs = parts.root_runs;
      behind_runs = parts.behind_runs;
      walks = may_walk true frame (out-Expr e) parts.behind_runs parts.ends;
      starts = parts.starts;
    }
chain_may_run false e root frame is h =
    let parts = root_resolves e root frame is h in
    record {
      root_runs = parts.0;
      behind_runs = parts.1;
      walks = may_walk false frame (out-Expr e) parts.1 tt;
      starts = tt;
    }

module _ {S H : Type 0} (rules : Rules S H) where
  -- a run over the chain's root is one of the whole chain
  pub over_root : (e root : Expr) (code given : Option (NewValue H)) (old : State S H) (r : Result (Dynamic H) (EvalAltResult H))
      (new : State S H) → first_in (out-Expr e) ≡ Some root → code ≡ given →
      Runs rules (OpenChain (chain_on root (out-Expr e) code)) old r new → Runs rules (whole_chain e given) old r new
  over_root e root code given old r new starts same runs =
      subst (λ (x : Expr). Runs rules (OpenChain (chain_on x (out-Expr e) given)) old r new)
      (sym (ap (λ (o : Option Expr). unwrap_or o e) starts))
      (subst (λ (n : Option (NewValue H)). Runs rules (OpenChain (chain_on root (out-Expr e) n)) old r new) same runs)

  -- and so is what its links ask for first
  pub asks_over_root : {A : Type 0} (e root : Expr) (code given : Option (NewValue H)) (old : State S H) (r : Result A (EvalAltResult H)) →
      first_in (out-Expr e) ≡ Some root → code ≡ given → OnOk r (AsksFirst rules (chain_on root (out-Expr e) code) old) →
      OnOk r (AsksFirst rules (chain_of e given) old)
  asks_over_root e root code given old r starts same asks =
      subst (λ (x : Expr). OnOk r (AsksFirst rules (chain_on x (out-Expr e) given) old)) (sym
      (ap (λ (o : Option Expr). unwrap_or o e) starts))
      (subst (λ (n : Option (NewValue H)). OnOk r (AsksFirst rules (chain_on root (out-Expr e) n) old)) same asks)

  -- what is assigned to a chain without an operator stands where the chain led, by the law of such runs
  pub chain_assigns : (e : Expr) (given : Option (NewValue H)) (old new : State S H) (r : Result (Dynamic H) (EvalAltResult H)) →
      Runs rules (whole_chain e given) old r new → OnOk r (AsksFirst rules (chain_of e given) old) →
      OnOk r (IfSome given (λ n. AssignsAlong rules e n old new))
  unfolding Goes
  chain_assigns e (Some n) old new (Ok v) runs asks =
      let comes : Reaches (machine rules) (cut rules) (at (whole_chain e (Some n)) [] old)
      (at (ChainRoot (chain_with e n asks.0)) [] asks.1) =
      straight (machine rules) (cut rules) IsOutOfMemory (memory_unwinds rules) asks.2 (λ is. (let no = is.1 in cc)) in
      let goes = goes_on (machine rules) (cut rules) comes (with_memory rules (Ok v) new tt (runs [])) refl in
      (asks.0, asks.1, (comes, λ path given. assigns_from_root rules (cut rules) (chain_with e n asks.0) n path v asks.1 new goes given))
  chain_assigns e None old new (Ok v) runs asks = tt
  chain_assigns e given old new (Err x) runs asks = tt
