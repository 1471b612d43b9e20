-- The variables of a caller behind a function that ran on them.
use Rattle.std.proofs.Common.{◌≡◌, ◌+◌, ◌++◌, ℕ, Bool, true, false, ◌&&◌, not, IsTrue, List, Option, Result, refl, sym, ap, ◌∙◌, subst}
use Rattle.std.proofs.Common.{drop, length, take}
use Rattle.rhai_tree.specs.declared.function.ScriptFuncDef.{ScriptFuncDef}
use Rattle.rhai_tree.specs.declared.position.Position.{Position}
use Rattle.rhai_values.specs.declared.base.value.Dynamic.{Dynamic}
use Rattle.rhai_values.specs.declared.base.value.EncapsulatedEnviron.{EncapsulatedEnviron}
use Rattle.rhai_errors.specs.declared.error.EvalAltResult.{EvalAltResult}
use Rattle.rhai_state.specs.declared.scope.Scope.{Scope}
use Rattle.rhai_state.specs.declared.scope.ScopeEntry.{ScopeEntry}
use Rattle.rhai_state.specs.Scope.{entries_of}
use Rattle.rhai_machine.specs.language.Setting.{Rules}
use Rattle.rhai_machine.specs.language.Activations.{OwnThis}
use Rattle.rhai_machine.specs.language.Bodies.{variables_after, variables_back}
use Rattle.rhai_machine.specs.language.Frames.{EnterFunction}
use Rattle.rhai_machine.specs.language.Runs.{Runs}
use Rattle.rhai_context.specs.declared.Context.{Context}
use Rattle.rhai_eval_steps.specs.Bodies.{behind_call, entered}
use Rattle.rhai_eval_steps.specs.States.{state_in}

-- what is left of the variables is what the machine takes back
pub left_variables : {H : Type 0} (restores : Bool) (scope : List (ScopeEntry H)) (n m : ℕ) (entries left : List (ScopeEntry H)) →
    n ≡ length scope → (restores ≡ true → left ≡ take n entries) →
    (restores ≡ false → left ≡ take n entries ++ drop (n + m) entries) →
    left ≡ variables_back (variables_after false restores scope m) entries
left_variables true scope n m entries left is all some = all refl ∙ ap (λ (k : ℕ). take k entries) is
left_variables false scope n m entries left is all some = some refl ∙ ap (λ (k : ℕ). take k entries ++ drop (k + m) entries) is

-- where its list restores it leaves none behind
pub adds_none : (restores : Bool) → IsTrue restores → (not restores && not false) ≡ false
adds_none restores restoring = rw restoring refl

-- a function on its caller's variables, of which these are left
pub runs_left : {S H : Type 0} (rules : Rules S H) (def : ScriptFuncDef) (environ : Option (EncapsulatedEnviron H)) (restores : Bool)
    (args : List (Dynamic H)) (at : Position) (t u : S) (old middle : Context H) (left : Scope H)
    (r : Result (Dynamic H) (EvalAltResult H)) →
    entries_of left
    ≡ variables_back (variables_after false restores (entries_of old.scope) (length def.params)) (entries_of middle.scope) →
    Runs rules (EnterFunction (entered def environ OwnThis false restores args old.global.level at)) (state_in t old) r
    (behind_call (entered def environ OwnThis false restores args old.global.level at) (state_in t old).local (state_in u middle)) →
    Runs rules (EnterFunction (entered def environ OwnThis false restores args old.global.level at)) (state_in t old) r
    (state_in u (record middle { scope = left }))
runs_left rules def environ restores args at t u old middle left r is runs =
    subst (λ (entries : List (ScopeEntry _)). Runs rules (EnterFunction (entered def environ OwnThis false restores args
    old.global.level at))
    (state_in t old) r (record (state_in u middle) { local = record (state_in u middle).local { scope = entries } })) (sym is) runs
