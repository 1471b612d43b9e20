-- The steps of shared variables.
use Rattle.std.proofs.Common.{◌≡◌, ◌<◌, ◌≤◌, ◌+◌, ◌∷◌, ℕ, zero, suc, [], true, false, List, Option, Some, None, add-one, ap, arith}
use Rattle.std.proofs.Common.{drop, drop-cons, get_or, length, refl, subst, sym, ◌∙◌, IsTrue}
use Rattle.std.proofs.lemmas.Bool.{true≢false}
use Rattle.std.proofs.lemmas.List as Lemmas
use Rattle.std.specs.Prelude.{slice_get}
use Rattle.rhai_tree.specs.declared.expr.SharedVariable.{SharedVariable}
use Rattle.rhai_tree.specs.Frame.{shared_resolve}
use Rattle.rhai_tree.specs.Names.{Name, is_good}
use Rattle.rhai_tree.proofs.Statements.{shared_at}
use Rattle.rhai_values.specs.declared.base.value.Dynamic.{Dynamic}
use Rattle.rhai_errors.specs.declared.error.EvalAltResult.{EvalAltResult}
use Rattle.rhai_errors.specs.declared.error.EvalAltResult.TheVariants as error
use Rattle.rhai_state.specs.declared.scope.Scope.{Scope}
use Rattle.rhai_lookups.specs.declared.run.RunState.{RunState}
use Rattle.rhai_errors.specs.Errors.{is_out_of_memory}
use Rattle.rhai_state.specs.Scope.{index_of, value_in}
use Rattle.rhai_machine.specs.machine.Machine.{Go}
use Rattle.rhai_machine.specs.machine.Point.{after}
use Rattle.rhai_machine.specs.machine.Memory.{here, next, Leads}
use Rattle.rhai_machine.specs.language.Frames.{Back, Fail, Frame, core}
use Rattle.rhai_machine.specs.language.Frames.{Share}
use Rattle.rhai_machine.specs.language.Runs.{at}
use Rattle.rhai_machine.specs.language.Setting.{Rules, cut}
use Rattle.rhai_machine.specs.language.Sharing.{shared}
use Rattle.rhai_machine.specs.language.State.{Held, Local, State}
use Rattle.rhai_machine.specs.language.Values.{unit_value}
use Rattle.rhai_machine.specs.language.Language.{machine}
use Rattle.rhai_steps.specs.Agreement.{Agrees, Sight, variable_is_good}
use Rattle.rhai_steps.specs.States.{local_of, state_of}
use Rattle.rhai_steps.proofs.Agreeing.{brings, same}
use Rattle.rhai_steps.proofs.Pieces.{or_runs_out, step_by}

pub drop_item : {A : Type 0} (xs : List A) (i : ℕ) (x : A) → i < length xs → x ≡ get_or xs i x → drop i xs ≡ x ∷ drop (i + 1) xs
drop_item xs i x h e = rw (add-one, drop-cons xs i x h, ← e) refl

pub drop_all : {A : Type 0} (xs : List A) (i : ℕ) → length xs ≤ i → drop i xs ≡ []
drop_all xs i h = Lemmas.drop_all i xs h

pub item_there : {A : Type 0} (xs : List A) (i : ℕ) → i < length xs → (x : A) × (slice_get xs i ≡ Some x)
item_there [] i lt = absurd (omega arith)
item_there (x ∷ xs) zero lt = (x, refl)
item_there (x ∷ xs) (suc i) lt = item_there xs i (omega arith)

pub is_none : {A : Type 0} (o : Option A) → ((x : A) → o ≡ Some x → ⊥) → o ≡ None
is_none None not = refl
is_none (Some x) not = absurd (not x refl)

-- the offset of a variable that is shared is good, where those before it left the frame as it was
pub shared_agrees : {sight was : Sight} {names known : List Name} (variables : List SharedVariable) (i : ℕ) (variable : SharedVariable) →
    sight ≡ was → names ≡ known → i < length variables → variable ≡ get_or variables i variable →
    Agrees was known (shared_resolve variables) → Agrees sight names (variable_is_good variable.offset variable.ident.name [])
shared_agrees variables i variable sight names lt is h =
    same sight names (brings (λ frame good. subst (λ (v : SharedVariable). IsTrue (is_good v.offset v.ident.name frame.names)) (sym is)
    (shared_at variables i variable frame lt good)) h)

-- what becomes of a state of which a part writes its variables and cells alone
pub left_so : {S H : Type 0} (t : S) (old new : RunState H) (before behind : Scope H) (held : Held H) (m : Local H) →
    new ≡ record old { cells = new.cells } → local_of new behind held ≡ m →
    state_of t new behind held ≡ record (state_of t old before held) { local = m }
left_so {H = H} t old new before behind held m rest is =
    rw (is, ap (λ (global : RunState H). global.num_operations) rest) refl

module _ {S H : Type 0} (rules : Rules S H) (k : List (Frame H)) where
  pub shares_none : (l : State S H) → Leads (machine rules) (cut rules) (at (Share []) k l) (at (Back unit_value) k l)
  unfolding after
  shares_none l = next here

  module _ (variable : SharedVariable) (rest : List SharedVariable) (l : State S H) where
    -- a variable that is there
    pub shares_one : (index : ℕ) (v : Dynamic H) (new : State S H) → index_of variable.ident.name l.local.scope ≡ Some index →
        value_in l.local.scope (Some index) ≡ Some v → new ≡ record l { local = shared index v.value v l.local } →
        Leads (machine rules) (cut rules) (at (Share (variable ∷ rest)) k l) (at (Share rest) k new)
    shares_one index v new is there same = step_by rules _ _ (Go (core (Share rest) k (shared index v.value v l.local)))
        (rw (is, there) refl) (rw same here)

    -- one that is not
    pub shares_not : (e : EvalAltResult H) → index_of variable.ident.name l.local.scope ≡ None →
        (is_out_of_memory e ≡ false → e ≡ error.ErrorVariableNotFound variable.ident.name variable.ident.pos) →
        Leads (machine rules) (cut rules) (at (Share (variable ∷ rest)) k l) (at (Fail e) k l)
    shares_not e is told = or_runs_out rules (Share (variable ∷ rest)) k l e (λ m.
        step_by rules _ _ (Go (core (Fail e) k l.local)) (rw (is, told m) refl) here)

    -- no memory for its cell
    pub shares_without_memory : (e : EvalAltResult H) → is_out_of_memory e ≡ true →
        Leads (machine rules) (cut rules) (at (Share (variable ∷ rest)) k l) (at (Fail e) k l)
    shares_without_memory e is_out = or_runs_out rules (Share (variable ∷ rest)) k l e (λ m. absurd (true≢false (sym is_out ∙ m)))
