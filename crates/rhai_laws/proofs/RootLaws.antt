-- An assignment at a path, from the root of its chain, which is a variable or `this`, to its end.
use Rattle.std.proofs.Common.{◌≡◌, ◌⊎◌, ◌+◌, inl, inr, ℕ, Bool, true, false, List, [], ◌∷◌, Option, Some, None, Result}
use Rattle.std.proofs.Common.{refl, sym, ap, subst, ◌∙◌}
use Rattle.rhai_tree.specs.declared.expr.Expr.{out-Expr}
use Rattle.rhai_tree.specs.declared.expr.Expr.TheOpen as form
use Rattle.rhai_tree.specs.declared.expr.Namespace.{Namespace}
use Rattle.rhai_tree.specs.Layers.{ExprLayer}
use Rattle.rhai_values.specs.declared.base.value.AccessMode.TheVariants.{ReadWrite}
use Rattle.rhai_values.specs.Modes.{with_mode}
use Rattle.rhai_errors.specs.declared.error.EvalAltResult.TheVariants as error
use Rattle.rhai_state.specs.Scope.{value_in}
use Rattle.rhai_machine.specs.Types.{Dynamic, EvalAltResult, Position}
use Rattle.rhai_machine.specs.machine.Machine.{Move, Go, Charge}
use Rattle.rhai_machine.specs.machine.Point.{Point, Reaches, here, next, ◌⨾◌, moved, paid, after}
use Rattle.rhai_machine.specs.language.Setting.{Rules}
use Rattle.rhai_machine.specs.language.State.{State}
use Rattle.rhai_machine.specs.language.Values.{through, unit_value}
use Rattle.rhai_machine.specs.language.Variables.{Variable, variable_named}
use Rattle.rhai_machine.specs.language.Names.{bound_this, entry_named}
use Rattle.rhai_machine.specs.language.Places.{rebound}
use Rattle.rhai_machine.specs.language.Frames.{FromThis, NewValue, Chain, Frame, Core, core, on_value, ChainRoot, ReadRoot, Walk, Back}
use Rattle.rhai_machine.specs.language.Frames.{Changed}
use Rattle.rhai_machine.specs.language.Frames.{ChainEnd, Fail}
use Rattle.rhai_machine.specs.language.Members.{focused_on}
use Rattle.rhai_machine.specs.language.Chains.{root_move, this_begun, this_root_core}
use Rattle.rhai_machine.specs.language.Unwinding.{ended_chain}
use Rattle.rhai_machine.specs.language.Language.{machine, move}
use Rattle.rhai_machine.specs.language.Runs.{at}
use Rattle.rhai_laws.specs.Assigned.{AssignedFrom, AssignsFrom, AssignsFromRoot}
use Rattle.rhai_laws.specs.Selectors.{Selector, read}
use Rattle.rhai_laws.proofs.SelectorLemmas.{Writes}
use Rattle.rhai_laws.proofs.Assigning.{Ends, assigning, step_by, through_itself, walk_ends, working}
use Rattle.rhai_laws.proofs.AssignedLaws.{assigns_there, one_end, root_no_handle}

module _ {S H : Type 0} (rules : Rules S H) (allows : ℕ → Bool) where
  abbrev Comes : Point S (Core H) → Point S (Core H) → Type 0
  Comes p q = Reaches (machine rules) allows p q

  -- a run has no step or a first one
  first_step : {p q : Point S (Core H)} → Comes p q → (q ≡ p) ⊎ Comes (after (machine rules) allows p) q
  first_step here = inl refl
  first_step (next run) = inr run

  module _ (chain : Chain H) (mid : State S H) (x : Dynamic H) (end : State S H) where
    -- from the root to a value
    abbrev ToValue : Point S (Core H) → Type 0
    ToValue p = Comes p (at (Back x) [] end)

    abbrev root : Point S (Core H)
    root = at (ChainRoot chain) [] mid

    -- ---- the root's charge

    abbrev charged : Core H → Point S (Core H)
    charged d = record { core = d; table = mid.table; count = mid.count + 1 }

    let_through : (pos : Position) (d : Core H) (b : Bool) → ToValue (paid (machine rules) b pos d root) → ToValue (charged d)
    let_through pos d true steps = steps
    let_through pos d false steps =
        let same : at (Fail (error.ErrorTooManyOperations pos)) [] mid ≡ at (Back x) [] end =
        one_end (machine rules) allows here steps refl refl in
        let no : Fail (error.ErrorTooManyOperations pos) ≡ Back x = ap (λ (p : Point S (Core H)). p.core.control) same in cc

    passes : (pos : Position) (d : Core H) → move rules.setting root.core ≡ Charge pos d → ToValue root → ToValue (charged d)
    unfolding after
    passes pos d is steps = elim (first_step steps) [
      | inl e ↦ (let no : Back x ≡ ChainRoot chain = ap (λ (p : Point S (Core H)). p.core.control) e in cc)
      | inr rest ↦ let_through pos d (allows mid.count)
          (subst (λ (m : Move H (Core H)). ToValue (moved (machine rules) allows m root)) is rest)
    ]

    -- ---- a variable

    module _ (new : NewValue H) (path : List Selector) where
      abbrev w : Dynamic H
      w = with_mode ReadWrite new.value

      abbrev entry_value : (names : List (List ℕ)) → (name : List ℕ) → State S H → Option (Dynamic H)
      entry_value names name s = value_in s.local.scope (entry_named names name s.local.scope)

      from_variable : (offset : _) (name : List ℕ) (namespace : Namespace) (pos : Position) (names : List (List ℕ)) →
          namespace.path ≡ names → out-Expr chain.root ≡ form.Variable offset name namespace pos →
          AssignsFrom (form.Variable offset name namespace pos) chain new path mid → ToValue root →
          AssignedFrom (form.Variable offset name namespace pos) path w mid end
      from_variable offset name namespace pos [] plain is given steps =
          let variable : Variable = variable_named name namespace pos in
          let done = assigns_there rules allows variable chain new path (record mid { count = mid.count + 1 }) (record {
            root = given.value;
            unqualified = plain;
            there = ap (λ (names : List (List ℕ)). entry_value names name mid) (sym plain) ∙ given.there;
            assigns = given.assigns;
            plain = given.plain;
            leads = given.leads;
          }) x end (passes pos (core (ReadRoot variable chain) [] mid.local) (ap (λ f. root_move f chain [] mid.local) is) steps) in
          record {
            written = ap (λ (names : List (List ℕ)). read (entry_value names name end) path) plain ∙ done.written;
            stays = λ other parts. ap (λ (names : List (List ℕ)). read (entry_value names name end) other) plain ∙ done.stays other parts
                ∙ ap (λ (names : List (List ℕ)). read (entry_value names name mid) other) (sym plain);
            elsewhere = (done.entries, done.rest);
          }
      from_variable offset name namespace pos (first ∷ names) qualified is given steps =
          let no : None ≡ Some given.value = ap (λ (names : List (List ℕ)). entry_value names name mid) (sym qualified) ∙ given.there in cc

      -- ---- `this`

      module _ (pos : Position) (given : AssignsFrom (form.ThisPtr pos) chain new path mid) where
        abbrev ends : List (Frame H)
        ends = ChainEnd (Some FromThis) mid.local.focus ∷ []

        abbrev walked : Chain H
        walked = assigning rules allows chain.root new given.plain chain.rest chain.args true

        abbrev starts : Point S (Core H)
        starts = at (Walk walked) ends (working rules allows given.value (mid.count + 1) mid)

        begun_is : this_root_core pos chain [] mid.local ≡ starts.core
        begun_is = ap (λ (o : Option (Dynamic H)). on_value (bound_this pos o)
            (λ v. this_begun (through mid.local.around.cells v pos) v chain [] mid.local) [] mid.local) given.there
            ∙ ap (λ (r : Result (Dynamic H) (EvalAltResult H)). this_begun r given.value chain [] mid.local)
            (through_itself mid.local.around.cells given.value.value given.value pos (root_no_handle given.leads))
            ∙ ap (λ (o : Option (NewValue H)). core (Walk (record chain { new = o; in_place = true })) ends
            (focused_on (Some given.value) mid.local)) given.assigns

        begins : charged (this_root_core pos chain [] mid.local) ≡ starts
        begins = ap (λ (c : Core H). charged c) begun_is

        abbrev left : State S H → State S H
        left s = record s { local = ended_chain (Some FromThis) mid.local.focus s.local }

        fails_end : (e : EvalAltResult H) (s : State S H) → Comes (at (Fail e) ends s) (at (Fail e) [] (left s))
        fails_end e s = step_by rules allows _ _ (Go (core (Fail e) [] (left s).local)) refl here

        marked_ends : (whole : Dynamic H) (n : ℕ) → Comes (at (Changed unit_value) ends (working rules allows whole n mid))
            (at (Back unit_value) [] (left (working rules allows whole n mid)))
        marked_ends whole n =
            let s : State S H = working rules allows whole n mid in
            step_by rules allows _ _ (Go (core (Back unit_value) ends s.local)) refl
            (step_by rules allows (at (Back unit_value) ends s) _ (Go (core (Back unit_value) [] (left s).local)) refl here)

        this_is : (whole : Dynamic H) (n : ℕ) → (left (working rules allows whole n mid)).local.this ≡ Some whole
        this_is whole n = ap (λ (o : Option (Dynamic H)). rebound whole o) given.there

        assigned : (whole : Dynamic H) (n : ℕ) → Writes path w given.value whole →
            AssignedFrom (form.ThisPtr pos) path w mid (left (working rules allows whole n mid))
        assigned whole n writes = record {
          written = ap (λ o. read o path) (this_is whole n) ∙ writes.written;
          stays = λ other parts.
              ap (λ o. read o other) (this_is whole n) ∙ writes.stays other parts ∙ ap (λ o. read o other) (sym given.there);
          elsewhere = refl;
        }

        abbrev state_in : Point S (Core H) → State S H
        state_in p = record { table = p.table; count = p.count; local = p.core.local }

        concluded : ToValue starts → Ends rules allows starts ends mid path w given.value → AssignedFrom (form.ThisPtr pos) path w mid end
        concluded steps (inl fails) =
            let same : at (Fail fails.error) [] (left fails.state) ≡ at (Back x) [] end =
            one_end (machine rules) allows (fails.steps ⨾ fails_end fails.error fails.state) steps refl refl in
            let no : Fail fails.error ≡ Back x = ap (λ (p : Point S (Core H)). p.core.control) same in
            cc
        concluded steps (inr done) =
            let same : at (Back unit_value) [] (left (working rules allows done.whole done.count mid)) ≡ at (Back x) [] end =
            one_end (machine rules) allows (done.steps ⨾ marked_ends done.whole done.count) steps refl refl in
            subst (λ (end : State S H). AssignedFrom (form.ThisPtr pos) path w mid end) (ap state_in same)
            (assigned done.whole done.count done.writes)

        from_this : out-Expr chain.root ≡ form.ThisPtr pos → ToValue root → AssignedFrom (form.ThisPtr pos) path w mid end
        from_this is steps = concluded
            (subst (λ (p : Point S (Core H)). ToValue p) begins
            (passes pos (this_root_core pos chain [] mid.local) (ap (λ f. root_move f chain [] mid.local) is) steps))
            (walk_ends rules allows chain.root new given.plain given.leads true ends mid (mid.count + 1))

      from_root : (root : ExprLayer) → out-Expr chain.root ≡ root → AssignsFrom root chain new path mid →
          ToValue (at (ChainRoot chain) [] mid) →
          AssignedFrom root path w mid end
      from_root (form.Variable offset name namespace pos) is given steps =
          from_variable offset name namespace pos namespace.path refl is given steps
      from_root (form.ThisPtr pos) is given steps = from_this pos given is steps
      from_root root is given steps = let none = given.there in cc

module _ {S H : Type 0} (rules : Rules S H) where
  pub assigns_from_root : AssignsFromRoot rules
  assigns_from_root allows chain new path x mid end steps given =
      from_root rules allows chain mid x end new path (out-Expr chain.root) refl given steps
